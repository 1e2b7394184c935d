use Rattle.smf_files.proofs.Chunks.{nows}
use Rattle.smf_files.proofs.Beginning.{TakenUp}
use Rattle.smf_files.proofs.cursor.first_heads.Given as goal

abbrev pub invariant-loop-i : goal.invariant-loop-i
invariant-loop-i l = record {
  taken : TakenUp (nows l.contents) l.i l.heads.items;
}
