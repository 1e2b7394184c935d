use Rattle.std.proofs.Common.{◌≤◌, ◌-◌, length}
use Rattle.smf_grammar.specs.Chunks.{most_bytes}
use Rattle.smf_mend.specs.Tallies.{IsBelow}
use Rattle.smf_mend.proofs.GrownFile.{ChunksWritten}
use Rattle.smf_mend.proofs.soft_tracks.mend_tracks.Given as goal

abbrev pub invariant-chunks : goal.invariant-chunks
invariant-chunks l = record {
  written : ChunksWritten (length l.bytes) l.after l.left l.done l.initial.tally l.tally l.initial.out l.out;
  within : length l.left ≤ length l.bytes;
  few : l.done ≤ l.count;
  below : IsBelow l.tally (length l.bytes - length l.left);
  room : length l.out.bytes.items ≤ most_bytes;
}

abbrev pub decreases-chunks : goal.decreases-chunks
decreases-chunks l = length l.left
