use Rattle.std.proofs.Common.{rules}
use Rattle.std.proofs.lemmas.List.{get_or-replicate}
use Rattle.seq_session.proofs.log.entries_heard.Goals as goal

pub loop-entry-init : goal.loop-entry-init
loop-entry-init c = record {
  so_far = λ j h. get_or-replicate 64 j 0 0 h;
  space = search rules;
}
