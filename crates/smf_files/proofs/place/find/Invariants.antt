use Rattle.std.proofs.Common.{◌≡◌, ◌≤◌, ◌+◌, ◌*◌, ◌^◌, length}
use Rattle.std.specs.Prelude.{IsTrue}
use Rattle.smf_grammar.specs.Contents.{events_from}
use Rattle.smf_grammar.specs.Seen.{IsRunning}
use Rattle.smf_files.specs.Playing.{rest_of, is_whole}
use Rattle.smf_files.proofs.Suffixes.{IsRest}
use Rattle.smf_files.proofs.place.find.Given as goal

abbrev pub invariant-pairs : goal.invariant-pairs
invariant-pairs l = record {
  events : events_from l.tick (rest_of l.running l.left) ≡ events_from l.initial.tick (rest_of l.initial.running l.initial.left);
  rest : IsRest l.left l.initial.left;
  whole : IsTrue (is_whole l.running l.left);
  status : IsRunning l.running;
  early : l.tick + length l.left * 2 ^ 28 ≤ 2 ^ 52;
}

abbrev pub decreases-pairs : goal.decreases-pairs
decreases-pairs l = length l.left
