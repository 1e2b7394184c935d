use Rattle.std.proofs.Common.{◌≡◌, ◌≤◌, ◌+◌, ◌*◌, ◌^◌, ◌++◌, length}
use Rattle.std.specs.Prelude.{false, None, IsTrue}
use Rattle.smf_grammar.specs.Seen.{IsRunning}
use Rattle.smf_files.specs.Playing.{is_whole, rest_of}
use Rattle.tool_text.specs.Gathered.{IsGathered}
use Rattle.smf_text.specs.PlacedTexts.{placed_pairs}
use Rattle.smf_text.proofs.walk.print_pairs.Given as goal

abbrev pub invariant-pairs : goal.invariant-pairs
invariant-pairs g l = record {
  goes : IsGathered g.W.Sink.HasTaken l.initial.out l.out l.text.items (placed_pairs l.is_placed l.end l.running l.left l.tick (rest_of l.running l.left)) (l.initial.text.items ++ placed_pairs l.is_placed l.end None l.content 0 (rest_of None l.content));
  whole : IsTrue (is_whole l.running l.left);
  status : IsRunning l.running;
  within : length l.left ≤ l.end;
  early : l.tick + length l.left * 2 ^ 28 ≤ 2 ^ 24 * 2 ^ 28;
  unmarked : g.W.Sink.failed l.out ≡ false;
  eager : g.W.Sink.takes_some l.out ≡ g.W.Sink.takes_some l.initial.out;
}

abbrev pub decreases-pairs : goal.decreases-pairs
decreases-pairs g l = length l.left
