use Rattle.std.proofs.Common.{◌≡◌, ◌≤◌, ◌+◌, ◌-◌, false, length}
use Rattle.smf_grammar.specs.Chunks.{most_bytes}
use Rattle.smf_grammar.specs.Seen.{IsRunning}
use Rattle.smf_mend.specs.Tallies.{IsBelow}
use Rattle.smf_mend.proofs.Grown.{Writing}
use Rattle.smf_mend.proofs.soft_track.mend_track.Given as goal

abbrev pub invariant-pairs : goal.invariant-pairs
invariant-pairs l = record {
  written : Writing l.content l.place l.strict l.running l.left l.initial.tally l.tally l.initial.out l.out;
  status : IsRunning l.running;
  within : length l.left ≤ length l.content;
  few : IsBelow l.tally (l.place + (length l.content - length l.left));
  still : l.out.is_outgrown ≡ false → l.initial.out.is_outgrown ≡ false;
  begun : l.out.is_outgrown ≡ false → l.start ≤ length l.out.bytes.items;
  room : length l.out.bytes.items ≤ most_bytes;
}

abbrev pub decreases-pairs : goal.decreases-pairs
decreases-pairs l = length l.left
