-- The bytes so far are those that the reads gave.
use Rattle.std.proofs.Common.{◌≡◌, ◌≤◌, ◌-◌, length, false}
use Rattle.byte_io.specs.Moved.{Gave}
use Rattle.byte_io.proofs.transfer.read_to.Given as goal

abbrev pub invariant-loop-chunk : goal.invariant-loop-chunk
invariant-loop-chunk g l = record {
  within : length l.all.items ≤ l.most;
  sound : g.R.Source.failed l.input ≡ false;
  gave : Gave g.R.Source.HasLeft l.fn.input l.all.items l.input;
  space : length l.chunk ≡ 8192;
}

abbrev pub decreases-loop-chunk : goal.decreases-loop-chunk
decreases-loop-chunk g l = l.most - length l.all.items
