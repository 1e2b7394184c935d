-- The sink has taken the bytes before the place.
use Rattle.std.proofs.Common.{◌≡◌, ◌≤◌, ◌-◌, length, take, false}
use Rattle.byte_io.specs.Moved.{Took}
use Rattle.byte_io.proofs.transfer.write_all.Given as goal

abbrev pub invariant-loop-at : goal.invariant-loop-at
invariant-loop-at g l = record {
  within : l.at ≤ length l.bytes;
  sound : g.W.Sink.failed l.out ≡ false;
  eager : g.W.Sink.takes_some l.out ≡ g.W.Sink.takes_some l.fn.out;
  idle : length l.bytes ≡ 0 → l.out ≡ l.fn.out;
  written : Took g.W.Sink.HasTaken l.fn.out (take l.at l.bytes) l.out;
}

abbrev pub decreases-loop-at : goal.decreases-loop-at
decreases-loop-at g l = length l.bytes - l.at
