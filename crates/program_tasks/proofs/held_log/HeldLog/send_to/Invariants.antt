use Rattle.std.proofs.Common.{◌≡◌, false, take}
use Rattle.std.specs.List.{flat_map}
use Rattle.byte_io.specs.Moved.{Took}
use Rattle.program_tasks.proofs.held_log.HeldLog.send_to.Given as goal

abbrev pub invariant-loop-piece : goal.invariant-loop-piece
invariant-loop-piece g l = record {
  sound : g.W.Sink.failed l.out ≡ false;
  eager : g.W.Sink.takes_some l.out ≡ g.W.Sink.takes_some l.fn.out;
  took : Took g.W.Sink.HasTaken l.fn.out (flat_map (λ p. p.items) (take l.piece-index l.piece-items)) l.out;
}
