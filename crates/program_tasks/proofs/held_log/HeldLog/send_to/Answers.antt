use Rattle.std.proofs.Common.{◌≡◌, ◌∙◌, ap, subst}
use Rattle.std.specs.List.{flat_map}
use Rattle.memory.proofs.Outcomes.{on_err}
use Rattle.byte_io.specs.Moved.{TookPart}
use Rattle.program_tasks.proofs.Held.{piece_stops}
use Rattle.program_tasks.proofs.held_log.HeldLog.send_to.Goals as goal

pub returns-in_err-send-clause-part : goal.returns-in_err-send-clause-part
returns-in_err-send-clause-part g c =
    let taken : flat_map (λ p. p.items) c.deref-piece-items.result.now ≡ c.args.self.now.taken =
    ap (flat_map (λ p. p.items)) c.deref-piece-items.ensures.value ∙ ap (λ h. h.taken) c.self.view_is in
    on_err c.from_residual.result
    (subst (λ t. TookPart g.W.Sink.HasTaken c.args.out.now t c.send.new.out) taken
    (piece_stops g.W.Sink.HasTaken (λ p. p.items) c.deref-piece-items.result.now c.loop-piece.piece-index c.piece-item.result c.args.out.now c.loop-piece.out c.send.new.out
    c.loop-piece-test.true c.piece-item.is c.loop-piece.invariant.took (rw c.as_slice.ensures.value at c.in_err-send.ensures.part)))
