use Rattle.std.proofs.Common.{ℕ, ◌≤◌, sym, subst}
use Rattle.midi_wire.proofs.WrittenNext.{message-status}
use Rattle.midi_wire.proofs.message.Message.kind.Goals as goal

pub kind_of_status-requires : goal.kind_of_status-requires
kind_of_status-requires c = subst (λ (n : ℕ). 128 ≤ n) (sym c.status.ensures.value) (message-status c.args.self.now c.status.ensures.message)
