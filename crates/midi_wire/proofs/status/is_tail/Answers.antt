use Rattle.std.proofs.Common.{ap, sym, ◌∙◌}
use Rattle.midi_wire.specs.Messages.{StatusClass, is_tail}
use Rattle.midi_wire.proofs.Table.{begins-F0}
use Rattle.midi_wire.proofs.status.is_tail.Goals as goal

pub returns-in-Exclusive : goal.returns-in-Exclusive
returns-in-Exclusive c = c.is_exclusive_tail.ensures ∙ ap (λ (k : StatusClass). is_tail k c.args.tail.now) (begins-F0 ∙ sym c.in-Exclusive.is)
