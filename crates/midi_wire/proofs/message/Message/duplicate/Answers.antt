use Rattle.std.proofs.Common.{◌∙◌, sym, ap, subst}
use Rattle.std.specs.Prelude.{IsTrue}
use Rattle.midi_wire.specs.Kinds.{kind_of}
use Rattle.midi_wire.specs.Parsing.{full_bytes}
use Rattle.midi_wire.specs.Messages.{is_message}
use Rattle.midi_wire.proofs.Makers.{kind-F0}
use Rattle.midi_wire.proofs.MessageTests.{message-tested}
use Rattle.memory.proofs.Outcomes.{on_err}
use Rattle.midi_wire.proofs.message.Message.duplicate.Goals as goal

pub returns-in_err-clone-in-Exclusive-clause-exclusive : goal.returns-in_err-clone-in-Exclusive-clause-exclusive
returns-in_err-clone-in-Exclusive-clause-exclusive c = on_err c.from_residual.result (ap kind_of (sym c.self.view_is ∙ ap full_bytes c.in-Exclusive.is) ∙ kind-F0)

pub returns-clause-message : goal.returns-clause-message
returns-clause-message c = message-tested c.args.self.now (subst (λ m. IsTrue (is_message m)) c.self.view_is c.self.invariant.0)

pub returns-in_err-clone-in-Exclusive-clause-message : goal.returns-in_err-clone-in-Exclusive-clause-message
returns-in_err-clone-in-Exclusive-clause-message c = message-tested c.args.self.now (subst (λ m. IsTrue (is_message m)) c.self.view_is c.self.invariant.0)
