use Rattle.std.proofs.Common.{subst}
use Rattle.std.specs.Prelude.{IsTrue}
use Rattle.midi_wire.specs.Messages.{is_message}
use Rattle.midi_wire.proofs.MessageTests.{message-tested}
use Rattle.midi_wire.proofs.message.Message.status.Goals as goal

pub returns-in-Short-One-clause-message : goal.returns-in-Short-One-clause-message
returns-in-Short-One-clause-message c = message-tested c.args.self.now (subst (λ m. IsTrue (is_message m)) c.self.view_is c.self.invariant.0)

pub returns-in-Short-Two-clause-message : goal.returns-in-Short-Two-clause-message
returns-in-Short-Two-clause-message c = message-tested c.args.self.now (subst (λ m. IsTrue (is_message m)) c.self.view_is c.self.invariant.0)

pub returns-in-Short-Three-clause-message : goal.returns-in-Short-Three-clause-message
returns-in-Short-Three-clause-message c = message-tested c.args.self.now (subst (λ m. IsTrue (is_message m)) c.self.view_is c.self.invariant.0)

pub returns-in-Exclusive-clause-message : goal.returns-in-Exclusive-clause-message
returns-in-Exclusive-clause-message c = message-tested c.args.self.now (subst (λ m. IsTrue (is_message m)) c.self.view_is c.self.invariant.0)
