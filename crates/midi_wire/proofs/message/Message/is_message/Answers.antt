use Rattle.std.proofs.Common.{subst}
use Rattle.std.specs.Prelude.{IsTrue}
use Rattle.midi_wire.specs.Messages.{is_message}
use Rattle.midi_wire.proofs.MessageTests.{message-tested}
use Rattle.midi_wire.proofs.message.Message.is_message.Goals as goal

pub returns : goal.returns
returns c = message-tested c.args.self.now (subst (λ m. IsTrue (is_message m)) c.self.view_is c.self.invariant.0)
