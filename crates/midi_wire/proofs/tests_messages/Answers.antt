use Rattle.midi_wire.proofs.MessageTests.{tests-messages}
use Rattle.midi_wire.proofs.tests_messages.Goals as goal

pub returns : goal.returns
returns c = tests-messages
