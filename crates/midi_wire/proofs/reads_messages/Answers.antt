use Rattle.midi_wire.proofs.AllRead.{reads-messages}
use Rattle.midi_wire.proofs.reads_messages.Goals as goal

pub returns : goal.returns
returns c = reads-messages
