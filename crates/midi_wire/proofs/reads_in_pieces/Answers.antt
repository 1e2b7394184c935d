use Rattle.midi_wire.proofs.Pieces.{reads-in-pieces, rests-in-pieces}
use Rattle.midi_wire.proofs.reads_in_pieces.Goals as goal

pub returns-clause-messages : goal.returns-clause-messages
returns-clause-messages c = reads-in-pieces

pub returns-clause-rests : goal.returns-clause-rests
returns-clause-rests c = rests-in-pieces
