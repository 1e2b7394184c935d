use Rattle.midi_wire.proofs.AllRead.{rests-are-short}
use Rattle.midi_wire.proofs.rests_are_short.Goals as goal

pub returns : goal.returns
returns c = rests-are-short
