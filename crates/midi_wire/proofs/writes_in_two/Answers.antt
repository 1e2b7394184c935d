use Rattle.midi_wire.proofs.WrittenInTwo.{writes-in-two, writes-one-more}
use Rattle.midi_wire.proofs.writes_in_two.Goals as goal

pub returns-clause-parts : goal.returns-clause-parts
returns-clause-parts c = writes-in-two

pub returns-clause-one_more : goal.returns-clause-one_more
returns-clause-one_more c = writes-one-more
