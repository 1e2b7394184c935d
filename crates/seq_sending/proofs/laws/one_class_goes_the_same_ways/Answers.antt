use Rattle.seq_sending.proofs.Classes.{class_law}
use Rattle.seq_sending.proofs.laws.one_class_goes_the_same_ways.Goals as goal

pub returns : goal.returns
returns c = class_law
