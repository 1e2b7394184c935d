use Rattle.smf_grammar.proofs.WrittenFile.{reads-written}
use Rattle.smf_grammar.proofs.laws.reads_written.Goals as goal

pub returns : goal.returns
returns c = reads-written
