use Rattle.seq_commands.proofs.Ticks.{ticks-more, ticks-all}
use Rattle.seq_commands.proofs.files.Files.new.Goals as goal

pub loop-file-preserved : goal.loop-file-preserved
loop-file-preserved c = ticks-more c.args.files.now c.loop-file.file-index c.file-item.result c.loop-file-test.true c.file-item.is c.loop-file.invariant c.plays_in_order.ensures.ticks

pub returns-clause-ticks : goal.returns-clause-ticks
returns-clause-ticks c = ticks-all c.args.files.now c.loop-file.file-index c.loop-file-test.false c.loop-file.invariant
