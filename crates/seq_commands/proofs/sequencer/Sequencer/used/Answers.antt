use Rattle.std.proofs.Common.{◌∙◌}
use Rattle.seq_settle.proofs.Counting.{used_is}
use Rattle.seq_commands.proofs.sequencer.Sequencer.used.Goals as goal

pub returns : goal.returns
returns c =
    let s = c.args.self.now in
    c.used.ensures.count ∙ used_is s.cells.cells s.steps c.args.client c.requires.cells
