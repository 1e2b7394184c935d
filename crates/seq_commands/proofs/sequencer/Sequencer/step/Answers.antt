use Rattle.seq_commands.proofs.Commanded.{settled-whole}
use Rattle.seq_commands.proofs.sequencer.Sequencer.step.Goals as goal

pub command-requires-clause-whole : goal.command-requires-clause-whole
command-requires-clause-whole g c =
    let s = c.settle.new.self in
    let e = c.in_ok-settle.ensures in
    let w = c.requires.whole in
    settled-whole c.args.self.now s (g.A.Agenda.content c.args.agenda.now) (g.A.Agenda.content c.settle.new.agenda) w.0 c.args.input.now.moment w.1 w.2 e.state e.files e.cells e.timed
