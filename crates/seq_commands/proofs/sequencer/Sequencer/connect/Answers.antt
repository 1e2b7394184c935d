use Rattle.std.proofs.lemmas.Result.{on_ok_weaker}
use Rattle.seq_commands.specs.Whole.{state_of}
use Rattle.seq_commands.proofs.EdgesStep.{connects-fresh, connects-room, connects-clear, connect-gives}
use Rattle.seq_commands.proofs.sequencer.Sequencer.connect.Goals as goal

pub connect-requires-clause-fresh : goal.connect-requires-clause-fresh
connect-requires-clause-fresh c =
    let s = c.args.self.now in
    connects-fresh s.files (state_of s) c.args.turn.moment c.args.turn.actor c.args.source c.args.target c.requires.accepted

pub connect-requires-clause-room : goal.connect-requires-clause-room
connect-requires-clause-room c =
    let s = c.args.self.now in
    connects-room s.files (state_of s) c.args.turn.moment c.args.turn.actor c.args.source c.args.target c.requires.accepted

pub connect-requires-clause-clear : goal.connect-requires-clause-clear
connect-requires-clause-clear c =
    let s = c.args.self.now in
    connects-clear s.files (state_of s) c.args.turn.moment c.args.turn.actor c.args.source c.args.target c.requires.accepted

pub returns : goal.returns
returns c =
    on_ok_weaker c.connect.result
    (λ e. connect-gives c.args.self.now c.args.turn c.args.source c.args.target c.connect.new.self c.requires.accepted c.connect.ensures.clients e) c.connect.ensures.ok
