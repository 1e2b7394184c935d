use Rattle.std.proofs.lemmas.Result.{on_ok_weaker}
use Rattle.seq_commands.specs.Whole.{state_of}
use Rattle.seq_commands.proofs.ClientsAccepted.{accepted-open}
use Rattle.seq_commands.proofs.ClientsGiven.{opened-kept}
use Rattle.seq_commands.proofs.sequencer.Sequencer.open.Goals as goal

pub open-requires-clause-fresh : goal.open-requires-clause-fresh
open-requires-clause-fresh c = (accepted-open c.args.self.now.files (state_of c.args.self.now) c.args.turn.moment c.args.turn.actor c.args.name.now c.args.in_size c.args.out_size c.requires.accepted).0

pub open-requires-clause-named : goal.open-requires-clause-named
open-requires-clause-named c = (accepted-open c.args.self.now.files (state_of c.args.self.now) c.args.turn.moment c.args.turn.actor c.args.name.now c.args.in_size c.args.out_size c.requires.accepted).1

pub open-requires-clause-sized : goal.open-requires-clause-sized
open-requires-clause-sized c = (accepted-open c.args.self.now.files (state_of c.args.self.now) c.args.turn.moment c.args.turn.actor c.args.name.now c.args.in_size c.args.out_size c.requires.accepted).2

pub returns : goal.returns
returns c = on_ok_weaker c.open.result (λ e. opened-kept c.args.self.now c.args.turn c.args.name.now c.args.in_size c.args.out_size _ _ c.requires.accepted e c.open.ensures.graph) c.open.ensures.ok
