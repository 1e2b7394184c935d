use Rattle.std.proofs.Common.{Some}
use Rattle.std.proofs.lemmas.Result.{on_ok_weaker}
use Rattle.std.specs.FinMap.{get}
use Rattle.seq_state.specs.declared.input.Command.TheVariants.{CreatePort}
use Rattle.seq_state.specs.Effect.{with_change, put_port, new_port}
use Rattle.seq_state.proofs.Done.{creates-port}
use Rattle.seq_commands.specs.Whole.{clients_of, state_of}
use Rattle.seq_commands.proofs.ClientsAccepted.{accepted-port}
use Rattle.seq_commands.proofs.ClientsGiven.{nodes-kept, queues-port}
use Rattle.seq_commands.proofs.sequencer.Sequencer.create_port.Goals as goal

pub create_port-requires-clause-open : goal.create_port-requires-clause-open
create_port-requires-clause-open c = (accepted-port c.args.self.now.files (state_of c.args.self.now) c.args.turn.moment c.args.turn.actor c.args.port c.args.name.now c.args.caps c.requires.accepted).0

pub create_port-requires-clause-named : goal.create_port-requires-clause-named
create_port-requires-clause-named c = (accepted-port c.args.self.now.files (state_of c.args.self.now) c.args.turn.moment c.args.turn.actor c.args.port c.args.name.now c.args.caps c.requires.accepted).1

pub create_port-requires-clause-free : goal.create_port-requires-clause-free
create_port-requires-clause-free c = (accepted-port c.args.self.now.files (state_of c.args.self.now) c.args.turn.moment c.args.turn.actor c.args.port c.args.name.now c.args.caps c.requires.accepted).2

pub returns : goal.returns
returns c =
    let its = get (clients_of c.args.self.now) c.args.turn.actor in
    let made = Some (new_port c.args.name.now c.args.caps) in
    on_ok_weaker c.create_port.result (λ e. nodes-kept c.args.self.now c.args.turn (CreatePort c.args.port c.args.name.now c.args.caps) (with_change its (put_port c.args.port made)) _ _ c.requires.accepted
    (creates-port c.args.self.now.files (state_of c.args.self.now) c.args.turn.moment c.args.turn.actor c.args.port c.args.name.now c.args.caps)
    e c.create_port.ensures.graph (queues-port c.args.port made its)) c.create_port.ensures.ok
