use Rattle.std.proofs.lemmas.Result.{on_ok_weaker}
use Rattle.std.specs.FinMap.{get}
use Rattle.tempo_clock.specs.Clocks.{running_from_zero}
use Rattle.seq_state.specs.declared.input.Command.TheVariants.{Start}
use Rattle.seq_state.specs.Effect.{with_clock, queue_changed}
use Rattle.seq_state.proofs.Done.{starts}
use Rattle.seq_commands.specs.Whole.{clients_of, state_of}
use Rattle.seq_commands.proofs.ClientsGiven.{client-given}
use Rattle.seq_commands.proofs.QueuesAccepted.{accepted-start}
use Rattle.seq_commands.proofs.QueuesGiven.{keys-before}
use Rattle.seq_commands.proofs.sequencer.Sequencer.start.Goals as goal

pub start-requires : goal.start-requires
start-requires g c = record { held = (accepted-start c.args.self.now.files (state_of c.args.self.now) c.args.turn.moment c.args.turn.actor c.args.queue.now c.requires.accepted).1 }

pub rekey_all-requires-clause-timed : goal.rekey_all-requires-clause-timed
rekey_all-requires-clause-timed g c =
    keys-before c.args.self.now c.args.turn.actor c.args.queue.now (with_clock (λ k. running_from_zero k c.args.turn.moment)) _ _
    (accepted-start c.args.self.now.files (state_of c.args.self.now) c.args.turn.moment c.args.turn.actor c.args.queue.now c.requires.accepted).0 c.start.ensures.clients c.requires.whole.timed

pub returns : goal.returns
returns g c =
    let its = get (clients_of c.args.self.now) c.args.turn.actor in
    on_ok_weaker c.rekey_all.result (λ timed.
    client-given c.args.self.now c.args.turn (Start c.args.queue.now) (queue_changed its c.args.queue.now.queue (with_clock (λ k. running_from_zero k c.args.turn.moment))) _ _ c.requires.accepted
    (starts c.args.self.now.files (state_of c.args.self.now) c.args.turn.moment c.args.turn.actor c.args.queue.now) c.start.ensures.clients c.start.ensures.graph c.rekey_all.new.order _ c.requires.whole.cells timed) c.rekey_all.ensures
