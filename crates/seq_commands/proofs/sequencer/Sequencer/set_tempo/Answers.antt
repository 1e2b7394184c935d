use Rattle.std.proofs.lemmas.Result.{on_ok_weaker}
use Rattle.std.specs.FinMap.{get}
use Rattle.tempo_clock.specs.Clocks.{with_tempo}
use Rattle.seq_state.specs.declared.input.Command.TheVariants.{Tempo}
use Rattle.seq_state.specs.Effect.{with_clock, queue_changed}
use Rattle.seq_state.proofs.Done.{sets-tempo}
use Rattle.seq_commands.specs.Whole.{clients_of, state_of}
use Rattle.seq_commands.proofs.ClientsGiven.{client-given}
use Rattle.seq_commands.proofs.QueuesAccepted.{accepted-tempo}
use Rattle.seq_commands.proofs.QueuesGiven.{keys-before}
use Rattle.seq_commands.proofs.sequencer.Sequencer.set_tempo.Goals as goal

pub set_tempo-requires-clause-tempo : goal.set_tempo-requires-clause-tempo
set_tempo-requires-clause-tempo g c = (accepted-tempo c.args.self.now.files (state_of c.args.self.now) c.args.turn.moment c.args.turn.actor c.args.queue.now c.args.tempo c.requires.accepted).1

pub set_tempo-requires-clause-metrical : goal.set_tempo-requires-clause-metrical
set_tempo-requires-clause-metrical g c = (accepted-tempo c.args.self.now.files (state_of c.args.self.now) c.args.turn.moment c.args.turn.actor c.args.queue.now c.args.tempo c.requires.accepted).2

pub rekey_all-requires-clause-timed : goal.rekey_all-requires-clause-timed
rekey_all-requires-clause-timed g c =
    keys-before c.args.self.now c.args.turn.actor c.args.queue.now (with_clock (λ k. with_tempo k c.args.turn.moment c.args.tempo)) _ _
    (accepted-tempo c.args.self.now.files (state_of c.args.self.now) c.args.turn.moment c.args.turn.actor c.args.queue.now c.args.tempo c.requires.accepted).0 c.in_ok-set_tempo.ensures.ok c.requires.whole.timed

pub returns : goal.returns
returns g c =
    let its = get (clients_of c.args.self.now) c.args.turn.actor in
    on_ok_weaker c.rekey_all.result (λ timed.
    client-given c.args.self.now c.args.turn (Tempo c.args.queue.now c.args.tempo) (queue_changed its c.args.queue.now.queue (with_clock (λ k. with_tempo k c.args.turn.moment c.args.tempo))) _ _ c.requires.accepted
    (sets-tempo c.args.self.now.files (state_of c.args.self.now) c.args.turn.moment c.args.turn.actor c.args.queue.now c.args.tempo) c.in_ok-set_tempo.ensures.ok c.in_ok-set_tempo.ensures.graph c.rekey_all.new.order _ c.requires.whole.cells timed) c.rekey_all.ensures
