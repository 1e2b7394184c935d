use Rattle.std.proofs.lemmas.Result.{on_ok_weaker}
use Rattle.std.specs.FinMap.{get}
use Rattle.tempo_clock.specs.Clocks.{running_on}
use Rattle.seq_state.specs.declared.input.Command.TheVariants.{Continue}
use Rattle.seq_state.specs.Effect.{with_clock, queue_changed}
use Rattle.seq_state.proofs.Done.{continues}
use Rattle.seq_commands.specs.Whole.{clients_of, state_of}
use Rattle.seq_commands.proofs.ClientsGiven.{client-given}
use Rattle.seq_commands.proofs.QueuesAccepted.{accepted-continue}
use Rattle.seq_commands.proofs.QueuesGiven.{keys-before}
use Rattle.seq_commands.proofs.sequencer.Sequencer.resume.Goals as goal

pub resume-requires-clause-held : goal.resume-requires-clause-held
resume-requires-clause-held g c = (accepted-continue c.args.self.now.files (state_of c.args.self.now) c.args.turn.moment c.args.turn.actor c.args.queue.now c.requires.accepted).1

pub rekey_all-requires-clause-timed : goal.rekey_all-requires-clause-timed
rekey_all-requires-clause-timed g c =
    keys-before c.args.self.now c.args.turn.actor c.args.queue.now (with_clock (λ k. running_on k c.args.turn.moment)) _ _
    (accepted-continue c.args.self.now.files (state_of c.args.self.now) c.args.turn.moment c.args.turn.actor c.args.queue.now c.requires.accepted).0 c.resume.ensures.clients c.requires.whole.timed

pub returns : goal.returns
returns g c =
    let its = get (clients_of c.args.self.now) c.args.turn.actor in
    on_ok_weaker c.rekey_all.result (λ timed.
    client-given c.args.self.now c.args.turn (Continue c.args.queue.now) (queue_changed its c.args.queue.now.queue (with_clock (λ k. running_on k c.args.turn.moment))) _ _ c.requires.accepted
    (continues c.args.self.now.files (state_of c.args.self.now) c.args.turn.moment c.args.turn.actor c.args.queue.now) c.resume.ensures.clients c.resume.ensures.graph c.rekey_all.new.order _ c.requires.whole.cells timed) c.rekey_all.ensures
