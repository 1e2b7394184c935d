use Rattle.std.proofs.Common.{[], ◌∷◌, ap, subst, ◌∙◌}
use Rattle.std.proofs.lemmas.Result.{on_ok_weaker}
use Rattle.seq_state.specs.declared.log.Reply.TheVariants.{Done}
use Rattle.seq_state.specs.State.{DueMessage}
use Rattle.seq_state.specs.Step.{Stepped}
use Rattle.seq_commands.specs.Whole.{IsStepTaken}
use Rattle.seq_commands.proofs.PlaybacksAdded.{schedule-early, schedule-room, schedule-step, schedule-there}
use Rattle.seq_commands.proofs.sequencer.Sequencer.schedule.Goals as goal

pub due_of-due-requires-clause-there : goal.due_of-due-requires-clause-there
due_of-due-requires-clause-there g c = schedule-there c.args.self.now c.args.turn c.args.queue.now c.args.port c.args.due_at c.args.message.now c.requires.accepted

pub due_of-due-requires-clause-early : goal.due_of-due-requires-clause-early
due_of-due-requires-clause-early g c = schedule-early c.args.self.now c.args.turn c.args.queue.now c.args.port c.args.due_at c.args.message.now c.requires.accepted

pub add_events-requires-clause-room : goal.add_events-requires-clause-room
add_events-requires-clause-room g c = schedule-room c.args.self.now c.args.turn c.args.queue.now c.args.port c.args.due_at c.args.message.now c.requires.accepted

pub returns : goal.returns
returns g c =
    let one = ap (λ m. let e : DueMessage = record { due = c.due_of-due.result; message = m } in e ∷ []) c.in_ok-duplicate.ensures.ok in
    on_ok_weaker c.add_events.result (subst (λ (s : Stepped). IsStepTaken c.args.self.now c.add_events.new.self (g.A.Agenda.content c.add_events.new.agenda) s Done [])
    (schedule-step c.args.self.now c.args.turn c.args.queue.now c.args.port c.args.due_at c.args.message.now c.requires.accepted c.due_of-due.result c.scheduled-event.result c.due_of-due.ensures (c.scheduled-event.ensures ∙ one)))
    c.add_events.ensures
