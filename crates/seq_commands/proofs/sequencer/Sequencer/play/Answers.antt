use Rattle.std.proofs.Common.{[], map, ap, subst, sym, ◌∙◌}
use Rattle.std.specs.Option.{option_copied, option_map}
use Rattle.std.proofs.lemmas.Result.{on_ok_weaker}
use Rattle.smf_grammar.specs.Contents.{events_of}
use Rattle.smf_grammar.specs.Played.{as_played}
use Rattle.seq_settle.specs.Cells.{are_in_order}
use Rattle.seq_settle.specs.Events.{file_event}
use Rattle.seq_state.specs.declared.log.Reply.TheVariants.{Done}
use Rattle.seq_state.specs.Step.{Stepped}
use Rattle.seq_commands.specs.Whole.{IsStepTaken}
use Rattle.seq_commands.proofs.PlaybacksAdded.{in-order, play-room, play-step, play-there}
use Rattle.seq_commands.proofs.sequencer.Sequencer.play.Goals as goal

pub unreachable-requires : goal.unreachable-requires
unreachable-requires g c =
    play-there c.args.self.now c.args.turn c.args.queue.now c.args.port c.args.file c.requires.accepted (sym c.get.ensures ∙ ap (λ o. option_map as_played (option_copied o)) c.in_default.is)

pub add_events-requires-clause-ordered : goal.add_events-requires-clause-ordered
add_events-requires-clause-ordered g c =
    ap are_in_order (c.played-events.ensures ∙ ap (map file_event) c.in_ok-cursor.ensures) ∙ in-order (events_of c.in-Some.file.now) ∙ c.plays_in_order.ensures.rising

pub add_events-requires-clause-room : goal.add_events-requires-clause-room
add_events-requires-clause-room g c = play-room c.args.self.now c.args.turn c.args.queue.now c.args.port c.args.file c.requires.accepted

pub returns : goal.returns
returns g c =
    on_ok_weaker c.add_events.result (subst (λ (s : Stepped). IsStepTaken c.args.self.now c.add_events.new.self (g.A.Agenda.content c.add_events.new.agenda) s Done [])
    (play-step c.args.self.now c.args.turn c.args.queue.now c.args.port c.args.file c.requires.accepted (as_played c.in-Some.file.now) c.played-events.result (sym c.in-Some.ensures)
    (c.played-events.ensures ∙ ap (map file_event) c.in_ok-cursor.ensures)))
    c.add_events.ensures
