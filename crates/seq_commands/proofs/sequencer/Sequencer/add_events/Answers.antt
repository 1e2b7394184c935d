use Rattle.seq_state.specs.Effect.{out_size}
use Rattle.seq_clients.specs.Roster.{Roster}
use Rattle.std.specs.FinMap.{get}
use Rattle.std.proofs.Common.{[], ◌∷◌, ◌++◌, ap, ◌∙◌}
use Rattle.std.specs.List.{filter}
use Rattle.memory.proofs.Outcomes.{on_ok-three}
use Rattle.cell_pools.specs.Cells.{Store}
use Rattle.seq_state.specs.Step.{is_left}
use Rattle.seq_settle.specs.Cells.{RankedPlayback, playbacks}
use Rattle.seq_commands.specs.Added.{playing}
use Rattle.seq_commands.proofs.PlaybacksAdded.{added-gives, room-left}
use Rattle.seq_commands.proofs.sequencer.Sequencer.add_events.Goals as goal

pub add_playback-requires-clause-room : goal.add_playback-requires-clause-room
add_playback-requires-clause-room g c =
    room-left c.args.self.now _ c.args.turn.moment c.args.turn.actor c.out_size-size.result c.set_size.new.self c.requires.whole c.requires.room
    (c.out_size-size.ensures ∙ ap (λ (r : Roster). out_size (get r.clients c.args.turn.actor)) c.clients.ensures) c.set_size.ensures

pub returns : goal.returns
returns g c =
    let new = filter is_left (playing c.args.turn c.args.queue.now c.args.port c.args.events ∷ []) in
    let a = c.add_playback.ensures in
    on_ok-three c.add_playback.result (λ more are keys. added-gives c.args.self.now c.args.turn c.args.rank c.args.queue.now c.args.port c.args.events c.add_playback.new.cells c.add_playback.new.order _ c.requires.counted c.requires.fresh
    (more ∙ ap (λ (s : Store RankedPlayback). playbacks s.cells c.args.rank ++ new) c.set_size.ensures) are keys) a.added a.cells a.timed
