use Rattle.seq_state.specs.State.{queues_of}
use Rattle.seq_clients.specs.Roster.{Roster, NoneShared}
use Rattle.std.specs.FinMap.{get}
use Rattle.std.proofs.Common.{subst}
use Rattle.seq_commands.specs.Whole.{clients_of}
use Rattle.seq_commands.proofs.PlaybacksGone.{close-alone, close-gives}
use Rattle.seq_commands.proofs.sequencer.Sequencer.close.Goals as goal

pub drop_playbacks-requires-clause-alone : goal.drop_playbacks-requires-clause-alone
drop_playbacks-requires-clause-alone g c = λ private.
    let s = c.args.self.now in
    close-alone (clients_of s) s.cells.cells s.steps c.args.turn.actor c.requires.whole.cells c.requires.whole.sound.usable
    (subst (λ (r : Roster). NoneShared (queues_of (get r.clients c.args.turn.actor))) c.clients.ensures (c.shares_queue-shares.ensures.none private))

pub returns : goal.returns
returns g c =
    let d = c.drop_playbacks.ensures in
    close-gives c.args.self.now c.args.turn c.drop_playbacks.new.cells c.drop_playbacks.new.order _ d.cells c.close.new.self.clients c.close.new.self.graph c.requires.accepted d.playbacks
    (d.timed (clients_of c.args.self.now) c.requires.whole.timed) d.left
    c.close.ensures.graph c.close.ensures.clients
