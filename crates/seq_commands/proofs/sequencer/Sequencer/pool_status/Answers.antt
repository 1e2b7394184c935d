use Rattle.seq_clients.specs.Roster.{Roster, waiting, lost_count}
use Rattle.std.specs.FinMap.{get}
use Rattle.std.proofs.Common.{ap, ◌∙◌}
use Rattle.seq_commands.proofs.PoolsStep.{status-gives}
use Rattle.seq_commands.proofs.sequencer.Sequencer.pool_status.Goals as goal

pub returns : goal.returns
returns c =
    status-gives c.args.self.now c.args.turn c.waiting.result c.lost.result c.used.result c.requires.accepted c.requires.cells
    (c.waiting.ensures ∙ ap (λ (r : Roster). waiting (get r.pools c.args.turn.actor)) c.clients.ensures) (c.lost.ensures ∙ ap (λ (r : Roster). lost_count (get r.pools c.args.turn.actor)) c.clients-2.ensures) c.used.ensures.count
