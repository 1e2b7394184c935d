use Rattle.std.proofs.Common.{◌∙◌, ap, sym}
use Rattle.seq_state.specs.Step.{pool_has_room}
use Rattle.seq_clients.proofs.Seeing.{get-pool}
use Rattle.seq_clients.proofs.clients.Clients.has_room.Goals as goal

pub returns : goal.returns
returns c = c.has_room.ensures ∙ ap (pool_has_room c.args.moment) (sym (get-pool c.self.inside.nodes c.self.inside.rows _ c.self.invariant c.self.view_is c.args.client))
