use Rattle.std.proofs.Common.{◌∙◌, ap, sym}
use Rattle.cell_pools.specs.Pools.{after_offer}
use Rattle.seq_state.specs.Step.{pool_has_room}
use Rattle.seq_clients.proofs.Changing.{pool-changed-kept, pool-changed-seen}
use Rattle.seq_clients.proofs.Seeing.{get-pool}
use Rattle.seq_clients.proofs.clients.Clients.offer.Goals as goal

pub invariant_of-self : goal.invariant_of-self
invariant_of-self c = pool-changed-kept c.self.inside.nodes c.self.inside.rows _ c.self.invariant c.self.view_is c.args.client (λ p. after_offer c.args.arrival.moment p c.args.arrival) _ c.offer.ensures.after

pub returns-clause-kept : goal.returns-clause-kept
returns-clause-kept c = c.offer.ensures.kept ∙ ap (pool_has_room c.args.arrival.moment) (sym (get-pool c.self.inside.nodes c.self.inside.rows _ c.self.invariant c.self.view_is c.args.client))

pub returns-clause-after : goal.returns-clause-after
returns-clause-after c = pool-changed-seen c.self.inside.nodes c.self.inside.rows _ c.self.invariant c.self.view_is c.args.client (λ p. after_offer c.args.arrival.moment p c.args.arrival) _ c.offer.ensures.after
