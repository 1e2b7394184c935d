use Rattle.cell_pools.specs.Pools.{after_losses_of}
use Rattle.seq_clients.proofs.Changing.{pool-changed-kept, pool-changed-seen}
use Rattle.seq_clients.proofs.clients.Clients.lose_beyond.Goals as goal

pub invariant_of-self : goal.invariant_of-self
invariant_of-self c = pool-changed-kept c.self.inside.nodes c.self.inside.rows _ c.self.invariant c.self.view_is c.args.client (after_losses_of c.args.moment c.args.copies) _ c.lose_beyond.ensures

pub returns : goal.returns
returns c = pool-changed-seen c.self.inside.nodes c.self.inside.rows _ c.self.invariant c.self.view_is c.args.client (after_losses_of c.args.moment c.args.copies) _ c.lose_beyond.ensures
