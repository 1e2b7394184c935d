use Rattle.seq_clients.proofs.Changing.{client-closed, closed-still}
use Rattle.seq_clients.proofs.clients.Clients.close.Goals as goal

pub invariant_of-self : goal.invariant_of-self
invariant_of-self c = closed-still c.self.inside.nodes c.self.inside.rows _ c.self.invariant c.self.view_is c.args.client _ _ c.close_client.ensures.closed c.remove.ensures.left

pub returns : goal.returns
returns c = client-closed c.self.inside.nodes c.self.inside.rows _ c.self.invariant c.self.view_is c.args.client _ _ c.close_client.ensures.closed c.remove.ensures.left
