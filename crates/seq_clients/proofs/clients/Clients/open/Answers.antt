use Rattle.seq_clients.proofs.Changing.{is-closed, client-opened, opened-still}
use Rattle.seq_clients.proofs.clients.Clients.open.Goals as goal

pub add_client-requires-clause-fresh : goal.add_client-requires-clause-fresh
add_client-requires-clause-fresh c = is-closed c.self.inside.nodes c.self.inside.rows _ c.self.invariant c.self.view_is c.args.client c.requires.fresh

pub invariant_of-self-2 : goal.invariant_of-self-2
invariant_of-self-2 c = opened-still c.self.inside.nodes c.self.inside.rows _ c.self.invariant c.self.view_is c.args.client c.args.name.now c.args.in_size c.args.out_size _ _ _ c.in_ok-add_client.ensures.ok c.insert.ensures c.in_ok-row.ensures

pub returns-clause-ok : goal.returns-clause-ok
returns-clause-ok c = client-opened c.self.inside.nodes c.self.inside.rows _ c.self.invariant c.self.view_is c.args.client c.args.name.now c.args.in_size c.args.out_size _ _ _ c.in_ok-add_client.ensures.ok c.insert.ensures c.in_ok-row.ensures
