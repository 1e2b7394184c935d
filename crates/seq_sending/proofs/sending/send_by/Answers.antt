use Rattle.std.proofs.Common.{◌≡◌, ◌++◌, sym, subst}
use Rattle.std.specs.Prelude.{OnOk}
use Rattle.patch_graph.specs.Paths.{hops}
use Rattle.seq_state.specs.Step.{pools_after, copies_with_room}
use Rattle.seq_sending.specs.Ways.{copies_on}
use Rattle.seq_sending.proofs.sending.send_by.Goals as goal

pub returns-in-Parting-clause-pools : goal.returns-in-Parting-clause-pools
unfolding hops
returns-in-Parting-clause-pools g c =
    let a = c.args in
    subst (λ way. OnOk c.send_to.result (c.send_to.new.clients.pools ≡ pools_after a.clients.now.pools (copies_on a.clients.now.clients a.graph.now a.moment (g.M.Carried.bytes a.message) way)))
    (sym c.in-Parting.is) c.send_to.ensures.pools

pub returns-in-Parting-clause-sent : goal.returns-in-Parting-clause-sent
unfolding hops
returns-in-Parting-clause-sent g c =
    let a = c.args in
    subst (λ way. OnOk c.send_to.result (c.send_to.new.out.items ≡ a.out.now.items ++ copies_with_room a.clients.now.pools (copies_on a.clients.now.clients a.graph.now a.moment (g.M.Carried.bytes a.message) way)))
    (sym c.in-Parting.is) c.send_to.ensures.sent
