use Rattle.std.proofs.Common.{◌≡◌, ◌++◌, ◌∙◌, ap, sym, subst, append-nil}
use Rattle.seq_patchbay.specs.Network.{Network}
use Rattle.seq_sending.specs.Table.{AreWaysKept}
use Rattle.seq_patchbay.proofs.Routes.{straight-copies}
use Rattle.std.specs.Prelude.{OnOk}
use Rattle.seq_state.specs.Step.{pools_after, copies_with_room}
use Rattle.seq_settle.specs.Sends.{copies_of}
use Rattle.seq_patchbay.specs.Leaving.{copies_of_all}
use Rattle.seq_patchbay.proofs.patchbay.PatchbayDesk.send.Goals as goal

pub returns-clause-pools : goal.returns-clause-pools
returns-clause-pools c =
    let a = c.args in
    let n = a.self.now in
    subst (λ ds. OnOk c.send_all.result (c.send_all.new.self.clients.pools ≡ pools_after n.clients.pools ds))
    (ap (copies_of_all n.clients.clients n.graph a.moment a.client a.port) c.from_ref.ensures.value ∙ append-nil (copies_of n.clients.clients n.graph a.moment a.client a.port a.message))
    c.send_all.ensures.pools

pub returns-clause-sent : goal.returns-clause-sent
returns-clause-sent c =
    let a = c.args in
    let n = a.self.now in
    subst (λ ds. OnOk c.send_all.result (c.send_all.new.out.items ≡ a.out.now.items ++ copies_with_room n.clients.pools ds))
    (ap (copies_of_all n.clients.clients n.graph a.moment a.client a.port) c.from_ref.ensures.value ∙ append-nil (copies_of n.clients.clients n.graph a.moment a.client a.port a.message))
    c.send_all.ensures.sent

pub invariant_of-self : goal.invariant_of-self
invariant_of-self c = subst (λ cs. AreWaysKept cs c.self.inside.graph c.self.inside.ways) (sym c.deliver.ensures.clients) c.self.invariant

pub returns-in-Some-clause-pools : goal.returns-in-Some-clause-pools
returns-in-Some-clause-pools c =
    let a = c.args in
    let s = c.self.inside in
    subst (λ (n : Network). OnOk c.deliver.result (c.deliver.new.clients.pools ≡ pools_after n.clients.pools (copies_of n.clients.clients n.graph a.moment a.client a.port a.message))) c.self.view_is
    (subst (λ ds. OnOk c.deliver.result (c.deliver.new.clients.pools ≡ pools_after s.clients.pools ds))
    (straight-copies s.clients.clients s.graph a.moment a.client a.port c.in-Some.end a.message c.is_message.ensures (c.in-Some.ensures s.clients.clients s.graph c.self.invariant))
    c.deliver.ensures.pools)

pub returns-in-Some-clause-sent : goal.returns-in-Some-clause-sent
returns-in-Some-clause-sent c =
    let a = c.args in
    let s = c.self.inside in
    subst (λ (n : Network). OnOk c.deliver.result (c.deliver.new.out.items ≡ a.out.now.items ++ copies_with_room n.clients.pools (copies_of n.clients.clients n.graph a.moment a.client a.port a.message))) c.self.view_is
    (subst (λ ds. OnOk c.deliver.result (c.deliver.new.out.items ≡ a.out.now.items ++ copies_with_room s.clients.pools ds))
    (straight-copies s.clients.clients s.graph a.moment a.client a.port c.in-Some.end a.message c.is_message.ensures (c.in-Some.ensures s.clients.clients s.graph c.self.invariant))
    c.deliver.ensures.sent)
