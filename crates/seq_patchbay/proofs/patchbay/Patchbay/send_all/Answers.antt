use Rattle.std.proofs.Common.{◌≡◌, ◌++◌, sym, ap, ◌∙◌, subst, append-nil}
use Rattle.std.specs.Prelude.{OnOk}
use Rattle.std.proofs.lemmas.Bool.{eqb-true}
use Rattle.seq_state.specs.Step.{pools_after, copies_with_room}
use Rattle.seq_patchbay.specs.Leaving.{copies_of_all}
use Rattle.seq_patchbay.specs.Network.{Network}
use Rattle.seq_sending.specs.Table.{AreWaysKept}
use Rattle.seq_patchbay.proofs.Routes.{all-copies, none-come}
use Rattle.seq_patchbay.proofs.patchbay.Patchbay.send_all.Goals as goal

pub invariant_of-self : goal.invariant_of-self
invariant_of-self c = subst (λ cs. AreWaysKept cs c.self.inside.graph c.send_all.new.self) (sym c.send_all.ensures.clients) c.send_all.ensures.kept

pub returns-clause-pools : goal.returns-clause-pools
returns-clause-pools c =
    let a = c.args in
    let s = c.self.inside in
    subst (λ (n : Network). OnOk c.send_all.result (c.send_all.new.clients.pools ≡ pools_after n.clients.pools (copies_of_all n.clients.clients n.graph a.moment a.client a.port a.messages.now))) c.self.view_is
    (subst (λ ds. OnOk c.send_all.result (c.send_all.new.clients.pools ≡ pools_after s.clients.pools ds)) (all-copies s.clients.clients s.graph a.moment a.client a.port a.messages.now)
    c.send_all.ensures.pools)

pub returns-clause-sent : goal.returns-clause-sent
returns-clause-sent c =
    let a = c.args in
    let s = c.self.inside in
    subst (λ (n : Network). OnOk c.send_all.result (c.send_all.new.out.items ≡ a.out.now.items ++ copies_with_room n.clients.pools (copies_of_all n.clients.clients n.graph a.moment a.client a.port a.messages.now))) c.self.view_is
    (subst (λ ds. OnOk c.send_all.result (c.send_all.new.out.items ≡ a.out.now.items ++ copies_with_room s.clients.pools ds)) (all-copies s.clients.clients s.graph a.moment a.client a.port a.messages.now)
    c.send_all.ensures.sent)

pub returns-then-is_empty-clause-pools : goal.returns-then-is_empty-clause-pools
returns-then-is_empty-clause-pools c =
    let a = c.args in
    let n = a.self.now in
    ap (pools_after n.clients.pools) (sym (none-come n.clients.clients n.graph a.moment a.client a.port a.messages.now (eqb-true _ _ (sym c.is_empty.ensures ∙ c.if-is_empty.true))))

pub returns-then-is_empty-clause-sent : goal.returns-then-is_empty-clause-sent
returns-then-is_empty-clause-sent c =
    let a = c.args in
    let n = a.self.now in
    sym (append-nil a.out.now.items) ∙ ap (λ ds. a.out.now.items ++ copies_with_room n.clients.pools ds)
    (sym (none-come n.clients.clients n.graph a.moment a.client a.port a.messages.now (eqb-true _ _ (sym c.is_empty.ensures ∙ c.if-is_empty.true))))
