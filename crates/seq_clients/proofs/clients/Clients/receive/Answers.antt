use Rattle.std.proofs.Common.{◌∙◌, Some, ap, refl}
use Rattle.std.proofs.lemmas.Result.{IfOk-weaker, on_ok_weaker, on_err_weaker}
use Rattle.cell_pools.specs.Pools.{after_take}
use Rattle.seq_state.specs.Effect.{oldest, without_oldest}
use Rattle.std.specs.FinMap.{get}
use Rattle.seq_clients.specs.Roster.{with_pool}
use Rattle.seq_clients.proofs.Changing.{left-oldest, back-kept, pool-seen, pool-same, pool-told, absent-kept, absent-left, absent-pool}
use Rattle.seq_clients.proofs.clients.Clients.receive.Goals as goal

pub invariant_of-self : goal.invariant_of-self
invariant_of-self c = absent-kept c.self.inside.nodes c.self.inside.rows _ c.self.invariant c.self.view_is c.args.client _ c.in_default.ensures.value c.in_default.ensures.left

pub returns-in_default-clause-ok : goal.returns-in_default-clause-ok
returns-in_default-clause-ok c = c.new.ensures.items ∙ ap (oldest c.args.max) (absent-pool c.self.inside.nodes c.self.inside.rows _ c.self.invariant c.self.view_is c.args.client _ c.in_default.ensures.value c.in_default.ensures.left)

pub returns-in_default-clause-left : goal.returns-in_default-clause-left
returns-in_default-clause-left c = absent-left c.self.inside.nodes c.self.inside.rows _ c.self.invariant c.self.view_is c.args.client _ c.in_default.ensures.value c.in_default.ensures.left (without_oldest c.args.max) refl

pub invariant_of-self-2 : goal.invariant_of-self-2
invariant_of-self-2 c = back-kept c.self.inside.nodes c.self.inside.rows _ c.self.invariant c.self.view_is c.args.client _ _ _ _ (ap Some c.deref_mut.ensures.value ∙ c.in-Some.ensures.value) c.in-Some.ensures.left c.insert.ensures

pub returns-clause-ok : goal.returns-clause-ok
returns-clause-ok c = IfOk-weaker c.take-taken.result _ _ (λ items e. e ∙ ap (oldest c.args.max) (pool-told c.self.inside.nodes c.self.inside.rows _ c.self.invariant c.self.view_is c.args.client _ _ _ _ (ap Some c.deref_mut.ensures.value ∙ c.in-Some.ensures.value) c.in-Some.ensures.left c.insert.ensures)) c.take-taken.ensures.ok

pub returns-clause-left : goal.returns-clause-left
returns-clause-left c = on_ok_weaker c.take-taken.result (λ e. pool-seen c.self.inside.nodes c.self.inside.rows _ c.self.invariant c.self.view_is c.args.client _ _ _ _ (ap Some c.deref_mut.ensures.value ∙ c.in-Some.ensures.value) c.in-Some.ensures.left c.insert.ensures (after_take c.args.max) (λ n. refl) e ∙ ap (with_pool c.args.self.now c.args.client) (left-oldest c.args.max (get c.args.self.now.pools c.args.client))) c.take-taken.ensures.left

pub returns-clause-err : goal.returns-clause-err
returns-clause-err c = on_err_weaker c.take-taken.result (λ e. pool-same c.self.inside.nodes c.self.inside.rows _ c.self.invariant c.self.view_is c.args.client _ _ _ _ (ap Some c.deref_mut.ensures.value ∙ c.in-Some.ensures.value) c.in-Some.ensures.left c.insert.ensures (λ n. refl) e) c.take-taken.ensures.err
