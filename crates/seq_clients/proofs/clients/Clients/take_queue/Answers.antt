use Rattle.std.proofs.Common.{◌∙◌, Some, None, ap, refl}
use Rattle.std.specs.Ordering.{nat_cmp}
use Rattle.std.specs.FinMap.{FinMap}
use Rattle.seq_state.specs.State.{Queue}
use Rattle.seq_state.specs.Effect.{put_queue}
use Rattle.seq_clients.specs.Kept.{client_seen}
use Rattle.seq_clients.proofs.Changing.{back-kept, row-seen, queue-told, absent-kept, absent-seen, absent-queue}
use Rattle.seq_clients.proofs.clients.Clients.take_queue.Goals as goal

pub invariant_of-self : goal.invariant_of-self
invariant_of-self c = absent-kept c.self.inside.nodes c.self.inside.rows _ c.self.invariant c.self.view_is c.args.client _ c.in_err-row.ensures.value c.in_err-row.ensures.left

pub returns-in_err-row-clause-value : goal.returns-in_err-row-clause-value
returns-in_err-row-clause-value c = c.from_residual.ensures ∙ absent-queue c.self.inside.nodes c.self.inside.rows _ c.self.invariant c.self.view_is c.args.client _ c.in_err-row.ensures.value c.in_err-row.ensures.left c.args.queue

pub returns-in_err-row-clause-left : goal.returns-in_err-row-clause-left
returns-in_err-row-clause-left c = absent-seen c.self.inside.nodes c.self.inside.rows _ c.self.invariant c.self.view_is c.args.client _ c.in_err-row.ensures.value c.in_err-row.ensures.left (put_queue c.args.queue None)

pub invariant_of-self-2 : goal.invariant_of-self-2
invariant_of-self-2 c = back-kept c.self.inside.nodes c.self.inside.rows _ c.self.invariant c.self.view_is c.args.client _ _ _ _ (ap Some c.deref_mut.ensures.value ∙ c.in_ok-row.ensures.value) c.in_ok-row.ensures.left c.insert.ensures

pub returns-clause-value : goal.returns-clause-value
returns-clause-value c = c.remove-held.ensures.value ∙ queue-told c.self.inside.nodes c.self.inside.rows _ c.self.invariant c.self.view_is c.args.client _ _ _ _ (ap Some c.deref_mut.ensures.value ∙ c.in_ok-row.ensures.value) c.in_ok-row.ensures.left c.insert.ensures c.args.queue

pub returns-clause-left : goal.returns-clause-left
returns-clause-left c =
    row-seen c.self.inside.nodes c.self.inside.rows _ c.self.invariant c.self.view_is c.args.client _ _ _ _ (ap Some c.deref_mut.ensures.value ∙ c.in_ok-row.ensures.value) c.in_ok-row.ensures.left c.insert.ensures
    (put_queue c.args.queue None) (λ n. ap (λ (qs : FinMap nat_cmp Queue). record (client_seen c.deref_mut.result.now n) { queues = qs }) c.remove-held.ensures.left) refl
