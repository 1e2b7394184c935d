use Rattle.std.proofs.Common.{◌∙◌, Some, ap, refl}
use Rattle.std.specs.Ordering.{nat_cmp}
use Rattle.std.specs.FinMap.{FinMap}
use Rattle.seq_state.specs.State.{Queue}
use Rattle.seq_state.specs.Effect.{put_queue}
use Rattle.seq_clients.specs.Kept.{client_seen}
use Rattle.seq_clients.proofs.Changing.{back-kept, row-seen, absent-kept, absent-seen}
use Rattle.seq_clients.proofs.clients.Clients.put_queue.Goals as goal

pub invariant_of-self : goal.invariant_of-self
invariant_of-self c = absent-kept c.self.inside.nodes c.self.inside.rows _ c.self.invariant c.self.view_is c.args.client _ c.in_default.ensures.value c.in_default.ensures.left

pub returns-in_default : goal.returns-in_default
returns-in_default c = absent-seen c.self.inside.nodes c.self.inside.rows _ c.self.invariant c.self.view_is c.args.client _ c.in_default.ensures.value c.in_default.ensures.left (put_queue c.args.queue (Some c.args.held))

pub invariant_of-self-2 : goal.invariant_of-self-2
invariant_of-self-2 c = back-kept c.self.inside.nodes c.self.inside.rows _ c.self.invariant c.self.view_is c.args.client _ _ _ _ (ap Some c.deref_mut.ensures.value ∙ c.in-Some.ensures.value) c.in-Some.ensures.left c.insert-2.ensures

pub returns : goal.returns
returns c =
    row-seen c.self.inside.nodes c.self.inside.rows _ c.self.invariant c.self.view_is c.args.client _ _ _ _ (ap Some c.deref_mut.ensures.value ∙ c.in-Some.ensures.value) c.in-Some.ensures.left c.insert-2.ensures
    (put_queue c.args.queue (Some c.args.held)) (λ n. ap (λ (qs : FinMap nat_cmp Queue). record (client_seen c.deref_mut.result.now n) { queues = qs }) c.insert.ensures) refl
