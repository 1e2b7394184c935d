-- A queue is taken, changed and put back.
use Rattle.std.proofs.Common.{◌≡◌, ◌∙◌, ℕ, Option, Some, None, refl, sym, ap}
use Rattle.std.specs.Ordering.{nat_cmp}
use Rattle.std.specs.FinMap.{FinMap, get}
use Rattle.seq_state.specs.State.{Queue, Client}
use Rattle.seq_state.specs.Effect.{with_change, queue_of, put_queue, queue_map, queue_changed}
use Rattle.seq_clients.specs.Roster.{Roster, with_client}
use Rattle.seq_clients.proofs.Changing.{get-put_same, put_later, put_again}

module _ (s : Roster) (client n : ℕ) (f : Queue → Queue) where
  abbrev pub without : Roster
  without = with_client s client (with_change (get s.clients client) (put_queue n None))

  -- without the queue that was not there
  pub taken-none : (taken : Roster) → None ≡ queue_of (get s.clients client) n → taken ≡ without → taken ≡ with_client s client (queue_changed (get s.clients client) n f)
  taken-none taken none e = e ∙ ap (λ (o : Option Queue). with_client s client (with_change (get s.clients client) (put_queue n (queue_map f o)))) none

  twice : (o : Option Client) (q : Queue) → with_change (with_change o (put_queue n None)) (put_queue n (Some q)) ≡ with_change o (put_queue n (Some q))
  twice None q = refl
  twice (Some c) q = ap (λ (m : FinMap nat_cmp Queue). Some (record c { queues = m })) (put_later c.queues n None (Some q))

  -- with another in its place
  put-back : (taken new : Roster) (q : Queue) → taken ≡ without → new ≡ with_client taken client (with_change (get taken.clients client) (put_queue n (Some q))) → new ≡ with_client s client (with_change (get s.clients client) (put_queue n (Some q)))
  put-back taken new q e h =
      h ∙ ap (λ (r : Roster). with_client r client (with_change (get r.clients client) (put_queue n (Some q)))) e
      ∙ ap (λ (o : Option Client). with_client without client (with_change o (put_queue n (Some q)))) (get-put_same s.clients client (with_change (get s.clients client) (put_queue n None)))
      ∙ ap (λ (o : Option Client). with_client without client o) (twice (get s.clients client) q)
      ∙ ap (λ (m : FinMap nat_cmp Client). record s { clients = m }) (put_later s.clients client (with_change (get s.clients client) (put_queue n None)) (with_change (get s.clients client) (put_queue n (Some q))))

  pub requeued : (taken new : Roster) (was is : Queue) → Some was ≡ queue_of (get s.clients client) n → taken ≡ without → is ≡ f was → new ≡ with_client taken client (with_change (get taken.clients client) (put_queue n (Some is))) → new ≡ with_client s client (queue_changed (get s.clients client) n f)
  requeued taken new was is there e k h =
      put-back taken new is e h ∙ ap (λ (q : Queue). with_client s client (with_change (get s.clients client) (put_queue n (Some q)))) k
      ∙ ap (λ (o : Option Queue). with_client s client (with_change (get s.clients client) (put_queue n (queue_map f o)))) there

  -- with the same in its place
  pub requeued-same : (taken new : Roster) (was is : Queue) → Some was ≡ queue_of (get s.clients client) n → taken ≡ without → is ≡ was → new ≡ with_client taken client (with_change (get taken.clients client) (put_queue n (Some is))) → new ≡ s
  requeued-same taken new was is there e k h =
      put-back taken new is e h ∙ ap (λ (q : Queue). with_client s client (with_change (get s.clients client) (put_queue n (Some q)))) k
      ∙ ap (with_client s client) (same (get s.clients client) there)
      ∙ ap (λ (m : FinMap nat_cmp Client). record s { clients = m }) (sym (put_again s.clients client (get s.clients client) refl))
    where
      same : (o : Option Client) → Some was ≡ queue_of o n → with_change o (put_queue n (Some was)) ≡ o
      same None t = refl
      same (Some c) t = ap (λ (m : FinMap nat_cmp Queue). Some (record c { queues = m })) (sym (put_again c.queues n (Some was) (sym t)))
