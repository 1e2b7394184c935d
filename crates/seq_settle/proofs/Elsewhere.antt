-- Queues that a change of clients leaves as they are.
use Rattle.std.proofs.Common.{◌≡◌, ℕ, Bool, true, false, not, cond, eqb, ◌&&◌, ◌||◌, Option, Some, None, refl, sym, ap, ◌∙◌, arith, eq-eqb}
use Rattle.std.specs.Ordering.{nat_cmp}
use Rattle.std.specs.FinMap
use Rattle.std.specs.FinMap.{FinMap}
use Rattle.std.proofs.lemmas.Bool.{eqb-true}
use Rattle.node_table.specs.declared.number.QueueAddr.{QueueAddr}
use Rattle.seq_state.specs.State.{Client, OwnedPlayback, Queue, with_entry, queues_of}
use Rattle.seq_state.specs.Effect.{put_queue}
use Rattle.seq_state.specs.Step.{moment_in}
use Rattle.seq_state.proofs.Effects.{get-put}
use Rattle.seq_settle.specs.declared.which.Which.TheVariants.{OnQueue, AllAndOnQueues}
use Rattle.seq_settle.specs.Moments.{queue_in, SameMoments}
use Rattle.seq_settle.specs.Drops.{stays}
use Rattle.seq_settle.proofs.Stores.{get-put_other}

-- the same queue gives the same moments
pub same_queue : (was clients : FinMap nat_cmp Client) (q : QueueAddr) → queue_in was q ≡ queue_in clients q → SameMoments was clients q
same_queue was clients q e accepted due = ap (λ o. moment_in o accepted due) e

-- the queues of other clients
pub of_others : (clients : FinMap nat_cmp Client) (actor : ℕ) (o : Option Client) (q : QueueAddr) → (q.client ≡ actor → ⊥) → SameMoments clients (with_entry clients actor o) q
of_others clients actor o q n = same_queue clients (with_entry clients actor o) q (ap (λ c. FinMap.get (queues_of c) q.queue) (sym (get-put_other clients actor o q.client n)))

-- all queues, where the client's own are as they were
pub queues_same : (clients : FinMap nat_cmp Client) (actor : ℕ) (o : Option Client) → queues_of o ≡ queues_of (FinMap.get clients actor) → (q : QueueAddr) → SameMoments clients (with_entry clients actor o) q
queues_same clients actor o e q = same_queue clients (with_entry clients actor o) q (sym (ap (λ x. FinMap.get (queues_of x) q.queue) (get-put clients actor o q.client) ∙ go (eqb q.client actor) refl))
  where
    go : (b : Bool) → eqb q.client actor ≡ b → FinMap.get (queues_of (cond b o (FinMap.get clients q.client))) q.queue ≡ queue_in clients q
    go true t = ap (λ m. FinMap.get m q.queue) (e ∙ ap (λ n. queues_of (FinMap.get clients n)) (sym (eqb-true q.client actor t)))
    go false t = refl

queues_put : (n : ℕ) (o : Option Queue) (c : Client) → (put_queue n o c).queues ≡ with_entry c.queues n o
queues_put n None c = refl
queues_put n (Some q) c = refl

-- the other queues, where one of a client's changes
pub but_one : (clients : FinMap nat_cmp Client) (actor n : ℕ) (c : Client) (o : Option Queue) → FinMap.get clients actor ≡ Some c →
    (q : QueueAddr) → (q ≡ record { client = actor; queue = n } → ⊥) → SameMoments clients (with_entry clients actor (Some (put_queue n o c))) q
but_one clients actor n c o here q other = same_queue clients (with_entry clients actor (Some (put_queue n o c))) q (sym (ap (λ x. FinMap.get (queues_of x) q.queue) (get-put clients actor (Some (put_queue n o c)) q.client) ∙ go (eqb q.client actor) refl))
  where
    inner : (b : Bool) → eqb q.queue n ≡ b → q.client ≡ actor → cond b o (FinMap.get c.queues q.queue) ≡ FinMap.get c.queues q.queue
    inner true t e = let m : q.queue ≡ n = eqb-true q.queue n t in absurd (other (ap (λ x. let a : QueueAddr = record { client = x; queue = q.queue } in a) e ∙ ap (λ x. let a : QueueAddr = record { client = actor; queue = x } in a) m))
    inner false t e = refl

    go : (b : Bool) → eqb q.client actor ≡ b → FinMap.get (queues_of (cond b (Some (put_queue n o c)) (FinMap.get clients q.client))) q.queue ≡ queue_in clients q
    go true t =
        let e : q.client ≡ actor = eqb-true q.client actor t in
        ap (λ m. FinMap.get m q.queue) (queues_put n o c) ∙ get-put c.queues n o q.queue ∙ inner (eqb q.queue n) refl e ∙ sym (ap (λ x. FinMap.get (queues_of x) q.queue) (ap (FinMap.get clients) e ∙ here))
    go false t = refl

-- ---- what stays is elsewhere

both_go : (a b : Bool) → not ((a && true) || (b && true)) ≡ true → b ≡ true → ⊥
both_go a b h t = grind arith

pub off_queues : (actor : ℕ) (p : OwnedPlayback) → stays actor AllAndOnQueues p ≡ true → p.queue.client ≡ actor → ⊥
off_queues actor p h e = both_go (eqb p.client actor) (eqb p.queue.client actor) h (eq-eqb p.queue.client actor e)

one_goes : (a b c : Bool) → not ((a && false) || (b && c)) ≡ true → b ≡ true → c ≡ true → ⊥
one_goes a b c h t u = grind arith

pub off_queue : (actor n : ℕ) (p : OwnedPlayback) → stays actor (OnQueue n) p ≡ true → p.queue ≡ record { client = actor; queue = n } → ⊥
off_queue actor n p h e =
    one_goes (eqb p.client actor) (eqb p.queue.client actor) (eqb p.queue.queue n) h (eq-eqb p.queue.client actor (ap (λ (q : QueueAddr). q.client) e)) (eq-eqb p.queue.queue n (ap (λ (q : QueueAddr). q.queue) e))
