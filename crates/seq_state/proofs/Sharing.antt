-- Who may use a queue.
use Rattle.std.proofs.Common.{◌≡◌, ℕ, Bool, true, false, not, cond, eqb, ◌&&◌, ◌||◌, List, [], ◌∷◌, Option, Some, None, refl, sym, ap, subst, ◌∙◌, arith}
use Rattle.std.specs.Prelude.{is_some}
use Rattle.std.specs.Ordering.{nat_cmp}
use Rattle.std.specs.FinMap
use Rattle.std.specs.FinMap.{get-empty}
use Rattle.std.proofs.lemmas.Bool.{false≢true, eqb-true, not-false, not_from_false}
use Rattle.node_table.specs.declared.number.QueueAddr.{QueueAddr}
use Rattle.seq_state.specs.declared.input.Command.{Command}
use Rattle.seq_state.specs.declared.input.Command.TheVariants.{DeleteQueue, Start, Stop, Continue, Tempo, QueueStatus, Share, Schedule, Play}
use Rattle.seq_state.specs.declared.refusal.Refusal.{Refusal}
use Rattle.seq_state.specs.declared.refusal.Refusal.TheVariants.{NotYours}
use Rattle.smf_grammar.specs.Played.{PlayedFile}
use Rattle.seq_state.specs.State.{Queue, Client, State}
use Rattle.seq_state.specs.Effect.{queue_of, queue_map, queue_changed, public}
use Rattle.seq_state.specs.Table.{CommandView, Condition, first_refusal, command_row, queue_named, visible, not_open, not_yours, no_queue}
use Rattle.seq_state.specs.Step.{Stepped, view_of, row_of, refusal_of, command_step}
use Rattle.seq_state.specs.Changes.{holds, queue_at, client_after, ShareLaw, NotYoursLaw}
use Rattle.seq_state.proofs.Changes.{get-put_queue, same_number, done}
use Rattle.seq_state.proofs.Effects.{get-put}

-- ---- a Share

-- where nothing is refused, no condition holds
none_first : (c : Condition) (cs : List Condition) → first_refusal (c ∷ cs) ≡ None → (c.1 ≡ false) × (first_refusal cs ≡ None)
none_first c cs h = go c.1 refl h
  where
    go : (b : Bool) → c.1 ≡ b → cond b (Some c.0) (first_refusal cs) ≡ None → (c.1 ≡ false) × (first_refusal cs ≡ None)
    go true e n = absurd (let bad : ⊥ = cc in bad)
    go false e n = (e, n)

queue_here : (client : Option Client) (n : ℕ) → queue_of (queue_changed client n public) n ≡ queue_map public (queue_of client n)
queue_here None n = get-empty nat_cmp n ∙ sym (ap (queue_map public) (get-empty nat_cmp n))
queue_here (Some c) n =
    get-put_queue n (queue_map public (FinMap.get c.queues n)) c n
    ∙ ap (λ b. cond b (queue_map public (FinMap.get c.queues n)) (FinMap.get c.queues n)) (same_number n)

module _ (files : List PlayedFile) (s : State) (moment actor : ℕ) (q : QueueAddr) (r : refusal_of files s moment actor (Share q) ≡ None) where
  a : CommandView
  a = view_of files s moment actor (Share q)

  not_refused : first_refusal (not_open a ∷ not_yours a q ∷ no_queue a q ∷ []) ≡ None
  unfolding command_row a
  not_refused = r

  answers : (not (eqb q.client actor) ≡ false) × (not (is_some (queue_of (FinMap.get s.clients actor) q.queue)) ≡ false)
  unfolding a
  answers =
      let later = none_first (not_open a) (not_yours a q ∷ no_queue a q ∷ []) not_refused in
      let mine = none_first (not_yours a q) (no_queue a q ∷ []) later.1 in
      let there = none_first (no_queue a q) [] mine.1 in
      (mine.0, there.0)

  is_actors : q.client ≡ actor
  is_actors = eqb-true q.client actor (not-false (eqb q.client actor) answers.0)

  pub is_there : is_some (queue_of (FinMap.get s.clients actor) q.queue) ≡ true
  is_there = not-false (is_some (queue_of (FinMap.get s.clients actor) q.queue)) answers.1

  shared_after : queue_of (client_after files s moment actor (Share q) actor) q.queue ≡ queue_map public (queue_of (FinMap.get s.clients actor) q.queue)
  unfolding command_row
  shared_after =
      let client : Option Client = FinMap.get s.clients actor in
      let then : Option Client = queue_changed client q.queue public in
      ap (λ (x : Stepped). queue_of (FinMap.get x.state.clients actor) q.queue) (done files s moment actor (Share q) r)
      ∙ ap (λ o. queue_of o q.queue) (get-put s.clients actor then actor ∙ ap (λ b. cond b then client) (same_number actor))
      ∙ queue_here client q.queue

  pub found : (o : Option Queue) → queue_of (FinMap.get s.clients actor) q.queue ≡ o → is_some o ≡ true →
      (before : Queue) × (queue_at s q ≡ Some before) × (queue_at (command_step files s moment actor (Share q)).state q ≡ Some (record before { shared = true }))
  found None e h = absurd (false≢true h)
  found (Some before) e h = (
    before,
    ap (λ n. queue_of (FinMap.get s.clients n) q.queue) is_actors ∙ e,
    ap (λ n. queue_of (client_after files s moment actor (Share q) n) q.queue) is_actors ∙ shared_after ∙ ap (queue_map public) e,
  )

pub share_law : ShareLaw
share_law files s moment actor q r = found files s moment actor q r (queue_of (FinMap.get s.clients actor) q.queue) refl (is_there files s moment actor q r)

-- ---- a private queue

-- whoever does not own it does not see it
unseen : (actor owner : ℕ) (o : Option Queue) → eqb owner actor ≡ false → ((k : Queue) → o ≡ Some k → k.shared ≡ false) → is_some (visible actor owner o) ≡ false
unseen actor owner None h private = refl
unseen actor owner (Some k) h private =
    ap (λ b. is_some (cond (b || k.shared) (Some k) None)) h
    ∙ ap (λ b. is_some (cond b (Some k) None)) (private k refl)

-- the second and the third of a list of conditions holds
second : (x y z : Bool) → y ≡ true → ((x && false) || ((y && true) || z)) ≡ true
second x y z e = grind arith

third : (x y z w : Bool) → z ≡ true → ((x && false) || ((y && false) || ((z && true) || w))) ≡ true
third x y z w e = grind arith

both : (x y : Bool) → x ≡ false → y ≡ false → (not x && not y) ≡ true
both x y e f = grind arith

-- where a condition holds, a refusal is reported
stood : (r : Refusal) (cs : List Condition) → holds r cs ≡ true → is_some (first_refusal cs) ≡ true
stood r [] h = absurd (false≢true h)
stood r (c ∷ cs) h = go c.1 h (stood r cs)
  where
    go : (b : Bool) → holds r ((c.0, b) ∷ cs) ≡ true → (holds r cs ≡ true → is_some (first_refusal cs) ≡ true) → is_some (cond b (Some c.0) (first_refusal cs)) ≡ true
    go true k later = refl
    go false k later = later k

same : {p q : QueueAddr} → Some p ≡ Some q → p ≡ q
same e = cc

module _ (files : List PlayedFile) (s : State) (moment actor : ℕ) where
  abbrev IsOthers : QueueAddr → Type 0
  IsOthers q = not (eqb q.client actor) ≡ true

  abbrev IsUnseen : QueueAddr → Type 0
  IsUnseen q = (not (eqb q.client actor) && not (is_some (visible actor q.client (queue_at s q)))) ≡ true

  -- the condition of each command that names a queue
  named : (command : Command) (q : QueueAddr) → queue_named command ≡ Some q → IsOthers q → IsUnseen q →
      holds NotYours (row_of files s moment actor command).conditions ≡ true
  unfolding command_row
  named (DeleteQueue p) q e mine seen = second _ _ _ (subst IsOthers (sym (same e)) mine)
  named (Start p) q e mine seen = second _ _ _ (subst IsOthers (sym (same e)) mine)
  named (Stop p) q e mine seen = second _ _ _ (subst IsOthers (sym (same e)) mine)
  named (Continue p) q e mine seen = second _ _ _ (subst IsOthers (sym (same e)) mine)
  named (Tempo p tempo) q e mine seen = second _ _ _ (subst IsOthers (sym (same e)) mine)
  named (QueueStatus p) q e mine seen = second _ _ _ (subst IsUnseen (sym (same e)) seen)
  named (Share p) q e mine seen = second _ _ _ (subst IsOthers (sym (same e)) mine)
  named (Schedule p port due message) q e mine seen = third _ _ _ _ (subst IsUnseen (sym (same e)) seen)
  named (Play p port file) q e mine seen = third _ _ _ _ (subst IsUnseen (sym (same e)) seen)
  named command q e mine seen = absurd (let bad : ⊥ = cc in bad)

pub not_yours_law : NotYoursLaw
not_yours_law files s moment actor command q e other private =
    let mine : not (eqb q.client actor) ≡ true = not_from_false _ other in
    let stands = named files s moment actor command q e mine (both _ _ other (unseen actor q.client (queue_at s q) other private)) in
    (stands, stood NotYours (row_of files s moment actor command).conditions stands)
