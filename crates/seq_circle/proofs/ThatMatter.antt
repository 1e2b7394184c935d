-- The inputs that can't matter change nothing, so what the others find is what all find.
use Rattle.std.proofs.Common.{◌≡◌, ℕ, zero, suc, ◌+◌, ◌<◌, ◌≤◌, Bool, true, false, not, cond, eqb, ◌&&◌, ◌||◌, List, [], ◌∷◌, ◌++◌, length, take, get_or, Option, Some, None, refl, sym, ap, subst, ◌∙◌, arith, append-nil, append_assoc}
use Rattle.std.specs.Prelude.{slice_get, slice_index_or, is_some}
use Rattle.std.specs.List.{fold}
use Rattle.std.specs.Option.{option_map}
use Rattle.std.proofs.lemmas.Bool.{false≢true}
use Rattle.std.proofs.lemmas.Bool.Decides.{nat_tests}
use Rattle.std.proofs.lemmas.List.{take_more, take_all}
use Rattle.std.proofs.lemmas.List.Sums.{fold_push}
use Rattle.std.proofs.lemmas.Option.{slice_get_read}
use Rattle.node_table.specs.declared.number.QueueAddr.{QueueAddr}
use Rattle.seq_state.specs.declared.input.Command.{Command}
use Rattle.seq_state.specs.declared.input.Command.TheVariants.{CreatePort, CreateFilter, Connect, Disconnect}
use Rattle.seq_state.specs.declared.input.Input.{Input}
use Rattle.seq_state.specs.Table.{queue_named}
use Rattle.seq_state.specs.Circle.{aims_outside}
use Rattle.seq_circle.specs.declared.members.Joined.{Joined}
use Rattle.seq_circle.specs.Shut.{opens, target_of, asked_client, is_joinable}
use Rattle.seq_circle.specs.Mending.{making_of}
use Rattle.seq_circle.specs.Least.{is_member, place_if, places_from, places_where, opens_circle, reaches_out}
use Rattle.seq_circle.specs.Finding.{unless_member, missing_client, with_joined, found_after, found_after_all}
use Rattle.seq_circle.specs.Mattering.{is_joinable_made, is_of_another, matters}

-- ---- one input

-- it has no target, makes nothing that anyone may join, and names no queue of another
record IsIdle (i : Input) : Type 0 where
  no_target : is_some (target_of i.command) ≡ false
  closed : is_joinable_made (making_of i.command) ≡ false
  own : is_of_another i.actor (queue_named i.command) ≡ false

idle : (i : Input) → matters i ≡ false → IsIdle i
idle i h = go (is_some (target_of i.command)) (is_joinable_made (making_of i.command)) (is_of_another i.actor (queue_named i.command)) refl refl refl h
  where
    go : (a b c : Bool) → is_some (target_of i.command) ≡ a → is_joinable_made (making_of i.command) ≡ b → is_of_another i.actor (queue_named i.command) ≡ c → (a || (b || c)) ≡ false → IsIdle i
    go true b c e f g h = absurd (false≢true (sym h))
    go false true c e f g h = absurd (false≢true (sym h))
    go false false true e f g h = absurd (false≢true (sym h))
    go false false false e f g h = record { no_target = e; closed = f; own = g }

-- without a target it asks for the client of the queue that it names
asks_by_queue : (owner : ℕ) (member : ℕ → Bool) (command : Command) → is_some (target_of command) ≡ false → asked_client owner member command ≡ option_map (λ q. q.client) (queue_named command)
asks_by_queue owner member (Connect source target) h = absurd (false≢true (sym h))
asks_by_queue owner member (Disconnect source target) h = absurd (false≢true (sym h))
asks_by_queue owner member command h = refl

aims_nowhere : (owner : ℕ) (member : ℕ → Bool) (command : Command) → is_some (target_of command) ≡ false → aims_outside owner member command ≡ false
aims_nowhere owner member (Connect source target) h = absurd (false≢true (sym h))
aims_nowhere owner member (Disconnect source target) h = absurd (false≢true (sym h))
aims_nowhere owner member command h = refl

and_false : (a b : Bool) → b ≡ false → (a && b) ≡ false
and_false a b h = grind arith

opens_nothing : (owner actor : ℕ) (command : Command) → is_joinable_made (making_of command) ≡ false → opens owner actor command ≡ false
opens_nothing owner actor (CreatePort port name caps) h = and_false (eqb actor owner) (is_joinable caps.0) h
opens_nothing owner actor (CreateFilter filter caps rule) h = h
opens_nothing owner actor command h = refl

module _ (owner : ℕ) (joined : List Joined) (i : Input) (h : matters i ≡ false) where
  -- a member that asks for itself misses nobody
  pub misses_nobody : missing_client owner joined i ≡ None
  misses_nobody =
      ap (λ o. cond (member i.actor) (unless_member member o) None) (asks_by_queue owner member i.command (idle i h).no_target)
      ∙ go (member i.actor) refl (queue_named i.command) (idle i h).own
    where
      member : ℕ → Bool
      member = is_member owner joined

      itself : (b : Bool) → member i.actor ≡ b → (c : ℕ) → c ≡ i.actor → cond b (unless_member member (Some c)) None ≡ None
      itself true m c e = ap (λ b. cond b None (Some c)) (ap member e ∙ m)
      itself false m c e = refl

      same : (c : ℕ) → not (eqb c i.actor) ≡ false → c ≡ i.actor
      same c e = grind (arith, nat_tests)

      go : (b : Bool) → member i.actor ≡ b → (o : Option QueueAddr) → is_of_another i.actor o ≡ false → cond b (unless_member member (option_map (λ q. q.client) o)) None ≡ None
      go true m None e = refl
      go false m None e = refl
      go b m (Some q) e = itself b m q.client (same q.client e)

  pub opens_none : opens_circle owner joined i ≡ false
  opens_none = and_false (is_member owner joined i.actor) (opens owner i.actor i.command) (opens_nothing owner i.actor i.command (idle i h).closed)

  pub reaches_nothing : reaches_out owner joined i ≡ false
  reaches_nothing = and_false (eqb i.actor owner) (aims_outside owner (is_member owner joined) i.command) (aims_nowhere owner (is_member owner joined) i.command (idle i h).no_target)

-- ---- the places of those that pass a test

-- each is within the list
within_from : {X : Type 0} (p : X → Bool) (n : ℕ) (xs : List X) (i d : ℕ) → i < length (places_from p n xs) → get_or (places_from p n xs) i d < n + length xs
within_from p n [] i d l = absurd (omega arith)
within_from p n (x ∷ xs) i d l = go (p x) i l (within_from p (n + 1) xs)
  where
    go : (c : Bool) (j : ℕ) → j < length (place_if c n ++ places_from p (n + 1) xs) → ((k e : ℕ) → k < length (places_from p (n + 1) xs) → get_or (places_from p (n + 1) xs) k e < n + 1 + length xs) →
        get_or (place_if c n ++ places_from p (n + 1) xs) j d < n + suc (length xs)
    go true zero m more = omega arith
    go true (suc j) m more = omega (arith, more j d (omega arith))
    go false j m more = omega (arith, more j d m)

pub place_within : {X : Type 0} (p : X → Bool) (xs : List X) (ks : List ℕ) (i : ℕ) → ks ≡ places_where p xs → i < length ks → slice_index_or ks i 0 < length xs
place_within p xs ks i e l = subst (λ ms. get_or ms i 0 < length xs) (sym e) (omega (arith, within_from p 0 xs i 0 (subst (λ (ms : List ℕ). i < length ms) e l)))

-- ---- steps over items, and over the places of those that pass

-- each item is passed with its place, the first with this one
abbrev over_from : {X B : Type 0} → (B → ℕ → X → B) → B → ℕ → List X → B
over_from f b n [] = b
over_from f b n (x ∷ xs) = over_from f (f b n x) (n + 1) xs

abbrev pub step_by : {X B : Type 0} → (B → ℕ → X → B) → B → ℕ → Option X → B
step_by f b n None = b
step_by f b n (Some x) = f b n x

-- a step by the item at a place
abbrev pub step_at : {X B : Type 0} → (B → ℕ → X → B) → List X → B → ℕ → B
step_at f xs b n = step_by f b n (slice_get xs n)

module _ {X B : Type 0} (f : B → ℕ → X → B) (p : X → Bool) where
  -- the steps so far, and one more
  pub step_more : (xs : List X) (b : B) (ks : List ℕ) (i : ℕ) (x : X) → ks ≡ places_where p xs → i < length ks → x ≡ get_or xs (slice_index_or ks i 0) x →
      fold (step_at f xs) b (take (i + 1) ks) ≡ f (fold (step_at f xs) b (take i ks)) (slice_index_or ks i 0) x
  step_more xs b ks i x e l g =
      ap (fold (step_at f xs) b) (take_more ks i 0 l)
      ∙ fold_push (step_at f xs) b (take i ks) (slice_index_or ks i 0)
      ∙ ap (step_by f (fold (step_at f xs) b (take i ks)) (slice_index_or ks i 0)) (slice_get_read xs (length xs) (slice_index_or ks i 0) x refl (place_within p xs ks i e l) g)

  -- what does not pass changes nothing: so the steps by those that pass are all
  module _ (still : (b : B) (n : ℕ) (x : X) → p x ≡ false → f b n x ≡ b) where
    steps_from : (xs rest : List X) (b : B) (n : ℕ) → ((k : ℕ) → slice_get xs (n + k) ≡ slice_get rest k) → fold (step_at f xs) b (places_from p n rest) ≡ over_from f b n rest
    steps_from xs [] b n s = refl
    steps_from xs (x ∷ rest) b n s =
        go (p x) refl
        (λ c. steps_from xs rest c (n + 1) (λ k. ap (slice_get xs) (omega arith) ∙ s (suc k)))
      where
        there : slice_get xs n ≡ Some x
        there = ap (slice_get xs) (omega arith) ∙ s zero

        go : (c : Bool) → p x ≡ c → ((d : B) → fold (step_at f xs) d (places_from p (n + 1) rest) ≡ over_from f d (n + 1) rest) →
            fold (step_at f xs) b (place_if c n ++ places_from p (n + 1) rest) ≡ over_from f (f b n x) (n + 1) rest
        go true h more = ap (λ o. fold (step_at f xs) (step_by f b n o) (places_from p (n + 1) rest)) there ∙ more (f b n x)
        go false h more = more b ∙ ap (λ d. over_from f d (n + 1) rest) (sym (still b n x h))

    -- when all places are behind
    steps_all : (xs : List X) (b : B) (ks : List ℕ) (n : ℕ) → ks ≡ places_where p xs → length ks ≤ n → fold (step_at f xs) b (take n ks) ≡ over_from f b 0 xs
    steps_all xs b ks n e l =
        ap (fold (step_at f xs) b) (take_all n ks l ∙ e) ∙ steps_from xs xs b 0 (λ k. ap (slice_get xs) (omega arith))

-- ---- the members that are found

found_over : (owner : ℕ) (joined : List Joined) (n : ℕ) (inputs : List Input) → found_after_all owner joined n inputs ≡ over_from (found_after owner) joined n inputs
found_over owner joined n [] = refl
found_over owner joined n (i ∷ inputs) = found_over owner (found_after owner joined n i) (n + 1) inputs

pub found_by_places : (owner : ℕ) (joined : List Joined) (inputs : List Input) (ks : List ℕ) (n : ℕ) → ks ≡ places_where matters inputs → length ks ≤ n →
    fold (step_at (found_after owner) inputs) joined (take n ks) ≡ found_after_all owner joined 0 inputs
found_by_places owner joined inputs ks n e l =
    steps_all (found_after owner) matters (λ b m i h. ap (with_joined b m) (misses_nobody owner b i h)) inputs joined ks n e l
    ∙ sym (found_over owner joined 0 inputs)

-- ---- the places of those that pass another test

abbrev pub pushed : {X : Type 0} → (X → Bool) → List ℕ → ℕ → X → List ℕ
pushed q ks n x = ks ++ place_if (q x) n

module _ {X : Type 0} (p q : X → Bool) where
  -- the places so far, and that of one more where it passes
  pub pushed_more : (xs : List X) (ks : List ℕ) (i : ℕ) (x : X) (b : Bool) (before after : List ℕ) → ks ≡ places_where p xs → i < length ks → x ≡ get_or xs (slice_index_or ks i 0) x → b ≡ q x →
      before ≡ fold (step_at (pushed q) xs) [] (take i ks) → after ≡ before ++ place_if b (slice_index_or ks i 0) → after ≡ fold (step_at (pushed q) xs) [] (take (i + 1) ks)
  pushed_more xs ks i x b before after e l g t f h =
      h ∙ ap (λ ps. ps ++ place_if b (slice_index_or ks i 0)) f
      ∙ ap (λ c. fold (step_at (pushed q) xs) [] (take i ks) ++ place_if c (slice_index_or ks i 0)) t
      ∙ sym (step_more (pushed q) p xs [] ks i x e l g)

  pushed_over : (ks : List ℕ) (n : ℕ) (xs : List X) → over_from (pushed q) ks n xs ≡ ks ++ places_from q n xs
  pushed_over ks n [] = sym (append-nil ks)
  pushed_over ks n (x ∷ xs) = pushed_over (pushed q ks n x) (n + 1) xs ∙ append_assoc ks (place_if (q x) n) (places_from q (n + 1) xs)

  -- where none passes this test but those that pass the first
  pub pushed_all : ((x : X) → p x ≡ false → q x ≡ false) → (xs : List X) (ks : List ℕ) (n : ℕ) → ks ≡ places_where p xs → length ks ≤ n → fold (step_at (pushed q) xs) [] (take n ks) ≡ places_where q xs
  pushed_all none xs ks n e l =
      steps_all (pushed q) p (λ ps m x h. ap (λ b. ps ++ place_if b m) (none x h) ∙ append-nil ps) xs [] ks n e l
      ∙ pushed_over [] 0 xs
