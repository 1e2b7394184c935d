-- How the members of the least circle are found.
use Rattle.std.proofs.Common.{◌≡◌, ℕ, zero, suc, ◌+◌, ◌<◌, ◌≤◌, Bool, true, false, not, cond, eqb, ◌||◌, List, [], ◌∷◌, ◌++◌, length, Option, Some, None, refl, sym, ap, subst, ◌∙◌, arith}
use Rattle.std.specs.Prelude.{slice_get, nat_lt}
use Rattle.std.specs.List.{filter, list_all, list_any}
use Rattle.std.proofs.lemmas.Bool.Decides.{nat_tests}
use Rattle.std.proofs.lemmas.Bool.{false≢true, eqb-true, eq-eqb}
use Rattle.std.proofs.lemmas.List.{length-append}
use Rattle.seq_state.specs.declared.input.Input.{Input}
use Rattle.seq_state.proofs.Lists.{and_both}
use Rattle.seq_state.proofs.Effects.{none_some}
use Rattle.seq_circle.specs.declared.members.Joined.{Joined}
use Rattle.seq_circle.specs.Shut.{asked_client, is_met, stays_within}
use Rattle.seq_circle.specs.Least.{is_member, AreAsked, IsLeastCircle}
use Rattle.seq_circle.specs.Finding.{unless_member, missing_client, with_joined, found_after, found_after_all, clients_from, absent_count}
use Rattle.seq_circle.proofs.Least.{one_more, asked_push, whole_when, least_when}

-- ---- one input

-- where nobody is missing, an input of a member stays within
none_missing : (owner : ℕ) (joined : List Joined) (i : Input) → missing_client owner joined i ≡ None → (not (is_member owner joined i.actor) || stays_within owner (is_member owner joined) i) ≡ true
none_missing owner joined i e = go (is_member owner joined i.actor) (asked_client owner (is_member owner joined) i.command) e
  where
    here : (c : ℕ) (b : Bool) → cond b None (Some c) ≡ None → b ≡ true
    here c true e = refl
    here c false e = absurd (none_some c (sym e))

    go : (a : Bool) (o : Option ℕ) → cond a (unless_member (is_member owner joined) o) None ≡ None → (not a || is_met (is_member owner joined) o) ≡ true
    go true None e = refl
    go true (Some c) e = here c (is_member owner joined c) e
    go false o e = refl

-- who is missing is asked for by a member, and not there
some_missing : (owner : ℕ) (joined : List Joined) (i : Input) (c : ℕ) → missing_client owner joined i ≡ Some c →
    (is_member owner joined i.actor ≡ true) × (asked_client owner (is_member owner joined) i.command ≡ Some c) × (is_member owner joined c ≡ false)
some_missing owner joined i c e = go (is_member owner joined i.actor) (asked_client owner (is_member owner joined) i.command) e
  where
    here : (d : ℕ) (b : Bool) → is_member owner joined d ≡ b → cond b None (Some d) ≡ Some c → (◌≡◌ {A = Option ℕ} (Some d) (Some c)) × (is_member owner joined c ≡ false)
    here d true h e = absurd (none_some c e)
    here d false h e = let s : d ≡ c = cc in (e, ap (is_member owner joined) (sym s) ∙ h)

    go : (a : Bool) (o : Option ℕ) → cond a (unless_member (is_member owner joined) o) None ≡ Some c → (a ≡ true) × (o ≡ Some c) × (is_member owner joined c ≡ false)
    go false o e = absurd (none_some c e)
    go true None e = absurd (none_some c e)
    go true (Some d) e = let x = here d (is_member owner joined d) refl e in (refl, x.0, x.1)

pub missing_new : (owner : ℕ) (joined : List Joined) (i : Input) (c : ℕ) → missing_client owner joined i ≡ Some c → is_member owner joined c ≡ false
missing_new owner joined i c e = (some_missing owner joined i c e).2

-- ---- a pass over inputs

asked_one : (owner : ℕ) (inputs : List Input) (joined : List Joined) (n : ℕ) (i : Input) → slice_get inputs n ≡ Some i → AreAsked owner inputs [] joined → AreAsked owner inputs [] (found_after owner joined n i)
asked_one owner inputs joined n i there a = go (missing_client owner joined i) refl
  where
    go : (o : Option ℕ) → missing_client owner joined i ≡ o → AreAsked owner inputs [] (with_joined joined n o)
    go None e = a
    go (Some c) e =
        let s = some_missing owner joined i c e in
        asked_push owner inputs joined [] (record { client = c; place = n }) a (record { input = i; there = there; of_member = s.0; asks = s.1; new = s.2 })

asked_from : (owner : ℕ) (inputs rest : List Input) (joined : List Joined) (n : ℕ) → ((k : ℕ) (i : Input) → slice_get rest k ≡ Some i → slice_get inputs (n + k) ≡ Some i) →
    AreAsked owner inputs [] joined → AreAsked owner inputs [] (found_after_all owner joined n rest)
asked_from owner inputs [] joined n f a = a
asked_from owner inputs (i ∷ rest) joined n f a =
    asked_from owner inputs rest (found_after owner joined n i) (n + 1)
    (λ k j e. subst (λ m. slice_get inputs m ≡ Some j) (omega arith) (f (suc k) j e))
    (asked_one owner inputs joined n i (subst (λ m. slice_get inputs m ≡ Some i) (omega arith) (f zero i refl)) a)

pub asked_after : (owner : ℕ) (inputs : List Input) (joined : List Joined) → AreAsked owner inputs [] joined → AreAsked owner inputs [] (found_after_all owner joined 0 inputs)
asked_after owner inputs joined a = asked_from owner inputs inputs joined 0 (λ k i e. subst (λ m. slice_get inputs m ≡ Some i) (omega arith) e) a

with_more : (joined : List Joined) (n : ℕ) (o : Option ℕ) → length joined ≤ length (with_joined joined n o)
with_more joined n None = omega arith
with_more joined n (Some c) = omega (arith, length-append joined (record { client = c; place = n } ∷ []))

not_fewer : (owner : ℕ) (joined : List Joined) (n : ℕ) (rest : List Input) → length joined ≤ length (found_after_all owner joined n rest)
not_fewer owner joined n [] = omega arith
not_fewer owner joined n (i ∷ rest) =
    let one : length joined ≤ length (found_after owner joined n i) = with_more joined n (missing_client owner joined i) in
    let more : length (found_after owner joined n i) ≤ length (found_after_all owner (found_after owner joined n i) (n + 1) rest) = not_fewer owner (found_after owner joined n i) (n + 1) rest in
    omega arith

-- a pass that adds nobody found nobody missing
none_added : (owner : ℕ) (joined : List Joined) (n : ℕ) (rest : List Input) → length (found_after_all owner joined n rest) ≤ length joined →
    (found_after_all owner joined n rest ≡ joined) × (list_all (λ i. not (is_member owner joined i.actor) || stays_within owner (is_member owner joined) i) rest ≡ true)
none_added owner joined n [] l = (refl, refl)
none_added owner joined n (i ∷ rest) l = go (missing_client owner joined i) refl l (none_added owner joined (n + 1) rest)
  where
    Still : Type 0
    Still = length (found_after_all owner joined (n + 1) rest) ≤ length joined →
        (found_after_all owner joined (n + 1) rest ≡ joined) × (list_all (λ j. not (is_member owner joined j.actor) || stays_within owner (is_member owner joined) j) rest ≡ true)

    go : (o : Option ℕ) → missing_client owner joined i ≡ o → length (found_after_all owner (with_joined joined n o) (n + 1) rest) ≤ length joined → Still →
        (found_after_all owner (with_joined joined n o) (n + 1) rest ≡ joined) × (list_all (λ j. not (is_member owner joined j.actor) || stays_within owner (is_member owner joined) j) (i ∷ rest) ≡ true)
    go None e l more =
        let s = more l in
        (s.0, and_both (not (is_member owner joined i.actor) || stays_within owner (is_member owner joined) i) (list_all (λ j. not (is_member owner joined j.actor) || stays_within owner (is_member owner joined) j) rest) (none_missing owner joined i e) s.1)
    go (Some c) e l still =
        let j : Joined = record { client = c; place = n } in
        let more : length (joined ++ j ∷ []) ≤ length (found_after_all owner (joined ++ j ∷ []) (n + 1) rest) = not_fewer owner (joined ++ j ∷ []) (n + 1) rest in
        absurd (omega (arith, length-append joined (j ∷ [])))

pub no_more : (m n : ℕ) (b : Bool) → b ≡ nat_lt m n → b ≡ false → n ≤ m
no_more m n b e f = grind (arith, nat_tests)

-- so all are there
pub found_all : (owner : ℕ) (inputs : List Input) (joined after : List Joined) → AreAsked owner inputs [] joined → after ≡ found_after_all owner joined 0 inputs → length after ≤ length joined → IsLeastCircle owner inputs after
found_all owner inputs joined after a e l =
    let s = none_added owner joined 0 inputs (subst (λ (xs : List Joined). length xs ≤ length joined) e l) in
    subst (IsLeastCircle owner inputs) (sym (e ∙ s.0)) (least_when owner inputs joined a (whole_when owner joined inputs s.1))

-- ---- how many are not there

is_among : (base n c : ℕ) → base ≤ c → c < base + n → list_any (λ x. eqb x c) (clients_from base n) ≡ true
unfolding clients_from
is_among base zero c l h = absurd (omega arith)
is_among base (suc n) c l h = go (eqb base c) refl (λ k. is_among (base + 1) n c k (omega arith))
  where
    go : (b : Bool) → eqb base c ≡ b → (base + 1 ≤ c → list_any (λ x. eqb x c) (clients_from (base + 1) n) ≡ true) → (b || list_any (λ x. eqb x c) (clients_from (base + 1) n)) ≡ true
    go true e more = refl
    go false e more = more (grind (arith, nat_tests))

fewer : (f g : ℕ → Bool) (c : ℕ) → ((x : ℕ) → g x ≡ true → f x ≡ true) → f c ≡ true → g c ≡ false → (xs : List ℕ) → length (filter g xs) ≤ length (filter f xs)
fewer f g c w p q [] = omega arith
fewer f g c w p q (x ∷ xs) = go (f x) (g x) (w x) (fewer f g c w p q xs)
  where
    go : (a b : Bool) → (b ≡ true → a ≡ true) → length (filter g xs) ≤ length (filter f xs) → length (cond b (x ∷ filter g xs) (filter g xs)) ≤ length (cond a (x ∷ filter f xs) (filter f xs))
    go true true i l = omega arith
    go true false i l = omega arith
    go false true i l = absurd (false≢true (i refl))
    go false false i l = l

less : (f g : ℕ → Bool) (c : ℕ) → ((x : ℕ) → g x ≡ true → f x ≡ true) → f c ≡ true → g c ≡ false → (xs : List ℕ) → list_any (λ x. eqb x c) xs ≡ true → length (filter g xs) < length (filter f xs)
less f g c w p q [] h = absurd (false≢true h)
less f g c w p q (x ∷ xs) h = go (eqb x c) refl h (less f g c w p q xs)
  where
    here : (a b : Bool) → a ≡ true → b ≡ false → length (cond b (x ∷ filter g xs) (filter g xs)) < length (cond a (x ∷ filter f xs) (filter f xs))
    here true true i k = absurd (false≢true (sym k))
    here true false i k = let l : length (filter g xs) ≤ length (filter f xs) = fewer f g c w p q xs in omega arith
    here false b i k = absurd (false≢true i)

    later : (a b : Bool) → (b ≡ true → a ≡ true) → length (filter g xs) < length (filter f xs) → length (cond b (x ∷ filter g xs) (filter g xs)) < length (cond a (x ∷ filter f xs) (filter f xs))
    later true true i l = omega arith
    later true false i l = omega arith
    later false true i l = absurd (false≢true (i refl))
    later false false i l = l

    go : (b : Bool) → eqb x c ≡ b → (b || list_any (λ y. eqb y c) xs) ≡ true → (list_any (λ y. eqb y c) xs ≡ true → length (filter g xs) < length (filter f xs)) → length (filter g (x ∷ xs)) < length (filter f (x ∷ xs))
    go true e k more = let s : x ≡ c = eqb-true x c e in here (f x) (g x) (ap f s ∙ p) (ap g s ∙ q)
    go false e k more = later (f x) (g x) (w x) (more k)

pub absent_count-less : (owner : ℕ) (joined : List Joined) (j : Joined) → 128 ≤ j.client → j.client ≤ 191 → is_member owner joined j.client ≡ false → absent_count owner (joined ++ j ∷ []) < absent_count owner joined
unfolding absent_count
absent_count-less owner joined j l h n =
    less (λ c. not (is_member owner joined c)) (λ c. not (is_member owner (joined ++ j ∷ []) c)) j.client
    (λ x k. weaker (is_member owner joined x) (is_member owner (joined ++ j ∷ []) x) (eqb j.client x) (one_more owner joined j x) k)
    (ap not n)
    (ap not (one_more owner joined j j.client ∙ grown (is_member owner joined j.client) (eqb j.client j.client) (eq-eqb j.client j.client refl)))
    (clients_from 128 64) (is_among 128 64 j.client l (omega arith))
  where
    weaker : (a b e : Bool) → b ≡ (a || e) → not b ≡ true → not a ≡ true
    weaker a b e s k = grind arith

    grown : (a e : Bool) → e ≡ true → (a || e) ≡ true
    grown a e h = grind arith
