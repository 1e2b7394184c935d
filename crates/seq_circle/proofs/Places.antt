-- The places of what passes a test.
use Rattle.std.proofs.Common.{◌≡◌, ◌≢◌, ℕ, ◌+◌, ◌<◌, Bool, true, false, not, cond, ◌&&◌, ◌||◌, List, [], ◌∷◌, ◌++◌, length, take, get_or, refl, sym, ap, ◌∙◌, arith, append_assoc, append-nil}
use Rattle.std.specs.List.{list_all}
use Rattle.std.proofs.lemmas.Bool.{false≢true}
use Rattle.std.proofs.lemmas.List.{take_more, length-take-le}
use Rattle.seq_state.specs.declared.input.Input.{Input}
use Rattle.seq_state.specs.Circle.{only}
use Rattle.seq_state.proofs.Lists.{both_left, both_right, and_both}
use Rattle.seq_circle.specs.declared.members.Joined.{Joined}
use Rattle.seq_circle.specs.Shut.{opens, is_whole_circle, lets_none_in, is_shut}
use Rattle.seq_circle.specs.Least.{is_member, IsLeastCircle, NoneIsShut, place_if, places_from, places_where, opens_circle}
use Rattle.seq_circle.proofs.Least.{filter_passes}

module _ {X : Type 0} (p : X → Bool) where
  -- one more
  places-front : (n : ℕ) (xs : List X) (x : X) → places_from p n (xs ++ x ∷ []) ≡ places_from p n xs ++ place_if (p x) (n + length xs)
  places-front n [] x = append-nil (place_if (p x) n) ∙ ap (place_if (p x)) (omega arith)
  places-front n (y ∷ ys) x =
      ap (λ ks. place_if (p y) n ++ ks) (places-front (n + 1) ys x)
      ∙ sym (append_assoc (place_if (p y) n) (places_from p (n + 1) ys) (place_if (p x) (n + 1 + length ys)))
      ∙ ap (λ k. (place_if (p y) n ++ places_from p (n + 1) ys) ++ place_if (p x) k) (omega arith)

  places-more : (xs : List X) (k : ℕ) (x : X) → k < length xs → x ≡ get_or xs k x → places_where p (take (k + 1) xs) ≡ places_where p (take k xs) ++ place_if (p x) k
  places-more xs k x l e =
      ap (places_from p 0) (take_more xs k x l ∙ ap (λ y. take k xs ++ y ∷ []) (sym e))
      ∙ places-front 0 (take k xs) x
      ∙ ap (λ n. places_from p 0 (take k xs) ++ place_if (p x) n) (omega (arith, length-take-le k xs (omega arith)))

  -- the places so far, and that of one more where it passes
  pub places-pushed : (xs : List X) (k : ℕ) (x : X) (b : Bool) (before after : List ℕ) → k < length xs → x ≡ get_or xs k x → b ≡ p x → before ≡ places_where p (take k xs) → after ≡ before ++ place_if b k →
      after ≡ places_where p (take (k + 1) xs)
  places-pushed xs k x b before after l e f g h =
      h ∙ ap (λ ks. ks ++ place_if b k) g ∙ ap (λ c. places_where p (take k xs) ++ place_if c k) f ∙ sym (places-more xs k x l e)

  -- where no place is, none passes
  pub none_passes : (n : ℕ) (xs : List X) → places_from p n xs ≡ [] → list_all (λ x. not (p x)) xs ≡ true
  none_passes n [] e = refl
  none_passes n (x ∷ xs) e = go (p x) e (none_passes (n + 1) xs)
    where
      go : (b : Bool) → place_if b n ++ places_from p (n + 1) xs ≡ [] → (places_from p (n + 1) xs ≡ [] → list_all (λ y. not (p y)) xs ≡ true) → (not b && list_all (λ y. not (p y)) xs) ≡ true
      go true e more = cc
      go false e more = more e

  pub no_places : (n : ℕ) (xs : List X) → list_all (λ x. not (p x)) xs ≡ true → places_from p n xs ≡ []
  no_places n [] h = refl
  no_places n (x ∷ xs) h = go (p x) h (no_places (n + 1) xs)
    where
      go : (b : Bool) → (not b && list_all (λ y. not (p y)) xs) ≡ true → (list_all (λ y. not (p y)) xs ≡ true → places_from p (n + 1) xs ≡ []) → place_if b n ++ places_from p (n + 1) xs ≡ []
      go true h more = absurd (false≢true h)
      go false h more = more h

-- ---- openings

shut_when_all : (owner : ℕ) (joined : List Joined) (inputs : List Input) → list_all (λ i. not (opens_circle owner joined i)) inputs ≡ true → lets_none_in owner (is_member owner joined) inputs ≡ true
shut_when_all owner joined inputs h =
    filter_passes (λ i. is_member owner joined i.actor) (λ i. not (opens owner i.actor i.command)) inputs (weaken inputs h)
  where
    either : (a b : Bool) → not (a && b) ≡ (not a || not b)
    either a b = grind arith

    weaken : (xs : List Input) → list_all (λ x. not (opens_circle owner joined x)) xs ≡ true → list_all (λ x. not (is_member owner joined x.actor) || not (opens owner x.actor x.command)) xs ≡ true
    weaken [] h = refl
    weaken (x ∷ xs) h =
        let t : Bool = not (opens_circle owner joined x) in
        let r : Bool = list_all (λ y. not (opens_circle owner joined y)) xs in
        and_both (not (is_member owner joined x.actor) || not (opens owner x.actor x.command)) (list_all (λ y. not (is_member owner joined y.actor) || not (opens owner y.actor y.command)) xs)
        (sym (either (is_member owner joined x.actor) (opens owner x.actor x.command)) ∙ both_left t r h) (weaken xs (both_right t r h))

-- with no opening the circle is shut
pub shut_when : (owner : ℕ) (inputs : List Input) (joined : List Joined) (openings : List ℕ) → openings ≡ places_where (opens_circle owner joined) inputs → IsLeastCircle owner inputs joined →
    openings ≡ [] → is_shut owner (is_member owner joined) inputs ≡ true
shut_when owner inputs joined openings e l none =
    and_both (is_whole_circle owner (is_member owner joined) inputs) (lets_none_in owner (is_member owner joined) inputs) l.whole
    (shut_when_all owner joined inputs (none_passes (opens_circle owner joined) 0 inputs (sym e ∙ none)))

-- where a smaller circle lets someone in, so does a larger one
pub open_when : (owner : ℕ) (inputs : List Input) (joined : List Joined) (openings : List ℕ) → openings ≡ places_where (opens_circle owner joined) inputs → IsLeastCircle owner inputs joined →
    openings ≢ [] → NoneIsShut owner inputs
open_when owner inputs joined openings e l some other h =
    some (e ∙ no_places (opens_circle owner joined) 0 inputs (none inputs (both_right (is_whole_circle owner other inputs) (lets_none_in owner other inputs) h)))
  where
    below : (c : ℕ) → is_member owner joined c ≡ true → other c ≡ true
    below = l.least other (both_left (is_whole_circle owner other inputs) (lets_none_in owner other inputs) h)

    none : (xs : List Input) → lets_none_in owner other xs ≡ true → list_all (λ x. not (opens_circle owner joined x)) xs ≡ true
    none [] h = refl
    none (x ∷ xs) h = go (other x.actor) (is_member owner joined x.actor) refl (below x.actor) h (none xs)
      where
        go : (a b : Bool) → other x.actor ≡ a → (b ≡ true → other x.actor ≡ true) → list_all (λ i. not (opens owner i.actor i.command)) (cond a (x ∷ only other xs) (only other xs)) ≡ true →
            (lets_none_in owner other xs ≡ true → list_all (λ y. not (opens_circle owner joined y)) xs ≡ true) →
            (not (b && opens owner x.actor x.command) && list_all (λ y. not (opens_circle owner joined y)) xs) ≡ true
        go true true s i h more = let o : Bool = not (opens owner x.actor x.command) in let r : Bool = lets_none_in owner other xs in and_both o (list_all (λ y. not (opens_circle owner joined y)) xs) (both_left o r h) (more (both_right o r h))
        go true false s i h more = more (both_right (not (opens owner x.actor x.command)) (lets_none_in owner other xs) h)
        go false true s i h more = absurd (false≢true (sym s ∙ i refl))
        go false false s i h more = more h
