-- The first place at which a test passes.
use Rattle.std.proofs.Common.{◌≡◌, ℕ, ◌+◌, ◌≤◌, ◌<◌, ◌∙◌, Bool, true, false, not, cond, ltb, List, [], ◌∷◌, length, Option, Some, None, get_or, refl, sym, ap, arith}
use Rattle.std.specs.List.{position, position_or_len, slice_split, onto_first}
use Rattle.std.specs.Option.{unwrap_or}
use Rattle.memchr.specs.Find.{IsFirstByte}
use Rattle.std.proofs.lemmas.Bool.{ltb-false, false_from_ne_true}
use Rattle.std.proofs.lemmas.List.Sums.{prefix_len-le-length, position_or_len_is}
use Rattle.std.proofs.lemmas.List.Splits.{slice_split-cons_no}

pub place_or : {X : Type 0} (p : X → Bool) (xs : List X) → unwrap_or (position p xs) (length xs) ≡ position_or_len p xs
place_or {X = X} p xs = go (ltb (position_or_len p xs) (length xs)) refl
  where
    go : (b : Bool) → ltb (position_or_len p xs) (length xs) ≡ b → unwrap_or (cond b (Some (position_or_len p xs)) None) (length xs) ≡ position_or_len p xs
    go true e = refl
    go false e = let h : length xs ≤ position_or_len p xs = ltb-false (position_or_len p xs) (length xs) e in omega (arith, prefix_len-le-length (λ x. not (p x)) xs)

-- the first place, or past the last
pub place_is : {X : Type 0} (p : X → Bool) (xs : List X) (first : Option ℕ) (n : ℕ) → n ≡ unwrap_or first (length xs) → first ≡ position p xs → n ≡ position_or_len p xs
place_is p xs first n e h = e ∙ ap (λ o. unwrap_or o (length xs)) h ∙ place_or p xs

pub place_within : {X : Type 0} (p : X → Bool) (xs : List X) (n : ℕ) → n ≡ position_or_len p xs → n ≤ length xs
place_within p xs n e = omega (arith, prefix_len-le-length (λ x. not (p x)) xs)

-- the first place that a search found, or past the last
pub place_found : (p : ℕ → Bool) (xs : List ℕ) (first : Option ℕ) → IsFirstByte p xs first → unwrap_or first (length xs) ≡ position_or_len p xs
place_found p xs None h = sym (position_or_len_is p xs (length xs) 0 (omega arith) (λ k l. false_from_ne_true (p (get_or xs k 0)) (h k (omega arith) l)) (λ l. absurd (omega arith)))
place_found p xs (Some n) h =
    let found = h.0 in
    sym (position_or_len_is p xs n 0 (let l : n < length xs = found.high in omega arith) (λ k l. false_from_ne_true (p (get_or xs k 0)) (found.before k (omega arith) l)) (λ l. h.1))

-- where none passes, nothing is cut
pub uncut : (p : ℕ → Bool) (w : List ℕ) → position_or_len p w ≡ length w → slice_split p w ≡ w ∷ []
uncut p [] h = refl
uncut p (b ∷ w) h = go (p b) refl h (uncut p w)
  where
    go : (t : Bool) → p b ≡ t → cond (not t) (1 + position_or_len p w) 0 ≡ length (b ∷ w) → (position_or_len p w ≡ length w → slice_split p w ≡ w ∷ []) → slice_split p (b ∷ w) ≡ (b ∷ w) ∷ []
    go true e h more = absurd (omega arith)
    go false e h more = slice_split-cons_no p b w e ∙ ap (onto_first b) (more (omega arith))
