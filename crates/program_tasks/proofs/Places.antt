-- Scripts in their places by client.
use Rattle.std.proofs.Common.{◌≡◌, ℕ, zero, suc, ◌+◌, ◌≤◌, ◌<◌, Bool, true, false, not, cond, List, [], ◌∷◌, length, drop, get_or, Option, Some, None, refl, sym, ap, ◌∙◌, arith, eq-eqb}
use Rattle.std.specs.Prelude.{nat_le, nat_lt, ◌==◌, if◌then◌else◌, slice_get}
use Rattle.std.specs.List.{position_or_len, insert}
use Rattle.std.specs.Option.{option_map}
use Rattle.std.proofs.lemmas.List.{at_drop_more}
use Rattle.std.proofs.Math.ListN.{drop_of_length-le}
use Rattle.std.proofs.lemmas.Bool.{eqb-true}
use Rattle.std.proofs.lemmas.Bool.Decides.{nat_tests}
use Rattle.program_tasks.specs.declared.words.ScriptWord.{ScriptWord}
use Rattle.program_tasks.specs.Words.{with_script, put_at, seen_script, scripts_seen}

-- the place of a client's script
abbrev pub place : ℕ → List ScriptWord → ℕ
place client scripts = position_or_len (λ s. nat_le client s.client) scripts

-- whether the script there is the client's
abbrev pub is_there : ℕ → Option ScriptWord → Bool
is_there client None = false
is_there client (Some s) = client == s.client

-- the scripts with one at its place, if its client has none there
abbrev pub at_place : ℕ × List ℕ → List ScriptWord → ℕ → Option (List (ℕ × List ℕ))
at_place s scripts n =
    if is_there s.0 (slice_get scripts n) then None else Some (put_at s (scripts_seen scripts) n)

pub placed-at : (s : ℕ × List ℕ) (scripts : List ScriptWord) → with_script s (scripts_seen scripts) ≡ at_place s scripts (place s.0 scripts)
placed-at s [] = refl
placed-at s (t ∷ scripts) = go (nat_lt s.0 t.client) (s.0 == t.client) (nat_le s.0 t.client) refl refl refl (placed-at s scripts)
  where
    further : (b : Bool) (seen : List (ℕ × List ℕ)) → option_map (λ more. (t.client, t.path.now) ∷ more) (if b then None else Some seen) ≡ (if b then None else Some ((t.client, t.path.now) ∷ seen))
    further true seen = refl
    further false seen = refl

    go : (l e m : Bool) → nat_lt s.0 t.client ≡ l → (s.0 == t.client) ≡ e → nat_le s.0 t.client ≡ m →
        with_script s (scripts_seen scripts) ≡ at_place s scripts (place s.0 scripts) →
        with_script s (scripts_seen (t ∷ scripts)) ≡ at_place s (t ∷ scripts) (place s.0 (t ∷ scripts))
    go true false true hl he hm more = rw (hl, hm, he) refl
    go false true true hl he hm more = rw (hl, hm, he) refl
    go false false false hl he hm more = let next : 1 + place s.0 scripts ≡ suc (place s.0 scripts) = omega arith in rw (hl, hm, he, next) (ap (option_map (λ more. (t.client, t.path.now) ∷ more)) more ∙ further (is_there s.0 (slice_get scripts (place s.0 scripts))) (put_at s (scripts_seen scripts) (place s.0 scripts)))
    go true true m hl he hm more = absurd (grind (arith, nat_tests))
    go true false false hl he hm more = absurd (grind (arith, nat_tests))
    go false true false hl he hm more = absurd (grind (arith, nat_tests))
    go false false true hl he hm more = absurd (grind (arith, nat_tests))

flipped : (m n : ℕ) (b : Bool) → b ≡ (m == n) → (n == m) ≡ b
flipped m n true e = eq-eqb n m (sym (eqb-true m n (sym e)))
flipped m n false e = go (n == m) refl
  where
    go : (b : Bool) → (n == m) ≡ b → b ≡ false
    go true h = absurd (let same : (m == n) ≡ true = eq-eqb m n (sym (eqb-true n m h)) in cc)
    go false h = refl

get_some : {X : Type 0} (xs : List X) (n : ℕ) (d : X) → n < length xs → slice_get xs n ≡ Some (get_or xs n d)
get_some [] n d h = absurd (omega arith)
get_some (x ∷ xs) zero d h = refl
get_some (x ∷ xs) (suc n) d h = get_some xs n d (omega arith)

get_none : {X : Type 0} (xs : List X) (n : ℕ) → length xs ≤ n → slice_get xs n ≡ None
get_none [] n h = refl
get_none (x ∷ xs) zero h = absurd (omega arith)
get_none (x ∷ xs) (suc n) h = get_none xs n (omega arith)

-- what stands at the place of a client's script
pub place_taken : (s : ℕ × List ℕ) (scripts : List ScriptWord) (n : ℕ) (t : ScriptWord) → n ≡ place s.0 scripts → n < length scripts →
    t ≡ get_or scripts n t → true ≡ (t.client == s.0) → with_script s (scripts_seen scripts) ≡ None
place_taken s scripts n t e lt is same =
    let there : slice_get scripts n ≡ Some t = get_some scripts n t lt ∙ ap Some (sym is) in
    placed-at s scripts ∙ ap (at_place s scripts) (sym e)
    ∙ ap (λ o. if is_there s.0 o then None else Some (put_at s (scripts_seen scripts) n)) there
    ∙ ap (λ b. if b then None else Some (put_at s (scripts_seen scripts) n)) (flipped t.client s.0 true same)

pub place_of_another : (s : ℕ × List ℕ) (scripts : List ScriptWord) (n : ℕ) (t : ScriptWord) → n ≡ place s.0 scripts → n < length scripts →
    t ≡ get_or scripts n t → false ≡ (t.client == s.0) → with_script s (scripts_seen scripts) ≡ Some (put_at s (scripts_seen scripts) n)
place_of_another s scripts n t e lt is other =
    let there : slice_get scripts n ≡ Some t = get_some scripts n t lt ∙ ap Some (sym is) in
    placed-at s scripts ∙ ap (at_place s scripts) (sym e)
    ∙ ap (λ o. if is_there s.0 o then None else Some (put_at s (scripts_seen scripts) n)) there
    ∙ ap (λ b. if b then None else Some (put_at s (scripts_seen scripts) n)) (flipped t.client s.0 false other)

pub place_at_end : (s : ℕ × List ℕ) (scripts : List ScriptWord) (n : ℕ) → n ≡ place s.0 scripts → length scripts ≤ n →
    with_script s (scripts_seen scripts) ≡ Some (put_at s (scripts_seen scripts) n)
place_at_end s scripts n e far =
    placed-at s scripts ∙ ap (at_place s scripts) (sym e)
    ∙ ap (λ o. if is_there s.0 o then None else Some (put_at s (scripts_seen scripts) n)) (get_none scripts n far)

-- a script is inserted at its place
pub seen-insert : (scripts : List ScriptWord) (n : ℕ) (t : ScriptWord) → n ≤ length scripts →
    scripts_seen (insert scripts n t) ≡ put_at (seen_script t) (scripts_seen scripts) n
seen-insert scripts zero t h = refl
seen-insert [] (suc n) t h = absurd (omega arith)
seen-insert (s ∷ scripts) (suc n) t h = ap (λ more. seen_script s ∷ more) (seen-insert scripts n t (omega arith))

-- the place is at least as far as what was passed
module _ {X : Type 0} (p : X → Bool) where
  pub one_passed : (xs : List X) (i : ℕ) (d : X) → i < length xs → p (get_or xs i d) ≡ false →
      i + position_or_len p (drop i xs) ≡ position_or_len p xs → i + 1 + position_or_len p (drop (i + 1) xs) ≡ position_or_len p xs
  one_passed xs i d lt h was =
      let next : position_or_len p (get_or xs i d ∷ drop (i + 1) xs) ≡ 1 + position_or_len p (drop (i + 1) xs) = ap (λ b. cond (not b) (1 + position_or_len p (drop (i + 1) xs)) 0) h in
      let here : position_or_len p (drop i xs) ≡ position_or_len p (get_or xs i d ∷ drop (i + 1) xs) = at_drop_more (position_or_len p) xs i d lt in
      omega arith

  pub stops_here : (xs : List X) (i : ℕ) (d : X) → i < length xs → p (get_or xs i d) ≡ true →
      i + position_or_len p (drop i xs) ≡ position_or_len p xs → i ≡ position_or_len p xs
  stops_here xs i d lt h was =
      let next : position_or_len p (get_or xs i d ∷ drop (i + 1) xs) ≡ 0 = ap (λ b. cond (not b) (1 + position_or_len p (drop (i + 1) xs)) 0) h in
      let here : position_or_len p (drop i xs) ≡ position_or_len p (get_or xs i d ∷ drop (i + 1) xs) = at_drop_more (position_or_len p) xs i d lt in
      omega arith

  pub stops_at_end : (xs : List X) (i : ℕ) → length xs ≤ i → i + position_or_len p (drop i xs) ≡ position_or_len p xs → i ≡ position_or_len p xs
  stops_at_end xs i far was =
      let none : position_or_len p (drop i xs) ≡ 0 = ap (position_or_len p) (drop_of_length-le xs far) in
      omega arith
