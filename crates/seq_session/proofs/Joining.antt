-- Sorted lists joined two by two.
use Rattle.std.proofs.Common.{◌≡◌, ℕ, zero, suc, take, drop, get_or, ◌+◌, Bool, true, false, cond, List, [], ◌∷◌, ◌++◌, map, length, ◌⊎◌, inl, inr, append-nil, append_assoc, refl, sym, ap, ◌∙◌, arith, Result, Ok, Err, IfOk}
use Rattle.std.specs.List.{list_all, flat_map}
use Rattle.std.proofs.lemmas.Bool.Decides.{nat_tests}
use Rattle.std.proofs.lemmas.Bool.{false≢true}
use Rattle.std.proofs.lemmas.List.{map-append, take-append-drop}
use Rattle.seq_state.proofs.Lists.{both_left, list_all-weaker, flat_map-append}
use Rattle.script_text.specs.declared.reading.ScriptInput.{ScriptInput}
use Rattle.script_text.specs.Scripts.{script}
use Rattle.script_text.proofs.Read.{is_from, InOrder, script-in_order}
use Rattle.script_text.specs.declared.reading.ScriptRead.{ScriptRead}
use Rattle.seq_session.specs.Merging.{not_after, with_input, sorted_inputs, inputs_in_order, merged_with, joined_onto, AreSorted}
use Rattle.seq_session.specs.declared.source.Script.{Script}
use Rattle.seq_session.specs.Sessions.{FolderContents, script_reading}
use Rattle.seq_session.proofs.Sorting.{IsSorted}

trans : (a b c : ScriptInput) → not_after a b ≡ true → not_after b c ≡ true → not_after a c ≡ true
trans a b c h k = grind (arith, nat_tests)

-- what comes after one comes after what that one comes after
later : (a b c : ScriptInput) → not_after a b ≡ false → not_after b c ≡ false → not_after a c ≡ false
later a b c h k = grind (arith, nat_tests)

module _ (x a : ScriptInput) (xs : List ScriptInput) (ih : (zs : List ScriptInput) → with_input x (merged_with xs zs) ≡ merged_with (with_input x xs) zs) where
  goes_first : not_after x a ≡ true → (ys : List ScriptInput) → with_input x (joined_onto a (merged_with xs) ys) ≡ joined_onto x (joined_onto a (merged_with xs)) ys
  goes_first e [] = ap (λ t. cond t (x ∷ a ∷ merged_with xs []) (a ∷ with_input x (merged_with xs []))) e
  goes_first e (y ∷ ys) = go (not_after a y) refl (not_after x y) refl (goes_first e ys)
    where
      go : (s : Bool) → not_after a y ≡ s → (t : Bool) → not_after x y ≡ t → with_input x (joined_onto a (merged_with xs) ys) ≡ joined_onto x (joined_onto a (merged_with xs)) ys →
          with_input x (cond s (a ∷ merged_with xs (y ∷ ys)) (y ∷ joined_onto a (merged_with xs) ys)) ≡ cond t (x ∷ cond s (a ∷ merged_with xs (y ∷ ys)) (y ∷ joined_onto a (merged_with xs) ys)) (y ∷ joined_onto x (joined_onto a (merged_with xs)) ys)
      go true f true g more = ap (λ t. cond t (x ∷ a ∷ merged_with xs (y ∷ ys)) (a ∷ with_input x (merged_with xs (y ∷ ys)))) e
      go true f false g more = absurd (false≢true (sym g ∙ trans x a y e f))
      go false f true g more = ap (λ t. cond t (x ∷ y ∷ joined_onto a (merged_with xs) ys) (y ∷ with_input x (joined_onto a (merged_with xs) ys))) g
      go false f false g more = ap (λ t. cond t (x ∷ y ∷ joined_onto a (merged_with xs) ys) (y ∷ with_input x (joined_onto a (merged_with xs) ys))) g ∙ ap (λ zs. y ∷ zs) more

  goes_later : not_after x a ≡ false → (ys : List ScriptInput) → with_input x (joined_onto a (merged_with xs) ys) ≡ joined_onto a (merged_with (with_input x xs)) ys
  goes_later e [] = ap (λ t. cond t (x ∷ a ∷ merged_with xs []) (a ∷ with_input x (merged_with xs []))) e ∙ ap (λ zs. a ∷ zs) (ih [])
  goes_later e (y ∷ ys) = go (not_after a y) refl (goes_later e ys)
    where
      go : (s : Bool) → not_after a y ≡ s → with_input x (joined_onto a (merged_with xs) ys) ≡ joined_onto a (merged_with (with_input x xs)) ys →
          with_input x (cond s (a ∷ merged_with xs (y ∷ ys)) (y ∷ joined_onto a (merged_with xs) ys)) ≡ cond s (a ∷ merged_with (with_input x xs) (y ∷ ys)) (y ∷ joined_onto a (merged_with (with_input x xs)) ys)
      go true f more = ap (λ t. cond t (x ∷ a ∷ merged_with xs (y ∷ ys)) (a ∷ with_input x (merged_with xs (y ∷ ys)))) e ∙ ap (λ zs. a ∷ zs) (ih (y ∷ ys))
      go false f more = ap (λ t. cond t (x ∷ y ∷ joined_onto a (merged_with xs) ys) (y ∷ with_input x (joined_onto a (merged_with xs) ys))) (later x a y e f) ∙ ap (λ zs. y ∷ zs) more

alone : (x : ScriptInput) (zs : List ScriptInput) → with_input x zs ≡ joined_onto x (merged_with []) zs
alone x [] = refl
alone x (y ∷ ys) = go (not_after x y) (alone x ys)
  where
    go : (t : Bool) → with_input x ys ≡ joined_onto x (merged_with []) ys → cond t (x ∷ y ∷ ys) (y ∷ with_input x ys) ≡ cond t (x ∷ y ∷ ys) (y ∷ joined_onto x (merged_with []) ys)
    go true more = refl
    go false more = ap (λ zs. y ∷ zs) more

-- an element put in its place in the first list has its place in both
placed-joined : (x : ScriptInput) (xs ys : List ScriptInput) → with_input x (merged_with xs ys) ≡ merged_with (with_input x xs) ys
placed-joined x [] ys = alone x ys
placed-joined x (a ∷ xs) ys = go (not_after x a) refl (λ zs. placed-joined x xs zs)
  where
    go : (b : Bool) → not_after x a ≡ b → ((zs : List ScriptInput) → with_input x (merged_with xs zs) ≡ merged_with (with_input x xs) zs) → with_input x (joined_onto a (merged_with xs) ys) ≡ merged_with (cond b (x ∷ a ∷ xs) (a ∷ with_input x xs)) ys
    go true e ih = goes_first x a xs ih e ys
    go false e ih = goes_later x a xs ih e ys

-- to sort two lists after each other is to join them sorted
pub sorted-append : (xs ys : List ScriptInput) → sorted_inputs (xs ++ ys) ≡ merged_with (sorted_inputs xs) (sorted_inputs ys)
sorted-append [] ys = refl
sorted-append (x ∷ xs) ys = ap (with_input x) (sorted-append xs ys) ∙ placed-joined x (sorted_inputs xs) (sorted_inputs ys)

-- what is sorted stays
pub sorted-same : (xs : List ScriptInput) → IsSorted xs → sorted_inputs xs ≡ xs
sorted-same [] h = refl
sorted-same (x ∷ xs) h = ap (with_input x) (sorted-same xs h.1) ∙ first xs h.0
  where
    first : (ys : List ScriptInput) → list_all (not_after x) ys ≡ true → with_input x ys ≡ x ∷ ys
    first [] e = refl
    first (y ∷ ys) e = ap (λ t. cond t (x ∷ y ∷ ys) (y ∷ with_input x ys)) (both_left (not_after x y) (list_all (not_after x) ys) e)

-- ---- the inputs of a script

in_order-sorted : (xs : List ScriptInput) → InOrder xs → IsSorted xs
in_order-sorted [] h = tt
in_order-sorted (x ∷ xs) h = (list_all-weaker (is_from x.input.moment x.input.actor (x.line + 1)) (not_after x) (λ y e. grind (arith, nat_tests)) xs h.0, in_order-sorted xs h.1)

-- the inputs of a script are sorted already
pub script-sorted : (client : ℕ) (names : List (List ℕ)) (end : ℕ) (text : List ℕ) → IsSorted (script client names end text).inputs
script-sorted client names end text = in_order-sorted (script client names end text).inputs (script-in_order client names end text)

-- ---- a loop that joins

joined-nil : (xs : List ScriptInput) → merged_with xs [] ≡ xs
joined-nil [] = refl
joined-nil (x ∷ xs) = ap (λ ys. x ∷ ys) (joined-nil xs)

module _ {R : Type 0} (f : R → ScriptInput) where
  -- the next of the left list
  pub takes_left : (out new left right : List R) (x y : R) (ls rs : List R) (whole : List ScriptInput) → left ≡ x ∷ ls → right ≡ y ∷ rs → not_after (f x) (f y) ≡ true → new ≡ out ++ x ∷ [] →
      map f out ++ merged_with (map f left) (map f right) ≡ whole → map f new ++ merged_with (map f ls) (map f right) ≡ whole
  takes_left out new left right x y ls rs whole e g h n w =
      ap (λ o. map f o ++ merged_with (map f ls) (map f right)) n
      ∙ ap (λ zs. zs ++ merged_with (map f ls) (map f right)) (map-append f out (x ∷ []))
      ∙ append_assoc (map f out) (f x ∷ []) (merged_with (map f ls) (map f right))
      ∙ ap (λ r. map f out ++ f x ∷ merged_with (map f ls) (map f r)) g
      ∙ ap (λ b. map f out ++ cond b (f x ∷ merged_with (map f ls) (f y ∷ map f rs)) (f y ∷ joined_onto (f x) (merged_with (map f ls)) (map f rs))) (sym h)
      ∙ ap (λ r. map f out ++ merged_with (f x ∷ map f ls) (map f r)) (sym g)
      ∙ ap (λ l. map f out ++ merged_with (map f l) (map f right)) (sym e)
      ∙ w

  -- the next of the right list
  pub takes_right : (out new left right : List R) (x y : R) (ls rs : List R) (whole : List ScriptInput) → left ≡ x ∷ ls → right ≡ y ∷ rs → not_after (f x) (f y) ≡ false → new ≡ out ++ y ∷ [] →
      map f out ++ merged_with (map f left) (map f right) ≡ whole → map f new ++ merged_with (map f left) (map f rs) ≡ whole
  takes_right out new left right x y ls rs whole e g h n w =
      ap (λ o. map f o ++ merged_with (map f left) (map f rs)) n
      ∙ ap (λ zs. zs ++ merged_with (map f left) (map f rs)) (map-append f out (y ∷ []))
      ∙ append_assoc (map f out) (f y ∷ []) (merged_with (map f left) (map f rs))
      ∙ ap (λ l. map f out ++ f y ∷ merged_with (map f l) (map f rs)) e
      ∙ ap (λ b. map f out ++ cond b (f x ∷ merged_with (map f ls) (f y ∷ map f rs)) (f y ∷ joined_onto (f x) (merged_with (map f ls)) (map f rs))) (sym h)
      ∙ ap (λ r. map f out ++ merged_with (f x ∷ map f ls) (map f r)) (sym g)
      ∙ ap (λ l. map f out ++ merged_with (map f l) (map f right)) (sym e)
      ∙ w

  -- one of the two is done
  pub one_done : (out new left right : List R) (whole : List ScriptInput) → (length left ≡ 0) ⊎ (length right ≡ 0) → new ≡ out ++ left ++ right → map f out ++ merged_with (map f left) (map f right) ≡ whole → map f new ≡ whole
  one_done out new left right whole d n w =
      ap (map f) n ∙ map-append f (out ++ left) right ∙ ap (λ zs. zs ++ map f right) (map-append f out left) ∙ append_assoc (map f out) (map f left) (map f right)
      ∙ ap (λ zs. map f out ++ zs) (rest left right d) ∙ w
    where
      rest : (ls rs : List R) → (length ls ≡ 0) ⊎ (length rs ≡ 0) → map f ls ++ map f rs ≡ merged_with (map f ls) (map f rs)
      rest [] rs d = refl
      rest (l ∷ ls) [] d = append-nil (map f (l ∷ ls)) ∙ sym (joined-nil (map f (l ∷ ls)))
      rest (l ∷ ls) (r ∷ rs) d = elim d [ inl e ↦ absurd (omega arith) | inr e ↦ absurd (omega arith) ]

-- ---- scripts by halves

pub sorted_front : (n : ℕ) (reads : List ScriptRead) → AreSorted reads → AreSorted (take n reads)
sorted_front zero reads h = tt
sorted_front (suc n) [] h = tt
sorted_front (suc n) (r ∷ reads) h = (h.0, sorted_front n reads h.1)

pub sorted_back : (n : ℕ) (reads : List ScriptRead) → AreSorted reads → AreSorted (drop n reads)
sorted_back zero reads h = h
sorted_back (suc n) [] h = tt
sorted_back (suc n) (r ∷ reads) h = sorted_back n reads h.1

pub by_halves : (n : ℕ) (reads : List ScriptRead) → inputs_in_order reads ≡ merged_with (inputs_in_order (take n reads)) (inputs_in_order (drop n reads))
by_halves n reads =
    ap inputs_in_order (sym (take-append-drop n reads))
    ∙ ap sorted_inputs (flat_map-append (λ (r : ScriptRead). r.inputs) (take n reads) (drop n reads))
    ∙ sorted-append (flat_map (λ (r : ScriptRead). r.inputs) (take n reads)) (flat_map (λ (r : ScriptRead). r.inputs) (drop n reads))

-- one script
pub one_script : (reads : List ScriptRead) (r : ScriptRead) → length reads ≡ 1 → r ≡ get_or reads 0 r → AreSorted reads → inputs_in_order reads ≡ r.inputs
one_script [] r l e h = absurd (omega arith)
one_script (x ∷ []) r l e h = ap sorted_inputs (append-nil x.inputs) ∙ h.0 ∙ ap (λ (y : ScriptRead). y.inputs) (sym e)
one_script (x ∷ y ∷ reads) r l e h = absurd (omega arith)

pub no_script : (reads : List ScriptRead) → length reads ≡ 0 → inputs_in_order reads ≡ []
no_script [] l = refl
no_script (x ∷ reads) l = absurd (omega arith)

-- each reading of a script is sorted: what the merge asks of its caller
pub readings_sorted : (folder : FolderContents) (end : ℕ) (scripts : List Script) → AreSorted (map (script_reading folder end) scripts)
readings_sorted folder end [] = tt
readings_sorted folder end (s ∷ scripts) = (sorted-same (script_reading folder end s).inputs (script-sorted s.client folder.names end s.text), readings_sorted folder end scripts)

-- so is what a parse gives
pub script_is_sorted : {E : Type 0} (client : ℕ) (names : List (List ℕ)) (end : ℕ) (text : List ℕ) (r : Result ScriptRead E) →
    IfOk r (λ x. x ≡ script client names end text) → IfOk r (λ x. sorted_inputs x.inputs ≡ x.inputs)
script_is_sorted client names end text (Ok x) h =
    ap (λ (y : ScriptRead). sorted_inputs y.inputs) h ∙ sorted-same (script client names end text).inputs (script-sorted client names end text)
    ∙ ap (λ (y : ScriptRead). y.inputs) (sym h)
script_is_sorted client names end text (Err e) h = tt
