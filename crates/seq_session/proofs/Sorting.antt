-- The list of the run, sorted.
use Rattle.std.proofs.Common.{◌≡◌, ℕ, Bool, true, false, cond, List, [], ◌∷◌, refl, sym, ap, ◌∙◌, arith}
use Rattle.std.specs.List.{filter, list_all}
use Rattle.std.proofs.lemmas.Bool.Decides.{nat_tests}
use Rattle.seq_state.specs.Circle.{only}
use Rattle.seq_state.proofs.Lists.{both_left, both_right, and_both, list_all-weaker}
use Rattle.script_text.specs.declared.reading.ScriptInput.{ScriptInput}
use Rattle.seq_session.specs.Merging.{not_after, with_input, sorted_inputs, inputs_of}

-- ---- the order

not_after-total : (a b : ScriptInput) → not_after a b ≡ false → not_after b a ≡ true
not_after-total a b h = grind (arith, nat_tests)

not_after-trans : (a b c : ScriptInput) → not_after a b ≡ true → not_after b c ≡ true → not_after a c ≡ true
not_after-trans a b c h k = grind (arith, nat_tests)

-- ---- sorted lists

abbrev pub IsSorted : List ScriptInput → Type 0
IsSorted [] = Unit {0}
IsSorted (a ∷ more) = (list_all (not_after a) more ≡ true) × IsSorted more

placed-all : (p : ScriptInput → Bool) (a : ScriptInput) (bs : List ScriptInput) → p a ≡ true → list_all p bs ≡ true → list_all p (with_input a bs) ≡ true
placed-all p a [] h k = and_both (p a) true h refl
placed-all p a (b ∷ bs) h k = go (not_after a b) (placed-all p a bs h (both_right (p b) (list_all p bs) k))
  where
    go : (t : Bool) → list_all p (with_input a bs) ≡ true → list_all p (cond t (a ∷ b ∷ bs) (b ∷ with_input a bs)) ≡ true
    go true more = and_both (p a) (list_all p (b ∷ bs)) h k
    go false more = and_both (p b) (list_all p (with_input a bs)) (both_left (p b) (list_all p bs) k) more

pub sorted-all : (p : ScriptInput → Bool) (xs : List ScriptInput) → list_all p xs ≡ true → list_all p (sorted_inputs xs) ≡ true
sorted-all p [] h = refl
sorted-all p (a ∷ more) h = placed-all p a (sorted_inputs more) (both_left (p a) (list_all p more) h) (sorted-all p more (both_right (p a) (list_all p more) h))

-- what is not after the first is not after the others
all_after : (a b : ScriptInput) (bs : List ScriptInput) → not_after a b ≡ true → list_all (not_after b) bs ≡ true → list_all (not_after a) bs ≡ true
all_after a b bs h k = list_all-weaker (not_after b) (not_after a) (λ c. not_after-trans a b c h) bs k

placed-sorted : (a : ScriptInput) (bs : List ScriptInput) → IsSorted bs → IsSorted (with_input a bs)
placed-sorted a [] h = (refl, tt)
placed-sorted a (b ∷ bs) h = go (not_after a b) refl (placed-sorted a bs h.1)
  where
    go : (t : Bool) → not_after a b ≡ t → IsSorted (with_input a bs) → IsSorted (cond t (a ∷ b ∷ bs) (b ∷ with_input a bs))
    go true e more = (and_both (not_after a b) (list_all (not_after a) bs) e (all_after a b bs e h.0), h)
    go false e more = (placed-all (not_after b) a bs (not_after-total a b e) h.0, more)

pub sorted-sorted : (xs : List ScriptInput) → IsSorted (sorted_inputs xs)
sorted-sorted [] = tt
sorted-sorted (a ∷ more) = placed-sorted a (sorted_inputs more) (sorted-sorted more)

-- ---- a filter of a sorted list

-- what is not after any stands first
placed-first : (a : ScriptInput) (bs : List ScriptInput) → list_all (not_after a) bs ≡ true → with_input a bs ≡ a ∷ bs
placed-first a [] h = refl
placed-first a (b ∷ bs) h = ap (λ t. cond t (a ∷ b ∷ bs) (b ∷ with_input a bs)) (both_left (not_after a b) (list_all (not_after a) bs) h)

all_filtered : (p q : ScriptInput → Bool) (bs : List ScriptInput) → list_all p bs ≡ true → list_all p (filter q bs) ≡ true
all_filtered p q [] h = refl
all_filtered p q (b ∷ bs) h = go (q b) (all_filtered p q bs (both_right (p b) (list_all p bs) h))
  where
    go : (t : Bool) → list_all p (filter q bs) ≡ true → list_all p (cond t (b ∷ filter q bs) (filter q bs)) ≡ true
    go true more = and_both (p b) (list_all p (filter q bs)) (both_left (p b) (list_all p bs) h) more
    go false more = more

filter-placed : (p : ScriptInput → Bool) (a : ScriptInput) (bs : List ScriptInput) → IsSorted bs → filter p (with_input a bs) ≡ cond (p a) (with_input a (filter p bs)) (filter p bs)
filter-placed p a [] h = refl
filter-placed p a (b ∷ bs) h = go (not_after a b) refl (filter-placed p a bs h.1)
  where
    go : (t : Bool) → not_after a b ≡ t → filter p (with_input a bs) ≡ cond (p a) (with_input a (filter p bs)) (filter p bs) → filter p (cond t (a ∷ b ∷ bs) (b ∷ with_input a bs)) ≡ cond (p a) (with_input a (filter p (b ∷ bs))) (filter p (b ∷ bs))
    go true e more =
        ap (λ xs. cond (p a) xs (filter p (b ∷ bs)))
        (sym (placed-first a (filter p (b ∷ bs)) (all_filtered (not_after a) p (b ∷ bs) (and_both (not_after a b) (list_all (not_after a) bs) e (all_after a b bs e h.0)))))
    go false e more = ap (λ xs. cond (p b) (b ∷ xs) xs) more ∙ both_tests (p a) (p b)
      where
        both_tests : (s t : Bool) → cond t (b ∷ cond s (with_input a (filter p bs)) (filter p bs)) (cond s (with_input a (filter p bs)) (filter p bs))
            ≡ cond s (with_input a (cond t (b ∷ filter p bs) (filter p bs))) (cond t (b ∷ filter p bs) (filter p bs))
        both_tests true true = sym (ap (λ u. cond u (a ∷ b ∷ filter p bs) (b ∷ with_input a (filter p bs))) e)
        both_tests true false = refl
        both_tests false true = refl
        both_tests false false = refl

pub filter-sorted : (p : ScriptInput → Bool) (xs : List ScriptInput) → filter p (sorted_inputs xs) ≡ sorted_inputs (filter p xs)
filter-sorted p [] = refl
filter-sorted p (a ∷ more) = filter-placed p a (sorted_inputs more) (sorted-sorted more) ∙ ap (λ xs. cond (p a) (with_input a xs) xs) (filter-sorted p more) ∙ go (p a)
  where
    go : (t : Bool) → cond t (with_input a (sorted_inputs (filter p more))) (sorted_inputs (filter p more)) ≡ sorted_inputs (cond t (a ∷ filter p more) (filter p more))
    go true = refl
    go false = refl

pub only-inputs : (member : ℕ → Bool) (xs : List ScriptInput) → inputs_of (filter (λ x. member x.input.actor) xs) ≡ only member (inputs_of xs)
only-inputs member [] = refl
only-inputs member (x ∷ xs) = go (member x.input.actor) (only-inputs member xs)
  where
    go : (t : Bool) → inputs_of (filter (λ x. member x.input.actor) xs) ≡ only member (inputs_of xs) →
        inputs_of (cond t (x ∷ filter (λ x. member x.input.actor) xs) (filter (λ x. member x.input.actor) xs)) ≡ cond t (x.input ∷ only member (inputs_of xs)) (only member (inputs_of xs))
    go true more = ap (λ ys. x.input ∷ ys) more
    go false more = more
