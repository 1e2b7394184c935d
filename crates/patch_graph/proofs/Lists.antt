-- Filters of lists.
use Rattle.std.proofs.Common.{◌≡◌, ℕ, ◌≤◌, Bool, true, false, not, cond, ◌&&◌, List, [], ◌∷◌, ◌++◌, map, length, refl, sym, ap, ◌∙◌, arith}
use Rattle.std.proofs.Common.{Option, None, Some, Bor, get_or, ltb}
use Rattle.std.specs.Prelude.{is_some, IfSome}
use Rattle.std.specs.Option.{option_copied}
use Rattle.std.specs.List.{AllByRecursion, filter, list_any, list_all, flat_map, slice_get}
use Rattle.std.proofs.lemmas.List.Elements.{filter-append}
use Rattle.std.proofs.lemmas.Bool.Decides.{nat_tests}
use Rattle.std.proofs.lemmas.Option.{slice_get_past, slice_get-get_or}

pub both_left : (x y : Bool) → (x && y) ≡ true → x ≡ true
both_left x y h = grind arith

pub both_right : (x y : Bool) → (x && y) ≡ true → y ≡ true
both_right x y h = grind arith

pub and_both : (x y : Bool) → x ≡ true → y ≡ true → (x && y) ≡ true
and_both x y h k = grind arith

pub not_by : (b : Bool) → (b ≡ true → ⊥) → not b ≡ true
not_by true h = absurd (h refl)
not_by false h = refl

pub refuted : (b : Bool) → (b ≡ true → ⊥) → b ≡ false
refuted true h = absurd (h refl)
refuted false h = refl

pub not_true : (b : Bool) → not b ≡ true → b ≡ false
not_true true h = sym h
not_true false h = refl

module _ {X : Type 0} where
  -- nothing passes that some test would find
  pub filter-none : (p : X → Bool) (xs : List X) → list_any p xs ≡ false → filter (λ x. not (p x)) xs ≡ xs
  filter-none p [] h = refl
  filter-none p (x ∷ xs) h = grind (arith, filter-none p xs)

  pub list_any-filter : (p q : X → Bool) (xs : List X) → list_any p (filter q xs) ≡ true → list_any p xs ≡ true
  list_any-filter p q [] h = h
  list_any-filter p q (x ∷ xs) h = grind (arith, list_any-filter p q xs)

  pub length-filter_filter : (p q : X → Bool) (xs : List X) → length (filter p (filter q xs)) ≤ length (filter p xs)
  length-filter_filter p q [] = omega arith
  length-filter_filter p q (x ∷ xs) = grind (arith, length-filter_filter p q xs)

  pub list_all-weaker : (p q : X → Bool) → ((x : X) → p x ≡ true → q x ≡ true) → (xs : List X) → list_all p xs ≡ true → list_all q xs ≡ true
  list_all-weaker p q w [] h = refl
  list_all-weaker p q w (x ∷ xs) h = grind (arith, list_all-weaker p q w xs, w x)

  pub list_all-append : (p : X → Bool) (xs ys : List X) → list_all p xs ≡ true → list_all p ys ≡ true → list_all p (xs ++ ys) ≡ true
  list_all-append p [] ys h k = k
  list_all-append p (x ∷ xs) ys h k = grind (arith, list_all-append p xs ys)

-- what passes q is what of its images passes r
pub filter-mapped : {X Y : Type 0} (f : X → Y) (p q : X → Bool) (r : Y → Bool) → ((x : X) → p x ≡ true → q x ≡ r (f x)) → (xs : List X) → map f (filter p (filter q xs)) ≡ filter r (map f (filter p xs))
filter-mapped f p q r h [] = refl
filter-mapped f p q r h (x ∷ xs) = step (p x) refl (q x) refl (filter-mapped f p q r h xs)
  where
    step : (b : Bool) → p x ≡ b → (c : Bool) → q x ≡ c → map f (filter p (filter q xs)) ≡ filter r (map f (filter p xs)) → map f (filter p (cond c (x ∷ filter q xs) (filter q xs))) ≡ filter r (map f (cond b (x ∷ filter p xs) (filter p xs)))
    step true e true k more = grind (arith, h x)
    step true e false k more = grind (arith, h x)
    step false e true k more = grind arith
    step false e false k more = grind arith

module _ {X : Type 0} where
  -- a test that passes all that another asks for
  pub filter-outside : (p q : X → Bool) → ((x : X) → p x ≡ true → q x ≡ true) → (xs : List X) → filter p (filter q xs) ≡ filter p xs
  filter-outside p q w [] = refl
  filter-outside p q w (x ∷ xs) = grind (arith, filter-outside p q w xs, w x)

pub looked_up : {X : Type 0} (o : Option (Bor X)) (xs : List X) (i : ℕ) → is_some o ≡ ltb i (length xs) → IfSome o (λ x. x.now ≡ get_or xs i x.now) → option_copied o ≡ slice_get xs i
looked_up None xs i e h = sym (slice_get_past xs i (grind (arith, nat_tests)))
looked_up (Some x) xs i e h = ap Some h ∙ sym (slice_get-get_or xs i x.now (grind (arith, nat_tests)))

pub both_ways : (x y : Bool) → (x ≡ true → y ≡ true) → (y ≡ true → x ≡ true) → x ≡ y
both_ways true true h k = refl
both_ways false false h k = refl
both_ways true false h k = sym (h refl)
both_ways false true h k = k refl

pub filter-map : {X Y : Type 0} (p : Y → Bool) (f : X → Y) (xs : List X) → filter p (map f xs) ≡ map f (filter (λ x. p (f x)) xs)
filter-map p f [] = refl
filter-map p f (x ∷ xs) = grind (arith, filter-map p f xs)

pub filter-flat_map : {X Y : Type 0} (p : Y → Bool) (f : X → List Y) (xs : List X) → filter p (flat_map f xs) ≡ flat_map (λ x. filter p (f x)) xs
filter-flat_map p f [] = refl
filter-flat_map p f (x ∷ xs) = filter-append p (f x) (flat_map f xs) ∙ ap (λ ys. filter p (f x) ++ ys) (filter-flat_map p f xs)

pub filter-false : {X : Type 0} (xs : List X) → filter (λ x. false) xs ≡ []
filter-false [] = refl
filter-false (x ∷ xs) = filter-false xs

pub flat_map-agree : {X Y : Type 0} (f g : X → List Y) → ((x : X) → f x ≡ g x) → (xs : List X) → flat_map f xs ≡ flat_map g xs
flat_map-agree f g h [] = refl
flat_map-agree f g h (x ∷ xs) = cc (h x, flat_map-agree f g h xs)

pub flat_map-none : {X Y : Type 0} (f : X → List Y) → ((x : X) → f x ≡ []) → (xs : List X) → flat_map f xs ≡ []
flat_map-none f h [] = refl
flat_map-none f h (x ∷ xs) = ap (λ ys. ys ++ flat_map f xs) (h x) ∙ flat_map-none f h xs

module _ {X : Type 0} (P : X → Type 0) where
  pub all-filter : (p : X → Bool) (xs : List X) → AllByRecursion P xs → AllByRecursion P (filter p xs)
  all-filter p [] h = tt
  all-filter p (x ∷ xs) h = elim (p x) as (λ b. AllByRecursion P (cond b (x ∷ filter p xs) (filter p xs))) [
    | true ↦ (h.0, all-filter p xs h.1)
    | false ↦ all-filter p xs h.1
  ]

  pub all-more : (xs : List X) (x : X) → AllByRecursion P xs → P x → AllByRecursion P (xs ++ x ∷ [])
  all-more [] x h k = (k, tt)
  all-more (y ∷ ys) x h k = (h.0, all-more ys x h.1 k)

pub all-map : {X Y : Type 0} (P : X → Type 0) (Q : Y → Type 0) (f : X → Y) → ((x : X) → P x → Q (f x)) → (xs : List X) → AllByRecursion P xs → AllByRecursion Q (map f xs)
all-map P Q f g [] h = tt
all-map P Q f g (x ∷ xs) h = (g x h.0, all-map P Q f g xs h.1)
