-- A heap of heads, of which one sinks to its place.
use Rattle.std.proofs.Common.{◌≡◌, ◌≤◌, ◌<◌, ℕ, zero, suc, ◌+◌, ◌-◌, ◌*◌, ◌/◌, Bool, true, false, List, [], ◌∷◌, ◌++◌, ◌∙◌, inl, inr, length, drop, get_or, set, refl, arith, ap, sym, length-append}
use Rattle.std.specs.List.{AllByRecursion, SwappedAt}
use Rattle.std.proofs.lemmas.Bool.{cases_eq}
use Rattle.std.proofs.lemmas.Bool.Decides.{nat_tests}
use Rattle.smf_files.specs.declared.heads.TrackHead.{TrackHead}
use Rattle.std.specs.List.Sorted.{IsPermutation}
use Rattle.std.proofs.lemmas.List.Sorted.{IsPermutation-trans, IsPermutation-to_front}
use Rattle.smf_files.specs.Playing.{is_later, IsHeapFrom, IsFirstChild}

never-itself : (a : TrackHead) → is_later a a ≡ false
never-itself a = grind (arith, nat_tests)

one-way : (a b : TrackHead) → is_later a b ≡ true → is_later b a ≡ false
one-way a b h = grind (arith, nat_tests)

chain : (a b c : TrackHead) → is_later a b ≡ false → is_later b c ≡ false → is_later a c ≡ false
chain a b c h k = grind (arith, nat_tests)

-- the heads at two places, by equations
by : (a b x y : TrackHead) → a ≡ x → b ≡ y → is_later x y ≡ false → is_later a b ≡ false
by a b x y p q h = (ap (λ (t : TrackHead). is_later t b) p ∙ ap (λ (t : TrackHead). is_later x t) q) ∙ h

-- a heap from a place on but for the head at `at`, whose parent does not come later than its children
pub record HasHole (hs : List TrackHead) (low at : ℕ) : Type 0 where
  pub apart : (i k : ℕ) (d : TrackHead) → low ≤ i → i * 2 + 1 ≤ k → k ≤ i * 2 + 2 → k < length hs → (i ≡ at → ⊥) → is_later (get_or hs i d) (get_or hs k d) ≡ false
  pub over : (i k : ℕ) (d : TrackHead) → low ≤ i → i * 2 + 1 ≤ at → at ≤ i * 2 + 2 → at * 2 + 1 ≤ k → k ≤ at * 2 + 2 → k < length hs → is_later (get_or hs i d) (get_or hs k d) ≡ false

pub hole-begins : (hs : List TrackHead) (from : ℕ) → IsHeapFrom (from + 1) hs → HasHole hs from from
hole-begins hs from h = record {
  apart = λ i k d a b c f n. h i k d (omega arith) b c f;
  over = λ i k d a b c f g e. absurd (omega arith);
}

pub hole-at-leaf : (hs : List TrackHead) (low at : ℕ) → length hs ≤ at * 2 + 1 → HasHole hs low at → IsHeapFrom low hs
hole-at-leaf hs low at l h = λ i k d a b c f. h.apart i k d a b c f (omega arith)

pub hole-rests : (hs : List TrackHead) (low at child : ℕ) → ((d : TrackHead) → is_later (get_or hs at d) (get_or hs child d) ≡ false) → IsFirstChild hs at child → HasHole hs low at → IsHeapFrom low hs
hole-rests hs low at child t g h = λ i k d a b c f. elim (cases_eq i at) as (λ _. is_later (get_or hs i d) (get_or hs k d) ≡ false) [
  | inl e ↦ by (get_or hs i d) (get_or hs k d) (get_or hs at d) (get_or hs k d) (ap (λ (m : ℕ). get_or hs m d) e) refl (chain (get_or hs at d) (get_or hs child d) (get_or hs k d) (t d) (g k d (omega arith) (omega arith) f))
  | inr n ↦ h.apart i k d a b c f n
]

pub hole-sinks : (hs hs' : List TrackHead) (low at child : ℕ) → low ≤ at → at * 2 + 1 ≤ child → child ≤ at * 2 + 2 → child < length hs → length hs' ≡ length hs → SwappedAt hs hs' at child →
    ((d : TrackHead) → is_later (get_or hs at d) (get_or hs child d) ≡ true) → IsFirstChild hs at child → HasHole hs low at → HasHole hs' low child
hole-sinks hs hs' low at child lo from to within same s t g h = record {
  apart = λ i k d a b c f n. elim (cases_eq i at) as (λ _. is_later (get_or hs' i d) (get_or hs' k d) ≡ false) [
    | inl e ↦ elim (cases_eq k child) as (λ _. is_later (get_or hs' i d) (get_or hs' k d) ≡ false) [
      | inl u ↦ by (get_or hs' i d) (get_or hs' k d) (get_or hs child d) (get_or hs at d) (ap (λ (m : ℕ). get_or hs' m d) e ∙ s.0 d) (ap (λ (m : ℕ). get_or hs' m d) u ∙ s.1 d) (one-way (get_or hs at d) (get_or hs child d) (t d))
      | inr u ↦ by (get_or hs' i d) (get_or hs' k d) (get_or hs child d) (get_or hs k d) (ap (λ (m : ℕ). get_or hs' m d) e ∙ s.0 d) (s.2 k d (omega arith) u) (g k d (omega arith) (omega arith) (omega arith))
    ]
    | inr e ↦ elim (cases_eq k at) as (λ _. is_later (get_or hs' i d) (get_or hs' k d) ≡ false) [
      | inl u ↦ by (get_or hs' i d) (get_or hs' k d) (get_or hs i d) (get_or hs child d) (s.2 i d e n) (ap (λ (m : ℕ). get_or hs' m d) u ∙ s.0 d) (h.over i child d a (omega arith) (omega arith) from to within)
      | inr u ↦ by (get_or hs' i d) (get_or hs' k d) (get_or hs i d) (get_or hs k d) (s.2 i d e n) (s.2 k d u (omega arith)) (h.apart i k d a b c (omega arith) e)
    ]
  ];
  over = λ i k d a b c f g' e. (let is : i ≡ at = omega arith in
      by (get_or hs' i d) (get_or hs' k d) (get_or hs child d) (get_or hs k d) (ap (λ (m : ℕ). get_or hs' m d) is ∙ s.0 d) (s.2 k d (omega arith) (omega arith)) (h.apart child k d (omega arith) f g' (omega arith) (omega arith)));
}

pub left-child : (hs : List TrackHead) (at : ℕ) → ((d : TrackHead) → at * 2 + 2 < length hs → is_later (get_or hs (at * 2 + 1) d) (get_or hs (at * 2 + 2) d) ≡ false) → IsFirstChild hs at (at * 2 + 1)
left-child hs at h = λ k d a b f. elim (cases_eq k (at * 2 + 1)) as (λ _. is_later (get_or hs (at * 2 + 1) d) (get_or hs k d) ≡ false) [
  | inl e ↦ by (get_or hs (at * 2 + 1) d) (get_or hs k d) (get_or hs (at * 2 + 1) d) (get_or hs (at * 2 + 1) d) refl (ap (λ (m : ℕ). get_or hs m d) e) (never-itself (get_or hs (at * 2 + 1) d))
  | inr n ↦ (let e : k ≡ at * 2 + 2 = omega arith in by (get_or hs (at * 2 + 1) d) (get_or hs k d) (get_or hs (at * 2 + 1) d) (get_or hs (at * 2 + 2) d) refl (ap (λ (m : ℕ). get_or hs m d) e) (h d (omega arith)))
]

pub right-child : (hs : List TrackHead) (at : ℕ) → ((d : TrackHead) → is_later (get_or hs (at * 2 + 1) d) (get_or hs (at * 2 + 2) d) ≡ true) → IsFirstChild hs at (at * 2 + 2)
right-child hs at h = λ k d a b f. elim (cases_eq k (at * 2 + 2)) as (λ _. is_later (get_or hs (at * 2 + 2) d) (get_or hs k d) ≡ false) [
  | inl e ↦ by (get_or hs (at * 2 + 2) d) (get_or hs k d) (get_or hs (at * 2 + 2) d) (get_or hs (at * 2 + 2) d) refl (ap (λ (m : ℕ). get_or hs m d) e) (never-itself (get_or hs (at * 2 + 2) d))
  | inr n ↦ (let e : k ≡ at * 2 + 1 = omega arith in by (get_or hs (at * 2 + 2) d) (get_or hs k d) (get_or hs (at * 2 + 2) d) (get_or hs (at * 2 + 1) d) refl (ap (λ (m : ℕ). get_or hs m d) e) (one-way (get_or hs (at * 2 + 1) d) (get_or hs (at * 2 + 2) d) (h d)))
]

pub leaves : (hs : List TrackHead) (low : ℕ) → length hs ≤ low * 2 + 1 → IsHeapFrom low hs
leaves hs low h = λ i k d a b c f. absurd (omega arith)

-- ---- the head on top

first-not-later : (hs : List TrackHead) (d : TrackHead) → IsHeapFrom 0 hs → (fuel k : ℕ) → k ≤ fuel → k < length hs → is_later (get_or hs 0 d) (get_or hs k d) ≡ false
first-not-later hs d h zero k a b = (let e : k ≡ 0 = omega arith in by (get_or hs 0 d) (get_or hs k d) (get_or hs 0 d) (get_or hs 0 d) refl (ap (λ (m : ℕ). get_or hs m d) e) (never-itself (get_or hs 0 d)))
first-not-later hs d h (suc fuel) k a b = elim (cases_eq k 0) as (λ _. is_later (get_or hs 0 d) (get_or hs k d) ≡ false) [
  | inl e ↦ by (get_or hs 0 d) (get_or hs k d) (get_or hs 0 d) (get_or hs 0 d) refl (ap (λ (m : ℕ). get_or hs m d) e) (never-itself (get_or hs 0 d))
  | inr n ↦ chain (get_or hs 0 d) (get_or hs ((k - 1) / 2) d) (get_or hs k d) (first-not-later hs d h fuel ((k - 1) / 2) (omega arith) (omega arith)) (h ((k - 1) / 2) k d (omega arith) (omega arith) (omega arith) b)
]

all-by-index : (top : TrackHead) (hs : List TrackHead) → ((k : ℕ) → k < length hs → is_later top (get_or hs k top) ≡ false) → AllByRecursion (λ y. is_later top y ≡ false) hs
all-by-index top [] h = tt
all-by-index top (x ∷ hs) h = (h 0 (omega arith), all-by-index top hs (λ k b. h (suc k) (omega arith)))

pub top-not-later : (hs : List TrackHead) (top : TrackHead) → IsHeapFrom 0 hs → top ≡ get_or hs 0 top → AllByRecursion (λ y. is_later top y ≡ false) hs
top-not-later hs top h e = all-by-index top hs (λ k b. by top (get_or hs k top) (get_or hs 0 top) (get_or hs k top) e refl (first-not-later hs top h k k (omega arith) b))

-- ---- a head at a place that is there

pub get-any : (hs : List TrackHead) (i : ℕ) (d e : TrackHead) → i < length hs → get_or hs i d ≡ get_or hs i e
get-any [] i d e h = absurd (omega arith)
get-any (x ∷ hs) zero d e h = refl
get-any (x ∷ hs) (suc i) d e h = get-any hs i d e (omega arith)

-- the answer of a comparison at two places, whatever stands for places that are not there
pub later-any : (hs : List TrackHead) (i k : ℕ) (e : TrackHead) (b : Bool) → i < length hs → k < length hs → is_later (get_or hs i e) (get_or hs k e) ≡ b → (d : TrackHead) → is_later (get_or hs i d) (get_or hs k d) ≡ b
later-any hs i k e b p q h d = ap (λ (t : TrackHead). is_later t (get_or hs k d)) (get-any hs i d e p) ∙ ap (λ (t : TrackHead). is_later (get_or hs i e) t) (get-any hs k d e q) ∙ h

-- another head in the place of the first
pub heap-below : (hs : List TrackHead) (h : TrackHead) → IsHeapFrom 0 hs → IsHeapFrom 1 (set hs 0 h)
heap-below [] h heap = heap'
  where
    heap' : IsHeapFrom 1 []
    heap' i k d a b c f = absurd (omega arith)
heap-below (x ∷ hs) h heap = λ i k d a b c f.
    by (get_or (h ∷ hs) i d) (get_or (h ∷ hs) k d) (get_or (x ∷ hs) i d) (get_or (x ∷ hs) k d) (behind i d (omega arith)) (behind k d (omega arith)) (heap i k d (omega arith) b c f)
  where
    behind : (i : ℕ) (d : TrackHead) → 1 ≤ i → get_or (h ∷ hs) i d ≡ get_or (x ∷ hs) i d
    behind zero d p = absurd (omega arith)
    behind (suc i) d p = refl

-- the first part of a heap
pub heap-front : (hs : List TrackHead) (last : TrackHead) → IsHeapFrom 0 (hs ++ last ∷ []) → IsHeapFrom 0 hs
heap-front hs last heap = λ i k d a b c f.
    by (get_or hs i d) (get_or hs k d) (get_or (hs ++ last ∷ []) i d) (get_or (hs ++ last ∷ []) k d) (sym (in-front hs last i d (omega arith))) (sym (in-front hs last k d f)) (heap i k d a b c (let n : length (hs ++ last ∷ []) ≡ length hs + 1 = length-append hs (last ∷ []) in omega arith))
  where
    in-front : (hs : List TrackHead) (last : TrackHead) (i : ℕ) (d : TrackHead) → i < length hs → get_or (hs ++ last ∷ []) i d ≡ get_or hs i d
    in-front [] last i d h = absurd (omega arith)
    in-front (x ∷ hs) last zero d h = refl
    in-front (x ∷ hs) last (suc i) d h = in-front hs last i d (omega arith)

-- ---- the same heads in another order

pub with-first : (hs : List TrackHead) (h : TrackHead) → 0 < length hs → set hs 0 h ≡ h ∷ drop 1 hs
with-first [] h p = absurd (omega arith)
with-first (x ∷ hs) h p = refl

-- the last in the place of the first
pub last-first : (hs hs' : List TrackHead) (last : TrackHead) → 0 < length hs → IsPermutation (last ∷ drop 1 hs) hs' → IsPermutation (drop 1 (hs ++ last ∷ [])) hs'
last-first [] hs' last p moved = absurd (omega arith)
last-first (x ∷ hs) hs' last p moved = IsPermutation-trans (hs ++ last ∷ []) (last ∷ hs) hs' (IsPermutation-to_front hs last) moved
