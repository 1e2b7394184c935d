-- Lemmas on a heap in a list in which an element moves up or down.
use Rattle.std.proofs.Common.{◌≡◌, ◌≢◌, ◌<◌, ◌≤◌, ◌+◌, ◌*◌, ◌-◌, ◌/◌, ◌∙◌, ℕ, zero, suc, Bool, true, false, List, [], ◌∷◌, ◌++◌, length, length-set, length-append, take, get_or, set, refl, ap, sym, subst, arith, inl, inr}
use Rattle.std.specs.BinaryHeap.{lt_by_cmp, IsHeap, IsUpperBound}
use Rattle.std.specs.BinaryHeap.Sift.{IsHeapWithHole}
use Rattle.std.specs.Cmp.{IsStrictWeakOrder, IsTotalOrder}
use Rattle.std.specs.List.{AllByRecursion, swap_remove}
use Rattle.std.specs.List.Sorted.{IsPermutation}
use Rattle.std.specs.Slice.Heapsort.{IsHeapWithin, IsNotBelowChildren}
use Rattle.std.specs.declared.cmp.Ordering.{Ordering}
use Rattle.std.proofs.lemmas.Bool.Decides.{eqb_tells}
use Rattle.std.proofs.lemmas.Grind.{get_or-set_at}
use Rattle.std.proofs.lemmas.List.{get_or-set_other, get_or_default, set-get_or, set-set}
use Rattle.std.proofs.Math.ListN.{get_or-append}
use Rattle.std.proofs.Math.Seq.{get_or-append_seam, take-append_seam}
use Rattle.std.proofs.lemmas.List.Edits.{swap_is}
use Rattle.std.proofs.lemmas.List.MinMax.{ranks_by}
use Rattle.std.proofs.lemmas.List.Sorted.{IsPermutation-swap, IsPermutation-swap_remove, IsPermutation-cons, IsPermutation-sym, IsPermutation-trans, IsPermutation-to_front}
use Rattle.agenda_heap.proofs.Told.{Same}

-- by whether two numbers are one
by_same : {P : Type 0} (a b : ℕ) → (a ≡ b → P) → (a ≢ b → P) → P
by_same {P} a b if-same if-apart = go (eqb_tells a b)
  where
    go : Same a b → P
    go (inl s) = if-same s.1
    go (inr n) = if-apart n.1

all_at : {X : Type 0} (P : X → Type 0) (xs : List X) (d : X) → ((k : ℕ) → k < length xs → P (get_or xs k d)) → AllByRecursion P xs
all_at P [] d h = tt
all_at P (x ∷ xs) d h = (h 0 (omega arith), all_at P xs d (λ k within. h (suc k) (omega arith)))

-- ---- an element moves into a hole, and leaves one

-- what stands at a place, whatever else is asked for
pub stands : {X : Type 0} (xs : List X) (i : ℕ) (y d : X) → i < length xs → y ≡ get_or xs i y → get_or xs i d ≡ y
stands xs i y d within is = get_or_default xs i d y within ∙ sym is

pub hole_moves : {X : Type 0} (xs : List X) (j c : ℕ) (x y : X) → j ≢ c → j < length xs → c < length xs → y ≡ get_or xs c y → IsPermutation (set xs j x) (set (set xs j y) c x)
hole_moves {X} xs j c x y apart in-j in-c is =
    let ys = set xs j x in
    let at-c : get_or ys c x ≡ y = get_or-set_other xs j c x x (omega arith) ∙ stands xs c y x in-c is in
    let at-j : get_or ys j x ≡ x = get_or-set_at xs j j x x refl in-j in
    let long : length ys ≡ length xs = length-set xs j x in
    IsPermutation-swap ys (set (set xs j y) c x) j c (omega arith) (omega arith)
    (ap (λ (l : List X). set l c x) (sym (set-set xs j x y)) ∙ (λ t. set (set ys j (sym at-c t)) c (sym at-j t)) ∙ swap_is ys j c x (omega arith) (omega arith))

-- ---- an element is added at the end, or the last goes to the place of one that is taken

module _ {X : Type 0} where
  -- what was written into a vector's slice
  pub written : (n : ℕ) (ys zs : List X) → length ys ≡ n → take n (ys ++ zs) ≡ ys
  written n ys zs e = ap (λ (m : ℕ). take m (ys ++ zs)) (sym e) ∙ take-append_seam ys zs

  pub pushed : (xs ys zs : List X) (end : ℕ) (x : X) → end ≡ length xs → ys ≡ xs ++ x ∷ [] → IsPermutation (set ys end x) zs → IsPermutation (x ∷ xs) zs
  pushed xs ys zs end x e is moved =
      let there : get_or ys end x ≡ x = ap (λ (l : List X). get_or l end x) is ∙ ap (λ (i : ℕ). get_or (xs ++ x ∷ []) i x) e ∙ get_or-append_seam xs x [] x in
      let same : set ys end x ≡ xs ++ x ∷ [] = ap (set ys end) (sym there) ∙ set-get_or ys end x ∙ is in
      IsPermutation-trans (x ∷ xs) (xs ++ x ∷ []) zs (IsPermutation-sym (xs ++ x ∷ []) (x ∷ xs) (IsPermutation-to_front xs x)) (subst (λ (l : List X). IsPermutation l zs) same moved)

  pub taken : (xs ys zs : List X) (i : ℕ) (x : X) → i < length xs → x ≡ get_or xs i x → ys ≡ swap_remove xs i x → IsPermutation ys zs → IsPermutation xs (x ∷ zs)
  taken xs ys zs i x within is rest moved =
      IsPermutation-trans xs (x ∷ ys) (x ∷ zs) (subst (λ (l : List X). IsPermutation xs (x ∷ l)) (sym rest) (IsPermutation-swap_remove xs i x within is)) (IsPermutation-cons x ys zs moved)

module _ {X : Type 0} (lt : X → X → Bool) where
  -- the item is not less than a child of the element at j among the first n
  abbrev pub IsAbove : X → List X → ℕ → ℕ → Type 0
  IsAbove x xs j n = (k : ℕ) (d : X) → j * 2 + 1 ≤ k → k ≤ j * 2 + 2 → k < n → lt x (get_or xs k d) ≡ false

  read : {a b x y : X} → a ≡ x → b ≡ y → lt x y ≡ false → lt a b ≡ false
  read p q h = cc

  -- at a leaf nothing is below
  pub above-leaf : (xs : List X) (j n : ℕ) (x : X) → n ≤ j * 2 + 1 → IsAbove x xs j n
  above-leaf xs j n x leaf = λ k d low high in'. absurd (omega arith)

  module _ (xs : List X) (j n : ℕ) (y : X) (in-j : j < length xs) where
    moved : (k : ℕ) (d : X) → k ≡ j → get_or (set xs j y) k d ≡ y
    moved k d e = get_or-set_at xs j k y d e in-j

    stays : (k : ℕ) (d : X) → k ≢ j → get_or (set xs j y) k d ≡ get_or xs k d
    stays k d apart = get_or-set_other xs j k y d apart

    -- the item put into the hole
    pub filled : ((p : ℕ) (d : X) → p * 2 + 1 ≤ j → j ≤ p * 2 + 2 → lt (get_or xs p d) y ≡ false) → IsAbove y xs j n → IsHeapWithHole lt xs j n → IsHeapWithin lt (set xs j y) 0 n
    filled below above hole = λ p k d _ low high within. by_same p j
        (λ same. read (moved p d same) (stays k d (omega arith)) (above k d (omega arith) (omega arith) within))
        (λ other. by_same k j
        (λ same. read (stays p d other) (moved k d same) (below p d (omega arith) (omega arith)))
        (λ apart. read (stays p d other) (stays k d apart) (hole.0 p k d low high within other apart)))

    -- the greater child at c moves up into the hole
    pub sinks : (c : ℕ) → j * 2 + 1 ≤ c → c ≤ j * 2 + 2 → c < n → ((d : X) → get_or xs c d ≡ y) → IsNotBelowChildren lt xs j c n → IsHeapWithHole lt xs j n → IsHeapWithHole lt (set xs j y) c n
    sinks c from to in-c is greater hole = (
      λ p k d low high within u v. by_same p j
          (λ same. read (moved p d same ∙ sym (is d)) (stays k d (omega arith)) (greater k d (omega arith) (omega arith) within))
          (λ other. by_same k j
          (λ same. read (stays p d other) (moved k d same ∙ sym (is d)) (hole.1 p c d (omega arith) (omega arith) from to in-c))
          (λ apart. read (stays p d other) (stays k d apart) (hole.0 p k d low high within other apart))),
      λ p k d low high low' high' within.
          read (moved p d (omega arith) ∙ sym (is d)) (stays k d (omega arith)) (hole.0 c k d low' high' within (omega arith) (omega arith)),
    )

    module _ (o : IsStrictWeakOrder lt) where
      -- the parent at c, which is less than the item, moves down into the hole
      pub rises : (c : ℕ) (x : X) → c * 2 + 1 ≤ j → j ≤ c * 2 + 2 → j < n → ((d : X) → get_or xs c d ≡ y) → lt y x ≡ true → IsHeapWithHole lt xs j n → IsHeapWithHole lt (set xs j y) c n × IsAbove x (set xs j y) c n
      rises c x from to in-n is less hole = (
        (
          λ p k d low high within u v. by_same p j
              (λ same. read (moved p d same ∙ sym (is d)) (stays k d (omega arith)) (hole.1 c k d from to (omega arith) (omega arith) within))
              (λ other. read (stays p d other) (stays k d (omega arith)) (hole.0 p k d low high within other (omega arith))),
          λ p k d low high low' high' within.
              let over : lt (get_or xs p d) (get_or xs c d) ≡ false = hole.0 p c d low high (omega arith) (omega arith) (omega arith) in
              by_same k j
              (λ same. read (stays p d (omega arith)) (moved k d same ∙ sym (is d)) over)
              (λ apart. read (stays p d (omega arith)) (stays k d apart) (o.chain _ _ _ over (hole.0 c k d low' high' within (omega arith) apart))),
        ),
        λ k d low high within. by_same k j
            (λ same. read refl (moved k d same) (o.one_way _ _ less))
            (λ apart. read refl (stays k d apart) (o.chain _ _ _ (o.one_way _ _ less) (read (sym (is d)) refl (hole.0 c k d low high within (omega arith) apart)))),
      )

module _ {X : Type 0} (R : X → X → Ordering) where
  -- the item at its place, where its parent is not less
  pub placed : (xs : List X) (j n : ℕ) (x : X) → j < length xs → length xs ≡ n → ((p : ℕ) (d : X) → p * 2 + 1 ≤ j → j ≤ p * 2 + 2 → lt_by_cmp R (get_or xs p d) x ≡ false) → IsHeapWithHole (lt_by_cmp R) xs j n × IsAbove (lt_by_cmp R) x xs j n → IsHeap R (set xs j x)
  unfolding IsHeap
  placed xs j n x within long below h =
      let same : n ≡ length (set xs j x) = sym long ∙ sym (length-set xs j x) in
      subst (IsHeapWithin (lt_by_cmp R) (set xs j x) 0) same (filled (lt_by_cmp R) xs j n x within below h.1 h.0)

  -- at the top no parent is less
  pub below-none : (xs : List X) (x : X) (p j : ℕ) (d : X) → j ≡ 0 → p * 2 + 1 ≤ j → lt_by_cmp R (get_or xs p d) x ≡ false
  below-none xs x p j d top low = absurd (omega arith)

  pub below-parent : (xs : List X) (x y : X) (c p j : ℕ) (d : X) → c < length xs → y ≡ get_or xs c y → lt_by_cmp R y x ≡ false → c ≡ p → lt_by_cmp R (get_or xs p d) x ≡ false
  below-parent xs x y c p j d within is not-less same =
      read (lt_by_cmp R) (ap (λ (i : ℕ). get_or xs i d) (sym same) ∙ stands xs c y d within is) refl not-less

  -- the first element of a heap is less than none
  module _ (o : IsTotalOrder R) (xs : List X) (x : X) (is : x ≡ get_or xs 0 x) where
    not-itself : (b : Bool) → lt_by_cmp R x x ≡ b → lt_by_cmp R x x ≡ false
    not-itself true less = (ranks_by o (λ (y : X). y)).one_way x x less
    not-itself false not-less = not-less

    not-under : IsHeap R xs → (most k : ℕ) → k ≤ most → k < length xs → lt_by_cmp R x (get_or xs k x) ≡ false
    unfolding IsHeap
    not-under heap zero k few within = let top : k ≡ 0 = omega arith in read (lt_by_cmp R) refl (ap (λ i. get_or xs i x) top ∙ sym is) (not-itself _ refl)
    not-under heap (suc most) k few within = by_same k 0
        (λ top. read (lt_by_cmp R) refl (ap (λ i. get_or xs i x) top ∙ sym is) (not-itself _ refl))
        (λ below. (ranks_by o (λ (y : X). y)).chain _ _ _
        (not-under heap most ((k - 1) / 2) (omega arith) (omega arith))
        (heap ((k - 1) / 2) k x (omega arith) (omega arith) (omega arith) within))

    pub first_greatest : IsHeap R xs → IsUpperBound R x xs
    first_greatest heap = all_at (λ y. lt_by_cmp R x y ≡ false) xs x (λ k within. not-under heap k k (omega arith) within)

  -- a heap with an element at its end
  pub grown : (xs ys : List X) (end : ℕ) (x : X) → end ≡ length xs → ys ≡ xs ++ x ∷ [] → IsHeap R xs → IsHeapWithHole (lt_by_cmp R) ys end (length ys)
  unfolding IsHeap
  grown xs ys end x e is heap =
      let long : length ys ≡ length xs + 1 = ap (λ (l : List X). length l) is ∙ length-append xs (x ∷ []) in
      let same : (k : ℕ) (d : X) → k < length xs → get_or ys k d ≡ get_or xs k d = λ k d in-k. ap (λ (l : List X). get_or l k d) is ∙ get_or-append xs (x ∷ []) d k in-k in (
        λ p k d low high within _ apart. read (lt_by_cmp R) (same p d (omega arith)) (same k d (omega arith)) (heap p k d (omega arith) low high (omega arith)),
        λ p k d low high low' high' within. absurd (omega arith),
      )

  -- a heap that lost its last element, which stands at i now
  module _ (xs ys : List X) (i : ℕ) (long : length ys + 1 ≡ length xs) (same : (k : ℕ) (d : X) → k ≢ i → k + 1 < length xs → get_or ys k d ≡ get_or xs k d) where
    pub hole_left : IsTotalOrder R → i < length ys → IsHeap R xs → IsHeapWithHole (lt_by_cmp R) ys i (length ys)
    unfolding IsHeap
    hole_left o within-i heap = (
      λ p k d low high within u v. read (lt_by_cmp R) (same p d u (omega arith)) (same k d v (omega arith)) (heap p k d (omega arith) low high (omega arith)),
      λ p k d low high low' high' within.
          read (lt_by_cmp R) (same p d (omega arith) (omega arith)) (same k d (omega arith) (omega arith))
          ((ranks_by o (λ (x : X). x)).chain _ _ _ (heap p i d (omega arith) low high (omega arith)) (heap i k d (omega arith) low' high' (omega arith))),
    )

    pub last_left : length ys ≤ i → IsHeap R xs → IsHeap R ys
    unfolding IsHeap
    last_left outside heap = λ p k d _ low high within.
        read (lt_by_cmp R) (same p d (omega arith) (omega arith)) (same k d (omega arith) (omega arith)) (heap p k d (omega arith) low high (omega arith))
