-- What a numbered map has at a number, and what it is after a change of one number.
use Rattle.std.proofs.Common.{◌≡◌, ◌≢◌, ◌<◌, ◌≤◌, ◌+◌, ◌-◌, ◌∙◌, ℕ, zero, suc, true, false, cond, Option, Some, None, refl, ap, sym, inl, inr, zero-add, arith}
use Rattle.std.proofs.lemmas.Bool.{cases_eq}
use Rattle.std.proofs.lemmas.Bool.Decides.{leb_tells}
use Rattle.std.specs.declared.cmp.Ordering.{Ordering}
use Rattle.std.specs.declared.cmp.Ordering.TheVariants.{Less, Equal, Greater}
use Rattle.std.specs.Ordering.{nat_cmp, eq_by_cmp, is_eq}
use Rattle.std.specs.Cmp.{nat_cmp_total, nat_cmp_is}
use Rattle.std.specs.FinMap as map
use Rattle.std.specs.FinMap.{FinMap, get, nat_cmp-IsAntisymmetric, get-insert, get-remove, get-empty, same_map}
use Rattle.node_table.specs.Kept.{numbered_map, put_some}

is_equal : (r : Ordering) → is_eq r ≡ true → r ≡ Equal
is_equal Less e = cc
is_equal Equal e = refl
is_equal Greater e = cc

-- keys that tie are one
pub same_key : (x y : ℕ) → eq_by_cmp nat_cmp x y ≡ true → x ≡ y
same_key x y e = nat_cmp-IsAntisymmetric x y (is_equal (nat_cmp x y) e)

pub tied_itself : (x : ℕ) → eq_by_cmp nat_cmp x x ≡ true
tied_itself x = ap is_eq (sym (nat_cmp_is x x Equal refl))

pub apart_keys : (x y : ℕ) → x ≢ y → eq_by_cmp nat_cmp x y ≡ false
apart_keys x y ne = elim (eq_by_cmp nat_cmp x y) as (λ b. eq_by_cmp nat_cmp x y ≡ b → b ≡ false) [
  | true ↦ λ e. absurd (ne (same_key x y e))
  | false ↦ λ e. refl
] refl

module _ {X : Type 0} where
  pub get-insert_same : (m : FinMap nat_cmp X) (k : ℕ) (v : X) → get (map.insert m k v) k ≡ Some v
  get-insert_same m k v = get-insert nat_cmp_total m k v k ∙ ap (λ b. cond b (Some v) (get m k)) (tied_itself k)

  pub get-insert_other : (m : FinMap nat_cmp X) (k : ℕ) (v : X) (q : ℕ) → q ≢ k → get (map.insert m k v) q ≡ get m q
  get-insert_other m k v q ne = get-insert nat_cmp_total m k v q ∙ ap (λ b. cond b (Some v) (get m q)) (apart_keys q k ne)

  pub get-remove_same : (m : FinMap nat_cmp X) (k : ℕ) → get (map.remove m k) k ≡ None
  get-remove_same m k = get-remove nat_cmp_total m k k ∙ ap (λ b. cond b None (get m k)) (tied_itself k)

  pub get-remove_other : (m : FinMap nat_cmp X) (k q : ℕ) → q ≢ k → get (map.remove m k) q ≡ get m q
  get-remove_other m k q ne = get-remove nat_cmp_total m k q ∙ ap (λ b. cond b None (get m q)) (apart_keys q k ne)

  put_some_same : (m : FinMap nat_cmp X) (k : ℕ) (o : Option X) → get m k ≡ None → get (put_some m k o) k ≡ o
  put_some_same m k None e = e
  put_some_same m k (Some x) e = get-insert_same m k x

  put_some_other : (m : FinMap nat_cmp X) (k : ℕ) (o : Option X) (q : ℕ) → q ≢ k → get (put_some m k o) q ≡ get m q
  put_some_other m k None q ne = refl
  put_some_other m k (Some x) q ne = get-insert_other m k x q ne

  pub get-below : (base n q : ℕ) (f : ℕ → Option X) → q < base → get (numbered_map base n f) q ≡ None
  unfolding numbered_map
  get-below base zero q f h = get-empty nat_cmp q
  get-below base (suc n) q f h = put_some_other (numbered_map base n f) (base + n) (f n) q (omega arith) ∙ get-below base n q f h

  pub get-above : (base n q : ℕ) (f : ℕ → Option X) → base + n ≤ q → get (numbered_map base n f) q ≡ None
  unfolding numbered_map
  get-above base zero q f h = get-empty nat_cmp q
  get-above base (suc n) q f h = put_some_other (numbered_map base n f) (base + n) (f n) q (omega arith) ∙ get-above base n q f (omega arith)

  pub get-numbered : (base n i : ℕ) (f : ℕ → Option X) → i < n → get (numbered_map base n f) (base + i) ≡ f i
  unfolding numbered_map
  get-numbered base zero i f h = absurd (omega arith)
  get-numbered base (suc n) i f h = elim (cases_eq i n) [
    | inl e ↦ rw e (put_some_same (numbered_map base n f) (base + n) (f n) (get-above base n (base + n) f (omega arith)))
    | inr ne ↦ put_some_other (numbered_map base n f) (base + n) (f n) (base + i) (omega arith) ∙ get-numbered base n i f (omega arith)
  ]

  pub numbered_same : (base n : ℕ) (f g : ℕ → Option X) → ((i : ℕ) → i < n → g i ≡ f i) → numbered_map base n g ≡ numbered_map base n f
  unfolding numbered_map
  numbered_same base zero f g h = refl
  numbered_same base (suc n) f g h =
      ap (λ m. put_some m (base + n) (g n)) (numbered_same base n f g (λ i l. h i (omega arith))) ∙ ap (put_some (numbered_map base n f) (base + n)) (h n (omega arith))

  pub numbered_none : (base n : ℕ) (f : ℕ → Option X) → ((i : ℕ) → i < n → f i ≡ None) → numbered_map base n f ≡ map.empty
  unfolding numbered_map
  numbered_none base zero f h = refl
  numbered_none base (suc n) f h =
      ap (put_some (numbered_map base n f) (base + n)) (h n (omega arith)) ∙ numbered_none base n f (λ i l. h i (omega arith))

  -- two maps are one if they agree within the range, and the second has nothing out of it
  same_within : (base n : ℕ) (g : ℕ → Option X) (m : FinMap nat_cmp X) → ((q : ℕ) → q < base → get m q ≡ None) → ((q : ℕ) → base + n ≤ q → get m q ≡ None) → ((i : ℕ) → i < n → g i ≡ get m (base + i)) → numbered_map base n g ≡ m
  same_within base n g m below above within =
      same_map nat_cmp_total nat_cmp-IsAntisymmetric _ _ (λ q. elim (leb_tells base q) [
        | inr l ↦ get-below base n q g l.1 ∙ sym (below q l.1)
        | inl b ↦ elim (leb_tells (base + n) q) [
          | inl h ↦ get-above base n q g h.1 ∙ sym (above q h.1)
          | inr l ↦ let at : q ≡ base + (q - base) = omega (arith, b.1) in
              let small : q - base < n = omega (arith, b.1, l.1) in
              ap (get (numbered_map base n g)) at ∙ get-numbered base n (q - base) g small ∙ within (q - base) small ∙ ap (get m) (sym at)
        ]
      ])

  -- one number has another value
  pub numbered_insert : (base n i : ℕ) (f g : ℕ → Option X) (x : X) → i < n → g i ≡ Some x → ((j : ℕ) → j < n → j ≢ i → g j ≡ f j) → numbered_map base n g ≡ map.insert (numbered_map base n f) (base + i) x
  numbered_insert base n i f g x l e h =
      same_within base n g (map.insert (numbered_map base n f) (base + i) x)
      (λ q b. get-insert_other _ (base + i) x q (omega arith) ∙ get-below base n q f b)
      (λ q b. get-insert_other _ (base + i) x q (omega arith) ∙ get-above base n q f b)
      (λ j s. elim (cases_eq j i) [
        | inl same ↦ rw same (e ∙ sym (get-insert_same (numbered_map base n f) (base + i) x))
        | inr ne ↦ h j s ne ∙ sym (get-insert_other (numbered_map base n f) (base + i) x (base + j) (omega arith) ∙ get-numbered base n j f s)
      ])

  -- one number has none any more
  pub numbered_remove : (base n i : ℕ) (f g : ℕ → Option X) → i < n → g i ≡ None → ((j : ℕ) → j < n → j ≢ i → g j ≡ f j) → numbered_map base n g ≡ map.remove (numbered_map base n f) (base + i)
  numbered_remove base n i f g l e h =
      same_within base n g (map.remove (numbered_map base n f) (base + i))
      (λ q b. get-remove_other _ (base + i) q (omega arith) ∙ get-below base n q f b)
      (λ q b. get-remove_other _ (base + i) q (omega arith) ∙ get-above base n q f b)
      (λ j s. elim (cases_eq j i) [
        | inl same ↦ rw same (e ∙ sym (get-remove_same (numbered_map base n f) (base + i)))
        | inr ne ↦ h j s ne ∙ sym (get-remove_other (numbered_map base n f) (base + i) (base + j) (omega arith) ∙ get-numbered base n j f s)
      ])

  -- the same from 0 on
  pub get-from_zero : (n i : ℕ) (f : ℕ → Option X) → i < n → get (numbered_map 0 n f) i ≡ f i
  get-from_zero n i f l = ap (get (numbered_map 0 n f)) (sym (zero-add i)) ∙ get-numbered 0 n i f l

  pub insert-from_zero : (n i : ℕ) (f g : ℕ → Option X) (x : X) → i < n → g i ≡ Some x → ((j : ℕ) → j < n → j ≢ i → g j ≡ f j) → numbered_map 0 n g ≡ map.insert (numbered_map 0 n f) i x
  insert-from_zero n i f g x l e h = numbered_insert 0 n i f g x l e h ∙ ap (λ k. map.insert (numbered_map 0 n f) k x) (zero-add i)

  pub remove-from_zero : (n i : ℕ) (f g : ℕ → Option X) → i < n → g i ≡ None → ((j : ℕ) → j < n → j ≢ i → g j ≡ f j) → numbered_map 0 n g ≡ map.remove (numbered_map 0 n f) i
  remove-from_zero n i f g l e h = numbered_remove 0 n i f g l e h ∙ ap (map.remove (numbered_map 0 n f)) (zero-add i)

  -- what was not there is not there without it either
  pub remove_absent : (m : FinMap nat_cmp X) (k : ℕ) → get m k ≡ None → map.remove m k ≡ m
  remove_absent m k e = same_map nat_cmp_total nat_cmp-IsAntisymmetric _ _ (λ q. elim (cases_eq q k) [
    | inl same ↦ rw same (get-remove_same m k ∙ sym e)
    | inr ne ↦ get-remove_other m k q ne
  ])
