-- Notes that are raised twice.
use Rattle.std.proofs.Common.{◌≡◌, ℕ, ◌≤◌, ◌<◌, ◌⊎◌, inl, inr, Bool, true, false, None, refl, sym, ap, ◌∙◌, arith, w16, to_z, of_z}
use Rattle.std.specs.Prelude.{Option, Some, if◌then◌else◌, ◌&&◌, nat_lt, nat_le, IsTrue, option_and_then, unsigned_abs, int_lt, FitsSigned, ℤ, pos, negsuc, ◌+ℤ◌, ◌-ℤ◌, ◌<ℤ◌, ◌≤ℤ◌}
use Rattle.std.specs.Int.{int_max, int_min}
use Rattle.std.proofs.lemmas.Bool.{ltb-false, le-ltb, leb-true, and_parts}
use Rattle.std.proofs.lemmas.Bool.Decides.{nat_tests}
use Rattle.std.proofs.lemmas.Int.{ints, clamps}
use Rattle.route_filter.specs.declared.rule_args.RuleArgs.{RuleArgs}
use Rattle.route_filter.specs.Rules.{is_channel_choice, is_rule}
use Rattle.route_filter.specs.Passing.{as_note}
use Rattle.route_filter.specs.Chains.{note_after, moved_twice}

-- what the arguments of a rule keep
pub record Bounds (rule : RuleArgs) : Type 0 where
  pub kinds : rule.kinds.0 ≤ 1023
  pub order : rule.low ≤ rule.high
  pub most : rule.high ≤ 127
  pub shift : unsigned_abs rule.shift ≤ 127
  pub channel : is_channel_choice rule.channel ≡ true

pub bounds-of : (rule : RuleArgs) → IsTrue (is_rule rule) → Bounds rule
bounds-of rule p =
    let kinds = and_parts (nat_le rule.kinds.0 1023) (nat_le rule.low rule.high && (nat_le rule.high 127 && (nat_le (unsigned_abs rule.shift) 127 && is_channel_choice rule.channel))) p in
    let order = and_parts (nat_le rule.low rule.high) (nat_le rule.high 127 && (nat_le (unsigned_abs rule.shift) 127 && is_channel_choice rule.channel)) kinds.1 in
    let most = and_parts (nat_le rule.high 127) (nat_le (unsigned_abs rule.shift) 127 && is_channel_choice rule.channel) order.1 in
    let shift = and_parts (nat_le (unsigned_abs rule.shift) 127) (is_channel_choice rule.channel) most.1 in
    record {
      kinds = leb-true rule.kinds.0 1023 kinds.0;
      order = leb-true rule.low rule.high order.0;
      most = leb-true rule.high 127 most.0;
      shift = leb-true (unsigned_abs rule.shift) 127 shift.0;
      channel = shift.1;
    }

-- ---- a number that is no note

no-note : (z : ℤ) → (z <ℤ pos 0) ⊎ (pos 127 <ℤ z) → as_note z ≡ None
no-note (pos k) (inl l) = absurd (omega (arith, ints))
no-note (pos k) (inr l) = ap (λ (t : Bool). if t then Some k else None) (le-ltb k 128 (omega (arith, ints)))
no-note (negsuc k) l = refl

outside : (low high n : ℕ) (o : Option ℕ) → (low ≤ n → n ≤ high → ⊥) → (if nat_le low n && nat_le n high then o else None) ≡ None
outside low high n o f =
    go (nat_le low n && nat_le n high) refl
  where
    go : (t : Bool) → (nat_le low n && nat_le n high) ≡ t → (if t then o else None) ≡ None
    go true e = let p = and_parts (nat_le low n) (nat_le n high) e in absurd (f (leb-true low n p.0) (leb-true n high p.1))
    go false e = refl

same-test : (a b c d : ℕ) → (a ≤ b → c ≤ d) → (c ≤ d → a ≤ b) → nat_le a b ≡ nat_le c d
same-test a b c d f g = grind (arith, nat_tests)

-- ---- the notes from l to h that are raised by s, of which those from l' to h' are raised again by s'

module _ (l h l' h' : ℕ) (s s' : ℤ) (most : h ≤ 127) (most' : h' ≤ 127) where
  -- what becomes of a note that is at z after the first shift
  abbrev from : ℤ → Option ℕ
  from z = option_and_then (note_after l' h' s') (as_note z)

  module _ (low high : ℕ) (shift : ℤ) (lowest : pos low ≡ int_max (pos l) (pos l' -ℤ s)) (highest : pos high ≡ int_min (pos h) (pos h' -ℤ s)) (sum : shift ≡ s +ℤ s') where
    inside : (n : ℕ) (z : ℤ) → l ≤ n → n ≤ h → pos n +ℤ s ≡ z → note_after low high shift n ≡ from z
    inside n (pos m) a b e =
        go (nat_lt m 128) refl
      where
        go : (t : Bool) → nat_lt m 128 ≡ t → note_after low high shift n ≡ option_and_then (note_after l' h' s') (if t then Some m else None)
        go true f =
            let p : nat_le low n ≡ nat_le l' m = same-test low n l' m (λ x. omega (arith, ints, clamps)) (λ x. omega (arith, ints, clamps)) in
            let q : nat_le n high ≡ nat_le m h' = same-test n high m h' (λ x. omega (arith, ints, clamps)) (λ x. omega (arith, ints, clamps)) in
            let r : pos n +ℤ shift ≡ pos m +ℤ s' = omega (arith, ints) in
            ap (λ (t : Bool). if t && nat_le n high then as_note (pos n +ℤ shift) else None) p
            ∙ ap (λ (t : Bool). if nat_le l' m && t then as_note (pos n +ℤ shift) else None) q
            ∙ ap (λ (z : ℤ). if nat_le l' m && nat_le m h' then as_note z else None) r
        go false f = let k : 128 ≤ m = ltb-false m 128 f in outside low high n _ (λ x y. omega (arith, ints, clamps))
    inside n (negsuc m) a b e = outside low high n _ (λ x y. omega (arith, ints, clamps))

    pub raised-twice : (n : ℕ) → note_after low high shift n ≡ option_and_then (note_after l' h' s') (note_after l h s n)
    raised-twice n =
        go (nat_le l n && nat_le n h) refl
      where
        go : (t : Bool) → (nat_le l n && nat_le n h) ≡ t → note_after low high shift n ≡ option_and_then (note_after l' h' s') (if t then as_note (pos n +ℤ s) else None)
        go true e = let p = and_parts (nat_le l n) (nat_le n h) e in inside n (pos n +ℤ s) (leb-true l n p.0) (leb-true n h p.1) refl
        go false e = outside low high n _ (λ x y. let p : (nat_le l n && nat_le n h) ≡ true = grind (arith, ints, clamps, nat_tests) in let bad : true ≡ false = sym p ∙ e in cc)

  module _ (apart : (int_min (pos h) (pos h' -ℤ s) <ℤ int_max (pos l) (pos l' -ℤ s)) ⊎ (127 < unsigned_abs (s +ℤ s'))) where
    lost : (n : ℕ) (z : ℤ) → l ≤ n → n ≤ h → pos n +ℤ s ≡ z → from z ≡ None
    lost n (negsuc m) a b e = refl
    lost n (pos m) a b e =
        go (nat_lt m 128)
      where
        range : (int_min (pos h) (pos h' -ℤ s) <ℤ int_max (pos l) (pos l' -ℤ s)) ⊎ (127 < unsigned_abs (s +ℤ s')) → note_after l' h' s' m ≡ None
        range (inl c) = outside l' h' m _ (λ x y. omega (arith, ints, clamps))
        range (inr c) = ap (λ (o : Option ℕ). if nat_le l' m && nat_le m h' then o else None) (no-note (pos m +ℤ s') (far _ c refl)) ∙ outside-none (nat_le l' m && nat_le m h')
          where
            outside-none : (t : Bool) → ◌≡◌ {A = Option ℕ} (if t then None else None) None
            outside-none true = refl
            outside-none false = refl

            far : (y : ℤ) → 127 < unsigned_abs y → s +ℤ s' ≡ y → ((pos m +ℤ s') <ℤ pos 0) ⊎ (pos 127 <ℤ (pos m +ℤ s'))
            far (pos k) c f = inr (omega (arith, ints))
            far (negsuc k) c f = inl (omega (arith, ints))

        go : (t : Bool) → option_and_then (note_after l' h' s') (if t then Some m else None) ≡ None
        go true = range apart
        go false = refl

    pub lost-twice : (n : ℕ) → option_and_then (note_after l' h' s') (note_after l h s n) ≡ None
    lost-twice n =
        go (nat_le l n && nat_le n h) refl
      where
        go : (t : Bool) → (nat_le l n && nat_le n h) ≡ t → option_and_then (note_after l' h' s') (if t then as_note (pos n +ℤ s) else None) ≡ None
        go true e = let p = and_parts (nat_le l n) (nat_le n h) e in lost n (pos n +ℤ s) (leb-true l n p.0) (leb-true n h p.1) refl
        go false e = refl

-- ---- the same, as the code computes it in 16 bits

abbrev in_i16 : ℤ → ℤ
in_i16 z = to_z w16 (of_z w16 z)

note-stays : (z : ℤ) (n : ℕ) → z ≡ pos n → n ≤ 127 → in_i16 z ≡ pos n
note-stays z n e l = omega (arith, ints)

lowered : (z s : ℤ) (n : ℕ) → z ≡ pos n → n ≤ 127 → unsigned_abs s ≤ 127 → in_i16 (in_i16 z -ℤ in_i16 s) ≡ pos n -ℤ s
lowered z s n e l k = omega (arith, ints)

added : (s s' : ℤ) → unsigned_abs s ≤ 127 → unsigned_abs s' ≤ 127 → in_i16 (in_i16 s +ℤ in_i16 s') ≡ s +ℤ s'
added s s' k k' = omega (arith, ints)

sum-fits : (s s' : ℤ) → unsigned_abs s ≤ 127 → unsigned_abs s' ≤ 127 → FitsSigned w16 (in_i16 s +ℤ in_i16 s')
sum-fits s s' k k' = search (arith, ints)

pub shift-stays : (s : ℤ) → unsigned_abs s ≤ 127 → in_i16 s ≡ s
shift-stays s k = omega (arith, ints)

module _ (one next : RuleArgs) (p : IsTrue (is_rule one)) (q : IsTrue (is_rule next)) where
  pub shifts-fit : FitsSigned w16 (in_i16 one.shift +ℤ in_i16 next.shift)
  shifts-fit = sum-fits one.shift next.shift (bounds-of one p).shift (bounds-of next q).shift

  sum-is : in_i16 (in_i16 one.shift +ℤ in_i16 next.shift) ≡ one.shift +ℤ next.shift
  sum-is = added one.shift next.shift (bounds-of one p).shift (bounds-of next q).shift

  -- `low` and `high` are what the code has before it casts them
  module _ (f f' g g' low high : ℤ) (e : f ≡ pos one.low) (e' : f' ≡ pos next.low) (i : g ≡ pos one.high) (i' : g' ≡ pos next.high) (lowest : low ≡ int_max (in_i16 f) (in_i16 (in_i16 f' -ℤ in_i16 one.shift))) (highest : high ≡ int_min (in_i16 g) (in_i16 (in_i16 g' -ℤ in_i16 one.shift))) where
    abbrev least : ℤ
    least = int_max (pos one.low) (pos next.low -ℤ one.shift)

    abbrev greatest : ℤ
    greatest = int_min (pos one.high) (pos next.high -ℤ one.shift)

    low-is : low ≡ least
    low-is =
        let x = bounds-of one p in
        let y = bounds-of next q in
        lowest ∙ ap (λ (z : ℤ). int_max z (in_i16 (in_i16 f' -ℤ in_i16 one.shift))) (note-stays f one.low e (omega (arith, x.order, x.most)))
        ∙ ap (int_max (pos one.low)) (lowered f' one.shift next.low e' (omega (arith, y.order, y.most)) x.shift)

    high-is : high ≡ greatest
    high-is =
        let x = bounds-of one p in
        let y = bounds-of next q in
        highest ∙ ap (λ (z : ℤ). int_min z (in_i16 (in_i16 g' -ℤ in_i16 one.shift))) (note-stays g one.high i x.most)
        ∙ ap (int_min (pos one.high)) (lowered g' one.shift next.high i' y.most x.shift)

    low-stays : in_i16 low ≡ least
    low-stays =
        let x = bounds-of one p in
        let y = bounds-of next q in
        ap in_i16 low-is ∙ small (pos one.low) (pos next.low -ℤ one.shift) (omega (arith, ints, x.order, x.most)) (omega (arith, ints, x.order, x.most)) (omega (arith, ints, x.shift, y.order, y.most)) (omega (arith, ints, x.shift, y.order, y.most))
      where
        small : (a b : ℤ) → pos 0 ≤ℤ a → a ≤ℤ pos 127 → negsuc 254 ≤ℤ b → b ≤ℤ pos 254 → in_i16 (int_max a b) ≡ int_max a b
        small a b k l m n = omega (arith, ints, clamps)

    high-stays : in_i16 high ≡ greatest
    high-stays =
        let x = bounds-of one p in
        let y = bounds-of next q in
        ap in_i16 high-is ∙ small (pos one.high) (pos next.high -ℤ one.shift) (omega (arith, ints, x.most)) (omega (arith, ints, x.most)) (omega (arith, ints, x.shift, y.most)) (omega (arith, ints, x.shift, y.most))
      where
        small : (a b : ℤ) → pos 0 ≤ℤ a → a ≤ℤ pos 127 → negsuc 254 ≤ℤ b → b ≤ℤ pos 254 → in_i16 (int_min a b) ≡ int_min a b
        small a b k l m n = omega (arith, ints, clamps)

    pub none-between : int_lt (in_i16 high) (in_i16 low) ≡ true → (n : ℕ) → moved_twice one next n ≡ None
    none-between t n =
        let less : greatest <ℤ least = below (in_i16 high) (in_i16 low) greatest least high-stays low-stays t in
        lost-twice one.low one.high next.low next.high one.shift next.shift (bounds-of one p).most (bounds-of next q).most (inl less) n
      where
        below : (a b c d : ℤ) → a ≡ c → b ≡ d → int_lt a b ≡ true → c <ℤ d
        below a b c d u v t = omega (arith, ints)

    pub none-far : (sum : ℕ) → sum ≡ unsigned_abs (in_i16 (in_i16 one.shift +ℤ in_i16 next.shift)) → 127 < sum → (n : ℕ) → moved_twice one next n ≡ None
    none-far sum is far n =
        let same : sum ≡ unsigned_abs (one.shift +ℤ next.shift) = is ∙ ap unsigned_abs sum-is in
        lost-twice one.low one.high next.low next.high one.shift next.shift (bounds-of one p).most (bounds-of next q).most (inr (omega (arith, same, far))) n

    module _ (between : int_lt (in_i16 high) (in_i16 low) ≡ false) where
      between-is : least ≤ℤ greatest
      between-is = below (in_i16 high) (in_i16 low) greatest least high-stays low-stays between
        where
          below : (a b c d : ℤ) → a ≡ c → b ≡ d → int_lt a b ≡ false → d ≤ℤ c
          below a b c d u v t = omega (arith, ints)

      low-cast : pos (unsigned_abs (in_i16 low)) ≡ least
      low-cast = ap (λ (z : ℤ). pos (unsigned_abs z)) low-stays ∙ at-least (pos next.low -ℤ one.shift)
        where
          at-least : (b : ℤ) → pos (unsigned_abs (int_max (pos one.low) b)) ≡ int_max (pos one.low) b
          at-least b = omega (arith, ints, clamps)

      high-cast : pos (unsigned_abs (in_i16 high)) ≡ greatest
      high-cast = ap (λ (z : ℤ). pos (unsigned_abs z)) high-stays ∙ not-below least greatest (at-least (pos next.low -ℤ one.shift)) between-is
        where
          at-least : (b : ℤ) → pos 0 ≤ℤ int_max (pos one.low) b
          at-least b = omega (arith, ints, clamps)

          not-below : (a b : ℤ) → pos 0 ≤ℤ a → a ≤ℤ b → pos (unsigned_abs b) ≡ b
          not-below a b k l = omega (arith, ints)

      pub range : (unsigned_abs (in_i16 low) ≤ unsigned_abs (in_i16 high)) × (unsigned_abs (in_i16 high) ≤ 127)
      range =
          (ordered _ _ least greatest low-cast high-cast between-is, at-most _ one.high (pos next.high -ℤ one.shift) high-cast (bounds-of one p).most)
        where
          ordered : (a b : ℕ) (c d : ℤ) → pos a ≡ c → pos b ≡ d → c ≤ℤ d → a ≤ b
          ordered a b c d u v t = omega (arith, ints)

          at-most : (a h : ℕ) (b : ℤ) → pos a ≡ int_min (pos h) b → h ≤ 127 → a ≤ 127
          at-most a h b u l = omega (arith, ints, clamps)

      pub both : (n : ℕ) → note_after (unsigned_abs (in_i16 low)) (unsigned_abs (in_i16 high)) (in_i16 (in_i16 one.shift +ℤ in_i16 next.shift)) n ≡ moved_twice one next n
      both = raised-twice one.low one.high next.low next.high one.shift next.shift (bounds-of one p).most (bounds-of next q).most _ _ _ low-cast high-cast sum-is
