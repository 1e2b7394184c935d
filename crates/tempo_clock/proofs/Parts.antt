-- A map in two parts: the first entries of a table, and its own behind them.
use Rattle.std.proofs.Common.{◌≡◌, ◌≤◌, ◌<◌, ◌+◌, ◌*◌, ◌-◌, ◌/◌, ◌^◌, ◌∙◌, ◌⊎◌, inl, inr, ℕ, List, [], ◌∷◌, ◌++◌, length, get_or, take, min, refl, ap, sym, subst, arith}
use Rattle.std.specs.Prelude.{filter, nat_lt, slice_index}
use Rattle.std.specs.List.Sorted.{IsNonDecreasingBy}
use Rattle.std.proofs.Math.Seq.{take-append-add, take-length}
use Rattle.std.proofs.Math.ListN.{get_or-append}
use Rattle.std.proofs.lemmas.List.{get_or_default, get_or-append-add, length-append, length-take-le, take-append-le, take_all}
use Rattle.std.proofs.lemmas.List.Elements.{filter-append}
use Rattle.tempo_clock.specs.declared.entry.TempoEntry.{TempoEntry}
use Rattle.tempo_clock.specs.Ticks.{Tempos, resolution, numerator, tick_at}
use Rattle.tempo_clock.specs.Kept.{entry_at, AreOrdered, AreTemposSound, IsCut, AreBefore}
use Rattle.tempo_clock.specs.Shared.{tempos_seen, IsMapKept}
use Rattle.tempo_clock.proofs.Comparisons.{order}
use Rattle.tempo_clock.proofs.Numerators.{not_falling, numerator-rises, numerator-segment}
use Rattle.tempo_clock.proofs.Segments.{sound-metrical, sound-small}
use Rattle.tempo_clock.proofs.Found.{tick_at-is, tick_at-alike}

-- ---- the places of the entries

-- an entry of the second part
at-second : (xs ys : List TempoEntry) (k i : ℕ) → length xs ≡ k → entry_at (xs ++ ys) (k + i) ≡ entry_at ys i
at-second xs ys k i e = ap (λ n. entry_at (xs ++ ys) (n + i)) (sym e) ∙ get_or-append-add xs ys i (record { tick = 0; tempo = 0 })

-- an entry of the first
at-first : (xs ys : List TempoEntry) (i : ℕ) → i < length xs → entry_at (xs ++ ys) i ≡ entry_at xs i
at-first xs ys i h = get_or-append xs ys (record { tick = 0; tempo = 0 }) i h

-- each part is in order
pub second_rises : (xs ys : List TempoEntry) → AreOrdered (xs ++ ys) → IsNonDecreasingBy (λ e. e.tick) ys
second_rises xs ys o i j d h k =
    let size : length (xs ++ ys) ≡ length xs + length ys = length-append xs ys in
    let r : (entry_at (xs ++ ys) (length xs + i)).tick ≤ (entry_at (xs ++ ys) (length xs + j)).tick = not_falling (xs ++ ys) o _ _ (omega arith) (omega arith) in
    let x : get_or ys i d ≡ entry_at (xs ++ ys) (length xs + i) = get_or_default ys i d (record { tick = 0; tempo = 0 }) (omega arith) ∙ sym (at-second xs ys (length xs) i refl) in
    let y : get_or ys j d ≡ entry_at (xs ++ ys) (length xs + j) = get_or_default ys j d (record { tick = 0; tempo = 0 }) k ∙ sym (at-second xs ys (length xs) j refl) in
    rw (x, y) r

pub first_rises : (xs ys : List TempoEntry) → AreOrdered (xs ++ ys) → IsNonDecreasingBy (λ e. e.tick) xs
first_rises xs ys o i j d h k =
    let size : length (xs ++ ys) ≡ length xs + length ys = length-append xs ys in
    let r : (entry_at (xs ++ ys) i).tick ≤ (entry_at (xs ++ ys) j).tick = not_falling (xs ++ ys) o _ _ h (omega arith) in
    let x : get_or xs i d ≡ entry_at (xs ++ ys) i = get_or_default xs i d (record { tick = 0; tempo = 0 }) (omega arith) ∙ sym (at-first xs ys i (omega arith)) in
    let y : get_or xs j d ≡ entry_at (xs ++ ys) j = get_or_default xs j d (record { tick = 0; tempo = 0 }) k ∙ sym (at-first xs ys j k) in
    rw (x, y) r

-- the numerators of the own entries
pub own_starts_rise : (table : Tempos) (kept : ℕ) (own : List TempoEntry) (starts : List ℕ) → IsMapKept table kept own starts → IsNonDecreasingBy (λ s. s) starts
own_starts_rise table kept own starts k i j d h below =
    let counted : length starts ≡ length own = k.counted in
    let rise : (get_or own i (record { tick = 0; tempo = 0 })).tick ≤ (get_or own j (record { tick = 0; tempo = 0 })).tick = second_rises (take kept table.entries) own k.sound.ordered i j (record { tick = 0; tempo = 0 }) h (omega arith) in
    let r : numerator (tempos_seen table kept own) (entry_at own i).tick ≤ numerator (tempos_seen table kept own) (entry_at own j).tick = numerator-rises _ _ _ rise in
    let x : get_or starts i d ≡ numerator (tempos_seen table kept own) (entry_at own i).tick = get_or_default starts i d 0 (omega arith) ∙ k.starting i (omega arith) in
    let y : get_or starts j d ≡ numerator (tempos_seen table kept own) (entry_at own j).tick = get_or_default starts j d 0 below ∙ k.starting j (omega arith) in
    omega arith

-- ---- what comes when

-- before the first own entry, by the table
pub table-numerator : (table : Tempos) (kept : ℕ) (own : List TempoEntry) (starts : List ℕ) (tick : ℕ) → IsMapKept table kept own starts → IsCut (λ i. (entry_at own i).tick) (length own) tick 0 → numerator table tick ≡ numerator (tempos_seen table kept own) tick
table-numerator table kept own starts tick k c = k.by_table tick (λ some. let h : tick < (entry_at own 0).tick = c.high some in omega arith)

-- from an own entry on, by that
pub own-covers : (table : Tempos) (kept : ℕ) (own : List TempoEntry) (starts : List ℕ) (after t : ℕ) → IsMapKept table kept own starts → 0 < after → after ≤ length own → (entry_at own (after - 1)).tick ≤ t → (after < length own → t ≤ (entry_at own after).tick)
    → numerator (tempos_seen table kept own) t ≡ slice_index starts (after - 1) + (t - (entry_at own (after - 1)).tick) * ((entry_at own (after - 1)).tempo * 1000)
own-covers table kept own starts after t k some within low high =
    let m : Tempos = tempos_seen table kept own in
    let first : length (take kept table.entries) ≡ kept = length-take-le kept table.entries k.within in
    let size : length (take kept table.entries ++ own) ≡ length (take kept table.entries) + length own = length-append (take kept table.entries) own in
    let here : entry_at (take kept table.entries ++ own) (kept + (after - 1)) ≡ entry_at own (after - 1) = at-second (take kept table.entries) own kept (after - 1) first in
    let next : entry_at (take kept table.entries ++ own) (kept + (after - 1) + 1) ≡ entry_at own after = ap (entry_at (take kept table.entries ++ own)) (omega arith) ∙ at-second (take kept table.entries) own kept after first in
    let low' : (entry_at (take kept table.entries ++ own) (kept + (after - 1))).tick ≤ t = rw here low in
    let run : numerator m t ≡ numerator m (entry_at (take kept table.entries ++ own) (kept + (after - 1))).tick + (t - (entry_at (take kept table.entries ++ own) (kept + (after - 1))).tick) * ((entry_at (take kept table.entries ++ own) (kept + (after - 1))).tempo * 1000)
    = numerator-segment m (kept + (after - 1)) t (sound-metrical m (kept + (after - 1)) k.sound (omega arith)) k.sound.ordered (omega arith) low' (λ more. rw next (high (omega arith))) in
    rw (k.starting (after - 1) (omega arith)) (rw here at run)

-- an own tempo is in range
pub own-step : (table : Tempos) (kept : ℕ) (own : List TempoEntry) (starts : List ℕ) (i : ℕ) → IsMapKept table kept own starts → i < length own → (0 < (entry_at own i).tempo) × ((entry_at own i).tempo < 2 ^ 24)
own-step table kept own starts i k h =
    let first : length (take kept table.entries) ≡ kept = length-take-le kept table.entries k.within in
    let size : length (take kept table.entries ++ own) ≡ length (take kept table.entries) + length own = length-append (take kept table.entries) own in
    let here : (entry_at (take kept table.entries ++ own) (kept + i)).tempo ≡ (entry_at own i).tempo = ap (λ (e : TempoEntry). e.tempo) (at-second (take kept table.entries) own kept i first) in
    let above : 0 < (entry_at (take kept table.entries ++ own) (kept + i)).tempo = k.sound.ordered.above (kept + i) (omega arith) in
    let below : (entry_at (take kept table.entries ++ own) (kept + i)).tempo < 2 ^ 24 = k.sound.ordered.below (kept + i) in
    (omega arith, omega arith)

pub own-start_small : (table : Tempos) (kept : ℕ) (own : List TempoEntry) (starts : List ℕ) (i : ℕ) → IsMapKept table kept own starts → i < length own → slice_index starts i ≤ (entry_at own i).tick * 2 ^ 34
own-start_small table kept own starts i k h = rw (k.starting i h) (sound-small (tempos_seen table kept own) k.sound _)

pub resolution-alike : (m n : Tempos) → m.division ≡ n.division → resolution m ≡ resolution n
unfolding resolution
resolution-alike m n e = rw e refl

-- by the ticks from an own entry on
pub own-numerator : (table : Tempos) (kept : ℕ) (own : List TempoEntry) (starts : List ℕ) (after t tick start step : ℕ) → IsMapKept table kept own starts → 0 < after → IsCut (λ i. (entry_at own i).tick) (length own) t after
    → tick ≡ (entry_at own (after - 1)).tick → start ≡ slice_index starts (after - 1) → step ≡ (entry_at own (after - 1)).tempo * 1000 → start + (t - tick) * step ≡ numerator (tempos_seen table kept own) t
own-numerator table kept own starts after t tick start step k some c e f g =
    rw (e, f, g) (sym (own-covers table kept own starts after t k some c.within (c.low some) (λ more. let h : t < (entry_at own after).tick = c.high more in omega arith)))

-- where the limit is reached at an own entry, the tick is found from the last such entry on
pub own-tick_at : (table : Tempos) (kept : ℕ) (own : List TempoEntry) (starts : List ℕ) (after nanos limit tick start step : ℕ) → IsMapKept table kept own starts → 0 < after → limit ≡ nanos * resolution table → IsCut (λ i. numerator (tempos_seen table kept own) (entry_at own i).tick) (length own) limit after → tick < 2 ^ 64
    → tick ≡ (entry_at own (after - 1)).tick → start ≡ slice_index starts (after - 1) → step ≡ (entry_at own (after - 1)).tempo * 1000 → tick + min ((limit - start) / step) (2 ^ 64 - 1 - tick) ≡ tick_at (tempos_seen table kept own) nanos
own-tick_at table kept own starts after nanos limit tick start step k some l c fits e f g =
    let within : after ≤ length own = c.within in
    let at : start ≡ numerator (tempos_seen table kept own) tick = f ∙ k.starting (after - 1) (omega arith) ∙ ap (numerator (tempos_seen table kept own)) (sym e) in
    let from : numerator (tempos_seen table kept own) tick ≤ limit = rw e (c.low some) in
    let lasts : 0 < (entry_at own (after - 1)).tempo = (own-step table kept own starts (after - 1) k (omega arith)).0 in
    sym (tick_at-is (tempos_seen table kept own) nanos limit tick start step (length own) after (entry_at own after).tick (l ∙ ap (λ n. nanos * n) (resolution-alike table (tempos_seen table kept own) refl)) at (omega arith) (omega arith) fits
    (λ t low high. rw (e, f, g) (own-covers table kept own starts after t k some within (rw e at low) high)) c.high)

-- where the limit is not yet reached at the first own entry, the tick is found in the table
pub table-tick_at : (table : Tempos) (kept : ℕ) (own : List TempoEntry) (starts : List ℕ) (nanos limit : ℕ) → IsMapKept table kept own starts → limit ≡ nanos * resolution table → IsCut (λ i. numerator (tempos_seen table kept own) (entry_at own i).tick) (length own) limit 0 → tick_at table nanos ≡ tick_at (tempos_seen table kept own) nanos
table-tick_at table kept own starts nanos limit k e c =
    tick_at-alike table (tempos_seen table kept own) nanos limit e (e ∙ ap (λ n. nanos * n) (resolution-alike table (tempos_seen table kept own) refl))
    (λ t come. k.by_table t (λ some. elim (order t (entry_at own 0).tick) [
      | inl less ↦ less
      | inr more ↦
          let over : limit < numerator (tempos_seen table kept own) (entry_at own 0).tick = c.high some in
          let same : numerator table (entry_at own 0).tick ≡ numerator (tempos_seen table kept own) (entry_at own 0).tick = k.by_table (entry_at own 0).tick (λ _. omega arith) in
          let rise : numerator table (entry_at own 0).tick ≤ numerator table t = numerator-rises table _ _ (omega arith) in
          absurd (omega arith)
    ]))
    (λ t come. k.by_table t (λ some. elim (order t (entry_at own 0).tick) [
      | inl less ↦ less
      | inr more ↦
          let over : limit < numerator (tempos_seen table kept own) (entry_at own 0).tick = c.high some in
          let rise : numerator (tempos_seen table kept own) (entry_at own 0).tick ≤ numerator (tempos_seen table kept own) t = numerator-rises (tempos_seen table kept own) _ _ (omega arith) in
          absurd (omega arith)
    ]))

-- ---- a map of a whole table

append_none : {X : Type 0} (xs : List X) → xs ++ [] ≡ xs
append_none [] = refl
append_none (x ∷ xs) = ap (λ ys. x ∷ ys) (append_none xs)

pub seen_whole : (table : Tempos) (kept : ℕ) (own : List TempoEntry) → length table.entries ≤ kept → own ≡ [] → tempos_seen table kept own ≡ table
seen_whole table kept own h e =
    ap (λ es. record { division = table.division; entries = es }) (ap (λ ys. take kept table.entries ++ ys) e ∙ append_none (take kept table.entries) ∙ take_all kept table.entries h)

pub kept-whole : (table : Tempos) (kept : ℕ) (own : List TempoEntry) (starts : List ℕ) → kept ≡ length table.entries → own ≡ [] → starts ≡ [] → AreTemposSound table → IsMapKept table kept own starts
kept-whole table kept own starts n e f s =
    let same : tempos_seen table kept own ≡ table = seen_whole table kept own (omega arith) e in
    let none : length own ≡ 0 = ap length e in
    record {
      within = omega arith;
      sound = subst AreTemposSound (sym same) s;
      counted = ap length f ∙ sym none;
      starting = λ i h. absurd (omega arith);
      by_table = λ t _. ap (λ m. numerator m t) (sym same);
    }

-- ---- the entries before a tick

module _ (xs ys : List TempoEntry) (tick a b : ℕ) (o : AreOrdered (xs ++ ys)) (p : AreBefore xs tick a) (q : AreBefore ys tick b) where
  -- if some of the second part are, all of the first are
  pub first_whole : 0 < b → a ≡ length xs
  first_whole some = elim (order (length xs) a) [
    | inl all ↦ let w : a ≤ length xs = p.within in omega arith
    | inr less ↦
        let within : b ≤ length ys = q.within in
        let size : length (xs ++ ys) ≡ length xs + length ys = length-append xs ys in
        let x : (entry_at (xs ++ ys) a).tick ≡ (entry_at xs a).tick = ap (λ (e : TempoEntry). e.tick) (at-first xs ys a less) in
        let y : (entry_at (xs ++ ys) (length xs + 0)).tick ≡ (entry_at ys 0).tick = ap (λ (e : TempoEntry). e.tick) (at-second xs ys (length xs) 0 refl) in
        let later : tick ≤ (entry_at xs a).tick = p.rest less in
        let before : (entry_at ys 0).tick < tick = q.each 0 some in
        let rise : (entry_at (xs ++ ys) a).tick < (entry_at (xs ++ ys) (length xs + 0)).tick = o.rising a (length xs + 0) (omega arith) (omega arith) in
        absurd (omega arith)
  ]

  parts : ((a < length xs) × (b ≡ 0)) ⊎ (a ≡ length xs)
  parts = elim (order b 0) [
    | inl none ↦ elim (order (length xs) a) [
      | inl all ↦ let w : a ≤ length xs = p.within in inr (omega arith)
      | inr less ↦ inl (less, omega arith)
    ]
    | inr some ↦ inr (first_whole some)
  ]

  -- they are those of the first part, and those of the second
  pub filter_parts : filter (λ e. nat_lt e.tick tick) (xs ++ ys) ≡ take a xs ++ take b ys
  filter_parts = filter-append (λ e. nat_lt e.tick tick) xs ys ∙ ap (λ zs. zs ++ filter (λ e. nat_lt e.tick tick) ys) (sym p.all) ∙ ap (λ zs. take a xs ++ zs) (sym q.all)

  take_parts : take (a + b) (xs ++ ys) ≡ take a xs ++ take b ys
  take_parts = elim parts [
    | inl few ↦
        let z : a + b ≡ a = omega (arith, few.1) in
        let w : a ≤ length xs = p.within in
        ap (λ n. take n (xs ++ ys)) z ∙ take-append-le a xs ys w ∙ sym (ap (λ n. take a xs ++ take n ys) few.1 ∙ append_none (take a xs))
    | inr all ↦
        ap (λ n. take (n + b) (xs ++ ys)) all ∙ take-append-add xs ys b ∙ ap (λ zs. zs ++ take b ys) (sym (ap (λ n. take n xs) all ∙ take-length xs))
  ]

  each_before : (i : ℕ) → i < a + b → (entry_at (xs ++ ys) i).tick < tick
  each_before i h = elim (order a i) [
    | inr less ↦
        let w : a ≤ length xs = p.within in
        let e : (entry_at (xs ++ ys) i).tick ≡ (entry_at xs i).tick = ap (λ (e : TempoEntry). e.tick) (at-first xs ys i (omega arith)) in
        let l : (entry_at xs i).tick < tick = p.each i less in
        omega arith
    | inl more ↦
        let all : a ≡ length xs = first_whole (omega arith) in
        let e : (entry_at (xs ++ ys) (a + (i - a))).tick ≡ (entry_at ys (i - a)).tick = ap (λ (e : TempoEntry). e.tick) (at-second xs ys a (i - a) (sym all)) in
        let same : (entry_at (xs ++ ys) (a + (i - a))).tick ≡ (entry_at (xs ++ ys) i).tick = ap (λ j. (entry_at (xs ++ ys) j).tick) (omega arith) in
        let l : (entry_at ys (i - a)).tick < tick = q.each (i - a) (omega arith) in
        omega arith
  ]

  rest_later : a + b < length (xs ++ ys) → tick ≤ (entry_at (xs ++ ys) (a + b)).tick
  rest_later h =
      let size : length (xs ++ ys) ≡ length xs + length ys = length-append xs ys in
      elim parts [
        | inl few ↦
            let less : a < length xs = few.0 in
            let e : (entry_at (xs ++ ys) a).tick ≡ (entry_at xs a).tick = ap (λ (e : TempoEntry). e.tick) (at-first xs ys a less) in
            let same : (entry_at (xs ++ ys) (a + b)).tick ≡ (entry_at (xs ++ ys) a).tick = ap (λ j. (entry_at (xs ++ ys) j).tick) (omega (arith, few.1)) in
            let l : tick ≤ (entry_at xs a).tick = p.rest less in
            omega arith
        | inr all ↦
            let e : (entry_at (xs ++ ys) (a + b)).tick ≡ (entry_at ys b).tick = ap (λ (e : TempoEntry). e.tick) (at-second xs ys a b (sym all)) in
            let l : tick ≤ (entry_at ys b).tick = q.rest (omega arith) in
            omega arith
      ]

  pub before_parts : AreBefore (xs ++ ys) tick (a + b)
  before_parts =
      let u : a ≤ length xs = p.within in
      let v : b ≤ length ys = q.within in
      let size : length (xs ++ ys) ≡ length xs + length ys = length-append xs ys in
      record {
        within = omega arith;
        each = each_before;
        rest = rest_later;
        all = take_parts ∙ sym filter_parts;
      }

  -- where all of the second part are, and some, nothing is left out
  pub all_before : 0 < b → b ≡ length ys → xs ++ ys ≡ filter (λ e. nat_lt e.tick tick) (xs ++ ys)
  all_before some all =
      let whole : a ≡ length xs = first_whole some in
      sym (filter_parts ∙ ap (λ zs. zs ++ take b ys) (ap (λ n. take n xs) whole ∙ take-length xs) ∙ ap (λ zs. xs ++ zs) (ap (λ n. take n ys) all ∙ take-length ys))
