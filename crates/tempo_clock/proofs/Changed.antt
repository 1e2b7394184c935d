-- What a map keeps after a change of tempo.
use Rattle.std.proofs.Common.{◌≡◌, ◌≤◌, ◌<◌, ◌+◌, ◌^◌, ◌∙◌, ◌⊎◌, inl, inr, ℕ, zero, suc, true, List, [], ◌∷◌, ◌++◌, length, get_or, take, refl, ap, sym, subst, arith}
use Rattle.std.specs.Prelude.{slice_index}
use Rattle.std.proofs.lemmas.List.{append_assoc, length-take-le}
use Rattle.tempo_clock.specs.declared.entry.TempoEntry.{TempoEntry}
use Rattle.tempo_clock.specs.Entries.{is_tempo}
use Rattle.tempo_clock.specs.Ticks.{Tempos, numerator, with_tempo_from}
use Rattle.tempo_clock.specs.Kept.{entry_at, AreOrdered, AreTemposSound, AreBefore}
use Rattle.tempo_clock.specs.Shared.{tempos_seen, IsMapKept}
use Rattle.tempo_clock.proofs.Comparisons.{order}
use Rattle.tempo_clock.proofs.Made.{tempo_above}
use Rattle.tempo_clock.proofs.Changes.{numerator-changed}
use Rattle.tempo_clock.proofs.Parts.{filter_parts, before_parts}

-- ---- the entries

module _ {X : Type 0} where
  -- the first items, then one more
  length-kept : (xs : List X) (k : ℕ) (y : X) → k ≤ length xs → length (take k xs ++ y ∷ []) ≡ k + 1
  length-kept xs zero y h = omega arith
  length-kept [] (suc k) y h = absurd (omega arith)
  length-kept (x ∷ xs) (suc k) y h = let e : length (take k xs ++ y ∷ []) ≡ k + 1 = length-kept xs k y (omega arith) in omega arith

  get_or-kept : (xs : List X) (k i : ℕ) (y d : X) → k ≤ length xs → i < k → get_or (take k xs ++ y ∷ []) i d ≡ get_or xs i d
  get_or-kept xs zero i y d h less = absurd (omega arith)
  get_or-kept [] (suc k) i y d h less = absurd (omega arith)
  get_or-kept (x ∷ xs) (suc k) zero y d h less = refl
  get_or-kept (x ∷ xs) (suc k) (suc i) y d h less = get_or-kept xs k i y d (omega arith) (omega arith)

  get_or-after : (xs : List X) (k : ℕ) (y d : X) → k ≤ length xs → get_or (take k xs ++ y ∷ []) k d ≡ y
  get_or-after xs zero y d h = refl
  get_or-after [] (suc k) y d h = absurd (omega arith)
  get_or-after (x ∷ xs) (suc k) y d h = get_or-after xs k y d (omega arith)

  get_or-past : (xs : List X) (k i : ℕ) (y d : X) → k ≤ length xs → k < i → get_or (take k xs ++ y ∷ []) i d ≡ d
  get_or-past xs k zero y d h less = absurd (omega arith)
  get_or-past xs zero (suc i) y d h less = refl
  get_or-past [] (suc k) (suc i) y d h less = absurd (omega arith)
  get_or-past (x ∷ xs) (suc k) (suc i) y d h less = get_or-past xs k i y d (omega arith) (omega arith)

  -- of the first items the first
  take_within : (a k : ℕ) (xs : List X) → a ≤ k → take a (take k xs) ≡ take a xs
  take_within zero k xs h = refl
  take_within (suc a) zero xs h = absurd (omega arith)
  take_within (suc a) (suc k) [] h = refl
  take_within (suc a) (suc k) (x ∷ xs) h = ap (λ ys. x ∷ ys) (take_within a k xs (omega arith))

places : (i k : ℕ) → (i < k) ⊎ ((i ≡ k) ⊎ (k < i))
places i k = grind arith

module _ (es : List TempoEntry) (kept : ℕ) (x : TempoEntry) (o : AreOrdered es) (b : AreBefore es x.tick kept) where
  was : (i : ℕ) → i < kept → entry_at (take kept es ++ x ∷ []) i ≡ entry_at es i
  was i h = get_or-kept es kept i x (record { tick = 0; tempo = 0 }) b.within h

  now : (i : ℕ) → i ≡ kept → entry_at (take kept es ++ x ∷ []) i ≡ x
  now i e = ap (entry_at (take kept es ++ x ∷ [])) e ∙ get_or-after es kept x (record { tick = 0; tempo = 0 }) b.within

  past : (i : ℕ) → kept < i → entry_at (take kept es ++ x ∷ []) i ≡ record { tick = 0; tempo = 0 }
  past i h = get_or-past es kept i x (record { tick = 0; tempo = 0 }) b.within h

  changed_first : (k : ℕ) → k ≡ kept → 0 < length es → (entry_at (take kept es ++ x ∷ []) 0).tick ≡ 0
  changed_first zero e some =
      let at : (entry_at es 0).tick ≡ 0 = o.first in
      let rest : x.tick ≤ (entry_at es kept).tick = b.rest (omega arith) in
      let here : (entry_at es kept).tick ≡ (entry_at es 0).tick = ap (λ i. (entry_at es i).tick) (sym e) in
      let new : (entry_at (take kept es ++ x ∷ []) 0).tick ≡ x.tick = ap (λ (y : TempoEntry). y.tick) (now 0 e) in
      omega arith
  changed_first (suc k) e some = ap (λ (y : TempoEntry). y.tick) (was 0 (omega arith)) ∙ o.first

  changed_rising : (i j : ℕ) → i < j → j < length (take kept es ++ x ∷ []) → (entry_at (take kept es ++ x ∷ []) i).tick < (entry_at (take kept es ++ x ∷ []) j).tick
  changed_rising i j h k =
      let size : length (take kept es ++ x ∷ []) ≡ kept + 1 = length-kept es kept x b.within in
      let i_was : (entry_at (take kept es ++ x ∷ []) i).tick ≡ (entry_at es i).tick = ap (λ (y : TempoEntry). y.tick) (was i (omega arith)) in
      elim (places j kept) [
        | inl less ↦
            let j_was : (entry_at (take kept es ++ x ∷ []) j).tick ≡ (entry_at es j).tick = ap (λ (y : TempoEntry). y.tick) (was j less) in
            let within : kept ≤ length es = b.within in
            let r : (entry_at es i).tick < (entry_at es j).tick = o.rising i j h (omega arith) in
            omega arith
        | inr rest ↦ elim rest [
          | inl same ↦
              let j_now : (entry_at (take kept es ++ x ∷ []) j).tick ≡ x.tick = ap (λ (y : TempoEntry). y.tick) (now j same) in
              let r : (entry_at es i).tick < x.tick = b.each i (omega arith) in
              omega arith
          | inr over ↦ absurd (omega arith)
        ]
      ]

  changed_above : 0 < x.tempo → (i : ℕ) → i < length (take kept es ++ x ∷ []) → 0 < (entry_at (take kept es ++ x ∷ []) i).tempo
  changed_above p i h =
      let size : length (take kept es ++ x ∷ []) ≡ kept + 1 = length-kept es kept x b.within in
      let within : kept ≤ length es = b.within in
      elim (places i kept) [
        | inl less ↦
            let e : (entry_at (take kept es ++ x ∷ []) i).tempo ≡ (entry_at es i).tempo = ap (λ (y : TempoEntry). y.tempo) (was i less) in
            let r : 0 < (entry_at es i).tempo = o.above i (omega arith) in
            omega arith
        | inr rest ↦ elim rest [
          | inl same ↦ let e : (entry_at (take kept es ++ x ∷ []) i).tempo ≡ x.tempo = ap (λ (y : TempoEntry). y.tempo) (now i same) in omega arith
          | inr over ↦ absurd (omega arith)
        ]
      ]

  changed_below : x.tempo < 2 ^ 24 → (i : ℕ) → (entry_at (take kept es ++ x ∷ []) i).tempo < 2 ^ 24
  changed_below p i = elim (places i kept) [
    | inl less ↦
        let e : (entry_at (take kept es ++ x ∷ []) i).tempo ≡ (entry_at es i).tempo = ap (λ (y : TempoEntry). y.tempo) (was i less) in
        let r : (entry_at es i).tempo < 2 ^ 24 = o.below i in
        omega arith
    | inr rest ↦ elim rest [
      | inl same ↦ let e : (entry_at (take kept es ++ x ∷ []) i).tempo ≡ x.tempo = ap (λ (y : TempoEntry). y.tempo) (now i same) in omega arith
      | inr over ↦ let e : (entry_at (take kept es ++ x ∷ []) i).tempo ≡ 0 = ap (λ (y : TempoEntry). y.tempo) (past i over) in omega arith
    ]
  ]

-- the kept entries and one more
ordered_changed : (es : List TempoEntry) (kept : ℕ) (x : TempoEntry) → AreOrdered es → AreBefore es x.tick kept → 0 < length es → 0 < x.tempo → x.tempo < 2 ^ 24 → AreOrdered (take kept es ++ x ∷ [])
ordered_changed es kept x o b some above below = record {
  first = changed_first es kept x o b kept refl some;
  rising = changed_rising es kept x o b;
  above = changed_above es kept x o b above;
  below = changed_below es kept x o b below;
}

-- ---- a map in two parts: the first of the table's entries are kept, and the first of its own, and one more is put behind them

module _ (table : Tempos) (kept : ℕ) (own : List TempoEntry) (starts : List ℕ) (k : IsMapKept table kept own starts) (from tempo a b : ℕ) (p : AreBefore (take kept table.entries) from a) (q : AreBefore own from b) where
  first_kept : take a table.entries ≡ take a (take kept table.entries)
  first_kept =
      let w : a ≤ length (take kept table.entries) = p.within in
      let size : length (take kept table.entries) ≡ kept = length-take-le kept table.entries k.within in
      sym (take_within a kept table.entries (omega arith))

  -- the map that is seen has the tempo from there on
  pub seen_changed : tempos_seen table a (take b own ++ record { tick = from; tempo = tempo } ∷ []) ≡ with_tempo_from (tempos_seen table kept own) from tempo
  seen_changed = ap (λ es. record { division = table.division; entries = es }) (
      ap (λ xs. xs ++ (take b own ++ record { tick = from; tempo = tempo } ∷ [])) first_kept
      ∙ sym (append_assoc (take a (take kept table.entries)) (take b own) (record { tick = from; tempo = tempo } ∷ []))
      ∙ ap (λ xs. xs ++ record { tick = from; tempo = tempo } ∷ []) (sym (filter_parts (take kept table.entries) own from a b k.sound.ordered p q)))

  alike : (t : ℕ) → t ≤ from → numerator (tempos_seen table a (take b own ++ record { tick = from; tempo = tempo } ∷ [])) t ≡ numerator (tempos_seen table kept own) t
  alike t h = ap (λ m. numerator m t) seen_changed ∙ numerator-changed (tempos_seen table kept own) from tempo t h

  sound_changed : is_tempo tempo ≡ true → table.division < 32768 → AreTemposSound (tempos_seen table a (take b own ++ record { tick = from; tempo = tempo } ∷ []))
  sound_changed t d =
      let range = tempo_above tempo t in
      let before : AreBefore (take kept table.entries ++ own) from (a + b) = before_parts (take kept table.entries) own from a b k.sound.ordered p q in
      let in_order : AreOrdered (take (a + b) (take kept table.entries ++ own) ++ record { tick = from; tempo = tempo } ∷ [])
      = ordered_changed (take kept table.entries ++ own) (a + b) (record { tick = from; tempo = tempo }) k.sound.ordered before (k.sound.metrical d) range.0 range.1 in
      let size : length (take (a + b) (take kept table.entries ++ own) ++ record { tick = from; tempo = tempo } ∷ []) ≡ a + b + 1 = length-kept (take kept table.entries ++ own) (a + b) (record { tick = from; tempo = tempo }) before.within in
      let same : take (a + b) (take kept table.entries ++ own) ++ record { tick = from; tempo = tempo } ∷ [] ≡ (tempos_seen table a (take b own ++ record { tick = from; tempo = tempo } ∷ [])).entries
      = ap (λ xs. xs ++ record { tick = from; tempo = tempo } ∷ []) before.all ∙ sym (ap (λ (m : Tempos). m.entries) seen_changed) in
      record {
        metrical = λ _. let e : length (tempos_seen table a (take b own ++ record { tick = from; tempo = tempo } ∷ [])).entries ≡ a + b + 1 = ap length (sym same) ∙ size in omega arith;
        smpte = λ h. absurd (omega arith);
        ordered = subst AreOrdered same in_order;
      }

  each_changed : (start : ℕ) → start ≡ numerator (tempos_seen table kept own) from → (i : ℕ) → i < b + 1
      → slice_index (take b starts ++ start ∷ []) i ≡ numerator (tempos_seen table a (take b own ++ record { tick = from; tempo = tempo } ∷ [])) (entry_at (take b own ++ record { tick = from; tempo = tempo } ∷ []) i).tick
  each_changed start s i h =
      let within : b ≤ length own = q.within in
      let counted : length starts ≡ length own = k.counted in
      elim (places i b) [
        | inl less ↦
            let before : (entry_at own i).tick < from = q.each i less in
            let was : (entry_at (take b own ++ record { tick = from; tempo = tempo } ∷ []) i).tick ≡ (entry_at own i).tick
            = ap (λ (e : TempoEntry). e.tick) (get_or-kept own b i (record { tick = from; tempo = tempo }) (record { tick = 0; tempo = 0 }) within less) in
            get_or-kept starts b i start 0 (omega arith) less ∙ k.starting i (omega arith)
            ∙ sym (ap (numerator (tempos_seen table a (take b own ++ record { tick = from; tempo = tempo } ∷ []))) was ∙ alike (entry_at own i).tick (omega arith))
        | inr rest ↦ elim rest [
          | inl same ↦
              let is : (entry_at (take b own ++ record { tick = from; tempo = tempo } ∷ []) i).tick ≡ from
              = ap (λ j. (entry_at (take b own ++ record { tick = from; tempo = tempo } ∷ []) j).tick) same ∙ ap (λ (e : TempoEntry). e.tick) (get_or-after own b (record { tick = from; tempo = tempo }) (record { tick = 0; tempo = 0 }) within) in
              ap (slice_index (take b starts ++ start ∷ [])) same ∙ get_or-after starts b start 0 (omega arith) ∙ s
              ∙ sym (ap (numerator (tempos_seen table a (take b own ++ record { tick = from; tempo = tempo } ∷ []))) is ∙ alike from (omega arith))
          | inr over ↦ absurd (omega arith)
        ]
      ]

  -- the first own entry is at the change or before it, and at the first of those that stood there or before it
  first_own : ((entry_at (take b own ++ record { tick = from; tempo = tempo } ∷ []) 0).tick ≤ from) × (0 < length own → (entry_at (take b own ++ record { tick = from; tempo = tempo } ∷ []) 0).tick ≤ (entry_at own 0).tick)
  first_own =
      let within : b ≤ length own = q.within in
      elim (order b 0) [
        | inl none ↦
            let is : (entry_at (take b own ++ record { tick = from; tempo = tempo } ∷ []) 0).tick ≡ from
            = ap (λ j. (entry_at (take b own ++ record { tick = from; tempo = tempo } ∷ []) j).tick) (omega arith) ∙ ap (λ (e : TempoEntry). e.tick) (get_or-after own b (record { tick = from; tempo = tempo }) (record { tick = 0; tempo = 0 }) within) in (
              omega arith,
              λ some.
                  let later : from ≤ (entry_at own b).tick = q.rest (omega arith) in
                  let same : (entry_at own b).tick ≡ (entry_at own 0).tick = ap (λ j. (entry_at own j).tick) (omega arith) in
                  omega arith,
            )
        | inr some ↦
            let was : (entry_at (take b own ++ record { tick = from; tempo = tempo } ∷ []) 0).tick ≡ (entry_at own 0).tick
            = ap (λ (e : TempoEntry). e.tick) (get_or-kept own b 0 (record { tick = from; tempo = tempo }) (record { tick = 0; tempo = 0 }) within some) in
            let before : (entry_at own 0).tick < from = q.each 0 some in
            (omega arith, λ _. omega arith)
      ]

  pub kept-changed : (es : List TempoEntry) (ss : List ℕ) (start : ℕ) → is_tempo tempo ≡ true → table.division < 32768 → start ≡ numerator (tempos_seen table kept own) from
      → es ≡ take b own ++ record { tick = from; tempo = tempo } ∷ [] → ss ≡ take b starts ++ start ∷ [] → IsMapKept table a es ss
  kept-changed es ss start t d s e f =
      let w : a ≤ length (take kept table.entries) = p.within in
      let first : length (take kept table.entries) ≡ kept = length-take-le kept table.entries k.within in
      let in_table : kept ≤ length table.entries = k.within in
      let within : b ≤ length own = q.within in
      let counted : length starts ≡ length own = k.counted in
      let size : length (take b own ++ record { tick = from; tempo = tempo } ∷ []) ≡ b + 1 = length-kept own b (record { tick = from; tempo = tempo }) within in
      let size' : length (take b starts ++ start ∷ []) ≡ b + 1 = length-kept starts b start (omega arith) in
      rw (e, f) (record {
        within = omega arith;
        sound = sound_changed t d;
        counted = omega arith;
        starting = λ i h. each_changed start s i (omega arith);
        by_table = λ u h.
            let early : u ≤ (entry_at (take b own ++ record { tick = from; tempo = tempo } ∷ []) 0).tick = h (omega arith) in
            let low : (entry_at (take b own ++ record { tick = from; tempo = tempo } ∷ []) 0).tick ≤ from = first_own.0 in
            k.by_table u (λ some. let l : (entry_at (take b own ++ record { tick = from; tempo = tempo } ∷ []) 0).tick ≤ (entry_at own 0).tick = first_own.1 some in omega arith)
            ∙ sym (alike u (omega arith));
      })
