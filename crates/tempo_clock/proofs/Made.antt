-- What a map keeps is right when it is made, and after a change.
use Rattle.std.proofs.Common.{◌≡◌, ◌≤◌, ◌<◌, ◌+◌, ◌*◌, ◌-◌, ◌/◌, ◌%◌, ◌^◌, ◌∙◌, ◌&&◌, ◌==◌, inl, inr, ℕ, zero, suc, true, false, cond, leb-true, ltb-true, List, [], ◌∷◌, length, refl, ap, sym, lit<, arith}
use Rattle.std.specs.Prelude.{nat_lt}
use Rattle.std.proofs.lemmas.Bool.{eqb-true}
use Rattle.std.proofs.lemmas.Bool.Decides.{nat_tests}
use Rattle.std.proofs.lemmas.Nat.{div-mul-add, mod-mul-add, mul-le}
use Rattle.tempo_clock.specs.declared.entry.TempoEntry.{TempoEntry}
use Rattle.tempo_clock.specs.Entries.{is_tempo, is_ppq, are_rising_from, are_entries, is_smpte_rate}
use Rattle.tempo_clock.specs.Ticks.{Tempos, is_smpte, resolution}
use Rattle.tempo_clock.specs.Kept.{entry_at, AreOrdered, AreStarts, AreStartsKept}
use Rattle.tempo_clock.proofs.Comparisons.{order, both, either}
use Rattle.tempo_clock.proofs.Numerators.{numerator-alike, duration-metrical}

-- ---- a metrical map

pub tempo_above : (tempo : ℕ) → is_tempo tempo ≡ true → (0 < tempo) × (tempo < 2 ^ 24)
tempo_above tempo e =
    let t = both _ _ e in
    let low : 1 ≤ tempo = leb-true _ _ t.0 in
    let high : tempo ≤ 16777215 = leb-true _ _ t.1 in
    (omega arith, omega arith)

-- what a rising list says of its first entry, and of the rest
pub record IsFirst (tick : ℕ) (x : TempoEntry) (es : List TempoEntry) : Type 0 where
  pub above : tick < x.tick
  pub tempo : is_tempo x.tempo ≡ true
  pub rest : are_rising_from x.tick es ≡ true

rising_first : (tick : ℕ) (x : TempoEntry) (es : List TempoEntry) → are_rising_from tick (x ∷ es) ≡ true → IsFirst tick x es
rising_first tick x es e =
    let t = both (nat_lt tick x.tick) (is_tempo x.tempo && are_rising_from x.tick es) e in
    let u = both (is_tempo x.tempo) (are_rising_from x.tick es) t.1 in
    record { above = ltb-true _ _ t.0; tempo = u.0; rest = u.1 }

rising_above : (tick : ℕ) (es : List TempoEntry) → are_rising_from tick es ≡ true → (i : ℕ) → i < length es → tick < (entry_at es i).tick
rising_above tick [] e i h = absurd (omega arith)
rising_above tick (x ∷ es) e zero h = (rising_first tick x es e).above
rising_above tick (x ∷ es) e (suc i) h =
    let first : tick < x.tick = (rising_first tick x es e).above in
    let later : x.tick < (entry_at es i).tick = rising_above x.tick es (rising_first tick x es e).rest i (omega arith) in
    omega arith

rising_pairs : (tick : ℕ) (es : List TempoEntry) → are_rising_from tick es ≡ true → (i j : ℕ) → i < j → j < length es → (entry_at es i).tick < (entry_at es j).tick
rising_pairs tick [] e i j h k = absurd (omega arith)
rising_pairs tick (x ∷ es) e i zero h k = absurd (omega arith)
rising_pairs tick (x ∷ es) e zero (suc j) h k = rising_above x.tick es (rising_first tick x es e).rest j (omega arith)
rising_pairs tick (x ∷ es) e (suc i) (suc j) h k = rising_pairs x.tick es (rising_first tick x es e).rest i j (omega arith) (omega arith)

rising_tempos : (tick : ℕ) (es : List TempoEntry) → are_rising_from tick es ≡ true → (i : ℕ) → i < length es → is_tempo (entry_at es i).tempo ≡ true
rising_tempos tick [] e i h = absurd (omega arith)
rising_tempos tick (x ∷ es) e zero h = (rising_first tick x es e).tempo
rising_tempos tick (x ∷ es) e (suc i) h = rising_tempos x.tick es (rising_first tick x es e).rest i (omega arith)

past_tempo : (es : List TempoEntry) (i : ℕ) → length es ≤ i → (entry_at es i).tempo ≡ 0
past_tempo [] i h = refl
past_tempo (x ∷ es) zero h = absurd (omega arith)
past_tempo (x ∷ es) (suc i) h = past_tempo es i (omega arith)

tempos_below : (es : List TempoEntry) → ((i : ℕ) → i < length es → is_tempo (entry_at es i).tempo ≡ true) → (i : ℕ) → (entry_at es i).tempo < 2 ^ 24
tempos_below es h i = elim (order (length es) i) [
  | inr within ↦ (tempo_above _ (h i within)).1
  | inl past ↦ let e : (entry_at es i).tempo ≡ 0 = past_tempo es i past in omega arith
]

pub ordered : (es : List TempoEntry) → are_entries es ≡ true → AreOrdered es
ordered [] e = absurd cc
ordered (x ∷ es) e = record {
  first = first_at;
  rising = rising;
  above = λ i h. (tempo_above _ (tempos i h)).0;
  below = tempos_below (x ∷ es) tempos;
}
  where
    parts : (is_tempo x.tempo && are_rising_from 0 es) ≡ true
    parts = (both (x.tick == 0) (is_tempo x.tempo && are_rising_from 0 es) e).1

    first_at : x.tick ≡ 0
    first_at = eqb-true _ _ (both (x.tick == 0) (is_tempo x.tempo && are_rising_from 0 es) e).0

    first_tempo : is_tempo x.tempo ≡ true
    first_tempo = (both (is_tempo x.tempo) (are_rising_from 0 es) parts).0

    rest : are_rising_from 0 es ≡ true
    rest = (both (is_tempo x.tempo) (are_rising_from 0 es) parts).1

    rising : (i j : ℕ) → i < j → j < length (x ∷ es) → (entry_at (x ∷ es) i).tick < (entry_at (x ∷ es) j).tick
    rising i zero h k = absurd (omega arith)
    rising zero (suc j) h k = let a : 0 < (entry_at es j).tick = rising_above 0 es rest j (omega arith) in let f : x.tick ≡ 0 = first_at in omega arith
    rising (suc i) (suc j) h k = rising_pairs 0 es rest i j (omega arith) (omega arith)

    tempos : (i : ℕ) → i < length (x ∷ es) → is_tempo (entry_at (x ∷ es) i).tempo ≡ true
    tempos zero h = first_tempo
    tempos (suc i) h = rising_tempos 0 es rest i (omega arith)

some_entries : (es : List TempoEntry) → are_entries es ≡ true → 0 < length es
some_entries [] e = absurd cc
some_entries (x ∷ es) e = omega arith

-- maps of one list of entries last alike, whatever their ticks per quarter note
starts_of_any : (es : List TempoEntry) (division : ℕ) (starts : List ℕ) → division < 32768 → AreStarts (record { division = 0; entries = es }) starts → AreStarts (record { division = division; entries = es }) starts
starts_of_any es division starts d s = record {
  counted = s.counted;
  each = λ i h. s.each i h ∙ numerator-alike (record { division = 0; entries = es }) (record { division = division; entries = es }) _ (λ u _. duration-metrical (record { division = 0; entries = es }) u (omega arith) ∙ sym (duration-metrical (record { division = division; entries = es }) u d));
}

resolution_metrical : (m : Tempos) → m.division < 32768 → m.division ≡ resolution m
unfolding resolution
resolution_metrical m h = let no : is_smpte m ≡ false = grind (arith, nat_tests) in sym (ap (λ b. cond b ((256 - m.division / 256) * (m.division % 256)) m.division) no)

pub kept-new : (ppq : ℕ) (es xs : List TempoEntry) (starts : List ℕ) → is_ppq ppq ≡ true → are_entries es ≡ true → xs ≡ es → AreStarts (record { division = 0; entries = es }) starts → AreStartsKept (record { division = ppq; entries = xs }) ppq starts
kept-new ppq es xs starts p e same s =
    let t = both _ _ p in
    let low : 1 ≤ ppq = leb-true _ _ t.0 in
    let high : ppq ≤ 32767 = leb-true _ _ t.1 in
    rw same (record {
      counted_by = resolution_metrical (record { division = ppq; entries = es }) (omega arith);
      some_ticks = omega arith;
      few_ticks = omega arith;
      sound = record {
        metrical = λ _. some_entries es e;
        smpte = λ h. absurd (omega arith);
        ordered = ordered es e;
      };
      starting = starts_of_any es ppq starts (omega arith) s;
    })

-- ---- a map by frames

rates : (frames per : ℕ) → is_smpte_rate frames per ≡ true → (0 < per) × (frames ≤ 30) × (24 ≤ frames)
rates frames per e =
    let t = both _ _ e in
    let some : 1 ≤ per = leb-true _ _ t.1 in
    let f : (frames ≤ 30) × (24 ≤ frames) = elim (either _ _ t.0) [
      | inl a ↦ let s : frames ≡ 24 = eqb-true _ _ a in (omega arith, omega arith)
      | inr b ↦ elim (either _ _ b) [
        | inl a ↦ let s : frames ≡ 25 = eqb-true _ _ a in (omega arith, omega arith)
        | inr a ↦ let s : frames ≡ 30 = eqb-true _ _ a in (omega arith, omega arith)
      ]
    ] in
    (omega arith, f.0, f.1)

-- ticks per second of a division by frames
resolution_smpte : (m : Tempos) (high per frames : ℕ) → m.division ≡ high * 256 + per → per < 256 → high + frames ≡ 256 → 32768 ≤ m.division → frames * per ≡ resolution m
unfolding resolution
resolution_smpte m high per frames d p f h =
    let yes : is_smpte m ≡ true = grind (arith, nat_tests) in
    let q : m.division / 256 ≡ high = ap (λ n. n / 256) d ∙ div-mul-add high 256 per p in
    let r : m.division % 256 ≡ per = ap (λ n. n % 256) d ∙ mod-mul-add high 256 per p in
    let rest : 256 - high ≡ frames = omega arith in
    sym (ap (λ b. cond b ((256 - m.division / 256) * (m.division % 256)) m.division) yes ∙ rw (q, r, rest) refl)

pub kept-smpte : (frames per high division : ℕ) (xs : List TempoEntry) (starts : List ℕ) → is_smpte_rate frames per ≡ true → per < 256 → high < 256 → (high + frames) % 256 ≡ 0 → division ≡ high * 256 + per → xs ≡ [] → starts ≡ [] → AreStartsKept (record { division = division; entries = xs }) (frames * per) starts
kept-smpte frames per high division xs starts e p h f d x s =
    let t = rates frames per e in
    let some : 0 < per = t.0 in
    let most : frames ≤ 30 = t.1 in
    let least : 24 ≤ frames = t.2 in
    let whole : high + frames ≡ 256 = omega arith in
    let up : 1 * 1 ≤ frames * per = mul-le 1 1 frames per (omega arith) (omega arith) in
    let top : frames * per ≤ 30 * 256 = mul-le frames per 30 256 (omega arith) (omega arith) in
    rw (x, s) (record {
      counted_by = resolution_smpte (record { division = division; entries = [] }) high per frames d p whole (omega arith);
      some_ticks = omega arith;
      few_ticks = omega arith;
      sound = record {
        metrical = λ h. absurd (omega arith);
        smpte = λ _. refl;
        ordered = record { first = refl; rising = λ i j h k. absurd (omega arith); above = λ i h. absurd (omega arith); below = λ i. lit< tt };
      };
      starting = record { counted = refl; each = λ i h. absurd (omega arith) };
    })
