-- The numerators that are kept with entries, as they are made and as a map is changed.
use Rattle.std.proofs.Common.{◌≡◌, ◌≤◌, ◌<◌, ◌+◌, ◌*◌, ◌-◌, ◌^◌, ◌∙◌, ℕ, zero, suc, List, [], ◌∷◌, ◌++◌, length, ap, sym, below_more, arith}
use Rattle.std.specs.Prelude.{slice_index}
use Rattle.std.proofs.Math.ListN.{get_or-append}
use Rattle.std.proofs.lemmas.List.{get_or_push}
use Rattle.tempo_clock.specs.declared.entry.TempoEntry.{TempoEntry}
use Rattle.tempo_clock.specs.Ticks.{Tempos, tempo_or, duration, numerator}
use Rattle.tempo_clock.specs.Kept.{entry_at, AreOrdered}
use Rattle.tempo_clock.proofs.Numerators.{numerator-segment, numerator-small, duration-metrical, tempo_or-all}

abbrev plain : List TempoEntry → Tempos
plain es = record { division = 0; entries = es }

-- the numerator of the next entry's tick
pub starts-next : (es : List TempoEntry) (idx start tick tempo : ℕ) → AreOrdered es → idx < length es → start ≡ numerator (record { division = 0; entries = es }) tick → tick ≡ (entry_at es (idx - 1)).tick → (0 < idx → tempo ≡ (entry_at es (idx - 1)).tempo) → start + ((entry_at es idx).tick - tick) * (tempo * 1000) ≡ numerator (record { division = 0; entries = es }) (entry_at es idx).tick
starts-next es zero start tick tempo o h s t p =
    let same : tick ≡ (entry_at es 0).tick = t in
    let none : (entry_at es 0).tick - tick ≡ 0 = omega arith in
    let at : numerator (plain es) tick ≡ numerator (plain es) (entry_at es 0).tick = ap (numerator (plain es)) same in
    rw none (omega arith)
starts-next es (suc i) start tick tempo o h s t p =
    let back : suc i - 1 ≡ i = omega arith in
    let next : i + 1 ≡ suc i = omega arith in
    let tick' : tick ≡ (entry_at es i).tick = rw back at t in
    let tempo' : tempo ≡ (entry_at es i).tempo = rw back at (p (omega arith)) in
    let rise : (entry_at es i).tick < (entry_at es (suc i)).tick = o.rising i (suc i) (omega arith) h in
    let run : numerator (plain es) (entry_at es (suc i)).tick ≡ numerator (plain es) (entry_at es i).tick + ((entry_at es (suc i)).tick - (entry_at es i).tick) * ((entry_at es i).tempo * 1000)
    = numerator-segment (plain es) i (entry_at es (suc i)).tick (omega arith) o (omega arith) (omega arith) (λ _. let e : (entry_at es (suc i)).tick ≡ (entry_at es (i + 1)).tick = ap (λ j. (entry_at es j).tick) (sym next) in omega arith) in
    let start' : start ≡ numerator (plain es) (entry_at es i).tick = s ∙ ap (numerator (plain es)) tick' in
    rw (start', tick', tempo') (sym run)

-- each tick's numerator is small
pub starts-small : (es : List TempoEntry) (tick : ℕ) → AreOrdered es → numerator (record { division = 0; entries = es }) tick ≤ tick * 2 ^ 34
starts-small es tick o = numerator-small (plain es) (2 ^ 34) tick (λ u.
    let few : tempo_or 0 es u < 2 ^ 24 = tempo_or-all (λ n. n < 2 ^ 24) 0 es u (omega arith) (λ i below. o.below i) in
    let e : duration (plain es) u ≡ 1000 * tempo_or 0 es u = duration-metrical (plain es) u (omega arith) in
    omega arith)

-- one more number, at the end
pub starts-push : (f : ℕ → ℕ) (xs ys : List ℕ) (n y : ℕ) → length xs ≡ n → ((i : ℕ) → i < n → slice_index xs i ≡ f i) → ys ≡ xs ++ y ∷ [] → y ≡ f n → (i : ℕ) → i < n + 1 → slice_index ys i ≡ f i
starts-push f xs ys n y counted each e last = below_more _ _
    (λ i h. rw e (get_or-append xs (y ∷ []) 0 i (omega arith) ∙ each i h))
    (rw e (get_or_push xs y 0 n counted ∙ last))
