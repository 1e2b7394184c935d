-- What the kept numbers of a map say of its ticks.
use Rattle.std.proofs.Common.{◌≡◌, ◌≢◌, ◌≤◌, ◌<◌, ◌+◌, ◌*◌, ◌-◌, ◌^◌, ◌⊎◌, inl, inr, ℕ, List, length, get_or, ap, arith}
use Rattle.tempo_clock.specs.declared.entry.TempoEntry.{TempoEntry}
use Rattle.tempo_clock.specs.Ticks.{Tempos, tempo_or, duration, numerator}
use Rattle.tempo_clock.specs.Kept.{entry_at, AreTemposSound, AreStartsKept}
use Rattle.tempo_clock.proofs.Numerators.{numerator-zero, numerator-run, numerator-small, numerator-segment, duration-smpte, duration-metrical, tempo_or-all, tempo_or-above}

-- the map has entries, or is by frames
kinds : (m : Tempos) → (m.division < 32768) ⊎ (32768 ≤ m.division)
kinds m = grind arith

pub sound-lasts : (m : Tempos) → AreTemposSound m → (u : ℕ) → 0 < duration m u
sound-lasts m k u = elim (kinds m) [
  | inl metrical ↦
      let tempo : 0 < tempo_or 0 m.entries u = tempo_or-above m.entries u k.ordered (k.metrical metrical) in
      let e : duration m u ≡ 1000 * tempo_or 0 m.entries u = duration-metrical m u metrical in
      omega arith
  | inr smpte ↦ let e : duration m u ≡ 1000000000 = duration-smpte m u smpte in omega arith
]

pub sound-brief : (m : Tempos) → AreTemposSound m → (u : ℕ) → duration m u ≤ 2 ^ 34
sound-brief m k u = elim (kinds m) [
  | inl metrical ↦
      let tempo : tempo_or 0 m.entries u < 2 ^ 24 = tempo_or-all (λ n. n < 2 ^ 24) 0 m.entries u (omega arith) (λ i below. k.ordered.below i) in
      let e : duration m u ≡ 1000 * tempo_or 0 m.entries u = duration-metrical m u metrical in
      omega arith
  | inr smpte ↦ let e : duration m u ≡ 1000000000 = duration-smpte m u smpte in omega arith
]

pub sound-small : (m : Tempos) → AreTemposSound m → (t : ℕ) → numerator m t ≤ t * 2 ^ 34
sound-small m k t = numerator-small m (2 ^ 34) t (sound-brief m k)

-- without entries, each tick lasts a second
pub segment-smpte : (m : Tempos) → AreTemposSound m → length m.entries ≡ 0 → (t : ℕ) → numerator m t ≡ 0 + (t - 0) * 1000000000
segment-smpte m k none t = elim (kinds m) [
  | inl metrical ↦ let some : 0 < length m.entries = k.metrical metrical in absurd (omega arith)
  | inr smpte ↦
      let run : numerator m (0 + t) ≡ numerator m 0 + t * 1000000000 = numerator-run m 0 1000000000 t (λ u low high. duration-smpte m u smpte) in
      let e : numerator m (0 + t) ≡ numerator m t = ap (numerator m) (omega arith) in
      let z : numerator m 0 ≡ 0 = numerator-zero m in
      omega arith
]

-- with entries, the map is not by frames
pub sound-metrical : (m : Tempos) (i : ℕ) → AreTemposSound m → i < length m.entries → m.division < 32768
sound-metrical m i k h = elim (kinds m) [
  | inl metrical ↦ metrical
  | inr smpte ↦ let none : length m.entries ≡ 0 = k.smpte smpte in absurd (omega arith)
]

-- the numerator that is kept with an entry
pub segment-start : (m : Tempos) (ppq : ℕ) (starts ys : List ℕ) (xs : List TempoEntry) (after : ℕ) → AreStartsKept m ppq starts → xs ≡ m.entries → ys ≡ starts → after ≢ 0 → after ≤ length m.entries → get_or ys (after - 1) 0 ≡ numerator m (entry_at xs (after - 1)).tick
segment-start m ppq starts ys xs after k p q some within =
    let h : after - 1 < length m.entries = omega arith in
    rw (p, q) (k.starting.each (after - 1) h)

pub segment-covers : (m : Tempos) (ppq : ℕ) (starts ys : List ℕ) (xs : List TempoEntry) (after t : ℕ) → AreStartsKept m ppq starts → xs ≡ m.entries → ys ≡ starts → after ≢ 0 → after ≤ length m.entries → (entry_at xs (after - 1)).tick ≤ t → (after < length m.entries → t ≤ (entry_at m.entries after).tick)
    → numerator m t ≡ get_or ys (after - 1) 0 + (t - (entry_at xs (after - 1)).tick) * ((entry_at xs (after - 1)).tempo * 1000)
segment-covers m ppq starts ys xs after t k p q some within low high =
    let h : after - 1 < length m.entries = omega arith in
    let low' : (entry_at m.entries (after - 1)).tick ≤ t = rw p at low in
    let next : after - 1 + 1 ≡ after = omega arith in
    let run : numerator m t ≡ numerator m (entry_at m.entries (after - 1)).tick + (t - (entry_at m.entries (after - 1)).tick) * ((entry_at m.entries (after - 1)).tempo * 1000)
    = numerator-segment m (after - 1) t (sound-metrical m (after - 1) k.sound h) k.sound.ordered h low' (rw next high) in
    rw (p, q, k.starting.each (after - 1) h) run

pub segment-start_small : (m : Tempos) (ppq : ℕ) (starts ys : List ℕ) (xs : List TempoEntry) (after : ℕ) → AreStartsKept m ppq starts → xs ≡ m.entries → ys ≡ starts → after ≢ 0 → after ≤ length m.entries → get_or ys (after - 1) 0 ≤ (entry_at xs (after - 1)).tick * 2 ^ 34
segment-start_small m ppq starts ys xs after k p q some within =
    let e : get_or ys (after - 1) 0 ≡ numerator m (entry_at xs (after - 1)).tick = segment-start m ppq starts ys xs after k p q some within in
    let b : numerator m (entry_at xs (after - 1)).tick ≤ (entry_at xs (after - 1)).tick * 2 ^ 34 = sound-small m k.sound _ in
    rw e b
