-- The laws of ticks.
use Rattle.std.proofs.Common.{◌≡◌, ◌≤◌, ◌<◌, ◌+◌, ◌*◌, ◌-◌, ◌%◌, ◌^◌, ◌∙◌, ◌↔◌, inl, inr, ℕ, min, Some, None, leb-true, ap, arith}
use Rattle.std.proofs.Math.Nat.{mul-le-mul_right, le_of_mul-le-mul_right, div-zero, mod-zero}
use Rattle.std.proofs.lemmas.Grind.{div_ceil_times}
use Rattle.std.specs.Int.{div_ceil}
use Rattle.std.specs.Prelude.{nat_le}
use Rattle.tempo_clock.specs.Ticks.{Tempos, resolution, duration, numerator, nanos_at, tick_at, first_tick_from, with_tempo_from}
use Rattle.tempo_clock.specs.Laws.{IsLastTick, IsFirstTick}
use Rattle.tempo_clock.proofs.Comparisons.{order, not_above}
use Rattle.tempo_clock.proofs.Searches.{IsLeast, least-found, least-none_passes}
use Rattle.tempo_clock.proofs.Numerators.{numerator-next, numerator-rises}
use Rattle.tempo_clock.proofs.Changes.{numerator-changed, resolution-changed}
use Rattle.tempo_clock.proofs.Found.{tick_at-come, tick_at-fits, tick_at-last}

-- ---- the time of a tick

pub nanos-enough : (m : Tempos) (t : ℕ) → 0 < resolution m → numerator m t ≤ nanos_at m t * resolution m
unfolding nanos_at
nanos-enough m t p = (div_ceil_times (numerator m t) (resolution m) p).0

pub nanos-close : (m : Tempos) (t : ℕ) → 0 < resolution m → nanos_at m t * resolution m < numerator m t + resolution m
unfolding nanos_at
nanos-close m t p = (div_ceil_times (numerator m t) (resolution m) p).1

-- a time that reaches the numerator is not before the tick's
pub nanos-at_most : (m : Tempos) (t n : ℕ) → 0 < resolution m → numerator m t ≤ n * resolution m → nanos_at m t ≤ n
nanos-at_most m t n p h = elim (order (nanos_at m t) n) [
  | inl less ↦ less
  | inr more ↦
      let close : nanos_at m t * resolution m < numerator m t + resolution m = nanos-close m t p in
      let up : (n + 1) * resolution m ≤ nanos_at m t * resolution m = mul-le-mul_right (resolution m) (omega arith) in
      absurd (omega arith)
]

-- a time whose product the numerator reaches is not after the tick's
pub nanos-at_least : (m : Tempos) (t n : ℕ) → 0 < resolution m → n * resolution m ≤ numerator m t → n ≤ nanos_at m t
nanos-at_least m t n p h =
    let enough : numerator m t ≤ nanos_at m t * resolution m = nanos-enough m t p in
    let both : n * resolution m ≤ nanos_at m t * resolution m = omega arith in
    le_of_mul-le-mul_right both p

pub nanos_are_least : (m : Tempos) (t n : ℕ) → 0 < resolution m → (numerator m t ≤ n * resolution m) ↔ (nanos_at m t ≤ n)
nanos_are_least m t n p = (
  nanos-at_most m t n p,
  λ h.
      let enough : numerator m t ≤ nanos_at m t * resolution m = nanos-enough m t p in
      let up : nanos_at m t * resolution m ≤ n * resolution m = mul-le-mul_right (resolution m) h in
      omega arith,
)

ceil_of_zero : (a b r : ℕ) → r ≡ 0 → a ≤ b → div_ceil a r ≤ div_ceil b r
ceil_of_zero a b r e h =
    let x : div_ceil a 0 ≡ 0 + min 1 a = ap (λ q. q + min 1 (a % 0)) (div-zero a) ∙ ap (λ q. 0 + min 1 q) (mod-zero a) in
    let y : div_ceil b 0 ≡ 0 + min 1 b = ap (λ q. q + min 1 (b % 0)) (div-zero b) ∙ ap (λ q. 0 + min 1 q) (mod-zero b) in
    rw (e, x, y) (omega arith)

pub nanos_rise : (m : Tempos) (s t : ℕ) → s ≤ t → nanos_at m s ≤ nanos_at m t
unfolding nanos_at
nanos_rise m s t h = elim (order (resolution m) 0) [
  | inl none ↦ ceil_of_zero (numerator m s) (numerator m t) (resolution m) (omega arith) (numerator-rises m s t h)
  | inr some ↦
      let rise : numerator m s ≤ numerator m t = numerator-rises m s t h in
      let enough : numerator m t ≤ nanos_at m t * resolution m = nanos-enough m t some in
      nanos-at_most m s (nanos_at m t) some (omega arith)
]

-- ---- the tick at a time

pub ticks_are_last : (m : Tempos) (nanos : ℕ) → IsLastTick m nanos (tick_at m nanos)
ticks_are_last m nanos = record { fits = tick_at-fits m nanos; reached = tick_at-come m nanos; last = tick_at-last m nanos }

pub ticks_are_first : (m : Tempos) (nanos tick : ℕ) → first_tick_from m nanos ≡ Some tick → IsFirstTick m nanos tick
unfolding first_tick_from
ticks_are_first m nanos tick e =
    let found : IsLeast (λ t. nat_le (nanos * resolution m) (numerator m t)) (2 ^ 64 - 1) tick = least-found (λ t. nat_le (nanos * resolution m) (numerator m t)) (2 ^ 64 - 1) tick e in
    record {
      fits = let w : tick ≤ 2 ^ 64 - 1 = found.within in omega arith;
      later = leb-true _ _ found.passes;
      first = λ t h. elim (order tick t) [
        | inl less ↦ less
        | inr more ↦ let before : numerator m t < nanos * resolution m = not_above _ _ (found.below t more) in absurd (omega arith)
      ];
    }

pub ticks_all_before : (m : Tempos) (nanos t : ℕ) → first_tick_from m nanos ≡ None → t < 2 ^ 64 → numerator m t < nanos * resolution m
unfolding first_tick_from
ticks_all_before m nanos t e h = not_above _ _ (least-none_passes (λ u. nat_le (nanos * resolution m) (numerator m u)) (2 ^ 64 - 1) e t (omega arith))

pub ticks_come_back : (m : Tempos) (t : ℕ) → 0 < resolution m → t < 2 ^ 64 → t ≤ tick_at m (nanos_at m t)
ticks_come_back m t p h = tick_at-last m (nanos_at m t) t h (nanos-enough m t p)

pub ticks_come_back_exactly : (m : Tempos) (t : ℕ) → 0 < resolution m → t < 2 ^ 64 → resolution m ≤ duration m t → tick_at m (nanos_at m t) ≡ t
ticks_come_back_exactly m t p h long =
    let low : t ≤ tick_at m (nanos_at m t) = ticks_come_back m t p h in
    elim (order (tick_at m (nanos_at m t)) t) [
      | inl high ↦ omega arith
      | inr more ↦
          let come : numerator m (tick_at m (nanos_at m t)) ≤ nanos_at m t * resolution m = tick_at-come m (nanos_at m t) in
          let close : nanos_at m t * resolution m < numerator m t + resolution m = nanos-close m t p in
          let next : numerator m (t + 1) ≡ numerator m t + duration m t = numerator-next m t in
          let up : numerator m (t + 1) ≤ numerator m (tick_at m (nanos_at m t)) = numerator-rises m (t + 1) _ (omega arith) in
          absurd (omega arith)
    ]

-- ---- a change of tempo

pub tempo_keeps_ticks : (m : Tempos) (from tempo t : ℕ) → t ≤ from → nanos_at (with_tempo_from m from tempo) t ≡ nanos_at m t
unfolding nanos_at
tempo_keeps_ticks m from tempo t h =
    ap (λ n. div_ceil n (resolution (with_tempo_from m from tempo))) (numerator-changed m from tempo t h)
    ∙ ap (div_ceil (numerator m t)) (resolution-changed m from tempo)

pub tempo_is_not_before : (m : Tempos) (nanos from tempo t : ℕ) → 0 < resolution m → first_tick_from m nanos ≡ Some from → from ≤ t → nanos ≤ nanos_at (with_tempo_from m from tempo) t
tempo_is_not_before m nanos from tempo t p e h =
    let later : nanos * resolution m ≤ numerator m from = (ticks_are_first m nanos from e).later in
    let same : numerator (with_tempo_from m from tempo) from ≡ numerator m from = numerator-changed m from tempo from (omega arith) in
    let rise : numerator (with_tempo_from m from tempo) from ≤ numerator (with_tempo_from m from tempo) t = numerator-rises (with_tempo_from m from tempo) from t h in
    let alike : resolution (with_tempo_from m from tempo) ≡ resolution m = resolution-changed m from tempo in
    nanos-at_least (with_tempo_from m from tempo) t nanos (rw alike p) (rw alike (omega arith))

-- nor had any such tick before
pub tempo_was_not_before : (m : Tempos) (nanos from t : ℕ) → 0 < resolution m → first_tick_from m nanos ≡ Some from → from ≤ t → nanos ≤ nanos_at m t
tempo_was_not_before m nanos from t p e h =
    let later : nanos * resolution m ≤ numerator m from = (ticks_are_first m nanos from e).later in
    let rise : numerator m from ≤ numerator m t = numerator-rises m from t h in
    nanos-at_least m t nanos p (omega arith)
