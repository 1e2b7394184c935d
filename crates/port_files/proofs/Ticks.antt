-- Which tick has come, where the next one has not; and a later moment has no earlier tick.
use Rattle.std.proofs.Common.{◌≡◌, ◌≤◌, ◌<◌, ◌+◌, ◌*◌, ◌^◌, ℕ, inl, inr, arith}
use Rattle.std.proofs.Math.Nat.{mul-le-mul_right}
use Rattle.tempo_clock.specs.Ticks.{Tempos, numerator, resolution, tick_at}
use Rattle.tempo_clock.proofs.Comparisons.{order}
use Rattle.tempo_clock.proofs.Found.{tick_at-come, tick_at-fits, tick_at-last}
use Rattle.tempo_clock.proofs.Numerators.{numerator-rises}

pub tick-is : (m : Tempos) (nanos t : ℕ) → t + 1 < 2 ^ 64 → numerator m t ≤ nanos * resolution m → nanos * resolution m < numerator m (t + 1) → tick_at m nanos ≡ t
tick-is m nanos t fits here next =
    let up : t ≤ tick_at m nanos = tick_at-last m nanos t (omega arith) here in
    let come : numerator m (tick_at m nanos) ≤ nanos * resolution m = tick_at-come m nanos in
    elim (order (tick_at m nanos) t) [
      | inl less ↦ omega arith
      | inr more ↦
          let rises : numerator m (t + 1) ≤ numerator m (tick_at m nanos) = numerator-rises m (t + 1) (tick_at m nanos) (omega arith) in
          absurd (omega arith)
    ]

pub ticks-rise : (m : Tempos) (a b : ℕ) → a ≤ b → tick_at m a ≤ tick_at m b
ticks-rise m a b h =
    let come : numerator m (tick_at m a) ≤ a * resolution m = tick_at-come m a in
    let more : a * resolution m ≤ b * resolution m = mul-le-mul_right (resolution m) h in
    tick_at-last m b (tick_at m a) (tick_at-fits m a) (omega arith)
