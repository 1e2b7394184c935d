-- What the code finds is what a search over all ticks or moments finds.
use Rattle.std.proofs.Common.{◌≡◌, ◌≢◌, ◌≤◌, ◌<◌, ◌+◌, ◌*◌, ◌-◌, ◌/◌, ◌%◌, ◌^◌, ◌∙◌, ◌⊎◌, inl, inr, ℕ, min, Option, Some, None, leb-true, le-leb, ap, sym, arith}
use Rattle.std.proofs.Math.Nat.{mul-le-mul_right}
use Rattle.std.proofs.lemmas.Nat.{div-add-mod', mod_below, div_below}
use Rattle.std.specs.Prelude.{nat_le}
use Rattle.std.specs.Option.{SomeIff}
use Rattle.tempo_clock.specs.Search.{greatest}
use Rattle.tempo_clock.specs.Ticks.{Tempos, resolution, duration, numerator, tick_at, first_tick_from}
use Rattle.tempo_clock.proofs.Searches.{greatest-is, greatest-within, greatest-passes, greatest-above, least-is, least-none}
use Rattle.tempo_clock.proofs.Numerators.{numerator-zero, numerator-rises, numerator-rises_more}
use Rattle.tempo_clock.proofs.Comparisons.{order, is_above}

-- ---- the last tick that has come

-- how many steps fit
steps : (room step : ℕ) → 0 < step → (room / step * step ≤ room) × (room < (room / step + 1) * step)
steps room step h =
    let parts : room / step * step + room % step ≡ room = div-add-mod' room step in
    let rest : room % step < step = mod_below room step h in
    (omega arith, omega arith)

-- a segment of a map: from a tick on, up to another one if there is one more, and a limit that is reached in it
record IsSegment (m : Tempos) (limit tick start step len after next : ℕ) : Type 0 where
  from : start ≡ numerator m tick
  reached : start ≤ limit
  some : 0 < step
  covers : (t : ℕ) → tick ≤ t → (after < len → t ≤ next) → numerator m t ≡ start + (t - tick) * step
  ends : after < len → limit < numerator m next

module _ (m : Tempos) (limit tick start step len after next : ℕ) (h : IsSegment m limit tick start step len after next) where
  next_later : (n : ℕ) → limit < numerator m n → tick < n
  next_later n k = elim (order n tick) [
    | inr less ↦ less
    | inl more ↦
        let f : start ≡ numerator m tick = h.from in
        let r : start ≤ limit = h.reached in
        let e : numerator m n ≤ numerator m tick = numerator-rises m n tick more in absurd (omega arith)
  ]

  -- the whole steps end before the next segment
  steps_within : after < len → (limit - start) / step < next - tick
  steps_within k =
      let later : tick < next = next_later next (h.ends k) in
      let at : numerator m next ≡ start + (next - tick) * step = h.covers next (omega arith) (λ _. omega arith) in
      let over : limit < numerator m next = h.ends k in
      div_below (limit - start) step (next - tick) h.some (omega arith)

  -- as many steps as fit have come
  come : (k : ℕ) → k ≤ (limit - start) / step → numerator m (tick + k) ≤ limit
  come k few =
      let at : numerator m (tick + k) ≡ start + (tick + k - tick) * step = h.covers (tick + k) (omega arith) (λ in_map. let w : (limit - start) / step < next - tick = steps_within in_map in omega arith) in
      let same : tick + k - tick ≡ k = omega arith in
      let at' : numerator m (tick + k) ≡ start + k * step = rw same at at in
      let fit : (limit - start) / step * step ≤ limit - start = (steps (limit - start) step h.some).0 in
      let less : k * step ≤ (limit - start) / step * step = mul-le-mul_right step few in
      let r : start ≤ limit = h.reached in
      omega arith

  -- one more has not
  to_come : limit < numerator m (tick + ((limit - start) / step + 1))
  to_come =
      let q : ℕ = (limit - start) / step in
      let at : numerator m (tick + ((limit - start) / step + 1)) ≡ start + (tick + ((limit - start) / step + 1) - tick) * step
      = h.covers (tick + ((limit - start) / step + 1)) (omega arith) (λ in_map. let w : (limit - start) / step < next - tick = steps_within in_map in omega arith) in
      let same : tick + ((limit - start) / step + 1) - tick ≡ (limit - start) / step + 1 = omega arith in
      let at' : numerator m (tick + ((limit - start) / step + 1)) ≡ start + ((limit - start) / step + 1) * step = rw same at at in
      let fit : limit - start < ((limit - start) / step + 1) * step = (steps (limit - start) step h.some).1 in
      omega arith

least_of : (a b : ℕ) → ((min a b ≡ a) × (a ≤ b)) ⊎ ((min a b ≡ b) × (b < a))
least_of a b = grind arith

-- the last tick that has come, among those up to the greatest
last_come : (m : Tempos) (limit tick start step len after next most : ℕ) → IsSegment m limit tick start step len after next → tick ≤ most → greatest (λ t. nat_le (numerator m t) limit) most ≡ tick + min ((limit - start) / step) (most - tick)
last_come m limit tick start step len after next most h end =
    greatest-is (λ t. nat_le (numerator m t) limit) most (tick + min ((limit - start) / step) (most - tick)) (omega arith)
    (le-leb _ _ (come m limit tick start step len after next h (min ((limit - start) / step) (most - tick)) (omega arith)))
    (λ t within passes. top t within (leb-true _ _ passes))
  where
    top : (t : ℕ) → t ≤ most → numerator m t ≤ limit → t ≤ tick + min ((limit - start) / step) (most - tick)
    top t within passes = elim (least_of ((limit - start) / step) (most - tick)) [
      | inl whole ↦ elim (order t (tick + (limit - start) / step)) [
        | inl less ↦ let e : min ((limit - start) / step) (most - tick) ≡ (limit - start) / step = whole.0 in omega arith
        | inr more ↦
            let more' : tick + ((limit - start) / step + 1) ≤ t = omega arith in
            let r : numerator m (tick + ((limit - start) / step + 1)) ≤ numerator m t = numerator-rises m _ _ more' in
            let over : limit < numerator m (tick + ((limit - start) / step + 1)) = to_come m limit tick start step len after next h in
            absurd (omega arith)
      ]
      | inr cut ↦ let e : min ((limit - start) / step) (most - tick) ≡ most - tick = cut.0 in omega arith
    ]

pub tick_at-is : (m : Tempos) (nanos limit tick start step len after next : ℕ) → limit ≡ nanos * resolution m → start ≡ numerator m tick → start ≤ limit → 0 < step → tick < 2 ^ 64
    → ((t : ℕ) → tick ≤ t → (after < len → t ≤ next) → numerator m t ≡ start + (t - tick) * step) → (after < len → limit < numerator m next)
    → tick_at m nanos ≡ tick + min ((limit - start) / step) (2 ^ 64 - 1 - tick)
unfolding tick_at
tick_at-is m nanos limit tick start step len after next e s low some small covers high =
    let segment : IsSegment m limit tick start step len after next = record { from = s; reached = low; some = some; covers = covers; ends = high } in
    rw (← e) (last_come m limit tick start step len after next (2 ^ 64 - 1) segment (omega arith))

-- ---- the first tick that does not come before

-- what is known of the last tick that has come
pub tick_at-come : (m : Tempos) (nanos : ℕ) → numerator m (tick_at m nanos) ≤ nanos * resolution m
unfolding tick_at
tick_at-come m nanos =
    let z : numerator m 0 ≡ 0 = numerator-zero m in
    leb-true _ _ (greatest-passes (λ t. nat_le (numerator m t) (nanos * resolution m)) (2 ^ 64 - 1) (le-leb _ _ (omega arith)))

pub tick_at-fits : (m : Tempos) (nanos : ℕ) → tick_at m nanos < 2 ^ 64
unfolding tick_at
tick_at-fits m nanos =
    let w : greatest (λ t. nat_le (numerator m t) (nanos * resolution m)) (2 ^ 64 - 1) ≤ 2 ^ 64 - 1 = greatest-within (λ t. nat_le (numerator m t) (nanos * resolution m)) (2 ^ 64 - 1) in
    omega arith

pub tick_at-last : (m : Tempos) (nanos t : ℕ) → t < 2 ^ 64 → numerator m t ≤ nanos * resolution m → t ≤ tick_at m nanos
unfolding tick_at
tick_at-last m nanos t h come = greatest-above (λ t. nat_le (numerator m t) (nanos * resolution m)) (2 ^ 64 - 1) t (omega arith) (le-leb _ _ come)

-- it comes then
pub first_tick-now : (m : Tempos) (nanos limit tick : ℕ) → ((u : ℕ) → 0 < duration m u) → limit ≡ nanos * resolution m → tick < 2 ^ 64 → numerator m tick ≡ limit → ◌≡◌ {A = Option ℕ} (Some tick) (first_tick_from m nanos)
unfolding first_tick_from
first_tick-now m nanos limit tick lasts e small now =
    sym (least-is (λ t. nat_le (nanos * resolution m) (numerator m t)) (2 ^ 64 - 1) tick (omega arith) (le-leb _ _ (omega arith))
    (λ t before. let less : numerator m t < numerator m tick = numerator-rises_more m t tick lasts before in is_above _ _ (omega arith)))

-- it has come, so the next is the first that comes later
pub first_tick-next : (m : Tempos) (nanos limit : ℕ) → limit ≡ nanos * resolution m → numerator m (tick_at m nanos) ≢ limit → (r : Option ℕ) → SomeIff r (tick_at m nanos + 1 < 2 ^ 64) (tick_at m nanos + 1) → r ≡ first_tick_from m nanos
unfolding first_tick_from
first_tick-next m nanos limit e later None h =
    sym (least-none (λ t. nat_le (nanos * resolution m) (numerator m t)) (2 ^ 64 - 1) (λ t within.
    let come : numerator m (tick_at m nanos) ≤ nanos * resolution m = tick_at-come m nanos in
    let up : t ≤ tick_at m nanos = elim (order (2 ^ 64) (tick_at m nanos + 1)) [ inr fits ↦ absurd (h fits) | inl over ↦ omega arith ] in
    let less : numerator m t ≤ numerator m (tick_at m nanos) = numerator-rises m t (tick_at m nanos) up in
    is_above _ _ (omega arith)))
first_tick-next m nanos limit e later (Some k) h =
    let come : numerator m (tick_at m nanos) ≤ nanos * resolution m = tick_at-come m nanos in
    let same : k ≡ tick_at m nanos + 1 = h.1 in
    let fits : tick_at m nanos + 1 < 2 ^ 64 = h.0 in
    ap Some same ∙ sym (least-is (λ t. nat_le (nanos * resolution m) (numerator m t)) (2 ^ 64 - 1) (tick_at m nanos + 1) (omega arith)
    (le-leb _ _ (elim (order (nanos * resolution m) (numerator m (tick_at m nanos + 1))) [
      | inl enough ↦ enough
      | inr short ↦ let last : tick_at m nanos + 1 ≤ tick_at m nanos = tick_at-last m nanos (tick_at m nanos + 1) fits (omega arith) in absurd (omega arith)
    ]))
    (λ t before.
    let less : numerator m t ≤ numerator m (tick_at m nanos) = numerator-rises m t (tick_at m nanos) (omega arith) in
    is_above _ _ (omega arith)))

-- ---- two maps that agree

-- where both tell the same of what has come within a limit, the same tick is the last
pub tick_at-alike : (m n : Tempos) (nanos limit : ℕ) → limit ≡ nanos * resolution m → limit ≡ nanos * resolution n → ((t : ℕ) → numerator m t ≤ limit → numerator m t ≡ numerator n t) → ((t : ℕ) → numerator n t ≤ limit → numerator m t ≡ numerator n t) → tick_at m nanos ≡ tick_at n nanos
tick_at-alike m n nanos limit e f forth back =
    let x : numerator m (tick_at m nanos) ≤ nanos * resolution m = tick_at-come m nanos in
    let y : numerator n (tick_at n nanos) ≤ nanos * resolution n = tick_at-come n nanos in
    let x' : numerator m (tick_at m nanos) ≡ numerator n (tick_at m nanos) = forth (tick_at m nanos) (omega arith) in
    let y' : numerator m (tick_at n nanos) ≡ numerator n (tick_at n nanos) = back (tick_at n nanos) (omega arith) in
    let up : tick_at m nanos ≤ tick_at n nanos = tick_at-last n nanos (tick_at m nanos) (tick_at-fits m nanos) (omega arith) in
    let down : tick_at n nanos ≤ tick_at m nanos = tick_at-last m nanos (tick_at n nanos) (tick_at-fits n nanos) (omega arith) in
    omega arith
