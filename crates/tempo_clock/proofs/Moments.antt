-- When an event is due.
use Rattle.std.proofs.Common.{◌≡◌, ◌≤◌, ◌<◌, ◌+◌, ◌-◌, ◌^◌, ◌∙◌, inl, inr, ℕ, max, true, false, Some, None, Result, Ok, Err, leb, leb-true, le-leb, ap, sym, arith}
use Rattle.std.specs.Result.{OkIff, result_ok}
use Rattle.tempo_clock.specs.declared.due.Due.{Due}
use Rattle.tempo_clock.specs.Ticks.{Tempos}
use Rattle.tempo_clock.specs.Clocks.{Clock, due_time, is_due, moment_of}
use Rattle.tempo_clock.proofs.Searches.{least-is, least-none}
use Rattle.tempo_clock.proofs.Comparisons.{order, both, joined, neither, second_false}

-- what is due by a moment on a clock that runs
pub record IsDueBy (c : Clock) (accepted since : ℕ) (due : Due) (moment : ℕ) : Type 0 where
  pub later : accepted ≤ moment
  pub started : since ≤ moment
  pub shows : due_time c.map due ≤ c.time + (moment - since)

pub is_due-tells : (map : Tempos) (time since accepted : ℕ) (due : Due) (moment : ℕ) → is_due (record { map = map; time = time; since = Some since }) accepted due moment ≡ true → IsDueBy (record { map = map; time = time; since = Some since }) accepted since due moment
is_due-tells map time since accepted due moment e =
    let t = both _ _ e in
    let u = both _ _ t.1 in
    record { later = leb-true _ _ t.0; started = leb-true _ _ u.0; shows = leb-true _ _ u.1 }

pub is_due-holds : (map : Tempos) (time since accepted : ℕ) (due : Due) (moment : ℕ) → IsDueBy (record { map = map; time = time; since = Some since }) accepted since due moment → is_due (record { map = map; time = time; since = Some since }) accepted due moment ≡ true
is_due-holds map time since accepted due moment h = joined _ _ (le-leb _ _ h.later) (joined _ _ (le-leb _ _ h.started) (le-leb _ _ h.shows))

-- nothing is due on a clock that is held
pub moment-held : (map : Tempos) (time accepted : ℕ) (due : Due) → moment_of (record { map = map; time = time; since = None }) accepted due ≡ None
unfolding moment_of
moment-held map time accepted due = least-none (is_due (record { map = map; time = time; since = None }) accepted due) (2 ^ 64 - 1) (λ t h. second_false (leb accepted t))

-- it is due from a moment on, and not before
module _ (map : Tempos) (time since accepted d : ℕ) (due : Due) (e : d ≡ due_time map due) where
  due_from : (m : ℕ) → max (since + (d - time)) accepted ≤ m → is_due (record { map = map; time = time; since = Some since }) accepted due m ≡ true
  due_from m h = is_due-holds map time since accepted due m (record { later = omega arith; started = omega arith; shows = omega arith })

  due_before : (m : ℕ) → m < max (since + (d - time)) accepted → is_due (record { map = map; time = time; since = Some since }) accepted due m ≡ false
  due_before m h = neither _ (λ t.
      let known : IsDueBy (record { map = map; time = time; since = Some since }) accepted since due m = is_due-tells map time since accepted due m t in
      let later : accepted ≤ m = known.later in
      let started : since ≤ m = known.started in
      let shows : due_time map due ≤ time + (m - since) = known.shows in
      absurd (omega arith))

-- the moment that the code computes, where it fits
pub moment-running : {E : Type 0} (map : Tempos) (time since accepted d : ℕ) (due : Due) → d ≡ due_time map due → (t : Result ℕ E) → OkIff t (max (since + (d - time)) accepted < 2 ^ 64) (max (since + (d - time)) accepted) → result_ok t ≡ moment_of (record { map = map; time = time; since = Some since }) accepted due
unfolding moment_of
moment-running map time since accepted d due e (Ok k) h =
    let fits : max (since + (d - time)) accepted < 2 ^ 64 = h.0 in
    ap Some h.1 ∙ sym (least-is (is_due (record { map = map; time = time; since = Some since }) accepted due) (2 ^ 64 - 1) (max (since + (d - time)) accepted) (omega arith)
    (due_from map time since accepted d due e (max (since + (d - time)) accepted) (omega arith)) (due_before map time since accepted d due e))
moment-running map time since accepted d due e (Err x) h = sym (least-none (is_due (record { map = map; time = time; since = Some since }) accepted due) (2 ^ 64 - 1)
    (λ t within. due_before map time since accepted d due e t (elim (order (2 ^ 64) (max (since + (d - time)) accepted)) [
      | inr fits ↦ absurd (h fits)
      | inl over ↦ omega arith
    ])))
