-- What a caller knows of a clock that it has asked what it shows.
use Rattle.std.proofs.Common.{◌≡◌, ◌≤◌, ℕ, false, Option, ap, subst}
use Rattle.std.specs.Prelude.{is_some}
use Rattle.tempo_clock.specs.Clocks.{Clock, elapsed_time, elapsed_from}
use Rattle.seq_clients.proofs.Tested.{none_if_not}

-- a clock that is held shows its time
pub shown_by : (k : Clock) (moment : ℕ) → is_some k.since ≡ false → elapsed_time k moment ≤ moment → k.time ≤ moment
shown_by k moment h l = subst (λ (n : ℕ). n ≤ moment) (ap (λ (o : Option ℕ). elapsed_from k.time o moment) (none_if_not k.since h)) l
