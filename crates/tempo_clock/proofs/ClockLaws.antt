-- The laws of clocks.
use Rattle.std.proofs.Common.{◌≡◌, ◌≤◌, ℕ, Option, Some, None, refl, arith}
use Rattle.tempo_clock.specs.Ticks.{Tempos}
use Rattle.tempo_clock.specs.Clocks.{Clock, elapsed_from}
use Rattle.tempo_clock.specs.Laws.{IsToldBy, GoesOn}

pub clocks_begin : (m : Tempos) (moment : ℕ) → IsToldBy (record { map = m; time = 0; since = None }) moment
clocks_begin m moment = record { held = omega arith; running = λ since e. absurd cc }

-- it never shows more than the moment
shown_by : (time : ℕ) (since : Option ℕ) (before moment : ℕ) → time ≤ before → ((s : ℕ) → since ≡ Some s → (time ≤ s) × (s ≤ before)) → before ≤ moment → elapsed_from time since moment ≤ moment
shown_by time None before moment h r k = omega arith
shown_by time (Some s) before moment h r k = let t : (time ≤ s) × (s ≤ before) = r s refl in let a : time ≤ s = t.0 in let b : s ≤ before = t.1 in omega arith

from_now : (time since moment : ℕ) → time ≤ moment → ◌≡◌ {A = Option ℕ} (Some moment) (Some since) → (time ≤ since) × (since ≤ moment)
from_now time since moment h e = let same : moment ≡ since = cc in (omega arith, omega arith)

pub clocks_go_on : (c : Clock) (before moment tempo : ℕ) → IsToldBy c before → before ≤ moment → GoesOn c moment tempo
clocks_go_on c before moment tempo told h =
    let held : c.time ≤ before = told.held in
    let later : (s : ℕ) → c.since ≡ Some s → (c.time ≤ s) × (s ≤ moment) = λ s e. let t : (c.time ≤ s) × (s ≤ before) = told.running s e in let b : s ≤ before = t.1 in (t.0, omega arith) in
    record {
      shown = shown_by c.time c.since before moment told.held told.running h;
      unused = record { held = omega arith; running = later };
      start = record { held = omega arith; running = λ s e. from_now 0 s moment (omega arith) e };
      stop = record { held = shown_by c.time c.since before moment told.held told.running h; running = λ s e. absurd cc };
      resume = record { held = omega arith; running = λ s e. from_now c.time s moment (omega arith) e };
      set_tempo = record { held = omega arith; running = later };
    }
