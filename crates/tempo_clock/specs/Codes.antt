-- Representation: The codes of due times, tempo entries and clocks, by which a model may have them
-- in its value.
use Rattle.std.specs.Prelude.{◌≡◌, ℕ, List, Option, ◌⊎◌, refl}
use Rattle.std.proofs.Common.{inl, inr}
use Rattle.std.specs.Coded.{Coded, code_by, coded×, coded⊎, coded_list, coded_option, coded_ℕ}
use Rattle.tempo_clock.specs.Clocks.{Clock}
use Rattle.tempo_clock.specs.Ticks.{Tempos}
use Rattle.tempo_clock.specs.declared.due.Due.{Due}
use Rattle.tempo_clock.specs.declared.due.Due.TheVariants.{Tick, Nanos}
use Rattle.tempo_clock.specs.declared.entry.TempoEntry.{TempoEntry}

abbrev pub due_either : Due → ℕ ⊎ ℕ
due_either (Tick n) = inl n
due_either (Nanos n) = inr n

abbrev pub either_due : ℕ ⊎ ℕ → Due
either_due (inl n) = Tick n
either_due (inr n) = Nanos n

pub due_back : (d : Due) → either_due (due_either d) ≡ d
due_back (Tick n) = refl
due_back (Nanos n) = refl

abbrev pub coded_due : Coded Due
coded_due = code_by (ℕ ⊎ ℕ) (coded⊎ coded_ℕ coded_ℕ) due_either either_due due_back

abbrev pub coded_entry : Coded TempoEntry
coded_entry =
    code_by (ℕ × ℕ) (coded× coded_ℕ coded_ℕ)
    (λ e. (e.tick, e.tempo)) (λ c. record { tick = c.0; tempo = c.1 }) (λ _. refl)

abbrev pub coded_tempos : Coded Tempos
coded_tempos =
    code_by (ℕ × List TempoEntry) (coded× coded_ℕ (coded_list coded_entry))
    (λ m. (m.division, m.entries)) (λ p. record { division = p.0; entries = p.1 }) (λ _. refl)

abbrev pub coded_clock : Coded Clock
coded_clock =
    code_by (Tempos × (ℕ × Option ℕ)) (coded× coded_tempos (coded× coded_ℕ (coded_option coded_ℕ)))
    (λ c. (c.map, (c.time, c.since)))
    (λ p. record { map = p.0; time = p.1.0; since = p.1.1 }) (λ _. refl)
