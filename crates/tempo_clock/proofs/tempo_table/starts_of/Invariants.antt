use Rattle.std.proofs.Common.{ℕ, ◌≡◌, ◌≤◌, ◌<◌, ◌-◌, ◌*◌, ◌^◌, length}
use Rattle.std.specs.Prelude.{slice_index}
use Rattle.tempo_clock.specs.Ticks.{numerator}
use Rattle.tempo_clock.specs.Kept.{entry_at}
use Rattle.tempo_clock.proofs.tempo_table.starts_of.Given as goal

abbrev pub invariant-loop-entry : goal.invariant-loop-entry
invariant-loop-entry l = record {
  counted : length l.starts.items ≡ l.entry-index;
  each : (i : ℕ) → i < l.entry-index → slice_index l.starts.items i ≡ numerator (record { division = 0; entries = l.entries }) (entry_at l.entries i).tick;
  tick : l.before.tick ≡ (entry_at l.entries (l.entry-index - 1)).tick;
  tempo : 0 < l.entry-index → l.before.tempo ≡ (entry_at l.entries (l.entry-index - 1)).tempo;
  brief : l.before.tempo * 1000 ≤ 2 ^ 34;
  start : l.start ≡ numerator (record { division = 0; entries = l.entries }) l.before.tick;
  small : l.start ≤ l.before.tick * 2 ^ 34;
}
