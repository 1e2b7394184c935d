use Rattle.std.proofs.Common.{◌≡◌, drop}
use Rattle.tempo_clock.specs.Entries.{are_entries, are_rising_from}
use Rattle.tempo_clock.proofs.tempo_table.are_entries.Given as goal

abbrev pub invariant-loop-entry : goal.invariant-loop-entry
invariant-loop-entry l = are_entries l.entries ≡ are_rising_from l.before (drop l.entry-index l.entry-items)
