use Rattle.std.proofs.Common.{◌≡◌, ℕ, length, [], slice_index_or}
use Rattle.sounding_notes.proofs.table.silent_ports.Given as goal

-- so many ports so far, none with a note
abbrev pub invariant-loop : goal.invariant-loop
invariant-loop l = record {
  len : length l.ports.items ≡ l.counter;
  silent : (i : ℕ) → slice_index_or l.ports.items i [] ≡ [];
}
