use Rattle.std.proofs.Common.{◌≡◌, ◌⊎◌, ◌+◌, ◌<◌, ℕ, false}
use Rattle.std.specs.Prelude.{slice_index}
use Rattle.std.specs.FinMap.{get}
use Rattle.node_table.specs.Numbers.{first_client}
use Rattle.seq_state.specs.Step.{pool_has_room}
use Rattle.seq_sending.proofs.counted.finds_room.Given as goal

abbrev pub invariant-loop-row : goal.invariant-loop-row
invariant-loop-row l = (row : ℕ) → row < l.row → (slice_index l.counts row ≡ 0) ⊎ (pool_has_room l.moment (get l.clients.pools (first_client + row)) ≡ false)
