use Rattle.std.proofs.Common.{◌≡◌, ◌+◌, ◌<◌, ◌≤◌, ℕ}
use Rattle.std.specs.Prelude.{slice_index}
use Rattle.std.specs.FinMap.{get}
use Rattle.node_table.specs.Numbers.{first_client}
use Rattle.seq_sending.specs.Rooms.{with_losses}
use Rattle.seq_sending.proofs.counted.lose_all.Given as goal

abbrev pub invariant-loop-row : goal.invariant-loop-row
invariant-loop-row l =
    let was = l.fn.clients.pools in
    let now = l.clients.pools in
    record {
      clients : l.clients.clients ≡ l.fn.clients.clients;
      lost : (row : ℕ) → row < l.row → get now (first_client + row) ≡ with_losses l.moment (slice_index l.counts row) (get was (first_client + row));
      later : (row : ℕ) → l.row ≤ row → get now (first_client + row) ≡ get was (first_client + row);
      before : (c : ℕ) → c < first_client → get now c ≡ get was c;
    }
