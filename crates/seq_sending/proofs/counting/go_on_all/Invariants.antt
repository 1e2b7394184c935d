use Rattle.std.proofs.Common.{◌≡◌, ◌+◌, ◌<◌, ℕ, length, take}
use Rattle.std.specs.Prelude.{slice_index}
use Rattle.node_table.specs.Numbers.{first_client, most_clients}
use Rattle.seq_sending.specs.Counts.{ways_behind, ways_in}
use Rattle.seq_sending.proofs.counting.go_on_all.Given as goal

abbrev pub invariant-loop-entry : goal.invariant-loop-entry
invariant-loop-entry g l = record {
  long : length l.counts ≡ most_clients;
  counted : (row n : ℕ) → row < most_clients →
      slice_index l.counts row + ways_in g.M.Carried.bytes (ways_behind l.clients.clients l.graph (first_client + row) n) l.front.entries.items
      ≡ slice_index l.fn.counts row + ways_in g.M.Carried.bytes (ways_behind l.clients.clients l.graph (first_client + row) n) l.fn.front.entries.items
      + ways_in g.M.Carried.bytes (ways_behind l.clients.clients l.graph (first_client + row) (n + 1)) (take l.entry-index l.entries);
}
