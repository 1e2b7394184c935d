use Rattle.std.proofs.Common.{◌≡◌, ◌+◌, ◌-◌, ◌<◌, ℕ, length}
use Rattle.std.specs.Prelude.{slice_index}
use Rattle.node_table.specs.Numbers.{first_client, most_clients}
use Rattle.patch_graph.specs.Paths.{hops}
use Rattle.seq_sending.specs.Counts.{ways_behind, ways_for, ways_in}
use Rattle.seq_sending.proofs.counting.count_copies.Given as goal

abbrev pub invariant-loop-hop : goal.invariant-loop-hop
invariant-loop-hop g l = record {
  long : length l.counts ≡ most_clients;
  counted : (row : ℕ) → row < most_clients →
      slice_index l.counts row + ways_in g.M.Carried.bytes (ways_behind l.clients.clients l.graph (first_client + row) (hops - l._hop)) l.front.entries.items
      ≡ slice_index l.fn.counts row + ways_for l.clients.clients l.graph (first_client + row) hops l.targets (g.M.Carried.bytes l.message);
}
