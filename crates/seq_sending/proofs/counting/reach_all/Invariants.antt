use Rattle.std.proofs.Common.{◌≡◌, ◌+◌, ◌*◌, ◌<◌, ℕ, List, length, take}
use Rattle.node_table.specs.Numbers.{first_client, most_clients}
use Rattle.node_table.specs.declared.number.Addr.{Addr}
use Rattle.std.specs.Prelude.{sum_by, slice_index}
use Rattle.seq_sending.specs.Counts.{ways_at, ways_in}
use Rattle.seq_sending.proofs.counting.reach_all.Given as goal

abbrev pub invariant-loop-target : goal.invariant-loop-target
invariant-loop-target g l = record {
  long : length l.counts ≡ most_clients;
  counted : (row : ℕ) (past : Addr → List ℕ → ℕ) → row < most_clients →
      slice_index l.counts row + ways_in g.M.Carried.bytes past l.front.entries.items
      ≡ slice_index l.fn.counts row + ways_in g.M.Carried.bytes past l.fn.front.entries.items
      + l.ways * sum_by (ways_at (first_client + row) past (g.M.Carried.bytes l.message)) (take l.target-index l.targets);
}
