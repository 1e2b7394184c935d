-- Definition: How many ways lead from a port.
use Rattle.std.specs.Prelude.{ℕ, ◌-◌, ◌^◌, min, List, length}
use Rattle.node_table.specs.declared.number.Addr.{Addr}
use Rattle.patch_graph.specs.declared.edge.Edge.{Edge}
use Rattle.patch_graph.specs.Paths.{paths}

-- at which the count stays
abbrev pub most_counted : ℕ
most_counted = 2 ^ 64 - 1

abbrev pub way_count : List Edge → Addr → ℕ
way_count edges source = min (length (paths edges source)) most_counted
