-- Representation: How many ways lead on from each node, by its place.
use Rattle.std.specs.Prelude.{◌≡◌, ℕ, min, if◌then◌else◌, List, length, slice_index}
use Rattle.node_table.specs.Addresses.{is_filter}
use Rattle.node_table.specs.Kept.{IsPlace}
use Rattle.node_table.specs.declared.number.Addr.{Addr}
use Rattle.patch_graph.specs.Cursor.{tails}
use Rattle.patch_graph.specs.Index.{targets_of}
use Rattle.patch_graph.specs.declared.edge.Edge.{Edge}
use Rattle.way_fates.specs.Counts.{most_counted}

-- ways on to these nodes, along at most n subscriptions
abbrev pub ways_on : ℕ → List Edge → List Addr → ℕ
ways_on n edges nodes = length (tails n edges nodes)

-- ways to a node, and at most n subscriptions behind it
abbrev pub ways_through : ℕ → List Edge → Addr → ℕ
ways_through n edges node =
    if is_filter node then ways_on n edges (targets_of edges node) else 1

abbrev pub up_to_most : ℕ → ℕ
up_to_most n = min n most_counted

-- the number of ways on from the node at a place
abbrev pub IsCountAt : ℕ → List Edge → ℕ → ℕ → Type 0
IsCountAt n edges place count = (node : Addr) (row : ℕ) → IsPlace node row place →
    count ≡ up_to_most (ways_on n edges (targets_of edges node))

-- the same of each node
abbrev pub AreCounts : ℕ → List Edge → List ℕ → Type 0
AreCounts n edges counts = (place : ℕ) → IsCountAt n edges place (slice_index counts place)
