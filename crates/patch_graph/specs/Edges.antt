-- Definition: Subscriptions, each an edge from a node to a node.
use Rattle.std.specs.Prelude.{ℕ, ◌==◌, Bool, not, ◌&&◌, ◌||◌, List, length}
use Rattle.std.specs.List.{filter, list_any}
use Rattle.node_table.specs.Addresses.{same}
use Rattle.node_table.specs.declared.number.Addr.{Addr}
use Rattle.patch_graph.specs.declared.edge.Edge.{Edge}

abbrev pub edge : Addr → Addr → Edge
edge source target = record { source = source; target = target }

abbrev pub is_edge : Addr → Addr → Edge → Bool
is_edge source target e = same source e.source && same target e.target

abbrev pub has_edge : List Edge → Addr → Addr → Bool
has_edge edges source target = list_any (is_edge source target) edges

-- the edges without one of them
abbrev pub without_edge : List Edge → Addr → Addr → List Edge
without_edge edges source target = filter (λ e. not (is_edge source target e)) edges

-- the node is an end of the edge
abbrev pub touches : Addr → Edge → Bool
touches node e = same node e.source || same node e.target

abbrev pub touches_client : ℕ → Edge → Bool
touches_client client e = (e.source.client == client) || (e.target.client == client)

-- the edge ends at a node of the client
abbrev pub ends_at_client : ℕ → Edge → Bool
ends_at_client client e = e.target.client == client

-- how many edges end at a node
abbrev pub sources_of : List Edge → Addr → ℕ
sources_of edges target = length (filter (λ e. same target e.target) edges)

-- how many edges end at a node at most
unfoldable pub most_sources : ℕ
most_sources = 32
