-- Definition: The paths of a message through the edges.
use Rattle.std.specs.Prelude.{ℕ, zero, suc, Bool, true, false, ◌&&◌, if◌then◌else◌, List, [], ◌∷◌, map, Option, Some, None}
use Rattle.std.specs.Option.{option_map}
use Rattle.std.specs.List.{filter, flat_map}
use Rattle.node_table.specs.Addresses.{same, is_filter}
use Rattle.node_table.specs.declared.number.Addr.{Addr}
use Rattle.node_table.specs.declared.number.Node.{Node}
use Rattle.node_table.specs.declared.number.Node.TheVariants.{Port, Filter}
use Rattle.patch_graph.specs.declared.edge.Edge.{Edge}
use Rattle.patch_graph.specs.declared.path.Path.{Path}

-- all lists of one to n edges, in lexicographic order, an earlier edge of the list first
unfoldable pub chains : ℕ → List Edge → List (List Edge)
chains zero edges = []
chains (suc n) edges = flat_map (λ e. (e ∷ []) ∷ map (λ es. e ∷ es) (chains n edges)) edges

abbrev pub is_last : List Edge → Bool
is_last [] = true
is_last (e ∷ es) = false

-- each edge begins where the one before ends, the first at a; the inner nodes are filters, and the
-- last node is a port
abbrev pub is_path : Addr → List Edge → Bool
is_path a [] = false
is_path a (e ∷ es) =
    same a e.source && (if is_filter e.target then is_path e.target es else is_last es)

-- how many edges a path has at most
unfoldable pub hops : ℕ
hops = 8

-- the paths from a node, by the ages of their edges, the oldest first
unfoldable pub paths : List Edge → Addr → List (List Edge)
paths edges a = filter (is_path a) (chains hops edges)

-- where a path ends
abbrev pub end_of : Addr → List Edge → Addr
end_of a [] = a
end_of a (e ∷ es) = end_of e.target es

-- ---- as the calls give them

-- the nodes of a path behind its beginning
abbrev pub nodes_of : List Edge → List Addr
nodes_of p = map (λ e. e.target) p

-- the paths from a node, each as the nodes behind it
abbrev pub routes : List Edge → Addr → List (List Addr)
routes edges a = map nodes_of (paths edges a)

abbrev pub path_at : ℕ → Node → Option Path
path_at client (Port n) =
    Some (record { filters = []; last = record { client = client; port = n } })
path_at client (Filter n) = None

-- with one filter more in front
abbrev pub past : Addr → Path → Path
past node p = record p { filters = node ∷ p.filters }

-- the filters that a path goes through, and the port where it ends
abbrev pub path_of : List Edge → Option Path
path_of [] = None
path_of (e ∷ []) = path_at e.target.client e.target.node
path_of (e ∷ f ∷ es) = option_map (past e.target) (path_of (f ∷ es))
