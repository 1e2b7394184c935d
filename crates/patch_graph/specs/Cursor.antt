-- Representation: Routes, found one after another.
use Rattle.std.specs.Prelude.{◌≡◌, ◌≤◌, ℕ, zero, suc, ◌-◌, Bool, true, false, not, ◌&&◌, if◌then◌else◌, List, [], ◌∷◌, ◌++◌, map, take, length, slice_index_or, Option, None}
use Rattle.std.specs.Option.{option_map}
use Rattle.std.specs.List.{flat_map, list_all}
use Rattle.node_table.specs.Addresses.{is_filter}
use Rattle.node_table.specs.declared.number.Addr.{Addr}
use Rattle.node_table.specs.declared.number.PortAddr.{PortAddr}
use Rattle.node_table.specs.declared.number.Node.TheVariants.{Port}
use Rattle.patch_graph.specs.declared.edge.Edge.{Edge}
use Rattle.patch_graph.specs.declared.path.Path.{Path}
use Rattle.patch_graph.specs.declared.route.TheConstants.{HOPS}
use Rattle.patch_graph.specs.Paths.{hops, path_at, past}
use Rattle.patch_graph.specs.Index.{targets_of}

-- filters, and then a port
abbrev pub is_route : List Addr → Bool
is_route [] = false
is_route (a ∷ []) = not (is_filter a)
is_route (a ∷ b ∷ bs) = is_filter a && is_route (b ∷ bs)

abbrev pub at_port : PortAddr → Addr
at_port p = record { client = p.client; node = Port p.port }

-- the path with these nodes behind its beginning
abbrev pub path_from : List Addr → Option Path
path_from [] = None
path_from (a ∷ []) = path_at a.client a.node
path_from (a ∷ b ∷ bs) = option_map (past a) (path_from (b ∷ bs))

-- the routes of at most n nodes that begin at one of these
unfoldable pub tails : ℕ → List Edge → List Addr → List (List Addr)
tails zero edges ts = []
tails (suc n) edges ts = flat_map
    (λ t. if is_filter t then map (λ r. t ∷ r) (tails n edges (targets_of edges t))
    else (t ∷ []) ∷ []) ts

-- with the filters `nodes` gone through and, at each depth, these targets left: the routes that are
-- still to come, the deepest first
unfoldable pub coming : List Edge → List Addr → List (List Addr) → ℕ → List (List Addr)
coming edges nodes left zero = []
coming edges nodes left (suc depth) = map (λ r. take depth nodes ++ r)
    (tails (hops - depth) edges (slice_index_or left depth [])) ++ coming edges nodes left depth

pub record IsCursor (nodes : List Addr) (left : List (List Addr)) (depth : ℕ) : Type 0 where
  pub node_places : length nodes ≡ HOPS
  pub left_places : length left ≡ HOPS
  pub below : depth ≤ HOPS
  pub filters : list_all is_filter (take (depth - 1) nodes) ≡ true
