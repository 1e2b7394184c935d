-- Definition: How many copies of a message are for a client.
use Rattle.std.specs.Prelude.{ℕ, zero, suc, ◌+◌, ◌*◌, ◌==◌, if◌then◌else◌, List, Option, Some, None, sum_by, slice_index}
use Rattle.std.specs.Ordering.{nat_cmp}
use Rattle.std.specs.FinMap.{FinMap}
use Rattle.node_table.specs.Addresses.{is_filter}
use Rattle.node_table.specs.declared.number.Addr.{Addr}
use Rattle.patch_graph.specs.declared.edge.Edge.{Edge}
use Rattle.patch_graph.specs.Index.{targets_of}
use Rattle.seq_state.specs.State.{Client}
use Rattle.seq_state.specs.Copies.{filter_at, passed_by}
use Rattle.seq_sending.specs.declared.front.Entry.{Entry}

-- what comes of a message, if there is one
abbrev pub ways_of : (List ℕ → ℕ) → Option (List ℕ) → ℕ
ways_of f None = 0
ways_of f (Some message) = f message

-- how many copies for a client come of a message behind a node
abbrev pub ways_past : FinMap nat_cmp Client → List Edge → (List Addr → List ℕ → ℕ) → Addr → List ℕ
    → ℕ
ways_past clients edges behind node message =
    ways_of (behind (targets_of edges node))
    (passed_by (filter_at clients node.client node.node) message)

-- at the node: one at a port of the client, and at a filter those behind it
abbrev pub ways_at : ℕ → (Addr → List ℕ → ℕ) → List ℕ → Addr → ℕ
ways_at c past message node =
    if is_filter node then past node message else (if node.client == c then 1 else 0)

-- how many copies for a client come of a message that goes to nodes, along at most n edges
unfoldable pub ways_for : FinMap nat_cmp Client → List Edge → ℕ → ℕ → List Addr → List ℕ → ℕ
ways_for clients edges c zero targets message = 0
ways_for clients edges c (suc n) targets message =
    sum_by (ways_at c (ways_past clients edges (λ ts m. ways_for clients edges c n ts m)) message)
    targets

-- behind a node, along at most n edges
abbrev pub ways_behind : FinMap nat_cmp Client → List Edge → ℕ → ℕ → Addr → List ℕ → ℕ
ways_behind clients edges c n node message =
    ways_past clients edges (λ ts m. ways_for clients edges c n ts m) node message

-- what comes of the entries of a front by f, each as often as there are ways to it
abbrev pub ways_in : {M : Type 0} → (M → List ℕ) → (Addr → List ℕ → ℕ) → List (Entry M) → ℕ
ways_in bytes f entries = sum_by (λ e. e.ways * f e.node (bytes e.message)) entries

-- the copies of a row that are counted, and those that come of a front by f
abbrev pub ways_known : {M : Type 0} → (M → List ℕ) → (Addr → List ℕ → ℕ) → ℕ → List ℕ
    → List (Entry M) → ℕ
ways_known bytes f row counts entries = slice_index counts row + ways_in bytes f entries
