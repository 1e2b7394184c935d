-- Representation: What comes of a message that goes on to nodes.
use Rattle.std.specs.Prelude.{ℕ, zero, suc, if◌then◌else◌, List, [], Option, Some, None}
use Rattle.std.specs.Option.{option_to_list}
use Rattle.std.specs.List.{flat_map}
use Rattle.std.specs.Ordering.{nat_cmp}
use Rattle.std.specs.FinMap.{FinMap}
use Rattle.node_table.specs.Addresses.{is_filter}
use Rattle.node_table.specs.declared.number.Addr.{Addr}
use Rattle.patch_graph.specs.declared.edge.Edge.{Edge}
use Rattle.patch_graph.specs.Index.{targets_of}
use Rattle.route_filter.specs.Passing.{rule_output}
use Rattle.route_filter.specs.declared.rule_args.RuleArgs.{RuleArgs}
use Rattle.seq_state.specs.declared.log.Delivery.{Delivery}
use Rattle.seq_state.specs.State.{Client}
use Rattle.seq_state.specs.Copies.{filter_at, passed_by, copy}

-- what a rule lets through of a message, and all where there is no rule
abbrev pub let_through : Option RuleArgs → List ℕ → Option (List ℕ)
let_through None message = Some message
let_through (Some rule) message = rule_output rule message

-- what comes of a message, if there is one
abbrev pub of_some : (List ℕ → List Delivery) → Option (List ℕ) → List Delivery
of_some copies None = []
of_some copies (Some message) = copies message

-- the copies of a message that goes to a node: one at a port, and those behind a filter of what
-- that lets through
abbrev pub copies_by : FinMap nat_cmp Client → List Edge → ℕ → (List Addr → List ℕ → List Delivery)
    → List ℕ → Addr →
    List Delivery
copies_by clients edges moment behind message node =
    if is_filter node
    then of_some (behind (targets_of edges node))
    (passed_by (filter_at clients node.client node.node) message)
    else option_to_list (copy moment node (Some message))

-- the copies of a message that goes to nodes, along at most n edges
unfoldable pub copies_onward : FinMap nat_cmp Client → List Edge → ℕ → ℕ → List Addr → List ℕ
    → List Delivery
copies_onward clients edges moment zero targets message = []
copies_onward clients edges moment (suc n) targets message =
    flat_map (copies_by clients edges moment
    (λ ts m. copies_onward clients edges moment n ts m) message)
    targets

-- the copies of a message that goes to a node, and along at most n edges behind it
abbrev pub copies_to : FinMap nat_cmp Client → List Edge → ℕ → ℕ → Addr → List ℕ → List Delivery
copies_to clients edges moment n node message =
    copies_by clients edges moment (λ ts m. copies_onward clients edges moment n ts m) message node
