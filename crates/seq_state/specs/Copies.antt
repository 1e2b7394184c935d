-- Definition: The copies of a message that leaves a port.
use Rattle.std.specs.Prelude.{ℕ, List, [], ◌∷◌, Option, Some, None}
use Rattle.std.specs.Option.{option_and_then}
use Rattle.std.specs.List.{filter_map}
use Rattle.std.specs.Ordering.{nat_cmp}
use Rattle.std.specs.FinMap
use Rattle.std.specs.FinMap.{FinMap}
use Rattle.route_filter.specs.Passing.{rule_output}
use Rattle.node_table.specs.declared.number.Addr.{Addr}
use Rattle.node_table.specs.declared.number.Node.{Node}
use Rattle.node_table.specs.declared.number.Node.TheVariants.{Port, Filter}
use Rattle.patch_graph.specs.declared.edge.Edge.{Edge}
use Rattle.patch_graph.specs.Paths.{paths, end_of}
use Rattle.seq_state.specs.declared.log.Delivery.{Delivery}
use Rattle.seq_state.specs.State.{Client, FilterInfo, filters_of, State}

-- the filter at a node, if one is there
abbrev pub filter_at : FinMap nat_cmp Client → ℕ → Node → Option FilterInfo
filter_at clients c (Port n) = None
filter_at clients c (Filter n) = FinMap.get (filters_of (FinMap.get clients c)) n

-- what a node passes on of a message: a filter by its rule, and a port all
abbrev pub passed_by : Option FilterInfo → List ℕ → Option (List ℕ)
passed_by None message = Some message
passed_by (Some f) message = rule_output f.rule message

-- what a path carries to its end
abbrev pub copy_on_path : FinMap nat_cmp Client → List Edge → List ℕ → Option (List ℕ)
copy_on_path clients [] message = Some message
copy_on_path clients (e ∷ es) message =
    option_and_then (copy_on_path clients es)
    (passed_by (filter_at clients e.target.client e.target.node) message)

-- a message at a port
abbrev pub delivery : ℕ → ℕ → Node → List ℕ → Option Delivery
delivery moment client (Port port) message = Some
    (record {
      moment = moment;
      target = record { client = client; port = port };
      message = message;
    })
delivery moment client (Filter n) message = None

abbrev pub copy : ℕ → Addr → Option (List ℕ) → Option Delivery
copy moment target None = None
copy moment target (Some message) = delivery moment target.client target.node message

-- a copy for each path from the source, the oldest first, whose filters all let the message pass
abbrev pub copies : State → ℕ → Addr → List ℕ → List Delivery
copies s moment source message = filter_map
    (λ p. copy moment (end_of source p) (copy_on_path s.clients p message)) (paths s.edges source)
