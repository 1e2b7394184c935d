-- Representation: The ways from a port, each with one rule for all the filters along it.
use Rattle.std.specs.Prelude.{◌≡◌, ℕ, ◌-◌, List, [], ◌∷◌, Some}
use Rattle.std.specs.Option.{option_to_list}
use Rattle.std.specs.List.{flat_map}
use Rattle.std.specs.Ordering.{nat_cmp}
use Rattle.std.specs.FinMap.{FinMap}
use Rattle.midi_wire.specs.Messages.{IsMessage}
use Rattle.node_table.specs.declared.number.Addr.{Addr}
use Rattle.patch_graph.specs.Cursor.{at_port}
use Rattle.patch_graph.specs.Paths.{hops}
use Rattle.patch_graph.specs.declared.edge.Edge.{Edge}
use Rattle.route_filter.specs.Passing.{rule_output}
use Rattle.seq_state.specs.Copies.{copy}
use Rattle.seq_state.specs.State.{Client}
use Rattle.seq_state.specs.declared.log.Delivery.{Delivery}
use Rattle.seq_sending.specs.Carrying.{let_through, of_some, copies_to, copies_onward}
use Rattle.seq_sending.specs.declared.ways.Branch.{Branch}
use Rattle.seq_sending.specs.declared.ways.Way.{Way}
use Rattle.seq_sending.specs.declared.ways.Way.TheVariants.{Straight, Filtered, Parted, Parting, Nowhere}

-- the copy of a message that goes a branch, if there is one
abbrev pub copies_by_branch : ℕ → List ℕ → Branch → List Delivery
copies_by_branch moment message branch =
    option_to_list (copy moment (at_port branch.end) (let_through branch.rule message))

-- the copies of a message that goes all these branches
abbrev pub copies_by_branches : ℕ → List ℕ → List Branch → List Delivery
copies_by_branches moment message branches = flat_map (copies_by_branch moment message) branches

-- the copies of a message that goes a way
abbrev pub copies_on : FinMap nat_cmp Client → List Edge → ℕ → List ℕ → Way → List Delivery
copies_on clients edges moment message (Straight end) =
    option_to_list (copy moment (at_port end) (Some message))
copies_on clients edges moment message (Filtered rule end) =
    option_to_list (copy moment (at_port end) (rule_output rule message))
copies_on clients edges moment message (Parted rule branches) =
    of_some (λ _. copies_by_branches moment message branches.items) (let_through rule message)
copies_on clients edges moment message (Parting node) =
    copies_to clients edges moment (hops - 1) node message
copies_on clients edges moment message Nowhere = []

-- the copies of a message that goes all these ways
abbrev pub copies_along : FinMap nat_cmp Client → List Edge → ℕ → List Way → List ℕ → List Delivery
copies_along clients edges moment ways message =
    flat_map (copies_on clients edges moment message) ways

-- the copies of messages that go one after another to the nodes behind a port
abbrev pub spread_all : FinMap nat_cmp Client → List Edge → ℕ → List Addr → List (List ℕ)
    → List Delivery
spread_all clients edges moment targets messages =
    flat_map (copies_onward clients edges moment hops targets) messages

-- the way to the first node behind a port: each message comes to the same by it
abbrev pub IsWay : FinMap nat_cmp Client → List Edge → Addr → Way → Type 0
IsWay clients edges node way =
    (moment : ℕ) (message : List ℕ) → IsMessage message →
    copies_on clients edges moment message way
    ≡ copies_to clients edges moment (hops - 1) node message

-- where a way parts, it parts at or behind the node that it leads to first
abbrev pub PartsFrom : Addr → Way → Type 0
PartsFrom node (Parting from) = from ≡ node
PartsFrom node way = Unit {0}

-- each of the ways is that to its node, of as many nodes
abbrev pub AreWaysTo : FinMap nat_cmp Client → List Edge → List Addr → List Way → Type 0
AreWaysTo clients edges [] [] = Unit {0}
AreWaysTo clients edges [] (way ∷ ways) = ⊥
AreWaysTo clients edges (node ∷ nodes) [] = ⊥
AreWaysTo clients edges (node ∷ nodes) (way ∷ ways) =
    (IsWay clients edges node way × PartsFrom node way) × AreWaysTo clients edges nodes ways

-- all that is sent to the nodes that a port is joined to comes by these ways
abbrev pub AreWays : FinMap nat_cmp Client → List Edge → List Addr → List Way → Type 0
AreWays clients edges targets ways =
    (moment : ℕ) (message : List ℕ) → IsMessage message →
    copies_along clients edges moment ways message
    ≡ copies_onward clients edges moment hops targets message
