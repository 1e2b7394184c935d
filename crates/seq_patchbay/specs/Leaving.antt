-- Definition: What comes of the messages that leave a port.
use Rattle.std.specs.Prelude.{ℕ, List}
use Rattle.std.specs.List.{flat_map}
use Rattle.std.specs.Ordering.{nat_cmp}
use Rattle.std.specs.FinMap.{FinMap}
use Rattle.patch_graph.specs.declared.edge.Edge.{Edge}
use Rattle.seq_state.specs.State.{Client}
use Rattle.seq_state.specs.declared.log.Delivery.{Delivery}
use Rattle.seq_settle.specs.Sends.{copies_of}

-- the copies of messages that leave a port one after another
abbrev pub copies_of_all : FinMap nat_cmp Client → List Edge → ℕ → ℕ → ℕ → List (List ℕ) →
    List Delivery
copies_of_all clients edges moment client port messages =
    flat_map (copies_of clients edges moment client port) messages
