-- Representation: What comes to nothing, since no copy finds room.
use Rattle.std.specs.Prelude.{◌≡◌, ℕ, List, [], Some, slice_get}
use Rattle.std.specs.Ordering.{nat_cmp}
use Rattle.std.specs.FinMap.{FinMap}
use Rattle.node_table.specs.declared.number.Addr.{Addr}
use Rattle.patch_graph.specs.declared.edge.Edge.{Edge}
use Rattle.seq_state.specs.State.{Client, ClientPool}
use Rattle.seq_state.specs.Step.{copies_with_room}
use Rattle.seq_sending.specs.Carrying.{copies_to}
use Rattle.seq_sending.specs.declared.barren.Mark.{Mark}

-- no copy of a message that comes to a node, and along at most n edges behind it, finds room
abbrev pub IsBarren : FinMap nat_cmp Client → List Edge → ℕ → FinMap nat_cmp ClientPool → ℕ → Addr
    → List ℕ → Type 0
IsBarren clients edges moment pools n node message =
    copies_with_room pools (copies_to clients edges moment n node message) ≡ []

-- all marks are true
abbrev pub AreBarren : {M : Type 0} → (M → List ℕ) → FinMap nat_cmp Client → List Edge → ℕ
    → FinMap nat_cmp ClientPool → List (Mark M) → Type 0
AreBarren {M} bytes clients edges moment pools marks =
    (i : ℕ) (k : Mark M) → slice_get marks i ≡ Some k →
    IsBarren clients edges moment pools k.hops k.node (bytes k.message)
