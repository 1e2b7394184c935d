-- Representation: What is left after a `&mut` to a node's body was returned.
use Rattle.std.specs.Borrow.{Lends, Fml, RattleType, MutBor}
use Rattle.node_table.specs.Nodes.{NodeSeen, with_its_body}
use Rattle.node_table.specs.contracts.info.NodeInfo.{the_row}

-- once the borrow ends, the node has the last body written through it
abbrev pub LendsBody : (P : RattleType) → MutBor (NodeSeen P.Denot) → MutBor P.Denot → Fml
LendsBody P n r = Lends (the_row P) P n r (λ w. with_its_body w n.now)
