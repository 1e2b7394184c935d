-- Representation: What is left after a `&mut` to the body of a table's node was returned.
use Rattle.std.specs.Prelude.{Option}
use Rattle.std.specs.Borrow.{Lends, LendsIf, Fml, RattleType, MutBor}
use Rattle.std.specs.Ordering.{nat_cmp}
use Rattle.std.specs.FinMap.{FinMap}
use Rattle.node_table.specs.Nodes.{ClientNodes, with_body}
use Rattle.node_table.specs.declared.number.Addr.{Addr}
use Rattle.node_table.specs.contracts.table.NodeTable.{the_row}

-- once the borrow ends, the node at the address has the last body written through it
abbrev pub LendsThere : (P : RattleType) → MutBor (FinMap nat_cmp (ClientNodes P.Denot)) → Addr
    → MutBor P.Denot → Fml
LendsThere P t addr r = Lends (the_row P) P t r (with_body t.now addr)

-- the same where r is a reference, and at `None` the table stays as it is
abbrev pub LendsIfThere : (P : RattleType) → MutBor (FinMap nat_cmp (ClientNodes P.Denot)) → Addr
    → Option (MutBor P.Denot) → Fml
LendsIfThere P t addr r = LendsIf (the_row P) P t r (with_body t.now addr) t.now
