use Rattle.std.proofs.Common.{None, inl, inr, arith}
use Rattle.std.proofs.lemmas.Grind.{common_steps}
use Rattle.std.proofs.lemmas.Bool.Decides.{leb_tells}
use Rattle.std.proofs.lemmas.List.{get_or_past}
use Rattle.node_table.proofs.slots.nothing.Goals as goal

pub returns-clause-none : goal.returns-clause-none
returns-clause-none g c = λ i. elim (leb_tells g.row.N i) [
  | inl past ↦ get_or_past c.from_fn.result i None (omega (arith, past.1, c.from_fn.ensures.items.long))
  | inr within ↦ let call = (c.from_fn.ensures.items.at i None within.1).2 in grind (arith, common_steps)
]
