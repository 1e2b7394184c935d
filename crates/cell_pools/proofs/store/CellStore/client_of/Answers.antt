use Rattle.std.proofs.Common.{ap, sym, Some, ◌∙◌}
use Rattle.std.specs.Option.{option_map}
use Rattle.cell_pools.proofs.Keeping.{found}
use Rattle.cell_pools.proofs.store.CellStore.client_of.Goals as goal

pub returns-in-Some : goal.returns-in-Some
returns-in-Some g c = ap Some c.client.ensures ∙ sym (ap (option_map (λ v. v.0)) (found _ _ c.self.invariant _ c.self.view_is _ _ _ c.number.ensures (sym c.in-Some.ensures)))

pub returns-in-None : goal.returns-in-None
returns-in-None g c = sym (ap (option_map (λ v. v.0)) (found _ _ c.self.invariant _ c.self.view_is _ _ _ c.number.ensures (sym c.in-None.ensures)))
