use Rattle.std.proofs.Common.{ap, sym, inl, inr, Some, ◌∙◌}
use Rattle.std.specs.Option.{option_map}
use Rattle.cell_pools.proofs.Keeping.{found, set-kept, set-seen}
use Rattle.cell_pools.proofs.store.CellStore.get_mut.Goals as goal

pub invariant_of-self-lent : goal.invariant_of-self-lent
invariant_of-self-lent g c = λ w. set-kept _ _ c.self.invariant _ c.self.view_is _ _ _ c.number.ensures (sym c.in-Some.ensures.value) w

pub returns-in-Some : goal.returns-in-Some
returns-in-Some g c = (
  λ i. inl (c.value_mut.result.ghost_name, λ w. set-seen _ _ c.self.invariant _ c.self.view_is _ _ _ c.number.ensures (sym c.in-Some.ensures.value) w i),
  record {
    writes_back = tt;
    value = ap Some c.value_mut.ensures.value ∙ sym (ap (option_map (λ v. v.1)) (found _ _ c.self.invariant _ c.self.view_is _ _ _ c.number.ensures (sym c.in-Some.ensures.value)));
  },
)

pub returns-in-None : goal.returns-in-None
returns-in-None g c = (
  ap inr c.self.view_is,
  record {
    writes_back = tt;
    value = sym (ap (option_map (λ v. v.1)) (found _ _ c.self.invariant _ c.self.view_is _ _ _ c.number.ensures (sym c.in-None.ensures.value)));
  },
)
