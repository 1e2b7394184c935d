use Rattle.std.proofs.Common.{◌∙◌, ap, sym, subst, get_or, refl, Some, None}
use Rattle.std.specs.Prelude.{IsSome}
use Rattle.std.specs.Option.{option_map}
use Rattle.node_table.proofs.Tables.{there, written_one, key_there}
use Rattle.node_table.proofs.table.NodeTable.body_there.Goals as goal

pub unwrap-key-requires : goal.unwrap-key-requires
unwrap-key-requires g c = subst IsSome (sym (c.key_at.ensures ∙ ap (λ ks. get_or ks c.place_of.result None) c.deref.ensures.value)) (key_there _ _ _ _ _ c.self.invariant c.self.view_is _ _ _ c.place_of.ensures.place.1 c.requires)

pub returns : goal.returns
returns g c = (
  (refl, λ w. written_one _ _ _ _ _ c.self.invariant c.self.view_is _ _ _ c.place_of.ensures.place.1 _ _ w (sym (c.key_at.ensures ∙ ap (λ ks. get_or ks c.place_of.result None) c.deref.ensures.value) ∙ c.unwrap-key.ensures) c.index_mut.ensures.value),
  record {
    writes_back = tt;
    value = ap (option_map (λ n. n.body)) (there _ _ _ _ _ c.self.invariant c.self.view_is _ _ _ c.place_of.ensures.place.1 _ (sym (c.key_at.ensures ∙ ap (λ ks. get_or ks c.place_of.result None) c.deref.ensures.value) ∙ c.unwrap-key.ensures) ∙ c.index_mut.ensures.value) ∙ ap Some (sym c.body_mut.ensures.value);
  },
)
