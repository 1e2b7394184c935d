-- What a change of one client leaves as it was.
use Rattle.std.proofs.Common.{◌≡◌, ℕ, Bool, true, false, eqb, cond, List, Option, refl, sym, ap, ◌∙◌}
use Rattle.std.specs.Ordering.{nat_cmp}
use Rattle.std.specs.FinMap
use Rattle.std.specs.FinMap.{FinMap}
use Rattle.std.proofs.lemmas.Bool.{eqb-true}
use Rattle.patch_graph.specs.declared.edge.Edge.{Edge}
use Rattle.seq_state.specs.State.{Client, filters_of, with_entry}
use Rattle.seq_state.proofs.Effects.{get-put}
use Rattle.seq_sending.specs.Changes.{AgreeBut}

-- ---- one client's entry

pub but-client : (was now : FinMap nat_cmp Client) (edges : List Edge) (client : ℕ) (o : Option Client) → now ≡ with_entry was client o → AgreeBut client was now edges edges
but-client was now edges client o is = record {
  filters = λ c apart. sym (ap (λ cs. filters_of (FinMap.get cs c)) is ∙ ap filters_of (get-put was client o c) ∙ ap filters_of (go c (eqb c client) refl apart));
  targets = λ a apart. refl;
}
  where
    go : (c : ℕ) (b : Bool) → eqb c client ≡ b → (c ≡ client → ⊥) → cond b o (FinMap.get was c) ≡ FinMap.get was c
    go c true e apart = absurd (apart (eqb-true c client e))
    go c false e apart = refl
