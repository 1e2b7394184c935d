-- A sequencer in which nobody is open.
use Rattle.std.proofs.Common.{◌≡◌, ℕ, List, [], Some, None, sym, ap, ◌∙◌}
use Rattle.std.specs.Ordering.{nat_cmp}
use Rattle.std.specs.FinMap
use Rattle.std.specs.FinMap.{FinMap}
use Rattle.patch_graph.specs.declared.edge.Edge.{Edge}
use Rattle.seq_state.specs.State.{start}
use Rattle.seq_settle.specs.Cells.{PlaybackCell, by_rank, seen_state, AreCells}
use Rattle.seq_clients.specs.Roster.{Roster, nobody}

none_some : {X : Type 0} (x : X) → None ≡ Some x → ⊥
none_some x e = cc

pub no-cells : (cells : FinMap nat_cmp PlaybackCell) (n : ℕ) → cells ≡ FinMap.empty → AreCells cells n
no-cells cells n e =
    let none : (q : ℕ) (c : PlaybackCell) → FinMap.get cells q ≡ Some c → ⊥ = λ q c f. none_some c (sym (FinMap.get-empty nat_cmp q) ∙ ap (λ m. FinMap.get m q) (sym e) ∙ f) in
    record {
      early = λ q c f. absurd (none q c f);
      apart = λ q r c d f g s. absurd (none q c f);
      filled = λ q c f. absurd (none q c f);
      ordered = λ q c f. absurd (none q c f);
      queues = λ q c f. absurd (none q c f);
    }

pub seen-start : (r : Roster) (edges : List Edge) (cells : FinMap nat_cmp PlaybackCell) → r ≡ nobody → edges ≡ [] → seen_state r.clients r.pools edges cells 0 ≡ start
unfolding by_rank
seen-start r edges cells e f = ap (λ x. seen_state x.clients x.pools edges cells 0) e ∙ ap (λ x. seen_state nobody.clients nobody.pools x cells 0) f
