-- As many playbacks as cells.
use Rattle.std.proofs.Common.{◌≡◌, ◌≢◌, ℕ, zero, suc, ◌+◌, ◌-◌, ◌<◌, cond, eqb, [], ◌∷◌, ◌++◌, length, Option, Some, None, refl, sym, ap, ◌∙◌, arith, append-nil, length-append}
use Rattle.std.specs.Prelude.{is_some}
use Rattle.std.proofs.Common.{◌⊎◌, inl, inr}
use Rattle.std.specs.List.{filter}
use Rattle.std.specs.Option.{option_to_list}
use Rattle.std.specs.Ordering.{nat_cmp}
use Rattle.std.specs.Cmp.{nat_cmp_total}
use Rattle.std.specs.FinMap
use Rattle.std.specs.FinMap.{FinMap}
use Rattle.std.proofs.lemmas.Option.{none-some, same_Some}
use Rattle.seq_state.specs.State.{OwnedPlayback, with_entry}
use Rattle.seq_settle.specs.Cells.{PlaybackCell, pending_in, at_rank, by_rank, playbacks, AreCells}
use Rattle.cell_pools.specs.Cells.{is_of, cells_of, used_by}
use Rattle.seq_settle.specs.Drops.{kept_cell}
use Rattle.seq_settle.proofs.Ranks.{at_rank-some, at_rank-here, ranked-agree}
use Rattle.seq_settle.proofs.Stores.{put-some, put_cells, at_rank-off}
use Rattle.seq_settle.proofs.Dropped.{kept_playbacks, kept_cells}

len_gone : (cells : FinMap nat_cmp PlaybackCell) (k : ℕ) (c : PlaybackCell) → FinMap.get cells k ≡ Some c → FinMap.len cells ≡ FinMap.len (FinMap.remove cells k) + 1
len_gone cells k c e =
    let less : FinMap.len (FinMap.remove cells k) ≡ FinMap.len cells - 1 = FinMap.len-remove nat_cmp_total cells k ∙ ap (λ b. cond b (FinMap.len cells - 1) (FinMap.len cells)) (ap is_some e) in
    let filled : FinMap.len cells ≢ 0 = λ z. none-some c (sym (FinMap.get-empty nat_cmp k) ∙ ap (λ m. FinMap.get m k) (sym (FinMap.empty_of_len cells z)) ∙ e) in
    omega arith

fewer_ranks : (cells : FinMap nat_cmp PlaybackCell) (n : ℕ) → AreCells cells (suc n) → ((q : ℕ) (c : PlaybackCell) → FinMap.get cells q ≡ Some c → c.1.rank ≡ n → ⊥) → AreCells cells n
fewer_ranks cells n are none = record {
  early = λ q c e. let l : c.1.rank < suc n = are.early q c e in let ne : c.1.rank ≢ n = none q c e in omega arith;
  apart = are.apart;
  filled = are.filled;
  ordered = are.ordered;
  queues = are.queues;
}

absent_here : (cells : FinMap nat_cmp PlaybackCell) → ((q : ℕ) (c : PlaybackCell) → FinMap.get cells q ≡ Some c → ⊥) → (q : ℕ) → FinMap.get cells q ≡ None
absent_here cells none q = go (FinMap.get cells q) refl
  where
    go : (o : Option PlaybackCell) → FinMap.get cells q ≡ o → o ≡ None
    go None e = refl
    go (Some c) e = absurd (none q c e)

pub as_many : (n : ℕ) (cells : FinMap nat_cmp PlaybackCell) → AreCells cells n → length (playbacks cells n) ≡ FinMap.len cells
unfolding by_rank
as_many zero cells are =
    let nothing : cells ≡ FinMap.empty = FinMap.same_map nat_cmp_total FinMap.nat_cmp-IsAntisymmetric cells FinMap.empty
    (λ q. absent_here cells (λ k c e. let l : c.1.rank < zero = are.early k c e in omega arith) q ∙ sym (FinMap.get-empty nat_cmp q)) in
    sym (ap FinMap.len nothing ∙ FinMap.len-empty nat_cmp PlaybackCell)
as_many (suc n) cells are = go (at_rank cells n) refl (as_many n)
  where
    go : (o : Option OwnedPlayback) → at_rank cells n ≡ o → ((cs : FinMap nat_cmp PlaybackCell) → AreCells cs n → length (playbacks cs n) ≡ FinMap.len cs) → length (playbacks cells n ++ option_to_list (at_rank cells n)) ≡ FinMap.len cells
    go None e more =
        let none : (q : ℕ) (c : PlaybackCell) → FinMap.get cells q ≡ Some c → c.1.rank ≡ n → ⊥ = λ q c f same. none-some (pending_in c) (sym e ∙ at_rank-here cells are.apart q c f n same) in
        ap (λ o. length (playbacks cells n ++ option_to_list o)) e ∙ ap length (append-nil (playbacks cells n)) ∙ more cells (fewer_ranks cells n are none)
    go (Some p) e more =
        let h = at_rank-some cells n p e in
        let k : ℕ = h.0 in
        let rest : FinMap nat_cmp PlaybackCell = with_entry cells k None in
        let whole : AreCells rest (suc n) = put_cells cells (suc n) (suc n) k None (omega arith) (λ d f. absurd (none-some d f)) are in
        let left : AreCells rest n = fewer_ranks rest n whole (λ q c f same. gone q c same (put-some cells k None q c f)) in
        let same : playbacks rest n ≡ playbacks cells n = ranked-agree (at_rank rest) (at_rank cells) n (λ r l. at_rank-off cells k None r are.apart whole.apart
        (λ c f g. let one : h.1 ≡ c = same_Some h.1 c (sym h.2 ∙ f) in let rank : h.1.1.rank ≡ r = ap (λ (x : PlaybackCell). x.1.rank) one ∙ g in let at : h.1.1.rank ≡ n = h.3 in omega arith) (λ d f g. none-some d f)) in
        let count : length (playbacks cells n) ≡ FinMap.len rest = ap length (sym same) ∙ more rest left in
        let all : FinMap.len cells ≡ FinMap.len rest + 1 = len_gone cells k h.1 h.2 in
        let last : length (playbacks cells n ++ option_to_list (at_rank cells n)) ≡ length (playbacks cells n) + 1 = ap (λ o. length (playbacks cells n ++ option_to_list o)) e ∙ length-append (playbacks cells n) (p ∷ []) in
        omega arith
      where
        gone : (q : ℕ) (c : PlaybackCell) → c.1.rank ≡ n → ((q ≡ (at_rank-some cells n p e).0) × (None ≡ Some c)) ⊎ ((q ≡ (at_rank-some cells n p e).0 → ⊥) × (FinMap.get cells q ≡ Some c)) → ⊥
        gone q c same (inl x) = none-some c x.1
        gone q c same (inr x) = let h = at_rank-some cells n p e in x.0 (are.apart q h.0 c h.1 x.1 h.2 (same ∙ sym h.3))

-- the cells of a client are as many as its playbacks
pub used_is : (cells : FinMap nat_cmp PlaybackCell) (n client : ℕ) → AreCells cells n → used_by cells client ≡ length (filter (λ p. eqb p.client client) (playbacks cells n))
used_is cells n client are = sym (as_many n (cells_of cells client) (kept_cells (λ p. eqb p.client client) cells (cells_of cells client) n are look)) ∙ ap length (kept_playbacks (λ p. eqb p.client client) cells (cells_of cells client) n are look)
  where
    kept : (o : Option PlaybackCell) → cond (is_of client o) o None ≡ kept_cell (λ p. eqb p.client client) o
    kept None = refl
    kept (Some c) = refl

    look : (q : ℕ) → FinMap.get (cells_of cells client) q ≡ kept_cell (λ p. eqb p.client client) (FinMap.get cells q)
    look q = FinMap.get-retain_keys cells (λ k. is_of client (FinMap.get cells k)) q (λ x t. ap (λ k. is_of client (FinMap.get cells k)) (sym (FinMap.nat_cmp-IsAntisymmetric q x t))) ∙ kept (FinMap.get cells q)
