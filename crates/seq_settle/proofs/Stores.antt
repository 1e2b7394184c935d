-- A store of cells of which one changes.
use Rattle.std.proofs.Common.{◌≡◌, ℕ, ◌+◌, ◌≤◌, ◌<◌, Bool, true, false, cond, eqb, ◌⊎◌, inl, inr, [], ◌∷◌, ◌++◌, Option, Some, None, refl, sym, ap, subst, ◌∙◌, arith, append-nil, eq-eqb, add-one}
use Rattle.std.specs.Option.{option_to_list}
use Rattle.std.specs.Ordering.{nat_cmp}
use Rattle.std.specs.Cmp.{nat_cmp_total}
use Rattle.std.specs.FinMap
use Rattle.std.specs.FinMap.{FinMap}
use Rattle.std.proofs.lemmas.Bool.{false≢true, eqb-true, ne_eqb}
use Rattle.std.proofs.lemmas.Option.{none-some}
use Rattle.seq_state.specs.State.{OwnedPlayback, with_entry}
use Rattle.seq_state.specs.Step.{is_left}
use Rattle.seq_state.proofs.Effects.{get-put}
use Rattle.seq_settle.specs.Cells.{PlaybackCell, pending_in, at_rank, by_rank, playbacks, are_in_order, AreCells, IsQueue}
use Rattle.seq_settle.proofs.Ranks.{AreApart, at_rank-here, at_rank-some, at_rank-none, ranked-agree, ranked_from, ranked_from-agree, ranked-split}

-- what stands in a map of which one key changed
pub put-some : {X : Type 0} (m : FinMap nat_cmp X) (k : ℕ) (o : Option X) (q : ℕ) (x : X) → FinMap.get (with_entry m k o) q ≡ Some x → ((q ≡ k) × (o ≡ Some x)) ⊎ ((q ≡ k → ⊥) × (FinMap.get m q ≡ Some x))
put-some {X = X} m k o q x e = go (eqb q k) refl (sym (get-put m k o q) ∙ e)
  where
    go : (b : Bool) → eqb q k ≡ b → cond b o (FinMap.get m q) ≡ Some x → ((q ≡ k) × (o ≡ Some x)) ⊎ ((q ≡ k → ⊥) × (FinMap.get m q ≡ Some x))
    go true t f = inl (eqb-true q k t, f)
    go false t f = inr (λ same. false≢true (sym t ∙ eq-eqb q k same), f)

pub get-put_here : {X : Type 0} (m : FinMap nat_cmp X) (k : ℕ) (o : Option X) → FinMap.get (with_entry m k o) k ≡ o
get-put_here m k o = get-put m k o k ∙ ap (λ b. cond b o (FinMap.get m k)) (eq-eqb k k refl)

pub get-put_other : {X : Type 0} (m : FinMap nat_cmp X) (k : ℕ) (o : Option X) (q : ℕ) → (q ≡ k → ⊥) → FinMap.get (with_entry m k o) q ≡ FinMap.get m q
get-put_other m k o q n = get-put m k o q ∙ ap (λ b. cond b o (FinMap.get m q)) (ne_eqb q k n)

-- what went before is of no matter
pub put-put : {X : Type 0} (m : FinMap nat_cmp X) (k : ℕ) (p o : Option X) → with_entry (with_entry m k p) k o ≡ with_entry m k o
put-put m k p o = FinMap.same_map nat_cmp_total FinMap.nat_cmp-IsAntisymmetric (with_entry (with_entry m k p) k o) (with_entry m k o) (λ q.
    get-put (with_entry m k p) k o q ∙ ap (cond (eqb q k) o) (get-put m k p q) ∙ go q (eqb q k) ∙ sym (get-put m k o q))
  where
    go : (q : ℕ) (b : Bool) → cond b o (cond b p (FinMap.get m q)) ≡ cond b o (FinMap.get m q)
    go q true = refl
    go q false = refl

-- a cell that may stand at a key
pub record Fits (cells : FinMap nat_cmp PlaybackCell) (k n : ℕ) (d : PlaybackCell) : Type 0 where
  pub early : d.1.rank < n
  pub alone : (q : ℕ) (c : PlaybackCell) → FinMap.get cells q ≡ Some c → c.1.rank ≡ d.1.rank → q ≡ k
  pub filled : is_left (pending_in d) ≡ true
  pub ordered : are_in_order d.1.events ≡ true
  pub queue : IsQueue d.1.queue

pub put_cells : (cells : FinMap nat_cmp PlaybackCell) (n m k : ℕ) (o : Option PlaybackCell) → n ≤ m → ((d : PlaybackCell) → o ≡ Some d → Fits cells k m d) → AreCells cells n → AreCells (with_entry cells k o) m
put_cells cells n m k o l fit are = record {
  early = λ q c e. early q c (put-some cells k o q c e);
  apart = λ q r c d e f same. apart q r c d (put-some cells k o q c e) (put-some cells k o r d f) same;
  filled = λ q c e. filled q c (put-some cells k o q c e);
  ordered = λ q c e. ordered q c (put-some cells k o q c e);
  queues = λ q c e. queue q c (put-some cells k o q c e);
}
  where
    Case : ℕ → PlaybackCell → Type 0
    Case q c = ((q ≡ k) × (o ≡ Some c)) ⊎ ((q ≡ k → ⊥) × (FinMap.get cells q ≡ Some c))

    early : (q : ℕ) (c : PlaybackCell) → ((q ≡ k) × (o ≡ Some c)) ⊎ ((q ≡ k → ⊥) × (FinMap.get cells q ≡ Some c)) → c.1.rank < m
    early q c (inl h) = (fit c h.1).early
    early q c (inr h) = let small : c.1.rank < n = are.early q c h.1 in omega arith

    filled : (q : ℕ) (c : PlaybackCell) → ((q ≡ k) × (o ≡ Some c)) ⊎ ((q ≡ k → ⊥) × (FinMap.get cells q ≡ Some c)) → is_left (pending_in c) ≡ true
    filled q c (inl h) = (fit c h.1).filled
    filled q c (inr h) = are.filled q c h.1

    ordered : (q : ℕ) (c : PlaybackCell) → ((q ≡ k) × (o ≡ Some c)) ⊎ ((q ≡ k → ⊥) × (FinMap.get cells q ≡ Some c)) → are_in_order c.1.events ≡ true
    ordered q c (inl h) = (fit c h.1).ordered
    ordered q c (inr h) = are.ordered q c h.1

    queue : (q : ℕ) (c : PlaybackCell) → ((q ≡ k) × (o ≡ Some c)) ⊎ ((q ≡ k → ⊥) × (FinMap.get cells q ≡ Some c)) → IsQueue c.1.queue
    queue q c (inl h) = (fit c h.1).queue
    queue q c (inr h) = are.queues q c h.1

    apart : (q r : ℕ) (c d : PlaybackCell) → ((q ≡ k) × (o ≡ Some c)) ⊎ ((q ≡ k → ⊥) × (FinMap.get cells q ≡ Some c)) → ((r ≡ k) × (o ≡ Some d)) ⊎ ((r ≡ k → ⊥) × (FinMap.get cells r ≡ Some d)) → c.1.rank ≡ d.1.rank → q ≡ r
    apart q r c d (inl h) (inl i) same = h.0 ∙ sym i.0
    apart q r c d (inl h) (inr i) same = h.0 ∙ sym ((fit c h.1).alone r d i.1 (sym same))
    apart q r c d (inr h) (inl i) same = (fit d i.1).alone q c h.1 same ∙ sym i.0
    apart q r c d (inr h) (inr i) same = are.apart q r c d h.1 i.1 same

-- two stores that have the same cell of a rank
pub at_rank-agree : (cells others : FinMap nat_cmp PlaybackCell) (r : ℕ) → AreApart cells → AreApart others →
    ((q : ℕ) (c : PlaybackCell) → c.1.rank ≡ r → FinMap.get cells q ≡ Some c → FinMap.get others q ≡ Some c) → ((q : ℕ) (c : PlaybackCell) → c.1.rank ≡ r → FinMap.get others q ≡ Some c → FinMap.get cells q ≡ Some c) → at_rank cells r ≡ at_rank others r
at_rank-agree cells others r a b to back = go (at_rank cells r) refl
  where
    go : (o : Option OwnedPlayback) → at_rank cells r ≡ o → o ≡ at_rank others r
    go (Some p) e = let h = at_rank-some cells r p e in sym (at_rank-here others b h.0 h.1 (to h.0 h.1 h.3 h.2) r h.3 ∙ ap (λ x. Some x) h.4)
    go None e = sym (at_rank-none others r (λ q c f same. none-some (pending_in c) (sym e ∙ at_rank-here cells a q c (back q c same f) r same)))

-- the ranks that neither the old nor the new cell of the key has
pub at_rank-off : (cells : FinMap nat_cmp PlaybackCell) (k : ℕ) (o : Option PlaybackCell) (r : ℕ) → AreApart cells → AreApart (with_entry cells k o) →
    ((c : PlaybackCell) → FinMap.get cells k ≡ Some c → c.1.rank ≡ r → ⊥) → ((d : PlaybackCell) → o ≡ Some d → d.1.rank ≡ r → ⊥) → at_rank (with_entry cells k o) r ≡ at_rank cells r
at_rank-off cells k o r a b old new = at_rank-agree (with_entry cells k o) cells r b a to back
  where
    to : (q : ℕ) (c : PlaybackCell) → c.1.rank ≡ r → FinMap.get (with_entry cells k o) q ≡ Some c → FinMap.get cells q ≡ Some c
    to q c same e = go (put-some cells k o q c e)
      where
        go : ((q ≡ k) × (o ≡ Some c)) ⊎ ((q ≡ k → ⊥) × (FinMap.get cells q ≡ Some c)) → FinMap.get cells q ≡ Some c
        go (inl h) = absurd (new c h.1 same)
        go (inr h) = h.1

    back : (q : ℕ) (c : PlaybackCell) → c.1.rank ≡ r → FinMap.get cells q ≡ Some c → FinMap.get (with_entry cells k o) q ≡ Some c
    back q c same e = get-put_other cells k o q (λ at. old c (subst (λ j. FinMap.get cells j ≡ Some c) at e) same) ∙ e

abbrev pub pending_of_cell : Option PlaybackCell → Option OwnedPlayback
pending_of_cell None = None
pending_of_cell (Some c) = Some (pending_in c)

-- one cell changes, or goes
pub playbacks-changed : (cells : FinMap nat_cmp PlaybackCell) (n k : ℕ) (c : PlaybackCell) (o : Option PlaybackCell) → AreCells cells n → AreCells (with_entry cells k o) n → FinMap.get cells k ≡ Some c → ((d : PlaybackCell) → o ≡ Some d → d.1.rank ≡ c.1.rank) →
    playbacks (with_entry cells k o) n ≡ by_rank (at_rank cells) c.1.rank ++ (option_to_list (pending_of_cell o) ++ ranked_from (at_rank cells) c.1.rank n)
playbacks-changed cells n k c o a b here same =
    ranked-split (at_rank (with_entry cells k o)) c.1.rank n (a.early k c here)
    ∙ ap (λ xs. xs ++ (option_to_list (at_rank (with_entry cells k o) c.1.rank) ++ ranked_from (at_rank (with_entry cells k o)) c.1.rank n)) (ranked-agree (at_rank (with_entry cells k o)) (at_rank cells) c.1.rank (λ r l. off r (λ e. omega arith)))
    ∙ ap (λ xs. by_rank (at_rank cells) c.1.rank ++ (option_to_list (at_rank (with_entry cells k o) c.1.rank) ++ xs)) (ranked_from-agree (at_rank (with_entry cells k o)) (at_rank cells) c.1.rank n off)
    ∙ ap (λ x. by_rank (at_rank cells) c.1.rank ++ (option_to_list x ++ ranked_from (at_rank cells) c.1.rank n)) (at o refl)
  where
    off : (r : ℕ) → (r ≡ c.1.rank → ⊥) → at_rank (with_entry cells k o) r ≡ at_rank cells r
    off r n = at_rank-off cells k o r a.apart b.apart
        (λ d e f. n (sym f ∙ ap (λ (x : Option PlaybackCell). rank_or x) (sym e ∙ here)))
        (λ d e f. n (sym f ∙ same d e))
      where
        rank_or : Option PlaybackCell → ℕ
        rank_or None = 0
        rank_or (Some x) = x.1.rank

    at : (x : Option PlaybackCell) → o ≡ x → at_rank (with_entry cells k o) c.1.rank ≡ pending_of_cell x
    at (Some d) e = at_rank-here (with_entry cells k o) b.apart k d (get-put_here cells k o ∙ e) c.1.rank (same d e)
    at None e = at_rank-none (with_entry cells k o) c.1.rank (λ q d f g. gone q d g (put-some cells k o q d f))
      where
        gone : (q : ℕ) (d : PlaybackCell) → d.1.rank ≡ c.1.rank → ((q ≡ k) × (o ≡ Some d)) ⊎ ((q ≡ k → ⊥) × (FinMap.get cells q ≡ Some d)) → ⊥
        gone q d g (inl h) = none-some d (sym e ∙ h.1)
        gone q d g (inr h) = h.0 (a.apart q k d c h.1 here g)

-- as it was
pub playbacks-here : (cells : FinMap nat_cmp PlaybackCell) (n k : ℕ) (c : PlaybackCell) → AreCells cells n → FinMap.get cells k ≡ Some c →
    playbacks cells n ≡ by_rank (at_rank cells) c.1.rank ++ ((pending_in c) ∷ ranked_from (at_rank cells) c.1.rank n)
playbacks-here cells n k c a here =
    ranked-split (at_rank cells) c.1.rank n (a.early k c here)
    ∙ ap (λ x. by_rank (at_rank cells) c.1.rank ++ (option_to_list x ++ ranked_from (at_rank cells) c.1.rank n)) (at_rank-here cells a.apart k c here c.1.rank refl)

-- a command that adds no cell
pub playbacks-later : (cells : FinMap nat_cmp PlaybackCell) (n : ℕ) → AreCells cells n → playbacks cells (n + 1) ≡ playbacks cells n
unfolding by_rank
playbacks-later cells n a =
    ap (playbacks cells) (add-one n) ∙ ap (λ o. by_rank (at_rank cells) n ++ option_to_list o) (at_rank-none cells n (λ q c e f. let l : c.1.rank < n = a.early q c e in omega arith))
    ∙ append-nil (by_rank (at_rank cells) n)

-- a command that adds one
pub playbacks-new : (cells : FinMap nat_cmp PlaybackCell) (n k : ℕ) (d : PlaybackCell) → AreCells cells n → AreCells (with_entry cells k (Some d)) (n + 1) → FinMap.get cells k ≡ None → d.1.rank ≡ n →
    playbacks (with_entry cells k (Some d)) (n + 1) ≡ playbacks cells n ++ ((pending_in d) ∷ [])
unfolding by_rank
playbacks-new cells n k d a b free rank =
    ap (playbacks (with_entry cells k (Some d))) (add-one n)
    ∙ ap (λ xs. xs ++ option_to_list (at_rank (with_entry cells k (Some d)) n)) (ranked-agree (at_rank (with_entry cells k (Some d))) (at_rank cells) n
    (λ r l. at_rank-off cells k (Some d) r a.apart b.apart (λ c e f. none-some c (sym free ∙ e)) (λ c e f. let same : c.1.rank ≡ n = ap (λ (x : Option PlaybackCell). rank_or x) (sym e) ∙ rank in omega arith)))
    ∙ ap (λ o. by_rank (at_rank cells) n ++ option_to_list o) (at_rank-here (with_entry cells k (Some d)) b.apart k d (get-put_here cells k (Some d)) n rank)
  where
    rank_or : Option PlaybackCell → ℕ
    rank_or None = 0
    rank_or (Some x) = x.1.rank
