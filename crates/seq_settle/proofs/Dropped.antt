-- Playbacks that go: the cells that stay, and the way along all cells that may go.
use Rattle.std.proofs.Common.{◌≡◌, ℕ, suc, ◌+◌, ◌≤◌, ◌<◌, Bool, true, false, not, cond, eqb, ltb, ◌||◌, length, take, Option, Some, None, refl, sym, ap, subst, ◌∙◌, arith, eq-eqb, add-one}
use Rattle.std.specs.Prelude.{slice_get, drop}
use Rattle.std.specs.List.{filter}
use Rattle.std.specs.Option.{option_map}
use Rattle.std.specs.Ordering.{nat_cmp}
use Rattle.std.specs.FinMap
use Rattle.std.specs.FinMap.{FinMap}
use Rattle.std.proofs.lemmas.Bool.{false≢true, lt-ltb, le-ltb}
use Rattle.std.proofs.lemmas.Bool.Decides.{nat_tests}
use Rattle.std.proofs.lemmas.List.{take-take, drop_all}
use Rattle.std.proofs.lemmas.Option.{none-some, same_Some}
use Rattle.cell_pools.specs.Cells.{Store, AreKeys, SameBefore, IsTaken, cells_of, is_of, keys_of, size_of}
use Rattle.cell_pools.specs.Kept.{IsClient}
use Rattle.cell_pools.proofs.Walking.{slice_get-take}
use Rattle.seq_state.specs.State.{OwnedPlayback}
use Rattle.seq_state.proofs.Effects.{get-put}
use Rattle.seq_settle.specs.declared.head.PlaybackHead.{PlaybackHead}
use Rattle.seq_settle.specs.declared.which.Which.{Which}
use Rattle.seq_settle.specs.Cells.{RankedPlayback, PlaybackCell, pending_in, at_rank, playbacks, AreCells}
use Rattle.seq_settle.specs.Sends.{head_of}
use Rattle.seq_settle.specs.Drops.{kept_cell, stays, cell_goes, IsDropped}
use Rattle.seq_settle.proofs.Ranks.{at_rank-here, at_rank-some, at_rank-none, ranked-agree, filter-ranked, keep}
use Rattle.seq_settle.proofs.Marks.{has, has-drop, has-drop_none, has-is, mark-one}

-- a cell that stays was there, and its playback passes
pub kept-some : (stays : OwnedPlayback → Bool) (o : Option PlaybackCell) (c : PlaybackCell) → kept_cell stays o ≡ Some c → (o ≡ Some c) × (stays (pending_in c) ≡ true)
kept-some stays None c e = absurd (none-some c e)
kept-some stays (Some d) c e = go (stays (pending_in d)) refl e
  where
    go : (b : Bool) → stays (pending_in d) ≡ b → cond b (Some d) None ≡ Some c → (Some d ≡ Some c) × (stays (pending_in c) ≡ true)
    go true t f = (f, ap (λ (x : PlaybackCell). stays (pending_in x)) (sym (same_Some d c f)) ∙ t)
    go false t f = absurd (none-some c f)

kept-here : (stays : OwnedPlayback → Bool) (o : Option PlaybackCell) (c : PlaybackCell) → o ≡ Some c → stays (pending_in c) ≡ true → kept_cell stays o ≡ Some c
kept-here stays o c e t = ap (kept_cell stays) e ∙ ap (λ b. cond b (Some c) None) t

-- the invariant of cells stays where each of them was there before
fewer-cells : (cells cells' : FinMap nat_cmp PlaybackCell) (n : ℕ) → ((q : ℕ) (c : PlaybackCell) → FinMap.get cells' q ≡ Some c → FinMap.get cells q ≡ Some c) → AreCells cells n → AreCells cells' n
fewer-cells cells cells' n was are = record {
  early = λ q c e. are.early q c (was q c e);
  apart = λ q r c d e f same. are.apart q r c d (was q c e) (was r d f) same;
  filled = λ q c e. are.filled q c (was q c e);
  ordered = λ q c e. are.ordered q c (was q c e);
  queues = λ q c e. are.queues q c (was q c e);
}

-- so it stays for those that are left where some were looked at
pub passed-cells : (stays : OwnedPlayback → Bool) (test : ℕ → Bool) (cells cells' : FinMap nat_cmp PlaybackCell) (n : ℕ) → ((q : ℕ) → FinMap.get cells' q ≡ cond (test q) (kept_cell stays (FinMap.get cells q)) (FinMap.get cells q)) → AreCells cells n → AreCells cells' n
passed-cells stays test cells cells' n is are = fewer-cells cells cells' n (λ q c e. go q c (test q) (sym (is q) ∙ e)) are
  where
    go : (q : ℕ) (c : PlaybackCell) (b : Bool) → cond b (kept_cell stays (FinMap.get cells q)) (FinMap.get cells q) ≡ Some c → FinMap.get cells q ≡ Some c
    go q c true e = (kept-some stays (FinMap.get cells q) c e).0
    go q c false e = e

module _ (stays : OwnedPlayback → Bool) (cells cells' : FinMap nat_cmp PlaybackCell) (n : ℕ) (are : AreCells cells n) (is : (q : ℕ) → FinMap.get cells' q ≡ kept_cell stays (FinMap.get cells q)) where
  was : (q : ℕ) (c : PlaybackCell) → FinMap.get cells' q ≡ Some c → (FinMap.get cells q ≡ Some c) × (stays (pending_in c) ≡ true)
  was q c e = kept-some stays (FinMap.get cells q) c (sym (is q) ∙ e)

  pub kept_cells : AreCells cells' n
  kept_cells = fewer-cells cells cells' n (λ q c e. (was q c e).0) are

  kept_rank : (r : ℕ) → at_rank cells' r ≡ keep stays (at_rank cells r)
  kept_rank r = go (at_rank cells r) refl
    where
      go : (o : Option OwnedPlayback) → at_rank cells r ≡ o → at_rank cells' r ≡ keep stays o
      go None e = at_rank-none cells' r (λ q c f same. none-some (pending_in c) (sym e ∙ at_rank-here cells are.apart q c (was q c f).0 r same))
      go (Some p) e = let h = at_rank-some cells r p e in
          subst (λ x. at_rank cells' r ≡ keep stays (Some x)) h.4 (test (stays (pending_in h.1)) refl)
        where
          test : (b : Bool) → stays (pending_in (at_rank-some cells r p e).1) ≡ b → at_rank cells' r ≡ cond b (Some (pending_in (at_rank-some cells r p e).1)) None
          test true t = let h = at_rank-some cells r p e in at_rank-here cells' kept_cells.apart h.0 h.1 (is h.0 ∙ kept-here stays (FinMap.get cells h.0) h.1 h.2 t) r h.3
          test false t = at_rank-none cells' r (λ q c f same.
              let h = at_rank-some cells r p e in
              let at : q ≡ h.0 = are.apart q h.0 c h.1 (was q c f).0 h.2 (same ∙ sym h.3) in
              let one : c ≡ h.1 = same_Some c h.1 (sym (was q c f).0 ∙ ap (FinMap.get cells) at ∙ h.2) in
              false≢true (sym t ∙ ap (λ (x : PlaybackCell). stays (pending_in x)) (sym one) ∙ (was q c f).1))

  -- the playbacks that stay
  pub kept_playbacks : playbacks cells' n ≡ filter stays (playbacks cells n)
  kept_playbacks = ranked-agree (at_rank cells') (λ r. keep stays (at_rank cells r)) n (λ r l. kept_rank r) ∙ sym (filter-ranked stays (at_rank cells) n)

-- ---- one cell

pub kept-chosen : (client : ℕ) (which : Which) (c : PlaybackCell) → cell_goes client which (head_of c) ≡ true → kept_cell (stays client which) (Some c) ≡ None
kept-chosen client which c t = ap (λ b. cond (not b) (Some c) None) t

-- what stays stays again
pub kept-twice : (stays : OwnedPlayback → Bool) (o : Option PlaybackCell) → kept_cell stays (kept_cell stays o) ≡ kept_cell stays o
kept-twice stays None = refl
kept-twice stays (Some c) = go (stays (pending_in c)) refl
  where
    go : (b : Bool) → stays (pending_in c) ≡ b → kept_cell stays (cond b (Some c) None) ≡ cond b (Some c) None
    go true t = ap (λ b. cond b (Some c) None) t
    go false t = refl

-- ---- the cells of one owner, from the last to the first

-- The keys of an owner from a place on have been gone over, and those before it stand where they stood.
pub record IsPassed (client : ℕ) (which : Which) (owner index : ℕ) (old now : Store RankedPlayback) : Type 0 where
  pub before : SameBefore index (keys_of old owner) (keys_of now owner)
  pub cells : (q : ℕ) → FinMap.get now.cells q ≡ cond (has q (drop index (keys_of old owner))) (kept_cell (stays client which) (FinMap.get old.cells q)) (FinMap.get old.cells q)
  pub sizes : (other : ℕ) → size_of now other ≡ size_of old other

module _ (client : ℕ) (which : Which) (owner : ℕ) (old : Store RankedPlayback) where
  pub passed-start : (n : ℕ) → n ≡ length (keys_of old owner) → IsPassed client which owner n old old
  passed-start n all = record {
    before = refl;
    cells = λ q. sym (ap (λ ks. cond (has q ks) (kept_cell (stays client which) (FinMap.get old.cells q)) (FinMap.get old.cells q)) (drop_all n (keys_of old owner) (omega (arith, all))));
    sizes = λ other. refl;
  }

  module _ (now : Store RankedPlayback) (n i : ℕ) (next : n ≡ i + 1) (was : IsPassed client which owner n old now) where
    h : IsPassed client which owner (i + 1) old now
    h = subst (λ m. IsPassed client which owner m old now) next was

    same_key : slice_get (keys_of now owner) i ≡ slice_get (keys_of old owner) i
    same_key =
        sym (slice_get-take (i + 1) (keys_of now owner) i (omega arith)) ∙ ap (λ ks. slice_get ks i) h.before ∙ slice_get-take (i + 1) (keys_of old owner) i (omega arith)

    same_front : take i (keys_of now owner) ≡ take i (keys_of old owner)
    same_front =
        sym (take-take i (i + 1) (keys_of now owner) (omega arith)) ∙ ap (take i) h.before ∙ take-take i (i + 1) (keys_of old owner) (omega arith)

    one_more : (q : ℕ) → has q (drop (suc i) (keys_of old owner)) ≡ has q (drop (i + 1) (keys_of old owner))
    one_more q = ap (λ m. has q (drop m (keys_of old owner))) (sym (add-one i))

    pub passed-none : slice_get (keys_of now owner) i ≡ None → IsPassed client which owner i old now
    passed-none none = record {
      before = same_front;
      cells = λ q. h.cells q ∙ ap (λ b. cond b (kept_cell (stays client which) (FinMap.get old.cells q)) (FinMap.get old.cells q)) (sym (has-drop_none q (keys_of old owner) i (sym same_key ∙ none) ∙ one_more q));
      sizes = h.sizes;
    }

    pub passed-one : (now' : Store RankedPlayback) (key : ℕ) → slice_get (keys_of now owner) i ≡ Some key → IsDropped client which now now' key → IsPassed client which owner i old now'
    passed-one now' key at dropped = record {
      before = dropped.before owner i at ∙ same_front;
      cells = λ q.
          mark-one (λ k. kept_cell (stays client which) (FinMap.get old.cells k)) (FinMap.get old.cells) (FinMap.get now.cells) (FinMap.get now'.cells) (λ k. has k (drop (i + 1) (keys_of old owner))) key h.cells
          (λ k. dropped.cells k ∙ ap (λ o. cond (eqb k key) o (FinMap.get now.cells k)) (ap (kept_cell (stays client which)) (h.cells key) ∙ again (has key (drop (i + 1) (keys_of old owner))) (FinMap.get old.cells key))) q
          ∙ ap (λ b. cond b (kept_cell (stays client which) (FinMap.get old.cells q)) (FinMap.get old.cells q)) (sym (has-drop q key (keys_of old owner) i (sym same_key ∙ at) ∙ ap (λ b. eqb q key || b) (one_more q)));
      sizes = λ other. dropped.sizes other ∙ h.sizes other;
    }
      where
        again : (b : Bool) (o : Option PlaybackCell) → kept_cell (stays client which) (cond b (kept_cell (stays client which) o) o) ≡ kept_cell (stays client which) o
        again true o = kept-twice (stays client which) o
        again false o = refl

  pub passed-end : (now : Store RankedPlayback) (n : ℕ) → AreKeys (cells_of old.cells owner) (keys_of old owner) → n ≤ 0 → IsPassed client which owner n old now →
      (q : ℕ) → FinMap.get now.cells q ≡ cond (is_of owner (FinMap.get old.cells q)) (kept_cell (stays client which) (FinMap.get old.cells q)) (FinMap.get old.cells q)
  passed-end now n keys done h q =
      let none : n ≡ 0 = omega (arith, done) in
      h.cells q ∙ ap (λ m. cond (has q (drop m (keys_of old owner))) (kept_cell (stays client which) (FinMap.get old.cells q)) (FinMap.get old.cells q)) none
      ∙ ap (λ b. cond b (kept_cell (stays client which) (FinMap.get old.cells q)) (FinMap.get old.cells q)) (has-is old.cells owner (keys_of old owner) keys q)

-- ---- the cells of all owners

-- the cell is of an owner below a number
abbrev pub is_below : ℕ → Option PlaybackCell → Bool
is_below n None = false
is_below n (Some c) = ltb c.0 n

-- all owners are from here on
pub below-start : (n : ℕ) (o : Option PlaybackCell) → ((c : PlaybackCell) → o ≡ Some c → n ≤ c.0) → is_below n o ≡ false
below-start n None all = refl
below-start n (Some c) all = le-ltb c.0 n (all c refl)

pub below-step : (n : ℕ) (o : Option PlaybackCell) → is_below (n + 1) o ≡ (is_below n o || is_of n o)
below-step n None = refl
below-step n (Some c) = grind (arith, nat_tests)

module _ (stays : OwnedPlayback → Bool) where
  pub owners-step : (old now then : FinMap nat_cmp PlaybackCell) (n : ℕ) → ((q : ℕ) → FinMap.get now q ≡ cond (is_below n (FinMap.get old q)) (kept_cell stays (FinMap.get old q)) (FinMap.get old q)) →
      ((q : ℕ) → FinMap.get then q ≡ cond (is_of n (FinMap.get now q)) (kept_cell stays (FinMap.get now q)) (FinMap.get now q)) →
      (q : ℕ) → FinMap.get then q ≡ cond (is_below (n + 1) (FinMap.get old q)) (kept_cell stays (FinMap.get old q)) (FinMap.get old q)
  owners-step old now then n before here q =
      here q ∙ ap (λ o. cond (is_of n o) (kept_cell stays o) o) (before q) ∙ go (is_below n (FinMap.get old q)) (FinMap.get old q)
      ∙ ap (λ b. cond b (kept_cell stays (FinMap.get old q)) (FinMap.get old q)) (sym (below-step n (FinMap.get old q)))
    where
      either : (b : Bool) (o : Option PlaybackCell) → cond b o o ≡ o
      either true o = refl
      either false o = refl

      go : (b : Bool) (o : Option PlaybackCell) → (let now : Option PlaybackCell = cond b (kept_cell stays o) o in cond (is_of n now) (kept_cell stays now) now) ≡ cond (b || is_of n o) (kept_cell stays o) o
      go true o = ap (λ x. cond (is_of n (kept_cell stays o)) x (kept_cell stays o)) (kept-twice stays o) ∙ either (is_of n (kept_cell stays o)) (kept_cell stays o)
      go false o = refl

  -- all owners are below
  pub owners-end : (old now : FinMap nat_cmp PlaybackCell) (n : ℕ) → ((q : ℕ) (c : PlaybackCell) → FinMap.get old q ≡ Some c → c.0 < n) → ((q : ℕ) → FinMap.get now q ≡ cond (is_below n (FinMap.get old q)) (kept_cell stays (FinMap.get old q)) (FinMap.get old q)) →
      (q : ℕ) → FinMap.get now q ≡ kept_cell stays (FinMap.get old q)
  owners-end old now n all marked q = marked q ∙ go (FinMap.get old q) refl
    where
      go : (o : Option PlaybackCell) → FinMap.get old q ≡ o → cond (is_below n o) (kept_cell stays o) o ≡ kept_cell stays o
      go None e = refl
      go (Some c) e = ap (λ b. cond b (kept_cell stays (Some c)) (Some c)) (lt-ltb c.0 n (all q c e))

  -- what is not the owner's stays anyway
  pub alone-end : (old now : FinMap nat_cmp PlaybackCell) (owner : ℕ) → ((q : ℕ) (c : PlaybackCell) → FinMap.get old q ≡ Some c → stays (pending_in c) ≡ false → c.0 ≡ owner) →
      ((q : ℕ) → FinMap.get now q ≡ cond (is_of owner (FinMap.get old q)) (kept_cell stays (FinMap.get old q)) (FinMap.get old q)) → (q : ℕ) → FinMap.get now q ≡ kept_cell stays (FinMap.get old q)
  alone-end old now owner alone marked q = marked q ∙ go (FinMap.get old q) refl
    where
      go : (o : Option PlaybackCell) → FinMap.get old q ≡ o → cond (is_of owner o) (kept_cell stays o) o ≡ kept_cell stays o
      go None e = refl
      go (Some c) e = test (eqb c.0 owner) refl (stays (pending_in c)) refl
        where
          test : (b : Bool) → eqb c.0 owner ≡ b → (s : Bool) → stays (pending_in c) ≡ s → cond b (cond s (Some c) None) (Some c) ≡ cond s (Some c) None
          test true t s u = refl
          test false t true u = refl
          test false t false u = absurd (false≢true (sym t ∙ eq-eqb c.0 owner (alone q c e u)))

-- ---- a cell that is looked at

module _ (client : ℕ) (which : Which) (old : Store RankedPlayback) (key : ℕ) where
  pub dropped-taken : (new : Store RankedPlayback) (head : PlaybackHead) → Some head ≡ option_map head_of (FinMap.get old.cells key) → cell_goes client which head ≡ true → IsTaken old new key → IsDropped client which old new key
  dropped-taken new head e t taken = record {
    cells = λ q. ap (λ m. FinMap.get m q) taken.cells ∙ get-put old.cells key None q ∙ ap (λ o. cond (eqb q key) o (FinMap.get old.cells q)) (sym (go (FinMap.get old.cells key) e));
    before = taken.before;
    sizes = taken.sizes;
  }
    where
      go : (o : Option PlaybackCell) → Some head ≡ option_map head_of o → kept_cell (stays client which) o ≡ None
      go None f = refl
      go (Some c) f = kept-chosen client which c (ap (cell_goes client which) (sym (same_Some head (head_of c) f)) ∙ t)

-- each cell is of a client
pub known-client : (cells : FinMap nat_cmp PlaybackCell) → ((q client : ℕ) → option_map (λ v. v.0) (FinMap.get cells q) ≡ Some client → IsClient client) → (q : ℕ) (c : PlaybackCell) → FinMap.get cells q ≡ Some c → IsClient c.0
known-client cells law q c e = law q c.0 (ap (option_map (λ v. v.0)) e)
