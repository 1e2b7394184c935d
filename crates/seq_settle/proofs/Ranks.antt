-- The cell of a rank, and the list of all by rank.
use Rattle.std.proofs.Common.{◌≡◌, ℕ, zero, suc, ◌≤◌, ◌<◌, Bool, true, false, cond, eqb, ltb, ◌||◌, ◌⊎◌, inl, inr, List, [], ◌∷◌, ◌++◌, Option, Some, None, refl, sym, ap, subst, ◌∙◌, arith, append-nil, append_assoc, eq-eqb}
use Rattle.std.specs.Prelude.{is_some}
use Rattle.std.specs.List.{filter, list_any, list_all}
use Rattle.std.specs.Option.{option_to_list}
use Rattle.std.specs.Ordering.{nat_cmp, eq_by_cmp}
use Rattle.std.specs.FinMap
use Rattle.std.specs.FinMap.{FinMap}
use Rattle.std.proofs.lemmas.Bool.{false≢true, eqb-true, ne_eqb, cases_lt, ltb-true, lt-ltb, le-ltb}
use Rattle.std.proofs.lemmas.Bool.Decides.{nat_tests}
use Rattle.std.proofs.lemmas.Option.{none-some, same_Some}
use Rattle.seq_state.specs.State.{OwnedPlayback}
use Rattle.seq_state.proofs.Lists.{filter-append, list_all-append, and_both}
use Rattle.seq_settle.specs.Cells.{PlaybackCell, pending_in, of_rank, or_else, first_of, at_rank, by_rank}

-- ---- one rank

of_rank-some : (r : ℕ) (o : Option PlaybackCell) (p : OwnedPlayback) → of_rank r o ≡ Some p → (c : PlaybackCell) × (o ≡ Some c) × (c.1.rank ≡ r) × ((pending_in c) ≡ p)
of_rank-some r None p e = absurd (none-some p e)
of_rank-some r (Some c) p e = go (eqb c.1.rank r) refl e
  where
    go : (b : Bool) → eqb c.1.rank r ≡ b → cond b (Some (pending_in c)) None ≡ Some p → (d : PlaybackCell) × (Some c ≡ Some d) × (d.1.rank ≡ r) × ((pending_in d) ≡ p)
    go true t f = (c, refl, eqb-true c.1.rank r t, same_Some (pending_in c) p f)
    go false t f = absurd (none-some p f)

of_rank-here : (r : ℕ) (o : Option PlaybackCell) (c : PlaybackCell) → o ≡ Some c → c.1.rank ≡ r → of_rank r o ≡ Some (pending_in c)
of_rank-here r o c e f = ap (of_rank r) e ∙ ap (λ b. cond b (Some (pending_in c)) None) (eq-eqb c.1.rank r f)

first_of-some : (cells : FinMap nat_cmp PlaybackCell) (r : ℕ) (p : OwnedPlayback) (qs : List ℕ) → first_of cells r qs ≡ Some p → (q : ℕ) × (c : PlaybackCell) × (FinMap.get cells q ≡ Some c) × (c.1.rank ≡ r) × ((pending_in c) ≡ p)
first_of-some cells r p [] e = absurd (none-some p e)
first_of-some cells r p (q ∷ qs) e = go (of_rank r (FinMap.get cells q)) refl e (λ g. first_of-some cells r p qs g)
  where
    go : (o : Option OwnedPlayback) → of_rank r (FinMap.get cells q) ≡ o → or_else o (first_of cells r qs) ≡ Some p → (first_of cells r qs ≡ Some p → (k : ℕ) × (c : PlaybackCell) × (FinMap.get cells k ≡ Some c) × (c.1.rank ≡ r) × ((pending_in c) ≡ p)) →
        (k : ℕ) × (c : PlaybackCell) × (FinMap.get cells k ≡ Some c) × (c.1.rank ≡ r) × ((pending_in c) ≡ p)
    go None f g later = later g
    go (Some x) f g later = let h = of_rank-some r (FinMap.get cells q) x f in (q, h.0, h.1, h.2, h.3 ∙ same_Some x p g)

pub same_number : (q c : ℕ) → eq_by_cmp nat_cmp q c ≡ eqb q c
same_number q c = grind (arith, nat_tests)

first_of-here : (cells : FinMap nat_cmp PlaybackCell) (r k : ℕ) (p : OwnedPlayback) → of_rank r (FinMap.get cells k) ≡ Some p → ((q : ℕ) (x : OwnedPlayback) → of_rank r (FinMap.get cells q) ≡ Some x → x ≡ p) →
    (qs : List ℕ) → list_any (eq_by_cmp nat_cmp k) qs ≡ true → first_of cells r qs ≡ Some p
first_of-here cells r k p here one [] h = absurd (false≢true h)
first_of-here cells r k p here one (q ∷ qs) h = go (of_rank r (FinMap.get cells q)) refl (λ g. first_of-here cells r k p here one qs g)
  where
    other : (b : Bool) → eqb k q ≡ b → of_rank r (FinMap.get cells q) ≡ None → (b || list_any (eq_by_cmp nat_cmp k) qs) ≡ true → list_any (eq_by_cmp nat_cmp k) qs ≡ true
    other true t n g = let same : k ≡ q = eqb-true k q t in absurd (none-some p (sym n ∙ subst (λ j. of_rank r (FinMap.get cells j) ≡ Some p) same here))
    other false t n g = g

    go : (o : Option OwnedPlayback) → of_rank r (FinMap.get cells q) ≡ o → (list_any (eq_by_cmp nat_cmp k) qs ≡ true → first_of cells r qs ≡ Some p) → or_else o (first_of cells r qs) ≡ Some p
    go None f later = later (other (eqb k q) refl f (subst (λ b. (b || list_any (eq_by_cmp nat_cmp k) qs) ≡ true) (same_number k q) h))
    go (Some x) f later = ap (λ y. Some y) (one q x f)

first_of-none : (cells : FinMap nat_cmp PlaybackCell) (r : ℕ) → ((q : ℕ) → of_rank r (FinMap.get cells q) ≡ None) → (qs : List ℕ) → first_of cells r qs ≡ None
first_of-none cells r none [] = refl
first_of-none cells r none (q ∷ qs) = ap (λ o. or_else o (first_of cells r qs)) (none q) ∙ first_of-none cells r none qs

-- ---- the cell of a rank

-- no two cells are of one command
abbrev pub AreApart : FinMap nat_cmp PlaybackCell → Type 0
AreApart cells = (q r : ℕ) (c d : PlaybackCell) → FinMap.get cells q ≡ Some c → FinMap.get cells r ≡ Some d → c.1.rank ≡ d.1.rank → q ≡ r

-- a cell is found by its rank
pub at_rank-here : (cells : FinMap nat_cmp PlaybackCell) → AreApart cells → (k : ℕ) (c : PlaybackCell) → FinMap.get cells k ≡ Some c → (r : ℕ) → c.1.rank ≡ r → at_rank cells r ≡ Some (pending_in c)
unfolding at_rank
at_rank-here cells apart k c here r e =
    first_of-here cells r k (pending_in c) (of_rank-here r (FinMap.get cells k) c here e)
    (λ q x f. let h = of_rank-some r (FinMap.get cells q) x f in
    let same : q ≡ k = apart q k h.0 c h.1 here (h.2 ∙ sym e) in
    let one : h.0 ≡ c = same_Some h.0 c (sym h.1 ∙ ap (FinMap.get cells) same ∙ here) in
    sym h.3 ∙ ap (λ (d : PlaybackCell). pending_in d) one)
    (FinMap.keys cells) (sym (FinMap.contains_key-keys cells k) ∙ ap is_some here)

-- what is found is a cell's
pub at_rank-some : (cells : FinMap nat_cmp PlaybackCell) (r : ℕ) (p : OwnedPlayback) → at_rank cells r ≡ Some p → (q : ℕ) × (c : PlaybackCell) × (FinMap.get cells q ≡ Some c) × (c.1.rank ≡ r) × ((pending_in c) ≡ p)
unfolding at_rank
at_rank-some cells r p e = first_of-some cells r p (FinMap.keys cells) e

not_of_rank : (r : ℕ) (o : Option PlaybackCell) → ((c : PlaybackCell) → o ≡ Some c → c.1.rank ≡ r → ⊥) → of_rank r o ≡ None
not_of_rank r None n = refl
not_of_rank r (Some c) n = ap (λ b. cond b (Some (pending_in c)) None) (ne_eqb c.1.rank r (n c refl))

pub at_rank-none : (cells : FinMap nat_cmp PlaybackCell) (r : ℕ) → ((q : ℕ) (c : PlaybackCell) → FinMap.get cells q ≡ Some c → c.1.rank ≡ r → ⊥) → at_rank cells r ≡ None
unfolding at_rank
at_rank-none cells r none = first_of-none cells r (λ q. not_of_rank r (FinMap.get cells q) (none q)) (FinMap.keys cells)

-- ---- the list of all

module _ {X : Type 0} where
  pub ranked-agree : (f g : ℕ → Option X) (n : ℕ) → ((r : ℕ) → r < n → f r ≡ g r) → by_rank f n ≡ by_rank g n
  unfolding by_rank
  ranked-agree f g zero h = refl
  ranked-agree f g (suc n) h = let last : f n ≡ g n = h n (omega arith) in let more : by_rank f n ≡ by_rank g n = ranked-agree f g n (λ r l. h r (omega arith)) in
      ap (λ xs. xs ++ option_to_list (f n)) more ∙ ap (λ o. by_rank g n ++ option_to_list o) last

  -- what stands after k and up to n
  unfoldable pub ranked_from : (ℕ → Option X) → ℕ → ℕ → List X
  ranked_from f k zero = []
  ranked_from f k (suc n) = cond (ltb k n) (ranked_from f k n ++ option_to_list (f n)) []

  pub ranked_from-agree : (f g : ℕ → Option X) (k n : ℕ) → ((r : ℕ) → (r ≡ k → ⊥) → f r ≡ g r) → ranked_from f k n ≡ ranked_from g k n
  unfolding ranked_from
  ranked_from-agree f g k zero h = refl
  ranked_from-agree f g k (suc n) h = go (ltb k n) refl (ranked_from-agree f g k n h)
    where
      go : (b : Bool) → ltb k n ≡ b → ranked_from f k n ≡ ranked_from g k n → cond b (ranked_from f k n ++ option_to_list (f n)) [] ≡ cond b (ranked_from g k n ++ option_to_list (g n)) []
      go true l more = let lt : k < n = ltb-true k n l in
          ap (λ xs. xs ++ option_to_list (f n)) more ∙ ap (λ o. ranked_from g k n ++ option_to_list o) (h n (λ e. omega arith))
      go false l more = refl

  pub ranked-split : (f : ℕ → Option X) (k n : ℕ) → k < n → by_rank f n ≡ by_rank f k ++ (option_to_list (f k) ++ ranked_from f k n)
  unfolding by_rank ranked_from
  ranked-split f k zero l = absurd (omega arith)
  ranked-split f k (suc n) l = go (cases_lt k n) (ranked-split f k n)
    where
      go : (k < n) ⊎ (n ≤ k) → (k < n → by_rank f n ≡ by_rank f k ++ (option_to_list (f k) ++ ranked_from f k n)) → by_rank f n ++ option_to_list (f n) ≡ by_rank f k ++ (option_to_list (f k) ++ cond (ltb k n) (ranked_from f k n ++ option_to_list (f n)) [])
      go (inl lt) more =
          ap (λ xs. xs ++ option_to_list (f n)) (more lt)
          ∙ append_assoc (by_rank f k) (option_to_list (f k) ++ ranked_from f k n) (option_to_list (f n))
          ∙ ap (λ xs. by_rank f k ++ xs) (append_assoc (option_to_list (f k)) (ranked_from f k n) (option_to_list (f n)))
          ∙ ap (λ b. by_rank f k ++ (option_to_list (f k) ++ cond b (ranked_from f k n ++ option_to_list (f n)) [])) (sym (lt-ltb k n lt))
      go (inr le) more =
          let same : n ≡ k = omega arith in
          ap (λ j. by_rank f j ++ option_to_list (f j)) same
          ∙ ap (λ xs. by_rank f k ++ xs) (sym (append-nil (option_to_list (f k))))
          ∙ ap (λ b. by_rank f k ++ (option_to_list (f k) ++ cond b (ranked_from f k n ++ option_to_list (f n)) [])) (sym (le-ltb k n le))

  abbrev pub all_of : (X → Bool) → Option X → Bool
  all_of p None = true
  all_of p (Some x) = p x

  all_option : (p : X → Bool) (o : Option X) → all_of p o ≡ true → list_all p (option_to_list o) ≡ true
  all_option p None h = refl
  all_option p (Some x) h = and_both (p x) true h refl

  pub ranked-all : (p : X → Bool) (f : ℕ → Option X) (n : ℕ) → ((r : ℕ) → r < n → all_of p (f r) ≡ true) → list_all p (by_rank f n) ≡ true
  unfolding by_rank
  ranked-all p f zero h = refl
  ranked-all p f (suc n) h = list_all-append p (by_rank f n) (option_to_list (f n)) (ranked-all p f n (λ r l. h r (omega arith))) (all_option p (f n) (h n (omega arith)))

  abbrev pub keep : (X → Bool) → Option X → Option X
  keep p None = None
  keep p (Some x) = cond (p x) (Some x) None

  filter-option : (p : X → Bool) (o : Option X) → filter p (option_to_list o) ≡ option_to_list (keep p o)
  filter-option p None = refl
  filter-option p (Some x) = go (p x)
    where
      go : (b : Bool) → cond b (x ∷ []) [] ≡ option_to_list (cond b (Some x) None)
      go true = refl
      go false = refl

  pub filter-ranked : (p : X → Bool) (f : ℕ → Option X) (n : ℕ) → filter p (by_rank f n) ≡ by_rank (λ r. keep p (f r)) n
  unfolding by_rank
  filter-ranked p f zero = refl
  filter-ranked p f (suc n) = filter-append p (by_rank f n) (option_to_list (f n)) ∙ ap (λ xs. xs ++ filter p (option_to_list (f n))) (filter-ranked p f n) ∙ ap (λ xs. by_rank (λ r. keep p (f r)) n ++ xs) (filter-option p (f n))
