-- Lists of cells: what stands in a list as it grows and is swept, and the list of each row.
use Rattle.std.proofs.Common.{◌≡◌, ◌≢◌, ◌↔◌, ◌⊎◌, inl, inr, ℕ, zero, suc, ◌<◌, ◌≤◌, Bool, true, false, cond, eqb, eq-eqb, IsTrue, Option, Some, None, refl, sym, ap, subst, ◌∙◌, arith}
use Rattle.std.proofs.Common.{List, [], ◌∷◌, ◌++◌, length, map, get_or, set, Vec, Global}
use Rattle.std.specs.List.{filter}
use Rattle.std.specs.List.Retain.{IsFiltered}
use Rattle.std.specs.Ordering.{nat_cmp}
use Rattle.std.specs.FinMap
use Rattle.std.specs.FinMap.{FinMap}
use Rattle.std.proofs.lemmas.Bool.{false≢true, eqb-true}
use Rattle.std.proofs.lemmas.Fn.{filter_same}
use Rattle.seq_settle.specs.declared.lists.Listed.{Listed}
use Rattle.seq_settle.specs.Cells.{PlaybackCell}
use Rattle.seq_settle.specs.Lists.{list_at, IsIn, IsLive}

-- ---- what stands in a list

-- what stands in a list with one more at the end is that one, or stood in it before
pub in-last : (e x : Listed) (xs : List Listed) → IsIn e (xs ++ x ∷ []) → (x ≡ e) ⊎ IsIn e xs
in-last e x [] (inl s) = inl s
in-last e x [] (inr h) = absurd h
in-last e x (y ∷ ys) (inl s) = inr (inl s)
in-last e x (y ∷ ys) (inr h) = go (in-last e x ys h)
  where
    go : (x ≡ e) ⊎ IsIn e ys → (x ≡ e) ⊎ IsIn e (y ∷ ys)
    go (inl s) = inl s
    go (inr m) = inr (inr m)

-- what is put at the end stands in the list
pub in-end : (x : Listed) (xs : List Listed) → IsIn x (xs ++ x ∷ [])
in-end x [] = inl refl
in-end x (y ∷ ys) = inr (in-end x ys)

-- what stood in the list stands in it still
pub in-front : (e x : Listed) (xs : List Listed) → IsIn e xs → IsIn e (xs ++ x ∷ [])
in-front e x [] h = absurd h
in-front e x (y ∷ ys) (inl s) = inl s
in-front e x (y ∷ ys) (inr h) = inr (in-front e x ys h)

-- what passes the test stays
pub in-filter : (p : Listed → Bool) (e : Listed) (xs : List Listed) → p e ≡ true → IsIn e xs → IsIn e (filter p xs)
in-filter p e [] t h = absurd h
in-filter p e (x ∷ xs) t (inl s) = subst (λ b. IsIn e (cond b (x ∷ filter p xs) (filter p xs))) (sym (ap p s ∙ t)) (inl s)
in-filter p e (x ∷ xs) t (inr h) = go (p x) (in-filter p e xs t h)
  where
    go : (b : Bool) → IsIn e (filter p xs) → IsIn e (cond b (x ∷ filter p xs) (filter p xs))
    go true m = inr m
    go false m = m

-- nothing stands in a list that is empty
pub in-none : (e : Listed) (xs : List Listed) → xs ≡ [] → IsIn e xs → ⊥
in-none e xs none h = subst (IsIn e) none h

-- ---- the sweep

-- a cell's playback has this rank
abbrev has_rank : ℕ → Option PlaybackCell → Bool
has_rank rank None = false
has_rank rank (Some c) = eqb c.1.rank rank

-- `IsLive`, as a test
abbrev pub live : FinMap nat_cmp PlaybackCell → Listed → Bool
live cells e = has_rank e.rank (FinMap.get cells e.cell)

module _ (cells : FinMap nat_cmp PlaybackCell) (e : Listed) where
  live-true : IsLive cells e → live cells e ≡ true
  live-true h = ap (has_rank e.rank) h.1 ∙ eq-eqb h.0.1.rank e.rank h.2

  true-live : live cells e ≡ true → IsLive cells e
  true-live t = go (FinMap.get cells e.cell) refl t
    where
      go : (o : Option PlaybackCell) → FinMap.get cells e.cell ≡ o → has_rank e.rank o ≡ true → IsLive cells e
      go None at t = absurd (false≢true t)
      go (Some c) at t = (c, at, eqb-true c.1.rank e.rank t)

  -- a test that tells `IsLive` answers as this one
  pub answers-live : (b : Bool) → (IsTrue b ↔ IsLive cells e) → b ≡ live cells e
  answers-live true says = sym (live-true (says.0 refl))
  answers-live false says = go (live cells e) refl
    where
      go : (t : Bool) → live cells e ≡ t → false ≡ t
      go false is = refl
      go true is = says.1 (true-live is)

-- what is live stays, where a closure that answers as this test says what stays
pub in-swept : {F : Type 0} (R : F → Listed → Bool → F → Type 0) (cells : FinMap nat_cmp PlaybackCell) (f : F) →
    ((x : Listed) (b : Bool) (f' : F) → R f x b f' → (b ≡ live cells x) × (f' ≡ f)) →
    (xs ys : List Listed) → IsFiltered R f xs ys → (e : Listed) → IsLive cells e → IsIn e xs → IsIn e ys
in-swept R cells f says xs ys kept e alive h =
    subst (IsIn e) (sym (filter_same R (live cells) f says xs ys kept)) (in-filter (live cells) e xs (live-true cells e alive) h)

-- ---- the list of each row

-- as the code holds them
abbrev pub Rows : Type 0
Rows = List (Vec Listed Global)

-- as the model sees them
abbrev pub lists_of : Rows → List (List Listed)
lists_of rows = map (λ v. v.items) rows

-- a row that is there
pub row-read : (rows : Rows) (r : ℕ) (v : Vec Listed Global) → r < length rows → v ≡ get_or rows r v → v.items ≡ list_at (lists_of rows) r
row-read rows r v l is = ap (λ v. v.items) is ∙ go rows r l
  where
    go : (us : Rows) (q : ℕ) → q < length us → (get_or us q v).items ≡ list_at (lists_of us) q
    go [] q l = absurd (omega arith)
    go (u ∷ us) zero l = refl
    go (u ∷ us) (suc q) l = go us q (omega arith)

-- a row past the end
pub row-past : (rows : Rows) (r : ℕ) → length rows ≤ r → list_at (lists_of rows) r ≡ []
row-past [] r l = refl
row-past (v ∷ vs) zero l = absurd (omega arith)
row-past (v ∷ vs) (suc r) l = row-past vs r (omega arith)

-- one more row, with nothing in it
pub row-more : (rows : Rows) (v : Vec Listed Global) (r : ℕ) → v.items ≡ [] → list_at (lists_of (rows ++ v ∷ [])) r ≡ list_at (lists_of rows) r
row-more [] v zero none = none
row-more [] v (suc r) none = refl
row-more (u ∷ us) v zero none = refl
row-more (u ∷ us) v (suc r) none = row-more us v r none

-- a row that was written
pub row-set : (rows : Rows) (i : ℕ) (v : Vec Listed Global) → i < length rows → list_at (lists_of (set rows i v)) i ≡ v.items
row-set [] i v l = absurd (omega arith)
row-set (u ∷ us) zero v l = refl
row-set (u ∷ us) (suc i) v l = row-set us i v (omega arith)

-- the other rows
pub row-others : (rows : Rows) (i r : ℕ) (v : Vec Listed Global) → r ≢ i → list_at (lists_of (set rows i v)) r ≡ list_at (lists_of rows) r
row-others [] i r v other = refl
row-others (u ∷ us) zero zero v other = absurd (other refl)
row-others (u ∷ us) zero (suc r) v other = refl
row-others (u ∷ us) (suc i) zero v other = refl
row-others (u ∷ us) (suc i) (suc r) v other = row-others us i r v (λ same. other (ap suc same))
