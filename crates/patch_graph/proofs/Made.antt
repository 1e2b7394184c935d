-- Tables that are given their places, and tables that are written.
use Rattle.std.proofs.Common.{◌≡◌, ◌≤◌, ◌++◌, ◌∙◌, ℕ, zero, suc, List, [], ◌∷◌, length, take, drop, get_or, set, refl, ap, arith}
use Rattle.std.specs.List.{FoldsTo, AppendsResults}
use Rattle.std.proofs.lemmas.List.{take_all, drop_all, append-nil, length-set}
use Rattle.node_table.specs.Kept.{ReadsAs}
use Rattle.node_table.proofs.Places.{read-append}

module _ {X F : Type 0} (step : F → List X → F → Type 0) (empty : (f : F) (v : List X) (g : F) → step f v g → v ≡ []) where
  all_empty : (f g : F) (vs : List (List X)) → FoldsTo step f vs g → (i : ℕ) → get_or vs i [] ≡ []
  all_empty f g [] run i = refl
  all_empty f g (v ∷ vs) run zero = empty f v run.0 run.1
  all_empty f g (v ∷ vs) run (suc i) = all_empty run.0 g vs run.2 i

  -- a table that was filled up with lists that hold nothing reads as before
  pub filled_up : (old new : List (List X)) (n : ℕ) (f : F) → length old ≤ n → AppendsResults step (take n old) new f → ReadsAs [] new old
  filled_up old new n f h made i =
      ap (λ vs. get_or vs i []) (made.2 ∙ ap (λ vs. vs ++ made.0) (take_all n old h))
      ∙ read-append old made.0 [] (all_empty f made.1 made.0 made.3) i

module _ {X : Type 0} where
  -- a table whose places were lent as a slice
  pub unwritten : (n : ℕ) (items slice new : List X) → n ≡ length items → slice ≡ items → new ≡ slice → take n (new ++ drop (length new) items) ≡ items
  unwritten n items slice new e f g =
      (λ j. take n ((g ∙ f) j ++ drop (length ((g ∙ f) j)) items))
      ∙ ap (λ xs. take n (items ++ xs)) (drop_all (length items) items (omega arith)) ∙ ap (take n) (append-nil items) ∙ take_all n items (omega (arith, e))

  pub written : (n p : ℕ) (items slice new : List X) (f : List X → X) → n ≡ length items → slice ≡ items → new ≡ set slice p (f slice) → take n (new ++ drop (length new) items) ≡ set items p (f items)
  written n p items slice new f e g h =
      let is : new ≡ set items p (f items) = h ∙ ap (λ xs. set xs p (f xs)) g in
      let long : length (set items p (f items)) ≡ length items = length-set items p (f items) in
      (λ j. take n (is j ++ drop (length (is j)) items))
      ∙ ap (λ xs. take n (set items p (f items) ++ xs)) (drop_all (length (set items p (f items))) items (omega (arith, long)))
      ∙ ap (take n) (append-nil (set items p (f items))) ∙ take_all n (set items p (f items)) (omega (arith, e, long))
