-- A map whose values are made of another's.
use Rattle.std.proofs.Common.{◌≡◌, ◌≢◌, ℕ, Bool, true, false, cond, List, [], ◌∷◌, map, Option, Some, refl, sym, ap, ◌∙◌}
use Rattle.std.specs.Option.{option_map}
use Rattle.std.specs.Ordering.{nat_cmp, eq_by_cmp}
use Rattle.std.specs.Cmp.{nat_cmp_total}
use Rattle.std.specs.FinMap
use Rattle.std.specs.FinMap.{FinMap, find, get-entries, get-from_entries, get-empty, same_map, nat_cmp-IsAntisymmetric}
use Rattle.node_table.proofs.Numbered.{same_key, tied_itself, get-insert_same, get-insert_other, get-remove_same, get-remove_other}
use Rattle.std.proofs.lemmas.Bool.{false≢true}
use Rattle.seq_clients.specs.Mapped.{with_values}

-- maps that agree at a key and apart from it are one
pub by_key : {Y : Type 0} (m n : FinMap nat_cmp Y) (k : ℕ) → FinMap.get m k ≡ FinMap.get n k → ((q : ℕ) → q ≢ k → FinMap.get m q ≡ FinMap.get n q) → m ≡ n
by_key {Y} m n k here there = same_map nat_cmp_total nat_cmp-IsAntisymmetric m n (λ q. go q (eq_by_cmp nat_cmp q k) refl)
  where
    go : (q : ℕ) (b : Bool) → eq_by_cmp nat_cmp q k ≡ b → FinMap.get m q ≡ FinMap.get n q
    go q true h = let is : q ≡ k = same_key q k h in ap (FinMap.get m) is ∙ here ∙ ap (FinMap.get n) (sym is)
    go q false h = there q (λ e. ties q e h)
      where
        ties : (q : ℕ) → q ≡ k → eq_by_cmp nat_cmp q k ≡ false → ⊥
        ties q e h = let tied : eq_by_cmp nat_cmp k k ≡ true = tied_itself k in let apart : eq_by_cmp nat_cmp k k ≡ false = ap (λ (x : ℕ). eq_by_cmp nat_cmp x k) (sym e) ∙ h in false≢true (sym apart ∙ tied)

module _ {X Y : Type 0} where
  found : (f : ℕ → X → Y) (q : ℕ) (es : List (ℕ × X)) → find nat_cmp q (map (λ e. (e.0, f e.0 e.1)) es) ≡ option_map (f q) (find nat_cmp q es)
  found f q [] = refl
  found f q (e ∷ es) = go (eq_by_cmp nat_cmp q e.0) refl (found f q es)
    where
      rest : Option Y
      rest = find nat_cmp q (map (λ x. (x.0, f x.0 x.1)) es)

      go : (b : Bool) → eq_by_cmp nat_cmp q e.0 ≡ b → rest ≡ option_map (f q) (find nat_cmp q es) → cond b (Some (f e.0 e.1)) rest ≡ option_map (f q) (cond b (Some e.1) (find nat_cmp q es))
      go true h more = ap (λ (k : ℕ). Some (f k e.1)) (sym (same_key q e.0 h))
      go false h more = more

  pub get-mapped : (f : ℕ → X → Y) (m : FinMap nat_cmp X) (q : ℕ) → FinMap.get (with_values f m) q ≡ option_map (f q) (FinMap.get m q)
  get-mapped f m q = get-from_entries nat_cmp_total (map (λ e. (e.0, f e.0 e.1)) (FinMap.entries m)) q ∙ found f q (FinMap.entries m) ∙ ap (option_map (f q)) (sym (get-entries m q))

  pub mapped-empty : (f : ℕ → X → Y) → with_values f FinMap.empty ≡ FinMap.empty
  mapped-empty f =
      same_map nat_cmp_total nat_cmp-IsAntisymmetric _ _ (λ q. get-mapped f FinMap.empty q ∙ ap (option_map (f q)) (get-empty nat_cmp q) ∙ sym (get-empty nat_cmp q))

  -- one value more, where the others' making stays the same
  pub mapped-insert : (f g : ℕ → X → Y) (m : FinMap nat_cmp X) (k : ℕ) (x : X) → ((q : ℕ) → q ≢ k → g q ≡ f q) → with_values g (FinMap.insert m k x) ≡ FinMap.insert (with_values f m) k (g k x)
  mapped-insert f g m k x same =
      by_key _ _ k (get-mapped g (FinMap.insert m k x) k ∙ ap (option_map (g k)) (get-insert_same m k x) ∙ sym (get-insert_same (with_values f m) k (g k x)))
      (λ q ne. get-mapped g (FinMap.insert m k x) q ∙ ap (option_map (g q)) (get-insert_other m k x q ne) ∙ ap (λ (h : X → Y). option_map h (FinMap.get m q)) (same q ne)
      ∙ sym (get-mapped f m q) ∙ sym (get-insert_other (with_values f m) k (g k x) q ne))

  pub mapped-remove : (f : ℕ → X → Y) (m : FinMap nat_cmp X) (k : ℕ) → with_values f (FinMap.remove m k) ≡ FinMap.remove (with_values f m) k
  mapped-remove f m k =
      by_key _ _ k (get-mapped f (FinMap.remove m k) k ∙ ap (option_map (f k)) (get-remove_same m k) ∙ sym (get-remove_same (with_values f m) k))
      (λ q ne. get-mapped f (FinMap.remove m k) q ∙ ap (option_map (f q)) (get-remove_other m k q ne) ∙ sym (get-mapped f m q) ∙ sym (get-remove_other (with_values f m) k q ne))
