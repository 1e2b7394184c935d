-- A map that is kept as an array of what stands at each number.
use Rattle.std.proofs.Common.{◌≡◌, ◌≢◌, ◌<◌, ◌+◌, ◌∙◌, ℕ, Bool, true, false, nat_lt, refl, List, length, get_or, set, Option, Some, None, ap, sym, arith}
use Rattle.std.proofs.lemmas.List.{get_or_default, get_or-set_same, get_or-set_other}
use Rattle.std.proofs.lemmas.Bool.Decides.{nat_tests}
use Rattle.std.specs.Ordering.{nat_cmp}
use Rattle.std.specs.FinMap
use Rattle.std.specs.FinMap.{FinMap, get}
use Rattle.node_table.specs.Kept.{numbered_map}
use Rattle.node_table.proofs.Numbered.{get-numbered, get-above, numbered_none, numbered_insert, numbered_remove}

module _ {A X : Type 0} (g : Option A → Option X) (base n : ℕ) where
  -- what is seen of what stands there
  abbrev pub seen : List (Option A) → FinMap nat_cmp X
  seen slots = numbered_map base n (λ r. g (get_or slots r None))

  pub empty_seen : (slots : List (Option A)) → ((i : ℕ) → get_or slots i None ≡ None) → g None ≡ None → seen slots ≡ FinMap.empty
  empty_seen slots none e = numbered_none base n _ (λ i l. ap g (none i) ∙ e)

  module _ (slots : List (Option A)) (m : FinMap nat_cmp X) (view : seen slots ≡ m) (long : length slots ≡ n) (key i : ℕ) (at : key ≡ base + i) (below : i < n) where
    pub get_at : (d : Option A) → g (get_or slots i d) ≡ get m key
    get_at d =
        ap g (get_or_default slots i d None (omega (arith, long))) ∙ sym (get-numbered base n i (λ r. g (get_or slots r None)) below)
        ∙ ap (λ (t : FinMap nat_cmp X). get t (base + i)) view ∙ ap (get m) (sym at)

    here : (h : Option A) → g (get_or (set slots i h) i None) ≡ g h
    here h = ap g (get_or-set_same slots i h None (omega (arith, long)))

    apart : (h : Option A) (r : ℕ) → r < n → r ≢ i → g (get_or (set slots i h) r None) ≡ g (get_or slots r None)
    apart h r l ne = ap g (get_or-set_other slots i r h None ne)

    pub inserted : (h : Option A) (x : X) → g h ≡ Some x → seen (set slots i h) ≡ FinMap.insert m key x
    inserted h x e =
        numbered_insert base n i (λ r. g (get_or slots r None)) (λ r. g (get_or (set slots i h) r None)) x below (here h ∙ e) (apart h)
        ∙ ap (λ (t : FinMap nat_cmp X). FinMap.insert t (base + i) x) view ∙ ap (λ (k : ℕ). FinMap.insert m k x) (sym at)

    pub removed : (h : Option A) → g h ≡ None → seen (set slots i h) ≡ FinMap.remove m key
    removed h e =
        numbered_remove base n i (λ r. g (get_or slots r None)) (λ r. g (get_or (set slots i h) r None)) below (here h ∙ e) (apart h)
        ∙ ap (λ (t : FinMap nat_cmp X). FinMap.remove t (base + i)) view ∙ ap (λ (k : ℕ). FinMap.remove m k) (sym at)

-- what is there has a number of the array
pub under : {X : Type 0} (n : ℕ) (slots : List (Option X)) (m : FinMap nat_cmp X) → numbered_map 0 n (λ r. get_or slots r None) ≡ m → (key : ℕ) (x : X) → get m key ≡ Some x → key < n
under {X = X} n slots m view key x at = go (nat_lt key n) refl
  where
    some_none : None ≡ Some x → key < n
    some_none e = cc

    go : (b : Bool) → nat_lt key n ≡ b → key < n
    go true t = grind (arith, nat_tests, t)
    go false t = some_none (sym (get-above 0 n key (λ r. get_or slots r None) (grind (arith, nat_tests, t))) ∙ ap (λ (k : FinMap nat_cmp X). get k key) view ∙ at)
