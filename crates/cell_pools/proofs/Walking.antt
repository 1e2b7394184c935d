-- Going over a client's cells from the last to the first, where each may be taken.
use Rattle.std.proofs.Common.{◌≡◌, ◌≢◌, ◌<◌, ◌≤◌, ◌+◌, ◌∙◌, ℕ, zero, suc, true, false, List, [], ◌∷◌, length, take, Option, Some, None, refl, ap, sym, subst, inl, inr, arith}
use Rattle.std.specs.Prelude.{slice_get, IsSome}
use Rattle.std.proofs.lemmas.Bool.{cases_eq, eq-eqb, false≢true}
use Rattle.std.proofs.lemmas.List.{take-take}
use Rattle.std.proofs.lemmas.Option.{none-some, slice_get_within}
use Rattle.std.specs.FinMap.{get}
use Rattle.node_table.proofs.Places.{not_both, some_is}
use Rattle.node_table.proofs.Numbered.{get-remove_same, get-remove_other}
use Rattle.cell_pools.specs.Cells.{Store, size_of, keys_of, cells_of, used_by, is_of, owns, AreKeys, StandsAt, SameBefore, IsTaken}
use Rattle.cell_pools.proofs.Maps.{len-keys}
use Rattle.cell_pools.proofs.Gathering.{of_client, in_client}

-- The keys of a client from a place on are gone, those before it stand where they stood, and all others stay.
pub record IsWalked {T : Type 0} (client index : ℕ) (old now : Store T) : Type 0 where
  pub before : SameBefore index (keys_of old client) (keys_of now client)
  pub gone : (i key : ℕ) → index ≤ i → StandsAt (keys_of old client) i key → get now.cells key ≡ None
  pub others : (key : ℕ) → owns old client key ≡ false → get now.cells key ≡ get old.cells key
  pub fewer : (key : ℕ) → IsSome (get now.cells key) → get now.cells key ≡ get old.cells key
  pub sizes : (q : ℕ) → size_of now q ≡ size_of old q

pub slice_get-take : (n : ℕ) (xs : List ℕ) (i : ℕ) → i < n → slice_get (take n xs) i ≡ slice_get xs i
slice_get-take zero xs i l = absurd (omega arith)
slice_get-take (suc n) [] i l = refl
slice_get-take (suc n) (x ∷ xs) zero l = refl
slice_get-take (suc n) (x ∷ xs) (suc i) l = slice_get-take n xs i (omega arith)

module _ {T : Type 0} (client : ℕ) (old : Store T) where
  pub walked-start : (n : ℕ) → n ≡ length (keys_of old client) → IsWalked client n old old
  walked-start n all =
      record {
        before = refl;
        gone = λ i key l e. absurd (let within : i < length (keys_of old client) = slice_get_within (keys_of old client) i key e in omega (arith, all));
        others = λ key no. refl;
        fewer = λ key some. refl;
        sizes = λ q. refl;
      }

  module _ (now : Store T) (n i : ℕ) (next : n ≡ i + 1) (was : IsWalked client n old now) where
    h : IsWalked client (i + 1) old now
    h = subst (λ m. IsWalked client m old now) next was

    same_key : slice_get (keys_of now client) i ≡ slice_get (keys_of old client) i
    same_key =
        sym (slice_get-take (i + 1) (keys_of now client) i (omega arith)) ∙ ap (λ ks. slice_get ks i) h.before ∙ slice_get-take (i + 1) (keys_of old client) i (omega arith)

    same_front : take i (keys_of now client) ≡ take i (keys_of old client)
    same_front =
        sym (take-take i (i + 1) (keys_of now client) (omega arith)) ∙ ap (take i) h.before ∙ take-take i (i + 1) (keys_of old client) (omega arith)

    -- no key stands there
    pub walked-none : slice_get (keys_of now client) i ≡ None → IsWalked client i old now
    walked-none none =
        record {
          before = same_front;
          gone = λ j key l e. elim (cases_eq j i) [
            | inl same ↦ absurd (none-some key (sym none ∙ same_key ∙ ap (slice_get (keys_of old client)) (sym same) ∙ e))
            | inr ne ↦ h.gone j key (omega arith) e
          ];
          others = h.others;
          fewer = h.fewer;
          sizes = h.sizes;
        }

    -- the cell of the key that stands there was taken
    pub walked-taken : (now' : Store T) (key : ℕ) → AreKeys (cells_of old.cells client) (keys_of old client) → slice_get (keys_of now client) i ≡ Some key → IsTaken now now' key → IsWalked client i old now'
    walked-taken now' key keys at taken =
        record {
          before = taken.before client i at ∙ same_front;
          gone = λ j k l e. elim (cases_eq k key) [
            | inl same ↦ ap (get now'.cells) same ∙ here
            | inr ne ↦ there k ne ∙ h.gone j k (elim (cases_eq j i) [ inl is ↦ absurd (ne (same_some k key (sym e ∙ ap (slice_get (keys_of old client)) is ∙ sym same_key ∙ at))) | inr apart ↦ omega arith ]) e
          ];
          others = λ k no. there k (λ same. false≢true (sym no ∙ ap (owns old client) same ∙ owned)) ∙ h.others k no;
          fewer = λ k some. elim (cases_eq k key) [
            | inl same ↦ absurd (not_both _ some (ap (get now'.cells) same ∙ here))
            | inr ne ↦ there k ne ∙ h.fewer k (subst IsSome (there k ne) some)
          ];
          sizes = λ q. taken.sizes q ∙ h.sizes q;
        }
      where
        same_some : (a b : ℕ) → ◌≡◌ {A = Option ℕ} (Some a) (Some b) → a ≡ b
        same_some a b e = cc

        here : get now'.cells key ≡ None
        here = ap (λ m. get m key) taken.cells ∙ get-remove_same now.cells key

        there : (k : ℕ) → k ≢ key → get now'.cells k ≡ get now.cells k
        there k ne = ap (λ m. get m k) taken.cells ∙ get-remove_other now.cells key k ne

        owned : owns old client key ≡ true
        owned =
            let cell = of_client old.cells client key (keys.there i key (sym same_key ∙ at)) in
            ap (is_of client) cell.1 ∙ eq-eqb (cell.0).0 client cell.2

  -- none is left
  pub walked-end : (now : Store T) (n : ℕ) → AreKeys (cells_of old.cells client) (keys_of old client) → n ≤ 0 → IsWalked client n old now → used_by now.cells client ≡ 0
  walked-end now n keys done h =
      len-keys [] (cells_of now.cells client) (record {
        there = λ i key e. absurd (none-some key e);
        all = λ key some. absurd (nothing key some);
        once = λ i j key e f. absurd (none-some key e);
      })
    where
      nothing : (key : ℕ) → IsSome (get (cells_of now.cells client) key) → ⊥
      nothing key some =
          let cell = of_client now.cells client key some in
          let there : IsSome (get now.cells key) = some_is _ cell.0 cell.1 in
          let at = keys.all key (in_client old.cells client key cell.0 (sym (h.fewer key there) ∙ cell.1) cell.2) in
          not_both _ there (h.gone at.0 key (omega (arith, done)) at.1)
