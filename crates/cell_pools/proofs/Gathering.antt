-- The keys of all clients, client by client.
use Rattle.std.proofs.Common.{◌≡◌, ◌<◌, ◌≤◌, ◌+◌, ◌∙◌, ◌⊎◌, ℕ, zero, suc, cond, List, [], ◌∷◌, ◌++◌, length, Option, Some, None, refl, ap, sym, subst, inl, inr, arith}
use Rattle.std.specs.Prelude.{slice_get, IsSome}
use Rattle.std.proofs.lemmas.Bool.{cases_eq, eq-eqb, ne_eqb}
use Rattle.std.proofs.lemmas.Option.{same_Some, none-some}
use Rattle.std.specs.FinMap.{get}
use Rattle.cell_pools.specs.Cells.{Cells, AreKeys, is_of, cells_of}
use Rattle.node_table.proofs.Places.{not_both, some_is}
use Rattle.cell_pools.proofs.Maps.{get-cells_of}

append_cases : (xs ys : List ℕ) (i k : ℕ) → slice_get (xs ++ ys) i ≡ Some k → (slice_get xs i ≡ Some k) ⊎ ((j : ℕ) × (i ≡ length xs + j) × (slice_get ys j ≡ Some k))
append_cases [] ys i k e = inr (i, omega arith, e)
append_cases (x ∷ xs) ys zero k e = inl e
append_cases (x ∷ xs) ys (suc i) k e = elim (append_cases xs ys i k e) [ inl old ↦ inl old | inr new ↦ inr (new.0, omega (arith, new.1), new.2) ]

append_left : (xs ys : List ℕ) (i k : ℕ) → slice_get xs i ≡ Some k → slice_get (xs ++ ys) i ≡ Some k
append_left [] ys i k e = absurd (none-some k e)
append_left (x ∷ xs) ys zero k e = e
append_left (x ∷ xs) ys (suc i) k e = append_left xs ys i k e

append_right : (xs ys : List ℕ) (j k : ℕ) → slice_get ys j ≡ Some k → (i : ℕ) × (slice_get (xs ++ ys) i ≡ Some k)
append_right [] ys j k e = (j, e)
append_right (x ∷ xs) ys j k e = let more = append_right xs ys j k e in (suc more.0, more.1)

module _ {T : Type 0} where
  -- The keys of the cells whose client has a lower number, each once.
  pub record AreGathered (cells : Cells T) (below : ℕ) (keys : List ℕ) : Type 0 where
    pub there : (i key : ℕ) → slice_get keys i ≡ Some key → (c : ℕ × T) × (get cells key ≡ Some c) × (c.0 < below)
    pub all : (key : ℕ) (c : ℕ × T) → get cells key ≡ Some c → c.0 < below → (i : ℕ) × (slice_get keys i ≡ Some key)
    pub once : (i j key : ℕ) → slice_get keys i ≡ Some key → slice_get keys j ≡ Some key → i ≡ j

  pub of_client : (cells : Cells T) (client key : ℕ) → IsSome (get (cells_of cells client) key) → (c : ℕ × T) × (get cells key ≡ Some c) × (c.0 ≡ client)
  of_client cells client key some = by (get cells key) refl
    where
      is : (o : Option (ℕ × T)) → get cells key ≡ o → get (cells_of cells client) key ≡ cond (is_of client o) o None
      is o e = get-cells_of cells client key ∙ ap (λ o. cond (is_of client o) o None) e

      by : (o : Option (ℕ × T)) → get cells key ≡ o → (c : ℕ × T) × (get cells key ≡ Some c) × (c.0 ≡ client)
      by None e = absurd (not_both _ some (is None e))
      by (Some c) e = elim (cases_eq c.0 client) [
        | inl same ↦ (c, e, same)
        | inr ne ↦ absurd (not_both _ some (is (Some c) e ∙ ap (λ b. cond b (Some c) None) (ne_eqb c.0 client ne)))
      ]

  pub in_client : (cells : Cells T) (client key : ℕ) (c : ℕ × T) → get cells key ≡ Some c → c.0 ≡ client → IsSome (get (cells_of cells client) key)
  in_client cells client key c e same =
      some_is _ c (get-cells_of cells client key ∙ ap (λ o. cond (is_of client o) o None) e ∙ ap (λ b. cond b (Some c) None) (eq-eqb c.0 client same))

  pub gathered-start : (cells : Cells T) (below : ℕ) (keys : List ℕ) → ((key : ℕ) (c : ℕ × T) → get cells key ≡ Some c → below ≤ c.0) → keys ≡ [] → AreGathered cells below keys
  gathered-start cells below keys known e =
      subst (λ ks. AreGathered cells below ks) (sym e) (record {
        there = λ i key f. absurd (none-some key f);
        all = λ key c f l. absurd (omega (arith, known key c f));
        once = λ i j key f g. absurd (none-some key f);
      })

  gathered-append : (cells : Cells T) (below : ℕ) (xs ys : List ℕ) → AreGathered cells below xs → AreKeys (cells_of cells below) ys → AreGathered cells (below + 1) (xs ++ ys)
  gathered-append cells below xs ys old new =
      record {
        there = λ i key e. elim (append_cases xs ys i key e) [
          | inl a ↦ let c = old.there i key a in (c.0, c.1, omega (arith, c.2))
          | inr b ↦ let c = of_client cells below key (new.there b.0 key b.2) in (c.0, c.1, omega (arith, c.2))
        ];
        all = λ key c e l. elim (cases_eq c.0 below) [
          | inl same ↦ let at = new.all key (in_client cells below key c e same) in append_right xs ys at.0 key at.1
          | inr ne ↦ let at = old.all key c e (omega arith) in (at.0, append_left xs ys at.0 key at.1)
        ];
        once = λ i j key e f. elim (append_cases xs ys i key e) [
          | inl a ↦ elim (append_cases xs ys j key f) [
            | inl b ↦ old.once i j key a b
            | inr b ↦ absurd (apart i b.0 key a b.2)
          ]
          | inr a ↦ elim (append_cases xs ys j key f) [
            | inl b ↦ absurd (apart j a.0 key b a.2)
            | inr b ↦ let same : a.0 ≡ b.0 = new.once a.0 b.0 key a.2 b.2 in omega (arith, a.1, b.1)
          ]
        ];
      }
    where
      apart : (i j key : ℕ) → slice_get xs i ≡ Some key → slice_get ys j ≡ Some key → ⊥
      apart i j key a b =
          let low = old.there i key a in
          let here = of_client cells below key (new.there j key b) in
          let same : low.0 ≡ here.0 = same_Some _ _ (sym low.1 ∙ here.1) in
          let number : (low.0).0 ≡ (here.0).0 = ap (λ (c : ℕ × T). c.0) same in
          omega (arith, low.2, here.2)

  pub gathered-more : (cells : Cells T) (below : ℕ) (xs ys listed gathered : List ℕ) → AreGathered cells below xs → AreKeys (cells_of cells below) ys → listed ≡ ys → gathered ≡ xs ++ listed → AreGathered cells (below + 1) gathered
  gathered-more cells below xs ys listed gathered old new same is =
      subst (λ ks. AreGathered cells (below + 1) ks) (sym (is ∙ ap (λ ks. xs ++ ks) same)) (gathered-append cells below xs ys old new)

  pub gathered-end : (cells : Cells T) (below : ℕ) (keys : List ℕ) → ((key : ℕ) (c : ℕ × T) → get cells key ≡ Some c → c.0 < below) → AreGathered cells below keys → AreKeys cells keys
  gathered-end cells below keys known h =
      record {
        there = λ i key e. let c = h.there i key e in some_is _ c.0 c.1;
        all = λ key some. by key (get cells key) refl some;
        once = h.once;
      }
    where
      by : (key : ℕ) (o : Option (ℕ × T)) → get cells key ≡ o → IsSome (get cells key) → (i : ℕ) × (slice_get keys i ≡ Some key)
      by key None e some = absurd (not_both _ some e)
      by key (Some c) e some = h.all key c e (known key c e)
