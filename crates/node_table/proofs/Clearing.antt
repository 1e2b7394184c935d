-- How far the places of a client are cleared.
use Rattle.std.proofs.Common.{◌≡◌, ◌≢◌, ◌<◌, ◌≤◌, ◌+◌, ◌∙◌, ℕ, List, length, get_or, set, Option, Some, None, refl, ap, inl, inr, arith}
use Rattle.std.proofs.lemmas.Bool.{cases_eq}
use Rattle.std.proofs.lemmas.List.{get_or-set_same, get_or-set_other}
use Rattle.node_table.specs.Kept.{at_place, AreNodesKept}
use Rattle.node_table.proofs.Places.{key_within, drop-elsewhere, drop-kept}

pub none_if_not : {A : Type 0} (o : Option A) → ((x : A) → o ≡ Some x → ⊥) → o ≡ None
none_if_not None h = refl
none_if_not (Some x) h = absurd (h x refl)

module _ {V X : Type 0} (names : List (Option V)) (keys : List (Option ℕ)) (slots : List (Option X)) (first : ℕ) where
  -- from `first` up to `place` there are no keys any more, and all else is as it was
  pub record IsCleared (place : ℕ) (names' : List (Option V)) (keys' : List (Option ℕ)) (slots' : List (Option X)) : Type 0 where
    pub same : names' ≡ names
    pub kept : AreNodesKept names' keys' slots'
    pub low : (i : ℕ) → i < first → at_place keys' slots' i ≡ at_place keys slots i
    pub high : (i : ℕ) → place ≤ i → at_place keys' slots' i ≡ at_place keys slots i
    pub gone : (i : ℕ) → first ≤ i → i < place → get_or keys' i None ≡ None

  pub cleared-start : AreNodesKept names keys slots → IsCleared first names keys slots
  cleared-start kept = record { same = refl; kept = kept; low = λ i l. refl; high = λ i l. refl; gone = λ i l h. absurd (omega arith) }

  -- there was nothing at the place
  pub cleared-none : (place : ℕ) (names' : List (Option V)) (keys' : List (Option ℕ)) (slots' : List (Option X)) → IsCleared place names' keys' slots' → get_or keys' place None ≡ None → IsCleared (place + 1) names' keys' slots'
  cleared-none place names' keys' slots' h none =
      record {
        same = h.same;
        kept = h.kept;
        low = h.low;
        high = λ i l. h.high i (omega arith);
        gone = λ i l b. elim (cases_eq i place) [
          | inl same ↦ ap (λ j. get_or keys' j None) same ∙ none
          | inr ne ↦ h.gone i l (omega arith)
        ];
      }

  -- a node at the place went
  pub cleared-some : (place : ℕ) (names' : List (Option V)) (keys' : List (Option ℕ)) (slots' slots'' : List (Option X)) (key : ℕ) → IsCleared place names' keys' slots' → first ≤ place → get_or keys' place None ≡ Some key → get_or slots'' key None ≡ None → ((k : ℕ) → k ≢ key → get_or slots'' k None ≡ get_or slots' k None) →
      IsCleared (place + 1) names' (set keys' place None) slots''
  cleared-some place names' keys' slots' slots'' key h after was gone others =
      let inside : place < length keys' = key_within keys' place key was in
      record {
        same = h.same;
        kept = drop-kept names' keys' slots' slots'' h.kept place key inside was others gone;
        low = λ i l. drop-elsewhere names' keys' slots' slots'' h.kept place key inside was others i (omega arith) ∙ h.low i l;
        high = λ i l. drop-elsewhere names' keys' slots' slots'' h.kept place key inside was others i (omega arith) ∙ h.high i (omega arith);
        gone = λ i l b. elim (cases_eq i place) [
          | inl same ↦ ap (λ j. get_or (set keys' place None) j None) same ∙ get_or-set_same keys' place None None inside
          | inr ne ↦ get_or-set_other keys' place i None None ne ∙ h.gone i l (omega arith)
        ];
      }
