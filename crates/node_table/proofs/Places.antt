-- What stands at the places after a change.
use Rattle.std.proofs.Common.{◌≡◌, ◌≢◌, ◌<◌, ◌≤◌, ◌+◌, ◌-◌, ◌*◌, ◌⊎◌, ◌++◌, ◌∙◌, ℕ, zero, suc, Bool, true, List, [], ◌∷◌, length, take, replicate, if◌then◌else◌, get_or, set, Option, Some, None, is_some, false, refl, ap, sym, subst, inl, inr, arith}
use Rattle.std.specs.Prelude.{IsSome}
use Rattle.std.proofs.lemmas.Bool.{cases_eq}
use Rattle.std.proofs.lemmas.Bool.Decides.{leb_tells}
use Rattle.std.proofs.lemmas.List.{get_or-set_same, get_or-set_other, get_or_past, get_or_append_left, get_or-replicate, length-replicate, length-set, take_all}
use Rattle.std.proofs.Math.Seq.{get_or-append_right}
use Rattle.node_table.specs.Kept.{under, at_place, IsTable, ReadsAs, AreNodesKept}

-- within a list the value for what is past it is never taken
pub get_within : {A : Type 0} (xs : List A) (i : ℕ) (d e : A) → i < length xs → get_or xs i d ≡ get_or xs i e
get_within [] i d e l = absurd (omega arith)
get_within (x ∷ xs) zero d e l = refl
get_within (x ∷ xs) (suc i) d e l = get_within xs i d e (omega arith)

module _ {X : Type 0} where
  pub not_both : (o : Option X) → IsSome o → o ≡ None → ⊥
  not_both o s e = let no : is_some o ≡ false = ap is_some e in cc

  pub some_is : (o : Option X) (x : X) → o ≡ Some x → IsSome o
  some_is o x e = ap is_some e

  pub no_some : (x : X) → ◌≢◌ {A = Option X} (Some x) None
  no_some x e = cc

  pub some_same : (x y : X) → ◌≡◌ {A = Option X} (Some x) (Some y) → x ≡ y
  some_same x y e = cc

-- a list reads as before after an end that has this value alone
pub read-append : {X : Type 0} (xs ys : List X) (x : X) → ((i : ℕ) → get_or ys i x ≡ x) → ReadsAs x (xs ++ ys) xs
read-append xs ys x h i = elim (leb_tells (length xs) i) [
  | inl past ↦ get_or-append_right xs ys i x past.1 ∙ h (i - length xs) ∙ sym (get_or_past xs i x past.1)
  | inr within ↦ get_or_append_left xs ys x i within.1
]

read-replicate : {X : Type 0} (n : ℕ) (x : X) (i : ℕ) → get_or (replicate n x) i x ≡ x
read-replicate n x i = elim (leb_tells n i) [
  | inl past ↦ get_or_past (replicate n x) i x (omega (arith, past.1, length-replicate n x))
  | inr within ↦ get_or-replicate n i x x within.1
]

pub filled_up : {X : Type 0} (old new : List X) (x : X) (n m : ℕ) (b : Bool) → length old ≤ n → new ≡ (if b then take n old ++ replicate m x else old) → ReadsAs x new old
filled_up old new x n m false h e i = ap (λ xs. get_or xs i x) e
filled_up old new x n m true h e i =
    ap (λ xs. get_or xs i x) (e ∙ ap (λ xs. xs ++ replicate m x) (take_all n old h)) ∙ read-append old (replicate m x) x (read-replicate m x) i

pub table_length : {X : Type 0} (xs : List X) → IsTable xs → length xs ≤ 2048
table_length xs h = by (length xs) h
  where
    by : (n : ℕ) → (0 < n → n ≡ 2048) → n ≤ 2048
    by zero h = omega arith
    by (suc n) h = let e : suc n ≡ 2048 = h (omega arith) in omega arith

pub table-set : {X : Type 0} (xs : List X) (i : ℕ) (x : X) → IsTable xs → IsTable (set xs i x)
table-set xs i x h = subst (λ n. 0 < n → n ≡ 2048) (sym (length-set xs i x)) h

-- where a key stands there is a place
pub key_within : (keys : List (Option ℕ)) (i k : ℕ) → get_or keys i None ≡ Some k → i < length keys
key_within keys i k e = elim (leb_tells (length keys) i) [
  | inl past ↦ absurd (no_some k (sym e ∙ get_or_past keys i None past.1))
  | inr within ↦ within.1
]

module _ {V X : Type 0} (names : List (Option V)) (keys : List (Option ℕ)) (slots slots' : List (Option X)) (kept : AreNodesKept names keys slots) where
  -- what the keys of a list find stays, where each of these keys finds what it found
  pub at_place-same : (keys' : List (Option ℕ)) (i : ℕ) → get_or keys' i None ≡ get_or keys i None → ((k : ℕ) → get_or keys i None ≡ Some k → get_or slots' k None ≡ get_or slots k None) → at_place keys' slots' i ≡ at_place keys slots i
  at_place-same keys' i e h = ap (under slots') e ∙ by (get_or keys i None) h
    where
      by : (o : Option ℕ) → ((k : ℕ) → o ≡ Some k → get_or slots' k None ≡ get_or slots k None) → under slots' o ≡ under slots o
      by None h = refl
      by (Some k) h = h k refl

  module _ (place key : ℕ) (x : X) (in_range : place < length keys) (vacant : get_or slots key None ≡ None) (changed : get_or slots' key None ≡ Some x) (others : (k : ℕ) → k ≢ key → get_or slots' k None ≡ get_or slots k None) where
    other_key : (i k : ℕ) → get_or keys i None ≡ Some k → k ≢ key
    other_key i k e same = not_both _ (kept.full i k e) (ap (λ q. get_or slots q None) same ∙ vacant)

    pub put-here : at_place (set keys place (Some key)) slots' place ≡ Some x
    put-here = ap (under slots') (get_or-set_same keys place (Some key) None in_range) ∙ changed

    pub put-elsewhere : (i : ℕ) → i ≢ place → at_place (set keys place (Some key)) slots' i ≡ at_place keys slots i
    put-elsewhere i ne = at_place-same _ i (get_or-set_other keys place i (Some key) None ne) (λ k e. others k (other_key i k e))

    -- a key that stands somewhere now
    put-cases : (i k : ℕ) → get_or (set keys place (Some key)) i None ≡ Some k → ((i ≡ place) × (k ≡ key)) ⊎ ((i ≢ place) × (get_or keys i None ≡ Some k))
    put-cases i k e = elim (cases_eq i place) [
      | inl same ↦ let at : get_or (set keys place (Some key)) i None ≡ Some key = ap (λ j. get_or (set keys place (Some key)) j None) same ∙ get_or-set_same keys place (Some key) None in_range in
          inl (same, cc)
      | inr ne ↦ inr (ne, sym (get_or-set_other keys place i (Some key) None ne) ∙ e)
    ]

    pub put-kept : (row p : ℕ) → place ≡ row * 32 + p → p < 32 → get_or names row None ≢ None → get_or keys place None ≡ None → AreNodesKept names (set keys place (Some key)) slots'
    put-kept row p is l opens free =
        record {
          rows = kept.rows;
          places = table-set keys place (Some key) kept.places;
          full = λ i k e. elim (put-cases i k e) [
            | inl h ↦ some_is _ x (ap (λ q. get_or slots' q None) h.1 ∙ changed)
            | inr h ↦ subst IsSome (sym (others k (other_key i k h.1))) (kept.full i k h.1)
          ];
          no_leak = λ k s. elim (cases_eq k key) [
            | inl same ↦ (place, get_or-set_same keys place (Some key) None in_range ∙ ap Some (sym same))
            | inr ne ↦ let at = kept.no_leak k (subst IsSome (others k ne) s) in
                (at.0, get_or-set_other keys place at.0 (Some key) None (λ here. no_some k (sym at.1 ∙ ap (λ i. get_or keys i None) here ∙ free)) ∙ at.1)
          ];
          apart = λ i j k e f. elim (put-cases i k e) [
            | inl h ↦ elim (put-cases j k f) [
              | inl g ↦ h.0 ∙ sym g.0
              | inr g ↦ absurd (other_key j k g.1 h.1)
            ]
            | inr h ↦ elim (put-cases j k f) [
              | inl g ↦ absurd (other_key i k h.1 g.1)
              | inr g ↦ kept.apart i j k h.1 g.1
            ]
          ];
          closed = λ r q s e. let differs : r ≢ row = λ same. opens (ap (λ t. get_or names t None) (sym same) ∙ e) in
              let apart : r * 32 + q ≢ place = omega arith in
              get_or-set_other keys place (r * 32 + q) (Some key) None apart ∙ kept.closed r q s e;
        }

  module _ (place key : ℕ) (in_range : place < length keys) (was : get_or keys place None ≡ Some key) (others : (k : ℕ) → k ≢ key → get_or slots' k None ≡ get_or slots k None) where
    pub drop-here : at_place (set keys place None) slots' place ≡ None
    drop-here = ap (under slots') (get_or-set_same keys place None None in_range)

    pub drop-elsewhere : (i : ℕ) → i ≢ place → at_place (set keys place None) slots' i ≡ at_place keys slots i
    drop-elsewhere i ne = at_place-same _ i (get_or-set_other keys place i None None ne) (λ k e. others k (λ same. ne (kept.apart i place k e (was ∙ ap Some (sym same)))))

    drop-was : (i k : ℕ) → get_or (set keys place None) i None ≡ Some k → (i ≢ place) × (get_or keys i None ≡ Some k)
    drop-was i k e = elim (cases_eq i place) [
      | inl same ↦ let at : get_or (set keys place None) i None ≡ None = ap (λ j. get_or (set keys place None) j None) same ∙ get_or-set_same keys place None None in_range in
          absurd (no_some k (sym e ∙ at))
      | inr ne ↦ (ne, sym (get_or-set_other keys place i None None ne) ∙ e)
    ]

    pub drop-kept : get_or slots' key None ≡ None → AreNodesKept names (set keys place None) slots'
    drop-kept gone =
        record {
          rows = kept.rows;
          places = table-set keys place None kept.places;
          full = λ i k e. let h : (i ≢ place) × (get_or keys i None ≡ Some k) = drop-was i k e in
              subst IsSome (sym (others k (λ same. h.0 (kept.apart i place k h.1 (was ∙ ap Some (sym same)))))) (kept.full i k h.1);
          no_leak = λ k s. let differs : k ≢ key = λ same. not_both _ s (ap (λ q. get_or slots' q None) same ∙ gone) in
              let at = kept.no_leak k (subst IsSome (others k differs) s) in
              (at.0, get_or-set_other keys place at.0 None None (λ here. differs (some_same k key (sym at.1 ∙ ap (λ i. get_or keys i None) here ∙ was))) ∙ at.1);
          apart = λ i j k e f. kept.apart i j k (drop-was i k e).1 (drop-was j k f).1;
          closed = λ r q s e. elim (cases_eq (r * 32 + q) place) [
            | inl same ↦ ap (λ j. get_or (set keys place None) j None) same ∙ get_or-set_same keys place None None in_range
            | inr ne ↦ get_or-set_other keys place (r * 32 + q) None None ne ∙ kept.closed r q s e
          ];
        }

  module _ (place key : ℕ) (x : X) (was : get_or keys place None ≡ Some key) (changed : get_or slots' key None ≡ Some x) (others : (k : ℕ) → k ≢ key → get_or slots' k None ≡ get_or slots k None) where
    pub write-here : at_place keys slots' place ≡ Some x
    write-here = ap (under slots') was ∙ changed

    pub write-elsewhere : (i : ℕ) → i ≢ place → at_place keys slots' i ≡ at_place keys slots i
    write-elsewhere i ne = at_place-same _ i refl (λ k e. others k (λ same. ne (kept.apart i place k e (was ∙ ap Some (sym same)))))

    pub write-kept : AreNodesKept names keys slots'
    write-kept =
        record {
          rows = kept.rows;
          places = kept.places;
          full = λ i k e. elim (cases_eq k key) [
            | inl same ↦ some_is _ x (ap (λ q. get_or slots' q None) same ∙ changed)
            | inr ne ↦ subst IsSome (sym (others k ne)) (kept.full i k e)
          ];
          no_leak = λ k s. elim (cases_eq k key) [
            | inl same ↦ (place, was ∙ ap Some (sym same))
            | inr ne ↦ kept.no_leak k (subst IsSome (others k ne) s)
          ];
          apart = kept.apart;
          closed = kept.closed;
        }

-- a table with places reads as one without, and all else is kept
pub read-kept : {V X : Type 0} (names : List (Option V)) (keys keys' : List (Option ℕ)) (slots : List (Option X)) → AreNodesKept names keys slots → IsTable keys' → ReadsAs None keys' keys → AreNodesKept names keys' slots
read-kept names keys keys' slots kept table same =
    record {
      rows = kept.rows;
      places = table;
      full = λ i k e. kept.full i k (sym (same i) ∙ e);
      no_leak = λ k s. let at = kept.no_leak k s in (at.0, same at.0 ∙ at.1);
      apart = λ i j k e f. kept.apart i j k (sym (same i) ∙ e) (sym (same j) ∙ f);
      closed = λ r p s e. same (r * 32 + p) ∙ kept.closed r p s e;
    }

-- a client that was opened keeps no keys, and one that was closed has none left
module _ {V X : Type 0} (names : List (Option V)) (keys : List (Option ℕ)) (slots : List (Option X)) (kept : AreNodesKept names keys slots) where
  pub opens-kept : (row : ℕ) (v : V) → row < length names → AreNodesKept (set names row (Some v)) keys slots
  opens-kept row v l =
      record {
        rows = length-set names row (Some v) ∙ kept.rows;
        places = kept.places;
        full = kept.full;
        no_leak = kept.no_leak;
        apart = kept.apart;
        closed = λ r p s e. elim (cases_eq r row) [
          | inl same ↦ let at : get_or (set names row (Some v)) r None ≡ Some v = ap (λ j. get_or (set names row (Some v)) j None) same ∙ get_or-set_same names row (Some v) None l in
              absurd (no_some v (sym at ∙ e))
          | inr ne ↦ kept.closed r p s (sym (get_or-set_other names row r (Some v) None ne) ∙ e)
        ];
      }

  pub close-kept : (row : ℕ) → row < length names → ((p : ℕ) → p < 32 → get_or keys (row * 32 + p) None ≡ None) → AreNodesKept (set names row None) keys slots
  close-kept row l none =
      record {
        rows = length-set names row None ∙ kept.rows;
        places = kept.places;
        full = kept.full;
        no_leak = kept.no_leak;
        apart = kept.apart;
        closed = λ r p s e. elim (cases_eq r row) [
          | inl same ↦ ap (λ j. get_or keys (j * 32 + p) None) same ∙ none p s
          | inr ne ↦ kept.closed r p s (sym (get_or-set_other names row r None None ne) ∙ e)
        ];
      }
