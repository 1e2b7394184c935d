-- What is left when the edges of a node go, one after another.
use Rattle.std.proofs.Common.{◌≡◌, inl, inr, ℕ, zero, suc, ◌+◌, ◌*◌, ◌-◌, ◌<◌, ◌≤◌, Bool, true, false, not, cond, eqb, ◌||◌, List, [], ◌∷◌, map, length, Option, Some, None, refl, ap, sym, subst, ◌∙◌, arith}
use Rattle.std.specs.List.{filter, list_any, slice_get}
use Rattle.std.specs.Option.{is_some, IfSome, IfNone}
use Rattle.std.proofs.lemmas.Bool.Decides.{nat_tests}
use Rattle.std.proofs.lemmas.Bool.{false≢true, cases_eq, or_cases, eqb-true}
use Rattle.node_table.specs.Addresses.{same}
use Rattle.node_table.specs.Kept.{IsPlace, place_in, is_small}
use Rattle.node_table.specs.declared.number.Addr.{Addr}
use Rattle.node_table.specs.declared.number.Node.{Node}
use Rattle.node_table.specs.declared.number.Node.TheVariants.{Port, Filter}
use Rattle.patch_graph.specs.declared.edge.Edge.{Edge}
use Rattle.patch_graph.specs.declared.edge.Origin.{Origin}
use Rattle.patch_graph.specs.Edges.{edge, is_edge, has_edge, without_edge, touches, touches_client, ends_at_client}
use Rattle.patch_graph.specs.Index.{targets_of, origins_of, LosesOne, HasPlace}
use Rattle.patch_graph.proofs.Lists.{and_both, not_by, not_true, refuted, filter-none, filter-outside, list_any-filter}
use Rattle.patch_graph.proofs.Same.{same-is, same-refl, place-is}
use Rattle.patch_graph.proofs.Indexed.{same_edge}
use Rattle.patch_graph.proofs.Searched.{in_from_get, origins-in}

pub or_true : (b c : Bool) → c ≡ true → (b || c) ≡ true
or_true true c h = refl
or_true false c h = h

-- ---- the neighbours

-- ---- one edge of a node is gone

loses_other : (node : Addr) (e x : Edge) → touches node e ≡ true → not (touches node x) ≡ true → not (is_edge e.source e.target x) ≡ true
loses_other node e x t h = not_by (is_edge e.source e.target x) (λ k. false≢true (sym (not_true (touches node x) h) ∙ ap (touches node) (same_edge e.source e.target x k) ∙ t))

pub loses_kept : (node : Addr) (old new : List Edge) → LosesOne node old new → filter (λ e. not (touches node e)) new ≡ filter (λ e. not (touches node e)) old
loses_kept node old new h =
    ap (filter (λ e. not (touches node e))) h.3
    ∙ filter-outside (λ e. not (touches node e)) (λ x. not (is_edge h.0.source h.0.target x)) (λ x k. loses_other node h.0 x h.2 k) old

filter-less : (p : Edge → Bool) (xs : List Edge) → list_any p xs ≡ true → length (filter (λ x. not (p x)) xs) < length xs
filter-less p [] h = absurd (false≢true h)
filter-less p (x ∷ xs) h = step (p x) h (λ k. filter-less p xs k)
  where
    at_most : (xs : List Edge) → length (filter (λ x. not (p x)) xs) ≤ length xs
    at_most [] = omega arith
    at_most (x ∷ xs) = more (p x) (at_most xs)
      where
        more : (b : Bool) → length (filter (λ x. not (p x)) xs) ≤ length xs → length (cond (not b) (x ∷ filter (λ x. not (p x)) xs) (filter (λ x. not (p x)) xs)) ≤ length (x ∷ xs)
        more true h = omega (arith, h)
        more false h = omega (arith, h)

    step : (b : Bool) → (b || list_any p xs) ≡ true → (list_any p xs ≡ true → length (filter (λ x. not (p x)) xs) < length xs) → length (cond (not b) (x ∷ filter (λ x. not (p x)) xs) (filter (λ x. not (p x)) xs)) < length (x ∷ xs)
    step true h more = let l : length (filter (λ x. not (p x)) xs) ≤ length xs = at_most xs in omega arith
    step false h more = let l : length (filter (λ x. not (p x)) xs) < length xs = more h in omega arith

pub loses_length : (node : Addr) (old new : List Edge) → LosesOne node old new → length new < length old
loses_length node old new h = subst (λ es. length es < length old) (sym h.3) (filter-less (is_edge h.0.source h.0.target) old h.1)

no_cons : (x : Addr) (xs : List Addr) → ◌≡◌ {A = List Addr} (x ∷ xs) [] → ⊥
no_cons x xs e = cc

still_none : (f : Edge → Addr) (p q : Edge → Bool) (xs : List Edge) → map f (filter p xs) ≡ [] → map f (filter p (filter q xs)) ≡ []
still_none f p q [] h = refl
still_none f p q (x ∷ xs) h = step (p x) refl (q x) h (λ k. still_none f p q xs k)
  where
    step : (b : Bool) → p x ≡ b → (c : Bool) → map f (cond b (x ∷ filter p xs) (filter p xs)) ≡ [] → (map f (filter p xs) ≡ [] → map f (filter p (filter q xs)) ≡ []) → map f (filter p (cond c (x ∷ filter q xs) (filter q xs))) ≡ []
    step true e c h more = absurd (no_cons (f x) (map f (filter p xs)) h)
    step false e true h more = ap (λ b. map f (cond b (x ∷ filter p (filter q xs)) (filter p (filter q xs)))) e ∙ more h
    step false e false h more = more h

pub loses_targets : (node : Addr) (old new : List Edge) → LosesOne node old new → targets_of old node ≡ [] → targets_of new node ≡ []
loses_targets node old new h none =
    ap (λ es. targets_of es node) h.3 ∙ still_none (λ e. e.target) (λ e. same node e.source) (λ x. not (is_edge h.0.source h.0.target x)) old none

-- a node with no neighbours touches no edge
alone : (xs : List Edge) (a : Addr) → targets_of xs a ≡ [] → origins_of xs a ≡ [] → list_any (touches a) xs ≡ false
alone [] a h k = refl
alone (e ∷ es) a h k = step (same a e.source) (same a e.target) h k (λ h k. alone es a h k)
  where
    step : (b c : Bool) → map (λ e. e.target) (cond b (e ∷ filter (λ e. same a e.source) es) (filter (λ e. same a e.source) es)) ≡ [] → map (λ e. e.source) (cond c (e ∷ filter (λ e. same a e.target) es) (filter (λ e. same a e.target) es)) ≡ [] →
        (targets_of es a ≡ [] → origins_of es a ≡ [] → list_any (touches a) es ≡ false) → ((b || c) || list_any (touches a) es) ≡ false
    step true c h k more = absurd (no_cons e.target (targets_of es a) h)
    step false true h k more = absurd (no_cons e.source (origins_of es a) k)
    step false false h k more = more h k

pub all_gone : (xs : List Edge) (a : Addr) → targets_of xs a ≡ [] → origins_of xs a ≡ [] → xs ≡ filter (λ e. not (touches a e)) xs
all_gone xs a h k = sym (filter-none (touches a) xs (alone xs a h k))

-- ---- the nodes of a client

row_is : (n : Node) (r row place : ℕ) → is_small n → place ≡ r * 32 + place_in n → row * 32 ≤ place → place < row * 32 + 32 → r ≡ row
row_is (Port n) r row place s e l m = omega arith
row_is (Filter n) r row place s e l m = omega arith

-- the place of each node of a client is among its own
in_row : (n : Node) (r place : ℕ) → is_small n → place ≡ r * 32 + place_in n → (r * 32 ≤ place) × (place < r * 32 + 32)
in_row (Port n) r place s e = (omega arith, omega arith)
in_row (Filter n) r place s e = (omega arith, omega arith)

-- the edges of the client's nodes before this place are gone, and those that do not touch the client are as they were
pub record IsCleared (client row place : ℕ) (old now : List Edge) : Type 0 where
  pub same_others : filter (λ e. not (touches_client client e)) now ≡ filter (λ e. not (touches_client client e)) old
  pub inside : (s t : Addr) → has_edge now s t ≡ true → has_edge old s t ≡ true
  pub gone : (a : Addr) (r p : ℕ) → IsPlace a r p → row * 32 ≤ p → p < place → list_any (touches a) now ≡ false

pub cleared-start : (client row place : ℕ) (old : List Edge) → place ≡ row * 32 → IsCleared client row place old old
cleared-start client row place old e = record { same_others = refl; inside = λ s t h. h; gone = λ a r p k l m. absurd (omega arith) }

none_left : (p : Edge → Bool) (xs : List Edge) → list_any p (filter (λ x. not (p x)) xs) ≡ false
none_left p [] = refl
none_left p (x ∷ xs) = step (p x) refl (none_left p xs)
  where
    step : (b : Bool) → p x ≡ b → list_any p (filter (λ x. not (p x)) xs) ≡ false → list_any p (cond (not b) (x ∷ filter (λ x. not (p x)) xs) (filter (λ x. not (p x)) xs)) ≡ false
    step true e h = h
    step false e h = ap (λ b. b || list_any p (filter (λ x. not (p x)) xs)) e ∙ h

same_client : (a b : Addr) (client : ℕ) → a.client ≡ client → same a b ≡ true → eqb b.client client ≡ true
same_client a b client e h = subst (λ n. eqb b.client n ≡ true) (ap (λ x. x.client) (sym (same-is a b h)) ∙ e) (eqb-refl b.client)
  where
    eqb-refl : (n : ℕ) → eqb n n ≡ true
    eqb-refl n = grind (arith, nat_tests)

pub touched : (a : Addr) (client : ℕ) (e : Edge) → a.client ≡ client → touches a e ≡ true → touches_client client e ≡ true
touched a client e is h = elim (or_cases (same a e.source) (same a e.target) h) [
  | inl k ↦ let s : eqb e.source.client client ≡ true = same_client a e.source client is k in ap (λ b. b || eqb e.target.client client) s
  | inr k ↦ let t : eqb e.target.client client ≡ true = same_client a e.target client is k in or_true (eqb e.source.client client) (eqb e.target.client client) t
]

pub cleared-more : (client row place place' : ℕ) (old now new : List Edge) (a : Addr) (r : ℕ) → client ≡ 128 + row → IsCleared client row place old now → IsPlace a r place → row * 32 ≤ place → place < row * 32 + 32 → place' ≡ place + 1 → new ≡ filter (λ e. not (touches a e)) now → IsCleared client row place' old new
cleared-more client row place place' old now new a r is h at low high next e =
    let client_is : a.client ≡ client = at.client ∙ ap (λ n. 128 + n) (row_is a.node r row place at.small at.is low high) ∙ sym is in
    record {
      same_others = ap (filter (λ e. not (touches_client client e))) e
          ∙ filter-outside (λ e. not (touches_client client e)) (λ e. not (touches a e)) (λ x k. not_by (touches a x) (λ t. false≢true (sym (not_true (touches_client client x) k) ∙ touched a client x client_is t))) now
          ∙ h.same_others;
      inside = λ s t k. h.inside s t (list_any-filter (is_edge s t) (λ e. not (touches a e)) now (ap (λ es. has_edge es s t) (sym e) ∙ k));
      gone = λ b q p k l m. ap (list_any (touches b)) e ∙ elim (cases_eq p place) [
        | inl same_place ↦ let here : b ≡ a = place-is b a q r place (subst (IsPlace b q) same_place k) at in
            ap (λ x. list_any (touches x) (filter (λ e. not (touches a e)) now)) here ∙ none_left (touches a) now
        | inr other ↦ refuted (list_any (touches b) (filter (λ e. not (touches a e)) now)) (λ t. false≢true (sym (h.gone b q p k l (omega arith)) ∙ list_any-filter (touches b) (λ e. not (touches a e)) now t))
      ];
    }

any_there : (p : Edge → Bool) (xs : List Edge) (e : Edge) → has_edge xs e.source e.target ≡ true → p e ≡ true → list_any p xs ≡ true
any_there p [] e h k = h
any_there p (x ∷ xs) e h k = step (is_edge e.source e.target x) refl h (λ h. any_there p xs e h k)
  where
    step : (b : Bool) → is_edge e.source e.target x ≡ b → (b || has_edge xs e.source e.target) ≡ true → (has_edge xs e.source e.target ≡ true → list_any p xs ≡ true) → (p x || list_any p xs) ≡ true
    step true f h more = ap (λ b. b || list_any p xs) (ap p (same_edge e.source e.target x f) ∙ k)
    step false f h more = or_true (p x) (list_any p xs) (more h)

none_there : (p : Edge → Bool) (xs : List Edge) → ((e : Edge) → has_edge xs e.source e.target ≡ true → p e ≡ true → ⊥) → list_any p xs ≡ false
none_there p [] h = refl
none_there p (x ∷ xs) h = step (p x) (h x here) (none_there p xs (λ e k. h e (later e k)))
  where
    here : has_edge (x ∷ xs) x.source x.target ≡ true
    here = ap (λ b. b || has_edge xs x.source x.target) (and_both (same x.source x.source) (same x.target x.target) (same-refl x.source) (same-refl x.target))

    later : (e : Edge) → has_edge xs e.source e.target ≡ true → has_edge (x ∷ xs) e.source e.target ≡ true
    later e k = by (is_edge e.source e.target x)
      where
        by : (b : Bool) → (b || has_edge xs e.source e.target) ≡ true
        by true = refl
        by false = k

    step : (b : Bool) → (b ≡ true → ⊥) → list_any p xs ≡ false → (b || list_any p xs) ≡ false
    step true h more = absurd (h refl)
    step false h more = more

module _ (client row : ℕ) (old now : List Edge) (is : client ≡ 128 + row) (h : IsCleared client row (row * 32 + 32) old now) (placed : (e : Edge) → has_edge old e.source e.target ≡ true → HasPlace e.source × HasPlace e.target) where
  free : (a : Addr) → HasPlace a → eqb a.client client ≡ true → list_any (touches a) now ≡ false
  free a k c =
      let same_row : 128 + k.0 ≡ 128 + row = sym k.2.client ∙ eqb-true a.client client c ∙ is in
      let r : k.0 ≡ row = omega arith in
      let range : (k.0 * 32 ≤ k.1) × (k.1 < k.0 * 32 + 32) = in_row a.node k.0 k.1 k.2.small k.2.is in
      h.gone a k.0 k.1 k.2 (subst (λ n. n * 32 ≤ k.1) r range.0) (subst (λ n. k.1 < n * 32 + 32) r range.1)

  untouched : (e : Edge) → has_edge now e.source e.target ≡ true → touches_client client e ≡ true → ⊥
  untouched e there t = elim (or_cases (eqb e.source.client client) (eqb e.target.client client) t) [
    | inl c ↦ false≢true (sym (free e.source (placed e (h.inside e.source e.target there)).0 c) ∙ any_there (touches e.source) now e there (ap (λ b. b || same e.source e.target) (same-refl e.source)))
    | inr c ↦ false≢true (sym (free e.target (placed e (h.inside e.source e.target there)).1 c) ∙ any_there (touches e.target) now e there (or_true (same e.target e.source) (same e.target e.target) (same-refl e.target)))
  ]

  pub cleared-end : now ≡ filter (λ e. not (touches_client client e)) old
  cleared-end = sym (filter-none (touches_client client) now (none_there (touches_client client) now untouched)) ∙ h.same_others

-- ---- edges into a client

pub last_origin : (edges : List Edge) (a s : Addr) (ss : List Addr) → ss ≡ origins_of edges a → slice_get ss (length ss - 1) ≡ Some s → has_edge edges s a ≡ true
last_origin edges a s ss e h = sym (origins-in edges a s) ∙ ap (list_any (same s)) (sym e) ∙ in_from_get ss (length ss - 1) s h

-- no edge ends at a node before this place
abbrev pub IsEndless : ℕ → ℕ → List Edge → Type 0
IsEndless row place edges =
    (a : Addr) (r p : ℕ) → IsPlace a r p → row * 32 ≤ p → p < place → origins_of edges a ≡ []

pub endless-start : (row place : ℕ) (edges : List Edge) → place ≡ row * 32 → IsEndless row place edges
endless-start row place edges e a r p k l m = absurd (omega arith)

pub endless-more : (row place place' : ℕ) (edges : List Edge) (b : Addr) (q : ℕ) → IsEndless row place edges → IsPlace b q place → origins_of edges b ≡ [] → place' ≡ place + 1 → IsEndless row place' edges
endless-more row place place' edges b q h at none next a r p k l m = elim (cases_eq p place) [
  | inl here ↦ ap (origins_of edges) (place-is a b r q place (subst (IsPlace a r) here k) at) ∙ none
  | inr other ↦ h a r p k l (omega arith)
]

-- of a list without a last nothing is there
pub no_last : (xs : List Addr) → slice_get xs (length xs - 1) ≡ None → xs ≡ []
no_last [] h = refl
no_last (x ∷ xs) h = absurd (past (x ∷ xs) (length xs) (omega arith) (subst (λ n. slice_get (x ∷ xs) n ≡ None) (let e : length (x ∷ xs) - 1 ≡ length xs = omega arith in e) h))
  where
    past : (ys : List Addr) (n : ℕ) → n < length ys → slice_get ys n ≡ None → ⊥
    past [] n l h = omega arith
    past (y ∷ ys) zero l h = cc
    past (y ∷ ys) (suc n) l h = past ys n (omega arith) h

module _ (client row : ℕ) (edges : List Edge) (is : client ≡ 128 + row) (h : IsEndless row (row * 32 + 32) edges) (placed : (e : Edge) → has_edge edges e.source e.target ≡ true → HasPlace e.source × HasPlace e.target) where
  ends : (e : Edge) → has_edge edges e.source e.target ≡ true → ends_at_client client e ≡ true → ⊥
  ends e there c =
      let k = (placed e there).1 in
      let same_row : 128 + k.0 ≡ 128 + row = sym k.2.client ∙ eqb-true e.target.client client c ∙ is in
      let r : k.0 ≡ row = omega arith in
      let range : (k.0 * 32 ≤ k.1) × (k.1 < k.0 * 32 + 32) = in_row e.target.node k.0 k.1 k.2.small k.2.is in
      let none : origins_of edges e.target ≡ [] = h e.target k.0 k.1 k.2 (subst (λ n. n * 32 ≤ k.1) r range.0) (subst (λ n. k.1 < n * 32 + 32) r range.1) in
      false≢true (sym (ap (list_any (same e.source)) none) ∙ origins-in edges e.target e.source ∙ there)

  pub endless-end : list_any (ends_at_client client) edges ≡ false
  endless-end = none_there (ends_at_client client) edges ends

-- ---- a source at a time

-- an edge to the node that was there is gone
pub loses_source : (old new : List Edge) (node : Addr) (from : Option Origin) → is_some from ≡ true → IfSome from (λ o. has_edge old o.source node ≡ true) → IfSome from (λ o. new ≡ without_edge old o.source node) → LosesOne node old new
loses_source old new node None some there rest = absurd (false≢true some)
loses_source old new node (Some o) some there rest = (edge o.source node, there, or_true (same node o.source) (same node node) (same-refl node), rest)

pub where_none : {X : Type 0} {P : Type 0} (o : Option X) → is_some o ≡ false → IfNone o P → P
where_none None none p = p
where_none (Some x) none p = absurd (false≢true (sym none))
