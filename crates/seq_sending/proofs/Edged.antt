-- What a subscription more, or one less, leaves as it was.
use Rattle.std.proofs.Common.{◌≡◌, ℕ, zero, suc, ◌+◌, ◌<◌, ◌≤◌, Bool, true, false, cond, List, [], ◌∷◌, ◌++◌, length, map, Some, refl, sym, ap, ◌∙◌, arith}
use Rattle.std.specs.Prelude.{not, ◌&&◌, slice_get}
use Rattle.std.specs.List.{filter, remove}
use Rattle.std.specs.Ordering.{nat_cmp}
use Rattle.std.specs.FinMap.{FinMap}
use Rattle.node_table.specs.Addresses.{same, is_filter}
use Rattle.node_table.specs.declared.number.Addr.{Addr}
use Rattle.patch_graph.specs.Edges.{edge, without_edge}
use Rattle.patch_graph.specs.Index.{targets_of}
use Rattle.patch_graph.specs.declared.edge.Edge.{Edge}
use Rattle.patch_graph.proofs.Same.{same-is, same-refl}
use Rattle.std.proofs.lemmas.Bool.{false≢true}
use Rattle.seq_state.specs.State.{Client}
use Rattle.seq_sending.specs.Changes.{AgreeBut, AgreeOnFilters}

-- ---- what leaves other nodes

pub other-node : (a s : Addr) → (a ≡ s → ⊥) → same a s ≡ false
other-node a s apart = go (same a s) refl
  where
    go : (b : Bool) → same a s ≡ b → b ≡ false
    go true e = absurd (apart (same-is a s e))
    go false e = refl

-- a node of another client is not the source
pub not-source : (a s : Addr) → (a.client ≡ s.client → ⊥) → same a s ≡ false
not-source a s apart = other-node a s (λ e. apart (ap (λ (x : Addr). x.client) e))

targets-more : (edges : List Edge) (e : Edge) (a : Addr) → same a e.source ≡ false → targets_of edges a ≡ targets_of (edges ++ e ∷ []) a
targets-more [] e a apart = ap (λ b. map (λ (x : Edge). x.target) (cond b (e ∷ []) [])) (sym apart)
targets-more (x ∷ edges) e a apart = by (targets-more edges e a apart) (same a x.source)
  where
    by : targets_of edges a ≡ targets_of (edges ++ e ∷ []) a → (b : Bool) → map (λ (y : Edge). y.target) (cond b (x ∷ filter (λ y. same a y.source) edges) (filter (λ y. same a y.source) edges))
        ≡ map (λ (y : Edge). y.target) (cond b (x ∷ filter (λ y. same a y.source) (edges ++ e ∷ [])) (filter (λ y. same a y.source) (edges ++ e ∷ [])))
    by rest true = ap (λ ts. x.target ∷ ts) rest
    by rest false = rest

targets-less : (edges : List Edge) (s t a : Addr) → (a ≡ s → ⊥) → targets_of edges a ≡ targets_of (without_edge edges s t) a
targets-less [] s t a apart = refl
targets-less (x ∷ edges) s t a apart = by (targets-less edges s t a apart) (same s x.source) (same t x.target) refl
  where
    f : List Edge → List Addr
    f es = map (λ (y : Edge). y.target) (filter (λ y. same a y.source) es)

    one : targets_of edges a ≡ targets_of (without_edge edges s t) a → (b : Bool) → map (λ (y : Edge). y.target) (cond b (x ∷ filter (λ y. same a y.source) edges) (filter (λ y. same a y.source) edges))
        ≡ map (λ (y : Edge). y.target) (cond b (x ∷ filter (λ y. same a y.source) (without_edge edges s t)) (filter (λ y. same a y.source) (without_edge edges s t)))
    one rest true = ap (λ ts. x.target ∷ ts) rest
    one rest false = rest

    by : targets_of edges a ≡ targets_of (without_edge edges s t) a → (b c : Bool) → same s x.source ≡ b → f (x ∷ edges) ≡ f (cond (not (b && c)) (x ∷ without_edge edges s t) (without_edge edges s t))
    by rest true true e =
        ap (λ d. map (λ (y : Edge). y.target) (cond d (x ∷ filter (λ y. same a y.source) edges) (filter (λ y. same a y.source) edges)))
        (other-node a x.source (λ its. apart (its ∙ sym (same-is s x.source e))))
        ∙ rest
    by rest true false e = one rest (same a x.source)
    by rest false c e = one rest (same a x.source)

pub but-added : (clients : FinMap nat_cmp Client) (edges : List Edge) (s t : Addr) → AgreeBut s.client clients clients edges (edges ++ edge s t ∷ [])
but-added clients edges s t = record {
  filters = λ c apart. refl;
  targets = λ a apart. targets-more edges (edge s t) a (not-source a s apart);
}

pub but-removed : (clients : FinMap nat_cmp Client) (edges : List Edge) (s t : Addr) → AgreeBut s.client clients clients edges (without_edge edges s t)
but-removed clients edges s t = record {
  filters = λ c apart. refl;
  targets = λ a apart. targets-less edges s t a (λ e. apart (ap (λ (x : Addr). x.client) e));
}

-- ---- of a port

not-filter : (a s : Addr) → is_filter s ≡ false → is_filter a ≡ true → a ≡ s → ⊥
not-filter a s port filter e = false≢true (sym port ∙ ap is_filter (sym e) ∙ filter)

pub filters-added : (clients : FinMap nat_cmp Client) (edges : List Edge) (s t : Addr) → is_filter s ≡ false → (P : ℕ → Type 0) → AgreeOnFilters P clients clients edges (edges ++ edge s t ∷ [])
filters-added clients edges s t port P = record {
  filters = λ c p. refl;
  targets = λ a p. targets-more edges (edge s t) a (other-node a s (not-filter a s port p.0));
}

pub filters-removed : (clients : FinMap nat_cmp Client) (edges : List Edge) (s t : Addr) → is_filter s ≡ false → (P : ℕ → Type 0) → AgreeOnFilters P clients clients edges (without_edge edges s t)
filters-removed clients edges s t port P = record {
  filters = λ c p. refl;
  targets = λ a p. targets-less edges s t a (not-filter a s port p.0);
}

pub leaves-added : (edges : List Edge) (s t a : Addr) → (a ≡ s → ⊥) → targets_of edges a ≡ targets_of (edges ++ edge s t ∷ []) a
leaves-added edges s t a apart = targets-more edges (edge s t) a (other-node a s apart)

pub leaves-removed : (edges : List Edge) (s t a : Addr) → (a ≡ s → ⊥) → targets_of edges a ≡ targets_of (without_edge edges s t) a
leaves-removed = targets-less

-- ---- what leaves the source itself

pub targets-added : (edges : List Edge) (s t : Addr) → targets_of (edges ++ edge s t ∷ []) s ≡ targets_of edges s ++ t ∷ []
targets-added [] s t = ap (λ b. map (λ (x : Edge). x.target) (cond b (edge s t ∷ []) [])) (same-refl s)
targets-added (x ∷ edges) s t = by (targets-added edges s t) (same s x.source)
  where
    f : List Edge → List Edge
    f es = filter (λ y. same s y.source) es

    by : targets_of (edges ++ edge s t ∷ []) s ≡ targets_of edges s ++ t ∷ [] → (b : Bool) →
        map (λ (y : Edge). y.target) (cond b (x ∷ f (edges ++ edge s t ∷ [])) (f (edges ++ edge s t ∷ []))) ≡ map (λ (y : Edge). y.target) (cond b (x ∷ f edges) (f edges)) ++ t ∷ []
    by rest true = ap (λ ts. x.target ∷ ts) rest
    by rest false = rest

pub targets-without : (edges : List Edge) (s t : Addr) → targets_of (without_edge edges s t) s ≡ filter (λ x. not (same t x)) (targets_of edges s)
targets-without [] s t = refl
targets-without (x ∷ edges) s t = by (targets-without edges s t) (same s x.source) refl (same t x.target) refl
  where
    f : List Edge → List Edge
    f es = filter (λ y. same s y.source) es

    g : List Addr → List Addr
    g ts = filter (λ y. not (same t y)) ts

    left : List Edge
    left = without_edge edges s t

    by : targets_of left s ≡ g (targets_of edges s) → (b : Bool) → same s x.source ≡ b → (c : Bool) → same t x.target ≡ c →
        targets_of (cond (not (b && c)) (x ∷ left) left) s ≡ g (map (λ (y : Edge). y.target) (cond b (x ∷ f edges) (f edges)))
    by rest true e true h = rest ∙ ap (λ d. cond (not d) (x.target ∷ g (targets_of edges s)) (g (targets_of edges s))) (sym h)
    by rest true e false h =
        ap (λ d. map (λ (y : Edge). y.target) (cond d (x ∷ f left) (f left))) e ∙ ap (λ ts. x.target ∷ ts) rest
        ∙ ap (λ d. cond (not d) (x.target ∷ g (targets_of edges s)) (g (targets_of edges s))) (sym h)
    by rest false e c h = ap (λ d. map (λ (y : Edge). y.target) (cond d (x ∷ f left) (f left))) e ∙ rest

-- ---- one is left out

module _ {X : Type 0} (f : X → Bool) where
  filter-least : (xs : List X) → length (filter f xs) ≤ length xs
  filter-least [] = omega arith
  filter-least (x ∷ xs) = by (filter-least xs) (f x)
    where
      by : length (filter f xs) ≤ length xs → (b : Bool) → length (cond b (x ∷ filter f xs) (filter f xs)) ≤ suc (length xs)
      by rest true = omega (arith, rest)
      by rest false = omega (arith, rest)

  filter-whole : (xs : List X) → length (filter f xs) ≡ length xs → filter f xs ≡ xs
  filter-whole [] e = refl
  filter-whole (x ∷ xs) e = by (λ h. filter-whole xs h) (filter-least xs) (f x) e
    where
      by : (length (filter f xs) ≡ length xs → filter f xs ≡ xs) → length (filter f xs) ≤ length xs → (b : Bool) → length (cond b (x ∷ filter f xs) (filter f xs)) ≡ suc (length xs) →
          cond b (x ∷ filter f xs) (filter f xs) ≡ x ∷ xs
      by rest most true h = ap (λ ys. x ∷ ys) (rest (omega (arith, h)))
      by rest most false h = absurd (omega (arith, h, most))

  filter-fewer : (xs : List X) (i : ℕ) (t : X) → slice_get xs i ≡ Some t → f t ≡ false → length (filter f xs) < length xs
  filter-fewer [] i t at out = absurd (no-item t at)
    where
      no-item : (t : X) → slice_get [] i ≡ Some t → ⊥
      no-item t e = cc
  filter-fewer (x ∷ xs) zero t at out =
      let e : x ≡ t = cc in
      let least = filter-least xs in
      let h : length (filter f (x ∷ xs)) ≡ length (filter f xs) = ap (λ b. length (cond b (x ∷ filter f xs) (filter f xs))) (ap f e ∙ out) in
      omega (arith, least, h)
  filter-fewer (x ∷ xs) (suc i) t at out = by (filter-fewer xs i t at out) (f x)
    where
      by : length (filter f xs) < length xs → (b : Bool) → length (cond b (x ∷ filter f xs) (filter f xs)) < suc (length xs)
      by rest true = omega (arith, rest)
      by rest false = omega (arith, rest)

  -- where just one is left out, it is the one at whose place one is that is left out
  pub filter-one : (xs : List X) (i : ℕ) (t : X) → slice_get xs i ≡ Some t → f t ≡ false → length (filter f xs) + 1 ≡ length xs → filter f xs ≡ remove xs i
  filter-one [] i t at out count = absurd (omega (arith, count))
  filter-one (x ∷ xs) zero t at out count =
      let e : x ≡ t = cc in
      let h : filter f (x ∷ xs) ≡ filter f xs = ap (λ b. cond b (x ∷ filter f xs) (filter f xs)) (ap f e ∙ out) in
      let n : length (filter f (x ∷ xs)) ≡ length (filter f xs) = ap length h in
      h ∙ filter-whole xs (omega (arith, count, n))
  filter-one (x ∷ xs) (suc i) t at out count = by (λ h. filter-one xs i t at out h) (filter-fewer xs i t at out) (f x) count
    where
      by : (length (filter f xs) + 1 ≡ length xs → filter f xs ≡ remove xs i) → length (filter f xs) < length xs → (b : Bool) →
          length (cond b (x ∷ filter f xs) (filter f xs)) + 1 ≡ suc (length xs) → cond b (x ∷ filter f xs) (filter f xs) ≡ x ∷ remove xs i
      by rest few true h = ap (λ ys. x ∷ ys) (rest (omega (arith, h)))
      by rest few false h = absurd (omega (arith, h, few))
