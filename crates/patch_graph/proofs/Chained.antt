-- What filters reach through filters.
use Rattle.std.proofs.Common.{◌≡◌, ◌⊎◌, ◌↔◌, inl, inr, Bool, true, false, ◌&&◌, ◌||◌, List, [], ◌∷◌, ◌++◌, refl, ap, sym, subst, ◌∙◌, arith}
use Rattle.std.proofs.lemmas.Bool.{false≢true, or_cases}
use Rattle.std.proofs.lemmas.List.Folds.{list_any-append}
use Rattle.node_table.specs.Addresses.{same, is_filter}
use Rattle.node_table.specs.declared.number.Addr.{Addr}
use Rattle.patch_graph.specs.declared.edge.Edge.{Edge}
use Rattle.patch_graph.specs.Edges.{edge, is_edge, has_edge}
use Rattle.patch_graph.specs.Chains.{is_chain, are_edges, Reaches, is_joined, makes_cycle, JoinedLaw}
use Rattle.patch_graph.proofs.Lists.{both_left, both_right, and_both, both_ways}
use Rattle.patch_graph.proofs.Same.{same-is, same-refl, same-from}

-- a is b, or reaches it
abbrev pub Joins : List Edge → Addr → Addr → Type 0
Joins edges a b = (same a b ≡ true) ⊎ Reaches edges a b

-- one edge between two filters
pub record IsHop (edges : List Edge) (a b : Addr) : Type 0 where
  pub there : has_edge edges a b ≡ true
  pub from_filter : is_filter a ≡ true
  pub to_filter : is_filter b ≡ true

all4 : (a b c d : Bool) → a ≡ true → b ≡ true → c ≡ true → d ≡ true → (a && b && c && d) ≡ true
all4 a b c d h k l m = grind arith

each4 : (a b c d : Bool) → (a && b && c && d) ≡ true → (a ≡ true) × (b ≡ true) × (c ≡ true) × (d ≡ true)
each4 a b c d h = (grind arith, grind arith, grind arith, grind arith)

or_left : (a b : Bool) → a ≡ true → (a || b) ≡ true
or_left a b h = grind arith

or_right : (a b : Bool) → b ≡ true → (a || b) ≡ true
or_right a b h = grind arith

-- ---- chains

pub one_hop : (edges : List Edge) (a b : Addr) → IsHop edges a b → Reaches edges a b
one_hop edges a b h =
    (edge a b ∷ [], and_both (has_edge edges a b) true h.there refl, all4 (same a a) (is_filter a) (is_filter b) (same b b) (same-refl a) h.from_filter h.to_filter (same-refl b))

longer : (a b c : Addr) (es : List Edge) → is_filter a ≡ true → is_chain b c es ≡ true → is_chain a c (edge a b ∷ es) ≡ true
longer a b c [] f h = absurd (false≢true h)
longer a b c (e ∷ es) f h = and_both (same a a && is_filter a) (is_chain b c (e ∷ es)) (and_both (same a a) (is_filter a) (same-refl a) f) h

pub hop_on : (edges : List Edge) (a b c : Addr) → IsHop edges a b → Reaches edges b c → Reaches edges a c
hop_on edges a b c h r = (edge a b ∷ r.0, and_both (has_edge edges a b) (are_edges edges r.0) h.there r.1, longer a b c r.0 h.from_filter r.2)

hop_to : (edges : List Edge) (a b c : Addr) → IsHop edges a b → Joins edges b c → Reaches edges a c
hop_to edges a b c h (inl s) = subst (Reaches edges a) (same-is b c s) (one_hop edges a b h)
hop_to edges a b c h (inr r) = hop_on edges a b c h r

chain_start : (a c : Addr) (es : List Edge) → is_chain a c es ≡ true → is_filter a ≡ true
chain_start a c [] h = absurd (false≢true h)
chain_start a c (e ∷ []) h = (each4 (same a e.source) (is_filter a) (is_filter c) (same e.target c) h).1
chain_start a c (e ∷ f ∷ es) h = both_right (same a e.source) (is_filter a) (both_left (same a e.source && is_filter a) (is_chain e.target c (f ∷ es)) h)

-- what holds at the beginning of each chain to c, by its hops
module _ (edges : List Edge) (c : Addr) (P : Addr → Type 0) (last : (a : Addr) → IsHop edges a c → P a) (step : (a b : Addr) → IsHop edges a b → P b → P a) where
  pub along : (a : Addr) (es : List Edge) → are_edges edges es ≡ true → is_chain a c es ≡ true → P a
  along a [] t h = absurd (false≢true h)
  along a (e ∷ []) t h =
      let k = each4 (same a e.source) (is_filter a) (is_filter c) (same e.target c) h in
      let there : has_edge edges e.source e.target ≡ true = both_left (has_edge edges e.source e.target) true t in
      let here : has_edge edges a e.target ≡ true = subst (λ x. has_edge edges x e.target ≡ true) (sym (same-is a e.source k.0)) there in
      let here2 : has_edge edges a c ≡ true = subst (λ x. has_edge edges a x ≡ true) (same-is e.target c k.3) here in
      last a (record { there = here2; from_filter = k.1; to_filter = k.2 })
  along a (e ∷ f ∷ es) t h =
      let rest : is_chain e.target c (f ∷ es) ≡ true = both_right (same a e.source && is_filter a) (is_chain e.target c (f ∷ es)) h in
      let first : (same a e.source && is_filter a) ≡ true = both_left (same a e.source && is_filter a) (is_chain e.target c (f ∷ es)) h in
      let there : has_edge edges e.source e.target ≡ true = both_left (has_edge edges e.source e.target) (are_edges edges (f ∷ es)) t in
      let here : has_edge edges a e.target ≡ true = subst (λ x. has_edge edges x e.target ≡ true) (sym (same-is a e.source (both_left (same a e.source) (is_filter a) first))) there in
      step a e.target (record { there = here; from_filter = both_right (same a e.source) (is_filter a) first; to_filter = chain_start e.target c (f ∷ es) rest })
      (along e.target (f ∷ es) (both_right (has_edge edges e.source e.target) (are_edges edges (f ∷ es)) t) rest)

  pub along_reached : (a : Addr) → Reaches edges a c → P a
  along_reached a r = along a r.0 r.1 r.2

-- from a to b, and on to c
pub reach_on : (edges : List Edge) (a b c : Addr) → Reaches edges a b → Joins edges b c → Reaches edges a c
reach_on edges a b c r j = along_reached edges b (λ x. Reaches edges x c) (λ x h. hop_to edges x b c h j) (λ x y h more. hop_on edges x y c h more) a r

join_on : (edges : List Edge) (a b c : Addr) → Joins edges a b → Reaches edges b c → Reaches edges a c
join_on edges a b c (inl s) r = subst (λ x. Reaches edges x c) (sym (same-is a b s)) r
join_on edges a b c (inr q) r = reach_on edges a b c q (inr r)

joins_on : (edges : List Edge) (a b c : Addr) → Joins edges a b → Joins edges b c → Joins edges a c
joins_on edges a b c (inl s) j = subst (λ x. Joins edges x c) (sym (same-is a b s)) j
joins_on edges a b c (inr r) j = inr (reach_on edges a b c r j)

-- among more edges
module _ (es fs : List Edge) (more : (a b : Addr) → has_edge es a b ≡ true → has_edge fs a b ≡ true) where
  hop_among : (a b : Addr) → IsHop es a b → IsHop fs a b
  hop_among a b h = record { there = more a b h.there; from_filter = h.from_filter; to_filter = h.to_filter }

  pub reach_among : (a b : Addr) → Reaches es a b → Reaches fs a b
  reach_among a b r = along_reached es b (λ x. Reaches fs x b) (λ x h. one_hop fs x b (hop_among x b h)) (λ x y h rest. hop_on fs x y b (hop_among x y h) rest) a r

  pub joins_among : (a b : Addr) → Joins es a b → Joins fs a b
  joins_among a b (inl s) = inl s
  joins_among a b (inr r) = inr (reach_among a b r)

-- ---- the test of the definitions

joined-same : (edges : List Edge) (a b : Addr) → same a b ≡ true → is_joined edges a b ≡ true
unfolding is_joined
joined-same [] a b h = h
joined-same (e ∷ es) a b h = or_left (is_joined es a b) (is_filter e.source && is_filter e.target && is_joined es a e.source && is_joined es e.target b) (joined-same es a b h)

joined-hop : (edges : List Edge) (a b c : Addr) → IsHop edges a b → is_joined edges b c ≡ true → is_joined edges a c ≡ true
unfolding is_joined
joined-hop [] a b c h j = absurd (false≢true h.there)
joined-hop (e ∷ es) a b c h j =
    by (or_cases (is_edge a b e) (has_edge es a b) h.there)
    (or_cases (is_joined es b c) (is_filter e.source && is_filter e.target && is_joined es b e.source && is_joined es e.target c) j)
    (λ x k. joined-hop es a b x (record { there = k; from_filter = h.from_filter; to_filter = h.to_filter }))
  where
    around : is_joined es a e.source ≡ true → is_joined es e.target c ≡ true → is_filter e.source ≡ true → is_filter e.target ≡ true → (is_joined es a c || (is_filter e.source && is_filter e.target && is_joined es a e.source && is_joined es e.target c)) ≡ true
    around k l m n = or_right (is_joined es a c) (is_filter e.source && is_filter e.target && is_joined es a e.source && is_joined es e.target c) (all4 (is_filter e.source) (is_filter e.target) (is_joined es a e.source) (is_joined es e.target c) m n k l)

    through : is_edge a b e ≡ true → is_joined es e.target c ≡ true → (is_joined es a c || (is_filter e.source && is_filter e.target && is_joined es a e.source && is_joined es e.target c)) ≡ true
    through here k =
        let source : a ≡ e.source = same-is a e.source (both_left (same a e.source) (same b e.target) here) in
        let target : b ≡ e.target = same-is b e.target (both_right (same a e.source) (same b e.target) here) in
        around (joined-same es a e.source (same-from a e.source source)) k (subst (λ x. is_filter x ≡ true) source h.from_filter) (subst (λ x. is_filter x ≡ true) target h.to_filter)

    by : (is_edge a b e ≡ true) ⊎ (has_edge es a b ≡ true) → (is_joined es b c ≡ true) ⊎ ((is_filter e.source && is_filter e.target && is_joined es b e.source && is_joined es e.target c) ≡ true) →
        ((x : Addr) → has_edge es a b ≡ true → is_joined es b x ≡ true → is_joined es a x ≡ true) →
        (is_joined es a c || (is_filter e.source && is_filter e.target && is_joined es a e.source && is_joined es e.target c)) ≡ true
    by (inl here) (inl k) more = through here (subst (λ x. is_joined es x c ≡ true) (same-is b e.target (both_right (same a e.source) (same b e.target) here)) k)
    by (inl here) (inr k) more = through here (each4 (is_filter e.source) (is_filter e.target) (is_joined es b e.source) (is_joined es e.target c) k).3
    by (inr there) (inl k) more = or_left (is_joined es a c) (is_filter e.source && is_filter e.target && is_joined es a e.source && is_joined es e.target c) (more c there k)
    by (inr there) (inr k) more =
        let q = each4 (is_filter e.source) (is_filter e.target) (is_joined es b e.source) (is_joined es e.target c) k in
        around (more e.source there q.2) q.3 q.0 q.1

pub joined-from : (edges : List Edge) (a b : Addr) → Joins edges a b → is_joined edges a b ≡ true
joined-from edges a b (inl s) = joined-same edges a b s
joined-from edges a b (inr r) = along_reached edges b (λ x. is_joined edges x b ≡ true) (λ x h. joined-hop edges x b b h (joined-same edges b b (same-refl b))) (λ x y h more. joined-hop edges x y b h more) a r

one_more : (e : Edge) (es : List Edge) (a b : Addr) → has_edge es a b ≡ true → has_edge (e ∷ es) a b ≡ true
one_more e es a b h = or_right (is_edge a b e) (has_edge es a b) h

pub joins-from : (edges : List Edge) (a b : Addr) → is_joined edges a b ≡ true → Joins edges a b
unfolding is_joined
joins-from [] a b h = inl h
joins-from (e ∷ es) a b h =
    by (or_cases (is_joined es a b) (is_filter e.source && is_filter e.target && is_joined es a e.source && is_joined es e.target b) h)
    (λ x y k. joins_among es (e ∷ es) (one_more e es) x y (joins-from es x y k))
  where
    by : (is_joined es a b ≡ true) ⊎ ((is_filter e.source && is_filter e.target && is_joined es a e.source && is_joined es e.target b) ≡ true) →
        ((x y : Addr) → is_joined es x y ≡ true → Joins (e ∷ es) x y) → Joins (e ∷ es) a b
    by (inl k) more = more a b k
    by (inr k) more =
        let q = each4 (is_filter e.source) (is_filter e.target) (is_joined es a e.source) (is_joined es e.target b) k in
        let here : has_edge (e ∷ es) e.source e.target ≡ true = or_left (is_edge e.source e.target e) (has_edge es e.source e.target) (and_both (same e.source e.source) (same e.target e.target) (same-refl e.source) (same-refl e.target)) in
        let hop : IsHop (e ∷ es) e.source e.target = record { there = here; from_filter = q.0; to_filter = q.1 } in
        inr (join_on (e ∷ es) a e.source b (more a e.source q.2) (hop_to (e ∷ es) e.source e.target b hop (more e.target b q.3)))

pub joined_law : JoinedLaw
joined_law edges a b = (joins-from edges a b, joined-from edges a b)

-- ---- one edge more

last_edge : (edges : List Edge) (s t a b : Addr) → has_edge (edges ++ edge s t ∷ []) a b ≡ true → (has_edge edges a b ≡ true) ⊎ ((a ≡ s) × (b ≡ t))
last_edge edges s t a b h = by (or_cases (has_edge edges a b) (is_edge a b (edge s t) || false) (sym (list_any-append (is_edge a b) edges (edge s t ∷ [])) ∙ h))
  where
    by : (has_edge edges a b ≡ true) ⊎ ((is_edge a b (edge s t) || false) ≡ true) → (has_edge edges a b ≡ true) ⊎ ((a ≡ s) × (b ≡ t))
    by (inl k) = inl k
    by (inr k) = let q : (same a s && same b t) ≡ true = grind arith in
        inr (same-is a s (both_left (same a s) (same b t) q), same-is b t (both_right (same a s) (same b t) q))

-- the new edge stands between filters, a comes to its source, and its target comes to b
pub record Passes (edges : List Edge) (s t a b : Addr) : Type 0 where
  pub from_filter : is_filter s ≡ true
  pub to_filter : is_filter t ≡ true
  pub before : Joins edges a s
  pub after : Joins edges t b

module _ (edges : List Edge) (s t c : Addr) where
  abbrev Either : Addr → Type 0
  Either a = Reaches edges a c ⊎ Passes edges s t a c

  old_hop : (a b : Addr) → IsHop (edges ++ edge s t ∷ []) a b → has_edge edges a b ≡ true → IsHop edges a b
  old_hop a b h k = record { there = k; from_filter = h.from_filter; to_filter = h.to_filter }

  passes : (a b : Addr) → IsHop (edges ++ edge s t ∷ []) a b → a ≡ s → b ≡ t → Joins edges b c → Passes edges s t a c
  passes a b h e f j =
      record { from_filter = subst (λ x. is_filter x ≡ true) e h.from_filter; to_filter = subst (λ x. is_filter x ≡ true) f h.to_filter; before = inl (same-from a s e); after = subst (λ x. Joins edges x c) f j }

  either-last : (a : Addr) → IsHop (edges ++ edge s t ∷ []) a c → Either a
  either-last a h = by (last_edge edges s t a c h.there)
    where
      by : (has_edge edges a c ≡ true) ⊎ ((a ≡ s) × (c ≡ t)) → Either a
      by (inl k) = inl (one_hop edges a c (old_hop a c h k))
      by (inr k) = inr (passes a c h k.0 k.1 (inl (same-refl c)))

  either-step : (a b : Addr) → IsHop (edges ++ edge s t ∷ []) a b → Either b → Either a
  either-step a b h more = by (last_edge edges s t a b h.there) more
    where
      by : (has_edge edges a b ≡ true) ⊎ ((a ≡ s) × (b ≡ t)) → Either b → Either a
      by (inl k) (inl r) = inl (hop_on edges a b c (old_hop a b h k) r)
      by (inl k) (inr p) = inr (record { from_filter = p.from_filter; to_filter = p.to_filter; before = inr (hop_to edges a b s (old_hop a b h k) p.before); after = p.after })
      by (inr k) (inl r) = inr (passes a b h k.0 k.1 (inr r))
      by (inr k) (inr p) = inr (record { from_filter = p.from_filter; to_filter = p.to_filter; before = inl (same-from a s k.0); after = p.after })

  pub reach_added : (a : Addr) → Reaches (edges ++ edge s t ∷ []) a c → Either a
  reach_added a r = along_reached (edges ++ edge s t ∷ []) c Either either-last either-step a r

-- an edge that makes no cycle leaves none
pub acyclic-added : (edges : List Edge) (s t : Addr) → ((a : Addr) → Reaches edges a a → ⊥) → makes_cycle edges s t ≡ false → (a : Addr) → Reaches (edges ++ edge s t ∷ []) a a → ⊥
acyclic-added edges s t none clear a r = by (reach_added edges s t a a r)
  where
    by : Reaches edges a a ⊎ Passes edges s t a a → ⊥
    by (inl q) = none a q
    by (inr p) = false≢true (sym clear ∙ and_both (is_filter s && is_filter t) (is_joined edges t s) (and_both (is_filter s) (is_filter t) p.from_filter p.to_filter) (joined-from edges t s (joins_on edges t a s p.after p.before)))

pub acyclic-fewer : (es fs : List Edge) → ((a b : Addr) → has_edge fs a b ≡ true → has_edge es a b ≡ true) → ((a : Addr) → Reaches es a a → ⊥) → (a : Addr) → Reaches fs a a → ⊥
acyclic-fewer es fs more none a r = none a (reach_among fs es more a a r)

-- ---- the ends of a chain are filters

pub reach_start : (edges : List Edge) (a b : Addr) → Reaches edges a b → is_filter a ≡ true
reach_start edges a b r = chain_start a b r.0 r.2

pub reach_end : (edges : List Edge) (a b : Addr) → Reaches edges a b → is_filter b ≡ true
reach_end edges a b r = along_reached edges b (λ x. is_filter b ≡ true) (λ x h. h.to_filter) (λ x y h more. more) a r

-- ---- the test for a cycle

pub cycle_same : (edges : List Edge) (s t : Addr) → is_filter s ≡ true → same t s ≡ true → makes_cycle edges s t ≡ true
cycle_same edges s t f h = and_both (is_filter s && is_filter t) (is_joined edges t s) (and_both (is_filter s) (is_filter t) f (ap is_filter (same-is t s h) ∙ f)) (joined-from edges t s (inl h))

pub cycle_reached : (edges : List Edge) (s t : Addr) (b : Bool) → is_filter s ≡ true → same t s ≡ false → (b ≡ true) ↔ Reaches edges t s → b ≡ makes_cycle edges s t
cycle_reached edges s t b f n h =
    both_ways b (makes_cycle edges s t)
    (λ k. and_both (is_filter s && is_filter t) (is_joined edges t s) (and_both (is_filter s) (is_filter t) f (reach_start edges t s (h.0 k))) (joined-from edges t s (inr (h.0 k))))
    (λ k. by (joins-from edges t s (both_right (is_filter s && is_filter t) (is_joined edges t s) k)))
  where
    by : Joins edges t s → b ≡ true
    by (inl e) = absurd (false≢true (sym n ∙ e))
    by (inr r) = h.1 r

pub no_cycle : (edges : List Edge) (s t : Addr) → is_filter s ≡ false → makes_cycle edges s t ≡ false
no_cycle edges s t f = ap (λ b. b && is_filter t && is_joined edges t s) f
