-- How many ways lead on from nodes.
use Rattle.std.proofs.Common.{◌≡◌, ℕ, suc, ◌+◌, ◌<◌, ◌≤◌, min, List, [], ◌∷◌, ◌++◌, length, map, take, get_or, slice_index_or, refl, sym, subst, ap, inl, inr, ◌∙◌, arith, length-append}
use Rattle.std.specs.Prelude.{if◌then◌else◌, Bool, true, false, slice_index}
use Rattle.std.specs.List.{flat_map, sum_by}
use Rattle.std.proofs.lemmas.Bool.Decides.{leb_tells}
use Rattle.std.proofs.Math.Seq.{get_or-append_seam}
use Rattle.std.proofs.lemmas.List.{take_more, take_all, get_or_append_left}
use Rattle.std.proofs.lemmas.List.Sums.{sum_by_push, sum_by-cons}
use Rattle.node_table.specs.Addresses.{is_filter}
use Rattle.node_table.specs.Kept.{IsPlace}
use Rattle.node_table.specs.declared.number.Addr.{Addr}
use Rattle.patch_graph.specs.Cursor.{tails}
use Rattle.patch_graph.specs.Index.{targets_of}
use Rattle.patch_graph.specs.Paths.{hops, paths, nodes_of}
use Rattle.patch_graph.specs.declared.edge.Edge.{Edge}
use Rattle.patch_graph.proofs.Same.{place-is, place-below}
use Rattle.patch_graph.proofs.Walked.{routes-tails}
use Rattle.way_fates.specs.Counts.{most_counted, way_count}
use Rattle.way_fates.specs.Counting.{ways_on, ways_through, up_to_most, IsCountAt, AreCounts}

abbrev through : ℕ → List Edge → Addr → List (List Addr)
through n edges t = if is_filter t then map (λ r. t ∷ r) (tails n edges (targets_of edges t)) else (t ∷ []) ∷ []

longer : (t : Addr) (rs : List (List Addr)) → length (map (λ r. t ∷ r) rs) ≡ length rs
longer t [] = refl
longer t (r ∷ rs) = ap suc (longer t rs)

through-count : (n : ℕ) (edges : List Edge) (t : Addr) → length (through n edges t) ≡ ways_through n edges t
through-count n edges t = go (is_filter t)
  where
    go : (b : Bool) → length (if b then map (λ r. t ∷ r) (tails n edges (targets_of edges t)) else (t ∷ []) ∷ []) ≡ (if b then ways_on n edges (targets_of edges t) else 1)
    go true = longer t (tails n edges (targets_of edges t))
    go false = refl

-- the ways on to nodes are those to each of them
pub ways-each : (n : ℕ) (edges : List Edge) (nodes : List Addr) → ways_on (suc n) edges nodes ≡ sum_by (ways_through n edges) nodes
unfolding tails
ways-each n edges [] = refl
ways-each n edges (t ∷ ts) =
    length-append (through n edges t) (flat_map (through n edges) ts)
    ∙ ap (λ k. k + length (flat_map (through n edges) ts)) (through-count n edges t)
    ∙ ap (λ k. ways_through n edges t + k) (ways-each n edges ts)
    ∙ sym (sum_by-cons (ways_through n edges) t ts)

pub no-ways : (edges : List Edge) (nodes : List Addr) → ways_on 0 edges nodes ≡ 0
unfolding tails
no-ways edges nodes = refl

capped : (s x most : ℕ) → min (min s most + min x most) most ≡ min (s + x) most
capped s x most = omega arith

-- with one node more
pub count-more : (n : ℕ) (edges : List Edge) (nodes : List Addr) (i total count total' : ℕ) (t : Addr) → i < length nodes → t ≡ get_or nodes i t →
    total ≡ up_to_most (sum_by (ways_through n edges) (take i nodes)) → count ≡ up_to_most (ways_through n edges t) → total' ≡ min (total + count) most_counted →
    total' ≡ up_to_most (sum_by (ways_through n edges) (take (i + 1) nodes))
count-more n edges nodes i total count total' t below is e f g =
    g ∙ ap (λ k. min (k + count) most_counted) e ∙ ap (λ k. min (up_to_most (sum_by (ways_through n edges) (take i nodes)) + k) most_counted) f
    ∙ capped (sum_by (ways_through n edges) (take i nodes)) (ways_through n edges t) most_counted
    ∙ ap up_to_most (sym (sum_by_push (ways_through n edges) (take i nodes) t)
    ∙ ap (λ x. sum_by (ways_through n edges) (take i nodes ++ x ∷ [])) is ∙ ap (sum_by (ways_through n edges)) (sym (take_more nodes i t below)))

-- all of them
pub count-all : (n : ℕ) (edges : List Edge) (nodes : List Addr) (i total : ℕ) → length nodes ≤ i → total ≡ up_to_most (sum_by (ways_through n edges) (take i nodes)) → total ≡ up_to_most (ways_on (suc n) edges nodes)
count-all n edges nodes i total all e = e ∙ ap up_to_most (ap (sum_by (ways_through n edges)) (take_all i nodes all) ∙ sym (ways-each n edges nodes))

-- at a filter, what stands at its place
pub at-filter : (n : ℕ) (edges : List Edge) (counts : List ℕ) (node : Addr) (row place : ℕ) → is_filter node ≡ true → IsPlace node row place → AreCounts n edges counts → slice_index_or counts place 0 ≡ up_to_most (ways_through n edges node)
at-filter n edges counts node row place b there are = are place node row there ∙ ap (λ x. up_to_most (if x then ways_on n edges (targets_of edges node) else 1)) (sym b)

-- at a port, one
pub at-port : (n : ℕ) (edges : List Edge) (node : Addr) → is_filter node ≡ false → 1 ≡ up_to_most (ways_through n edges node)
at-port n edges node b = ap (λ x. up_to_most (if x then ways_on n edges (targets_of edges node) else 1)) (sym b)

-- the node at a place
pub at-place : (n : ℕ) (edges : List Edge) (node : Addr) (row place count : ℕ) (targets : List Addr) → IsPlace node row place → targets ≡ targets_of edges node → count ≡ up_to_most (ways_on n edges targets) → IsCountAt n edges place count
at-place n edges node row place count targets there are e other row' here =
    e ∙ ap (λ ts. up_to_most (ways_on n edges ts)) (are ∙ ap (targets_of edges) (place-is node other row row' place there here))

-- no node is there
pub nowhere : (n : ℕ) (edges : List Edge) (place count : ℕ) → 2048 ≤ place → IsCountAt n edges place count
nowhere n edges place count high node row here = absurd (let low : place < 2048 = place-below node row place here in omega arith)

-- those so far
abbrev pub AreCountsBelow : ℕ → List Edge → ℕ → List ℕ → Type 0
AreCountsBelow n edges top counts = (place : ℕ) → place < top → IsCountAt n edges place (slice_index counts place)

pub none-below : (n : ℕ) (edges : List Edge) (counts : List ℕ) → AreCountsBelow n edges 0 counts
none-below n edges counts place low = absurd (omega arith)

pub counts-more : (n : ℕ) (edges : List Edge) (counts : List ℕ) (count top : ℕ) → length counts ≡ top → AreCountsBelow n edges top counts → IsCountAt n edges top count → AreCountsBelow n edges (top + 1) (counts ++ count ∷ [])
counts-more n edges counts count top is below here place low = elim (leb_tells top place) [
  | inl h ↦
      let e : top ≡ place = omega (arith, h.1, low) in
      let read : slice_index (counts ++ count ∷ []) top ≡ count = ap (λ i. get_or (counts ++ count ∷ []) i 0) (sym is) ∙ get_or-append_seam counts count [] 0 in
      subst (λ p. IsCountAt n edges p (slice_index (counts ++ count ∷ []) p)) e (subst (IsCountAt n edges top) (sym read) here)
  | inr h ↦
      let within : place < length counts = omega (arith, h.1, is) in
      subst (IsCountAt n edges place) (sym (get_or_append_left counts (count ∷ []) 0 place within)) (below place h.1)
]

pub counts-all : (n : ℕ) (edges : List Edge) (counts : List ℕ) (top : ℕ) → 2048 ≤ top → AreCountsBelow n edges top counts → AreCounts n edges counts
counts-all n edges counts top all below place = elim (leb_tells 2048 place) [
  | inl h ↦ nowhere n edges place (slice_index counts place) h.1
  | inr h ↦ below place (omega (arith, h.1, all))
]

-- along no subscription there is no way
pub no-counts : (edges : List Edge) (counts : List ℕ) → ((i : ℕ) → slice_index counts i ≡ 0) → AreCounts 0 edges counts
no-counts edges counts none place node row there = none place ∙ ap up_to_most (sym (no-ways edges (targets_of edges node)))

-- ---- all ways

map-length : (ps : List (List Edge)) → length (map nodes_of ps) ≡ length ps
map-length [] = refl
map-length (p ∷ ps) = ap suc (map-length ps)

pub count-ways : (edges : List Edge) (source : Addr) (targets : List Addr) (count : ℕ) → targets ≡ targets_of edges source → count ≡ up_to_most (ways_on 8 edges targets) → count ≡ way_count edges source
unfolding hops
count-ways edges source targets count are e =
    e ∙ ap up_to_most (ap (ways_on 8 edges) are ∙ ap length (sym (routes-tails edges source)) ∙ map-length (paths edges source))
