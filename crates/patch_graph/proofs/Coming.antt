-- How a cursor goes through the routes.
use Rattle.std.proofs.Common.{◌≡◌, ℕ, zero, suc, ◌+◌, ◌-◌, ◌<◌, ◌≤◌, Bool, true, false, not, if◌then◌else◌, List, [], ◌∷◌, ◌++◌, map, length, take, get_or, set, refl, ap, sym, subst, ◌∙◌, arith, append_assoc}
use Rattle.std.specs.List.{list_all, sum_by}
use Rattle.std.proofs.lemmas.List.Sums.{sum_by-cons}
use Rattle.std.proofs.lemmas.List.{get_or-set_same, get_or-set_other, length-set, take-set-le, take_more_set, map-append, map-set, length-map, get_or-map}
use Rattle.node_table.specs.Addresses.{is_filter}
use Rattle.node_table.specs.declared.number.Addr.{Addr}
use Rattle.patch_graph.specs.declared.edge.Edge.{Edge}
use Rattle.patch_graph.specs.Paths.{hops}
use Rattle.patch_graph.specs.Index.{targets_of}
use Rattle.patch_graph.specs.Cursor.{is_route, tails, coming, IsCursor}
use Rattle.patch_graph.proofs.Lists.{and_both, both_left, both_right}

-- the steps that a walk from these targets takes, with at most n nodes more
unfoldable pub cost : ℕ → List Edge → List Addr → ℕ
cost zero edges ts = 1
cost (suc n) edges ts = 1 + sum_by (λ t. 1 + (if is_filter t then cost n edges (targets_of edges t) else 0)) ts

-- the steps that a cursor has before it
unfoldable pub work : List Edge → List (List Addr) → ℕ → ℕ
work edges left zero = 0
work edges left (suc depth) = cost (hops - depth) edges (get_or left depth []) + work edges left depth

-- where a loop of `next` stands
pub record IsWalk (edges : List Edge) (nodes : List Addr) (left : List (List Addr)) (depth : ℕ) (old : List (List Addr)) : Type 0 where
  pub cursor : IsCursor nodes left depth
  pub same : coming edges nodes left depth ≡ old

-- ---- one target more

abbrev branch : ℕ → List Edge → Addr → List (List Addr)
branch m edges t = if is_filter t then map (λ r. t ∷ r) (tails m edges (targets_of edges t)) else (t ∷ []) ∷ []

tails-nil : (n : ℕ) (edges : List Edge) → tails n edges [] ≡ []
unfolding tails
tails-nil zero edges = refl
tails-nil (suc n) edges = refl

tails-suc : (m : ℕ) (edges : List Edge) (t : Addr) (ts : List Addr) → tails (suc m) edges (t ∷ ts) ≡ branch m edges t ++ tails (suc m) edges ts
unfolding tails
tails-suc m edges t ts = refl

tails-cons : (n m : ℕ) (edges : List Edge) (t : Addr) (ts : List Addr) → n ≡ suc m → tails n edges (t ∷ ts) ≡ branch m edges t ++ tails n edges ts
tails-cons n m edges t ts e = ap (λ k. tails k edges (t ∷ ts)) e ∙ tails-suc m edges t ts ∙ ap (λ k. branch m edges t ++ tails k edges ts) (sym e)

map-under : (p q : List Addr) (t : Addr) → q ≡ p ++ t ∷ [] → (xs : List (List Addr)) → map (λ r. p ++ r) (map (λ r. t ∷ r) xs) ≡ map (λ r. q ++ r) xs
map-under p q t e [] = refl
map-under p q t e (x ∷ xs) = λ j. here j ∷ map-under p q t e xs j
  where
    here : p ++ t ∷ x ≡ q ++ x
    here = sym (ap (λ y. y ++ x) e ∙ append_assoc p (t ∷ []) x)

module _ (edges : List Edge) where
  coming-nodes : (nodes : List Addr) (left : List (List Addr)) (k : ℕ) (t : Addr) (j : ℕ) → j ≤ suc k → coming edges (set nodes k t) left j ≡ coming edges nodes left j
  unfolding coming
  coming-nodes nodes left k t zero l = refl
  coming-nodes nodes left k t (suc j) l =
      let front : take j (set nodes k t) ≡ take j nodes = take-set-le j nodes k t (omega arith) in
      let rest : coming edges (set nodes k t) left j ≡ coming edges nodes left j = coming-nodes nodes left k t j (omega arith) in
      λ i. map (λ r. front i ++ r) (tails (hops - j) edges (get_or left j [])) ++ rest i

  coming-left : (nodes : List Addr) (left : List (List Addr)) (k : ℕ) (x : List Addr) (j : ℕ) → j ≤ k → coming edges nodes (set left k x) j ≡ coming edges nodes left j
  unfolding coming
  coming-left nodes left k x zero l = refl
  coming-left nodes left k x (suc j) l =
      let here : get_or (set left k x) j [] ≡ get_or left j [] = get_or-set_other left k j x [] (omega arith) in
      let rest : coming edges nodes (set left k x) j ≡ coming edges nodes left j = coming-left nodes left k x j (omega arith) in
      λ i. map (λ r. take j nodes ++ r) (tails (hops - j) edges (here i)) ++ rest i

  work-left : (left : List (List Addr)) (k : ℕ) (x : List Addr) (j : ℕ) → j ≤ k → work edges (set left k x) j ≡ work edges left j
  unfolding work
  work-left left k x zero l = refl
  work-left left k x (suc j) l =
      let here : get_or (set left k x) j [] ≡ get_or left j [] = get_or-set_other left k j x [] (omega arith) in
      let rest : work edges (set left k x) j ≡ work edges left j = work-left left k x j (omega arith) in
      λ i. cost (hops - j) edges (here i) + rest i

  cost-some : (n : ℕ) (ts : List Addr) → 1 ≤ cost n edges ts
  unfolding cost
  cost-some zero ts = omega arith
  cost-some (suc n) ts = omega arith

  cost-suc : (m : ℕ) (t : Addr) (ts : List Addr) → cost (suc m) edges (t ∷ ts) ≡ 1 + (if is_filter t then cost m edges (targets_of edges t) else 0) + cost (suc m) edges ts
  unfolding cost
  cost-suc m t ts = ap (λ n. 1 + n) (sum_by-cons (λ u. 1 + (if is_filter u then cost m edges (targets_of edges u) else 0)) t ts) ∙ omega arith

  cost-cons : (n m : ℕ) (t : Addr) (ts : List Addr) → n ≡ suc m → cost n edges (t ∷ ts) ≡ 1 + (if is_filter t then cost m edges (targets_of edges t) else 0) + cost n edges ts
  cost-cons n m t ts e = ap (λ k. cost k edges (t ∷ ts)) e ∙ cost-suc m t ts ∙ ap (λ k. 1 + (if is_filter t then cost m edges (targets_of edges t) else 0) + cost k edges ts) (sym e)

  hops-suc : (k : ℕ) → k < 8 → hops - k ≡ suc (hops - suc k)
  unfolding hops
  hops-suc k l = omega arith

  -- ---- at depth k + 1, with the targets t and ts left
  module _ (nodes : List Addr) (left : List (List Addr)) (k : ℕ) (deep : k < 8) (nodes_long : length nodes ≡ 8) (left_long : length left ≡ 8) where
    popped : get_or left k [] ≡ [] → coming edges nodes left (suc k) ≡ coming edges nodes left k
    unfolding coming
    popped e = ap (λ xs. map (λ r. take k nodes ++ r) (tails (hops - k) edges xs) ++ coming edges nodes left k) e ∙ ap (λ xs. map (λ r. take k nodes ++ r) xs ++ coming edges nodes left k) (tails-nil (hops - k) edges)

    popped-work : work edges left k < work edges left (suc k)
    unfolding work
    popped-work = let h : 1 ≤ cost (hops - k) edges (get_or left k []) = cost-some (hops - k) (get_or left k []) in omega arith

    module _ (t : Addr) (ts : List Addr) (at : get_or left k [] ≡ t ∷ ts) where
      abbrev later : List (List Addr)
      later = coming edges (set nodes k t) (set left k ts) (suc k)

      now_left : get_or (set left k ts) k [] ≡ ts
      now_left = get_or-set_same left k ts [] (subst (λ n. k < n) (sym left_long) deep)

      later_is : later ≡ map (λ r. take k nodes ++ r) (tails (hops - k) edges ts) ++ coming edges nodes left k
      unfolding coming
      later_is =
          let front : take k (set nodes k t) ≡ take k nodes = take-set-le k nodes k t (omega arith) in
          let rest : coming edges (set nodes k t) (set left k ts) k ≡ coming edges nodes left k = coming-nodes nodes (set left k ts) k t k (omega arith) ∙ coming-left nodes left k ts k (omega arith) in
          λ i. map (λ r. front i ++ r) (tails (hops - k) edges (now_left i)) ++ rest i

      split : coming edges nodes left (suc k) ≡ map (λ r. take k nodes ++ r) (branch (hops - suc k) edges t) ++ later
      unfolding coming
      split =
          let under : List Addr → List Addr = λ r. take k nodes ++ r in
          let rest : List (List Addr) = coming edges nodes left k in
          ap (λ xs. map under (tails (hops - k) edges xs) ++ rest) at
          ∙ ap (λ xs. map under xs ++ rest) (tails-cons (hops - k) (hops - suc k) edges t ts (hops-suc k deep))
          ∙ ap (λ xs. xs ++ rest) (map-append under (branch (hops - suc k) edges t) (tails (hops - k) edges ts))
          ∙ append_assoc (map under (branch (hops - suc k) edges t)) (map under (tails (hops - k) edges ts)) rest
          ∙ ap (λ xs. map under (branch (hops - suc k) edges t) ++ xs) (sym later_is)

      grown : take (suc k) (set nodes k t) ≡ take k nodes ++ t ∷ []
      grown = ap (λ n. take n (set nodes k t)) (let e : suc k ≡ k + 1 = omega arith in e) ∙ take_more_set nodes k t (subst (λ n. k < n) (sym nodes_long) deep)

      at_end : is_filter t ≡ false → coming edges nodes left (suc k) ≡ take (suc k) (set nodes k t) ∷ later
      at_end f = split ∙ ap (λ b. map (λ r. take k nodes ++ r) (if b then map (λ r. t ∷ r) (tails (hops - suc k) edges (targets_of edges t)) else (t ∷ []) ∷ []) ++ later) f ∙ ap (λ x. x ∷ later) (sym grown)

      through : is_filter t ≡ true → coming edges nodes left (suc k) ≡ map (λ r. take (suc k) (set nodes k t) ++ r) (tails (hops - suc k) edges (targets_of edges t)) ++ later
      through f = split ∙ ap (λ b. map (λ r. take k nodes ++ r) (if b then map (λ r. t ∷ r) (tails (hops - suc k) edges (targets_of edges t)) else (t ∷ []) ∷ []) ++ later) f
          ∙ ap (λ xs. xs ++ later) (map-under (take k nodes) (take (suc k) (set nodes k t)) t grown (tails (hops - suc k) edges (targets_of edges t)))

      deeper : (below : List Addr) → is_filter t ≡ true → suc k < 8 → below ≡ targets_of edges t → coming edges nodes left (suc k) ≡ coming edges (set nodes k t) (set (set left k ts) (suc k) below) (suc (suc k))
      unfolding coming
      deeper below f l e =
          let here : get_or (set (set left k ts) (suc k) below) (suc k) [] ≡ targets_of edges t = get_or-set_same (set left k ts) (suc k) below [] (omega (arith, length-set left k ts ∙ left_long)) ∙ e in
          let rest : coming edges (set nodes k t) (set (set left k ts) (suc k) below) (suc k) ≡ later = coming-left (set nodes k t) (set left k ts) (suc k) below (suc k) (omega arith) in
          through f ∙ sym (λ i. map (λ r. take (suc k) (set nodes k t) ++ r) (tails (hops - suc k) edges (here i)) ++ rest i)

      bottom : is_filter t ≡ true → suc k ≡ 8 → coming edges nodes left (suc k) ≡ later
      unfolding tails hops
      bottom f e = through f ∙ ap (λ n. map (λ r. take (suc k) (set nodes k t) ++ r) (tails n edges (targets_of edges t)) ++ later) (let z : 8 - suc k ≡ 0 = omega arith in z)

      later-work : work edges (set left k ts) (suc k) ≡ cost (hops - k) edges ts + work edges left k
      unfolding work
      later-work = let rest : work edges (set left k ts) k ≡ work edges left k = work-left left k ts k (omega arith) in λ i. cost (hops - k) edges (now_left i) + rest i

      whole-work : work edges left (suc k) ≡ 1 + (if is_filter t then cost (hops - suc k) edges (targets_of edges t) else 0) + cost (hops - k) edges ts + work edges left k
      unfolding work
      whole-work = ap (λ xs. cost (hops - k) edges xs + work edges left k) at ∙ ap (λ n. n + work edges left k) (cost-cons (hops - k) (hops - suc k) t ts (hops-suc k deep))

      less-work : work edges (set left k ts) (suc k) < work edges left (suc k)
      less-work = omega (arith, later-work, whole-work)

      deeper-work : (below : List Addr) → is_filter t ≡ true → suc k < 8 → below ≡ targets_of edges t → work edges (set (set left k ts) (suc k) below) (suc (suc k)) < work edges left (suc k)
      unfolding work
      deeper-work below f l e =
          let here : get_or (set (set left k ts) (suc k) below) (suc k) [] ≡ targets_of edges t = get_or-set_same (set left k ts) (suc k) below [] (omega (arith, length-set left k ts ∙ left_long)) ∙ e in
          let rest : work edges (set (set left k ts) (suc k) below) (suc k) ≡ work edges (set left k ts) (suc k) = work-left (set left k ts) (suc k) below (suc k) (omega arith) in
          let all : work edges left (suc k) ≡ 1 + cost (hops - suc k) edges (targets_of edges t) + cost (hops - k) edges ts + work edges left k = whole-work ∙ ap (λ b. 1 + (if b then cost (hops - suc k) edges (targets_of edges t) else 0) + cost (hops - k) edges ts + work edges left k) f in
          let new : work edges (set (set left k ts) (suc k) below) (suc (suc k)) ≡ cost (hops - suc k) edges (targets_of edges t) + work edges (set left k ts) (suc k) = (λ i. cost (hops - suc k) edges (here i) + rest i) in
          omega (arith, new, all, later-work)

-- ---- filters before the end

list_all-take-less : {X : Type 0} (p : X → Bool) (xs : List X) (i j : ℕ) → j ≤ i → list_all p (take i xs) ≡ true → list_all p (take j xs) ≡ true
list_all-take-less p xs i zero l h = refl
list_all-take-less p xs zero (suc j) l h = absurd (omega arith)
list_all-take-less p [] (suc i) (suc j) l h = refl
list_all-take-less p (x ∷ xs) (suc i) (suc j) l h = grind (arith, list_all-take-less p xs i j)

list_all-last : {X : Type 0} (p : X → Bool) (xs : List X) (x : X) → list_all p xs ≡ true → p x ≡ true → list_all p (xs ++ x ∷ []) ≡ true
list_all-last p [] x h k = grind arith
list_all-last p (y ∷ xs) x h k = grind (arith, list_all-last p xs x)

pub is_route-last : (xs : List Addr) (t : Addr) → list_all is_filter xs ≡ true → is_filter t ≡ false → is_route (xs ++ t ∷ []) ≡ true
is_route-last [] t h f = ap not f
is_route-last (a ∷ []) t h f = grind arith
is_route-last (a ∷ b ∷ xs) t h f = and_both (is_filter a) (is_route (b ∷ (xs ++ t ∷ []))) (both_left (is_filter a) (list_all is_filter (b ∷ xs)) h) (is_route-last (b ∷ xs) t (both_right (is_filter a) (list_all is_filter (b ∷ xs)) h) f)

-- ---- the steps of the loop, where f gives what a reference shows
module _ {R : Type 0} (f : R → List Addr) (edges : List Edge) (nodes : List Addr) (refs : List R) (d k : ℕ) (old : List (List Addr)) (h : IsWalk edges nodes (map f refs) d old) (deep : d ≡ suc k) (r : R) (is : r ≡ get_or refs k r) where
  below : k < 8
  below = omega (arith, h.cursor.below)

  refs_long : length refs ≡ 8
  refs_long = sym (length-map refs f) ∙ h.cursor.left_places

  left_is : get_or (map f refs) k [] ≡ f r
  left_is = get_or-map f refs k r [] (omega (arith, refs_long, below)) ∙ ap f (sym is)

  no_items : (xs : List Addr) → length xs ≡ 0 → xs ≡ []
  no_items [] e = refl
  no_items (x ∷ xs) e = absurd (omega arith)

  front_filters : list_all is_filter (take k nodes) ≡ true
  front_filters = ap (λ n. list_all is_filter (take n nodes)) (let e : k ≡ d - 1 = omega arith in e) ∙ h.cursor.filters

  pub step_back : length (f r) ≡ 0 → IsWalk edges nodes (map f refs) k old
  step_back e =
      record {
        cursor = record {
          node_places = h.cursor.node_places;
          left_places = h.cursor.left_places;
          below = omega (arith, below);
          filters = list_all-take-less is_filter nodes k (k - 1) (omega arith) front_filters;
        };
        same = sym (popped edges nodes (map f refs) k below h.cursor.node_places h.cursor.left_places (left_is ∙ no_items (f r) e)) ∙ ap (coming edges nodes (map f refs)) (sym deep) ∙ h.same;
      }

  pub step_back-work : work edges (map f refs) k < work edges (map f refs) d
  step_back-work = subst (λ n. work edges (map f refs) k < work edges (map f refs) n) (sym deep) (popped-work edges nodes (map f refs) k below h.cursor.node_places h.cursor.left_places)

  module _ (t : Addr) (q : R) (at : f r ≡ t ∷ f q) where
    first : get_or (map f refs) k [] ≡ t ∷ f q
    first = left_is ∙ at

    refs_set : set (map f refs) k (f q) ≡ map f (set refs k q)
    refs_set = sym (map-set f refs k q)

    grown_d : take d (set nodes k t) ≡ take k nodes ++ t ∷ []
    grown_d = ap (λ n. take n (set nodes k t)) deep ∙ grown edges nodes (map f refs) k below h.cursor.node_places h.cursor.left_places t (f q) first

    later_d : coming edges (set nodes k t) (map f (set refs k q)) d ≡ later edges nodes (map f refs) k below h.cursor.node_places h.cursor.left_places t (f q) first
    later_d = λ j. coming edges (set nodes k t) (sym refs_set j) (deep j)

    start : old ≡ coming edges nodes (map f refs) (suc k)
    start = sym h.same ∙ ap (coming edges nodes (map f refs)) deep

    pub route_here : is_filter t ≡ false → is_route (take d (set nodes k t)) ≡ true
    route_here e = ap is_route grown_d ∙ is_route-last (take k nodes) t front_filters e

    pub next_given : (route : List Addr) → is_filter t ≡ false → route ≡ take d (set nodes k t) → old ≡ route ∷ coming edges (set nodes k t) (map f (set refs k q)) d
    next_given route e new = start ∙ at_end edges nodes (map f refs) k below h.cursor.node_places h.cursor.left_places t (f q) first e ∙ (let back : take (suc k) (set nodes k t) ≡ route = ap (λ n. take n (set nodes k t)) (sym deep) ∙ sym new in λ j. back j ∷ sym later_d j)

    same_front : take k (set nodes k t) ≡ take k nodes
    same_front = take-set-le k nodes k t (omega arith)

    cursor_here : IsCursor (set nodes k t) (map f (set refs k q)) d
    cursor_here =
        record {
          node_places = length-set nodes k t ∙ h.cursor.node_places;
          left_places = ap length (sym refs_set) ∙ length-set (map f refs) k (f q) ∙ h.cursor.left_places;
          below = h.cursor.below;
          filters = ap (λ n. list_all is_filter (take n (set nodes k t))) (let e : d - 1 ≡ k = omega arith in e) ∙ ap (list_all is_filter) same_front ∙ front_filters;
        }

    pub cursor_given : IsCursor (set nodes k t) (map f (set refs k q)) d
    cursor_given = cursor_here

    pub step_past : is_filter t ≡ true → 8 ≤ d → IsWalk edges (set nodes k t) (map f (set refs k q)) d old
    step_past e l =
        record {
          cursor = cursor_here;
          same = later_d ∙ sym (start ∙ bottom edges nodes (map f refs) k below h.cursor.node_places h.cursor.left_places t (f q) first e (omega (arith, below)));
        }

    pub step_past-work : work edges (map f (set refs k q)) d < work edges (map f refs) d
    step_past-work =
        subst (λ n. work edges (map f (set refs k q)) n < work edges (map f refs) n) (sym deep)
        (subst (λ xs. work edges xs (suc k) < work edges (map f refs) (suc k)) refs_set (less-work edges nodes (map f refs) k below h.cursor.node_places h.cursor.left_places t (f q) first))

    module _ (b : R) (filter_here : is_filter t ≡ true) (room : d < 8) (targets : f b ≡ targets_of edges t) where
      refs_deeper : set (set (map f refs) k (f q)) (suc k) (f b) ≡ map f (set (set refs k q) d b)
      refs_deeper = ap (λ xs. set xs (suc k) (f b)) refs_set ∙ sym (map-set f (set refs k q) (suc k) b) ∙ ap (λ n. map f (set (set refs k q) n b)) (sym deep)

      one_deeper : d + 1 ≡ suc (suc k)
      one_deeper = omega arith

      pub step_deeper : IsWalk edges (set nodes k t) (map f (set (set refs k q) d b)) (d + 1) old
      step_deeper =
          record {
            cursor = record {
              node_places = cursor_here.node_places;
              left_places = ap length (sym refs_deeper) ∙ length-set (set (map f refs) k (f q)) (suc k) (f b) ∙ length-set (map f refs) k (f q) ∙ h.cursor.left_places;
              below = omega arith;
              filters = ap (λ n. list_all is_filter (take n (set nodes k t))) (let e : d + 1 - 1 ≡ d = omega arith in e) ∙ ap (list_all is_filter) grown_d ∙ list_all-last is_filter (take k nodes) t front_filters filter_here;
            };
            same = (λ j. coming edges (set nodes k t) (sym refs_deeper j) (one_deeper j)) ∙ sym (start ∙ deeper edges nodes (map f refs) k below h.cursor.node_places h.cursor.left_places t (f q) first (f b) filter_here (omega arith) targets);
          }

      pub step_deeper-work : work edges (map f (set (set refs k q) d b)) (d + 1) < work edges (map f refs) d
      step_deeper-work =
          let main : work edges (set (set (map f refs) k (f q)) (suc k) (f b)) (suc (suc k)) < work edges (map f refs) (suc k) = deeper-work edges nodes (map f refs) k below h.cursor.node_places h.cursor.left_places t (f q) first (f b) filter_here (omega arith) targets in
          let left : work edges (set (set (map f refs) k (f q)) (suc k) (f b)) (suc (suc k)) ≡ work edges (map f (set (set refs k q) d b)) (d + 1) = (λ j. work edges (refs_deeper j) (sym one_deeper j)) in
          let right : work edges (map f refs) (suc k) ≡ work edges (map f refs) d = ap (work edges (map f refs)) (sym deep) in
          omega (arith, main, left, right)

coming-none : (edges : List Edge) (nodes : List Addr) (left : List (List Addr)) → coming edges nodes left 0 ≡ []
unfolding coming
coming-none edges nodes left = refl

pub walk_done : (edges : List Edge) (nodes : List Addr) (left : List (List Addr)) (d : ℕ) → d ≡ 0 → coming edges nodes left d ≡ []
walk_done edges nodes left d e = ap (coming edges nodes left) e ∙ coming-none edges nodes left
