-- The paths of a circle.
use Rattle.std.proofs.Common.{◌≡◌, ℕ, zero, suc, Bool, true, false, not, cond, eqb, ◌&&◌, ◌||◌, ◌⊎◌, inl, inr, List, [], ◌∷◌, map, Option, Some, None, refl, sym, ap, subst, ◌∙◌, arith}
use Rattle.std.specs.Option.{option_and_then}
use Rattle.std.specs.List.{filter, list_all, filter_map}
use Rattle.std.specs.Ordering.{nat_cmp}
use Rattle.std.specs.FinMap
use Rattle.std.specs.FinMap.{FinMap}
use Rattle.std.proofs.lemmas.Bool.Decides.{nat_tests}
use Rattle.std.proofs.lemmas.Bool.{false≢true, eqb-true, or_cases}
use Rattle.node_table.specs.Addresses.{same, is_filter, same_node, is_filter_node}
use Rattle.patch_graph.specs.Chains.{is_joined}
use Rattle.patch_graph.specs.Paths.{paths, hops, end_of}
use Rattle.patch_graph.proofs.Walked.{walk, hop, paths-walk}
use Rattle.node_table.specs.declared.number.Addr.{Addr}
use Rattle.node_table.specs.declared.number.Node.{Node}
use Rattle.patch_graph.specs.declared.edge.Edge.{Edge}
use Rattle.seq_state.specs.declared.log.Delivery.{Delivery}
use Rattle.node_table.specs.declared.number.Node.TheVariants.{Port, Filter}
use Rattle.seq_state.specs.State.{State, Client, filters_of}
use Rattle.seq_state.specs.Copies.{copies, copy, delivery, copy_on_path, passed_by, filter_at}
use Rattle.seq_state.specs.Circle.{is_to, is_inner, inner_node}
use Rattle.seq_state.specs.Laws.{into, is_port_of, is_within}
use Rattle.seq_state.proofs.Lists.{both_left, both_right, filter-map, filter-flat_map, flat_map-none_under, flat_map-filter, list_all-implied, list_all-weaker, list_all-passed, list_all-map, list_all-flat_map, list_all-filter, list_all-both, and_both, filter-filter_map, filter_map-agree_under, filter-wider}

-- ---- the same paths, found by a walk

walk-all : (r : Edge → Bool) (n : ℕ) (edges : List Edge) (a : Addr) → list_all r edges ≡ true → list_all (list_all r) (walk n edges a) ≡ true
unfolding walk
walk-all r zero edges a h = refl
walk-all r (suc n) edges a h =
    list_all-flat_map (list_all r) r (hop n edges a)
    (λ e p. one e (same a e.source) (is_filter e.target) p (walk-all r n edges e.target h)) edges h
  where
    one : (e : Edge) (b c : Bool) → r e ≡ true → list_all (list_all r) (walk n edges e.target) ≡ true →
        list_all (list_all r) (cond b (cond c (map (λ es. e ∷ es) (walk n edges e.target)) ((e ∷ []) ∷ [])) []) ≡ true
    one e false c p more = refl
    one e true false p more = grind arith
    one e true true p more = list_all-map (list_all r) (list_all r) (λ es. e ∷ es) (λ es k. grind arith) (walk n edges e.target) more

outsider : (x y : Bool) → (not x || y) ≡ true → y ≡ false → x ≡ false
outsider x y h k = grind arith

same_client : (a b : Addr) → same a b ≡ true → a.client ≡ b.client
same_client a b h = let k : eqb a.client b.client ≡ true = both_left (eqb a.client b.client) (same_node a.node b.node) h in eqb-true a.client b.client k

-- what a client hears of these copies
unfoldable pub heard : ℕ → List Delivery → List Delivery
heard owner ds = filter (is_to owner) ds

either_way : (j j' a b c c' d d' : Bool) → j ≡ j' → d ≡ d' → (a ≡ true → c ≡ c') → (j || a && b && c && d) ≡ (j' || a && b && c' && d')
either_way j j' true b c c' d d' e f g = ap (λ x. x || (b && c && d)) e ∙ ap (λ x. j' || (b && x && d)) (g refl) ∙ ap (λ x. j' || (b && c' && x)) f
either_way j j' false b c c' d d' e f g = ap (λ x. x || false) e

no_more : (j j' a b c d : Bool) → j ≡ j' → (d ≡ true → ⊥) → (j || a && b && c && d) ≡ j'
no_more j j' a b c true e n = absurd (n refl)
no_more j j' true b c false e n = grind arith
no_more j j' false b c false e n = grind arith

module _ (owner : ℕ) (member : ℕ → Bool) where
  abbrev inward : Edge → Bool
  inward e = into owner member e

  abbrev pub from_member : Edge → Bool
  from_member e = member e.source.client

  -- edges inward the circle come from members
  abbrev pub AreWithin : List Edge → Type 0
  AreWithin edges = list_all from_member (filter inward edges) ≡ true

  pub inner_member : member owner ≡ true → (a : Addr) → is_inner owner member a ≡ true → member a.client ≡ true
  inner_member o a h = go a.node h
    where
      go : (n : Node) → inner_node owner member a.client n ≡ true → member a.client ≡ true
      go (Port n) h = grind (arith, nat_tests)
      go (Filter n) h = h

  abbrev ends : Addr → List Edge → Bool
  ends a p = eqb (end_of a p).client owner

  -- what a hop over an edge from outside leads to, does not end at the owner
  drop_hop : (n : ℕ) (edges : List Edge) (a : Addr) (e : Edge) → inward e ≡ false → (member e.target.client ≡ false → filter (ends e.target) (walk n edges e.target) ≡ []) → filter (ends a) (hop n edges a e) ≡ []
  drop_hop n edges a e h none = go e.target.node h (same a e.source)
    where
      go : (m : Node) → inner_node owner member e.target.client m ≡ false → (b : Bool) → filter (ends a) (cond b (cond (is_filter_node m) (map (λ es. e ∷ es) (walk n edges e.target)) ((e ∷ []) ∷ [])) []) ≡ []
      go m h false = refl
      go (Port m) h true = ap (λ b. cond b ((e ∷ []) ∷ []) []) h
      go (Filter m) h true = filter-map (ends a) (λ es. e ∷ es) (walk n edges e.target) ∙ ap (map (λ es. e ∷ es)) (none h)

  abbrev pub within : Edge → Bool
  within e = not (inward e) || from_member e

  -- from outside no path leads to the owner
  no_way : (n : ℕ) (edges : List Edge) (a : Addr) → list_all within edges ≡ true → member a.client ≡ false → filter (ends a) (walk n edges a) ≡ []
  unfolding walk
  no_way zero edges a w m = refl
  no_way (suc n) edges a w m =
      filter-flat_map (ends a) (hop n edges a) edges
      ∙ flat_map-none_under within (λ e. filter (ends a) (hop n edges a e)) (λ e h. one (λ t k. no_way n edges t w k) e (same a e.source) refl h) edges w
    where
      one : ((t : Addr) → member t.client ≡ false → filter (ends t) (walk n edges t) ≡ []) → (e : Edge) (b : Bool) → same a e.source ≡ b → within e ≡ true → filter (ends a) (hop n edges a e) ≡ []
      one more e true s h =
          let f : from_member e ≡ false = sym (ap member (same_client a e.source s)) ∙ m in
          drop_hop n edges a e (outsider (inward e) (from_member e) h f) (more e.target)
      one more e false s h = ap (λ b. filter (ends a) (cond b (cond (is_filter e.target) (map (λ es. e ∷ es) (walk n edges e.target)) ((e ∷ []) ∷ [])) [])) s

  -- the paths to the owner go over the circle's edges alone
  restrict : (n : ℕ) (edges : List Edge) (a : Addr) → list_all within edges ≡ true → filter (ends a) (walk n edges a) ≡ filter (ends a) (walk n (filter inward edges) a)
  unfolding walk
  restrict zero edges a w = refl
  restrict (suc n) edges a w =
      filter-flat_map (ends a) (hop n edges a) edges
      ∙ flat_map-filter inward (λ e. filter (ends a) (hop n edges a e)) (λ e. filter (ends a) (hop n (filter inward edges) a e))
      (λ e h. one e (same a e.source) (is_filter e.target) (restrict n edges e.target w))
      (λ e h. drop_hop n edges a e h (λ k. no_way n edges e.target w k)) edges
      ∙ sym (filter-flat_map (ends a) (hop n (filter inward edges) a) (filter inward edges))
    where
      one : (e : Edge) (b c : Bool) → filter (ends e.target) (walk n edges e.target) ≡ filter (ends e.target) (walk n (filter inward edges) e.target) →
          filter (ends a) (cond b (cond c (map (λ es. e ∷ es) (walk n edges e.target)) ((e ∷ []) ∷ [])) []) ≡ filter (ends a) (cond b (cond c (map (λ es. e ∷ es) (walk n (filter inward edges) e.target)) ((e ∷ []) ∷ [])) [])
      one e false c more = refl
      one e true false more = refl
      one e true true more =
          filter-map (ends a) (λ es. e ∷ es) (walk n edges e.target) ∙ ap (map (λ es. e ∷ es)) more ∙ sym (filter-map (ends a) (λ es. e ∷ es) (walk n (filter inward edges) e.target))

  pub are_within : (edges : List Edge) → AreWithin edges → list_all within edges ≡ true
  are_within edges w = list_all-implied inward from_member edges w

  port_of_owner : (a : Addr) → is_port_of owner a ≡ true → eqb a.client owner ≡ true
  port_of_owner a h = go a.node h
    where
      go : (n : Node) → inner_node owner (λ c. false) a.client n ≡ true → eqb a.client owner ≡ true
      go (Port n) h = h
      go (Filter n) h = absurd (false≢true h)

  -- the law on paths
  pub owner_paths : member owner ≡ true → (edges : List Edge) (a : Addr) → AreWithin edges → list_all (list_all (is_within member)) (filter (λ p. is_port_of owner (end_of a p)) (paths edges a)) ≡ true
  owner_paths o edges a w =
      let q : List Edge → Bool = λ p. is_port_of owner (end_of a p) in
      let r : Edge → Bool = λ e. inward e && from_member e in
      let good : List Edge → Bool = list_all (is_within member) in
      let inner : list_all r (filter inward edges) ≡ true = list_all-both inward from_member (filter inward edges) (list_all-passed inward edges) w in
      let all : list_all good (walk hops (filter inward edges) a) ≡ true =
      walk-all (is_within member) hops (filter inward edges) a (list_all-weaker r (is_within member) (λ e h. and_both (from_member e) (member e.target.client) (both_right (inward e) (from_member e) h) (inner_member o e.target (both_left (inward e) (from_member e) h))) (filter inward edges) inner) in
      let found : filter q (paths edges a) ≡ filter q (filter (ends a) (walk hops (filter inward edges) a)) =
      ap (filter q) (paths-walk edges a) ∙ sym (filter-wider q (ends a) (λ p h. port_of_owner (end_of a p) h) (walk hops edges a)) ∙ ap (filter q) (restrict hops edges a (are_within edges w)) in
      subst (λ ps. list_all good ps ≡ true) (sym found) (list_all-filter good q (filter (ends a) (walk hops (filter inward edges) a)) (list_all-filter good (ends a) (walk hops (filter inward edges) a) all))

  -- ---- what the owner hears of a message

  -- the copies that the owner hears are those of the paths to it
  heard_copies : (s : State) (moment : ℕ) (source : Addr) (message : List ℕ) → list_all within s.edges ≡ true →
      heard owner (copies s moment source message) ≡ filter_map (λ p. copy moment (end_of source p) (copy_on_path s.clients p message)) (filter (ends source) (walk hops (filter inward s.edges) source))
  unfolding heard
  heard_copies s moment source message w =
      let h : List Edge → Option Delivery = λ p. copy moment (end_of source p) (copy_on_path s.clients p message) in
      filter-filter_map (is_to owner) (ends source) h (λ p d e. ends_there p (copy_on_path s.clients p message) d e) (paths s.edges source)
      ∙ ap (filter_map h) (ap (filter (ends source)) (paths-walk s.edges source) ∙ restrict hops s.edges source w)
    where
      reaches_owner : Option Delivery → Bool
      reaches_owner None = false
      reaches_owner (Some d) = is_to owner d

      ends_there : (p : List Edge) (o : Option (List ℕ)) (d : Delivery) → copy moment (end_of source p) o ≡ Some d → is_to owner d ≡ ends source p
      ends_there p None d e = cc
      ends_there p (Some m) d e = go (end_of source p).node e
        where
          go : (n : Node) → delivery moment (end_of source p).client n m ≡ Some d → is_to owner d ≡ ends source p
          go (Port n) e = sym (ap reaches_owner e)
          go (Filter n) e = cc

  -- the same filters stand on them
  same_filters : (c d : FinMap nat_cmp Client) → ((n : ℕ) → member n ≡ true → FinMap.get c n ≡ FinMap.get d n) → (p : List Edge) (message : List ℕ) → list_all inward p ≡ true → copy_on_path c p message ≡ copy_on_path d p message
  same_filters c d k [] message h = refl
  same_filters c d k (e ∷ es) message h =
      ap (λ f. option_and_then (copy_on_path c es) (passed_by f message)) (at_node e.target.node (both_left (inward e) (list_all inward es) h))
      ∙ on (passed_by (filter_at d e.target.client e.target.node) message) (λ m. same_filters c d k es m (both_right (inward e) (list_all inward es) h))
    where
      at_node : (n : Node) → inner_node owner member e.target.client n ≡ true → filter_at c e.target.client n ≡ filter_at d e.target.client n
      at_node (Port n) i = refl
      at_node (Filter n) i = ap (λ x. FinMap.get (filters_of x) n) (k e.target.client i)

      on : (o : Option (List ℕ)) → ((m : List ℕ) → copy_on_path c es m ≡ copy_on_path d es m) → option_and_then (copy_on_path c es) o ≡ option_and_then (copy_on_path d es) o
      on None more = refl
      on (Some m) more = more m

  pub same_heard : (s t : State) → ((n : ℕ) → member n ≡ true → FinMap.get s.clients n ≡ FinMap.get t.clients n) → filter inward s.edges ≡ filter inward t.edges → AreWithin s.edges →
      (moment : ℕ) (source : Addr) (message : List ℕ) → heard owner (copies s moment source message) ≡ heard owner (copies t moment source message)
  same_heard s t k e w moment source message =
      let f : FinMap nat_cmp Client → List Edge → Option Delivery = λ c p. copy moment (end_of source p) (copy_on_path c p message) in
      let ps : List (List Edge) = filter (ends source) (walk hops (filter inward s.edges) source) in
      let all : list_all (list_all inward) ps ≡ true = list_all-filter (list_all inward) (ends source) (walk hops (filter inward s.edges) source) (walk-all inward hops (filter inward s.edges) source (list_all-passed inward s.edges)) in
      let v : AreWithin t.edges = subst (λ es. list_all from_member es ≡ true) e w in
      heard_copies s moment source message (are_within s.edges w)
      ∙ filter_map-agree_under (list_all inward) (f s.clients) (f t.clients) (λ p h. ap (copy moment (end_of source p)) (same_filters s.clients t.clients k p message h)) ps all
      ∙ ap (λ es. filter_map (f t.clients) (filter (ends source) (walk hops es source))) e
      ∙ sym (heard_copies t moment source message (are_within t.edges v))

  pub none_heard : (s : State) → AreWithin s.edges → (moment : ℕ) (source : Addr) (message : List ℕ) → member source.client ≡ false → heard owner (copies s moment source message) ≡ []
  none_heard s w moment source message m =
      let v : list_all within s.edges ≡ true = are_within s.edges w in
      heard_copies s moment source message v
      ∙ ap (filter_map (λ p. copy moment (end_of source p) (copy_on_path s.clients p message))) (sym (restrict hops s.edges source v) ∙ no_way hops s.edges source v m)

  -- ---- chains of filters

  pub same_inner : (a b : Addr) → same a b ≡ true → is_inner owner member a ≡ is_inner owner member b
  same_inner a b h = go a.node b.node (same_client a b h) (both_right (eqb a.client b.client) (same_node a.node b.node) h)
    where
      go : (m n : Node) → a.client ≡ b.client → same_node m n ≡ true → inner_node owner member a.client m ≡ inner_node owner member b.client n
      go (Port m) (Port n) e h = ap (λ c. eqb c owner) e
      go (Filter m) (Filter n) e h = ap member e
      go (Port m) (Filter n) e h = absurd (false≢true h)
      go (Filter m) (Port n) e h = absurd (false≢true h)

  pub inner_filter : (a : Addr) → is_filter a ≡ true → is_inner owner member a ≡ member a.client
  inner_filter a h = go a.node h
    where
      go : (n : Node) → is_filter_node n ≡ true → inner_node owner member a.client n ≡ member a.client
      go (Port n) h = absurd (false≢true h)
      go (Filter n) h = refl

  from_into : (e : Edge) → within e ≡ true → inward e ≡ true → from_member e ≡ true
  from_into e w h = go (inward e) (from_member e) w h
    where
      go : (x y : Bool) → (not x || y) ≡ true → x ≡ true → y ≡ true
      go x y w h = grind arith

  -- what is joined to a filter of the circle is one, and by the circle's edges alone
  joined_from : (edges : List Edge) → list_all within edges ≡ true → (a b : Addr) → is_joined edges a b ≡ true → is_inner owner member b ≡ true → is_inner owner member a ≡ true
  unfolding is_joined
  joined_from [] w a b j i = same_inner a b j ∙ i
  joined_from (e ∷ es) w a b j i =
      go (λ x y k l. joined_from es (both_right (within e) (list_all within es) w) x y k l) (or_cases (is_joined es a b) (is_filter e.source && is_filter e.target && is_joined es a e.source && is_joined es e.target b) j)
    where
      A : Bool
      A = is_filter e.source

      B : Bool
      B = is_filter e.target

      C : Bool
      C = is_joined es a e.source

      D : Bool
      D = is_joined es e.target b

      go : ((x y : Addr) → is_joined es x y ≡ true → is_inner owner member y ≡ true → is_inner owner member x ≡ true) → (is_joined es a b ≡ true) ⊎ ((A && B && C && D) ≡ true) → is_inner owner member a ≡ true
      go more (inl k) = more a b k i
      go more (inr k) =
          let target : inward e ≡ true = more e.target b (both_right (A && B && C) D k) i in
          let abc : (A && B && C) ≡ true = both_left (A && B && C) D k in
          let source : is_inner owner member e.source ≡ true = inner_filter e.source (both_left A B (both_left (A && B) C abc)) ∙ from_into e (both_left (within e) (list_all within es) w) target in
          more a e.source (both_right (A && B) C abc) source

  pub joined_within : (edges : List Edge) → list_all within edges ≡ true → (a b : Addr) → is_inner owner member b ≡ true → is_joined edges a b ≡ is_joined (filter inward edges) a b
  unfolding is_joined
  joined_within [] w a b i = refl
  joined_within (e ∷ es) w a b i =
      go (inward e) refl (λ x y k. joined_within es (both_right (within e) (list_all within es) w) x y k)
    where
      A : Bool
      A = is_filter e.source

      B : Bool
      B = is_filter e.target

      J : List Edge → Bool
      J fs = is_joined fs a b || A && B && is_joined fs a e.source && is_joined fs e.target b

      go : (t : Bool) → inward e ≡ t → ((x y : Addr) → is_inner owner member y ≡ true → is_joined es x y ≡ is_joined (filter inward es) x y) → J es ≡ is_joined (cond t (e ∷ filter inward es) (filter inward es)) a b
      go true h more =
          either_way (is_joined es a b) (is_joined (filter inward es) a b) A B (is_joined es a e.source) (is_joined (filter inward es) a e.source) (is_joined es e.target b) (is_joined (filter inward es) e.target b)
          (more a b i) (more e.target b i)
          (λ k. more a e.source (inner_filter e.source k ∙ from_into e (both_left (within e) (list_all within es) w) h))
      go false h more =
          no_more (is_joined es a b) (is_joined (filter inward es) a b) A B (is_joined es a e.source) (is_joined es e.target b) (more a b i)
          (λ k. false≢true (sym h ∙ joined_from es (both_right (within e) (list_all within es) w) e.target b k i))
