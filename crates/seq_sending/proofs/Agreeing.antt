-- Ways stay the same, where all that they hang on does.
use Rattle.std.proofs.Common.{◌≡◌, if◌then◌else◌, ℕ, zero, suc, ◌+◌, ◌-◌, ◌<◌, ◌≤◌, Bool, true, false, cond, eqb, leb, ltb, ◌&&◌, ◌||◌, List, [], ◌∷◌, ◌++◌, length, take, Option, Some, refl, sym, ap, subst, ◌∙◌, arith}
use Rattle.std.specs.Option.{option_to_list}
use Rattle.std.specs.Prelude.{slice_get}
use Rattle.std.specs.List.{AllByRecursion, filter, flat_map, remove}
use Rattle.std.specs.Ordering.{nat_cmp}
use Rattle.std.specs.FinMap
use Rattle.std.specs.FinMap.{FinMap}
use Rattle.std.proofs.lemmas.Bool.{eqb-true}
use Rattle.std.proofs.lemmas.Bool.Decides.{nat_tests}
use Rattle.std.proofs.lemmas.Option.{none-some}
use Rattle.node_table.specs.Addresses.{is_filter}
use Rattle.node_table.specs.declared.number.Addr.{Addr}
use Rattle.node_table.specs.declared.number.Node.{Node}
use Rattle.node_table.specs.declared.number.Node.TheVariants.{Port, Filter}
use Rattle.patch_graph.specs.Index.{targets_of}
use Rattle.patch_graph.specs.Paths.{hops}
use Rattle.patch_graph.specs.declared.edge.Edge.{Edge}
use Rattle.seq_state.specs.declared.log.Delivery.{Delivery}
use Rattle.seq_state.specs.State.{Client}
use Rattle.seq_state.specs.Copies.{filter_at, passed_by, copy}
use Rattle.seq_sending.specs.Carrying.{of_some, copies_by, copies_to, copies_onward}
use Rattle.seq_sending.specs.Changes.{AgreeOn, AgreeOnFilters}
use Rattle.seq_sending.specs.Reach.{is_among, is_passed, LeadWithin, LeadsWithin, LeadInOrder}
use Rattle.seq_sending.specs.Table.{AreWaysThrough}
use Rattle.seq_sending.specs.Ways.{copies_on, copies_along, IsWay, AreWays, AreWaysTo, PartsFrom}
use Rattle.seq_sending.specs.declared.reach.Passed.{Passed}
use Rattle.seq_sending.specs.declared.ways.Way.{Way}
use Rattle.seq_sending.specs.declared.ways.Way.TheVariants.{Straight, Filtered, Parted, Parting, Nowhere}
use Rattle.seq_sending.proofs.Onward.{of-same, ways-all}

-- ---- agreement

pub agree-refl : (P : ℕ → Type 0) (N : Addr → Type 0) (clients : FinMap nat_cmp Client) (edges : List Edge) → AgreeOn P N clients clients edges edges
agree-refl P N clients edges = record { filters = λ c p. refl; targets = λ a p. refl }

pub agree-trans : (P : ℕ → Type 0) (N : Addr → Type 0) (a b c : FinMap nat_cmp Client) (es fs gs : List Edge) → AgreeOn P N a b es fs → AgreeOn P N b c fs gs → AgreeOn P N a c es gs
agree-trans P N a b c es fs gs first next = record {
  filters = λ x p. first.filters x p ∙ next.filters x p;
  targets = λ x p. first.targets x p ∙ next.targets x p;
}

-- ---- lists

or-right : (b : Bool) → (b || true) ≡ true
or-right true = refl
or-right false = refl

flat_map-all : {X Y : Type 0} (Q : X → Type 0) (f g : X → List Y) → ((x : X) → Q x → f x ≡ g x) → (xs : List X) → AllByRecursion Q xs → flat_map f xs ≡ flat_map g xs
flat_map-all Q f g same [] all = refl
flat_map-all Q f g same (x ∷ xs) all = ap (λ ys. ys ++ flat_map f xs) (same x all.0) ∙ ap (λ ys. g x ++ ys) (flat_map-all Q f g same xs all.1)

all-map : {X : Type 0} (P Q : X → Type 0) → ((x : X) → P x → Q x) → (xs : List X) → AllByRecursion P xs → AllByRecursion Q xs
all-map P Q more [] all = all
all-map P Q more (x ∷ xs) all = (more x all.0, all-map P Q more xs all.1)

pub all-one-more : {X : Type 0} (P : X → Type 0) (xs : List X) (x : X) → AllByRecursion P xs → P x → AllByRecursion P (xs ++ x ∷ [])
all-one-more P [] x all its = (its, all)
all-one-more P (y ∷ xs) x all its = (all.0, all-one-more P xs x all.1 its)

-- ---- among more clients

pub none-among : (c : ℕ) → is_among [] c ≡ true → ⊥
none-among c among = cc

or-true : (P : Type 0) (b c : Bool) → (b || c) ≡ true → (b ≡ true → P) → (c ≡ true → P) → P
or-true P true c e first next = first refl
or-true P false c e first next = next e

pub among-more : (P : ℕ → Type 0) (passed : List Passed) (one : Passed) → ((c : ℕ) → is_among passed c ≡ true → P c) → P one.client → (c : ℕ) → is_among (passed ++ one ∷ []) c ≡ true → P c
among-more P [] one each its c among = or-true (P c) (eqb one.client c) false among (λ e. subst P (eqb-true one.client c e) its) (λ e. absurd (none-among c e))
among-more P (x ∷ passed) one each its c among =
    or-true (P c) (eqb x.client c) (is_among (passed ++ one ∷ []) c) among
    (λ e. each c (ap (λ b. b || is_among passed c) e))
    (among-more P passed one (λ y e. each y (ap (λ b. eqb x.client y || b) e ∙ or-right (eqb x.client y))) its c)

-- ---- those that the ways up to one lead through

-- they are among all
pub passed-among : (passed : List Passed) (way c : ℕ) → is_passed passed way c ≡ true → is_among passed c ≡ true
passed-among [] way c e = e
passed-among (x ∷ passed) way c e =
    or-true (is_among (x ∷ passed) c ≡ true) (eqb x.client c && leb x.way way) (is_passed passed way c) e
    (λ k. ap (λ b. b || is_among passed c) (left (eqb x.client c) (leb x.way way) k))
    (λ k. ap (λ b. eqb x.client c || b) (passed-among passed way c k) ∙ or-right (eqb x.client c))
  where
    left : (b d : Bool) → (b && d) ≡ true → b ≡ true
    left true d k = refl
    left false d k = k

pub passed-kept : (passed more : List Passed) (way c : ℕ) → is_passed passed way c ≡ true → is_passed (passed ++ more) way c ≡ true
passed-kept [] more way c e = absurd (no e)
  where
    no : false ≡ true → ⊥
    no e = cc
passed-kept (x ∷ passed) more way c e =
    or-true (is_passed (x ∷ passed ++ more) way c ≡ true) (eqb x.client c && leb x.way way) (is_passed passed way c) e
    (λ k. ap (λ b. b || is_passed (passed ++ more) way c) k)
    (λ k. ap (λ b. (eqb x.client c && leb x.way way) || b) (passed-kept passed more way c k) ∙ or-right (eqb x.client c && leb x.way way))

pub passed-noted : (passed : List Passed) (one : Passed) → is_passed (passed ++ one ∷ []) one.way one.client ≡ true
passed-noted [] one = itself one.client one.way
  where
    itself : (c w : ℕ) → ((eqb c c && leb w w) || false) ≡ true
    itself c w = grind (arith, nat_tests)
passed-noted (x ∷ passed) one =
    ap (λ b. (eqb x.client one.client && leb x.way one.way) || b) (passed-noted passed one) ∙ or-right (eqb x.client one.client && leb x.way one.way)

-- and stay, where those are left out that a later way is the first to pass
pub passed-before : (passed : List Passed) (place way c : ℕ) → way < place → is_passed passed way c ≡ true → is_passed (filter (λ x. ltb x.way place) passed) way c ≡ true
passed-before [] place way c l e = e
passed-before (x ∷ passed) place way c l e =
    or-true (is_passed (filter (λ y. ltb y.way place) (x ∷ passed)) way c ≡ true) (eqb x.client c && leb x.way way) (is_passed passed way c) e
    (λ k.
    ap (λ b. is_passed (cond b (x ∷ filter (λ y. ltb y.way place) passed) (filter (λ y. ltb y.way place) passed)) way c) (early (eqb x.client c) x.way k)
    ∙ ap (λ b. b || is_passed (filter (λ y. ltb y.way place) passed) way c) k)
    (λ k. step (ltb x.way place) (passed-before passed place way c l k))
  where
    early : (b : Bool) (w : ℕ) → (b && leb w way) ≡ true → ltb w place ≡ true
    early true w k = grind (arith, nat_tests)
    early false w k = absurd (no k)
      where
        no : false ≡ true → ⊥
        no e = cc

    step : (b : Bool) → is_passed (filter (λ y. ltb y.way place) passed) way c ≡ true → is_passed (cond b (x ∷ filter (λ y. ltb y.way place) passed) (filter (λ y. ltb y.way place) passed)) way c ≡ true
    step true k = ap (λ b. (eqb x.client c && leb x.way way) || b) k ∙ or-right (eqb x.client c && leb x.way way)
    step false k = k

-- ---- at more nodes

leads-more : (P Q : ℕ → Type 0) → ((c : ℕ) → P c → Q c) → (edges : List Edge) (n : ℕ) → ((nodes : List Addr) → LeadWithin P edges n nodes → LeadWithin Q edges n nodes) → (a : Addr) →
    LeadsWithin P edges n a → LeadsWithin Q edges n a
leads-more P Q more edges n further a within filter = (more a.client (within filter).0, further (targets_of edges a) (within filter).1)

pub within-more : (P Q : ℕ → Type 0) → ((c : ℕ) → P c → Q c) → (edges : List Edge) (n : ℕ) (nodes : List Addr) → LeadWithin P edges n nodes → LeadWithin Q edges n nodes
unfolding LeadWithin
within-more P Q more edges zero nodes within = within
within-more P Q more edges (suc n) nodes within =
    all-map (LeadsWithin P edges n) (LeadsWithin Q edges n) (leads-more P Q more edges n (λ ts w. within-more P Q more edges n ts w)) nodes within

all-anyone : (Q : Addr → Type 0) → ((a : Addr) → Q a) → (nodes : List Addr) → AllByRecursion Q nodes
all-anyone Q each [] = record {}
all-anyone Q each (a ∷ nodes) = (each a, all-anyone Q each nodes)

pub within-anyone : (P : ℕ → Type 0) → ((c : ℕ) → P c) → (edges : List Edge) (n : ℕ) (nodes : List Addr) → LeadWithin P edges n nodes
unfolding LeadWithin
within-anyone P each edges zero nodes = record {}
within-anyone P each edges (suc n) nodes =
    all-anyone (LeadsWithin P edges n) (λ a filter. (each a.client, within-anyone P each edges n (targets_of edges a))) nodes

-- along no edge, or from no node, nobody leads to a filter
pub within-zero : (P : ℕ → Type 0) (edges : List Edge) (n : ℕ) (nodes : List Addr) → n ≡ 0 → LeadWithin P edges n nodes
unfolding LeadWithin
within-zero P edges zero nodes e = record {}
within-zero P edges (suc n) nodes e = absurd (omega (arith, e))

pub within-suc : (P : ℕ → Type 0) (edges : List Edge) (n : ℕ) (nodes : List Addr) → AllByRecursion (LeadsWithin P edges n) nodes → LeadWithin P edges (n + 1) nodes
unfolding LeadWithin
within-suc P edges n nodes all = subst (λ k. LeadWithin P edges k nodes) (let e : suc n ≡ n + 1 = omega arith in e) all

suc-within : (P : ℕ → Type 0) (edges : List Edge) (n : ℕ) (nodes : List Addr) → LeadWithin P edges (n + 1) nodes → AllByRecursion (LeadsWithin P edges n) nodes
unfolding LeadWithin
suc-within P edges n nodes within = subst (λ k. LeadWithin P edges k nodes) (let e : n + 1 ≡ suc n = omega arith in e) within

pub within-one-more : (P : ℕ → Type 0) (edges : List Edge) (n : ℕ) (nodes : List Addr) (node : Addr) → LeadWithin P edges (n + 1) nodes → LeadsWithin P edges n node →
    LeadWithin P edges (n + 1) (nodes ++ node ∷ [])
within-one-more P edges n nodes node all its = within-suc P edges n (nodes ++ node ∷ []) (all-one-more (LeadsWithin P edges n) nodes node (suc-within P edges n nodes all) its)

-- ---- in the order of the ways

module _ {X : Type 0} where
  some-is : (x y : X) → ◌≡◌ {A = Option X} (Some x) (Some y) → x ≡ y
  some-is x y e = cc

  pub at-more : (P : ℕ → X → Type 0) (xs : List X) (new : X) → ((i : ℕ) (x : X) → slice_get xs i ≡ Some x → P i x) → P (length xs) new → (i : ℕ) (x : X) → slice_get (xs ++ new ∷ []) i ≡ Some x → P i x
  at-more P [] new each its zero x e = subst (P 0) (some-is new x e) its
  at-more P [] new each its (suc i) x e = absurd (none-some x e)
  at-more P (y ∷ xs) new each its zero x e = each zero x e
  at-more P (y ∷ xs) new each its (suc i) x e = at-more (λ j z. P (suc j) z) xs new (λ j z f. each (suc j) z f) its i x e

  pub taken-at : (xs : List X) (n i : ℕ) (x : X) → slice_get (take n xs) i ≡ Some x → (slice_get xs i ≡ Some x) × (i < n)
  taken-at xs zero i x e = absurd (none-some x e)
  taken-at [] (suc n) i x e = absurd (none-some x e)
  taken-at (y ∷ xs) (suc n) zero x e = (e, omega arith)
  taken-at (y ∷ xs) (suc n) (suc i) x e = let rest : (slice_get xs i ≡ Some x) × (i < n) = taken-at xs n i x e in (rest.0, omega (arith, rest.1))

  -- the first of what is left, where what goes stood behind them, and where it stood among them
  pub taken-behind : (xs : List X) (n i : ℕ) → n ≤ i → take n (remove xs i) ≡ take n xs
  taken-behind xs zero i l = refl
  taken-behind [] (suc n) zero l = refl
  taken-behind [] (suc n) (suc i) l = refl
  taken-behind (x ∷ xs) (suc n) zero l = absurd (omega (arith, l))
  taken-behind (x ∷ xs) (suc n) (suc i) l = ap (λ ys. x ∷ ys) (taken-behind xs n i (omega (arith, l)))

  pub taken-from : (xs : List X) (n i : ℕ) → i ≤ n → take n (remove xs i) ≡ remove (take (n + 1) xs) i
  taken-from xs n i within = go xs n i within ∙ ap (λ k. remove (take k xs) i) (let e : suc n ≡ n + 1 = omega arith in e)
    where
      go : (xs : List X) (n i : ℕ) → i ≤ n → take n (remove xs i) ≡ remove (take (suc n) xs) i
      go [] zero zero l = refl
      go [] zero (suc i) l = refl
      go [] (suc n) zero l = refl
      go [] (suc n) (suc i) l = refl
      go (x ∷ xs) n zero l = refl
      go (x ∷ xs) zero (suc i) l = absurd (omega (arith, l))
      go (x ∷ xs) (suc n) (suc i) l = ap (λ ys. x ∷ ys) (go xs n i (omega (arith, l)))

leads-weaker : (P Q : ℕ → Type 0) → ((c : ℕ) → P c → Q c) → (edges : List Edge) (n : ℕ) (a : Addr) → LeadsWithin P edges n a → LeadsWithin Q edges n a
leads-weaker P Q more edges n a its = leads-more P Q more edges n (λ ts w. within-more P Q more edges n ts w) a its

pub order-anyone : (P : ℕ → ℕ → Type 0) → ((way c : ℕ) → P way c) → (edges : List Edge) (nodes : List Addr) → LeadInOrder P edges nodes
order-anyone P each edges nodes way node e filter = (each way node.client, within-anyone (P way) (each way) edges (hops - 1) (targets_of edges node))

pub order-none : (P : ℕ → ℕ → Type 0) (edges : List Edge) (nodes : List Addr) → LeadInOrder P edges (take 0 nodes)
order-none P edges nodes way node e = absurd (none-some node e)

-- of the first of them
pub order-front : (P : ℕ → ℕ → Type 0) (edges : List Edge) (nodes : List Addr) (n : ℕ) → LeadInOrder P edges nodes → LeadInOrder P edges (take n nodes)
order-front P edges nodes n order way node e = order way node (taken-at nodes n way node e).0

pub order-weaker : (P Q : ℕ → ℕ → Type 0) (edges : List Edge) (nodes : List Addr) (n : ℕ) → ((way c : ℕ) → way < n → P way c → Q way c) → LeadInOrder P edges (take n nodes) → LeadInOrder Q edges (take n nodes)
order-weaker P Q edges nodes n more order way node e =
    leads-weaker (P way) (Q way) (λ c p. more way c (taken-at nodes n way node e).1 p) edges (hops - 1) node (order way node e)

-- of one more, where the ways may pass more
pub order-more : (P Q : ℕ → ℕ → Type 0) (edges : List Edge) (nodes : List Addr) (node : Addr) → ((way c : ℕ) → P way c → Q way c) → LeadInOrder P edges nodes → LeadsWithin (Q (length nodes)) edges (hops - 1) node →
    LeadInOrder Q edges (nodes ++ node ∷ [])
order-more P Q edges nodes node more order its =
    at-more (λ way a. LeadsWithin (Q way) edges (hops - 1) a) nodes node (λ way a e. leads-weaker (P way) (Q way) (more way) edges (hops - 1) a (order way a e)) its

-- ---- from node to node

module _ (P : ℕ → Type 0) (clients others : FinMap nat_cmp Client) (edges other_edges : List Edge) (agree : AgreeOnFilters P clients others edges other_edges) where
  filter-agrees : (c : ℕ) (node : Node) → P c → filter_at clients c node ≡ filter_at others c node
  filter-agrees c (Port n) p = refl
  filter-agrees c (Filter n) p = ap (λ fs. FinMap.get fs n) (agree.filters c p)

  leads-agrees : (n : ℕ) → ((nodes : List Addr) → LeadWithin P edges n nodes → LeadWithin P other_edges n nodes) → (a : Addr) → LeadsWithin P edges n a → LeadsWithin P other_edges n a
  leads-agrees n further a within e =
      let w = within e in
      (w.0, subst (LeadWithin P other_edges n) (agree.targets a (e, w.0)) (further (targets_of edges a) w.1))

  within-agrees : (n : ℕ) (nodes : List Addr) → LeadWithin P edges n nodes → LeadWithin P other_edges n nodes
  unfolding LeadWithin
  within-agrees zero nodes within = within
  within-agrees (suc n) nodes within =
      all-map (LeadsWithin P edges n) (LeadsWithin P other_edges n) (leads-agrees n (λ ts w. within-agrees n ts w)) nodes within

  module _ (moment : ℕ) where
    to-agrees : (n : ℕ) (f g : List Addr → List ℕ → List Delivery) → ((ts : List Addr) (m : List ℕ) → LeadWithin P edges n ts → f ts m ≡ g ts m) → (message : List ℕ) (node : Addr) →
        LeadsWithin P edges n node → copies_by clients edges moment f message node ≡ copies_by others other_edges moment g message node
    to-agrees n f g further message node within = by (is_filter node) refl
      where
        here : List Delivery
        here = of_some (f (targets_of edges node)) (passed_by (filter_at clients node.client node.node) message)

        there : List Delivery
        there = of_some (g (targets_of other_edges node)) (passed_by (filter_at others node.client node.node) message)

        end : List Delivery
        end = option_to_list (copy moment node (Some message))

        by : (b : Bool) → is_filter node ≡ b → (if b then here else end) ≡ (if b then there else end)
        by true e =
            let w = within e in
            ap (λ o. of_some (f (targets_of edges node)) (passed_by o message)) (filter-agrees node.client node.node w.0)
            ∙ of-same (f (targets_of edges node)) (g (targets_of other_edges node))
            (λ m. further (targets_of edges node) m w.1 ∙ ap (λ ts. g ts m) (agree.targets node (e, w.0))) (passed_by (filter_at others node.client node.node) message)
        by false e = refl

    onward-agrees : (n : ℕ) (nodes : List Addr) (message : List ℕ) → LeadWithin P edges n nodes →
        copies_onward clients edges moment n nodes message ≡ copies_onward others other_edges moment n nodes message
    unfolding copies_onward LeadWithin
    onward-agrees zero nodes message within = refl
    onward-agrees (suc n) nodes message within =
        flat_map-all (LeadsWithin P edges n) _ _
        (λ node w. to-agrees n (λ ts m. copies_onward clients edges moment n ts m) (λ ts m. copies_onward others other_edges moment n ts m) (λ ts m v. onward-agrees n ts m v) message node w)
        nodes within

    node-agrees : (node : Addr) (message : List ℕ) → LeadsWithin P edges (hops - 1) node →
        copies_to clients edges moment (hops - 1) node message ≡ copies_to others other_edges moment (hops - 1) node message
    node-agrees node message within =
        to-agrees (hops - 1) (λ ts m. copies_onward clients edges moment (hops - 1) ts m) (λ ts m. copies_onward others other_edges moment (hops - 1) ts m)
        (λ ts m v. onward-agrees (hops - 1) ts m v) message node within

    way-agrees : (node : Addr) (message : List ℕ) (way : Way) → PartsFrom node way → LeadsWithin P edges (hops - 1) node →
        copies_on clients edges moment message way ≡ copies_on others other_edges moment message way
    way-agrees node message (Straight end) parts within = refl
    way-agrees node message (Filtered rule end) parts within = refl
    way-agrees node message (Parted rule branches) parts within = refl
    way-agrees node message (Parting from) parts within = node-agrees from message (subst (LeadsWithin P edges (hops - 1)) (sym parts) within)
    way-agrees node message Nowhere parts within = refl

to-each : (P : ℕ → ℕ → Type 0) (clients others : FinMap nat_cmp Client) (edges other_edges : List Edge) → ((way : ℕ) → AgreeOnFilters (P way) clients others edges other_edges) → (nodes : List Addr) (ways : List Way) →
    AreWaysTo clients edges nodes ways → LeadInOrder P edges nodes → AreWaysTo others other_edges nodes ways
to-each P clients others edges other_edges agree [] [] each within = record {}
to-each P clients others edges other_edges agree [] (way ∷ ways) each within = absurd each
to-each P clients others edges other_edges agree (node ∷ nodes) [] each within = absurd each
to-each P clients others edges other_edges agree (node ∷ nodes) (way ∷ ways) each within =
    let its : LeadsWithin (P 0) edges (hops - 1) node = within 0 node refl in (
      (
        (λ moment message is.
            sym (way-agrees (P 0) clients others edges other_edges (agree 0) moment node message way each.0.1 its) ∙ each.0.0 moment message is
            ∙ node-agrees (P 0) clients others edges other_edges (agree 0) moment node message its),
        each.0.1,
      ),
      to-each (λ w. P (suc w)) clients others edges other_edges (λ w. agree (suc w)) nodes ways each.1 (λ w a e. within (suc w) a e),
    )

-- the ways to nodes stay the ways to them
pub through-agrees : (P : ℕ → ℕ → Type 0) (clients others : FinMap nat_cmp Client) (edges other_edges : List Edge) → ((way : ℕ) → AgreeOnFilters (P way) clients others edges other_edges) → (nodes : List Addr) (ways : List Way) →
    AreWaysThrough P clients edges nodes ways → AreWaysThrough P others other_edges nodes ways
through-agrees P clients others edges other_edges agree nodes ways are = record {
  each = to-each P clients others edges other_edges agree nodes ways are.each are.within;
  within = λ way node e.
      leads-agrees (P way) clients others edges other_edges (agree way) (hops - 1)
      (λ ts w. within-agrees (P way) clients others edges other_edges (agree way) (hops - 1) ts w) node (are.within way node e);
}

-- ---- ways

-- what comes by the ways to all the nodes
pub ways-are : (clients : FinMap nat_cmp Client) (edges : List Edge) (nodes : List Addr) (ways : List Way) → AreWaysTo clients edges nodes ways → AreWays clients edges nodes ways
ways-are clients edges nodes ways each moment message is = go nodes ways each ∙ ways-all clients edges moment nodes message
  where
    go : (nodes : List Addr) (ways : List Way) → AreWaysTo clients edges nodes ways → copies_along clients edges moment ways message ≡ flat_map (λ node. copies_to clients edges moment (hops - 1) node message) nodes
    go [] [] each = refl
    go [] (way ∷ ways) each = absurd each
    go (node ∷ nodes) [] each = absurd each
    go (node ∷ nodes) (way ∷ ways) each =
        ap (λ ds. ds ++ copies_along clients edges moment ways message) (each.0.0 moment message is)
        ∙ ap (λ ds. copies_to clients edges moment (hops - 1) node message ++ ds) (go nodes ways each.1)

-- a way more, and the node that it leads to
pub ways-one-more : (clients : FinMap nat_cmp Client) (edges : List Edge) (nodes : List Addr) (ways : List Way) (node : Addr) (way : Way) → AreWaysTo clients edges nodes ways → IsWay clients edges node way →
    PartsFrom node way → AreWaysTo clients edges (nodes ++ node ∷ []) (ways ++ way ∷ [])
ways-one-more clients edges [] [] node way each is parts = ((is, parts), each)
ways-one-more clients edges [] (w ∷ ways) node way each is parts = absurd each
ways-one-more clients edges (n ∷ nodes) [] node way each is parts = absurd each
ways-one-more clients edges (n ∷ nodes) (w ∷ ways) node way each is parts = (each.0, ways-one-more clients edges nodes ways node way each.1 is parts)

pub ways-count : (clients : FinMap nat_cmp Client) (edges : List Edge) (nodes : List Addr) (ways : List Way) → AreWaysTo clients edges nodes ways → length ways ≡ length nodes
ways-count clients edges [] [] each = refl
ways-count clients edges [] (w ∷ ways) each = absurd each
ways-count clients edges (n ∷ nodes) [] each = absurd each
ways-count clients edges (n ∷ nodes) (w ∷ ways) each = ap suc (ways-count clients edges nodes ways each.1)

-- a way less, and its node
pub ways-removed : (clients : FinMap nat_cmp Client) (edges : List Edge) (nodes : List Addr) (ways : List Way) (i : ℕ) → AreWaysTo clients edges nodes ways → AreWaysTo clients edges (remove nodes i) (remove ways i)
ways-removed clients edges [] [] zero each = each
ways-removed clients edges [] [] (suc i) each = each
ways-removed clients edges [] (w ∷ ways) i each = absurd each
ways-removed clients edges (n ∷ nodes) [] i each = absurd each
ways-removed clients edges (n ∷ nodes) (w ∷ ways) zero each = each.1
ways-removed clients edges (n ∷ nodes) (w ∷ ways) (suc i) each = (each.0, ways-removed clients edges nodes ways i each.1)

-- one node more, to which the ways may lead through filters of more clients
pub through-one-more : (P Q : ℕ → ℕ → Type 0) (clients : FinMap nat_cmp Client) (edges : List Edge) (nodes : List Addr) (ways more_ways : List Way) (node : Addr) → ((way c : ℕ) → P way c → Q way c) →
    AreWaysThrough P clients edges nodes ways → (AreWaysTo clients edges nodes ways → AreWaysTo clients edges (nodes ++ node ∷ []) more_ways) → LeadsWithin (Q (length ways)) edges (hops - 1) node →
    AreWaysThrough Q clients edges (nodes ++ node ∷ []) more_ways
through-one-more P Q clients edges nodes ways more_ways node more are each its = record {
  each = each are.each;
  within = order-more P Q edges nodes node more are.within (subst (λ n. LeadsWithin (Q n) edges (hops - 1) node) (ways-count clients edges nodes ways are.each) its);
}
