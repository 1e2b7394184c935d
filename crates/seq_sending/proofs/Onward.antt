-- What comes of a message on its way from filter to filter, by the rule of all of them.
use Rattle.std.proofs.Common.{◌≡◌, if◌then◌else◌, ℕ, zero, suc, ◌+◌, ◌-◌, ◌<◌, ◌≤◌, List, [], ◌∷◌, ◌++◌, length, take, slice_index_or, Option, Some, None, refl, sym, ap, ◌∙◌, arith}
use Rattle.std.specs.Option.{option_map, option_and_then, option_to_list}
use Rattle.std.specs.List.{flat_map}
use Rattle.std.specs.Ordering.{nat_cmp}
use Rattle.std.specs.FinMap
use Rattle.std.specs.FinMap.{FinMap}
use Rattle.std.proofs.lemmas.List.{take_more}
use Rattle.node_table.specs.Addresses.{is_filter}
use Rattle.node_table.specs.declared.number.Addr.{Addr}
use Rattle.node_table.specs.declared.number.Node.{Node}
use Rattle.node_table.specs.declared.number.Node.TheVariants.{Port, Filter}
use Rattle.patch_graph.specs.Cursor.{at_port}
use Rattle.patch_graph.specs.Index.{targets_of}
use Rattle.patch_graph.specs.Paths.{hops}
use Rattle.patch_graph.specs.declared.edge.Edge.{Edge}
use Rattle.route_filter.specs.declared.rule_args.RuleArgs.{RuleArgs}
use Rattle.seq_state.specs.declared.log.Delivery.{Delivery}
use Rattle.seq_state.specs.State.{Client, filters_of}
use Rattle.seq_state.specs.Effect.{filter_of}
use Rattle.seq_state.specs.Copies.{filter_at, passed_by, copy}
use Rattle.seq_state.proofs.Lists.{flat_map-append}
use Rattle.seq_sending.specs.Carrying.{let_through, of_some, copies_by, copies_to, copies_onward}
use Rattle.seq_sending.specs.Counts.{ways_for}
use Rattle.seq_sending.specs.Rooms.{copies_for}
use Rattle.seq_sending.specs.Ways.{copies_on, copies_along, spread_all}
use Rattle.seq_sending.specs.declared.ways.Way.{Way}
use Rattle.seq_sending.specs.declared.ways.Way.TheVariants.{Straight, Filtered, Parted, Parting, Nowhere}
use Rattle.seq_sending.proofs.CopyCounts.{count_law}
use Rattle.seq_sending.proofs.Sent.{spread-none, spread-hops, to-filter, to-only, by-port}

-- ---- of what may have been stopped

pub of-same : (f g : List ℕ → List Delivery) → ((m : List ℕ) → f m ≡ g m) → (o : Option (List ℕ)) → of_some f o ≡ of_some g o
of-same f g same None = refl
of-same f g same (Some m) = same m

pub of-both : (g : List ℕ → List Delivery) (h : List ℕ → Option (List ℕ)) (o : Option (List ℕ)) → of_some (λ m. of_some g (h m)) o ≡ of_some g (option_and_then h o)
of-both g h None = refl
of-both g h (Some m) = refl

pub of-none : (f : List ℕ → List Delivery) → ((m : List ℕ) → f m ≡ []) → (o : Option (List ℕ)) → of_some f o ≡ []
of-none f none None = refl
of-none f none (Some m) = none m

-- what is nothing where all is stopped needs to be asked no further then
pub of-gated : (ds : List Delivery) (f : List ℕ → List Delivery) (o : Option (List ℕ)) → ds ≡ of_some f o → of_some (λ _. ds) o ≡ of_some f o
of-gated ds f None e = refl
of-gated ds f (Some m) e = e

-- ---- from node to node

module _ (clients : FinMap nat_cmp Client) (edges : List Edge) (moment : ℕ) where
  -- what comes at a port is what was let through
  pub at-end : (n : ℕ) (node : Addr) (port : ℕ) → node.node ≡ Port port → (o : Option (List ℕ)) →
      of_some (λ m. copies_to clients edges moment n node m) o ≡ option_to_list (copy moment (at_port (record { client = node.client; port = port })) o)
  at-end n node port e None = refl
  at-end n node port e (Some m) = by-port clients edges moment (λ ts x. copies_onward clients edges moment n ts x) m node port e

  -- what was let through to a filter goes on as what that lets through too
  pub past-filter : (n : ℕ) (node : Addr) (filter : ℕ) (rule : Option RuleArgs) → node.node ≡ Filter filter → rule ≡ option_map (λ f. f.rule) (filter_of (FinMap.get clients node.client) filter) →
      (o p : Option (List ℕ)) → p ≡ option_and_then (let_through rule) o →
      of_some (λ m. copies_to clients edges moment n node m) o ≡ of_some (λ m. copies_onward clients edges moment n (targets_of edges node) m) p
  past-filter n node filter rule e r o p q =
      of-same (λ m. copies_to clients edges moment n node m) (λ m. of_some (λ x. copies_onward clients edges moment n (targets_of edges node) x) (let_through rule m))
      (λ m. to-filter clients edges moment n node m filter e rule r (let_through rule m) refl) o
      ∙ of-both (λ x. copies_onward clients edges moment n (targets_of edges node) x) (let_through rule) o
      ∙ ap (of_some (λ x. copies_onward clients edges moment n (targets_of edges node) x)) (sym q)

  -- to the only node behind it
  pub on-to : (n : ℕ) (targets : List Addr) (next : Addr) → 1 ≤ length targets → length targets < 2 → next ≡ slice_index_or targets 0 next → (n ≡ 0 → ⊥) → (o : Option (List ℕ)) →
      of_some (λ m. copies_onward clients edges moment n targets m) o ≡ of_some (λ m. copies_to clients edges moment (n - 1) next m) o
  on-to n targets next some few e h o =
      of-same (λ m. copies_onward clients edges moment n targets m) (λ m. copies_to clients edges moment (n - 1) next m) (λ m. to-only clients edges moment n targets next m some few e h) o

  spread-nowhere : (n : ℕ) (message : List ℕ) → copies_onward clients edges moment n [] message ≡ []
  unfolding copies_onward
  spread-nowhere zero message = refl
  spread-nowhere (suc n) message = refl

  pub to-nobody : (n : ℕ) (targets : List Addr) (message : List ℕ) → length targets ≡ 0 → copies_onward clients edges moment n targets message ≡ []
  to-nobody n [] message e = spread-nowhere n message
  to-nobody n (t ∷ ts) message e = absurd (omega arith)

  -- nowhere, where there is no node behind it or no edge is left
  pub ends-at : (n : ℕ) (targets : List Addr) → length targets < 1 → (o : Option (List ℕ)) → of_some (λ m. copies_onward clients edges moment n targets m) o ≡ []
  ends-at n [] l o = of-none (λ m. copies_onward clients edges moment n [] m) (λ m. spread-nowhere n m) o
  ends-at n (t ∷ ts) l o = absurd (omega arith)

  pub ends-by : (n : ℕ) (targets : List Addr) → n ≡ 0 → (o : Option (List ℕ)) → of_some (λ m. copies_onward clients edges moment n targets m) o ≡ []
  ends-by n targets e o = of-none (λ m. copies_onward clients edges moment n targets m) (λ m. spread-none clients edges moment n targets m e) o

  -- to each of the nodes behind it
  pub to-each-one : (n : ℕ) (targets : List Addr) → (n ≡ 0 → ⊥) → (o : Option (List ℕ)) →
      flat_map (λ node. of_some (λ m. copies_to clients edges moment (n - 1) node m) o) targets ≡ of_some (λ m. copies_onward clients edges moment n targets m) o
  to-each-one n targets h None = flat_map-none targets
    where
      flat_map-none : (ts : List Addr) → flat_map (λ node. of_some (λ m. copies_to clients edges moment (n - 1) node m) None) ts ≡ []
      flat_map-none [] = refl
      flat_map-none (t ∷ ts) = flat_map-none ts
  to-each-one n targets h (Some m) = sym (spread-hops clients edges moment n targets m h)

  -- the ways to some of the nodes, and to one more
  pub ways-more : (targets : List Addr) (i : ℕ) (t : Addr) (ways : List Way) (way : Way) (message : List ℕ) → i < length targets → t ≡ slice_index_or targets i t →
      copies_along clients edges moment ways message ≡ flat_map (λ node. copies_to clients edges moment (hops - 1) node message) (take i targets) →
      copies_on clients edges moment message way ≡ copies_to clients edges moment (hops - 1) t message →
      copies_along clients edges moment (ways ++ way ∷ []) message ≡ flat_map (λ node. copies_to clients edges moment (hops - 1) node message) (take (i + 1) targets)
  ways-more targets i t ways way message l e so_far one =
      let f : Addr → List Delivery = λ node. copies_to clients edges moment (hops - 1) node message in
      flat_map-append (copies_on clients edges moment message) ways (way ∷ []) ∙ ap (λ ds. ds ++ flat_map (copies_on clients edges moment message) (way ∷ [])) so_far
      ∙ ap (λ ds. flat_map f (take i targets) ++ (ds ++ [])) one
      ∙ sym (flat_map-append f (take i targets) (t ∷ [])) ∙ ap (flat_map f) (sym (take_more targets i t l ∙ ap (λ x. take i targets ++ x ∷ []) (sym e)))

  -- the ways to all of them
  pub ways-all : (targets : List Addr) (message : List ℕ) → flat_map (λ node. copies_to clients edges moment (hops - 1) node message) targets ≡ copies_onward clients edges moment hops targets message
  unfolding copies_onward hops
  ways-all targets message = refl

-- ---- the same filters let the same through

abbrev pub SameFilters : FinMap nat_cmp Client → FinMap nat_cmp Client → Type 0
SameFilters a b = (c : ℕ) → filters_of (FinMap.get a c) ≡ filters_of (FinMap.get b c)

pub flat_map-same : {X Y : Type 0} (f g : X → List Y) → ((x : X) → f x ≡ g x) → (xs : List X) → flat_map f xs ≡ flat_map g xs
flat_map-same f g same [] = refl
flat_map-same f g same (x ∷ xs) = ap (λ ys. ys ++ flat_map f xs) (same x) ∙ ap (λ ys. g x ++ ys) (flat_map-same f g same xs)

module _ (a b : FinMap nat_cmp Client) (same : SameFilters a b) where
  pub filter-same : (c : ℕ) (node : Node) → filter_at a c node ≡ filter_at b c node
  filter-same c (Port n) = refl
  filter-same c (Filter n) = ap (λ fs. FinMap.get fs n) (same c)

  module _ (edges : List Edge) (moment : ℕ) where
    to-same : (f g : List Addr → List ℕ → List Delivery) → ((ts : List Addr) (m : List ℕ) → f ts m ≡ g ts m) → (message : List ℕ) (node : Addr) →
        copies_by a edges moment f message node ≡ copies_by b edges moment g message node
    to-same f g further message node =
        ap (λ o. if is_filter node then of_some (f (targets_of edges node)) (passed_by o message) else option_to_list (copy moment node (Some message))) (filter-same node.client node.node)
        ∙ ap (λ ds. if is_filter node then ds else option_to_list (copy moment node (Some message)))
        (of-same (f (targets_of edges node)) (g (targets_of edges node)) (further (targets_of edges node)) (passed_by (filter_at b node.client node.node) message))

    spread-same : (n : ℕ) (targets : List Addr) (message : List ℕ) → copies_onward a edges moment n targets message ≡ copies_onward b edges moment n targets message
    unfolding copies_onward
    spread-same zero targets message = refl
    spread-same (suc n) targets message =
        flat_map-same _ _ (to-same (λ ts m. copies_onward a edges moment n ts m) (λ ts m. copies_onward b edges moment n ts m) (λ ts m. spread-same n ts m) message) targets

    on-same : (message : List ℕ) (way : Way) → copies_on a edges moment message way ≡ copies_on b edges moment message way
    on-same message (Straight end) = refl
    on-same message (Filtered rule end) = refl
    on-same message (Parted rule branches) = refl
    on-same message (Parting node) = to-same (λ ts m. copies_onward a edges moment (hops - 1) ts m) (λ ts m. copies_onward b edges moment (hops - 1) ts m) (λ ts m. spread-same (hops - 1) ts m) message node
    on-same message Nowhere = refl

  -- where all filters do, the numbers of copies stay
  pub number-same : (edges : List Edge) (c n : ℕ) (targets : List Addr) (message : List ℕ) → ways_for a edges c n targets message ≡ ways_for b edges c n targets message
  number-same edges c n targets message =
      sym (count_law a edges 0 c n targets message) ∙ ap (copies_for c) (spread-same edges 0 n targets message) ∙ count_law b edges 0 c n targets message

-- nothing comes of messages that go to nobody
pub none-to-nobody : (clients : FinMap nat_cmp Client) (edges : List Edge) (moment : ℕ) (targets : List Addr) (messages : List (List ℕ)) → length targets ≡ 0 →
    spread_all clients edges moment targets messages ≡ []
none-to-nobody clients edges moment targets [] e = refl
none-to-nobody clients edges moment targets (m ∷ ms) e =
    ap (λ ds. ds ++ spread_all clients edges moment targets ms) (to-nobody clients edges moment hops targets m e) ∙ none-to-nobody clients edges moment targets ms e
