-- The copies of a message that goes on from node to node are those of its paths.
use Rattle.std.proofs.Common.{◌≡◌, ℕ, zero, suc, Bool, true, false, if◌then◌else◌, List, [], ◌∷◌, ◌++◌, length, map, Option, Some, None, refl, sym, ap, ◌∙◌, append-nil, append_assoc, arith}
use Rattle.std.specs.List.{filter_map, flat_map}
use Rattle.std.specs.Option.{option_and_then, option_to_list}
use Rattle.std.specs.Ordering.{nat_cmp}
use Rattle.std.specs.FinMap
use Rattle.std.specs.FinMap.{FinMap}
use Rattle.node_table.specs.declared.number.Addr.{Addr}
use Rattle.node_table.specs.declared.number.Node.{Node}
use Rattle.node_table.specs.declared.number.Node.TheVariants.{Port, Filter}
use Rattle.node_table.specs.Addresses.{is_filter, is_filter_node}
use Rattle.patch_graph.specs.declared.edge.Edge.{Edge}
use Rattle.patch_graph.specs.Cursor.{at_port, tails}
use Rattle.patch_graph.specs.Index.{targets_of}
use Rattle.patch_graph.specs.Paths.{hops, paths, end_of, nodes_of, routes}
use Rattle.patch_graph.proofs.Walked.{routes-tails}
use Rattle.seq_state.specs.State.{Client, State}
use Rattle.seq_state.specs.declared.log.Delivery.{Delivery}
use Rattle.seq_state.specs.Copies.{filter_at, passed_by, copy_on_path, copy, copies}
use Rattle.seq_settle.specs.Sends.{copies_of}
use Rattle.seq_state.specs.Step.{port_addr}
use Rattle.seq_sending.specs.Carrying.{of_some, copies_by, copies_onward}
use Rattle.seq_patchbay.specs.Leaving.{copies_of_all}
use Rattle.seq_sending.specs.Ways.{spread_all, AreWays}
use Rattle.seq_sending.specs.declared.ways.Way.TheVariants.{Straight}
use Rattle.midi_wire.specs.Messages.{IsMessage}
use Rattle.node_table.specs.declared.number.PortAddr.{PortAddr}
use Rattle.seq_sending.proofs.Onward.{flat_map-same}

-- ---- along a path

-- what nodes, one after another, let through
abbrev carried_by : FinMap nat_cmp Client → List Addr → List ℕ → Option (List ℕ)
carried_by clients [] message = Some message
carried_by clients (a ∷ rest) message = option_and_then (carried_by clients rest) (passed_by (filter_at clients a.client a.node) message)

abbrev last_of : Addr → List Addr → Addr
last_of a [] = a
last_of a (b ∷ bs) = last_of b bs

-- what comes of a message at the end of a route
abbrev copy_along : FinMap nat_cmp Client → ℕ → Addr → List ℕ → List Addr → Option Delivery
copy_along clients moment source message route = copy moment (last_of source route) (carried_by clients route message)

and-then : (o : Option (List ℕ)) (f g : List ℕ → Option (List ℕ)) → ((m : List ℕ) → f m ≡ g m) → option_and_then f o ≡ option_and_then g o
and-then None f g same = refl
and-then (Some m) f g same = same m

carried-nodes : (clients : FinMap nat_cmp Client) (p : List Edge) (message : List ℕ) → copy_on_path clients p message ≡ carried_by clients (nodes_of p) message
carried-nodes clients [] message = refl
carried-nodes clients (e ∷ es) message =
    and-then (passed_by (filter_at clients e.target.client e.target.node) message) (copy_on_path clients es) (carried_by clients (nodes_of es)) (carried-nodes clients es)

end-node : (a : Addr) (p : List Edge) → end_of a p ≡ last_of a (nodes_of p)
end-node a [] = refl
end-node a (e ∷ es) = end-node e.target es

filter_map-map : {X Y Z : Type 0} (f : Y → Option Z) (g : X → Y) (h : X → Option Z) → ((x : X) → h x ≡ f (g x)) → (xs : List X) → filter_map h xs ≡ filter_map f (map g xs)
filter_map-map f g h same [] = refl
filter_map-map {X} {Y} {Z} f g h same (x ∷ xs) = ap (λ o. with o (filter_map h xs)) (same x) ∙ ap (with (f (g x))) (filter_map-map f g h same xs)
  where
    with : Option Z → List Z → List Z
    with None zs = zs
    with (Some z) zs = z ∷ zs

-- a copy for each route, the oldest path first
copies-routes : (s : State) (moment : ℕ) (source : Addr) (message : List ℕ) → copies s moment source message ≡ filter_map (copy_along s.clients moment source message) (routes s.edges source)
copies-routes s moment source message =
    filter_map-map (copy_along s.clients moment source message) nodes_of (λ p. copy moment (end_of source p) (copy_on_path s.clients p message))
    (λ p. ap (copy moment (end_of source p)) (carried-nodes s.clients p message) ∙ ap (λ t. copy moment t (carried_by s.clients (nodes_of p) message)) (end-node source p)) (paths s.edges source)

-- ---- from node to node

filter_map-cons : {X Z : Type 0} (f : X → Option Z) (x : X) (xs : List X) → filter_map f (x ∷ xs) ≡ option_to_list (f x) ++ filter_map f xs
filter_map-cons {X} {Z} f x xs = go (f x) refl
  where
    go : (o : Option Z) → f x ≡ o → filter_map f (x ∷ xs) ≡ option_to_list (f x) ++ filter_map f xs
    go None e = cc
    go (Some z) e = cc

filter_map-append : {X Z : Type 0} (f : X → Option Z) (xs ys : List X) → filter_map f (xs ++ ys) ≡ filter_map f xs ++ filter_map f ys
filter_map-append f [] ys = refl
filter_map-append f (x ∷ xs) ys =
    filter_map-cons f x (xs ++ ys) ∙ ap (λ zs. option_to_list (f x) ++ zs) (filter_map-append f xs ys)
    ∙ sym (append_assoc (option_to_list (f x)) (filter_map f xs) (filter_map f ys)) ∙ ap (λ zs. zs ++ filter_map f ys) (sym (filter_map-cons f x xs))

filter_map-flat_map : {T X Z : Type 0} (f : X → Option Z) (g : T → List X) (h : T → List Z) → ((t : T) → filter_map f (g t) ≡ h t) → (ts : List T) → filter_map f (flat_map g ts) ≡ flat_map h ts
filter_map-flat_map f g h same [] = refl
filter_map-flat_map f g h same (t ∷ ts) =
    filter_map-append f (g t) (flat_map g ts) ∙ ap (λ zs. zs ++ filter_map f (flat_map g ts)) (same t) ∙ ap (λ zs. h t ++ zs) (filter_map-flat_map f g h same ts)

filter_map-never : {X Z : Type 0} (f : X → Option Z) → ((x : X) → f x ≡ None) → (xs : List X) → filter_map f xs ≡ []
filter_map-never f never [] = refl
filter_map-never f never (x ∷ xs) = filter_map-cons f x xs ∙ ap (λ o. option_to_list o ++ filter_map f xs) (never x) ∙ filter_map-never f never xs

port-passes : (clients : FinMap nat_cmp Client) (client : ℕ) (node : Node) (message : List ℕ) → is_filter_node node ≡ false → passed_by (filter_at clients client node) message ≡ Some message
port-passes clients client (Port n) message e = refl
port-passes clients client (Filter n) message e = cc

module _ (clients : FinMap nat_cmp Client) (edges : List Edge) (moment : ℕ) where
  -- what comes of a message along routes
  abbrev along : Addr → List ℕ → List (List Addr) → List Delivery
  along a message rs = filter_map (copy_along clients moment a message) rs

  abbrev onward : List (List Addr) → Addr → Option (List ℕ) → List Delivery
  onward rs t o = filter_map (λ r. copy moment (last_of t r) (option_and_then (carried_by clients r) o)) rs

  through-filter : (rs : List (List Addr)) (behind : List ℕ → List Delivery) (t : Addr) → ((m : List ℕ) → along t m rs ≡ behind m) → (o : Option (List ℕ)) → onward rs t o ≡ of_some behind o
  through-filter rs behind t same None = filter_map-never _ (λ r. refl) rs
  through-filter rs behind t same (Some m) = same m

  pub spread-tails : (n : ℕ) (targets : List Addr) (a : Addr) (message : List ℕ) → along a message (tails n edges targets) ≡ copies_onward clients edges moment n targets message
  unfolding tails copies_onward
  spread-tails zero targets a message = refl
  spread-tails (suc n) targets a message =
      filter_map-flat_map (copy_along clients moment a message) _ _ (λ t. one t (λ m. spread-tails n (targets_of edges t) t m) (is_filter t) refl) targets
    where
      behind : Addr → List ℕ → List Delivery
      behind t m = copies_onward clients edges moment n (targets_of edges t) m

      one : (t : Addr) → ((m : List ℕ) → along t m (tails n edges (targets_of edges t)) ≡ copies_onward clients edges moment n (targets_of edges t) m) → (b : Bool) → is_filter t ≡ b →
          along a message (if is_filter t then map (λ r. t ∷ r) (tails n edges (targets_of edges t)) else (t ∷ []) ∷ []) ≡ copies_by clients edges moment (λ ts m. copies_onward clients edges moment n ts m) message t
      one t further true e =
          let rs : List (List Addr) = tails n edges (targets_of edges t) in
          ap (λ b. along a message (if b then map (λ r. t ∷ r) rs else (t ∷ []) ∷ [])) e
          ∙ sym (filter_map-map (copy_along clients moment a message) (λ r. t ∷ r) (λ r. copy_along clients moment a message (t ∷ r)) (λ r. refl) rs)
          ∙ through-filter rs (behind t) t further (passed_by (filter_at clients t.client t.node) message)
          ∙ sym (ap (λ b. if b then of_some (behind t) (passed_by (filter_at clients t.client t.node) message) else option_to_list (copy moment t (Some message))) e)
      one t further false e =
          ap (λ b. along a message (if b then map (λ r. t ∷ r) (tails n edges (targets_of edges t)) else (t ∷ []) ∷ [])) e
          ∙ filter_map-cons (copy_along clients moment a message) (t ∷ []) []
          ∙ ap (λ o. option_to_list (copy moment t (option_and_then (carried_by clients []) o)) ++ []) (port-passes clients t.client t.node message e)
          ∙ append-nil (option_to_list (copy moment t (Some message)))
          ∙ sym (ap (λ b. if b then of_some (behind t) (passed_by (filter_at clients t.client t.node) message) else option_to_list (copy moment t (Some message))) e)

-- a message that goes to the targets of a port comes to what all its paths make of it
pub spread-copies : (clients : FinMap nat_cmp Client) (edges : List Edge) (moment client port : ℕ) (targets : List Addr) (message bytes : List ℕ) →
    targets ≡ targets_of edges (port_addr client port) → bytes ≡ message → copies_onward clients edges moment 8 targets bytes ≡ copies_of clients edges moment client port message
unfolding hops
spread-copies clients edges moment client port targets message bytes e f =
    let source : Addr = port_addr client port in
    ap (λ ts. copies_onward clients edges moment 8 ts bytes) e ∙ ap (copies_onward clients edges moment 8 (targets_of edges source)) f
    ∙ sym (spread-tails clients edges moment hops (targets_of edges source) source message)
    ∙ ap (filter_map (copy_along clients moment source message)) (sym (routes-tails edges source))
    ∙ sym (copies-routes (record { clients = clients; pools = FinMap.empty; edges = edges; pending = [] }) moment source message)

-- messages that go to the targets of a port one after another come to what all its paths make of them
pub all-copies : (clients : FinMap nat_cmp Client) (edges : List Edge) (moment client port : ℕ) (messages : List (List ℕ)) →
    spread_all clients edges moment (targets_of edges (port_addr client port)) messages ≡ copies_of_all clients edges moment client port messages
unfolding hops
all-copies clients edges moment client port messages =
    flat_map-same _ _ (λ m. spread-copies clients edges moment client port (targets_of edges (port_addr client port)) m m refl refl) messages

-- where the only way leads straight to a port, a message comes to that
pub straight-copies : (clients : FinMap nat_cmp Client) (edges : List Edge) (moment client port : ℕ) (end : PortAddr) (message : List ℕ) →
    IsMessage message → AreWays clients edges (targets_of edges (port_addr client port)) (Straight end ∷ []) →
    option_to_list (copy moment (at_port end) (Some message)) ≡ copies_of clients edges moment client port message
unfolding hops
straight-copies clients edges moment client port end message formed are =
    sym (append-nil (option_to_list (copy moment (at_port end) (Some message)))) ∙ are moment message formed
    ∙ spread-copies clients edges moment client port (targets_of edges (port_addr client port)) message message refl refl

-- nothing comes of no messages
pub none-come : (clients : FinMap nat_cmp Client) (edges : List Edge) (moment client port : ℕ) (messages : List (List ℕ)) → length messages ≡ 0 →
    copies_of_all clients edges moment client port messages ≡ []
none-come clients edges moment client port [] e = refl
none-come clients edges moment client port (m ∷ ms) e = absurd (omega arith)
