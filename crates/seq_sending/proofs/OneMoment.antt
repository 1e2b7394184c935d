-- The copies of a message all come at its moment.
use Rattle.std.proofs.Common.{ℕ, zero, suc, true, ◌&&◌, eqb, List, [], ◌∷◌, ◌++◌, Option, Some, None, refl, ap}
use Rattle.std.specs.Option.{option_to_list}
use Rattle.std.specs.List.{flat_map}
use Rattle.std.specs.Ordering.{nat_cmp}
use Rattle.std.specs.FinMap.{FinMap}
use Rattle.std.proofs.lemmas.Bool.{eq-eqb}
use Rattle.node_table.specs.declared.number.Addr.{Addr}
use Rattle.node_table.specs.declared.number.Node.{Node}
use Rattle.node_table.specs.declared.number.Node.TheVariants.{Port, Filter}
use Rattle.patch_graph.specs.Index.{targets_of}
use Rattle.patch_graph.specs.declared.edge.Edge.{Edge}
use Rattle.seq_state.specs.declared.log.Delivery.{Delivery}
use Rattle.seq_state.specs.State.{Client, ClientPool}
use Rattle.seq_state.specs.Copies.{filter_at, passed_by, copy}
use Rattle.seq_state.specs.Step.{copies_with_room}
use Rattle.seq_state.proofs.Lists.{list_all-append}
use Rattle.seq_state.proofs.Rising.{delivered-all}
use Rattle.seq_sending.specs.Carrying.{of_some, copies_by, copies_to, copies_onward}
use Rattle.seq_sending.specs.Rooms.{AreAt}

module _ (moment : ℕ) where
  pub both-at : (xs ys : List Delivery) → AreAt moment xs → AreAt moment ys → AreAt moment (xs ++ ys)
  both-at xs ys h k = list_all-append (λ d. eqb d.moment moment) xs ys h k

  -- what finds room is part of what is offered
  pub kept-at : (pools : FinMap nat_cmp ClientPool) (ds : List Delivery) → AreAt moment ds → AreAt moment (copies_with_room pools ds)
  kept-at pools ds h = delivered-all (λ d. eqb d.moment moment) pools ds h

  pub each-at : {X : Type 0} (f : X → List Delivery) → ((x : X) → AreAt moment (f x)) → (xs : List X) → AreAt moment (flat_map f xs)
  each-at f h [] = refl
  each-at f h (x ∷ xs) = both-at (f x) (flat_map f xs) (h x) (each-at f h xs)

  of-some-at : (f : List ℕ → List Delivery) → ((m : List ℕ) → AreAt moment (f m)) → (o : Option (List ℕ)) → AreAt moment (of_some f o)
  of-some-at f h None = refl
  of-some-at f h (Some m) = h m

  pub copy-at : (client : ℕ) (node : Node) (message : List ℕ) → AreAt moment (option_to_list (copy moment (record { client = client; node = node }) (Some message)))
  copy-at client (Port port) message = ap (λ b. b && true) (eq-eqb moment moment refl)
  copy-at client (Filter n) message = refl

  module _ (clients : FinMap nat_cmp Client) (edges : List Edge) where
    at-node : (f : List Addr → List ℕ → List Delivery) → ((ts : List Addr) (m : List ℕ) → AreAt moment (f ts m)) → (message : List ℕ) (client : ℕ) (node : Node) →
        AreAt moment (copies_by clients edges moment f message (record { client = client; node = node }))
    at-node f h message client (Port port) = copy-at client (Port port) message
    at-node f h message client (Filter n) =
        of-some-at (f (targets_of edges (record { client = client; node = Filter n }))) (h (targets_of edges (record { client = client; node = Filter n })))
        (passed_by (filter_at clients client (Filter n)) message)

    pub onward-at : (n : ℕ) (targets : List Addr) (message : List ℕ) → AreAt moment (copies_onward clients edges moment n targets message)
    unfolding copies_onward
    onward-at zero targets message = refl
    onward-at (suc n) targets message =
        each-at (copies_by clients edges moment (λ ts m. copies_onward clients edges moment n ts m) message)
        (λ t. at-node (λ ts m. copies_onward clients edges moment n ts m) (λ ts m. onward-at n ts m) message t.client t.node) targets

    pub to-at : (n : ℕ) (node : Addr) (message : List ℕ) → AreAt moment (copies_to clients edges moment n node message)
    to-at n node message = at-node (λ ts m. copies_onward clients edges moment n ts m) (λ ts m. onward-at n ts m) message node.client node.node
