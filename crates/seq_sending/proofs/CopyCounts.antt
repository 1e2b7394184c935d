-- The number of copies for a client.
use Rattle.std.proofs.Common.{◌≡◌, ℕ, zero, suc, ◌+◌, Bool, true, false, cond, eqb, List, [], ◌∷◌, ◌++◌, length, Option, Some, None, refl, sym, ap, ◌∙◌, length-append}
use Rattle.std.specs.List.{flat_map}
use Rattle.std.specs.Ordering.{nat_cmp}
use Rattle.std.specs.FinMap.{FinMap}
use Rattle.node_table.specs.declared.number.Addr.{Addr}
use Rattle.node_table.specs.declared.number.Node.{Node}
use Rattle.node_table.specs.declared.number.Node.TheVariants.{Port, Filter}
use Rattle.patch_graph.specs.declared.edge.Edge.{Edge}
use Rattle.patch_graph.specs.Index.{targets_of}
use Rattle.seq_state.specs.declared.log.Delivery.{Delivery}
use Rattle.seq_state.specs.State.{Client}
use Rattle.seq_state.specs.Copies.{filter_at, passed_by}
use Rattle.seq_state.proofs.Lists.{filter-append}
use Rattle.seq_sending.specs.Carrying.{of_some, copies_by, copies_onward}
use Rattle.seq_sending.specs.Rooms.{copies_for, for_client}
use Rattle.std.specs.Prelude.{sum_by}
use Rattle.std.proofs.lemmas.List.Sums.{sum_by-cons}
use Rattle.seq_sending.specs.Counts.{ways_of, ways_past, ways_at, ways_for}
use Rattle.seq_sending.specs.Laws.{CountLaw}

copies_for-append : (c : ℕ) (xs ys : List Delivery) → copies_for c (xs ++ ys) ≡ copies_for c xs + copies_for c ys
copies_for-append c xs ys =
    ap length (filter-append (λ d. eqb d.target.client c) xs ys) ∙ length-append (for_client c xs) (for_client c ys)

copies_for-all : {X : Type 0} (c : ℕ) (f : X → List Delivery) (g : X → ℕ) → ((x : X) → copies_for c (f x) ≡ g x) → (xs : List X) → copies_for c (flat_map f xs) ≡ sum_by g xs
copies_for-all c f g same [] = refl
copies_for-all c f g same (x ∷ xs) =
    copies_for-append c (f x) (flat_map f xs) ∙ ap (λ n. n + copies_for c (flat_map f xs)) (same x) ∙ ap (λ n. g x + n) (copies_for-all c f g same xs) ∙ sym (sum_by-cons g x xs)

one-copy : (b : Bool) (d : Delivery) → length (cond b (d ∷ []) []) ≡ cond b 1 0
one-copy true d = refl
one-copy false d = refl

module _ (clients : FinMap nat_cmp Client) (edges : List Edge) (moment c : ℕ) where
  passed : (f : List ℕ → List Delivery) (g : List ℕ → ℕ) → ((m : List ℕ) → copies_for c (f m) ≡ g m) → (o : Option (List ℕ)) → copies_for c (of_some f o) ≡ ways_of g o
  passed f g same None = refl
  passed f g same (Some m) = same m

  at-node : (f : List Addr → List ℕ → List Delivery) (g : List Addr → List ℕ → ℕ) → ((ts : List Addr) (m : List ℕ) → copies_for c (f ts m) ≡ g ts m) → (message : List ℕ) (client : ℕ) (node : Node) →
      copies_for c (copies_by clients edges moment f message (record { client = client; node = node })) ≡ ways_at c (ways_past clients edges g) message (record { client = client; node = node })
  at-node f g same message client (Port p) = one-copy (eqb client c) (record { moment = moment; target = record { client = client; port = p }; message = message })
  at-node f g same message client (Filter n) =
      passed (f (targets_of edges (record { client = client; node = Filter n }))) (g (targets_of edges (record { client = client; node = Filter n })))
      (same (targets_of edges (record { client = client; node = Filter n }))) (passed_by (filter_at clients client (Filter n)) message)

  pub counted : (n : ℕ) (targets : List Addr) (message : List ℕ) → copies_for c (copies_onward clients edges moment n targets message) ≡ ways_for clients edges c n targets message
  unfolding copies_onward ways_for
  counted zero targets message = refl
  counted (suc n) targets message =
      copies_for-all c (copies_by clients edges moment (λ ts m. copies_onward clients edges moment n ts m) message) (ways_at c (ways_past clients edges (λ ts m. ways_for clients edges c n ts m)) message)
      (λ t. at-node (λ ts m. copies_onward clients edges moment n ts m) (λ ts m. ways_for clients edges c n ts m) (λ ts m. counted n ts m) message t.client t.node) targets

pub count_law : CountLaw
count_law clients edges moment c n targets message = counted clients edges moment c n targets message
