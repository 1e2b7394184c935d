-- A walk that leaves out what comes to nothing.
use Rattle.std.proofs.Common.{◌≡◌, ◌<◌, ◌+◌, ℕ, zero, suc, true, List, [], ◌∷◌, ◌++◌, length, take, slice_index_or, Some, refl, sym, ap, ◌∙◌, append-nil, append_assoc, length-append, arith}
use Rattle.std.specs.Prelude.{slice_get, nat_lt}
use borrow.Author.Tests.{ltb-true}
use Rattle.std.specs.List.{flat_map}
use Rattle.std.specs.Ordering.{nat_cmp}
use Rattle.std.specs.FinMap.{FinMap}
use Rattle.std.proofs.lemmas.List.{take_more}
use Rattle.node_table.specs.declared.number.Addr.{Addr}
use Rattle.patch_graph.specs.declared.edge.Edge.{Edge}
use Rattle.seq_state.specs.declared.log.Delivery.{Delivery}
use Rattle.seq_state.specs.State.{Client}
use Rattle.seq_state.specs.Step.{pools_after, copies_with_room}
use Rattle.seq_state.proofs.Lists.{flat_map-append}
use Rattle.seq_sending.specs.Carrying.{copies_to}
use Rattle.seq_sending.specs.Barren.{AreBarren}
use Rattle.seq_sending.specs.Rooms.{AreAt}
use Rattle.seq_sending.specs.declared.barren.Mark.{Mark}
use Rattle.seq_sending.proofs.Agreeing.{at-more}
use Rattle.seq_sending.proofs.OneMoment.{each-at, to-at}
use Rattle.seq_sending.proofs.Rooms.{Pools, cut_law, onward_law}

module _ {M : Type 0} (bytes : M → List ℕ) (clients : FinMap nat_cmp Client) (edges : List Edge) (moment : ℕ) where
  abbrev pub of_mark : Mark M → List Delivery
  of_mark k = copies_to clients edges moment k.hops k.node (bytes k.message)

  -- what is marked comes to nothing
  pub marked : (pools : Pools) (k : Mark M) (node : Addr) (hops : ℕ) (message : List ℕ) → k.node ≡ node → k.hops ≡ hops → bytes k.message ≡ message →
      copies_with_room pools (of_mark k) ≡ [] → copies_with_room pools (copies_to clients edges moment hops node message) ≡ []
  marked pools k node hops message n h m e =
      sym (ap (λ x. copies_with_room pools (copies_to clients edges moment x k.node (bytes k.message))) h
      ∙ ap (λ x. copies_with_room pools (copies_to clients edges moment hops x (bytes k.message))) n
      ∙ ap (λ x. copies_with_room pools (copies_to clients edges moment hops node x)) m) ∙ e

  -- and stays so
  pub still-barren : (pools now : Pools) (marks : List (Mark M)) (more : List Delivery) → AreAt moment more → now ≡ pools_after pools more → AreBarren bytes clients edges moment pools marks → AreBarren bytes clients edges moment now marks
  still-barren pools now marks more all e are i k at =
      ap (λ p. copies_with_room p (of_mark k)) e
      ∙ cut_law pools moment (of_mark k) more (to-at moment clients edges k.hops k.node (bytes k.message)) all (are i k at)

  -- one mark more
  pub one-more : (pools : Pools) (marks : List (Mark M)) (new : Mark M) → AreBarren bytes clients edges moment pools marks → copies_with_room pools (of_mark new) ≡ [] → AreBarren bytes clients edges moment pools (marks ++ new ∷ [])
  one-more pools marks new are e = at-more (λ _ k. copies_with_room pools (of_mark k) ≡ []) marks new are e

-- nothing was delivered where the log is no longer
pub no-longer : (out out' now : List Delivery) → out' ≡ out ++ now → length out' ≡ length out → now ≡ []
no-longer out out' [] e l = refl
no-longer out out' (d ∷ now) e l = absurd (longer (ap length (sym e) ∙ l))
  where
    longer : length (out ++ d ∷ now) ≡ length out → ⊥
    longer h = omega (arith, length-append out (d ∷ now))

-- ---- node by node

module _ {X : Type 0} (moment : ℕ) (f : X → List Delivery) (all : (y : X) → AreAt moment (f y)) (xs : List X) (i : ℕ) (x : X) (within : i < length xs) (is : x ≡ slice_index_or xs i x) where
  next : flat_map f (take (i + 1) xs) ≡ flat_map f (take i xs) ++ f x
  next =
      ap (flat_map f) (take_more xs i x within ∙ ap (λ y. take i xs ++ y ∷ []) (sym is))
      ∙ flat_map-append f (take i xs) (x ∷ []) ∙ ap (λ ys. flat_map f (take i xs) ++ ys) (append-nil (f x))

  pub pools-next : (was now after : Pools) → now ≡ pools_after was (copies_with_room was (flat_map f (take i xs))) → after ≡ pools_after now (copies_with_room now (f x)) →
      after ≡ pools_after was (copies_with_room was (flat_map f (take (i + 1) xs)))
  pools-next was now after a b =
      b ∙ ap (λ p. pools_after p (copies_with_room p (f x))) a ∙ sym (onward_law was moment (flat_map f (take i xs)) (f x) (each-at moment f all (take i xs)) (all x)).0
      ∙ ap (λ ds. pools_after was (copies_with_room was ds)) (sym next)

  pub sent-next : (was now : Pools) (out out' out'' : List Delivery) → now ≡ pools_after was (copies_with_room was (flat_map f (take i xs))) →
      out' ≡ out ++ copies_with_room was (flat_map f (take i xs)) → out'' ≡ out' ++ copies_with_room now (f x) → out'' ≡ out ++ copies_with_room was (flat_map f (take (i + 1) xs))
  sent-next was now out out' out'' p a b =
      let before : List Delivery = flat_map f (take i xs) in
      b ∙ ap (λ ds. ds ++ copies_with_room now (f x)) a ∙ append_assoc out (copies_with_room was before) (copies_with_room now (f x))
      ∙ ap (λ ds. out ++ ds) (ap (λ q. copies_with_room was before ++ copies_with_room q (f x)) p ∙ sym (onward_law was moment before (f x) (each-at moment f all (take i xs)) (all x)).1 ∙ ap (copies_with_room was) (sym next))

pub stands : {X : Type 0} (xs : List X) (i : ℕ) (x : X) → true ≡ nat_lt i (length xs) → x ≡ slice_index_or xs i x → slice_get xs i ≡ Some x
stands xs i x e at = go xs i (ltb-true i (length xs) (sym e)) at
  where
    go : {X : Type 0} {x : X} (xs : List X) (i : ℕ) → i < length xs → x ≡ slice_index_or xs i x → slice_get xs i ≡ Some x
    go [] i l at = absurd (omega arith)
    go (y ∷ ys) zero l at = ap Some (sym at)
    go (y ∷ ys) (suc i) l at = let m : i < length ys = omega arith in go ys i m at
