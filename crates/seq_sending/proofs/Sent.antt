-- How what is sent comes together, copy by copy.
use Rattle.std.proofs.Common.{◌≡◌, ℕ, zero, suc, ◌+◌, ◌-◌, ◌<◌, ◌≤◌, Bool, true, false, cond, if◌then◌else◌, List, [], ◌∷◌, ◌++◌, length, take, drop, get_or, slice_index_or, Option, Some, None, refl, sym, ap, ◌∙◌, arith, append-nil, append_assoc, add-one, drop-cons}
use Rattle.std.specs.Option.{option_map, option_to_list}
use Rattle.std.specs.List.{flat_map}
use Rattle.std.specs.Ordering.{nat_cmp}
use Rattle.std.specs.FinMap
use Rattle.std.specs.FinMap.{FinMap}
use Rattle.std.proofs.lemmas.List.{take_more}
use Rattle.route_filter.specs.declared.rule_args.RuleArgs.{RuleArgs}
use Rattle.cell_pools.specs.Pools.{after_offer}
use Rattle.node_table.specs.Addresses.{is_filter_node}
use Rattle.node_table.specs.declared.number.Addr.{Addr}
use Rattle.node_table.specs.declared.number.Node.TheVariants.{Port, Filter}
use Rattle.patch_graph.specs.Cursor.{at_port}
use Rattle.patch_graph.specs.Index.{targets_of}
use Rattle.patch_graph.specs.declared.edge.Edge.{Edge}
use Rattle.seq_state.specs.declared.log.Delivery.{Delivery}
use Rattle.seq_state.specs.State.{Client, FilterInfo, ClientPool, with_entry}
use Rattle.seq_state.specs.Effect.{filter_of}
use Rattle.seq_state.specs.Copies.{filter_at, passed_by, delivery, copy}
use Rattle.seq_state.specs.Step.{pool_has_room, arrival, offer, pools_after, copies_with_room}
use Rattle.seq_state.proofs.Lists.{flat_map-append}
use Rattle.seq_state.proofs.Settling.{offered-append, delivered-append}
use Rattle.seq_sending.specs.Carrying.{let_through, of_some, copies_by, copies_to, copies_onward}

-- ---- one copy

pub offer-is : (o : Option ClientPool) (d : Delivery) → option_map (λ p. after_offer d.moment p (arrival d)) o ≡ offer o d
offer-is None d = refl
offer-is (Some p) d = refl

-- the pools after one copy was offered
pub offered-one : (pools : FinMap nat_cmp ClientPool) (d : Delivery) → with_entry pools d.target.client (option_map (λ p. after_offer d.moment p (arrival d)) (FinMap.get pools d.target.client)) ≡ pools_after pools (d ∷ [])
offered-one pools d = ap (with_entry pools d.target.client) (offer-is (FinMap.get pools d.target.client) d)

pub delivered-room : (pools : FinMap nat_cmp ClientPool) (d : Delivery) → pool_has_room d.moment (FinMap.get pools d.target.client) ≡ true → copies_with_room pools (d ∷ []) ≡ d ∷ []
delivered-room pools d e = ap (λ b. cond b (d ∷ []) []) e

pub delivered-none : (pools : FinMap nat_cmp ClientPool) (d : Delivery) → pool_has_room d.moment (FinMap.get pools d.target.client) ≡ false → copies_with_room pools (d ∷ []) ≡ []
delivered-none pools d e = ap (λ b. cond b (d ∷ []) []) e

-- ---- filters

-- what the rule of a node lets through is what the node lets through
pub let-through : (o : Option FilterInfo) (r : Option RuleArgs) (message : List ℕ) → r ≡ option_map (λ f. f.rule) o → let_through r message ≡ passed_by o message
let-through None r message e = ap (λ x. let_through x message) e
let-through (Some f) r message e = ap (λ x. let_through x message) e

-- ---- node by node

module _ (clients : FinMap nat_cmp Client) (edges : List Edge) (moment : ℕ) where
  pub spread-none : (n : ℕ) (targets : List Addr) (message : List ℕ) → n ≡ 0 → copies_onward clients edges moment n targets message ≡ []
  unfolding copies_onward
  spread-none n targets message e = ap (λ k. copies_onward clients edges moment k targets message) e

  pub spread-hops : (n : ℕ) (targets : List Addr) (message : List ℕ) → (n ≡ 0 → ⊥) →
      copies_onward clients edges moment n targets message ≡ flat_map (copies_by clients edges moment (λ ts m. copies_onward clients edges moment (n - 1) ts m) message) targets
  unfolding copies_onward
  spread-hops zero targets message some = absurd (some refl)
  spread-hops (suc k) targets message some =
      ap (λ j. flat_map (copies_by clients edges moment (λ ts m. copies_onward clients edges moment j ts m) message) targets) (let e : k ≡ suc k - 1 = omega arith in e)

  module _ (behind : List Addr → List ℕ → List Delivery) (message : List ℕ) (node : Addr) where
    abbrev cases : Bool → List Delivery
    cases b = if b then of_some (behind (targets_of edges node)) (passed_by (filter_at clients node.client node.node) message) else option_to_list (copy moment node (Some message))

    pub by-port : (port : ℕ) → node.node ≡ Port port → copies_by clients edges moment behind message node ≡ option_to_list (copy moment (at_port (record { client = node.client; port = port })) (Some message))
    by-port port e = ap (λ n. cases (is_filter_node n)) e ∙ ap (λ n. option_to_list (delivery moment node.client n message)) e

    pub by-filter : (filter : ℕ) → node.node ≡ Filter filter → (o : Option (List ℕ)) → passed_by (filter_at clients node.client node.node) message ≡ o →
        copies_by clients edges moment behind message node ≡ of_some (behind (targets_of edges node)) o
    by-filter filter e o p = ap (λ n. cases (is_filter_node n)) e ∙ ap (of_some (behind (targets_of edges node))) p

  -- what comes to a filter goes on as what its rule lets through
  pub to-filter : (n : ℕ) (node : Addr) (message : List ℕ) (filter : ℕ) → node.node ≡ Filter filter → (rule : Option RuleArgs) → rule ≡ option_map (λ f. f.rule) (filter_of (FinMap.get clients node.client) filter) →
      (o : Option (List ℕ)) → o ≡ let_through rule message → copies_to clients edges moment n node message ≡ of_some (λ m. copies_onward clients edges moment n (targets_of edges node) m) o
  to-filter n node message filter e rule r o p =
      by-filter (λ ts m. copies_onward clients edges moment n ts m) message node filter e o
      (ap (λ x. passed_by (filter_at clients node.client x) message) e ∙ sym (let-through (filter_of (FinMap.get clients node.client) filter) rule message r) ∙ sym p)

  -- nothing comes of what goes to a filter, and along no edge behind it
  pub to-none : (n : ℕ) (node : Addr) (message : List ℕ) (filter : ℕ) → node.node ≡ Filter filter → n ≡ 0 → copies_to clients edges moment n node message ≡ []
  to-none n node message filter e none =
      by-filter (λ ts m. copies_onward clients edges moment n ts m) message node filter e (passed_by (filter_at clients node.client node.node) message) refl ∙ go (passed_by (filter_at clients node.client node.node) message)
    where
      go : (o : Option (List ℕ)) → of_some (λ m. copies_onward clients edges moment n (targets_of edges node) m) o ≡ []
      go None = refl
      go (Some m) = spread-none n (targets_of edges node) m none

  -- to the only one of some nodes
  pub to-only : (n : ℕ) (targets : List Addr) (node : Addr) (message : List ℕ) → 1 ≤ length targets → length targets < 2 → node ≡ slice_index_or targets 0 node → (n ≡ 0 → ⊥) →
      copies_onward clients edges moment n targets message ≡ copies_to clients edges moment (n - 1) node message
  to-only n [] node message some few e h = absurd (omega arith)
  to-only n (a ∷ []) node message some few e h =
      spread-hops n (a ∷ []) message h ∙ append-nil (copies_to clients edges moment (n - 1) a message) ∙ ap (λ (t : Addr). copies_to clients edges moment (n - 1) t message) (sym e)
  to-only n (a ∷ (b ∷ rest)) node message some few e h = absurd (omega arith)

-- ---- one after another

-- what is still to be sent comes to what was to be sent, once the copies of the next node were offered
pub sent-one : {X : Type 0} (f : X → List Delivery) (targets : List X) (i : ℕ) (t : X) (now : List Delivery) → i < length targets → t ≡ slice_index_or targets i t → f t ≡ now →
    (pools pools' all : FinMap nat_cmp ClientPool) (out out' whole : List Delivery) → pools' ≡ pools_after pools now → out' ≡ out ++ copies_with_room pools now →
    pools_after pools (flat_map f (drop i targets)) ≡ all → out ++ copies_with_room pools (flat_map f (drop i targets)) ≡ whole →
    (pools_after pools' (flat_map f (drop (i + 1) targets)) ≡ all) × (out' ++ copies_with_room pools' (flat_map f (drop (i + 1) targets)) ≡ whole)
sent-one f targets i t now l e same pools pools' all out out' whole o s p q =
    let rest : List Delivery = flat_map f (drop (i + 1) targets) in
    let next : flat_map f (drop i targets) ≡ now ++ rest =
    ap (flat_map f) (drop-cons targets i t l ∙ ap (λ x. x ∷ drop (suc i) targets) (sym e)) ∙ ap (λ k. f t ++ flat_map f (drop k targets)) (sym (add-one i)) ∙ ap (λ ds. ds ++ rest) same in (
      ap (λ z. pools_after z rest) o ∙ offered-append pools now rest ∙ ap (pools_after pools) (sym next) ∙ p,
      ap (λ ds. ds ++ copies_with_room pools' rest) s ∙ append_assoc out (copies_with_room pools now) (copies_with_room pools' rest)
          ∙ ap (λ ds. out ++ ds) (ap (λ z. copies_with_room pools now ++ copies_with_room z rest) o ∙ delivered-append pools now rest ∙ ap (copies_with_room pools) (sym next)) ∙ q,
    )

-- ---- message by message

module _ {X : Type 0} (f : X → List Delivery) (xs : List X) (i : ℕ) (x : X) (within : i < length xs) (is : x ≡ get_or xs i x) where
  pub one-more : flat_map f (take (i + 1) xs) ≡ flat_map f (take i xs) ++ f x
  one-more =
      ap (flat_map f) (take_more xs i x within ∙ ap (λ y. take i xs ++ y ∷ []) (sym is))
      ∙ flat_map-append f (take i xs) (x ∷ []) ∙ ap (λ ys. flat_map f (take i xs) ++ ys) (append-nil (f x))

  pub offered-more : (was now after : FinMap nat_cmp ClientPool) → now ≡ pools_after was (flat_map f (take i xs)) → after ≡ pools_after now (f x) → after ≡ pools_after was (flat_map f (take (i + 1) xs))
  offered-more was now after a b =
      b ∙ ap (λ p. pools_after p (f x)) a ∙ offered-append was (flat_map f (take i xs)) (f x) ∙ ap (pools_after was) (sym one-more)

  pub delivered-more : (was now : FinMap nat_cmp ClientPool) (out out' out'' : List Delivery) → now ≡ pools_after was (flat_map f (take i xs)) →
      out' ≡ out ++ copies_with_room was (flat_map f (take i xs)) → out'' ≡ out' ++ copies_with_room now (f x) → out'' ≡ out ++ copies_with_room was (flat_map f (take (i + 1) xs))
  delivered-more was now out out' out'' p a b =
      let before : List Delivery = flat_map f (take i xs) in
      b ∙ ap (λ ds. ds ++ copies_with_room now (f x)) a ∙ append_assoc out (copies_with_room was before) (copies_with_room now (f x))
      ∙ ap (λ ds. out ++ ds) (ap (λ q. copies_with_room was before ++ copies_with_room q (f x)) p ∙ delivered-append was before (f x) ∙ ap (copies_with_room was) (sym one-more))
