-- A message on its way from node to node.
use Rattle.std.proofs.Common.{◌≡◌, ℕ, suc, ◌+◌, ◌<◌, ◌≤◌, List, ◌∷◌, drop, drop-cons, get_or, length, Option, Some, None, sym, ap, ◌∙◌, arith}
use Rattle.std.specs.Option.{option_and_then, option_map, option_or}
use Rattle.std.specs.Ordering.{nat_cmp}
use Rattle.std.specs.FinMap.{FinMap}
use Rattle.std.proofs.lemmas.List.{drop_all}
use Rattle.node_table.specs.declared.number.Addr.{Addr}
use Rattle.seq_state.specs.State.{Client, FilterInfo}
use Rattle.seq_state.specs.Copies.{filter_at, passed_by}
use Rattle.way_fates.specs.Fates.{stop_at, stopped_at}
use Rattle.way_fates.specs.declared.stop.Stop.{Stop}
use Rattle.way_fates.specs.declared.fate.Fate.TheVariants.{Stopped}

module _ (clients : FinMap nat_cmp Client) where
  abbrev at : Addr → Option FilterInfo
  at node = filter_at clients node.client node.node

  pub goes-on : (node : Addr) (nodes : List Addr) (m passed : List ℕ) → stop_at (at node) m ≡ None → passed_by (at node) m ≡ Some passed → stopped_at clients (node ∷ nodes) m ≡ stopped_at clients nodes passed
  goes-on node nodes m passed e f =
      ap (λ o. option_or (option_map (Stopped node) o) (option_and_then (stopped_at clients nodes) (passed_by (at node) m))) e
      ∙ ap (λ o. option_and_then (stopped_at clients nodes) o) f

  pub stops-here : (node : Addr) (nodes : List Addr) (m : List ℕ) (why : Stop) → stop_at (at node) m ≡ Some why → stopped_at clients (node ∷ nodes) m ≡ Some (Stopped node why)
  stops-here node nodes m why e = ap (λ o. option_or (option_map (Stopped node) o) (option_and_then (stopped_at clients nodes) (passed_by (at node) m))) e

  module _ (nodes : List Addr) (message : List ℕ) where
    -- what is left of the nodes does the rest
    abbrev pub IsOnItsWay : ℕ → List ℕ → Type 0
    IsOnItsWay i carried = stopped_at clients nodes message ≡ stopped_at clients (drop i nodes) carried

    front : (i : ℕ) (node : Addr) → i < length nodes → node ≡ get_or nodes i node → drop i nodes ≡ node ∷ drop (i + 1) nodes
    front i node below is =
        let next : suc i ≡ i + 1 = omega arith in
        drop-cons nodes i node below ∙ ap (λ x. x ∷ drop (suc i) nodes) (sym is) ∙ ap (λ k. node ∷ drop k nodes) next

    pub past-node : (i : ℕ) (node : Addr) (carried passed : List ℕ) → i < length nodes → node ≡ get_or nodes i node → (stop_at (at node) carried ≡ None) × (passed_by (at node) carried ≡ Some passed) →
        IsOnItsWay i carried → IsOnItsWay (i + 1) passed
    past-node i node carried passed below is through so =
        so ∙ ap (λ ns. stopped_at clients ns carried) (front i node below is) ∙ goes-on node (drop (i + 1) nodes) carried passed through.0 through.1

    pub stopped-there : (i : ℕ) (node : Addr) (carried : List ℕ) (why : Stop) → i < length nodes → node ≡ get_or nodes i node → stop_at (at node) carried ≡ Some why →
        IsOnItsWay i carried → Some (Stopped node why) ≡ stopped_at clients nodes message
    stopped-there i node carried why below is stop so =
        sym (so ∙ ap (λ ns. stopped_at clients ns carried) (front i node below is) ∙ stops-here node (drop (i + 1) nodes) carried why stop)

    pub past-all : (i : ℕ) (carried : List ℕ) → length nodes ≤ i → IsOnItsWay i carried → None ≡ stopped_at clients nodes message
    past-all i carried all so = sym (so ∙ ap (λ ns. stopped_at clients ns carried) (drop_all i nodes all))
