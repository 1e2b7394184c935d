-- What comes behind a node, along one edge more.
use Rattle.std.proofs.Common.{◌≡◌, ℕ, zero, suc, ◌+◌, ◌*◌, true, List, Option, Some, None, refl, ap, ◌∙◌, arith, add-one}
use Rattle.std.specs.Prelude.{Result, Ok, Err, OnOk, IfOk, is_ok}
use Rattle.std.specs.Ordering.{nat_cmp}
use Rattle.std.specs.FinMap.{FinMap}
use Rattle.node_table.specs.declared.number.Addr.{Addr}
use Rattle.patch_graph.specs.declared.edge.Edge.{Edge}
use Rattle.patch_graph.specs.Index.{targets_of}
use Rattle.seq_state.specs.State.{Client}
use Rattle.seq_state.specs.Copies.{filter_at, passed_by}
use Rattle.seq_sending.specs.declared.front.Entry.{Entry}
use Rattle.std.specs.Prelude.{sum_by}
use Rattle.seq_sending.specs.Counts.{ways_of, ways_at, ways_for, ways_behind, ways_in}
use Rattle.seq_sending.proofs.Totals.{sum_by-none}

pub on-ok : {T E : Type 0} (r : Result T E) (P Q : Type 0) → (P → Q) → OnOk r P → OnOk r Q
on-ok (Ok x) P Q f p = f p
on-ok (Err e) P Q f p = tt

pub where-is-ok : {T E : Type 0} (r : Result T E) (P : Type 0) → is_ok r ≡ true → OnOk r P → P
where-is-ok (Ok x) P e p = p
where-is-ok (Err x) P e p = cc

pub if-ok : {T E : Type 0} (r : Result T E) (P Q : T → Type 0) → ((x : T) → P x → Q x) → IfOk r P → IfOk r Q
if-ok (Ok x) P Q f p = f x p
if-ok (Err e) P Q f p = tt

module _ (clients : FinMap nat_cmp Client) (edges : List Edge) (c : ℕ) where
  pub ways-on : (n : ℕ) (node : Addr) (message passed : List ℕ) → passed_by (filter_at clients node.client node.node) message ≡ Some passed →
      ways_behind clients edges c (n + 1) node message ≡ sum_by (ways_at c (ways_behind clients edges c n) passed) (targets_of edges node)
  unfolding ways_for
  ways-on n node message passed e =
      ap (λ k. ways_behind clients edges c k node message) (add-one n)
      ∙ ap (ways_of (λ m. ways_for clients edges c (suc n) (targets_of edges node) m)) e

  pub ways-stopped : (n : ℕ) (node : Addr) (message : List ℕ) → passed_by (filter_at clients node.client node.node) message ≡ None → ways_behind clients edges c n node message ≡ 0
  ways-stopped n node message e = ap (ways_of (λ m. ways_for clients edges c n (targets_of edges node) m)) e

  pub ways-at-last : (node : Addr) (message : List ℕ) → ways_behind clients edges c 0 node message ≡ 0
  unfolding ways_for
  ways-at-last node message = go (passed_by (filter_at clients node.client node.node) message)
    where
      go : (o : Option (List ℕ)) → ways_of (λ m. ways_for clients edges c zero (targets_of edges node) m) o ≡ 0
      go None = refl
      go (Some m) = refl

  pub none-left : {M : Type 0} (bytes : M → List ℕ) (n : ℕ) (entries : List (Entry M)) → n ≡ 0 → ways_in bytes (ways_behind clients edges c n) entries ≡ 0
  none-left bytes n entries e =
      ap (λ k. ways_in bytes (ways_behind clients edges c k) entries) e
      ∙ sum_by-none (λ x. x.ways * ways_behind clients edges c 0 x.node (bytes x.message)) (λ x. ap (λ k. x.ways * k) (ways-at-last x.node (bytes x.message)) ∙ zero-times x.ways) entries
    where
      zero-times : (k : ℕ) → k * 0 ≡ 0
      zero-times k = omega arith

  pub from-first : (targets : List Addr) (message : List ℕ) → ways_for clients edges c 8 targets message ≡ sum_by (ways_at c (ways_behind clients edges c 7) message) targets
  unfolding ways_for
  from-first targets message = refl
