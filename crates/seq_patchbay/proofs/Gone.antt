-- What goes with a node, or with a client, and what stays of others.
use Rattle.std.proofs.Common.{◌≡◌, ℕ, Bool, true, false, eqb, cond, List, [], ◌∷◌, map, length, Option, refl, sym, ap, ◌∙◌, arith}
use Rattle.std.proofs.lemmas.Bool.Decides.{nat_tests}
use Rattle.std.specs.Prelude.{not, ◌||◌, ◌<◌}
use Rattle.std.specs.List.{filter, list_any}
use Rattle.std.specs.Ordering.{nat_cmp}
use Rattle.std.specs.FinMap.{FinMap}
use Rattle.std.proofs.lemmas.Bool.{false≢true, eqb-true}
use Rattle.node_table.specs.Addresses.{same}
use Rattle.node_table.specs.declared.number.Addr.{Addr}
use Rattle.patch_graph.specs.Edges.{is_edge, has_edge, without_edge, touches, touches_client, ends_at_client}
use Rattle.patch_graph.specs.Index.{targets_of, origins_of}
use Rattle.patch_graph.specs.declared.edge.Edge.{Edge}
use Rattle.patch_graph.proofs.Lists.{refuted, not_by, not_true, filter-outside}
use Rattle.patch_graph.proofs.Same.{same-is, same-refl}
use Rattle.patch_graph.proofs.Indexed.{same_edge}
use Rattle.patch_graph.proofs.Removed.{or_true, loses_length, touched}
use Rattle.seq_state.specs.State.{Client, with_entry}
use Rattle.seq_sending.specs.Changes.{AgreeBut}
use Rattle.seq_sending.proofs.Agreeing.{agree-trans}
use Rattle.seq_patchbay.specs.Network.{Network}
use Rattle.seq_sending.proofs.Edged.{not-source}
use Rattle.seq_patchbay.proofs.Changed.{but-client}

-- ---- the targets of others

module _ (gone ending : Edge → Bool) (a : Addr) (apart : (e : Edge) → same a e.source ≡ true → ending e ≡ false → gone e ≡ false) where
  one-kept : (e : Edge) (es : List Edge) → ending e ≡ false → targets_of es a ≡ targets_of (filter (λ x. not (gone x)) es) a → targets_of (e ∷ es) a ≡ targets_of (filter (λ x. not (gone x)) (e ∷ es)) a
  one-kept e es away rest = by (same a e.source) refl (gone e) refl
    where
      left : List Edge
      left = filter (λ x. not (gone x)) es

      own : List Edge → List Edge
      own xs = filter (λ x. same a x.source) xs

      by : (b : Bool) → same a e.source ≡ b → (c : Bool) → gone e ≡ c → map (λ (x : Edge). x.target) (cond b (e ∷ own es) (own es)) ≡ targets_of (cond (not c) (e ∷ left) left) a
      by true h true g = absurd (false≢true (sym (apart e h away) ∙ g))
      by true h false g = ap (λ ts. e.target ∷ ts) rest ∙ sym (ap (λ d. map (λ (x : Edge). x.target) (cond d (e ∷ own left) (own left))) h)
      by false h true g = rest
      by false h false g = rest ∙ sym (ap (λ d. map (λ (x : Edge). x.target) (cond d (e ∷ own left) (own left))) h)

  -- where no edge ends there, those of another node all stay
  targets-kept : (edges : List Edge) → list_any ending edges ≡ false → targets_of edges a ≡ targets_of (filter (λ x. not (gone x)) edges) a
  targets-kept [] none = refl
  targets-kept (e ∷ es) none = by (ending e) refl none (λ n. targets-kept es n)
    where
      by : (b : Bool) → ending e ≡ b → (b || list_any ending es) ≡ false → (list_any ending es ≡ false → targets_of es a ≡ targets_of (filter (λ x. not (gone x)) es) a) →
          targets_of (e ∷ es) a ≡ targets_of (filter (λ x. not (gone x)) (e ∷ es)) a
      by true h n more = absurd (false≢true (sym n))
      by false h n more = one-kept e es h (more n)

-- ---- a node goes, or a client

pub but-node-gone : (was now : FinMap nat_cmp Client) (edges : List Edge) (node : Addr) (o : Option Client) → now ≡ with_entry was node.client o → list_any (λ e. same node e.target) edges ≡ false →
    AgreeBut node.client was now edges (filter (λ e. not (touches node e)) edges)
but-node-gone was now edges node o is none =
    agree-trans (λ c. c ≡ node.client → ⊥) (λ a. a.client ≡ node.client → ⊥) was now now edges edges (filter (λ e. not (touches node e)) edges) (but-client was now edges node.client o is) (record {
      filters = λ c apart. refl;
      targets = λ a apart. targets-kept (touches node) (λ e. same node e.target) a (λ e from away.
          ap (λ b. b || same node e.target) (not-source node e.source (λ s. apart (ap (λ (x : Addr). x.client) (same-is a e.source from) ∙ sym s))) ∙ away) edges none;
    })

pub but-client-gone : (was now : FinMap nat_cmp Client) (edges : List Edge) (client : ℕ) (o : Option Client) → now ≡ with_entry was client o → list_any (ends_at_client client) edges ≡ false →
    AgreeBut client was now edges (filter (λ e. not (touches_client client e)) edges)
but-client-gone was now edges client o is none =
    agree-trans (λ c. c ≡ client → ⊥) (λ a. a.client ≡ client → ⊥) was now now edges edges (filter (λ e. not (touches_client client e)) edges) (but-client was now edges client o is) (record {
      filters = λ c apart. refl;
      targets = λ a apart. targets-kept (touches_client client) (ends_at_client client) a (λ e from away.
          ap (λ b. b || eqb e.target.client client) (refuted (eqb e.source.client client) (λ s. apart (ap (λ (x : Addr). x.client) (same-is a e.source from) ∙ eqb-true e.source.client client s))) ∙ away) edges none;
    })

-- ---- what ends there

no-cons : (x : Addr) (xs : List Addr) → ◌≡◌ {A = List Addr} (x ∷ xs) [] → ⊥
no-cons x xs e = cc

-- where a node has no sources, no edge ends there
pub none-into : (edges : List Edge) (a : Addr) → origins_of edges a ≡ [] → list_any (λ e. same a e.target) edges ≡ false
none-into [] a none = refl
none-into (e ∷ es) a none = by (same a e.target) none (λ n. none-into es a n)
  where
    by : (b : Bool) → map (λ (x : Edge). x.source) (cond b (e ∷ filter (λ x. same a x.target) es) (filter (λ x. same a x.target) es)) ≡ [] → (origins_of es a ≡ [] → list_any (λ x. same a x.target) es ≡ false) →
        (b || list_any (λ x. same a x.target) es) ≡ false
    by true n more = absurd (no-cons e.source (map (λ (x : Edge). x.source) (filter (λ x. same a x.target) es)) n)
    by false n more = more n

pub into-length : (old new : List Edge) (e : Edge) → new ≡ without_edge old e.source e.target → has_edge old e.source e.target ≡ true → length new < length old
into-length old new e is there = loses_length e.source old new (e, there, ap (λ b. b || same e.source e.target) (same-refl e.source), is)

-- an edge that goes ends at the client: so those that do not touch it are as they were
pub into-kept : (client : ℕ) (old new : List Edge) (e : Edge) → new ≡ without_edge old e.source e.target → e.target.client ≡ client →
    filter (λ x. not (touches_client client x)) new ≡ filter (λ x. not (touches_client client x)) old
into-kept client old new e is into =
    ap (filter (λ x. not (touches_client client x))) is
    ∙ filter-outside (λ x. not (touches_client client x)) (λ x. not (is_edge e.source e.target x))
    (λ x away. not_by (is_edge e.source e.target x) (λ its. false≢true (sym (not_true (touches_client client x) away)
    ∙ or_true (eqb x.source.client client) (eqb x.target.client client) (ap (λ (y : Edge). eqb y.target.client client) (same_edge e.source e.target x its) ∙ ap (λ n. eqb n client) into ∙ grind (arith, nat_tests))))) old

-- ---- the nodes of a client, one by one

-- the clients are as they were, and so are the edges that do not touch this one
pub record IsAsBefore (client : ℕ) (old now : Network) : Type 0 where
  pub same_clients : now.clients ≡ old.clients
  pub others : filter (λ e. not (touches_client client e)) now.graph ≡ filter (λ e. not (touches_client client e)) old.graph

pub before-start : (client : ℕ) (old : Network) → IsAsBefore client old old
before-start client old = record { same_clients = refl; others = refl }

-- what a node of the client loses touches the client
pub before-node : (client : ℕ) (old now new : Network) (node : Addr) → node.client ≡ client → IsAsBefore client old now → new.clients ≡ now.clients →
    filter (λ e. not (touches node e)) new.graph ≡ filter (λ e. not (touches node e)) now.graph → IsAsBefore client old new
before-node client old now new node is h clients rest = record {
  same_clients = clients ∙ h.same_clients;
  others = sym (both new.graph) ∙ ap (filter (λ e. not (touches_client client e))) rest ∙ both now.graph ∙ h.others;
}
  where
    both : (es : List Edge) → filter (λ e. not (touches_client client e)) (filter (λ e. not (touches node e)) es) ≡ filter (λ e. not (touches_client client e)) es
    both es = filter-outside (λ e. not (touches_client client e)) (λ e. not (touches node e))
        (λ e away. not_by (touches node e) (λ its. false≢true (sym (not_true (touches_client client e) away) ∙ touched node client e is its))) es

pub before-edge : (client : ℕ) (old now new : Network) (e : Edge) → IsAsBefore client old now → new.clients ≡ now.clients → new.graph ≡ without_edge now.graph e.source e.target → e.target.client ≡ client →
    IsAsBefore client old new
before-edge client old now new e h clients is into = record {
  same_clients = clients ∙ h.same_clients;
  others = into-kept client now.graph new.graph e is into ∙ h.others;
}
