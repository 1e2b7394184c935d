-- What a table of ways knows, where a port is joined to one node more, or to one less.
use Rattle.std.proofs.Common.{◌≡◌, ℕ, zero, suc, ◌+◌, ◌-◌, ◌<◌, ◌≤◌, false, List, [], ◌∷◌, ◌++◌, length, take, set, get_or, Option, Some, None, refl, sym, ap, subst, ◌∙◌, inl, inr, arith}
use Rattle.std.specs.Prelude.{not, slice_get}
use Rattle.std.specs.List.{filter, remove}
use Rattle.std.specs.Ordering.{nat_cmp}
use Rattle.std.specs.FinMap.{FinMap}
use Rattle.std.proofs.lemmas.Bool.{cases_eq}
use Rattle.std.proofs.lemmas.List.{length-append, take-append-le}
use Rattle.std.proofs.lemmas.List.Edits.{length-remove}
use Rattle.node_table.specs.Addresses.{same, is_filter}
use Rattle.node_table.specs.Kept.{IsPlace, place_in}
use Rattle.node_table.specs.declared.number.Addr.{Addr}
use Rattle.patch_graph.specs.Edges.{edge, without_edge}
use Rattle.patch_graph.specs.Index.{targets_of}
use Rattle.patch_graph.specs.declared.edge.Edge.{Edge}
use Rattle.patch_graph.proofs.Same.{same-refl}
use Rattle.seq_state.specs.State.{Client}
use Rattle.seq_sending.specs.Changes.{AgreeOnFilters, IsCurrent}
use Rattle.seq_sending.specs.Reach.{LeadInOrder, MayLeadThrough}
use Rattle.seq_sending.specs.Table.{IsWayFound, IsSlotFound, AreWaysFound, AreWaysThrough, AreWaysSoFar}
use Rattle.seq_sending.specs.declared.changes.Changes.{Changes}
use Rattle.seq_sending.specs.Ways.{AreWaysTo}
use Rattle.seq_sending.specs.declared.table.Found.{Found}
use Rattle.seq_sending.specs.declared.ways.Way.{Way}
use Rattle.seq_sending.proofs.Agreeing.{order-front, taken-behind, taken-from, ways-removed}
use Rattle.seq_sending.proofs.Edged.{filter-one, filters-added, filters-removed, leaves-added, leaves-removed, targets-added, targets-without}
use Rattle.seq_sending.proofs.Known.{slot-is, slot-set, slot-none, slot-moved, so-far-agrees}

-- what stands at different places are different addresses
elsewhere : (a s : Addr) (r row p place : ℕ) → IsPlace a r p → IsPlace s row place → (p ≡ place → ⊥) → a ≡ s → ⊥
elsewhere a s r row p place at there apart e =
    let c : a.client ≡ s.client = ap (λ (x : Addr). x.client) e in
    let n : place_in a.node ≡ place_in s.node = ap (λ (x : Addr). place_in x.node) e in
    apart (omega (arith, at.client, at.is, there.client, there.is, c, n))

beyond : {X : Type 0} (xs : List X) (i : ℕ) (d : X) → (i < length xs → ⊥) → get_or xs i d ≡ d
beyond [] i d out = refl
beyond (x ∷ xs) zero d out = absurd (out (omega arith))
beyond (x ∷ xs) (suc i) d out = beyond xs i d (λ l. out (omega (arith, l)))

module _ (clients : FinMap nat_cmp Client) (edges graph : List Edge) (changes : Changes) (source : Addr) (row place : ℕ) (at : IsPlace source row place)
    (agree : (P : ℕ → Type 0) → AgreeOnFilters P clients clients edges graph) where
  -- the place of the port itself
  pub here-changed : (was new : Found) → IsSlotFound clients edges changes place (Some was) → new.at ≡ was.at →
      (IsCurrent changes new.at source.client new.through → IsCurrent changes was.at source.client was.through) →
      (AreWaysSoFar clients graph (targets_of edges source) was → AreWaysSoFar clients graph (targets_of graph source) new) → IsWayFound clients graph changes place new
  here-changed was new kept same current changed =
      let its = kept was refl in
      let before = its.before in
      slot-is clients graph changes source row place new at (omega (arith, before, same))
      (λ now. changed (so-far-agrees clients clients edges graph (targets_of edges source) was (λ way. agree (MayLeadThrough was.through way)) (its.ways source row at (current now))))

  module _ (leaves : (a : Addr) → (a ≡ source → ⊥) → targets_of edges a ≡ targets_of graph a) where
    others-kept : (places : List (Option Found)) → AreWaysFound clients edges changes places → (p : ℕ) → (p ≡ place → ⊥) → IsSlotFound clients graph changes p (get_or places p None)
    others-kept places kept p apart =
        slot-moved clients clients edges graph changes p (get_or places p None) agree (λ a r there. leaves a (elsewhere a source r row p place there at apart)) (kept p)

    pub all-changed : (places : List (Option Found)) (slot : Option Found) → place < length places → IsSlotFound clients graph changes place slot → AreWaysFound clients edges changes places →
        AreWaysFound clients graph changes (set places place slot)
    all-changed places slot within its kept = slot-set clients graph changes places place slot within its (others-kept places kept)

    pub none-changed : (places : List (Option Found)) → (place < length places → ⊥) → AreWaysFound clients edges changes places → AreWaysFound clients graph changes places
    none-changed places out kept p = elim (cases_eq p place) [
      | inl same ↦
          subst (λ n. IsSlotFound clients graph changes n (get_or places n None)) (sym same)
          (subst (IsSlotFound clients graph changes place) (sym (beyond places place None out)) (slot-none clients graph changes place))
      | inr apart ↦ others-kept places kept p apart
    ]

-- ---- one node more

module _ (clients : FinMap nat_cmp Client) (edges graph : List Edge) (source target : Addr) (port : is_filter source ≡ false) (is : graph ≡ edges ++ edge source target ∷ []) where
  pub agree-added : (P : ℕ → Type 0) → AgreeOnFilters P clients clients edges graph
  agree-added P = subst (AgreeOnFilters P clients clients edges) (sym is) (filters-added clients edges source target port P)

  pub others-added : (a : Addr) → (a ≡ source → ⊥) → targets_of edges a ≡ targets_of graph a
  others-added a apart = leaves-added edges source target a apart ∙ sym (ap (λ es. targets_of es a) is)

  pub its-added : targets_of edges source ++ target ∷ [] ≡ targets_of graph source
  its-added = sym (ap (λ es. targets_of es source) is ∙ targets-added edges source target)

-- no way to it is known yet
pub one-newer : (clients : FinMap nat_cmp Client) (edges : List Edge) (nodes : List Addr) (target : Addr) (was new : Found) → new ≡ record was { newer = was.newer + 1 } → AreWaysSoFar clients edges nodes was →
    AreWaysSoFar clients edges (nodes ++ target ∷ []) new
one-newer clients edges nodes target was new is are =
    let all = are.newer in
    let longer : length (nodes ++ target ∷ []) ≡ length nodes + 1 = length-append nodes (target ∷ []) in
    subst (AreWaysSoFar clients edges (nodes ++ target ∷ [])) (sym is) (record {
      known =
          subst (λ ts. AreWaysThrough (MayLeadThrough was.through) clients edges ts was.ways) (sym (take-append-le (length was.ways) nodes (target ∷ []) (omega (arith, all)))) are.known;
      newer = omega (arith, all, longer);
    })

-- ---- one node less

module _ (clients : FinMap nat_cmp Client) (edges graph : List Edge) (source target : Addr) (port : is_filter source ≡ false) (is : graph ≡ without_edge edges source target) where
  pub agree-removed : (P : ℕ → Type 0) → AgreeOnFilters P clients clients edges graph
  agree-removed P = subst (AgreeOnFilters P clients clients edges) (sym is) (filters-removed clients edges source target port P)

  pub others-removed : (a : Addr) → (a ≡ source → ⊥) → targets_of edges a ≡ targets_of graph a
  others-removed a apart = leaves-removed edges source target a apart ∙ sym (ap (λ es. targets_of es a) is)

  pub its-removed : targets_of graph source ≡ filter (λ x. not (same target x)) (targets_of edges source)
  its-removed = ap (λ es. targets_of es source) is ∙ targets-without edges source target

-- what is left is as long as it was but for one, where the node at the place goes
module _ (nodes left : List Addr) (place : ℕ) (target : Addr) (at : slice_get nodes place ≡ Some target) (is : left ≡ filter (λ x. not (same target x)) nodes) where
  left-removed : length left + 1 ≡ length nodes → left ≡ remove nodes place
  left-removed count =
      let few = ap length is in
      is ∙ filter-one (λ x. not (same target x)) nodes place target at (ap not (same-refl target)) (omega (arith, count, few))

  module _ (clients : FinMap nat_cmp Client) (edges : List Edge) (was new : Found) (count : length was.ways + was.newer ≡ length left + 1) (are : AreWaysSoFar clients edges nodes was) where
    gone : left ≡ remove nodes place
    gone = let all = are.newer in left-removed (omega (arith, all, count))

    -- no way to it was known yet
    pub one-newer-less : length was.ways ≤ place → 0 < was.newer → new ≡ record was { newer = was.newer - 1 } → AreWaysSoFar clients edges left new
    one-newer-less behind some same =
        let all = are.newer in
        subst (AreWaysSoFar clients edges left) (sym same) (record {
          known =
              subst (λ ts. AreWaysThrough (MayLeadThrough was.through) clients edges ts was.ways)
              (sym (ap (take (length was.ways)) gone ∙ taken-behind nodes (length was.ways) place behind)) are.known;
          newer = omega (arith, count, some);
        })

    -- its way was known
    pub one-less : (front : List Addr) → front ≡ take (length was.ways - 1) left → place < length was.ways → new.newer ≡ was.newer → new.ways ≡ remove was.ways place →
        (LeadInOrder (MayLeadThrough was.through) edges (take place front) → LeadInOrder (MayLeadThrough new.through) edges front) → AreWaysSoFar clients edges left new
    one-less front front_is within same ways order =
        let P = MayLeadThrough was.through in
        let first = take (length was.ways) nodes in
        let shorter : length new.ways + 1 ≡ length was.ways = ap (λ (ws : List Way). length ws + 1) ways ∙ length-remove was.ways place within in
        let n_is : length was.ways - 1 ≡ length new.ways = omega (arith, shorter) in
        let rest : take (length new.ways) left ≡ remove first place =
        ap (take (length new.ways)) gone ∙ taken-from nodes (length new.ways) place (omega (arith, shorter, within)) ∙ ap (λ n. remove (take n nodes) place) shorter in
        let its : front ≡ take (length new.ways) left = front_is ∙ ap (λ n. take n left) n_is in
        let before : take place front ≡ take place first = ap (take place) (its ∙ rest) ∙ taken-behind first place place (omega arith) in
        record {
          known = record {
            each = subst (λ ws. AreWaysTo clients edges (take (length new.ways) left) ws) (sym ways)
                (subst (λ ts. AreWaysTo clients edges ts (remove was.ways place)) (sym rest) (ways-removed clients edges first was.ways place are.known.each));
            within = subst (LeadInOrder (MayLeadThrough new.through) edges) its (order (subst (LeadInOrder P edges) (sym before) (order-front P edges first place are.known.within)));
          };
          newer = omega (arith, same, shorter, count);
        }
