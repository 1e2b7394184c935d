use Rattle.std.proofs.Common.{◌≡◌, ℕ, length, map, subst, sym, ap, ◌∙◌}
use Rattle.std.specs.List.{zip}
use Rattle.std.specs.List.Sorted.{IsPermutation}
use Rattle.std.specs.Prelude.{IfOk}
use Rattle.node_table.specs.declared.number.Addr.{Addr}
use Rattle.patch_graph.specs.Edges.{edge}
use Rattle.patch_graph.specs.Aged.{all_of}
use Rattle.patch_graph.proofs.Gathered.{sorted_lengths, sorted_edges}
use Rattle.patch_graph.proofs.graph.PatchGraph.edges.Goals as goal

pub edges_between-requires : goal.edges_between-requires
edges_between-requires c =
    ap length c.deref-3.ensures.value
    ∙ sorted_lengths _ _ _ _ _ c.self.invariant c.in_ok-targets.targets.items c.in_ok-sources.sources.items
    (subst (λ xs. IsPermutation (all_of xs) c.in_ok-targets.targets.items) c.deref.ensures.value c.in_ok-targets.ensures.all) c.in_ok-targets.ensures.sorted
    (subst (λ xs. IsPermutation (all_of xs) c.in_ok-sources.sources.items) c.deref-2.ensures.value c.in_ok-sources.ensures.all) c.in_ok-sources.ensures.sorted
    ∙ sym (ap length c.deref-4.ensures.value)

pub returns : goal.returns
returns c =
    let all : map (λ (p : (Addr × ℕ) × (Addr × ℕ)). edge p.1.0 p.0.0) (zip c.deref-3.result.now c.deref-4.result.now) ≡ c.args.self.now =
    (λ j. map (λ (p : (Addr × ℕ) × (Addr × ℕ)). edge p.1.0 p.0.0) (zip (c.deref-3.ensures.value j) (c.deref-4.ensures.value j)))
    ∙ sorted_edges _ _ _ _ _ c.self.invariant c.in_ok-targets.targets.items c.in_ok-sources.sources.items
    (subst (λ xs. IsPermutation (all_of xs) c.in_ok-targets.targets.items) c.deref.ensures.value c.in_ok-targets.ensures.all) c.in_ok-targets.ensures.sorted
    (subst (λ xs. IsPermutation (all_of xs) c.in_ok-sources.sources.items) c.deref-2.ensures.value c.in_ok-sources.ensures.all) c.in_ok-sources.ensures.sorted
    ∙ c.self.view_is in
    subst (λ es. IfOk c.edges_between.result (λ edges. edges.items ≡ es)) all c.edges_between.ensures
