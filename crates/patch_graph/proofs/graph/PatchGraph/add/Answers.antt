use Rattle.std.proofs.Common.{◌≡◌, ◌<◌, ◌≤◌, ◌+◌, ◌*◌, ◌++◌, [], ◌∷◌, length, take, drop, get_or, Result, Ok, Err, ap, subst, sym, arith, ◌∙◌}
use Rattle.std.specs.Result.{OnErr}
use Rattle.patch_graph.specs.Edges.{sources_of, has_edge, most_sources, edge}
use Rattle.patch_graph.specs.Chains.{makes_cycle}
use Rattle.patch_graph.specs.Aged.{IsRising, aged_edges, edges_of, AreAged}
use Rattle.patch_graph.proofs.Indexed.{targets_made, tables_made, same_tables, young_onward, young_back, count_low}
use Rattle.patch_graph.proofs.Linked.{to_more}
use Rattle.patch_graph.proofs.Made.{written, unwritten}
use Rattle.patch_graph.proofs.Gathered.{aged-is, closed, added}
use Rattle.patch_graph.proofs.graph.PatchGraph.add.Goals as goal

on_err : {T E : Type 0} (P : Type 0) (r : Result T E) → P → OnErr r P
on_err P (Ok x) h = tt
on_err P (Err e) h = h

pub invariant_of-self-in_err-make_lists-2 : goal.invariant_of-self-in_err-make_lists-2
invariant_of-self-in_err-make_lists-2 c =
    closed _ _ _ _ _ (targets_made _ _ _ _ _ c.self.invariant _ _ c.in_ok-make_lists.ensures.whole c.make_lists.ensures.same c.in_err-make_lists-2.ensures.err)

pub returns-in_err-make_lists-2-clause-err : goal.returns-in_err-make_lists-2-clause-err
returns-in_err-make_lists-2-clause-err c =
    on_err _ c.from_residual-in_err-make_lists-2.result (ap edges_of (aged-is _ _ _ _ _ (targets_made _ _ _ _ _ c.self.invariant _ _ c.in_ok-make_lists.ensures.whole c.make_lists.ensures.same c.in_err-make_lists-2.ensures.err)) ∙ c.self.view_is)

pub invariant_of-self-in_default : goal.invariant_of-self-in_default
invariant_of-self-in_default c =
    closed _ _ _ _ _ (tables_made _ _ _ _ _ c.self.invariant _ _ c.in_ok-make_lists.ensures.whole c.make_lists.ensures.same c.in_ok-make_lists-2.ensures.whole c.make_lists-2.ensures.same)

pub returns-in_default-clause-err : goal.returns-in_default-clause-err
returns-in_default-clause-err c =
    ap edges_of (aged-is _ _ _ _ _ (tables_made _ _ _ _ _ c.self.invariant _ _ c.in_ok-make_lists.ensures.whole c.make_lists.ensures.same c.in_ok-make_lists-2.ensures.whole c.make_lists-2.ensures.same)) ∙ c.self.view_is

pub join_at-requires-clause-young : goal.join_at-requires-clause-young
join_at-requires-clause-young c node row place at = (
  to_more 0 _ (c.self.inside.added * 2048) c.in-Some.age c.in-Some.ensures.above (subst (λ xs. IsRising 0 (get_or xs place []) (c.self.inside.added * 2048)) (sym c.deref_mut.ensures.value) (young_onward _ _ _ _ _ (tables_made _ _ _ _ _ c.self.invariant _ _ c.in_ok-make_lists.ensures.whole c.make_lists.ensures.same c.in_ok-make_lists-2.ensures.whole c.make_lists-2.ensures.same) node row place at)),
  to_more 0 _ (c.self.inside.added * 2048) c.in-Some.age c.in-Some.ensures.above (subst (λ xs. IsRising 0 (get_or xs place []) (c.self.inside.added * 2048)) (sym c.deref_mut-2.ensures.value) (young_back _ _ _ _ _ (tables_made _ _ _ _ _ c.self.invariant _ _ c.in_ok-make_lists.ensures.whole c.make_lists.ensures.same c.in_ok-make_lists-2.ensures.whole c.make_lists-2.ensures.same) node row place at)),
)

unjoined : (c : goal.After-from_residual-in_err-join_at) → AreAged (aged_edges c.self.inside.targets.items c.self.inside.sources.items) (take c.make_lists.new.lists.len (c.join_at.new.targets ++ drop (length c.join_at.new.targets) c.make_lists.new.lists.items)) (take c.make_lists-2.new.lists.len (c.join_at.new.sources ++ drop (length c.join_at.new.sources) c.make_lists-2.new.lists.items)) (c.self.inside.added * 2048) c.self.inside.count
unjoined c =
    same_tables _ _ _ _ _ (tables_made _ _ _ _ _ c.self.invariant _ _ c.in_ok-make_lists.ensures.whole c.make_lists.ensures.same c.in_ok-make_lists-2.ensures.whole c.make_lists-2.ensures.same) _ _
    (unwritten _ c.make_lists.new.lists.items _ _ c.make_lists.new.lists.ok.0 c.deref_mut.ensures.value c.in_err-join_at.ensures.err.0)
    (unwritten _ c.make_lists-2.new.lists.items _ _ c.make_lists-2.new.lists.ok.0 c.deref_mut-2.ensures.value c.in_err-join_at.ensures.err.1)

pub invariant_of-self-in_err-join_at : goal.invariant_of-self-in_err-join_at
invariant_of-self-in_err-join_at c = closed _ _ _ _ _ (unjoined c)

pub returns-in_err-join_at-clause-err : goal.returns-in_err-join_at-clause-err
returns-in_err-join_at-clause-err c = on_err _ c.from_residual-in_err-join_at.result (ap edges_of (aged-is _ _ _ _ _ (unjoined c)) ∙ c.self.view_is)

pub overflow_add-self : goal.overflow_add-self
overflow_add-self c = record { fits = omega (arith, c.in-Some.ensures.above, c.in-Some.ensures.few) }

pub overflow_add-self-2 : goal.overflow_add-self-2
overflow_add-self-2 c = let low : c.self.inside.count ≤ c.self.inside.added * 2048 = count_low _ _ _ _ _ c.self.invariant in
    record { fits = omega (arith, low, c.in-Some.ensures.above, c.in-Some.ensures.few) }

more : (c : goal.After-self-4-1) → AreAged (aged_edges (take c.make_lists.new.lists.len (c.join_at.new.targets ++ drop (length c.join_at.new.targets) c.make_lists.new.lists.items)) (take c.make_lists-2.new.lists.len (c.join_at.new.sources ++ drop (length c.join_at.new.sources) c.make_lists-2.new.lists.items))) (take c.make_lists.new.lists.len (c.join_at.new.targets ++ drop (length c.join_at.new.targets) c.make_lists.new.lists.items)) (take c.make_lists-2.new.lists.len (c.join_at.new.sources ++ drop (length c.join_at.new.sources) c.make_lists-2.new.lists.items)) ((c.self.inside.added + 1) * 2048) (c.self.inside.count + 1) ×
    (edges_of (aged_edges (take c.make_lists.new.lists.len (c.join_at.new.targets ++ drop (length c.join_at.new.targets) c.make_lists.new.lists.items)) (take c.make_lists-2.new.lists.len (c.join_at.new.sources ++ drop (length c.join_at.new.sources) c.make_lists-2.new.lists.items))) ≡ edges_of (aged_edges c.self.inside.targets.items c.self.inside.sources.items) ++ edge c.args.source c.args.target ∷ [])
more c =
    let own : edges_of (aged_edges c.self.inside.targets.items c.self.inside.sources.items) ≡ c.args.self.now = c.self.view_is in
    added _ _ _ _ _ (c.self.inside.added * 2048) c.in-Some.age ((c.self.inside.added + 1) * 2048) c.self.inside.count (c.self.inside.count + 1) c.args.source c.args.target _ _ _ _ (tables_made _ _ _ _ _ c.self.invariant _ _ c.in_ok-make_lists.ensures.whole c.make_lists.ensures.same c.in_ok-make_lists-2.ensures.whole c.make_lists-2.ensures.same) c.in_ok-make_lists.ensures.whole c.in_ok-make_lists-2.ensures.whole
    (ap (λ es. has_edge es c.args.source c.args.target) own ∙ c.requires.fresh)
    (subst (λ es. sources_of es c.args.target < most_sources) (sym own) c.requires.room)
    (ap (λ es. makes_cycle es c.args.source c.args.target) own ∙ c.requires.clear)
    c.in_ok-join_at.ensures.onward.2 c.in_ok-join_at.ensures.back.2
    (written _ c.in_ok-join_at.ensures.onward.1 c.make_lists.new.lists.items _ _ (λ xs. get_or xs c.in_ok-join_at.ensures.onward.1 [] ++ (c.args.target, c.in-Some.age) ∷ []) c.make_lists.new.lists.ok.0 c.deref_mut.ensures.value c.in_ok-join_at.ensures.onward.3)
    (written _ c.in_ok-join_at.ensures.back.1 c.make_lists-2.new.lists.items _ _ (λ xs. get_or xs c.in_ok-join_at.ensures.back.1 [] ++ (c.args.source, c.in-Some.age) ∷ []) c.make_lists-2.new.lists.ok.0 c.deref_mut-2.ensures.value c.in_ok-join_at.ensures.back.3)
    c.in-Some.ensures.told c.in-Some.ensures.above c.in-Some.ensures.below (omega arith)

pub invariant_of-self-2 : goal.invariant_of-self-2
invariant_of-self-2 c = (more c).0

pub returns-clause-ok : goal.returns-clause-ok
returns-clause-ok c = (more c).1 ∙ ap (λ es. es ++ edge c.args.source c.args.target ∷ []) c.self.view_is
