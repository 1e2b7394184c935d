use Rattle.std.proofs.Common.{[], length, get_or, refl, ap, sym, ◌∙◌, arith}
use Rattle.patch_graph.specs.Edges.{has_edge, without_edge}
use Rattle.patch_graph.specs.Index.{origins_of}
use Rattle.patch_graph.specs.Aged.{edges_of}
use Rattle.patch_graph.proofs.Linked.{without_age}
use Rattle.patch_graph.proofs.Made.{written, unwritten}
use Rattle.patch_graph.proofs.Indexed.{there_by_age, last_back, no_back, whole_by_count, none_by_count, same_tables}
use Rattle.patch_graph.proofs.Gathered.{taken, closed, aged-is}
use Rattle.patch_graph.proofs.Stood.{some_place, target_there}
use Rattle.patch_graph.proofs.graph.PatchGraph.pop_source.Goals as goal

pub pop_at-requires : goal.pop_at-requires
pop_at-requires c = ap length c.deref_mut.ensures.value ∙ (whole_by_count _ _ _ _ _ c.self.invariant c.if-self-eq0.false).1

pub remove_at-requires : goal.remove_at-requires
remove_at-requires c = ap length c.deref_mut-2.ensures.value ∙ (whole_by_count _ _ _ _ _ c.self.invariant c.if-self-eq0.false).0

pub unwrap-place-requires : goal.unwrap-place-requires
unwrap-place-requires c =
    some_place _ _ _ _ _ _ c.in-Some.source c.args.target.now c.in-Some.age _ _ _ c.self.invariant
    (last_back _ _ _ _ _ c.self.invariant c.in-Some.source c.args.target.now c.in-Some.age _ _ _ _ c.pop_at.ensures.2 c.deref_mut.ensures.value c.pop_at.ensures.3 c.in-Some.is)
    c.remove_at.ensures.2 c.deref_mut-2.ensures.value c.self.view_is c.remove_at.ensures.4

pub overflow_sub-self : goal.overflow_sub-self
overflow_sub-self c = omega (arith, c.if-self-eq0.false)

pub returns-then-self-eq0-clause-none : goal.returns-then-self-eq0-clause-none
returns-then-self-eq0-clause-none c = ap (λ es. origins_of es c.args.target.now) (sym c.self.view_is ∙ none_by_count _ _ _ _ _ c.self.invariant c.if-self-eq0.true)

pub returns-in_default-clause-none : goal.returns-in_default-clause-none
returns-in_default-clause-none c =
    ap (λ es. origins_of es c.args.target.now) (sym c.self.view_is) ∙ no_back _ _ _ _ _ c.self.invariant c.args.target.now _ _ _ _ c.pop_at.ensures.2 c.deref_mut.ensures.value c.pop_at.ensures.3 c.in_default.is

pub invariant_of-self : goal.invariant_of-self
invariant_of-self c =
    closed _ _ _ _ _ (same_tables _ _ _ _ _ c.self.invariant _ _ refl (unwritten c.self.inside.sources.len c.self.inside.sources.items _ _ c.self.inside.sources.ok.0 c.deref_mut.ensures.value c.in_default.ensures.5))

pub returns-in_default-clause-kept : goal.returns-in_default-clause-kept
returns-in_default-clause-kept c =
    ap edges_of (aged-is _ _ _ _ _ (same_tables _ _ _ _ _ c.self.invariant _ _ refl (unwritten c.self.inside.sources.len c.self.inside.sources.items _ _ c.self.inside.sources.ok.0 c.deref_mut.ensures.value c.in_default.ensures.5))) ∙ c.self.view_is

pub invariant_of-self-2 : goal.invariant_of-self-2
invariant_of-self-2 c =
    (taken _ _ _ _ _ _ c.in-Some.source c.args.target.now c.in-Some.age _ _ _ _ c.self.invariant (last_back _ _ _ _ _ c.self.invariant c.in-Some.source c.args.target.now c.in-Some.age _ _ _ _ c.pop_at.ensures.2 c.deref_mut.ensures.value c.pop_at.ensures.3 c.in-Some.is) c.remove_at.ensures.2 c.in-Some.ensures.2
    (written c.self.inside.targets.len c.remove_at.ensures.1 c.self.inside.targets.items _ _ (λ xs. without_age c.in-Some.age (get_or xs c.remove_at.ensures.1 [])) c.self.inside.targets.ok.0 c.deref_mut-2.ensures.value c.remove_at.ensures.3)
    (written c.self.inside.sources.len c.in-Some.ensures.1 c.self.inside.sources.items _ _ (λ xs. without_age c.in-Some.age (get_or xs c.in-Some.ensures.1 [])) c.self.inside.sources.ok.0 c.deref_mut.ensures.value c.in-Some.ensures.4)).0

pub returns-clause-there : goal.returns-clause-there
returns-clause-there c =
    ap (λ es. has_edge es c.in-Some.source c.args.target.now) (sym c.self.view_is) ∙ there_by_age _ c.in-Some.source c.args.target.now c.in-Some.age (last_back _ _ _ _ _ c.self.invariant c.in-Some.source c.args.target.now c.in-Some.age _ _ _ _ c.pop_at.ensures.2 c.deref_mut.ensures.value c.pop_at.ensures.3 c.in-Some.is)

pub returns-clause-rest : goal.returns-clause-rest
returns-clause-rest c =
    (taken _ _ _ _ _ _ c.in-Some.source c.args.target.now c.in-Some.age _ _ _ _ c.self.invariant (last_back _ _ _ _ _ c.self.invariant c.in-Some.source c.args.target.now c.in-Some.age _ _ _ _ c.pop_at.ensures.2 c.deref_mut.ensures.value c.pop_at.ensures.3 c.in-Some.is) c.remove_at.ensures.2 c.in-Some.ensures.2
    (written c.self.inside.targets.len c.remove_at.ensures.1 c.self.inside.targets.items _ _ (λ xs. without_age c.in-Some.age (get_or xs c.remove_at.ensures.1 [])) c.self.inside.targets.ok.0 c.deref_mut-2.ensures.value c.remove_at.ensures.3)
    (written c.self.inside.sources.len c.in-Some.ensures.1 c.self.inside.sources.items _ _ (λ xs. without_age c.in-Some.age (get_or xs c.in-Some.ensures.1 [])) c.self.inside.sources.ok.0 c.deref_mut.ensures.value c.in-Some.ensures.4)).1
    ∙ ap (λ es. without_edge es c.in-Some.source c.args.target.now) c.self.view_is

pub returns-clause-place : goal.returns-clause-place
returns-clause-place c =
    target_there _ _ _ _ _ _ c.in-Some.source c.args.target.now c.in-Some.age _ _ _ c.self.invariant
    (last_back _ _ _ _ _ c.self.invariant c.in-Some.source c.args.target.now c.in-Some.age _ _ _ _ c.pop_at.ensures.2 c.deref_mut.ensures.value c.pop_at.ensures.3 c.in-Some.is)
    c.remove_at.ensures.2 c.deref_mut-2.ensures.value c.self.view_is c.remove_at.ensures.4 c.unwrap-place.result c.unwrap-place.ensures
