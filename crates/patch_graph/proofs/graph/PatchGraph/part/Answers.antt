use Rattle.std.proofs.Common.{◌≡◌, [], false, is_some, get_or, ap, sym, ◌∙◌}
use Rattle.patch_graph.specs.Edges.{is_edge, has_edge, without_edge}
use Rattle.patch_graph.proofs.Lists.{filter-none}
use Rattle.patch_graph.proofs.Linked.{without_age}
use Rattle.patch_graph.proofs.Made.{written}
use Rattle.patch_graph.proofs.Indexed.{has_age, there_by_age, found_back, tables_whole, some_count}
use Rattle.patch_graph.proofs.Gathered.{taken}
use Rattle.patch_graph.proofs.Stood.{some_place, target_there}
use Rattle.patch_graph.proofs.graph.PatchGraph.part.Goals as goal

not_there : (c : goal.In_default) → has_edge c.args.self.now c.args.source.now c.args.target.now ≡ false
not_there c =
    ap (λ es. has_edge es c.args.source.now c.args.target.now) (sym c.self.view_is) ∙ sym (has_age _ c.args.source.now c.args.target.now)
    ∙ ap is_some (found_back _ _ _ _ _ c.self.invariant c.args.source.now c.args.target.now _ _ _ _ c.age_at.ensures.2 c.deref.ensures.value c.age_at.ensures.3 ∙ c.in_default.is)

pub returns-in_default-clause-there : goal.returns-in_default-clause-there
returns-in_default-clause-there c = sym (not_there c)

pub returns-in_default-clause-rest : goal.returns-in_default-clause-rest
returns-in_default-clause-rest c = sym (filter-none (is_edge c.args.source.now c.args.target.now) c.args.self.now (not_there c))

pub unwrap-place-requires : goal.unwrap-place-requires
unwrap-place-requires c =
    some_place _ _ _ _ _ _ c.args.source.now c.args.target.now c.in-Some.age _ _ _ c.self.invariant
    (found_back _ _ _ _ _ c.self.invariant c.args.source.now c.args.target.now _ _ _ _ c.age_at.ensures.2 c.deref.ensures.value c.age_at.ensures.3 ∙ c.in-Some.is)
    c.unlink.ensures.onward.2 c.deref_mut.ensures.value c.self.view_is c.unlink.ensures.onward.4

pub unlink-requires : goal.unlink-requires
unlink-requires c = tables_whole _ _ _ _ _ c.self.invariant c.args.source.now c.args.target.now c.in-Some.age (found_back _ _ _ _ _ c.self.invariant c.args.source.now c.args.target.now _ _ _ _ c.age_at.ensures.2 c.deref.ensures.value c.age_at.ensures.3 ∙ c.in-Some.is) _ _ c.deref_mut.ensures.value c.deref_mut-2.ensures.value

pub overflow_sub-self : goal.overflow_sub-self
overflow_sub-self c = some_count _ _ _ _ _ c.self.invariant c.args.source.now c.args.target.now c.in-Some.age (found_back _ _ _ _ _ c.self.invariant c.args.source.now c.args.target.now _ _ _ _ c.age_at.ensures.2 c.deref.ensures.value c.age_at.ensures.3 ∙ c.in-Some.is)

pub invariant_of-self : goal.invariant_of-self
invariant_of-self c =
    (taken _ _ _ _ _ _ c.args.source.now c.args.target.now c.in-Some.age _ _ _ _ c.self.invariant (found_back _ _ _ _ _ c.self.invariant c.args.source.now c.args.target.now _ _ _ _ c.age_at.ensures.2 c.deref.ensures.value c.age_at.ensures.3 ∙ c.in-Some.is) c.unlink.ensures.onward.2 c.unlink.ensures.back.2
    (written c.self.inside.targets.len c.unlink.ensures.onward.1 c.self.inside.targets.items _ _ (λ xs. without_age c.in-Some.age (get_or xs c.unlink.ensures.onward.1 [])) c.self.inside.targets.ok.0 c.deref_mut.ensures.value c.unlink.ensures.onward.3)
    (written c.self.inside.sources.len c.unlink.ensures.back.1 c.self.inside.sources.items _ _ (λ xs. without_age c.in-Some.age (get_or xs c.unlink.ensures.back.1 [])) c.self.inside.sources.ok.0 c.deref_mut-2.ensures.value c.unlink.ensures.back.3)).0

pub returns-clause-there : goal.returns-clause-there
returns-clause-there c = sym (ap (λ es. has_edge es c.args.source.now c.args.target.now) (sym c.self.view_is) ∙ there_by_age _ c.args.source.now c.args.target.now c.in-Some.age (found_back _ _ _ _ _ c.self.invariant c.args.source.now c.args.target.now _ _ _ _ c.age_at.ensures.2 c.deref.ensures.value c.age_at.ensures.3 ∙ c.in-Some.is))

pub returns-clause-rest : goal.returns-clause-rest
returns-clause-rest c =
    (taken _ _ _ _ _ _ c.args.source.now c.args.target.now c.in-Some.age _ _ _ _ c.self.invariant (found_back _ _ _ _ _ c.self.invariant c.args.source.now c.args.target.now _ _ _ _ c.age_at.ensures.2 c.deref.ensures.value c.age_at.ensures.3 ∙ c.in-Some.is) c.unlink.ensures.onward.2 c.unlink.ensures.back.2
    (written c.self.inside.targets.len c.unlink.ensures.onward.1 c.self.inside.targets.items _ _ (λ xs. without_age c.in-Some.age (get_or xs c.unlink.ensures.onward.1 [])) c.self.inside.targets.ok.0 c.deref_mut.ensures.value c.unlink.ensures.onward.3)
    (written c.self.inside.sources.len c.unlink.ensures.back.1 c.self.inside.sources.items _ _ (λ xs. without_age c.in-Some.age (get_or xs c.unlink.ensures.back.1 [])) c.self.inside.sources.ok.0 c.deref_mut-2.ensures.value c.unlink.ensures.back.3)).1
    ∙ ap (λ es. without_edge es c.args.source.now c.args.target.now) c.self.view_is

pub returns-clause-place : goal.returns-clause-place
returns-clause-place c =
    target_there _ _ _ _ _ _ c.args.source.now c.args.target.now c.in-Some.age _ _ _ c.self.invariant
    (found_back _ _ _ _ _ c.self.invariant c.args.source.now c.args.target.now _ _ _ _ c.age_at.ensures.2 c.deref.ensures.value c.age_at.ensures.3 ∙ c.in-Some.is)
    c.unlink.ensures.onward.2 c.deref_mut.ensures.value c.self.view_is c.unlink.ensures.onward.4 c.unwrap-place.result c.unwrap-place.ensures
