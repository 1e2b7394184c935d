use Rattle.std.proofs.Common.{◌||◌, [], length, get_or, refl, ap, sym, ◌∙◌, arith}
use Rattle.node_table.specs.Addresses.{same}
use Rattle.patch_graph.specs.Edges.{edge, has_edge, without_edge}
use Rattle.patch_graph.specs.Index.{targets_of}
use Rattle.patch_graph.specs.Aged.{edges_of}
use Rattle.patch_graph.proofs.Linked.{without_age}
use Rattle.patch_graph.proofs.Made.{written, unwritten}
use Rattle.patch_graph.proofs.Same.{same-refl}
use Rattle.patch_graph.proofs.Indexed.{there_by_age, last_onward, no_onward, whole_by_count, none_by_count, same_tables}
use Rattle.patch_graph.proofs.Gathered.{taken, closed, aged-is}
use Rattle.patch_graph.proofs.graph.PatchGraph.pop_target.Goals as goal

pub pop_at-requires : goal.pop_at-requires
pop_at-requires c = ap length c.deref_mut.ensures.value ∙ (whole_by_count _ _ _ _ _ c.self.invariant c.if-self-eq0.false).0

pub remove_at-requires : goal.remove_at-requires
remove_at-requires c = ap length c.deref_mut-2.ensures.value ∙ (whole_by_count _ _ _ _ _ c.self.invariant c.if-self-eq0.false).1

pub overflow_sub-self : goal.overflow_sub-self
overflow_sub-self c = omega (arith, c.if-self-eq0.false)

pub returns-then-self-eq0-clause-none : goal.returns-then-self-eq0-clause-none
returns-then-self-eq0-clause-none c = ap (λ es. targets_of es c.args.source.now) (sym c.self.view_is ∙ none_by_count _ _ _ _ _ c.self.invariant c.if-self-eq0.true)

pub returns-in_default-clause-none : goal.returns-in_default-clause-none
returns-in_default-clause-none c =
    ap (λ es. targets_of es c.args.source.now) (sym c.self.view_is) ∙ no_onward _ _ _ _ _ c.self.invariant c.args.source.now _ _ _ _ c.pop_at.ensures.2 c.deref_mut.ensures.value c.pop_at.ensures.3 c.in_default.is

pub invariant_of-self : goal.invariant_of-self
invariant_of-self c =
    closed _ _ _ _ _ (same_tables _ _ _ _ _ c.self.invariant _ _ (unwritten c.self.inside.targets.len c.self.inside.targets.items _ _ c.self.inside.targets.ok.0 c.deref_mut.ensures.value c.in_default.ensures.5) refl)

pub returns-in_default-clause-kept : goal.returns-in_default-clause-kept
returns-in_default-clause-kept c =
    ap edges_of (aged-is _ _ _ _ _ (same_tables _ _ _ _ _ c.self.invariant _ _ (unwritten c.self.inside.targets.len c.self.inside.targets.items _ _ c.self.inside.targets.ok.0 c.deref_mut.ensures.value c.in_default.ensures.5) refl)) ∙ c.self.view_is

pub invariant_of-self-2 : goal.invariant_of-self-2
invariant_of-self-2 c =
    (taken _ _ _ _ _ _ c.args.source.now c.in-Some.target c.in-Some.age _ _ _ _ c.self.invariant (last_onward _ _ _ _ _ c.self.invariant c.args.source.now c.in-Some.target c.in-Some.age _ _ _ _ c.pop_at.ensures.2 c.deref_mut.ensures.value c.pop_at.ensures.3 c.in-Some.is) c.in-Some.ensures.2 c.remove_at.ensures.2
    (written c.self.inside.targets.len c.in-Some.ensures.1 c.self.inside.targets.items _ _ (λ xs. without_age c.in-Some.age (get_or xs c.in-Some.ensures.1 [])) c.self.inside.targets.ok.0 c.deref_mut.ensures.value c.in-Some.ensures.4)
    (written c.self.inside.sources.len c.remove_at.ensures.1 c.self.inside.sources.items _ _ (λ xs. without_age c.in-Some.age (get_or xs c.remove_at.ensures.1 [])) c.self.inside.sources.ok.0 c.deref_mut-2.ensures.value c.remove_at.ensures.3)).0

pub returns-clause-gone : goal.returns-clause-gone
returns-clause-gone c = (
  edge c.args.source.now c.in-Some.target,
  ap (λ es. has_edge es c.args.source.now c.in-Some.target) (sym c.self.view_is) ∙ there_by_age _ c.args.source.now c.in-Some.target c.in-Some.age (last_onward _ _ _ _ _ c.self.invariant c.args.source.now c.in-Some.target c.in-Some.age _ _ _ _ c.pop_at.ensures.2 c.deref_mut.ensures.value c.pop_at.ensures.3 c.in-Some.is),
  ap (λ b. b || same c.args.source.now c.in-Some.target) (same-refl c.args.source.now),
  (taken _ _ _ _ _ _ c.args.source.now c.in-Some.target c.in-Some.age _ _ _ _ c.self.invariant (last_onward _ _ _ _ _ c.self.invariant c.args.source.now c.in-Some.target c.in-Some.age _ _ _ _ c.pop_at.ensures.2 c.deref_mut.ensures.value c.pop_at.ensures.3 c.in-Some.is) c.in-Some.ensures.2 c.remove_at.ensures.2
      (written c.self.inside.targets.len c.in-Some.ensures.1 c.self.inside.targets.items _ _ (λ xs. without_age c.in-Some.age (get_or xs c.in-Some.ensures.1 [])) c.self.inside.targets.ok.0 c.deref_mut.ensures.value c.in-Some.ensures.4)
      (written c.self.inside.sources.len c.remove_at.ensures.1 c.self.inside.sources.items _ _ (λ xs. without_age c.in-Some.age (get_or xs c.remove_at.ensures.1 [])) c.self.inside.sources.ok.0 c.deref_mut-2.ensures.value c.remove_at.ensures.3)).1
      ∙ ap (λ es. without_edge es c.args.source.now c.in-Some.target) c.self.view_is,
)
