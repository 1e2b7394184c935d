use Rattle.std.proofs.Common.{sym, arith, ◌∙◌}
use Rattle.patch_graph.proofs.Coming.{step_back, step_back-work, route_here, next_given, step_past, step_past-work, step_deeper, step_deeper-work, walk_done}
use Rattle.patch_graph.proofs.route.Routes.next.Goals as goal

pub loop-self-preserved-in-None : goal.loop-self-preserved-in-None
loop-self-preserved-in-None c = step_back (λ s. s.now) _ _ _ _ _ _ c.loop-self.invariant (omega arith) c.index-stack-level.result c.index-stack-level.is c.in-None.ensures.cases

pub loop-self-smaller-in-None : goal.loop-self-smaller-in-None
loop-self-smaller-in-None c = step_back-work (λ s. s.now) _ _ _ _ _ _ c.loop-self.invariant (omega arith) c.index-stack-level.result c.index-stack-level.is

pub new-requires-clause-route : goal.new-requires-clause-route
new-requires-clause-route c = route_here (λ s. s.now) _ _ _ _ _ _ c.loop-self.invariant (omega arith) c.index-stack-level.result c.index-stack-level.is _ c.in-Some.rest c.in-Some.ensures.cases.0 (sym c.is_filter.ensures ∙ c.if-not-is_filter.true)

pub returns-then-not-is_filter-clause-given : goal.returns-then-not-is_filter-clause-given
returns-then-not-is_filter-clause-given c =
    next_given (λ s. s.now) _ _ _ _ _ _ c.loop-self.invariant (omega arith) c.index-stack-level.result c.index-stack-level.is _ c.in-Some.rest c.in-Some.ensures.cases.0 _ (sym c.is_filter.ensures ∙ c.if-not-is_filter.true) c.new.ensures

pub loop-self-smaller-then-depth-lt-HOPS : goal.loop-self-smaller-then-depth-lt-HOPS
loop-self-smaller-then-depth-lt-HOPS c =
    step_deeper-work (λ s. s.now) _ _ _ _ _ _ c.loop-self.invariant (omega arith) c.index-stack-level.result c.index-stack-level.is _ c.in-Some.rest c.in-Some.ensures.cases.0 c.targets-below.result (sym c.is_filter.ensures ∙ c.if-not-is_filter.false) (omega arith) c.targets-below.ensures

pub loop-self-preserved-then-depth-lt-HOPS : goal.loop-self-preserved-then-depth-lt-HOPS
loop-self-preserved-then-depth-lt-HOPS c =
    step_deeper (λ s. s.now) _ _ _ _ _ _ c.loop-self.invariant (omega arith) c.index-stack-level.result c.index-stack-level.is _ c.in-Some.rest c.in-Some.ensures.cases.0 c.targets-below.result (sym c.is_filter.ensures ∙ c.if-not-is_filter.false) (omega arith) c.targets-below.ensures

pub loop-self-smaller : goal.loop-self-smaller
loop-self-smaller c = step_past-work (λ s. s.now) _ _ _ _ _ _ c.loop-self.invariant (omega arith) c.index-stack-level.result c.index-stack-level.is _ c.in-Some.rest c.in-Some.ensures.cases.0

pub loop-self-preserved : goal.loop-self-preserved
loop-self-preserved c =
    step_past (λ s. s.now) _ _ _ _ _ _ c.loop-self.invariant (omega arith) c.index-stack-level.result c.index-stack-level.is _ c.in-Some.rest c.in-Some.ensures.cases.0 (sym c.is_filter.ensures ∙ c.if-not-is_filter.false) (omega arith)

pub returns-clause-done : goal.returns-clause-done
returns-clause-done c = sym c.loop-self.invariant.same ∙ walk_done _ _ _ _ (omega arith)

pub returns-clause-kept : goal.returns-clause-kept
returns-clause-kept c = walk_done _ _ _ _ (omega arith)
