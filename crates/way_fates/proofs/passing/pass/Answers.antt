use Rattle.std.proofs.Common.{sym, ap, ◌∙◌}
use Rattle.route_filter.specs.declared.rule_args.RuleArgs.{RuleArgs}
use Rattle.way_fates.specs.Stops.{stop_by}
use Rattle.way_fates.proofs.Stopping.{let-through}
use Rattle.way_fates.proofs.passing.pass.Goals as goal

pub unreachable-requires : goal.unreachable-requires
unreachable-requires c =
    let-through c.in-Some.rule.now c.args.message
    (ap (λ (r : RuleArgs). stop_by r c.args.message) (sym c.args-2.ensures.value) ∙ sym c.stop_by.ensures ∙ c.in_default-stop_by.is)
    (sym c.pass.ensures ∙ c.in-None.is)
