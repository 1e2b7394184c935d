use Rattle.route_filter.proofs.Calls.{system-known}
use Rattle.route_filter.proofs.rule.Rule.pass.Goals as goal

pub returns : goal.returns
returns c = system-known c.args.self.now _ c.args.message _ _ _ c.self.view_is c.kind.ensures c.has_kind.ensures c.if-not-has_kind.false c.in_default.ensures.system
