use Rattle.route_filter.proofs.Ranges.{shifts-fit, none-between, none-far, range, both}
use Rattle.route_filter.proofs.rule_args.RuleArgs.notes_then.Goals as goal
use Rattle.route_filter.proofs.rule_args.RuleArgs.notes_then.Goals.{then-low-high-via-then-low-high, then-low-high-via-else-low-high+then-unsigned_abs-gt127}

pub overflow_add-shift : goal.overflow_add-shift
overflow_add-shift c = shifts-fit c.args.self.now c.args.next.now c.requires.first c.requires.second

pub returns-then-low-high-clause-none : goal.returns-then-low-high-clause-none
returns-then-low-high-clause-none c =
    elim c.then-low-high.branch [
      | then-low-high-via-then-low-high w ↦
          none-between c.args.self.now c.args.next.now c.requires.first c.requires.second _ _ _ _ _ _ c.from.ensures c.from-2.ensures c.from-3.ensures c.from-4.ensures c.max-low.ensures.value c.min-high.ensures.value w.if-low-high.true
      | then-low-high-via-else-low-high+then-unsigned_abs-gt127 w ↦
          none-far c.args.self.now c.args.next.now c.requires.first c.requires.second _ _ _ _ _ _ c.from.ensures c.from-2.ensures c.from-3.ensures c.from-4.ensures c.max-low.ensures.value c.min-high.ensures.value _ w.unsigned_abs.ensures.value w.if-unsigned_abs-gt127.true
    ]

pub returns-clause-range : goal.returns-clause-range
returns-clause-range c =
    range c.args.self.now c.args.next.now c.requires.first c.requires.second _ _ _ _ _ _ c.from.ensures c.from-2.ensures c.from-3.ensures c.from-4.ensures c.max-low.ensures.value c.min-high.ensures.value c.if-low-high.false

pub returns-clause-both : goal.returns-clause-both
returns-clause-both c =
    both c.args.self.now c.args.next.now c.requires.first c.requires.second _ _ _ _ _ _ c.from.ensures c.from-2.ensures c.from-3.ensures c.from-4.ensures c.max-low.ensures.value c.min-high.ensures.value c.if-low-high.false
