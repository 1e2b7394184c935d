use Rattle.std.proofs.Common.{◌≡◌, ◌∙◌, arith, rules, min, length, ap}
use Rattle.cell_pools.specs.Pools.{oldest_items, after_take}
use Rattle.cell_pools.proofs.Fronts.{split-more, moved, still-bounded, left}
use Rattle.cell_pools.proofs.pool.InPool.take.Goals as goal

pub invariant_of-self : goal.invariant_of-self
invariant_of-self g c = still-bounded _ _ _ _ _ c.loop-turn.invariant.moved c.loop-turn.invariant.size c.self.invariant

pub loop-turn-preserved : goal.loop-turn-preserved
loop-turn-preserved g c = record {
  few = c.loop-turn.invariant.few;
  counted = search rules;
  moved = grind (arith, split-more);
  room = search rules;
  size = search rules;
  lost = c.loop-turn.invariant.lost;
  listening = c.loop-turn.invariant.listening;
}

pub returns-clause-ok : goal.returns-clause-ok
returns-clause-ok g c =
    let turns : c.loop-turn._turn ≡ min (length c.self.inside.items.items) c.args.max = omega arith in
    moved _ _ _ _ _ c.loop-turn.invariant.moved c.loop-turn.invariant.counted turns ∙ ap (oldest_items c.args.max) c.self.view_is

pub returns-clause-left : goal.returns-clause-left
returns-clause-left g c =
    let turns : c.loop-turn._turn ≡ min (length c.self.inside.items.items) c.args.max = omega arith in
    left _ _ _ _ _ _ _ _ _ _ _ c.loop-turn.invariant.moved c.loop-turn.invariant.counted turns c.loop-turn.invariant.size c.loop-turn.invariant.lost c.loop-turn.invariant.listening ∙ ap (after_take c.args.max) c.self.view_is
