use Rattle.std.proofs.Common.{◌≡◌, ◌+◌, ◌-◌, sym, arith}
use Rattle.cell_pools.proofs.Walking.{walked-start, walked-none, walked-taken, walked-end}
use Rattle.cell_pools.proofs.laws.take_all.Goals as goal

pub loop-index-init : goal.loop-index-init
loop-index-init g c = walked-start _ _ _ c.used-index.ensures.listed

pub loop-index-preserved-in-Some : goal.loop-index-preserved-in-Some
loop-index-preserved-in-Some g c =
    let next : c.loop-index.index ≡ c.loop-index.index - 1 + 1 = omega (arith, c.loop-index-test.true) in
    walked-taken _ _ _ _ _ next c.loop-index.invariant _ _ c.used-index.ensures.keys (sym c.in-Some.ensures.value) c.take.ensures.taken

pub loop-index-preserved : goal.loop-index-preserved
loop-index-preserved g c =
    let next : c.loop-index.index ≡ c.loop-index.index - 1 + 1 = omega (arith, c.loop-index-test.true) in
    walked-none _ _ _ _ _ next c.loop-index.invariant (sym c.in_default.ensures.value)

pub returns-clause-none : goal.returns-clause-none
returns-clause-none g c = walked-end _ _ _ _ c.used-index.ensures.keys c.loop-index-test.false c.loop-index.invariant
