use Rattle.std.proofs.Common.{◌≡◌, ◌+◌, ◌-◌, sym, arith}
use Rattle.std.specs.Prelude.{drop}
use Rattle.cell_pools.specs.Cells.{keys_of}
use Rattle.seq_settle.specs.Drops.{stays}
use Rattle.seq_settle.proofs.Marks.{has}
use Rattle.seq_settle.proofs.Dropped.{passed-cells, passed-start, passed-none, passed-one, passed-end}
use Rattle.seq_settle.proofs.dropping.drop_of.Goals as goal

pub loop-index-init : goal.loop-index-init
loop-index-init g c = record {
  passed = passed-start c.args.client c.args.which.now c.args.owner _ _ c.used-index.ensures.listed;
  timed = λ clients n are timed. timed;
}

pub loop-index-preserved-in-Some : goal.loop-index-preserved-in-Some
loop-index-preserved-in-Some g c =
    let next : c.loop-index.index ≡ c.loop-index.index - 1 + 1 = omega (arith, c.loop-index-test.true) in
    record {
      passed = passed-one c.args.client c.args.which.now c.args.owner _ _ _ _ next c.loop-index.invariant.passed _ _ (sym c.in-Some.ensures.value) c.drop_one.ensures.cells;
      timed = λ clients n are timed. c.drop_one.ensures.timed clients n (passed-cells (stays c.args.client c.args.which.now) (λ q. has q (drop c.loop-index.index (keys_of c.args.cells.now c.args.owner))) _ _ n c.loop-index.invariant.passed.cells are) (c.loop-index.invariant.timed clients n are timed);
    }

pub loop-index-preserved : goal.loop-index-preserved
loop-index-preserved g c =
    let next : c.loop-index.index ≡ c.loop-index.index - 1 + 1 = omega (arith, c.loop-index-test.true) in
    record {
      passed = passed-none c.args.client c.args.which.now c.args.owner _ _ _ _ next c.loop-index.invariant.passed (sym c.in_default.ensures.value);
      timed = c.loop-index.invariant.timed;
    }

pub returns-clause-cells : goal.returns-clause-cells
returns-clause-cells g c = passed-end c.args.client c.args.which.now c.args.owner _ _ _ c.used-index.ensures.keys c.loop-index-test.false c.loop-index.invariant.passed
