use Rattle.std.proofs.Common.{◌≡◌, ◌<◌, cond, refl, sym, ap, ◌∙◌, arith}
use Rattle.std.proofs.lemmas.Option.{MatchOption-at_some}
use Rattle.std.specs.FinMap.{get}
use Rattle.cell_pools.specs.Cells.{is_of}
use Rattle.seq_settle.specs.Drops.{kept_cell, stays}
use Rattle.seq_settle.proofs.Dropped.{is_below, kept-some, kept_playbacks, kept_cells, passed-cells, below-start, owners-step, owners-end, alone-end, known-client}
use Rattle.seq_settle.proofs.dropping.drop_playbacks.Goals as goal

pub returns-then-not-foreign-clause-playbacks : goal.returns-then-not-foreign-clause-playbacks
returns-then-not-foreign-clause-playbacks g c =
    kept_playbacks (stays c.args.client c.args.which.now) _ _ c.args.steps c.requires.cells
    (alone-end (stays c.args.client c.args.which.now) _ _ c.args.client (c.requires.alone c.if-not-foreign.true) c.drop_of.ensures.cells)

pub returns-then-not-foreign-clause-cells : goal.returns-then-not-foreign-clause-cells
returns-then-not-foreign-clause-cells g c =
    kept_cells (stays c.args.client c.args.which.now) _ _ c.args.steps c.requires.cells
    (alone-end (stays c.args.client c.args.which.now) _ _ c.args.client (c.requires.alone c.if-not-foreign.true) c.drop_of.ensures.cells)

pub returns-then-not-foreign-clause-left : goal.returns-then-not-foreign-clause-left
returns-then-not-foreign-clause-left g c = λ q x e.
    (kept-some (stays c.args.client c.args.which.now) (get c.args.cells.now.cells q) x
    (sym (alone-end (stays c.args.client c.args.which.now) _ _ c.args.client (c.requires.alone c.if-not-foreign.true) c.drop_of.ensures.cells q) ∙ e)).1

pub loop-number-init : goal.loop-number-init
loop-number-init g c = record {
  marked = λ q. sym (ap (λ b. cond b (kept_cell (stays c.args.client c.args.which.now) (get c.args.cells.now.cells q)) (get c.args.cells.now.cells q))
      (below-start 128 (get c.args.cells.now.cells q) (λ x e. (known-client c.args.cells.now.cells c.cells_are_of_clients.ensures q x e).0)));
  timed = λ clients timed. timed;
  sizes = λ owner. refl;
}

pub loop-number-preserved : goal.loop-number-preserved
loop-number-preserved g c =
    let i = c.loop-number.invariant in
    let are = passed-cells (stays c.args.client c.args.which.now) (λ q. is_below c.loop-number.number (get c.args.cells.now.cells q)) _ _ c.args.steps i.marked c.requires.cells in
    let is : c.unwrap-owner.result ≡ c.loop-number.number = MatchOption-at_some _ (λ n. n ≡ c.loop-number.number) _ c.unwrap-owner.ensures c.new.ensures.value in
    record {
      marked = owners-step (stays c.args.client c.args.which.now) _ _ _ c.loop-number.number i.marked
          (λ q. c.drop_of-in-loop-number.ensures.cells q ∙ ap (λ n. cond (is_of n (get c.loop-number.cells.cells q)) (kept_cell (stays c.args.client c.args.which.now) (get c.loop-number.cells.cells q)) (get c.loop-number.cells.cells q)) is);
      timed = λ clients timed. c.drop_of-in-loop-number.ensures.timed clients c.args.steps are (i.timed clients timed);
      sizes = λ owner. c.drop_of-in-loop-number.ensures.sizes owner ∙ i.sizes owner;
    }

pub returns-clause-playbacks : goal.returns-clause-playbacks
returns-clause-playbacks g c =
    kept_playbacks (stays c.args.client c.args.which.now) _ _ c.args.steps c.requires.cells
    (owners-end (stays c.args.client c.args.which.now) _ _ c.loop-number.number
    (λ q x e. let l : x.0 < 192 = (known-client c.args.cells.now.cells c.cells_are_of_clients.ensures q x e).1 in omega (arith, c.loop-number-test.false)) c.loop-number.invariant.marked)

pub returns-clause-cells : goal.returns-clause-cells
returns-clause-cells g c =
    kept_cells (stays c.args.client c.args.which.now) _ _ c.args.steps c.requires.cells
    (owners-end (stays c.args.client c.args.which.now) _ _ c.loop-number.number
    (λ q x e. let l : x.0 < 192 = (known-client c.args.cells.now.cells c.cells_are_of_clients.ensures q x e).1 in omega (arith, c.loop-number-test.false)) c.loop-number.invariant.marked)

pub returns-clause-left : goal.returns-clause-left
returns-clause-left g c = λ q x e.
    (kept-some (stays c.args.client c.args.which.now) (get c.args.cells.now.cells q) x (sym (owners-end (stays c.args.client c.args.which.now) _ _ c.loop-number.number
    (λ q x e. let l : x.0 < 192 = (known-client c.args.cells.now.cells c.cells_are_of_clients.ensures q x e).1 in omega (arith, c.loop-number-test.false)) c.loop-number.invariant.marked q) ∙ e)).1
