use Rattle.std.proofs.Common.{◌≡◌, ℕ, suc, ◌+◌, subst, sym, ap, ◌∙◌, arith, List, get_or}
use Rattle.way_fates.specs.Counting.{AreCounts}
use Rattle.way_fates.proofs.Counted.{no-counts, count-ways}
use Rattle.way_fates.proofs.counting.count_ways.Goals as goal

pub loop-hop-init : goal.loop-hop-init
loop-hop-init c = record {
  whole = c.in_ok-make_places.ensures.whole;
  are = no-counts c.args.graph.now c.make_places.new.table.items (λ i. c.make_places.ensures.same i ∙ ap (λ (xs : List ℕ). get_or xs i 0) c.new-counts.ensures.items);
}

pub loop-hop-preserved : goal.loop-hop-preserved
loop-hop-preserved c =
    let n = c.loop-hop._hop in
    let more : suc n ≡ n + 1 = omega arith in
    let before = subst (AreCounts n c.args.graph.now) (sym c.deref.ensures.value) c.loop-hop.invariant.are in
    record {
      whole = c.in_ok-counts.ensures.whole;
      are = subst (λ k. AreCounts k c.args.graph.now c.in_ok-counts.counts.items) more (c.in_ok-counts.ensures.more n before);
    }

pub returns : goal.returns
returns c =
    let seven : c.loop-hop._hop ≡ 7 = omega arith in
    let are = subst (λ k. AreCounts k c.args.graph.now c.loop-hop.counts.items) seven c.loop-hop.invariant.are in
    count-ways c.args.graph.now c.args.source.now c.targets.result.now c.count_on.result c.targets.ensures
    (c.count_on.ensures 7 c.args.graph.now (subst (AreCounts 7 c.args.graph.now) (sym c.deref-2.ensures.value) are))
