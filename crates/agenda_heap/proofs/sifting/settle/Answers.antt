use Rattle.std.proofs.Common.{◌≡◌, ◌<◌, length, length-set, arith}
use Rattle.std.specs.BinaryHeap.{lt_by_cmp}
use Rattle.std.proofs.lemmas.List.Sorted.{IsPermutation-trans}
use Rattle.agenda_heap.proofs.SiftLemmas.{stands, hole_moves, sinks}
use Rattle.agenda_heap.proofs.sifting.settle.Goals as goal

pub loop-hole-preserved : goal.loop-hole-preserved
loop-hole-preserved g c =
    let l = c.loop-hole in
    let child = c.greater_child-child.result in
    let above = c.index-items-child.result in
    let bounds = c.greater_child-child.ensures in
    let within : l.hole < length l.items = l.invariant.within in
    let long : length l.items ≡ length c.args.items.now = l.auto.items in
    let there : child < length l.items = bounds.within in
    record {
      within = omega (arith, length-set l.items l.hole above);
      moved = IsPermutation-trans _ _ _ l.invariant.moved (hole_moves l.items l.hole child c.index-items-place.result above (omega arith) within there c.index-items-child.is);
      order = λ hole.
          sinks (lt_by_cmp g.T.Ord.cmp) l.items l.hole (length c.args.items.now) above within child bounds.low bounds.high (omega arith)
          (λ d. stands l.items child above d there c.index-items-child.is) (λ k d low high in-k. bounds.greater k d low high (omega arith)) (l.invariant.order hole);
    }

pub returns-clause-permutation : goal.returns-clause-permutation
returns-clause-permutation g c = IsPermutation-trans _ _ _ c.loop-hole.invariant.moved c.rise.ensures.permutation
