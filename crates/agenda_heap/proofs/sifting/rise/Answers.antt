use Rattle.std.proofs.Common.{◌≡◌, ◌<◌, ◌-◌, ◌/◌, true, length, length-set, arith}
use Rattle.std.specs.BinaryHeap.{lt_by_cmp}
use Rattle.std.proofs.lemmas.List.MinMax.{ranks_by}
use Rattle.std.proofs.lemmas.List.Sorted.{IsPermutation-refl, IsPermutation-trans}
use Rattle.agenda_heap.proofs.SiftLemmas.{above-leaf, stands, hole_moves, rises, placed, below-none, below-parent}
use Rattle.agenda_heap.proofs.sifting.rise.Goals as goal
use Rattle.agenda_heap.proofs.sifting.rise.Goals.{else-loop-hole-test, then-loop-hole-test+then-not-is_lt}

pub loop-hole-init : goal.loop-hole-init
loop-hole-init g c = record {
  within = c.requires.within;
  moved = IsPermutation-refl _;
  order = λ hole. (hole, above-leaf (lt_by_cmp g.T.Ord.cmp) c.args.items.now c.args.leaf _ c.args.item c.requires.leaf);
}

pub loop-hole-preserved : goal.loop-hole-preserved
loop-hole-preserved g c =
    let l = c.loop-hole in
    let parent = (l.hole - 1) / 2 in
    let above = c.index-items-parent.result in
    let within : l.hole < length l.items = l.invariant.within in
    let up : parent < length l.items = omega arith in
    let long : length l.items ≡ length c.args.items.now = l.auto.items in
    let less : lt_by_cmp g.T.Ord.cmp above c.args.item ≡ true = cc in
    record {
      within = omega (arith, length-set l.items l.hole above);
      moved = IsPermutation-trans _ _ _ l.invariant.moved (hole_moves l.items l.hole parent c.args.item above (omega arith) within up c.index-items-parent.is);
      order = λ hole.
          rises (lt_by_cmp g.T.Ord.cmp) l.items l.hole (length c.args.items.now) above within (ranks_by g.met.T.Ord.total (λ x. x)) parent c.args.item (omega arith) (omega arith) (omega arith)
          (λ d. stands l.items parent above d up c.index-items-parent.is) less (l.invariant.order hole).0;
    }

pub returns-clause-order : goal.returns-clause-order
returns-clause-order g c = λ hole.
    let l = c.loop-hole in
    let within : l.hole < length l.items = l.invariant.within in
    placed g.T.Ord.cmp l.items l.hole (length c.args.items.now) c.args.item within l.auto.items
    (λ p d low high. elim c.loop-hole-test.branch [
      | else-loop-hole-test w ↦ below-none g.T.Ord.cmp l.items c.args.item p l.hole d (omega arith) low
      | then-loop-hole-test+then-not-is_lt w ↦ below-parent g.T.Ord.cmp l.items c.args.item w.index-items-parent.result ((l.hole - 1) / 2) p l.hole d (omega arith) w.index-items-parent.is
          (cc) (omega arith)
    ]) (l.invariant.order hole)
