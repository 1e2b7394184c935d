use Rattle.std.proofs.Common.{arith, sym, ◌∙◌}
use Rattle.std.proofs.lemmas.List.Sorted.{IsPermutation-trans}
use Rattle.smf_files.proofs.Heaps.{hole-sinks, hole-rests, hole-at-leaf, later-any}
use Rattle.smf_files.proofs.heads.sink.Goals as goal

pub down-preserved : goal.down-preserved
down-preserved c = record {
  order = λ heap. hole-sinks c.down.heads c.swap.new.self c.args.from c.down.at c.first_child-child.result c.down.invariant.below c.first_child-child.ensures.left c.first_child-child.ensures.right c.first_child-child.ensures.within c.swap.ensures.len c.swap.ensures.by_index
      (later-any c.down.heads c.down.at c.first_child-child.result _ _ (omega arith) c.first_child-child.ensures.within (sym c.is_later.ensures ∙ c.if-not-is_later.false))
      c.first_child-child.ensures.first (c.down.invariant.order heap);
  permutation = IsPermutation-trans _ _ _ c.down.invariant.permutation c.swap.ensures.permutation;
  below = omega arith;
}

pub returns-then-not-is_later-clause-order : goal.returns-then-not-is_later-clause-order
returns-then-not-is_later-clause-order c = λ heap. hole-rests c.down.heads c.args.from c.down.at c.first_child-child.result
    (later-any c.down.heads c.down.at c.first_child-child.result _ _ (omega arith) c.first_child-child.ensures.within (sym c.is_later.ensures ∙ c.if-not-is_later.true))
    c.first_child-child.ensures.first (c.down.invariant.order heap)

pub returns-clause-order : goal.returns-clause-order
returns-clause-order c = λ heap. hole-at-leaf c.down.heads c.args.from c.down.at (omega arith) (c.down.invariant.order heap)
