use Rattle.std.proofs.Common.{rules}
use Rattle.std.proofs.lemmas.List.Sorted.{IsPermutation-trans}
use Rattle.smf_files.proofs.heads.order.Goals as goal

pub up-preserved : goal.up-preserved
up-preserved c = record {
  order = search rules;
  permutation = IsPermutation-trans _ _ _ c.up.invariant.permutation c.sink.ensures.permutation;
}
