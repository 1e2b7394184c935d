use Rattle.std.proofs.Common.{subst}
use Rattle.std.specs.List.Sorted.{IsPermutation}
use Rattle.smf_files.proofs.Heaps.{heap-below, with-first}
use Rattle.smf_files.proofs.heads.replace_top.Goals as goal

pub returns-clause-order : goal.returns-clause-order
returns-clause-order c = λ heap. c.sink.ensures.order (heap-below c.args.heads.now c.args.head heap)

pub returns-clause-permutation : goal.returns-clause-permutation
returns-clause-permutation c = subst (λ hs. IsPermutation hs c.sink.new.heads) (with-first c.args.heads.now c.args.head c.requires) c.sink.ensures.permutation
