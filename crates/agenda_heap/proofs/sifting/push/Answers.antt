use Rattle.std.proofs.Common.{◌≡◌, ◌++◌, ◌∷◌, [], length, drop, subst, sym, arith}
use Rattle.std.specs.BinaryHeap.{IsHeap}
use Rattle.std.specs.List.Sorted.{IsPermutation}
use Rattle.agenda_heap.proofs.SiftLemmas.{grown, pushed, written}
use Rattle.agenda_heap.proofs.sifting.push.Goals as goal

pub returns-clause-permutation : goal.returns-clause-permutation
returns-clause-permutation g c =
    let was = c.args.heap.now.ok.0 in
    let at-end : c.len-end.result ≡ length c.args.heap.now.items = omega arith in
    let grew : c.as_mut_slice.result.now ≡ c.args.heap.now.items ++ c.args.item ∷ [] = rw c.as_mut_slice.ensures.value c.in_ok-push.ensures.items in
    let long : length c.rise.new.items ≡ c.push.new.self.len = omega arith in
    subst (IsPermutation _) (sym (written c.push.new.self.len c.rise.new.items (drop (length c.rise.new.items) c.push.new.self.items) long))
    (pushed c.args.heap.now.items c.as_mut_slice.result.now c.rise.new.items c.len-end.result c.args.item at-end grew c.rise.ensures.permutation)

pub returns-clause-order : goal.returns-clause-order
returns-clause-order g c = λ heap.
    let was = c.args.heap.now.ok.0 in
    let at-end : c.len-end.result ≡ length c.args.heap.now.items = omega arith in
    let grew : c.as_mut_slice.result.now ≡ c.args.heap.now.items ++ c.args.item ∷ [] = rw c.as_mut_slice.ensures.value c.in_ok-push.ensures.items in
    let long : length c.rise.new.items ≡ c.push.new.self.len = omega arith in
    subst (IsHeap g.T.Ord.cmp) (sym (written c.push.new.self.len c.rise.new.items (drop (length c.rise.new.items) c.push.new.self.items) long))
    (c.rise.ensures.order (grown g.T.Ord.cmp c.args.heap.now.items c.as_mut_slice.result.now c.len-end.result c.args.item at-end grew heap))
