use Rattle.std.proofs.Common.{◌≡◌, ◌<◌, ◌∙◌, length, drop, refl, subst, sym, arith, ◌∷◌}
use Rattle.std.specs.BinaryHeap.{lt_by_cmp, IsHeap}
use Rattle.std.specs.BinaryHeap.Sift.{IsHeapWithHole}
use Rattle.std.specs.List.Sorted.{IsPermutation}
use Rattle.std.proofs.lemmas.List.Sorted.{IsPermutation-refl}
use Rattle.std.proofs.lemmas.Option.{slice_get_read}
use Rattle.agenda_heap.proofs.SiftLemmas.{hole_left, last_left, taken, written}
use Rattle.agenda_heap.proofs.sifting.take_at.Goals as goal

pub returns-then-place-len-clause-permutation : goal.returns-then-place-len-clause-permutation
returns-then-place-len-clause-permutation g c =
    let out = c.swap_remove-taken in
    let long : length c.settle.new.items ≡ out.new.self.len = c.settle.auto.items ∙ c.as_mut_slice.ensures.len in
    subst (λ l. IsPermutation c.args.heap.now.items (out.result ∷ l)) (sym (written out.new.self.len c.settle.new.items (drop (length c.settle.new.items) out.new.self.items) long))
    (taken c.args.heap.now.items c.as_mut_slice.result.now c.settle.new.items c.args.place out.result c.requires out.ensures.value (c.as_mut_slice.ensures.value ∙ out.ensures.items) c.settle.ensures.permutation)

pub returns-then-place-len-clause-order : goal.returns-then-place-len-clause-order
returns-then-place-len-clause-order g c = λ heap.
    let out = c.swap_remove-taken in
    let long : length c.settle.new.items ≡ out.new.self.len = c.settle.auto.items ∙ c.as_mut_slice.ensures.len in
    let was = c.args.heap.now.ok.0 in
    let is = out.new.self.ok.0 in
    let less = out.ensures.len in
    let within : c.args.place < length out.new.self.items = omega (arith, c.len.ensures, c.if-place-len.true) in
    subst (IsHeap g.T.Ord.cmp) (sym (written out.new.self.len c.settle.new.items (drop (length c.settle.new.items) out.new.self.items) long))
    (c.settle.ensures.order (subst (λ l. IsHeapWithHole (lt_by_cmp g.T.Ord.cmp) l c.args.place (length l)) (sym c.as_mut_slice.ensures.value)
    (hole_left g.T.Ord.cmp c.args.heap.now.items out.new.self.items c.args.place (omega arith) (λ k d apart before. out.ensures.by_index.1 k d apart (omega arith)) g.met.T.Ord.total within heap)))

pub returns-else-place-len-clause-item : goal.returns-else-place-len-clause-item
returns-else-place-len-clause-item g c = slice_get_read c.args.heap.now.items _ c.args.place _ refl c.requires c.swap_remove-taken.ensures.value

pub returns-else-place-len-clause-permutation : goal.returns-else-place-len-clause-permutation
returns-else-place-len-clause-permutation g c =
    let out = c.swap_remove-taken in
    taken c.args.heap.now.items out.new.self.items out.new.self.items c.args.place out.result c.requires out.ensures.value out.ensures.items (IsPermutation-refl out.new.self.items)

pub returns-else-place-len-clause-order : goal.returns-else-place-len-clause-order
returns-else-place-len-clause-order g c = λ heap.
    let out = c.swap_remove-taken in
    let was = c.args.heap.now.ok.0 in
    let is = out.new.self.ok.0 in
    let less = out.ensures.len in
    last_left g.T.Ord.cmp c.args.heap.now.items out.new.self.items c.args.place (omega arith) (λ k d apart before. out.ensures.by_index.1 k d apart (omega arith)) (omega (arith, c.len.ensures, c.if-place-len.false)) heap
