use Rattle.std.proofs.Common.{◌≡◌, ◌++◌, ◌∙◌, Some, false, true, subst, sym, rules}
use Rattle.std.specs.FinMap.{get}
use Rattle.std.proofs.lemmas.Option.{get_or_from_slice_get}
use Rattle.agenda_heap.proofs.StoredLemmas.{gave, stale_goes}
use Rattle.agenda_heap.proofs.sweeping.look_at.Goals as goal

pub returns-then-not-has-clause-held : goal.returns-then-not-has-clause-held
returns-then-not-has-clause-held c =
    let same : c.take_at.result ≡ c.index.result.now = sym (get_or_from_slice_get c.args.heap.now.items c.args.place c.take_at.result c.index.result.now c.take_at.ensures.item) ∙ sym c.index.ensures in
    let stale : c.has.result ≡ false = search rules in
    stale_goes c.args.table.now (c.args.ascending.now.items ++ c.args.heap.now.items) (c.args.ascending.now.items ++ c.take_at.new.heap.items) c.take_at.result c.requires.held
    (gave c.args.ascending.now.items c.args.heap.now.items c.take_at.new.heap.items c.take_at.result c.take_at.ensures.permutation)
    (λ live. let yes' : c.has.result ≡ true = c.has.ensures.1 (subst (λ r. get c.args.table.now r.0.cell ≡ Some r.0.key) same live) in cc)
