use Rattle.std.proofs.Common.{◌≡◌, ◌++◌, List, false, true, subst, sym}
use Rattle.std.specs.BinaryHeap.{IsHeap}
use Rattle.std.specs.declared.cmp.Reverse.{Reverse}
use Rattle.agenda_heap.specs.declared.entry.Entry.{Entry}
use Rattle.agenda_heap.specs.Stored.{reversed_cmp, HoldsCells}
use Rattle.agenda_heap.proofs.StoredLemmas.{ascends-front, last-goes, last-moves}
use Rattle.agenda_heap.proofs.sweeping.look_at_last.Goals as goal

pub returns-in-Ok-clause-ascends : goal.returns-in-Ok-clause-ascends
returns-in-Ok-clause-ascends c = ascends-front c.args.table.now c.args.ascending.now.items c.pop_back.new.self.items c.reserve.new.self.items c.in-Some.last c.in-Some.ensures.items c.requires.ascends

pub returns-in-Ok-clause-order : goal.returns-in-Ok-clause-order
returns-in-Ok-clause-order c = c.in-Ok.ensures.order (subst (IsHeap reversed_cmp) (sym c.reserve.ensures.items) c.requires.order)

pub returns-in-Ok-clause-held : goal.returns-in-Ok-clause-held
returns-in-Ok-clause-held c =
    last-moves c.args.table.now c.args.ascending.now.items c.pop_back.new.self.items c.reserve.new.self.items c.in-Some.last c.in-Some.ensures.items c.push.new.heap.items c.in-Ok.ensures.permutation
    (subst (λ (xs : List (Reverse Entry)). HoldsCells c.args.table.now (c.args.ascending.now.items ++ xs)) (sym c.reserve.ensures.items) c.requires.held)

pub returns-else-has-clause-ascends : goal.returns-else-has-clause-ascends
returns-else-has-clause-ascends c = ascends-front c.args.table.now c.args.ascending.now.items c.pop_back.new.self.items c.reserve.new.self.items c.in-Some.last c.in-Some.ensures.items c.requires.ascends

pub returns-else-has-clause-held : goal.returns-else-has-clause-held
returns-else-has-clause-held c =
    let stale : c.has.result ≡ false = c.if-has.false in
    last-goes c.args.table.now c.args.ascending.now.items c.pop_back.new.self.items c.reserve.new.self.items c.in-Some.last c.in-Some.ensures.items
    (subst (λ (xs : List (Reverse Entry)). HoldsCells c.args.table.now (c.args.ascending.now.items ++ xs)) (sym c.reserve.ensures.items) c.requires.held)
    (λ live. let yes' : c.has.result ≡ true = c.has.ensures.1 live in cc)
