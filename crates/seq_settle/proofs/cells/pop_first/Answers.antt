use Rattle.std.proofs.Common.{sym, ◌∙◌}
use Rattle.seq_settle.proofs.FirstEvents.{rest-is}
use Rattle.seq_settle.proofs.cells.pop_first.Goals as goal

pub returns-in_default-2-clause-rest : goal.returns-in_default-2-clause-rest
returns-in_default-2-clause-rest c = λ x e es here events.
    cc (c.in_ok-popped.ensures.event x e es here events)

pub returns-clause-event : goal.returns-clause-event
returns-clause-event c = λ x e es here events.
    sym c.in-Some-2.is ∙ c.in_ok-popped.ensures.event x e es here events

pub returns-clause-rest : goal.returns-clause-rest
returns-clause-rest c = λ x e es here events.
    rest-is _ _ _ _ x e es c.in-Some-2.popped (c.in_ok-popped.ensures.rest x e es here events) (sym c.in-Some-2.is ∙ c.in_ok-popped.ensures.event x e es here events)
    c.drop_spent.ensures.spent c.drop_spent.ensures.left
