use Rattle.std.proofs.Common.{sym, ap, ◌∙◌}
use Rattle.seq_settle.specs.Events.{events_seen}
use Rattle.seq_settle.specs.Sends.{next_due}
use Rattle.seq_settle.proofs.FirstEvents.{first-some, first-none}
use Rattle.seq_settle.proofs.events.Events.first_due.Goals as goal

pub returns-in-Some : goal.returns-in-Some
returns-in-Some c =
    first-some c.in-Played.cursor c.in-Some.tick (sym c.in-Some.is ∙ c.peek_tick.ensures) ∙ ap (λ s. next_due (events_seen s)) (sym c.in-Played.is) ∙ ap next_due c.self.view_is

pub returns-in-None : goal.returns-in-None
returns-in-None c =
    first-none c.in-Played.cursor (sym c.in-None.is ∙ c.peek_tick.ensures) ∙ ap (λ s. next_due (events_seen s)) (sym c.in-Played.is) ∙ ap next_due c.self.view_is
