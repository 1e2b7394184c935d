-- Representation: How the words of a line are kept, and what an entry that is kept stands for.
use Rattle.std.specs.Prelude.{ℕ, List, [], Option, Some, None}
use Rattle.std.specs.Borrow.{Bor}
use Rattle.log_forms.specs.declared.entry.Arrival as kept_arrival
use Rattle.log_forms.specs.declared.entry.Entry as kept_entry
use Rattle.log_forms.specs.declared.entry.Entry.TheVariants as kept
use Rattle.log_forms.specs.declared.entry.Outcome as kept_outcome
use Rattle.log_forms.specs.declared.entry.Outcome.TheVariants as ended
use Rattle.log_forms.specs.Entries.{Arrival, Outcome, Entry, arrival, Done, Count, Queue, Pools, Refused, Skip, Delivery, Received, Reply, Listed}
use Rattle.log_forms.specs.Lines.{words}

-- the words of the text that is left, or none
abbrev pub words_left : Option (Bor (List ℕ)) → List (List ℕ)
words_left None = []
words_left (Some text) = words text.now

-- ---- entries, whose texts are words of the line

abbrev pub arrival_seen : kept_arrival.Arrival → Arrival
arrival_seen a = arrival a.moment.now a.port.now a.message

abbrev pub outcome_seen : kept_outcome.Outcome → Outcome
outcome_seen ended.Done = Done
outcome_seen (ended.Count n) = Count n.now
outcome_seen (ended.Queue state tick nanos) = Queue state.now tick.now nanos.now
outcome_seen (ended.Pools waiting lost used) = Pools waiting.now lost.now used.now
outcome_seen (ended.Refused number name) = Refused number.now name.now

abbrev pub entry_seen : kept_entry.Entry → Entry
entry_seen (kept.Skip line reason) = Skip line.now reason.now
entry_seen (kept.Delivery a) = Delivery (arrival_seen a)
entry_seen (kept.Received a) = Received (arrival_seen a)
entry_seen (kept.Reply moment line outcome) = Reply moment.now line.now (outcome_seen outcome)
entry_seen (kept.Listed line) = Listed line.now
