-- Representation: What a playback's source of events stands for.
use Rattle.std.specs.Prelude.{ℕ, List, [], ◌∷◌, map, Option, Some, None}
use Rattle.tempo_clock.specs.declared.due.Due.{Due}
use Rattle.tempo_clock.specs.declared.due.Due.TheVariants.{Tick}
use Rattle.smf_grammar.specs.declared.event.Event as files
use Rattle.seq_settle.specs.declared.events.EventSource.{EventSource}
use Rattle.seq_settle.specs.declared.events.EventSource.TheVariants.{Scheduled, Played}
use Rattle.seq_state.specs.State.{DueMessage}

-- an event of a file is due at its tick
abbrev pub file_event : files.Event → DueMessage
file_event e = record { due = Tick e.tick; message = e.message }

abbrev pub scheduled_event : Due → Option (List ℕ) → List DueMessage
scheduled_event due None = []
scheduled_event due (Some message) = record { due = due; message = message } ∷ []

abbrev pub events_seen : EventSource → List DueMessage
events_seen (Scheduled due message) = scheduled_event due message
events_seen (Played cursor) = map file_event cursor
