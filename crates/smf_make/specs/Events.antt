-- Representation: Events, as the code reads them of lines.
use Rattle.std.specs.Prelude.{ℕ, List, [], ◌∷◌, Option}
use Rattle.std.specs.Option.{option_and_then}
use Rattle.smf_grammar.specs.Pairs.{TrackEvent, Voice, Exclusive, Escape, Meta}
use Rattle.smf_make.specs.declared.said_event.SaidEvent.{SaidEvent}
use Rattle.smf_make.specs.declared.said_event.SaidEvent.TheVariants as said
use Rattle.smf_make.specs.SaidEvents.{event_of_bytes}

-- the event that is said
abbrev pub said_event : SaidEvent → TrackEvent
said_event (said.VoiceOfOne status first) = Voice status (first ∷ [])
said_event (said.VoiceOfTwo status first second) = Voice status (first ∷ second ∷ [])
said_event (said.Exclusive payload) = Exclusive payload.items
said_event (said.Escape payload) = Escape payload.items
said_event (said.Meta kind payload) = Meta kind payload.items

-- the event with this byte before others
abbrev pub of_bytes : ℕ → Option (List ℕ) → Option TrackEvent
of_bytes first bytes = option_and_then (λ more. event_of_bytes (first ∷ more)) bytes
