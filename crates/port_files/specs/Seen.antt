-- Representation: Pairs that own their bytes, and what is lent of them.
use Rattle.std.specs.Prelude.{min, List, [], ◌∷◌, map}
use Rattle.std.specs.Global.{Vec}
use Rattle.smf_grammar.specs.Pairs.{TrackEvent, Voice, Exclusive, Meta, Pair}
use Rattle.port_files.specs.declared.pair.OwnEvent.{OwnEvent}
use Rattle.port_files.specs.declared.pair.OwnEvent.TheVariants as own

abbrev pub event_kept : OwnEvent → TrackEvent
event_kept (own.VoiceOfOne status first) = Voice status (first ∷ [])
event_kept (own.VoiceOfTwo status first second) = Voice status (first ∷ second ∷ [])
event_kept (own.Exclusive payload) = Exclusive payload.items
event_kept (own.Meta kind payload) = Meta kind payload.items

-- the pairs of each track
abbrev pub tracks_kept : List (Vec Pair) → List (List Pair)
tracks_kept tracks = map (λ track. track.items) tracks

-- the same pair with a delta time of 32 bits: one that is cut is still too great for a file
abbrev pub capped : Pair → Pair
capped p = record { delta = min p.delta 4294967295; event = p.event }
