-- Definition: Which events are refused as a file of format 0, and how a refusal of tracks is told.
use Rattle.std.specs.Prelude.{ℕ, List, length, not, nat_le, Option, Some, None, if◌then◌else◌}
use Rattle.tempo_clock.specs.Entries.{is_ppq, is_tempo}
use Rattle.smf_grammar.specs.declared.event.Event.{Event}
use Rattle.smf_grammar.specs.Chunks.{most_bytes}
use Rattle.smf_grammar.specs.Texts.{file_text, bad_event}
use Rattle.smf_files.specs.declared.fault.WriteFault.{WriteFault}
use Rattle.smf_files.specs.declared.fault.WriteFault.TheVariants.{BadPpq, BadTempo, BadEvent, TooLarge, OutOfMemory}
use Rattle.smf_grammar.specs.Written as written
use Rattle.smf_grammar.specs.Written.{FileRefusal}
use Rattle.smf_files.specs.declared.fault.TracksFault.{TracksFault}
use Rattle.smf_files.specs.declared.fault.TracksFault.TheVariants as tracks_fault

-- the first event that cannot be written, or a text that is too large
abbrev pub refusal_by : Option ℕ → ℕ → Option WriteFault
refusal_by (Some index) size = Some (BadEvent index)
refusal_by None size = if nat_le size most_bytes then None else Some TooLarge

-- why a file with these ticks per quarter note, this tempo and these events is refused, by the
-- first test that fails
abbrev pub write_refusal : ℕ → ℕ → List Event → Option WriteFault
write_refusal ppq tempo events =
    if not (is_ppq ppq) then Some BadPpq else
    (if not (is_tempo tempo) then Some BadTempo else
    refusal_by (bad_event 0 events) (length (file_text ppq tempo events)))

-- what a fault says of the events: out of memory says nothing
abbrev pub told_refusal : WriteFault → Option WriteFault
told_refusal BadPpq = Some BadPpq
told_refusal BadTempo = Some BadTempo
told_refusal (BadEvent index) = Some (BadEvent index)
told_refusal TooLarge = Some TooLarge
told_refusal OutOfMemory = None

-- the fault that tells a refusal
abbrev pub fault_of : FileRefusal → TracksFault
fault_of written.BadFormat = tracks_fault.BadFormat
fault_of written.BadTrackCount = tracks_fault.BadTrackCount
fault_of written.BadDivision = tracks_fault.BadDivision
fault_of (written.BadPair track pair) = tracks_fault.BadPair track pair
fault_of (written.EarlyEnd track pair) = tracks_fault.EarlyEnd track pair
fault_of (written.NoEnd track) = tracks_fault.NoEnd track
fault_of written.TooLarge = tracks_fault.TooLarge

-- what a fault says of the tracks: out of memory says nothing
abbrev pub told_of_tracks : TracksFault → Option FileRefusal
told_of_tracks tracks_fault.BadFormat = Some written.BadFormat
told_of_tracks tracks_fault.BadTrackCount = Some written.BadTrackCount
told_of_tracks tracks_fault.BadDivision = Some written.BadDivision
told_of_tracks (tracks_fault.BadPair track pair) = Some (written.BadPair track pair)
told_of_tracks (tracks_fault.EarlyEnd track pair) = Some (written.EarlyEnd track pair)
told_of_tracks (tracks_fault.NoEnd track) = Some (written.NoEnd track)
told_of_tracks tracks_fault.TooLarge = Some written.TooLarge
told_of_tracks tracks_fault.OutOfMemory = None
