-- Definition: The number, the name and the place of each fault of a file, and the texts of all
-- faults.
use Rattle.std.specs.Prelude.{ℕ, List, [], ◌++◌, Option, Some, None, codes}
use Rattle.std.specs.Fmt.{decimal}
use Rattle.smf_grammar.specs.declared.fault.QuantityFault.{QuantityFault}
use Rattle.smf_grammar.specs.declared.fault.QuantityFault.TheVariants as quantity_fault
use Rattle.smf_grammar.specs.declared.fault.PairFault.{PairFault}
use Rattle.smf_grammar.specs.declared.fault.PairFault.TheVariants as pair_fault
use Rattle.smf_grammar.specs.declared.fault.ChunkFault.{ChunkFault}
use Rattle.smf_grammar.specs.declared.fault.ChunkFault.TheVariants as chunk_fault
use Rattle.smf_grammar.specs.declared.fault.SmfFault.{SmfFault}
use Rattle.smf_grammar.specs.declared.fault.SmfFault.TheVariants.{NotMidi, ShortHeader, UnknownFormat, Format2, BadTrackCount, ZeroDivision, SmpteDivision, DropFrame, TrackMissing, Truncated, LongQuantity, NoStatus, BadStatus, BadData, NoEndOfTrack, TooLarge, OutOfMemory}

abbrev pub fault_number : SmfFault → ℕ
fault_number NotMidi = 1
fault_number ShortHeader = 2
fault_number UnknownFormat = 3
fault_number Format2 = 4
fault_number BadTrackCount = 5
fault_number ZeroDivision = 6
fault_number SmpteDivision = 7
fault_number DropFrame = 8
fault_number TrackMissing = 9
fault_number (Truncated at) = 10
fault_number (LongQuantity at) = 11
fault_number (NoStatus at) = 12
fault_number (BadStatus at) = 13
fault_number (BadData at) = 14
fault_number (NoEndOfTrack track) = 15
fault_number TooLarge = 16
fault_number OutOfMemory = 17

-- the place of the fault, or the number of the track that has no end
abbrev pub fault_place : SmfFault → Option ℕ
fault_place (Truncated at) = Some at
fault_place (LongQuantity at) = Some at
fault_place (NoStatus at) = Some at
fault_place (BadStatus at) = Some at
fault_place (BadData at) = Some at
fault_place (NoEndOfTrack track) = Some track
fault_place _ = None

abbrev pub fault_name : SmfFault → List ℕ
fault_name NotMidi = codes "NotMidi"
fault_name ShortHeader = codes "ShortHeader"
fault_name UnknownFormat = codes "UnknownFormat"
fault_name Format2 = codes "Format2"
fault_name BadTrackCount = codes "BadTrackCount"
fault_name ZeroDivision = codes "ZeroDivision"
fault_name SmpteDivision = codes "SmpteDivision"
fault_name DropFrame = codes "DropFrame"
fault_name TrackMissing = codes "TrackMissing"
fault_name (Truncated at) = codes "Truncated"
fault_name (LongQuantity at) = codes "LongQuantity"
fault_name (NoStatus at) = codes "NoStatus"
fault_name (BadStatus at) = codes "BadStatus"
fault_name (BadData at) = codes "BadData"
fault_name (NoEndOfTrack track) = codes "NoEndOfTrack"
fault_name TooLarge = codes "TooLarge"
fault_name OutOfMemory = codes "OutOfMemory"

abbrev pub place_text : Option ℕ → List ℕ
place_text None = []
place_text (Some place) = codes " " ++ decimal place

-- a fault as it is printed
abbrev pub fault_text : SmfFault → List ℕ
fault_text x = decimal (fault_number x) ++ codes " " ++ fault_name x ++ place_text (fault_place x)

-- ---- what is wrong with an item

-- why no quantity stands first, as it is printed
abbrev pub quantity_fault_text : QuantityFault → List ℕ
quantity_fault_text quantity_fault.Short = codes "the quantity is cut"
quantity_fault_text quantity_fault.Long = codes "the quantity has more than four bytes"

-- why no pair stands first, as it is printed
abbrev pub pair_fault_text : PairFault → List ℕ
pair_fault_text pair_fault.NoPair = codes "no end of track"
pair_fault_text pair_fault.Truncated = codes "the event is cut"
pair_fault_text pair_fault.LongQuantity = codes "a quantity has more than four bytes"
pair_fault_text pair_fault.NoStatus = codes "no running status"
pair_fault_text pair_fault.BadStatus = codes "no status of a file"
pair_fault_text pair_fault.BadData = codes "no data byte"

-- why no chunk stands first, as it is printed
abbrev pub chunk_fault_text : ChunkFault → List ℕ
chunk_fault_text chunk_fault.Missing = codes "no chunk"
chunk_fault_text chunk_fault.Cut = codes "the chunk is cut"
