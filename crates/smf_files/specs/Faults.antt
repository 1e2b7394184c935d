-- Definition: The texts of the faults.
use Rattle.std.specs.Prelude.{ℕ, List, ◌++◌, codes}
use Rattle.std.specs.Fmt.{decimal}
use Rattle.memory.specs.Faults.{out_of_memory_text}
use Rattle.smf_files.specs.declared.fault.WriteFault.{WriteFault}
use Rattle.smf_files.specs.declared.fault.WriteFault.TheVariants.{BadPpq, BadTempo, BadEvent, TooLarge, OutOfMemory}
use Rattle.smf_files.specs.declared.fault.TracksFault.{TracksFault}
use Rattle.smf_files.specs.declared.fault.TracksFault.TheVariants as tracks_fault

-- why events cannot be written, as it is printed
abbrev pub write_fault_text : WriteFault → List ℕ
write_fault_text BadPpq = codes "the ticks per quarter note are out of range"
write_fault_text BadTempo = codes "the tempo is out of range"
write_fault_text (BadEvent index) = codes "event " ++ decimal index ++ codes " can't be written"
write_fault_text TooLarge = codes "the file is too large"
write_fault_text OutOfMemory = out_of_memory_text

-- what is said of a pair of a track, as it is printed
abbrev pub pair_fault_text : ℕ → ℕ → List ℕ → List ℕ
pair_fault_text track pair said =
    codes "pair " ++ (decimal pair ++ (codes " of track " ++ (decimal track ++ said)))

-- why tracks cannot be written, as it is printed
abbrev pub tracks_fault_text : TracksFault → List ℕ
tracks_fault_text tracks_fault.BadFormat = codes "the format is neither 0 nor 1"
tracks_fault_text tracks_fault.BadTrackCount = codes "the format has another number of tracks"
tracks_fault_text tracks_fault.BadDivision = codes "no file has this division"
tracks_fault_text (tracks_fault.BadPair track pair) =
    pair_fault_text track pair (codes " can't be written")
tracks_fault_text (tracks_fault.EarlyEnd track pair) =
    pair_fault_text track pair (codes " ends it too early")
tracks_fault_text (tracks_fault.NoEnd track) =
    codes "track " ++ decimal track ++ codes " has no end"
tracks_fault_text tracks_fault.TooLarge = codes "the file is too large"
tracks_fault_text tracks_fault.OutOfMemory = out_of_memory_text
