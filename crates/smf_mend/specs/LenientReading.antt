-- Representation: A file read item by item by the lenient grammar: what its definitions say of any
-- bytes, as a function.
use Rattle.std.specs.Prelude.{ℕ, zero, suc, ◌+◌, ◌-◌, List, [], ◌∷◌, length, Option, None, Result, Ok, Err, if◌then◌else◌}
use Rattle.smf_grammar.specs.Outcomes.{◌>>=◌}
use Rattle.smf_grammar.specs.Pairs.{Pair, is_end}
use Rattle.smf_grammar.specs.Chunks.{header_at, Chunk, chunk_at}
use Rattle.smf_grammar.specs.Files.{MidiFile}
use Rattle.smf_grammar.specs.Reading.{Pairs, with_pair, track_by}
use Rattle.smf_grammar.specs.declared.fault.PairFault.{PairFault}
use Rattle.smf_grammar.specs.declared.fault.PairFault.TheVariants as pair_fault
use Rattle.smf_grammar.specs.declared.fault.ChunkFault.{ChunkFault}
use Rattle.smf_grammar.specs.declared.fault.ChunkFault.TheVariants as chunk_fault
use Rattle.smf_grammar.specs.declared.fault.SmfFault.{SmfFault}
use Rattle.smf_grammar.specs.declared.fault.SmfFault.TheVariants.{TrackMissing, Truncated}
use Rattle.smf_mend.specs.Lenient.{lenient_running, lenient_pair_at}

-- a pair, and then what more gives
abbrev pub lenient_pairs_by : (Option ℕ → List ℕ → Pairs) → Option ℕ → List ℕ
    → Result (Pair × List ℕ) PairFault → Pairs
lenient_pairs_by more running left (Ok found) =
    if is_end found.0.event then Ok (found.0 ∷ [])
    else with_pair found.0 (more (lenient_running running found.0.event) found.1)
lenient_pairs_by more running left (Err fault) = Err (fault, left)

-- the pairs from here on; each takes a byte, so there are fewer than so many
unfoldable pub lenient_pairs_from : ℕ → Option ℕ → List ℕ → Pairs
lenient_pairs_from zero running left = Err (pair_fault.NoPair, left)
lenient_pairs_from (suc n) running left =
    lenient_pairs_by (lenient_pairs_from n) running left (lenient_pair_at running left)

-- the pairs of a content
unfoldable pub lenient_pairs_of : List ℕ → Pairs
lenient_pairs_of content = lenient_pairs_from (suc (length content)) None content

-- the tracks of a file of so many bytes, from the chunk on that stands first here
abbrev pub lenient_tracks_by : (ℕ → ℕ → List ℕ → Result (List (List Pair)) SmfFault) → ℕ → ℕ → ℕ
    → List ℕ → Result (Chunk × List ℕ) ChunkFault → Result (List (List Pair)) SmfFault
lenient_tracks_by more size count track left (Err chunk_fault.Missing) = Err TrackMissing
lenient_tracks_by more size count track left (Err chunk_fault.Cut) =
    Err (Truncated (size - length left))
lenient_tracks_by more size count track left (Ok found) =
    if found.0.is_track
    then (track_by (length found.0.content) track (size - length left + 8)
    (lenient_pairs_of found.0.content) >>= λ ps. more count (suc track) found.1
    >>= λ tracks. Ok (ps ∷ tracks))
    else more (suc count) track found.1

unfoldable pub lenient_tracks_from : ℕ → ℕ → ℕ → ℕ → List ℕ → Result (List (List Pair)) SmfFault
lenient_tracks_from zero size count track left = Err TrackMissing
lenient_tracks_from (suc n) size zero track left = Ok []
lenient_tracks_from (suc n) size (suc count) track left =
    lenient_tracks_by (lenient_tracks_from n size) size count track left (chunk_at left)

-- what these bytes are leniently: a file, or a fault
unfoldable pub lenient_reading : List ℕ → Result MidiFile SmfFault
lenient_reading bytes =
    header_at bytes >>= λ head.
    lenient_tracks_from (suc (length head.1)) (length bytes) head.0.tracks 0 head.1 >>= λ tracks.
    Ok (record { format = head.0.format; division = head.0.division; tracks = tracks })
