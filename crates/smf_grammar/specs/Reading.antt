-- Representation: A file read item by item: what the definitions say of any bytes, as a function,
-- so that it can be computed.
use Rattle.std.specs.Prelude.{ℕ, zero, suc, ◌+◌, ◌-◌, List, [], ◌∷◌, length, Option, None, Result, Ok, Err, if◌then◌else◌}
use Rattle.smf_grammar.specs.Outcomes.{◌>>=◌}
use Rattle.smf_grammar.specs.Pairs.{Pair, is_end, running_after, pair_at}
use Rattle.smf_grammar.specs.Chunks.{header_at, Chunk, chunk_at}
use Rattle.smf_grammar.specs.Files.{MidiFile, fault_of_pair}
use Rattle.smf_grammar.specs.declared.fault.PairFault.{PairFault}
use Rattle.smf_grammar.specs.declared.fault.PairFault.TheVariants as pair_fault
use Rattle.smf_grammar.specs.declared.fault.ChunkFault.{ChunkFault}
use Rattle.smf_grammar.specs.declared.fault.ChunkFault.TheVariants as chunk_fault
use Rattle.smf_grammar.specs.declared.fault.SmfFault.{SmfFault}
use Rattle.smf_grammar.specs.declared.fault.SmfFault.TheVariants.{TrackMissing, Truncated}

-- the pairs up to the end of the track, or a fault and what is left there
abbrev pub Pairs : Type 0
Pairs = Result (List Pair) (PairFault × List ℕ)

abbrev pub with_pair : Pair → Pairs → Pairs
with_pair p (Ok ps) = Ok (p ∷ ps)
with_pair p (Err stop) = Err stop

-- a pair, and then what more gives
abbrev pub pairs_by : (Option ℕ → List ℕ → Pairs) → List ℕ → Result (Pair × List ℕ) PairFault
    → Pairs
pairs_by more left (Ok found) =
    if is_end found.0.event then Ok (found.0 ∷ [])
    else with_pair found.0 (more (running_after found.0.event) found.1)
pairs_by more left (Err fault) = Err (fault, left)

-- the pairs from here on; each takes a byte, so there are fewer than so many
unfoldable pub pairs_from : ℕ → Option ℕ → List ℕ → Pairs
pairs_from zero running left = Err (pair_fault.NoPair, left)
pairs_from (suc n) running left = pairs_by (pairs_from n) left (pair_at running left)

-- the pairs of a content
unfoldable pub pairs_of : List ℕ → Pairs
pairs_of content = pairs_from (suc (length content)) None content

-- the track of a content, which stands at a place
abbrev pub track_by : ℕ → ℕ → ℕ → Pairs → Result (List Pair) SmfFault
track_by size track place (Ok ps) = Ok ps
track_by size track place (Err stop) =
    Err (fault_of_pair stop.0 track (place + (size - length stop.1)))

-- the tracks of a file of so many bytes, from the chunk on that stands first here
abbrev pub tracks_by : (ℕ → ℕ → List ℕ → Result (List (List Pair)) SmfFault) → ℕ → ℕ → ℕ → List ℕ
    → Result (Chunk × List ℕ) ChunkFault → Result (List (List Pair)) SmfFault
tracks_by more size count track left (Err chunk_fault.Missing) = Err TrackMissing
tracks_by more size count track left (Err chunk_fault.Cut) = Err (Truncated (size - length left))
tracks_by more size count track left (Ok found) =
    if found.0.is_track
    then (track_by (length found.0.content) track (size - length left + 8)
    (pairs_of found.0.content) >>= λ ps. more count (suc track) found.1
    >>= λ tracks. Ok (ps ∷ tracks))
    else more (suc count) track found.1

unfoldable pub tracks_from : ℕ → ℕ → ℕ → ℕ → List ℕ → Result (List (List Pair)) SmfFault
tracks_from zero size count track left = Err TrackMissing
tracks_from (suc n) size zero track left = Ok []
tracks_from (suc n) size (suc count) track left =
    tracks_by (tracks_from n size) size count track left (chunk_at left)

-- what these bytes are: a file, or a fault
unfoldable pub file_reading : List ℕ → Result MidiFile SmfFault
file_reading bytes =
    header_at bytes >>= λ head.
    tracks_from (suc (length head.1)) (length bytes) head.0.tracks 0 head.1 >>= λ tracks.
    Ok (record { format = head.0.format; division = head.0.division; tracks = tracks })
