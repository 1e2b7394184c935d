-- Definition: What is forgiven of a file that the lenient grammar takes: at which places, counted
-- in bytes from 0, and so how often and where first.
use Rattle.std.specs.Prelude.{ℕ, suc, ◌+◌, ◌-◌, Bool, false, List, [], ◌∷◌, ◌++◌, length, Option, Some, None, is_none, Result, Ok, Err, nat_lt, ◌&&◌, if◌then◌else◌}
use Rattle.smf_grammar.specs.Pairs.{Pair, running_after}
use Rattle.smf_grammar.specs.Chunks.{Chunk, chunk_at}
use Rattle.smf_grammar.specs.Files.{Item, Other, Track, MidiFile}
use Rattle.smf_grammar.specs.declared.fault.PairFault.{PairFault}
use Rattle.smf_grammar.specs.declared.fault.ChunkFault.{ChunkFault}
use Rattle.smf_mend.specs.declared.forgiven.Forgiven.{Forgiven}
use Rattle.smf_mend.specs.Lenient.{lenient_running, event_left, has_high_data, lenient_pair_at, IsLenientFile}

-- ---- of a pair

-- whether something is forgiven of the pair that stands first where this is the running status of
-- the strict grammar and so much is left
abbrev pub Forgives : Type 0
Forgives = Option ℕ → List ℕ → Bool

-- an event begins with a data byte
abbrev pub begins_with_data : List ℕ → Bool
begins_with_data [] = false
begins_with_data (b ∷ more) = nat_lt b 128

-- it leaves out its status where none is running
abbrev pub forgives_status : Forgives
forgives_status strict left = is_none strict && begins_with_data (event_left left)

-- it is a program change whose data byte has bit 7 set
abbrev pub forgives_data : Forgives
forgives_data strict left = has_high_data (event_left left)

-- ---- of a track

-- what is left behind the pair that stands first
abbrev pub left_behind : Result (Pair × List ℕ) PairFault → List ℕ
left_behind (Ok found) = found.1
left_behind (Err fault) = []

abbrev pub place_if : Bool → ℕ → List ℕ
place_if forgiven place = if forgiven then (place ∷ []) else []

-- at which places something is forgiven of these pairs of a content, which has so many bytes and
-- stands at this place; the running status of the strict grammar, that of the lenient one, and what
-- is left
abbrev pub pair_places : Forgives → ℕ → ℕ → Option ℕ → Option ℕ → List ℕ → List Pair → List ℕ
pair_places forgives place size strict running left [] = []
pair_places forgives place size strict running left (p ∷ ps) =
    place_if (forgives strict left) (place + (size - length left))
    ++ pair_places forgives place size (running_after p.event) (lenient_running running p.event)
    (left_behind (lenient_pair_at running left)) ps

abbrev pub track_places : Forgives → ℕ → List ℕ → List Pair → List ℕ
track_places forgives place content pairs =
    pair_places forgives place (length content) None None content pairs

-- ---- of a file

-- the chunk that stands first, and what is left behind it
abbrev pub chunk_content : Result (Chunk × List ℕ) ChunkFault → List ℕ
chunk_content (Ok found) = found.0.content
chunk_content (Err fault) = []

abbrev pub chunk_behind : Result (Chunk × List ℕ) ChunkFault → List ℕ
chunk_behind (Ok found) = found.1
chunk_behind (Err fault) = []

-- at which places something is forgiven of chunks of a file of so many bytes
abbrev pub chunk_places : Forgives → ℕ → List ℕ → List Item → List ℕ
chunk_places forgives size left [] = []
chunk_places forgives size left (Other ∷ items) =
    chunk_places forgives size (chunk_behind (chunk_at left)) items
chunk_places forgives size left (Track pairs ∷ items) =
    track_places forgives (size - length left + 8) (chunk_content (chunk_at left)) pairs
    ++ chunk_places forgives size (chunk_behind (chunk_at left)) items

-- and of the whole file
abbrev pub file_places : {f : MidiFile} → Forgives → (bytes : List ℕ) → IsLenientFile bytes f
    → List ℕ
file_places forgives bytes file = chunk_places forgives (length bytes) file.after file.items

-- how often, and where first
abbrev pub forgiven_at : List ℕ → Option Forgiven
forgiven_at [] = None
forgiven_at (place ∷ places) = Some (record { times = suc (length places); first = place })
