-- Definition: All that a Standard MIDI File says, as text, with the place of each line in the file:
-- which byte begins what it tells, counted from 0.
use Rattle.std.specs.Prelude.{ℕ, suc, ◌+◌, ◌-◌, Bool, if◌then◌else◌, List, [], ◌∷◌, ◌++◌, length, Option, None, Result, Ok, Err, codes}
use Rattle.std.specs.Fmt.{decimal}
use Rattle.smf_grammar.specs.Pairs.{Pair, running_after, pair_at}
use Rattle.smf_grammar.specs.Chunks.{Chunk, chunk_at}
use Rattle.smf_grammar.specs.Files.{Item, Other, Track, MidiFile, IsFile}
use Rattle.smf_grammar.specs.declared.fault.ChunkFault.{ChunkFault}
use Rattle.smf_files.specs.Playing.{after_first}
use Rattle.tool_text.specs.Dump.{head_line}
use Rattle.smf_text.specs.AllTexts.{line_text}

-- a place in front of a line, where places are wanted
abbrev pub place_text : Bool → ℕ → List ℕ
place_text placed place = if placed then decimal place ++ 32 ∷ [] else []

-- ---- tracks

-- a line for each pair of a content that ends at this place of the file; this is the running
-- status, so much of the content is left, and so many ticks passed before. A pair stands where its
-- delta time begins
abbrev pub placed_pairs : Bool → ℕ → Option ℕ → List ℕ → ℕ → List Pair → List ℕ
placed_pairs placed end running left tick [] = []
placed_pairs placed end running left tick (p ∷ ps) =
    place_text placed (end - length left) ++ line_text (tick + p.delta) p.event
    ++ placed_pairs placed end (running_after p.event) (after_first (pair_at running left))
    (tick + p.delta) ps

-- a line with the number of a track, whose chunk stands at this place, above those of its pairs
abbrev pub placed_track : Bool → ℕ → ℕ → List ℕ → List Pair → List ℕ
placed_track placed place track content ps =
    place_text placed place ++ codes "track " ++ decimal track
    ++ 10 ∷ placed_pairs placed (place + 8 + length content) None content 0 ps

-- ---- files

-- the content of the chunk that stands first, and what is left behind it
abbrev pub chunk_content : Result (Chunk × List ℕ) ChunkFault → List ℕ
chunk_content (Ok found) = found.0.content
chunk_content (Err fault) = []

abbrev pub chunk_behind : Result (Chunk × List ℕ) ChunkFault → List ℕ
chunk_behind (Ok found) = found.1
chunk_behind (Err fault) = []

-- the lines of all tracks among these chunks of a file of so many bytes; the first has this number,
-- and so much of the file is left
abbrev pub placed_items : Bool → ℕ → ℕ → List ℕ → List Item → List ℕ
placed_items placed size track left [] = []
placed_items placed size track left (Other ∷ items) =
    placed_items placed size track (chunk_behind (chunk_at left)) items
placed_items placed size track left (Track ps ∷ items) =
    placed_track placed (size - length left) track (chunk_content (chunk_at left)) ps
    ++ placed_items placed size (suc track) (chunk_behind (chunk_at left)) items

-- all that a file says
abbrev pub placed_text : {f : MidiFile} → Bool → (bytes : List ℕ) → IsFile bytes f → List ℕ
placed_text {f} placed bytes file =
    place_text placed 0 ++ head_line f
    ++ placed_items placed (length bytes) 0 file.after file.items
