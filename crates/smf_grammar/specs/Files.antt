-- Definition: Files: which bytes are one, and what is wrong with all others (Standard MIDI Files
-- 1.0).
use Rattle.std.specs.Prelude.{◌≡◌, ◌<◌, ℕ, ◌+◌, ◌-◌, true, false, List, [], ◌∷◌, ◌++◌, length, Option, None, Result, Ok, Err, ◌⊎◌}
use Rattle.smf_grammar.specs.Pairs.{Pair, is_end, running_after, pair_at}
use Rattle.smf_grammar.specs.Chunks.{Header, header_at, Chunk, chunk_at}
use Rattle.smf_grammar.specs.declared.fault.PairFault.{PairFault}
use Rattle.smf_grammar.specs.declared.fault.PairFault.TheVariants as pair_fault
use Rattle.smf_grammar.specs.declared.fault.ChunkFault.{ChunkFault}
use Rattle.smf_grammar.specs.declared.fault.ChunkFault.TheVariants as chunk_fault
use Rattle.smf_grammar.specs.declared.fault.SmfFault.{SmfFault}
use Rattle.smf_grammar.specs.declared.fault.SmfFault.TheVariants.{TrackMissing, Truncated, LongQuantity, NoStatus, BadStatus, BadData, NoEndOfTrack}

-- ---- tracks

-- these pairs stand one after another where so much is left and this is the running status; none of
-- them ends the track, and after them so much is left and that is the running status
abbrev pub ArePairs : Option ℕ → List ℕ → List Pair → Option ℕ → List ℕ → Type 0
ArePairs running left [] after rest = (running ≡ after) × (left ≡ rest)
ArePairs running left (p ∷ ps) after rest =
    (more : List ℕ) × (pair_at running left ≡ Ok (p, more)) × (is_end p.event ≡ false)
    × ArePairs (running_after p.event) more ps after rest

-- where so much is left stand these pairs, the last of which is the first end of track, and then
-- bytes that no one reads
pub record EndsIn (running : Option ℕ) (left : List ℕ) (pairs : List Pair) : Type 0 where
  pub before : List Pair
  pub last : Pair
  pub after : Option ℕ
  pub rest : List ℕ
  pub unread : List ℕ
  pub whole : pairs ≡ before ++ last ∷ []
  pub stand : ArePairs running left before after rest
  pub next : pair_at after rest ≡ Ok (last, unread)
  pub ends : is_end last.event ≡ true

-- the content of a track is these pairs; no status is running at its start
abbrev pub IsTrack : List ℕ → List Pair → Type 0
IsTrack content pairs = EndsIn None content pairs

-- where so much is left stand whole pairs, and the next is none for this fault, where that is left
pub record StopsAt (running : Option ℕ) (left : List ℕ) (fault : PairFault)
    (rest : List ℕ) : Type 0 where
  pub before : List Pair
  pub after : Option ℕ
  pub stand : ArePairs running left before after rest
  pub next : pair_at after rest ≡ Err fault

-- a fault of a pair in a file, by the number of its track and the place of its delta time
abbrev pub fault_of_pair : PairFault → ℕ → ℕ → SmfFault
fault_of_pair pair_fault.NoPair track place = NoEndOfTrack track
fault_of_pair pair_fault.Truncated track place = Truncated place
fault_of_pair pair_fault.LongQuantity track place = LongQuantity place
fault_of_pair pair_fault.NoStatus track place = NoStatus place
fault_of_pair pair_fault.BadStatus track place = BadStatus place
fault_of_pair pair_fault.BadData track place = BadData place

-- a content that stands at a place is no track, and this is the fault
pub record TrackFault (content : List ℕ) (track place : ℕ) (x : SmfFault) : Type 0 where
  pub fault : PairFault
  pub rest : List ℕ
  pub stops : StopsAt None content fault rest
  pub told : x ≡ fault_of_pair fault track (place + (length content - length rest))

-- ---- files

-- what a chunk holds
pub data Item : Type 0 where
  -- no track: it is passed over
  Other : Item
  Track : List Pair → Item

-- the tracks among what chunks hold
abbrev pub tracks_in : List Item → List (List Pair)
tracks_in [] = []
tracks_in (Other ∷ items) = tracks_in items
tracks_in (Track pairs ∷ items) = pairs ∷ tracks_in items

-- a chunk holds this
abbrev pub Holds : Chunk → Item → Type 0
Holds chunk Other = chunk.is_track ≡ false
Holds chunk (Track pairs) = (chunk.is_track ≡ true) × IsTrack chunk.content pairs

-- whole chunks with these items stand one after another, and then so much is left
abbrev pub AreChunks : List ℕ → List Item → List ℕ → Type 0
AreChunks left [] rest = left ≡ rest
AreChunks left (item ∷ items) rest =
    (chunk : Chunk) × (more : List ℕ) × (chunk_at left ≡ Ok (chunk, more)) × Holds chunk item
    × AreChunks more items rest

-- a file: its format, its division, and the pairs of each of its tracks
pub record MidiFile : Type 0 where
  pub format : ℕ
  pub division : ℕ
  pub tracks : List (List Pair)

-- the bytes are this file: a header, chunks with as many tracks as the header says, and bytes that
-- no one reads
pub record IsFile (bytes : List ℕ) (f : MidiFile) : Type 0 where
  pub header : Header
  pub after : List ℕ
  pub items : List Item
  pub unread : List ℕ
  pub headed : header_at bytes ≡ Ok (header, after)
  pub stand : AreChunks after items unread
  pub counted : length (tracks_in items) ≡ header.tracks
  pub format : f.format ≡ header.format
  pub division : f.division ≡ header.division
  pub tracks : f.tracks ≡ tracks_in items

-- what is wrong with the next chunk of a file of so many bytes; so many tracks stand before it
abbrev pub IsChunkFault : ℕ → ℕ → List ℕ → Result (Chunk × List ℕ) ChunkFault → SmfFault → Type 0
IsChunkFault size track rest (Err chunk_fault.Missing) x = x ≡ TrackMissing
IsChunkFault size track rest (Err chunk_fault.Cut) x = x ≡ Truncated (size - length rest)
IsChunkFault size track rest (Ok found) x =
    (found.0.is_track ≡ true) × TrackFault found.0.content track (size - length rest + 8) x

-- after the header and whole chunks, with fewer tracks than the header says, this is wrong with the
-- next chunk
pub record ChunksFault (bytes : List ℕ) (x : SmfFault) : Type 0 where
  pub header : Header
  pub after : List ℕ
  pub items : List Item
  pub rest : List ℕ
  pub headed : header_at bytes ≡ Ok (header, after)
  pub stand : AreChunks after items rest
  pub fewer : length (tracks_in items) < header.tracks
  pub next : IsChunkFault (length bytes) (length (tracks_in items)) rest (chunk_at rest) x

-- the fault of bytes that are no file: that of the header, or of the first item after it that is
-- not whole
abbrev pub Fault : List ℕ → SmfFault → Type 0
Fault bytes x = (header_at bytes ≡ Err x) ⊎ ChunksFault bytes x
