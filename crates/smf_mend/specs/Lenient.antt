-- Definition: The lenient grammar: files in which running status is kept over exclusive and meta
-- events, which cancel it (Standard MIDI Files 1.0, "Track Chunks"), and in which the data byte of
-- a program change may have bit 7 set. All else is as `Pairs` and `Files` of `smf_grammar` have it.
use Rattle.std.specs.Prelude.{◌≡◌, ◌<◌, ℕ, ◌+◌, ◌-◌, ◌%◌, Bool, true, false, List, [], ◌∷◌, ◌++◌, length, take, Option, Some, None, Result, Ok, Err, ◌⊎◌, nat_le, nat_lt, ◌&&◌, if◌then◌else◌}
use Rattle.midi_wire.specs.Messages.{is_status}
use Rattle.smf_grammar.specs.Pairs.{TrackEvent, Voice, Exclusive, Escape, Meta, Pair, is_end, quantity_at, pair_at}
use Rattle.smf_grammar.specs.Chunks.{Header, header_at, Chunk, chunk_at}
use Rattle.smf_grammar.specs.Files.{fault_of_pair, Item, Other, Track, tracks_in, MidiFile}
use Rattle.smf_grammar.specs.declared.fault.PairFault.{PairFault}
use Rattle.smf_grammar.specs.declared.fault.ChunkFault.{ChunkFault}
use Rattle.smf_grammar.specs.declared.fault.ChunkFault.TheVariants as chunk_fault
use Rattle.smf_grammar.specs.declared.fault.SmfFault.{SmfFault}
use Rattle.smf_grammar.specs.declared.fault.SmfFault.TheVariants.{TrackMissing, Truncated}

-- ---- pairs

-- the running status after an event: that of a message of a channel; after all other events, what
-- was running before
abbrev pub lenient_running : Option ℕ → TrackEvent → Option ℕ
lenient_running before (Voice status payload) = Some status
lenient_running before (Exclusive bytes) = before
lenient_running before (Escape bytes) = before
lenient_running before (Meta kind bytes) = before

-- what stands behind the delta time that stands first; nothing where none does
abbrev pub event_behind : Result (ℕ × List ℕ) PairFault → List ℕ
event_behind (Ok found) = found.1
event_behind (Err fault) = []

unfoldable pub event_left : List ℕ → List ℕ
event_left left = event_behind (quantity_at left)

-- C0 to CF
abbrev pub is_program_change : ℕ → Bool
is_program_change status = nat_le 192 status && nat_lt status 208

-- an event begins with the status of a program change, and bit 7 of its data byte is set
abbrev pub has_high_data : List ℕ → Bool
has_high_data [] = false
has_high_data (status ∷ []) = false
has_high_data (status ∷ b ∷ more) = is_program_change status && is_status b

-- an event with bit 7 of its second byte cleared
abbrev pub with_low_data : List ℕ → List ℕ
with_low_data [] = []
with_low_data (status ∷ []) = status ∷ []
with_low_data (status ∷ b ∷ more) = status ∷ b % 128 ∷ more

-- what is left of a content, with bit 7 cleared in the data byte of a program change whose delta
-- time and status stand first
unfoldable pub softened : List ℕ → List ℕ
softened left =
    if has_high_data (event_left left)
    then (take (length left - length (event_left left)) left ++ with_low_data (event_left left))
    else left

-- a delta time and an event
abbrev pub lenient_pair_at : Option ℕ → List ℕ → Result (Pair × List ℕ) PairFault
lenient_pair_at running left = pair_at running (softened left)

-- ---- tracks

-- these pairs stand one after another where so much is left and this is the running status; none of
-- them ends the track, and after them so much is left and that is the running status
abbrev pub AreLenientPairs : Option ℕ → List ℕ → List Pair → Option ℕ → List ℕ → Type 0
AreLenientPairs running left [] after rest = (running ≡ after) × (left ≡ rest)
AreLenientPairs running left (p ∷ ps) after rest =
    (more : List ℕ) × (lenient_pair_at running left ≡ Ok (p, more)) × (is_end p.event ≡ false)
    × AreLenientPairs (lenient_running running p.event) more ps after rest

-- where so much is left stand these pairs, the last of which is the first end of track, and then
-- bytes that no one reads
pub record LenientEndsIn (running : Option ℕ) (left : List ℕ) (pairs : List Pair) : Type 0 where
  pub before : List Pair
  pub last : Pair
  pub after : Option ℕ
  pub rest : List ℕ
  pub unread : List ℕ
  pub whole : pairs ≡ before ++ last ∷ []
  pub stand : AreLenientPairs running left before after rest
  pub next : lenient_pair_at after rest ≡ Ok (last, unread)
  pub ends : is_end last.event ≡ true

-- the content of a track is these pairs; no status is running at its start
abbrev pub IsLenientTrack : List ℕ → List Pair → Type 0
IsLenientTrack content pairs = LenientEndsIn None content pairs

-- where so much is left stand whole pairs, and the next is none for this fault, where that is left
pub record LenientStopsAt (running : Option ℕ) (left : List ℕ) (fault : PairFault)
    (rest : List ℕ) : Type 0 where
  pub before : List Pair
  pub after : Option ℕ
  pub stand : AreLenientPairs running left before after rest
  pub next : lenient_pair_at after rest ≡ Err fault

-- a content that stands at a place is no track, and this is the fault
pub record LenientTrackFault (content : List ℕ) (track place : ℕ) (x : SmfFault) : Type 0 where
  pub fault : PairFault
  pub rest : List ℕ
  pub stops : LenientStopsAt None content fault rest
  pub told : x ≡ fault_of_pair fault track (place + (length content - length rest))

-- ---- files

-- a chunk holds this
abbrev pub LenientHolds : Chunk → Item → Type 0
LenientHolds chunk Other = chunk.is_track ≡ false
LenientHolds chunk (Track pairs) = (chunk.is_track ≡ true) × IsLenientTrack chunk.content pairs

-- whole chunks with these items stand one after another, and then so much is left
abbrev pub AreLenientChunks : List ℕ → List Item → List ℕ → Type 0
AreLenientChunks left [] rest = left ≡ rest
AreLenientChunks left (item ∷ items) rest =
    (chunk : Chunk) × (more : List ℕ) × (chunk_at left ≡ Ok (chunk, more))
    × LenientHolds chunk item × AreLenientChunks more items rest

-- the bytes are this file: a header, chunks with as many tracks as the header says, and bytes that
-- no one reads
pub record IsLenientFile (bytes : List ℕ) (f : MidiFile) : Type 0 where
  pub header : Header
  pub after : List ℕ
  pub items : List Item
  pub unread : List ℕ
  pub headed : header_at bytes ≡ Ok (header, after)
  pub stand : AreLenientChunks after items unread
  pub counted : length (tracks_in items) ≡ header.tracks
  pub format : f.format ≡ header.format
  pub division : f.division ≡ header.division
  pub tracks : f.tracks ≡ tracks_in items

-- what is wrong with the next chunk of a file of so many bytes; so many tracks stand before it
abbrev pub IsLenientChunkFault : ℕ → ℕ → List ℕ → Result (Chunk × List ℕ) ChunkFault → SmfFault
    → Type 0
IsLenientChunkFault size track rest (Err chunk_fault.Missing) x = x ≡ TrackMissing
IsLenientChunkFault size track rest (Err chunk_fault.Cut) x = x ≡ Truncated (size - length rest)
IsLenientChunkFault size track rest (Ok found) x =
    (found.0.is_track ≡ true)
    × LenientTrackFault found.0.content track (size - length rest + 8) x

-- after the header and whole chunks, with fewer tracks than the header says, this is wrong with the
-- next chunk
pub record LenientChunksFault (bytes : List ℕ) (x : SmfFault) : Type 0 where
  pub header : Header
  pub after : List ℕ
  pub items : List Item
  pub rest : List ℕ
  pub headed : header_at bytes ≡ Ok (header, after)
  pub stand : AreLenientChunks after items rest
  pub fewer : length (tracks_in items) < header.tracks
  pub next : IsLenientChunkFault (length bytes) (length (tracks_in items)) rest (chunk_at rest) x

-- the fault of bytes that are no such file: that of the header, or of the first item after it that
-- is not whole
abbrev pub LenientFault : List ℕ → SmfFault → Type 0
LenientFault bytes x = (header_at bytes ≡ Err x) ⊎ LenientChunksFault bytes x
