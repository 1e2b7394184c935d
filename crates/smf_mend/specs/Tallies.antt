-- Representation: What was forgiven so far, as the code has it.
use Rattle.std.specs.Prelude.{◌≡◌, ◌≤◌, ◌<◌, ℕ, ◌+◌, List, [], ◌∷◌, length, Option, Some, None}
use Rattle.smf_grammar.specs.Pairs.{TrackEvent, Voice, Exclusive, Escape, Meta, Pair}
use Rattle.smf_grammar.specs.Chunks.{chunk_at}
use Rattle.smf_grammar.specs.Files.{Item, tracks_in}
use Rattle.smf_grammar.specs.Written.{track_refusal, tracks_refusal}
use Rattle.smf_grammar.specs.declared.fault.SmfFault.{SmfFault}
use Rattle.smf_mend.specs.declared.forgiven.Forgiven.{Forgiven}
use Rattle.smf_mend.specs.declared.forgiven.Tally.{Tally}
use Rattle.smf_mend.specs.Lenient.{IsLenientTrack, AreLenientChunks, IsLenientChunkFault}
use Rattle.smf_mend.specs.Forgiving.{forgives_status, forgives_data, track_places, chunk_places}

-- how many bytes an event has behind its status, or behind its type and how many they are
abbrev pub payload_size : TrackEvent → ℕ
payload_size (Voice status payload) = 0
payload_size (Exclusive bytes) = length bytes
payload_size (Escape bytes) = length bytes
payload_size (Meta kind bytes) = length bytes

-- how many times something was forgiven
abbrev pub times_of : Option Forgiven → ℕ
times_of None = 0
times_of (Some forgiven) = forgiven.times

-- one more place
abbrev pub with_place : Option Forgiven → ℕ → Option Forgiven
with_place None place = Some (record { times = 1; first = place })
with_place (Some before) place = Some (record { times = before.times + 1; first = before.first })

-- places one after another
abbrev pub with_places : Option Forgiven → List ℕ → Option Forgiven
with_places forgiven [] = forgiven
with_places forgiven (place ∷ places) = with_places (with_place forgiven place) places

-- what was forgiven of neither kind more often
pub record IsBelow (tally : Tally) (most : ℕ) : Type 0 where
  pub status : times_of tally.running_status ≤ most
  pub data_bytes : times_of tally.high_data ≤ most

-- a content that stands at a place is this track, which can be written, and what is forgiven of it
-- joined the tally
pub record IsTrackTaken (content : List ℕ) (place : ℕ) (pairs : List Pair)
    (old new : Tally) : Type 0 where
  pub track : IsLenientTrack content pairs
  pub can : (number : ℕ) → track_refusal number 0 pairs ≡ None
  pub status : new.running_status
      ≡ with_places old.running_status (track_places forgives_status place content pairs)
  pub data_bytes : new.high_data
      ≡ with_places old.high_data (track_places forgives_data place content pairs)

-- of a file of so many bytes, chunks with so many tracks stand after its header; these are the
-- tracks, which can be written, and what is forgiven of them joined the tally
pub record AreTracksTaken (size : ℕ) (after : List ℕ) (count : ℕ) (tracks : List (List Pair))
    (old new : Tally) : Type 0 where
  pub items : List Item
  pub unread : List ℕ
  pub stand : AreLenientChunks after items unread
  pub counted : length tracks ≡ count
  pub are : tracks ≡ tracks_in items
  pub can : (number : ℕ) → tracks_refusal number tracks ≡ None
  pub status : new.running_status
      ≡ with_places old.running_status (chunk_places forgives_status size after items)
  pub data_bytes : new.high_data
      ≡ with_places old.high_data (chunk_places forgives_data size after items)

-- whole chunks with fewer tracks stand there, and this is wrong with the next
pub record IsTracksFault (size : ℕ) (after : List ℕ) (count : ℕ) (x : SmfFault) : Type 0 where
  pub items : List Item
  pub rest : List ℕ
  pub stand : AreLenientChunks after items rest
  pub fewer : length (tracks_in items) < count
  pub next : IsLenientChunkFault size (length (tracks_in items)) rest (chunk_at rest) x
