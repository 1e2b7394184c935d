-- Representation: The bytes of a strict file that is written as it is read, as the code has them.
use Rattle.std.specs.Prelude.{◌≡◌, ◌≤◌, ◌<◌, ℕ, Bool, true, false, List, [], ◌∷◌, ◌++◌, length, None, codes}
use Rattle.smf_grammar.specs.Chunks.{most_bytes}
use Rattle.smf_grammar.specs.Pairs.{Pair}
use Rattle.smf_grammar.specs.Texts.{chunk_text}
use Rattle.smf_grammar.specs.Written.{pairs_text, tracks_text}
use Rattle.smf_mend.specs.declared.forgiven.Tally.{Tally}
use Rattle.smf_mend.specs.declared.growth.Growth.{Growth}
use Rattle.smf_mend.specs.Tallies.{IsTrackTaken, AreTracksTaken}

-- the type of a track's chunk, and a length that is still to be written
abbrev pub open_chunk : List ℕ
open_chunk = codes "MTrk" ++ 0 ∷ 0 ∷ 0 ∷ 0 ∷ []

-- the bytes are this text, or it has more bytes than a file has at most
abbrev pub IsGrownBy : Bool → List ℕ → List ℕ → Type 0
IsGrownBy false bytes text = (bytes ≡ text) × (length text ≤ most_bytes)
IsGrownBy true bytes text = most_bytes < length text

abbrev pub IsGrown : Growth → List ℕ → Type 0
IsGrown growth text = IsGrownBy growth.is_outgrown growth.bytes.items text

-- whatever was written, this came behind it
abbrev pub GrewBy : Growth → Growth → List ℕ → Type 0
GrewBy old new more = (text : List ℕ) → IsGrown old text → IsGrown new (text ++ more)

-- no bytes went, unless there are too many
pub record IsLonger (old new : Growth) : Type 0 where
  pub still : new.is_outgrown ≡ false → old.is_outgrown ≡ false
  pub longer : new.is_outgrown ≡ false → length old.bytes.items ≤ length new.bytes.items
  pub small : length new.bytes.items ≤ most_bytes

-- a content that stands at a place is a track, which was taken and written
pub record IsTrackWritten (content : List ℕ) (place : ℕ) (old new : Tally)
    (before after : Growth) : Type 0 where
  pub pairs : List Pair
  pub taken : IsTrackTaken content place pairs old new
  pub grown : GrewBy before after (chunk_text (codes "MTrk") (pairs_text None pairs))
  pub small : length after.bytes.items ≤ most_bytes

-- so are the tracks of a file
pub record AreTracksWritten (size : ℕ) (after : List ℕ) (count : ℕ) (old new : Tally)
    (before now : Growth) : Type 0 where
  pub tracks : List (List Pair)
  pub taken : AreTracksTaken size after count tracks old new
  pub grown : GrewBy before now (tracks_text tracks)
