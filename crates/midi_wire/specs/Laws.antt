-- Law: The laws of streams.
use Rattle.std.specs.Prelude.{◌≡◌, ◌≤◌, ◌+◌, ℕ, List, [], ◌∷◌, ◌++◌, Option, length, IsTrue, ◌↔◌}
use Rattle.std.specs.List.{concat}
use Rattle.midi_wire.specs.Messages.{IsMessage, AllMessages, is_message, most_data}
use Rattle.midi_wire.specs.Readings.{reading, rest}
use Rattle.midi_wire.specs.Writings.{wire_bytes, written_after, status_in_force, status_after_all}

-- the test of a message says just what a message is
abbrev pub TestsMessages : Type 0
TestsMessages = (m : List ℕ) → IsTrue (is_message m) ↔ IsMessage m

-- what is read is messages
abbrev pub ReadsMessages : Type 0
ReadsMessages = (s : List ℕ) → AllMessages (reading s)

-- a stream may be read in two goes
abbrev pub ReadsInTwo : Type 0
ReadsInTwo = (s t : List ℕ) → reading (s ++ t) ≡ reading s ++ reading (rest s ++ t)

-- and what still matters is found in two goes
abbrev pub RestsInTwo : Type 0
RestsInTwo = (s t : List ℕ) → rest (s ++ t) ≡ rest (rest s ++ t)

-- the messages of pieces that come one after another, where bytes from before still matter
abbrev pub reading_of_pieces : List ℕ → List (List ℕ) → List (List ℕ)
reading_of_pieces before [] = []
reading_of_pieces before (piece ∷ more) =
    reading (before ++ piece) ++ reading_of_pieces (rest (before ++ piece)) more

-- what still matters after the pieces
abbrev pub rest_of_pieces : List ℕ → List (List ℕ) → List ℕ
rest_of_pieces before [] = before
rest_of_pieces before (piece ∷ more) = rest_of_pieces (rest (before ++ piece)) more

-- a stream may be read in any pieces
abbrev pub ReadsInPieces : Type 0
ReadsInPieces = (pieces : List (List ℕ)) → reading_of_pieces [] pieces ≡ reading (concat pieces)

-- and what still matters is found in any pieces
abbrev pub RestsInPieces : Type 0
RestsInPieces = (pieces : List (List ℕ)) → rest_of_pieces [] pieces ≡ rest (concat pieces)

-- what still matters is a status and at most one byte more than the data of an exclusive message
abbrev pub RestsAreShort : Type 0
RestsAreShort = (s : List ℕ) → length (rest s) ≤ most_data + 2

-- what is written is read back
abbrev pub ReadsWritten : Type 0
ReadsWritten = (ms : List (List ℕ)) → AllMessages ms → reading (wire_bytes ms) ≡ ms

-- messages may be written in two goes
abbrev pub WritesInTwo : Type 0
WritesInTwo = (q : Option ℕ) (ms ns : List (List ℕ))
    → written_after q (ms ++ ns) ≡ written_after q ms ++ written_after (status_after_all q ms) ns

-- one more message at the end
abbrev pub WritesOneMore : Type 0
WritesOneMore = (ms : List (List ℕ)) (m : List ℕ)
    → wire_bytes (ms ++ m ∷ []) ≡ wire_bytes ms ++ written_after (status_in_force ms) (m ∷ [])
