-- The worked file, with places.
use Rattle.std.proofs.Common.{◌≡◌, ℕ, true, false, List, [], ◌∷◌, ◌∙◌, take, drop, refl}
use Rattle.std.specs.Prelude.{None, Ok, slice_index_or}
use Rattle.std.specs.Fmt.{digits}
use Rattle.midi_wire.specs.Messages.{begins}
use Rattle.smf_grammar.specs.Quantities.{quantity}
use Rattle.smf_grammar.specs.Pairs.{Pair, group_at, voice_at, sized_at, meta_at, event_at, pair_at}
use Rattle.smf_grammar.specs.Chunks.{Header, header_of, header_at, chunk_at}
use Rattle.smf_grammar.specs.Files.{IsTrack, Item, Other, Track, AreChunks, IsFile}
use Rattle.smf_grammar.specs.Reading.{pairs_from}
use Rattle.smf_grammar.proofs.Whole.{pairs-end}
use Rattle.smf_text.specs.AllTexts.{meta_words}
use Rattle.smf_text.specs.Rows.{example, example_file, PlacedFile}
use Rattle.smf_text.proofs.Placed.{one-placed-text}

abbrev header : Header
header = record { format = 1; tracks = 2; division = 480 }

-- what is left from the first track on, from the other chunk on, from the second track on, and after that
abbrev from_first : List ℕ
from_first = drop 14 example

abbrev from_other : List ℕ
from_other = drop 64 example

abbrev from_second : List ℕ
from_second = drop 74 example

abbrev unread : List ℕ
unread = drop 114 example

abbrev first_content : List ℕ
first_content = take 42 (drop 22 example)

abbrev second_content : List ℕ
second_content = take 32 (drop 82 example)

abbrev first_pairs : List Pair
first_pairs = slice_index_or example_file.tracks 0 []

abbrev second_pairs : List Pair
second_pairs = slice_index_or example_file.tracks 1 []

abbrev items : List Item
items = Track first_pairs ∷ Other ∷ Track second_pairs ∷ []

headed : header_at example ≡ Ok (header, from_first)
unfolding header_of header_at
headed = refl

first-track : IsTrack first_content first_pairs
unfolding quantity group_at voice_at sized_at meta_at event_at pair_at pairs_from begins
first-track = pairs-end 43 None first_content first_pairs refl

second-track : IsTrack second_content second_pairs
unfolding quantity group_at voice_at sized_at meta_at event_at pair_at pairs_from begins
second-track = pairs-end 33 None second_content second_pairs refl

stand : AreChunks from_first items unread
unfolding chunk_at
stand =
    let second : AreChunks from_second (Track second_pairs ∷ []) unread = (record { is_track = true; content = second_content }, unread, refl, (refl, second-track), refl) in
    let other : AreChunks from_other (Other ∷ Track second_pairs ∷ []) unread = (record { is_track = false; content = take 2 (drop 72 example) }, from_second, refl, refl, second) in
    (record { is_track = true; content = first_content }, from_other, refl, (refl, first-track), other)

abbrev file : IsFile example example_file
file = record { header = header; after = from_first; items = items; unread = unread; headed = headed; stand = stand; counted = refl; format = refl; division = refl; tracks = refl }

pub placed-file : PlacedFile
unfolding meta_words digits quantity group_at voice_at sized_at meta_at event_at pair_at chunk_at begins
placed-file = record { text = λ other. one-placed-text true example example_file other file ∙ refl }
