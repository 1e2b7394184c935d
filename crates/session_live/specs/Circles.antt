-- Definition: What the owner of a circle is answered.
use Rattle.std.specs.Prelude.{ℕ, ◌==◌, Bool, true, false, ◌&&◌, if◌then◌else◌, List, [], ◌∷◌, map, Option, Some, None}
use Rattle.std.specs.List.{flat_map}
use Rattle.seq_state.specs.declared.log.LogEntry.TheVariants.{Delivered, Replied}
use Rattle.seq_state.specs.Circle.{Sight, sight, aims_outside}
use Rattle.script_text.specs.declared.reading.SkipReason.{SkipReason}
use Rattle.script_text.specs.Words.{words, without_return}
use Rattle.session_live.specs.Lines.{Item, PassedOver, Skipped, Said, Waited, Asked, Heard, item, heard_after}
use Rattle.session_live.specs.Answers.{Part, Comes, Answers, Skips, Lists, Next}

-- A line of the owner: what came to it, the reply to its line of this number (without its outcome
-- where that lies outside), or its line of this number skipped.
pub data OwnLine : Type 0 where
  Gets : Sight → OwnLine
  Replies : ℕ → Sight → OwnLine
  Missed : ℕ → SkipReason → OwnLine

abbrev pub own_skip : ℕ → Option ℕ → ℕ → SkipReason → List OwnLine
own_skip owner None n why = []
own_skip owner (Some client) n why = if client == owner then Missed n why ∷ [] else []

abbrev pub own : ℕ → (ℕ → Bool) → Part → List OwnLine
own owner member (Comes d) = map Gets (sight owner member [] (Delivered d))
own owner member (Answers n i reply) =
    map (Replies n) (sight owner member (i ∷ []) (Replied 0 i.moment i.actor reply))
own owner member (Skips client n why) = own_skip owner client n why
own owner member (Lists s) = []
own owner member (Next m) = []

abbrev pub own_lines : ℕ → (ℕ → Bool) → List Part → List OwnLine
own_lines owner member parts = flat_map (own owner member) parts

-- the numbers of the owner's lines that say Connect or Disconnect at a target outside
abbrev pub outside_numbers : ℕ → (ℕ → Bool) → List Item → List ℕ
outside_numbers owner member [] = []
outside_numbers owner member (Said n i ∷ xs) =
    if (i.actor == owner) && aims_outside owner member i.command
    then n ∷ outside_numbers owner member xs else outside_numbers owner member xs
outside_numbers owner member (PassedOver ∷ xs) = outside_numbers owner member xs
outside_numbers owner member (Skipped c n why ∷ xs) = outside_numbers owner member xs
outside_numbers owner member (Waited m ∷ xs) = outside_numbers owner member xs
outside_numbers owner member (Asked ∷ xs) = outside_numbers owner member xs

-- ---- the circle's lines alone

abbrev pub alone_skip : (ℕ → Bool) → Option ℕ → Item → Item
alone_skip member None x = x
alone_skip member (Some client) x = if member client then x else PassedOver

-- what a stranger says is but the time that passes
abbrev pub alone : (ℕ → Bool) → Item → Item
alone member (Said n i) = if member i.actor then Said n i else Waited i.moment
alone member (Skipped client n why) = alone_skip member client (Skipped client n why)
alone member PassedOver = PassedOver
alone member (Waited m) = Waited m
alone member Asked = Asked

abbrev pub first_word : List (List ℕ) → List ℕ
first_word [] = []
first_word (w ∷ ws) = w

-- in place of a line of a stranger that is taken stands its moment; each other line of a stranger
-- is empty
abbrev pub line_alone : (ℕ → Bool) → Item → List ℕ → List ℕ
line_alone member (Said n i) line =
    if member i.actor then line else first_word (words (without_return line))
line_alone member (Skipped (Some client) n why) line = if member client then line else []
line_alone member (Skipped None n why) line = line
line_alone member PassedOver line = line
line_alone member (Waited m) line = line
line_alone member Asked line = line

abbrev pub lines_alone : (ℕ → Bool) → List (List ℕ) → Heard → List (List ℕ) → List (List ℕ)
lines_alone member names h [] = []
lines_alone member names h (l ∷ ls) =
    line_alone member (item names h l) l
    ∷ lines_alone member names (heard_after h (item names h l)) ls

-- ---- what of the lines is the circle's

abbrev pub circle_skip : (ℕ → Bool) → Option ℕ → Item → List Item
circle_skip member None x = []
circle_skip member (Some client) x = if member client then x ∷ [] else []

-- its members' lines, and each moment, whoever brings it
abbrev pub circle_item : (ℕ → Bool) → Item → List Item
circle_item member (Said n i) = (if member i.actor then Said n i else Waited i.moment) ∷ []
circle_item member (Skipped client n why) = circle_skip member client (Skipped client n why)
circle_item member PassedOver = []
circle_item member (Waited m) = Waited m ∷ []
circle_item member Asked = []

abbrev pub circle_items : (ℕ → Bool) → List Item → List Item
circle_items member xs = flat_map (circle_item member) xs

-- the first of these lets time pass to its moment
abbrev pub begins_in_time : List Item → Bool
begins_in_time [] = false
begins_in_time (Said n i ∷ xs) = true
begins_in_time (Waited m ∷ xs) = true
begins_in_time (PassedOver ∷ xs) = false
begins_in_time (Skipped c n why ∷ xs) = false
begins_in_time (Asked ∷ xs) = false

-- the same without each moment that an input or another moment follows at once
abbrev pub with_last_moments : List Item → List Item
with_last_moments [] = []
with_last_moments (Waited m ∷ xs) =
    if begins_in_time xs then with_last_moments xs else Waited m ∷ with_last_moments xs
with_last_moments (Said n i ∷ xs) = Said n i ∷ with_last_moments xs
with_last_moments (PassedOver ∷ xs) = PassedOver ∷ with_last_moments xs
with_last_moments (Skipped c n why ∷ xs) = Skipped c n why ∷ with_last_moments xs
with_last_moments (Asked ∷ xs) = Asked ∷ with_last_moments xs

-- what of the lines the circle's owner can tell
abbrev pub circle_lines : (ℕ → Bool) → List Item → List Item
circle_lines member xs = with_last_moments (circle_items member xs)
