-- Definition: The lines that come in, and what becomes of each.
use Rattle.std.specs.Prelude.{ℕ, ◌+◌, ◌==◌, ◌≤◌, nat_le, nat_lt, Bool, true, not, if◌then◌else◌, List, [], ◌∷◌, length, Option, Some, None}
use Rattle.seq_state.specs.declared.input.Command.{Command}
use Rattle.seq_state.specs.declared.input.Input.{Input}
use Rattle.script_text.specs.declared.live_lines.LiveLine.{LiveLine}
use Rattle.script_text.specs.declared.live_lines.LiveLine.TheVariants.{Nothing, Unknown, Says, Passes, Asks}
use Rattle.script_text.specs.declared.reading.ScriptInput.{ScriptInput}
use Rattle.script_text.specs.declared.reading.SkipReason.{SkipReason}
use Rattle.script_text.specs.declared.reading.SkipReason.TheVariants.{Unreadable, Late, TooLong}
use Rattle.script_text.specs.LiveLines.{live_line}
use Rattle.script_text.specs.Words.{lines}
use Rattle.session_live.specs.declared.heard.TheConstants.{MOST_LINE}

-- What becomes of a line: it is passed over; it is skipped, with the client that it names, if it
-- names one, and its number; a client's input is taken, with the number of its line; time passes;
-- or the listing is asked for.
pub data Item : Type 0 where
  PassedOver : Item
  Skipped : Option ℕ → ℕ → SkipReason → Item
  Said : ℕ → Input → Item
  Waited : ℕ → Item
  Asked : Item

-- What was heard so far: the last moment, how many lines each client has said, and how many lines
-- named none.
pub record Heard : Type 0 where
  pub latest : ℕ
  pub said : ℕ → ℕ
  pub loose : ℕ

abbrev pub nothing_heard : Heard
nothing_heard = record { latest = 0; said = λ c. 0; loose = 0 }

-- ---- a line

abbrev pub skipped_loose : Heard → SkipReason → Item
skipped_loose h why = Skipped None (h.loose + 1) why

abbrev pub skipped_by : Heard → ℕ → SkipReason → Item
skipped_by h client why = Skipped (Some client) (h.said client + 1) why

abbrev pub input_of : ℕ → ℕ → Command → Input
input_of client moment c = record { moment = moment; actor = client; command = c }

-- what becomes of what a line says, after what was heard
abbrev pub item_of : Heard → LiveLine → Item
item_of h Nothing = PassedOver
item_of h (Unknown None) = skipped_loose h Unreadable
item_of h (Unknown (Some client)) = skipped_by h client Unreadable
item_of h (Says client moment c) =
    if nat_lt moment h.latest then skipped_by h client Late
    else Said (h.said client + 1) (input_of client moment c)
item_of h (Passes moment) =
    if nat_lt moment h.latest then skipped_loose h Late else Waited moment
item_of h Asks = Asked

-- what becomes of a line, after what was heard
abbrev pub item : List (List ℕ) → Heard → List ℕ → Item
item names h line =
    if nat_le (length line) MOST_LINE then item_of h (live_line names line)
    else skipped_loose h TooLong

-- ---- a text

abbrev pub one_more : (ℕ → ℕ) → ℕ → ℕ → ℕ
one_more said client = λ c. if c == client then said c + 1 else said c

abbrev pub heard_after : Heard → Item → Heard
heard_after h PassedOver = h
heard_after h (Skipped None n why) = record h { loose = h.loose + 1 }
heard_after h (Skipped (Some client) n why) = record h { said = one_more h.said client }
heard_after h (Said n i) =
    record { latest = i.moment; said = one_more h.said i.actor; loose = h.loose }
heard_after h (Waited m) = record { latest = m; said = h.said; loose = h.loose + 1 }
heard_after h Asked = record h { loose = h.loose + 1 }

abbrev pub items_from : List (List ℕ) → Heard → List (List ℕ) → List Item
items_from names h [] = []
items_from names h (l ∷ ls) =
    item names h l ∷ items_from names (heard_after h (item names h l)) ls

abbrev pub heard_from : List (List ℕ) → Heard → List (List ℕ) → Heard
heard_from names h [] = h
heard_from names h (l ∷ ls) = heard_from names (heard_after h (item names h l)) ls

abbrev pub all_but_last : List (List ℕ) → List (List ℕ)
all_but_last [] = []
all_but_last (l ∷ []) = []
all_but_last (l ∷ m ∷ ls) = l ∷ all_but_last (m ∷ ls)

abbrev pub last_of : List (List ℕ) → List ℕ
last_of [] = []
last_of (l ∷ []) = l
last_of (l ∷ m ∷ ls) = last_of (m ∷ ls)

-- the lines of a text that have their line feed
abbrev pub whole_lines : List ℕ → List (List ℕ)
whole_lines text = all_but_last (lines text)

-- what stands behind the last line feed
abbrev pub open_line : List ℕ → List ℕ
open_line text = last_of (lines text)

abbrev pub items : List (List ℕ) → List ℕ → List Item
items names text = items_from names nothing_heard (whole_lines text)

-- ---- what items say

-- the inputs among items
abbrev pub inputs_in : List Item → List Input
inputs_in [] = []
inputs_in (Said n i ∷ more) = i ∷ inputs_in more
inputs_in (PassedOver ∷ more) = inputs_in more
inputs_in (Skipped c n why ∷ more) = inputs_in more
inputs_in (Waited m ∷ more) = inputs_in more
inputs_in (Asked ∷ more) = inputs_in more

-- the inputs among items, each with the number of its line
abbrev pub numbered_inputs : List Item → List ScriptInput
numbered_inputs [] = []
numbered_inputs (Said n i ∷ more) = record { line = n; input = i } ∷ numbered_inputs more
numbered_inputs (PassedOver ∷ more) = numbered_inputs more
numbered_inputs (Skipped c n why ∷ more) = numbered_inputs more
numbered_inputs (Waited m ∷ more) = numbered_inputs more
numbered_inputs (Asked ∷ more) = numbered_inputs more

-- this line is none that names the client and is skipped
abbrev pub is_unskipped : ℕ → Item → Bool
is_unskipped client (Skipped (Some c) n why) = not (c == client)
is_unskipped client (Skipped None n why) = true
is_unskipped client (Said n i) = true
is_unskipped client PassedOver = true
is_unskipped client (Waited m) = true
is_unskipped client Asked = true

-- moments never fall, from this one on, up to the end
abbrev pub IsTimedUpTo : ℕ → List Item → ℕ → Type 0
IsTimedUpTo now [] end = now ≤ end
IsTimedUpTo now (Said n i ∷ more) end = (now ≤ i.moment) × IsTimedUpTo i.moment more end
IsTimedUpTo now (Waited m ∷ more) end = (now ≤ m) × IsTimedUpTo m more end
IsTimedUpTo now (PassedOver ∷ more) end = IsTimedUpTo now more end
IsTimedUpTo now (Skipped c n why ∷ more) end = IsTimedUpTo now more end
IsTimedUpTo now (Asked ∷ more) end = IsTimedUpTo now more end
