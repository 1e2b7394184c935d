-- Representation: How a sequencer stands between two lines, and between two pieces of a text.
use Rattle.std.specs.Prelude.{◌≡◌, ◌<◌, ◌+◌, ◌-◌, ◌^◌, ℕ, nat_lt, Bool, false, List, [], ◌∷◌, ◌++◌, take, drop, length, slice_index_or, Option, Some, None}
use Rattle.node_table.specs.Numbers.{first_client, most_clients}
use Rattle.seq_state.specs.State.{State, start}
use Rattle.seq_engine.specs.Seen.{Seen}
use Rattle.seq_session.specs.Sessions.{FolderContents}
use Rattle.script_text.specs.Words.{lines}
use Rattle.session_live.specs.declared.heard.TheConstants.{MOST_LINE}
use Rattle.session_live.specs.Answers.{state_from}
use Rattle.session_live.specs.Lines.{Heard, nothing_heard, one_more, heard_from, items_from, whole_lines, open_line}

-- how many bytes a text of lines has at most
abbrev pub most_text : ℕ
most_text = 2 ^ 64 - 1

-- a text's first line ends before this place, at which its line feed stands
pub record IsLineEnd (text : List ℕ) (place : ℕ) : Type 0 where
  pub within : place < length text
  pub line : lines (take place text) ≡ take place text ∷ []
  pub more : lines text ≡ take place text ∷ lines (drop (place + 1) text)
  pub whole : text ≡ take place text ++ 10 ∷ drop (place + 1) text

-- the counts of lines are those of what was heard
pub record AreCounts (said : List ℕ) (loose : ℕ) (h : Heard) : Type 0 where
  pub rows : length said ≡ most_clients
  pub loose_is : loose ≡ h.loose
  pub said_is : (client seat : ℕ) → client ≡ first_client + seat → seat < most_clients
      → slice_index_or said seat 0 ≡ h.said client

-- the number of the next line that names this client, or none
abbrev pub next_number : Heard → Option ℕ → ℕ
next_number h None = h.loose + 1
next_number h (Some client) = h.said client + 1

-- with one more line that names this client, or none
abbrev pub counted : Heard → Option ℕ → Heard
counted h None = record h { loose = h.loose + 1 }
counted h (Some client) = record h { said = one_more h.said client }

-- an engine and the counts of lines stand as after what was heard
pub record IsHeard (folder : FolderContents) (engine : Seen) (said : List ℕ) (loose : ℕ)
    (h : Heard) (s : State) : Type 0 where
  pub files : engine.files ≡ folder.files
  pub state : engine.state ≡ s
  pub latest : engine.moment ≡ h.latest
  pub counts : AreCounts said loose h

-- what is kept of a line without its line feed: nothing but that it is too long, where it is
pub record IsOpenLine (bytes : List ℕ) (is_too_long : Bool) (line : List ℕ) : Type 0 where
  pub too_long : is_too_long ≡ nat_lt MOST_LINE (length line)
  pub kept : is_too_long ≡ false → bytes ≡ line

-- An engine, the counts of lines and what is kept stand as after a text.
pub record IsFed (folder : FolderContents) (engine : Seen) (said : List ℕ) (loose : ℕ)
    (bytes : List ℕ) (is_too_long : Bool) (text : List ℕ) : Type 0 where
  pub heard : IsHeard folder engine said loose
      (heard_from folder.names nothing_heard (whole_lines text))
      (state_from folder.files start (items_from folder.names nothing_heard (whole_lines text)))
  pub line : IsOpenLine bytes is_too_long (open_line text)
