-- Definition: What the lines of a log say.
use Rattle.std.specs.Prelude.{ℕ, Bool, ◌&&◌, ◌||◌, if◌then◌else◌, List, [], ◌∷◌, Option, Some, None, codes}
use Rattle.std.specs.Option.{option_map, unwrap_or}
use Rattle.std.specs.Str.{bytes_eq}
use Rattle.log_forms.specs.Lines.{words, is_number, is_plain, bytes_of}

-- ---- the entries; their numbers are texts, as the line has them

-- a message that came to a port
pub record Arrival : Type 0 where
  pub moment : List ℕ
  pub port : List ℕ
  pub message : List ℕ

-- how a command ended
pub data Outcome : Type 0 where
  Done : Outcome
  Count : List ℕ → Outcome
  Queue : List ℕ → List ℕ → List ℕ → Outcome
  Pools : List ℕ → List ℕ → List ℕ → Outcome
  Refused : List ℕ → List ℕ → Outcome

pub data Entry : Type 0 where
  Skip : List ℕ → List ℕ → Entry
  Delivery : Arrival → Entry
  Received : Arrival → Entry
  Reply : List ℕ → List ℕ → Outcome → Entry
  Listed : List ℕ → Entry

-- ---- how they are read

abbrev pub is_word : List ℕ → List ℕ → Bool
is_word word expected = bytes_eq word expected

abbrev pub arrival : List ℕ → List ℕ → List ℕ → Arrival
arrival moment port message = record { moment = moment; port = port; message = message }

-- `0 90 3C 40`, behind a moment and `port`
abbrev pub arrival_of : List ℕ → List (List ℕ) → Option Arrival
arrival_of moment [] = None
arrival_of moment (port ∷ bytes) =
    if is_number moment && is_number port then option_map (arrival moment port) (bytes_of bytes)
    else None

-- `5 port 0 90 3C 40`, behind `got`
abbrev pub got_of : List (List ℕ) → Option Arrival
got_of (moment ∷ w ∷ rest) = if is_word w (codes "port") then arrival_of moment rest else None
got_of _ = None

-- `2 unreadable`, behind `skip`
abbrev pub skip_of : List (List ℕ) → Option Entry
skip_of (line ∷ reason ∷ []) =
    if is_number line && is_plain reason then Some (Skip line reason) else None
skip_of _ = None

abbrev pub is_queue_state : List ℕ → Bool
is_queue_state word = is_word word (codes "running") || is_word word (codes "stopped")

-- `480 500000000`, behind `ok running` or `ok stopped`
abbrev pub queue_of : List ℕ → List (List ℕ) → Option Outcome
queue_of state (tick ∷ nanos ∷ []) =
    if is_number tick && is_number nanos then Some (Queue state tick nanos) else None
queue_of state _ = None

-- `3 lost 0 used 1`, behind `ok waiting`
abbrev pub pools_of : List (List ℕ) → Option Outcome
pools_of (waiting ∷ l ∷ lost ∷ u ∷ used ∷ []) =
    if is_word l (codes "lost") && is_word u (codes "used")
    && (is_number waiting && (is_number lost && is_number used))
    then Some (Pools waiting lost used) else None
pools_of _ = None

-- `3` alone, behind `ok`
abbrev pub count_of : List ℕ → List (List ℕ) → Option Outcome
count_of n [] = if is_number n then Some (Count n) else None
count_of n _ = None

-- what stands behind `ok`
abbrev pub ok_of : List (List ℕ) → Option Outcome
ok_of [] = Some Done
ok_of (w ∷ rest) =
    if is_queue_state w then queue_of w rest else
    (if is_word w (codes "waiting") then pools_of rest else count_of w rest)

-- `10 NotPermitted`, behind `refused`
abbrev pub refusal_of : List (List ℕ) → Option Outcome
refusal_of (number ∷ name ∷ []) =
    if is_number number && is_plain name then Some (Refused number name) else None
refusal_of _ = None

abbrev pub outcome_of : List (List ℕ) → Option Outcome
outcome_of [] = None
outcome_of (w ∷ rest) =
    if is_word w (codes "ok") then ok_of rest else
    (if is_word w (codes "refused") then refusal_of rest else None)

-- `3 ok`, behind a moment and `line`
abbrev pub reply_of : List ℕ → List (List ℕ) → Option Entry
reply_of moment [] = None
reply_of moment (line ∷ rest) =
    if is_number moment && is_number line then option_map (Reply moment line) (outcome_of rest)
    else None

-- what stands behind a moment
abbrev pub timed_of : List ℕ → List (List ℕ) → Option Entry
timed_of moment [] = None
timed_of moment (w ∷ rest) =
    if is_word w (codes "port") then option_map Delivery (arrival_of moment rest) else
    (if is_word w (codes "line") then reply_of moment rest else None)

abbrev pub words_entry : List (List ℕ) → Option Entry
words_entry [] = None
words_entry (w ∷ rest) =
    if is_word w (codes "skip") then skip_of rest else
    (if is_word w (codes "got") then option_map Received (got_of rest) else timed_of w rest)

-- what a line says; one of none of these forms is taken over as it is
abbrev pub entry_of : List ℕ → Entry
entry_of line = unwrap_or (words_entry (words line)) (Listed line)
