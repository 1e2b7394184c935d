-- Law: What holds of all logs: they may be written in pieces, and their fields are kept.
use Rattle.std.specs.Prelude.{◌≡◌, ◌<◌, ◌^◌, ℕ, nat_lt, Bool, true, false, IsTrue, List, [], ◌∷◌, ◌++◌, codes}
use Rattle.std.specs.List.{list_all}
use Rattle.std.specs.Fmt.{decimal}
use Rattle.midi_wire.specs.Messages.{IsMessage}
use Rattle.text_forms.specs.Hex.{spaced_hex}
use Rattle.log_forms.specs.declared.form.LogForm.{LogForm}
use Rattle.log_forms.specs.declared.form.LogForm.TheVariants.{Json, Csv}
use Rattle.log_forms.specs.Csv.{csv_entry}
use Rattle.log_forms.specs.Entries.{Entry, Outcome, Arrival, arrival, Delivery, Received, Skip, Reply, Done, Count, Queue, Pools, Refused, is_queue_state}
use Rattle.log_forms.specs.Forms.{log_in, listing_in}
use Rattle.log_forms.specs.Json.{json_entry}
use Rattle.log_forms.specs.Lines.{is_line_feed, is_plain}

-- ---- pieces

-- whole lines: nothing, or the last byte is a line feed
abbrev pub is_whole : List ℕ → Bool
is_whole [] = true
is_whole (b ∷ []) = is_line_feed b
is_whole (b ∷ c ∷ bytes) = is_whole (c ∷ bytes)

-- A log that is written in pieces of whole lines is the log that is written at once.
pub record WrittenInPieces : Type 0 where
  pub log : (form : LogForm) (client : ℕ) (a b : List ℕ) → IsTrue (is_whole a) →
      log_in form client (a ++ b) ≡ log_in form client a ++ log_in form client b
  pub listing : (form : LogForm) (a b : List ℕ) → IsTrue (is_whole a) →
      listing_in form (a ++ b) ≡ listing_in form a ++ listing_in form b

-- ---- the lines that a run writes

-- ` port 0 90 3C 40`
abbrev pub port_text : ℕ → List ℕ → List ℕ
port_text port m = codes " port " ++ decimal port ++ spaced_hex m ++ codes "\n"

-- `5 port 0 90 3C 40`
abbrev pub delivery_line : ℕ → ℕ → List ℕ → List ℕ
delivery_line moment port m = decimal moment ++ port_text port m

-- `got 5 port 0 90 3C 40`
abbrev pub got_line : ℕ → ℕ → List ℕ → List ℕ
got_line moment port m = codes "got " ++ decimal moment ++ port_text port m

-- `skip 2 unreadable`
abbrev pub skip_line : ℕ → List ℕ → List ℕ
skip_line line reason = codes "skip " ++ decimal line ++ codes " " ++ reason ++ codes "\n"

-- `5 line 3`, and how the command ended
abbrev pub reply_line : ℕ → ℕ → List ℕ → List ℕ
reply_line moment line ended =
    decimal moment ++ codes " line " ++ decimal line ++ ended ++ codes "\n"

abbrev pub count_text : ℕ → List ℕ
count_text n = codes " ok " ++ decimal n

abbrev pub queue_text : List ℕ → ℕ → ℕ → List ℕ
queue_text state tick nanos =
    codes " ok " ++ state ++ codes " " ++ decimal tick ++ codes " " ++ decimal nanos

abbrev pub pools_text : ℕ → ℕ → ℕ → List ℕ
pools_text waiting lost used =
    codes " ok waiting " ++ decimal waiting ++ codes " lost " ++ decimal lost
    ++ codes " used " ++ decimal used

abbrev pub refused_text : ℕ → List ℕ → List ℕ
refused_text n name = codes " refused " ++ decimal n ++ codes " " ++ name

-- ---- fields

-- a message that came to a port, by its numbers and its bytes
abbrev pub arrived : ℕ → ℕ → List ℕ → Arrival
arrived moment port m = arrival (decimal moment) (decimal port) m

-- a reply by its numbers
abbrev pub replied : ℕ → ℕ → Outcome → Entry
replied moment line outcome = Reply (decimal moment) (decimal line) outcome

-- this line is written as the object, and as the row, of that entry
abbrev pub IsWrittenAs : List ℕ → Entry → Type 0
IsWrittenAs line e = (client : ℕ) →
    (log_in Json client line ≡ json_entry (decimal client) e)
    × (log_in Csv client line ≡ csv_entry (decimal client) e)

-- one byte or more
abbrev pub is_bytes : List ℕ → Bool
is_bytes [] = false
is_bytes (b ∷ bytes) = list_all (λ x. nat_lt x 256) (b ∷ bytes)

-- a number of 64 bits
abbrev pub Is64 : ℕ → Type 0
Is64 n = n < 2 ^ 64

-- The fields of each line are the numbers, the bytes and the words that the line was made of.
pub record FieldsAreKept : Type 0 where
  pub delivery : (moment port : ℕ) (m : List ℕ) → Is64 moment → Is64 port → IsTrue (is_bytes m) →
      IsWrittenAs (delivery_line moment port m) (Delivery (arrived moment port m))
  pub got : (moment port : ℕ) (m : List ℕ) → Is64 moment → Is64 port → IsTrue (is_bytes m) →
      IsWrittenAs (got_line moment port m) (Received (arrived moment port m))
  pub skip : (line : ℕ) (reason : List ℕ) → Is64 line → IsTrue (is_plain reason) →
      IsWrittenAs (skip_line line reason) (Skip (decimal line) reason)
  pub done : (moment line : ℕ) → Is64 moment → Is64 line →
      IsWrittenAs (reply_line moment line (codes " ok")) (replied moment line Done)
  pub count : (moment line n : ℕ) → Is64 moment → Is64 line → Is64 n →
      IsWrittenAs (reply_line moment line (count_text n)) (replied moment line (Count (decimal n)))
  pub queue : (moment line : ℕ) (state : List ℕ) (tick nanos : ℕ) → Is64 moment → Is64 line →
      IsTrue (is_queue_state state) → Is64 tick → Is64 nanos →
      IsWrittenAs (reply_line moment line (queue_text state tick nanos))
      (replied moment line (Queue state (decimal tick) (decimal nanos)))
  pub pools : (moment line waiting lost used : ℕ) → Is64 moment → Is64 line → Is64 waiting →
      Is64 lost → Is64 used →
      IsWrittenAs (reply_line moment line (pools_text waiting lost used))
      (replied moment line (Pools (decimal waiting) (decimal lost) (decimal used)))
  pub refused : (moment line n : ℕ) (name : List ℕ) → Is64 moment → Is64 line → Is64 n →
      IsTrue (is_plain name) →
      IsWrittenAs (reply_line moment line (refused_text n name))
      (replied moment line (Refused (decimal n) name))

-- So it holds of all that comes to a port: a message is one byte or more.
abbrev pub MessagesAreBytes : Type 0
MessagesAreBytes = (m : List ℕ) → IsMessage m → IsTrue (is_bytes m)
