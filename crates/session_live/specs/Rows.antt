-- Worked rows: Lines, and what is answered to them.
use Rattle.std.specs.Prelude.{◌≡◌, ◌==◌, ◌<◌, ℕ, List, [], ◌∷◌, ◌++◌, Some, None, codes, length}
use Rattle.seq_state.specs.declared.input.Command.TheVariants.{Open, Close, Receive}
use Rattle.seq_state.specs.declared.input.Input.{Input}
use Rattle.seq_state.specs.declared.log.Reply.TheVariants.{Done, Received}
use Rattle.seq_state.specs.State.{start}
use Rattle.script_text.specs.declared.reading.SkipReason.TheVariants.{Unreadable, Late, TooLong}
use Rattle.seq_session.specs.declared.source.Script.{Script}
use Rattle.seq_session.specs.Sessions.{FolderContents, session}
use Rattle.session_live.specs.declared.heard.TheConstants.{MOST_LINE}
use Rattle.session_live.specs.Lines.{PassedOver, Skipped, Said, Waited, Asked, item, items, nothing_heard, whole_lines, open_line, input_of, numbered_inputs}
use Rattle.session_live.specs.Answers.{Comes, Answers, Skips, Lists, Next, answers_to, part_text, live_text}
use Rattle.session_live.specs.Circles.{lines_alone, circle_lines}
use Rattle.session_live.specs.Texts.{log_in}

abbrev pub hostile_lines : List ℕ
hostile_lines =
    codes "# hi\n\n5 128 open a 8 8\r\n3 129 close\n7\n6\nlist\n8 128 nonsense\nxx\n9 200 close\n"
    ++ codes "list 128\n9 129 close\n9 129 close"

abbrev pub opening : Input
opening = input_of 128 5 (Open (codes "a") 8 8)

-- Each kind of line: a client's lines are counted with those that are skipped, and so are those
-- that name nobody; what has no line end is none.
pub record LineForms : Type 0 where
  pub all : items [] hostile_lines ≡
      PassedOver ∷ PassedOver ∷ Said 1 opening ∷ Skipped (Some 129) 1 Late
      ∷ Waited 7 ∷ Skipped None 2 Late ∷ Asked ∷ Skipped (Some 128) 2 Unreadable
      ∷ Skipped None 4 Unreadable ∷ Skipped None 5 Unreadable ∷ Skipped (Some 128) 3 Unreadable
      ∷ Said 2 (input_of 129 9 Close) ∷ []
  pub empty : items [] [] ≡ []
  pub open_line : open_line hostile_lines ≡ codes "9 129 close"
  -- a moment alone, the listing, and a client that cannot be, each by itself
  pub moment : items [] (codes "18446744073709551615\n") ≡ Waited 18446744073709551615 ∷ []
  pub past_moments : items [] (codes "18446744073709551616\n") ≡ Skipped None 1 Unreadable ∷ []
  pub listing : items [] (codes "list\n") ≡ Asked ∷ []
  pub unknown_client : items [] (codes "0 127 close\n") ≡ Skipped None 1 Unreadable ∷ []
  -- a line of too many bytes names nobody, whatever they say
  pub too_long : (line : List ℕ) → MOST_LINE < length line →
      item [] nothing_heard line ≡ Skipped None 1 TooLong
  -- of the strangers to 129 the moments stay
  pub alone : lines_alone (λ c. c == 129) [] nothing_heard (whole_lines hostile_lines) ≡
      codes "# hi" ∷ [] ∷ codes "5" ∷ codes "3 129 close" ∷ codes "7" ∷ codes "6" ∷ codes "list"
      ∷ [] ∷ codes "xx" ∷ codes "9 200 close" ∷ [] ∷ codes "9 129 close" ∷ []

-- What strangers say between two lines of a circle is nothing to it, however much it is.
pub record CircleForms : Type 0 where
  pub flood : circle_lines (λ c. c == 129)
      (items [] (codes "1 129 close\n2 128 close\n2 130 nonsense\n3 128 close\n4\n4 129 close\n"))
      ≡ circle_lines (λ c. c == 129) (items [] (codes "1 129 close\n4 129 close\n"))
  -- before a line that is skipped it matters how far time has passed, and so it does at the end
  pub skipped : circle_lines (λ c. c == 129)
      (items [] (codes "2 128 close\n3\n9 129\n4 129 close\n5\n6 128 close\n")) ≡
      Waited 3 ∷ Skipped (Some 129) 1 Unreadable ∷ Said 2 (input_of 129 4 Close) ∷ Waited 6 ∷ []

-- Each line of an answer that is a client's has its number in front.
pub record PartForms : Type 0 where
  pub comes : part_text (Comes (record {
    moment = 1000;
    target = record { client = 129; port = 0 };
    message = 0x90 ∷ 0x3C ∷ 0x40 ∷ [];
  })) ≡ codes "129 1000 port 0 90 3C 40\n"
  pub replies : part_text (Answers 3 (input_of 128 1000 Close) Done) ≡ codes "128 1000 line 3 ok\n"
  pub received : part_text (Answers 2 (input_of 129 9 (Receive 9))
      (Received (record { moment = 5; port = 0; message = 0xF8 ∷ [] } ∷ [])))
      ≡ codes "129 9 line 2 ok 1\n129 got 5 port 0 F8\n"
  pub skips : part_text (Skips (Some 128) 4 Unreadable) ≡ codes "128 skip 4 unreadable\n"
  pub loose : part_text (Skips None 2 Late) ≡ codes "skip 2 late\n"
  pub next : part_text (Next (Some 5)) ≡ codes "next 5\n"
  pub never : part_text (Next None) ≡ codes "next never\n"

abbrev pub some_answers : List ℕ
some_answers =
    codes "129 5 port 0 F8\n128 5 line 1 ok\nskip 1 late\n1290 5 line 9 ok\n129 skip 2 late\n"
    ++ codes "next 7\n"

-- What is another's, or nobody's, is not in a client's log.
pub record LogForms : Type 0 where
  pub of_129 : log_in 129 some_answers ≡ codes "5 port 0 F8\nskip 2 late\n"
  pub of_12 : log_in 12 some_answers ≡ []

abbrev pub no_files : FolderContents
no_files = record { names = []; files = [] }

-- Whole answers: each ends with when something is due next, and a remark has none.
pub record TextForms : Type 0 where
  pub skipped : live_text no_files (codes "7\n# noon\n6\n8 128 nonsense\n0 127 close\n8")
      ≡ codes "next never\nskip 2 late\nnext never\n128 skip 1 unreadable\nnext never\n"
      ++ codes "skip 3 unreadable\nnext never\n"
  pub opened : live_text no_files (codes "5 128 open a 8 8\n")
      ≡ codes "128 5 line 1 ok\nnext never\n"
  pub listed : answers_to no_files (codes "list" ∷ []) ≡ Lists start ∷ Next None ∷ []

abbrev pub two_scripts : List Script
two_scripts =
    record { client = 128; text = codes "1 open a 8 8\n3 open b 8 8\n4 close\n" }
    ∷ record { client = 129; text = codes "3 open c 8 8\n" } ∷ []

-- The lines of two scripts as those of one session: each with its client, in the order of the run,
-- and time may pass between them.
pub record RunForms : Type 0 where
  pub merged : numbered_inputs (items []
      (codes "1 128 open a 8 8\n2\n3 128 open b 8 8\n3 129 open c 8 8\n4 128 close\n"))
      ≡ session no_files 4 two_scripts
  -- a remark is nobody's line, so that it takes no number
  pub remark : numbered_inputs (items [] (codes "# hi\n3 129 open c 8 8\n"))
      ≡ session no_files 3 (record { client = 129; text = codes "3 open c 8 8" } ∷ [])
