-- Worked rows: Sessions worked out: scripts as text, and the logs that they have.
use Rattle.std.specs.Prelude.{◌≡◌, ℕ, List, [], ◌∷◌, ◌++◌, codes}
use Rattle.std.specs.List.{flat_map}
use Rattle.seq_state.specs.declared.log.LogEntry.{LogEntry}
use Rattle.seq_state.specs.declared.log.LogEntry.TheVariants.{Delivered, Replied}
use Rattle.seq_state.specs.declared.log.Reply.TheVariants.{Done, Messages, Refused}
use Rattle.seq_state.specs.declared.refusal.Refusal.TheVariants.{NoDest}
use Rattle.seq_state.specs.Refusals.{refused}
use Rattle.script_text.specs.declared.reading.SkipReason.TheVariants.{TooLong}
use Rattle.script_text.specs.Rows.{hostile_text}
use Rattle.seq_session.specs.declared.source.Script.{Script}
use Rattle.seq_session.specs.Merging.{lines_of}
use Rattle.seq_session.specs.Logs.{outcome, log_text}
use Rattle.seq_session.specs.Sessions.{FolderContents, script_reading, session}
use Rattle.seq_session.specs.Blank.{text_with_blanks}

abbrev pub a_script : ℕ → List ℕ → Script
a_script client text = record { client = client; text = text }

abbrev pub no_files : FolderContents
no_files = record { names = []; files = [] }

-- a log entry in short
abbrev pub delivered_entry : ℕ → ℕ → List ℕ → LogEntry
delivered_entry moment client message =
    Delivered (record {
      moment = moment;
      target = record { client = client; port = 0 };
      message = message;
    })

-- ---- one log from the entries of a run

-- A hostile client's log: the skipped lines come first. Replies to others and what comes to others
-- are not in it.
abbrev pub first_text : List ℕ
first_text = codes "0 open a 8 8\n0 port 0 out 33\n5 bytes 0 90 3C 40"

abbrev pub second_text : List ℕ
second_text = codes "0 open b 8 8\n0 port 0 in 66\n0 connect 128:p0 129:p0"

abbrev pub three : List Script
three = a_script 128 first_text ∷ a_script 129 second_text ∷ a_script 131 hostile_text ∷ []

abbrev pub three_log : List LogEntry
three_log =
    Replied 0 0 128 Done ∷ Replied 1 0 128 Done ∷ Replied 2 0 129 Done ∷ Replied 3 0 129 Done
    ∷ Replied 4 0 129 Done ∷ Replied 5 0 131 Done ∷ Replied 6 1 131 Done ∷ Replied 7 2 131 Done
    ∷ Replied 8 3 131 (refused NoDest) ∷ delivered_entry 5 129 (0x90 ∷ 0x3C ∷ 0x40 ∷ [])
    ∷ delivered_entry 5 131 (0x90 ∷ 0x3C ∷ 0x40 ∷ []) ∷ Replied 9 5 128 (Messages 1) ∷ []

abbrev pub log_in_three : Script → List ℕ
log_in_three s =
    log_text (script_reading no_files 10 s) (lines_of (session no_files 10 three)) three_log

pub record HostileLog : Type 0 where
  pub lines : lines_of (session no_files 10 three) ≡ 1 ∷ 2 ∷ 1 ∷ 2 ∷ 3 ∷ 1 ∷ 3 ∷ 5 ∷ 7 ∷ 3 ∷ []
  pub first : log_in_three (a_script 128 first_text) ≡
      codes "0 line 1 ok\n0 line 2 ok\n5 line 3 ok 1\n"
  pub second : log_in_three (a_script 129 second_text) ≡
      codes "0 line 1 ok\n0 line 2 ok\n0 line 3 ok\n5 port 0 90 3C 40\n"
  pub hostile : log_in_three (a_script 131 hostile_text) ≡
      codes "skip 2 unreadable\nskip 4 late\nskip 6 past-end\n0 line 1 ok\n1 line 3 ok\n"
      ++ codes "2 line 5 ok\n3 line 7 refused 9 NoDest\n5 port 0 90 3C 40\n"
  pub empty : log_in_three (a_script 132 []) ≡ []

-- a reply whose place is not in the merged list has no line
pub record OtherLogs : Type 0 where
  pub too_long : log_text (record {
    client = 131;
    inputs = [];
    skips = record { line = 0; why = TooLong } ∷ [];
  }) [] [] ≡ codes "skip 0 too-long\n"
  pub no_place : log_text (record { client = 128; inputs = []; skips = [] }) (7 ∷ [])
      (Replied 0 3 128 Done ∷ Replied 1 4 128 Done ∷ []) ≡ codes "3 line 7 ok\n"

-- ---- refusals

-- each refusal with its number and its name
pub record RefusalTexts : Type 0 where
  pub first : flat_map (λ n. outcome (Refused n)) (1 ∷ 2 ∷ 3 ∷ 4 ∷ 5 ∷ 6 ∷ 7 ∷ 8 ∷ []) ≡
      codes " refused 1 NotOpen refused 2 AlreadyOpen refused 3 BadName refused 4 BadSize"
      ++ codes " refused 5 BadRule refused 6 NodeExists refused 7 NoNode refused 8 NoSender"
  pub second : flat_map (λ n. outcome (Refused n)) (9 ∷ 10 ∷ 11 ∷ 12 ∷ 13 ∷ 14 ∷ 15 ∷ 16 ∷ []) ≡
      codes " refused 9 NoDest refused 10 NotPermitted refused 11 AlreadyConnected"
      ++ codes " refused 12 NotConnected refused 13 SourcesFull refused 14 Cycle"
      ++ codes " refused 15 QueueExists refused 16 NotYours"
  pub third : flat_map (λ n. outcome (Refused n)) (17 ∷ 18 ∷ 19 ∷ 20 ∷ 21 ∷ 22 ∷ 23 ∷ 24 ∷ []) ≡
      codes " refused 17 NoQueue refused 18 QueueRunning refused 19 QueueStopped"
      ++ codes " refused 20 NoFile refused 21 DivisionDiffers refused 22 BadTempo"
      ++ codes " refused 23 BadTime refused 24 OutFull"

-- ---- blanking

-- The reply lines of line 3 end after their number, those of line 13 stay; so does what only looks
-- alike.
pub record BlankForms : Type 0 where
  pub log : text_with_blanks (3 ∷ 8 ∷ [])
      (codes "skip 3 late\n0 line 3 refused 9 NoDest\n3 port 3 F8\n3 line 13 ok\n"
      ++ codes "got 3 port 0 90 3C 40\n9 line 8 ok\n")
      ≡ codes "skip 3 late\n0 line 3\n3 port 3 F8\n3 line 13 ok\ngot 3 port 0 90 3C 40\n9 line 8\n"
  pub twice : text_with_blanks (3 ∷ []) (codes "0 line 3\n") ≡ codes "0 line 3\n"
  pub none : text_with_blanks [] (codes "0 line 3 ok\n") ≡ codes "0 line 3 ok\n"
  pub empty : text_with_blanks (3 ∷ []) [] ≡ []
