-- Worked rows: Sessions worked out: scripts as text, and the logs that they have.
use Rattle.std.specs.Prelude.{◌≡◌, ℕ, List, [], ◌∷◌, ◌++◌, codes}
use Rattle.seq_examples.specs.Rows.{song}
use Rattle.seq_session.specs.declared.source.Script.{Script}
use Rattle.seq_session.specs.Rows.{no_files, a_script}
use Rattle.seq_session.specs.Sessions.{FolderContents, log_of}

-- ---- a full pool

abbrev pub sender_text : List ℕ
sender_text =
    codes "0 open a 8 8\n0 port 0 out 33\n5 bytes 0 90 01 40 02 40 03 40\n7 send 0 90 04 40\n"

abbrev pub taker_text : List ℕ
taker_text =
    codes "0 open b 2 8\n0 port 0 in 66\n0 connect 128:p0 129:p0\n6 pools\n6 receive 1\n"

abbrev pub other_text : List ℕ
other_text = codes "0 open c 8 8\n0 port 0 in 66\n0 connect 128:p0 130:p0\n"

abbrev pub overflow : List Script
overflow = a_script 128 sender_text ∷ a_script 129 taker_text ∷ a_script 130 other_text ∷ []

abbrev pub overflow_log : Script → List ℕ
overflow_log = log_of no_files 10 overflow

pub record Overflow : Type 0 where
  pub sender : overflow_log (a_script 128 sender_text) ≡
      codes "0 line 1 ok\n0 line 2 ok\n5 line 3 ok 3\n7 line 4 ok\n"
  pub taker : overflow_log (a_script 129 taker_text) ≡
      codes "0 line 1 ok\n0 line 2 ok\n0 line 3 ok\n5 port 0 90 01 40\n5 port 0 90 02 40\n"
      ++ codes "6 line 4 ok waiting 2 lost 1 used 0\n6 line 5 ok 1\ngot 5 port 0 90 01 40\n"
      ++ codes "7 port 0 90 04 40\n"
  pub other : overflow_log (a_script 130 other_text) ≡
      codes "0 line 1 ok\n0 line 2 ok\n0 line 3 ok\n5 port 0 90 01 40\n5 port 0 90 02 40\n"
      ++ codes "5 port 0 90 03 40\n7 port 0 90 04 40\n"

-- ---- a queue that is asked what it shows

abbrev pub clock_text : List ℕ
clock_text =
    codes "0 open a 8 8\n0 port 0 out 33\n0 queue 0 480 500000\n"
    ++ codes "0 schedule 128:q0 0 n100 90 01 40\n0 schedule 128:q0 0 n200 90 02 40\n"
    ++ codes "0 schedule 128:q0 0 n18446744073709551615 90 03 40\n"
    ++ codes "0 schedule 128:q0 0 t2 90 04 40\n10 start 128:q0\n110 stop 128:q0\n"
    ++ codes "400 continue 128:q0\n1300 tempo 128:q0 250000\n1562800 status 128:q0\n"
    ++ codes "1562800 pools"

abbrev pub hearer_text : List ℕ
hearer_text = codes "0 open b 8 8\n0 port 0 in 66\n0 connect 128:p0 129:p0"

abbrev pub clocked_scripts : List Script
clocked_scripts = a_script 128 clock_text ∷ a_script 129 hearer_text ∷ []

pub record Clocked : Type 0 where
  pub owner : log_of no_files 1562800 clocked_scripts (a_script 128 clock_text) ≡
      codes "0 line 1 ok\n0 line 2 ok\n0 line 3 ok\n0 line 4 ok\n0 line 5 ok\n0 line 6 ok\n"
      ++ codes "0 line 7 ok\n10 line 8 ok\n110 line 9 ok\n400 line 10 ok\n1300 line 11 ok\n"
      ++ codes "1562800 line 12 ok running 2 1562500\n"
      ++ codes "1562800 line 13 ok waiting 0 lost 0 used 1\n"
  pub hearer : log_of no_files 1562800 clocked_scripts (a_script 129 hearer_text) ≡
      codes "0 line 1 ok\n0 line 2 ok\n0 line 3 ok\n110 port 0 90 01 40\n500 port 0 90 02 40\n"
      ++ codes "1562800 port 0 90 04 40\n"

-- ---- equal moments

abbrev pub lower_client_text : List ℕ
lower_client_text =
    codes "0 open a 8 8\n0 port 0 out 33\n0 queue 0 480 500000\n0 start 128:q0\n"
    ++ codes "2 schedule 128:q0 0 n100 90 01 40"

abbrev pub both_text : List ℕ
both_text =
    codes "0 open b 8 8\n0 port 0 in 66\n0 connect 128:p0 129:p0\n1 connect 130:p0 129:p0"

abbrev pub higher_client_text : List ℕ
higher_client_text =
    codes "0 open c 8 8\n0 port 0 out 33\n0 queue 0 480 500000\n0 start 130:q0\n"
    ++ codes "1 schedule 130:q0 0 n100 90 02 40"

abbrev pub tied_scripts : List Script
tied_scripts =
    a_script 128 lower_client_text ∷ a_script 129 both_text ∷ a_script 130 higher_client_text ∷ []

pub record Tied : Type 0 where
  pub hearer : log_of no_files 200 tied_scripts (a_script 129 both_text) ≡
      codes "0 line 1 ok\n0 line 2 ok\n0 line 3 ok\n1 line 4 ok\n"
      ++ codes "100 port 0 90 02 40\n100 port 0 90 01 40\n"

-- ---- a file that is played

abbrev pub one_file : FolderContents
one_file = record { names = codes "m.mid" ∷ []; files = song ∷ [] }

abbrev pub player_text : List ℕ
player_text =
    codes "0 open a 8 8\n0 port 0 out 33\n0 queuefrom 0 m.mid\n0 play 128:q0 0 m.mid\n"
    ++ codes "1 schedule 128:q0 0 t480 90 05 40\n1 start 128:q0"

abbrev pub player_scripts : List Script
player_scripts = a_script 128 player_text ∷ a_script 129 hearer_text ∷ []

pub record Played : Type 0 where
  pub hearer : log_of one_file 600000000 player_scripts (a_script 129 hearer_text) ≡
      codes "0 line 1 ok\n0 line 2 ok\n0 line 3 ok\n1 port 0 90 3C 40\n"
      ++ codes "500000001 port 0 90 3C 00\n500000001 port 0 90 05 40\n"
