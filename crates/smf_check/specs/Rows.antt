-- Worked rows: What is printed of three files, with `quiet` and without, of a path with a line end
-- in it, of files of which something is forgiven, and of no file.
use Rattle.std.specs.Prelude.{◌≡◌, true, false, List, [], ◌∷◌, ◌++◌, Some, None, codes}
use Rattle.file_store.specs.declared.standing.Standing.TheVariants.{Nothing, Denied}
use Rattle.smf_grammar.specs.declared.fault.SmfFault.TheVariants.{NoStatus}
use Rattle.folder_files.specs.Paths.{path_in}
use Rattle.smf_check.specs.declared.answer.CheckAnswer.TheVariants.{AllWhole, SomeNot}
use Rattle.smf_check.specs.declared.verdict.Verdict.TheVariants.{Whole, Forgiven, Damaged, Unread}
use Rattle.smf_check.specs.Checks.{JudgedFile, check_answer, check_text}

-- ---- files with their verdicts

abbrev pub whole_file : JudgedFile
whole_file = record { path = path_in (codes "songs") (codes "a.mid"); verdict = Whole }

abbrev pub damaged_file : JudgedFile
damaged_file = record {
  path = path_in (codes "songs") (codes "b.mid");
  verdict = Damaged (NoStatus 30);
}

abbrev pub unread_file : JudgedFile
unread_file = record { path = codes "c.mid"; verdict = Unread Nothing }

abbrev pub file_of_two_lines : JudgedFile
file_of_two_lines = record { path = codes "c\nd.mid"; verdict = Unread Denied }

abbrev pub forgiven_files : List JudgedFile
forgiven_files =
    record {
      path = codes "d.mid";
      verdict = Forgiven (Some (record { times = 3; first = 6977 })) None;
    }
    ∷ record {
      path = codes "e.mid";
      verdict = Forgiven (Some (record { times = 1; first = 34 }))
          (Some (record { times = 2; first = 22 }));
    }
    ∷ []

abbrev pub three_files : List JudgedFile
three_files = whole_file ∷ damaged_file ∷ unread_file ∷ []

-- ---- what is printed and answered

-- with `quiet` the file that is whole has no line, and there is no last line
pub record WorkedChecks : Type 0 where
  pub all : check_text false three_files
      ≡ codes "songs/a.mid: ok\nsongs/b.mid: 12 NoStatus 30\n"
      ++ codes "c.mid: cannot read: there is no such file\nok 1 damaged 1 unread 1\n"
  pub quiet : check_text true three_files
      ≡ codes "songs/b.mid: 12 NoStatus 30\nc.mid: cannot read: there is no such file\n"
  pub some_not : check_answer three_files ≡ SomeNot
  pub escaped : check_text true (file_of_two_lines ∷ [])
      ≡ codes "c\\nd.mid: cannot read: permission is denied\n"
  pub alone : check_text true (whole_file ∷ []) ≡ []
  pub all_whole : check_answer (whole_file ∷ []) ≡ AllWhole
  pub forgiven : check_text false forgiven_files
      ≡ codes "d.mid: ok, forgiven 3 running status 6977\n"
      ++ codes "e.mid: ok, forgiven 1 running status 34, forgiven 2 program change 22\n"
      ++ codes "ok 2 damaged 0 unread 0\n"
  pub forgiven_quiet : check_text true forgiven_files ≡ []
  pub forgiven_whole : check_answer forgiven_files ≡ AllWhole
  pub none : check_text false [] ≡ codes "ok 0 damaged 0 unread 0\n"
