-- Definition: What is told of the files of a folder that are read by the lenient grammar.
use Rattle.std.specs.Prelude.{ℕ, List, [], ◌∷◌, ◌++◌, Option, Some, None, Result, Ok, Err, codes}
use Rattle.folder_files.specs.Escaped.{escaped_text}
use Rattle.smf_mend.specs.Told.{forgiven_text}
use Rattle.smf_mend.specs.declared.forgiven.Forgiven.{Forgiven}
use Rattle.smf_mend.specs.declared.forgiven.Mended.{Mended}
use Rattle.smf_mend.specs.declared.told.Lenience.{Lenience}
use Rattle.smf_mend.specs.declared.told.Lenience.TheVariants.{RunningStatus, ProgramChange}
use Rattle.program_tasks.specs.declared.left_out.WhyLeftOut.{WhyLeftOut}
use Rattle.program_tasks.specs.Program.{line_start}

-- the line of what was forgiven of a kind in the file with this name, without its end:
-- `midiseq: song.mid: forgiven 3 running status 6977`
abbrev pub forgiven_line : List ℕ → Lenience → Forgiven → List ℕ
forgiven_line name kind forgiven =
    line_start ++ escaped_text name ++ codes ": " ++ forgiven_text kind forgiven

-- the same with its end, where something was forgiven
abbrev pub forgiven_of : List ℕ → Lenience → Option Forgiven → List ℕ
forgiven_of name kind None = []
forgiven_of name kind (Some forgiven) = forgiven_line name kind forgiven ++ 10 ∷ []

-- a line for each kind, of a file that is taken
abbrev pub forgiven_in : List ℕ → Result Mended WhyLeftOut → List ℕ
forgiven_in name (Ok taken) =
    forgiven_of name RunningStatus taken.running_status
    ++ forgiven_of name ProgramChange taken.high_data
forgiven_in name (Err why) = []

-- those of files with these names, one after another
abbrev pub all_forgiven : List (List ℕ) → List (Result Mended WhyLeftOut) → List ℕ
all_forgiven (name ∷ names) (content ∷ contents) =
    forgiven_in name content ++ all_forgiven names contents
all_forgiven _ _ = []
