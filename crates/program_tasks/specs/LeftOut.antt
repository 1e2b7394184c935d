-- Definition: Which files of a folder a run leaves out, and what it tells of them.
use Rattle.std.specs.Prelude.{ℕ, Bool, true, false, List, [], ◌++◌, map, drop, codes}
use Rattle.smf_grammar.specs.Faults as smf
use Rattle.script_text.specs.declared.script.TheConstants.{MOST_FILES}
use Rattle.file_store.specs.declared.standing.Standing.{Standing}
use Rattle.file_store.specs.declared.standing.Standing.TheVariants.{Nothing, Folder, Special, Denied, File}
use Rattle.program_tasks.specs.declared.left_out.WhyLeftOut.{WhyLeftOut}
use Rattle.program_tasks.specs.declared.left_out.WhyLeftOut.TheVariants.{Damaged, Unread, Beyond, Capitals}
use Rattle.program_tasks.specs.Explained.{lines_told}
use Rattle.program_tasks.specs.FolderFiles.{LostFile}
use Rattle.program_tasks.specs.Program.{left_out_line}

-- why a file could not be read, by what stands at its path
abbrev pub standing_text : Standing → List ℕ
standing_text Nothing = codes "there is no such file"
standing_text Folder = codes "it is a folder"
standing_text Special = codes "it is no regular file"
standing_text Denied = codes "it cannot be read"
standing_text File = codes "it cannot be read"

abbrev pub why_text : WhyLeftOut → List ℕ
why_text (Damaged fault) = smf.fault_text fault
why_text (Unread there) = standing_text there
why_text Beyond = codes "256 files were taken before it"
why_text Capitals = codes "its name does not end in .mid"

-- the line of a file, without its end; where it is explained, with why the file is left out:
-- `midiseq: left out song.mid: 7 BadTrack 22`
abbrev pub lost_line : Bool → LostFile → List ℕ
lost_line false file = left_out_line file.name
lost_line true file = left_out_line file.name ++ (codes ": " ++ why_text file.why)

-- a line for each
abbrev pub lost_lines : Bool → List LostFile → List ℕ
lost_lines explains files = lines_told (lost_line explains) files

-- the files with these names, for one reason
abbrev pub lost_for : WhyLeftOut → List (List ℕ) → List LostFile
lost_for why names = map (λ name. record { name = name; why = why }) names

-- those whose names end in `.mid` but for capitals, which are told only where it is explained
abbrev pub lost_where : Bool → List (List ℕ) → List LostFile
lost_where true capitals = lost_for Capitals capitals
lost_where false capitals = []

-- those that cannot be played, then those that stand behind the first 256 names, and then those
abbrev pub all_lost : Bool → List LostFile → (names capitals : List (List ℕ)) → List LostFile
all_lost explains unplayable names capitals =
    unplayable ++ (lost_for Beyond (drop MOST_FILES names) ++ lost_where explains capitals)
