-- Definition: The files of a folder that a run takes.
use Rattle.std.specs.Prelude.{◌≡◌, ℕ, List, [], ◌∷◌, ◌++◌, Result, Ok, Err, map}
use Rattle.std.specs.List.{flat_map}
use Rattle.smf_mend.specs.declared.forgiven.Mended.{Mended}
use Rattle.smf_grammar.specs.Files.{MidiFile, IsFile, Fault}
use Rattle.program_tasks.specs.declared.left_out.LeftOutFile.{LeftOutFile}
use Rattle.program_tasks.specs.declared.left_out.WhyLeftOut.{WhyLeftOut}
use Rattle.program_tasks.specs.declared.left_out.WhyLeftOut.TheVariants.{Damaged}
use Rattle.program_tasks.specs.declared.opening.FolderFiles.{FolderFiles}

-- a file that is left out, by its name, and why it is
pub record LostFile : Type 0 where
  pub name : List ℕ
  pub why : WhyLeftOut

abbrev pub seen_lost : LeftOutFile → LostFile
seen_lost file = record { name = file.name.now; why = file.why }

-- the names and the files that can be played, side by side, and those that are left out
pub record FoundFiles : Type 0 where
  pub names : List (List ℕ)
  pub files : List MidiFile
  pub left_out : List LostFile

abbrev pub seen_files : FolderFiles → FoundFiles
seen_files o = record {
  names = map (λ name. name.items) o.names.items;
  files = o.files.items;
  left_out = map seen_lost o.left_out.items;
}

-- A file is found where what is taken of it is a Standard MIDI File, and else it is left out: for a
-- fault that these bytes have, or for why nothing was taken.
abbrev pub IsOpenedAs : Result Mended WhyLeftOut → Result MidiFile WhyLeftOut → Type 0
IsOpenedAs (Ok taken) (Ok file) = IsFile taken.bytes.items file
IsOpenedAs (Ok taken) (Err (Damaged fault)) = Fault taken.bytes.items fault
IsOpenedAs (Err why) (Err lost) = lost ≡ why
IsOpenedAs _ _ = ⊥

-- the same of each, from what is taken of it
abbrev pub AreFound : List (Result Mended WhyLeftOut) → List (Result MidiFile WhyLeftOut) → Type 0
AreFound [] [] = Unit {0}
AreFound (content ∷ contents) (file ∷ found) = IsOpenedAs content file × AreFound contents found
AreFound _ _ = ⊥

-- a file that is found and its name, and one that is not with its name
abbrev pub found_file : Result MidiFile WhyLeftOut → List MidiFile
found_file (Ok file) = file ∷ []
found_file (Err why) = []

abbrev pub found_name : List ℕ → Result MidiFile WhyLeftOut → List (List ℕ)
found_name name (Ok file) = name ∷ []
found_name name (Err why) = []

abbrev pub lost_file : List ℕ → Result MidiFile WhyLeftOut → List LostFile
lost_file name (Ok file) = []
lost_file name (Err why) = record { name = name; why = why } ∷ []

-- what is said of each name, by the file that is found or not
abbrev pub by_name : {X : Type 0} → (List ℕ → Result MidiFile WhyLeftOut → List X)
    → List (List ℕ) → List (Result MidiFile WhyLeftOut) → List X
by_name f (name ∷ names) (file ∷ found) = f name file ++ by_name f names found
by_name f _ _ = []

-- the files with these names, of each of which this is taken
pub record AreOpened (names : List (List ℕ)) (contents : List (Result Mended WhyLeftOut))
    (o : FoundFiles) : Type 0 where
  pub found : List (Result MidiFile WhyLeftOut)
  pub are : AreFound contents found
  pub names_are : o.names ≡ by_name found_name names found
  pub files_are : o.files ≡ flat_map found_file found
  pub left_out_are : o.left_out ≡ by_name lost_file names found

-- one more file is found or left out
pub record GainsFile (name : List ℕ) (content : Result Mended WhyLeftOut)
    (old new : FoundFiles) : Type 0 where
  pub file : Result MidiFile WhyLeftOut
  pub is : IsOpenedAs content file
  pub names_are : new.names ≡ old.names ++ found_name name file
  pub files_are : new.files ≡ old.files ++ found_file file
  pub left_out_are : new.left_out ≡ old.left_out ++ lost_file name file
