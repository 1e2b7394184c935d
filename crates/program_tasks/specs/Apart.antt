-- Definition: Whether a path leads to a file that a session reads.
use Rattle.std.specs.Prelude.{ℕ, ◌⊎◌, List, [], ◌∷◌, Option, Some, None}
use Rattle.program_tasks.specs.declared.words.ScriptWord.{ScriptWord}
use Rattle.folder_files.specs.Paths.{path_in}

-- the path and each script's lead to different files
abbrev pub AreScriptsApart : (List ℕ → List ℕ → Type 0) → List ℕ → List ScriptWord → Type 0
AreScriptsApart AreApart path [] = Unit {0}
AreScriptsApart AreApart path (w ∷ words) =
    AreApart path w.path.now × AreScriptsApart AreApart path words

-- so do the path and each of these names in a folder
abbrev pub AreFilesApart : (List ℕ → List ℕ → Type 0) → List ℕ → List ℕ → List (List ℕ) → Type 0
AreFilesApart AreApart path folder [] = Unit {0}
AreFilesApart AreApart path folder (name ∷ names) =
    AreApart path (path_in folder name) × AreFilesApart AreApart path folder names

-- in the session's folder, where it has one
abbrev pub AreApartIn : (List ℕ → List ℕ → Type 0) → List ℕ → Option (List ℕ) → List (List ℕ)
    → Type 0
AreApartIn AreApart path None names = Unit {0}
AreApartIn AreApart path (Some folder) names = AreFilesApart AreApart path folder names

-- the path leads to no script of the session, and to none of these files in its folder
pub record IsApart (AreApart : List ℕ → List ℕ → Type 0) (path : List ℕ) (words : List ScriptWord)
    (folder : Option (List ℕ)) (names : List (List ℕ)) : Type 0 where
  pub scripts : AreScriptsApart AreApart path words
  pub files : AreApartIn AreApart path folder names

-- the path and that of some script lead to one file
abbrev pub IsOneScript : (List ℕ → List ℕ → Type 0) → List ℕ → List ScriptWord → Type 0
IsOneScript AreOne path [] = ⊥
IsOneScript AreOne path (w ∷ words) = AreOne path w.path.now ⊎ IsOneScript AreOne path words

-- so do the path and one of these names in a folder
abbrev pub IsOneFile : (List ℕ → List ℕ → Type 0) → List ℕ → List ℕ → List (List ℕ) → Type 0
IsOneFile AreOne path folder [] = ⊥
IsOneFile AreOne path folder (name ∷ names) =
    AreOne path (path_in folder name) ⊎ IsOneFile AreOne path folder names

-- in the session's folder, if it has one
abbrev pub IsOneIn : (List ℕ → List ℕ → Type 0) → List ℕ → Option (List ℕ) → List (List ℕ) → Type 0
IsOneIn AreOne path None names = ⊥
IsOneIn AreOne path (Some folder) names = IsOneFile AreOne path folder names

-- the path leads to a script of the session, or to one of these files in its folder
abbrev pub IsShared : (List ℕ → List ℕ → Type 0) → List ℕ → List ScriptWord →
    Option (List ℕ) → List (List ℕ) → Type 0
IsShared AreOne path words folder names =
    IsOneScript AreOne path words ⊎ IsOneIn AreOne path folder names
