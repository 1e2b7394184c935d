-- Definition: What was read of files that were opened by their paths.
use Rattle.std.specs.Prelude.{◌≡◌, ◌+◌, ℕ, Bool, true, false, List, [], ◌∷◌, ◌++◌, Option, Some, None, Result, Ok, Err, take}
use Rattle.file_store.specs.declared.standing.Standing.{Standing}
use Rattle.folder_files.specs.Contents.{IsContent, IsOfFile}
use Rattle.folder_files.specs.Names.{AreInCapitals, AreMidiFiles}
use Rattle.folder_files.specs.Paths.{path_in}
use Rattle.script_text.specs.declared.script.TheConstants.{MOST_FILES, MOST_SCRIPT}
use Rattle.smf_mend.specs.declared.forgiven.Mended.{Mended}
use Rattle.smf_mend.specs.Unwrapping.{IsMendedIn, IsRefusedIn}
use Rattle.seq_session.specs.declared.source.Script.{Script}
use Rattle.seq_session.specs.declared.source.ScriptSource.{ScriptSource}
use Rattle.program_tasks.specs.declared.left_out.WhyLeftOut.{WhyLeftOut}
use Rattle.program_tasks.specs.declared.left_out.WhyLeftOut.TheVariants.{Damaged, Unread}
use Rattle.program_tasks.specs.declared.words.ScriptWord.{ScriptWord}

-- What is taken of the bytes of a file: strictly all as they are, of which nothing is forgiven, and
-- leniently the strict file that is made of them, or why there is none.
abbrev pub IsTakenAs : Bool → List ℕ → Result Mended WhyLeftOut → Type 0
IsTakenAs false bytes (Ok taken) =
    (taken.bytes.items ≡ bytes) × (taken.running_status ≡ None) × (taken.high_data ≡ None)
IsTakenAs true bytes (Ok taken) = IsMendedIn bytes taken
IsTakenAs true bytes (Err (Damaged fault)) = IsRefusedIn bytes fault
IsTakenAs is_lenient bytes _ = ⊥

-- nothing of a file that could not be read, for what stands at its path
abbrev pub IsTakenOf : Bool → Result (List ℕ) Standing → Result Mended WhyLeftOut → Type 0
IsTakenOf is_lenient (Ok bytes) taken = IsTakenAs is_lenient bytes taken
IsTakenOf is_lenient (Err there) taken = taken ≡ Err (Unread there)

-- Each source is of the client that a word names, and was opened at the path that it names.
abbrev pub AreSourcesOf : {R : Type 0} → (List ℕ → R → Type 0) → List ScriptWord
    → List (ScriptSource R) → Type 0
AreSourcesOf IsOpened (w ∷ words) (s ∷ sources) =
    (s.client ≡ w.client) × IsOpened w.path.now s.reader × AreSourcesOf IsOpened words sources
AreSourcesOf IsOpened [] [] = Unit {0}
AreSourcesOf IsOpened _ _ = ⊥

module _ {R : Type 0} (IsOpened : List ℕ → R → Type 0) (HasLeft : R → List ℕ → Type 0) where
  -- ---- scripts

  -- Each script is that of the client and of the path that a word names.
  abbrev pub AreOfFiles : List ScriptWord → List Script → Type 0
  AreOfFiles (w ∷ words) (s ∷ scripts) =
      (s.client ≡ w.client) × IsOfFile IsOpened HasLeft (MOST_SCRIPT + 1) w.path.now s.text
      × AreOfFiles words scripts
  AreOfFiles [] [] = Unit {0}
  AreOfFiles _ _ = ⊥

  -- Scripts were read behind those that were there.
  pub record ReadsScripts (words : List ScriptWord) (before after : List Script) : Type 0 where
    pub scripts : List Script
    pub added : after ≡ before ++ scripts
    pub read : AreOfFiles words scripts

  -- ---- the files of a folder

  module _ (CannotOpen : List ℕ → Type 0) (failed : R → Bool)
      (IsStanding : List ℕ → Standing → Type 0) (is_lenient : Bool) where
    -- The file at a path could be read or not, and this is taken of it.
    pub record IsTakenAt (path : List ℕ) (taken : Result Mended WhyLeftOut) : Type 0 where
      pub content : Result (List ℕ) Standing
      pub read : IsContent IsOpened HasLeft CannotOpen failed IsStanding path content
      pub taken_of : IsTakenOf is_lenient content taken

    -- so of each of these names in a folder
    abbrev pub AreContents : List ℕ → List (List ℕ) → List (Result Mended WhyLeftOut) → Type 0
    AreContents folder (name ∷ names) (content ∷ contents) =
        IsTakenAt (path_in folder name) content × AreContents folder names contents
    AreContents folder [] [] = Unit {0}
    AreContents folder _ _ = ⊥

    -- The names are those of the files of a folder, the contents those of the first of them, and
    -- then there are the names that are none for their capitals alone.
    pub record IsFolderListed (HasNames : List ℕ → List (List ℕ) → Type 0) (folder : List ℕ)
        (names : List (List ℕ)) (contents : List (Result Mended WhyLeftOut))
        (capitals : List (List ℕ)) : Type 0 where
      pub entries : List (List ℕ)
      pub listed : HasNames folder entries
      pub files : AreMidiFiles is_lenient entries names
      pub read : AreContents folder (take MOST_FILES names) contents
      pub in_capitals : AreInCapitals is_lenient entries capitals

    -- where no folder is named there are no names
    abbrev pub IsFolder : (List ℕ → List (List ℕ) → Type 0) → Option (List ℕ) →
        List (List ℕ) → List (Result Mended WhyLeftOut) → List (List ℕ) → Type 0
    IsFolder HasNames None names contents capitals = (names ≡ []) × (capitals ≡ [])
    IsFolder HasNames (Some folder) names contents capitals =
        IsFolderListed HasNames folder names contents capitals
