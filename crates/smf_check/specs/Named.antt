-- Definition: The files that words name.
use Rattle.std.specs.Prelude.{◌≡◌, ◌≢◌, ◌⊎◌, ℕ, Bool, List, [], ◌∷◌, ◌++◌, map}
use Rattle.file_store.specs.declared.standing.Standing.{Standing}
use Rattle.file_store.specs.declared.standing.Standing.TheVariants.{Folder}
use Rattle.folder_files.specs.Names.{AreMidiFiles}
use Rattle.folder_files.specs.Paths.{path_in}

-- these paths and no others, in this order
abbrev pub AreThese : List (List ℕ) → List (List ℕ) → Type 0
AreThese these paths = paths ≡ these

-- The first of such paths: perhaps none, and perhaps all.
abbrev pub AreFirst : (List (List ℕ) → Type 0) → List (List ℕ) → Type 0
AreFirst AreSuch paths = (paths ≡ []) ⊎ ((rest : List (List ℕ)) × AreSuch (paths ++ rest))

-- Something was seen at this path that is no folder.
pub record IsNoFolder (IsStanding : List ℕ → Standing → Type 0) (word : List ℕ) : Type 0 where
  pub there : Standing
  pub seen : IsStanding word there
  pub other : there ≢ Folder

module _ (is_lenient : Bool) (CannotList : List ℕ → Type 0)
    (HasNames : List ℕ → List (List ℕ) → Type 0) where
  -- The folder was listed, and these are the paths of its files, in byte order.
  pub record AreListed (folder : List ℕ) (paths : List (List ℕ)) : Type 0 where
    pub entries : List (List ℕ)
    pub listed : HasNames folder entries
    pub names : List (List ℕ)
    pub files : AreMidiFiles is_lenient entries names
    pub are : AreThese (map (path_in folder) names) paths

  -- the files in a folder, or its own path where it can't be listed
  abbrev pub ArePathsIn : List ℕ → List (List ℕ) → Type 0
  ArePathsIn folder paths =
      AreListed folder paths ⊎ (CannotList folder × AreThese (folder ∷ []) paths)

  module _ (IsStanding : List ℕ → Standing → Type 0) where
    -- what a word names: the file at this path, or those in the folder that was seen there
    abbrev pub ArePathsAt : List ℕ → List (List ℕ) → Type 0
    ArePathsAt word paths =
        (IsNoFolder IsStanding word × AreThese (word ∷ []) paths)
        ⊎ (IsStanding word Folder × ArePathsIn word paths)

    -- what words name, one after another
    abbrev pub ArePathsOf : List (List ℕ) → List (List ℕ) → Type 0
    ArePathsOf [] paths = AreThese [] paths
    ArePathsOf (word ∷ words) paths =
        (first : List (List ℕ)) × (others : List (List ℕ)) × ArePathsAt word first
        × ArePathsOf words others × AreThese (first ++ others) paths

    -- the first of what a word names, if there is one
    abbrev pub AreNextPaths : List (List ℕ) → List (List ℕ) → Type 0
    AreNextPaths [] paths = AreThese [] paths
    AreNextPaths (word ∷ words) paths = AreFirst (ArePathsAt word) paths

    -- The first of what words name: what some of them name, and the first of what the next one
    -- does.
    pub record AreFirstPathsOf (words paths : List (List ℕ)) : Type 0 where
      pub done : List (List ℕ)
      pub left : List (List ℕ)
      pub split : words ≡ done ++ left
      pub before : List (List ℕ)
      pub last : List (List ℕ)
      pub named : ArePathsOf done before
      pub next : AreNextPaths left last
      pub are : AreThese (before ++ last) paths
