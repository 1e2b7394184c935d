-- Definition: What a check of files prints, and what it answers.
use Rattle.std.specs.Prelude.{◌≡◌, ◌-◌, ◌^◌, ◌⊎◌, ◌&&◌, ℕ, Bool, if◌then◌else◌, List, [], ◌∷◌, ◌++◌, length, map, min, codes}
use Rattle.std.specs.List.{AllByRecursion, filter, flat_map, list_all}
use Rattle.std.specs.Fmt.{decimal}
use Rattle.byte_io.specs.Moved.{Took}
use Rattle.folder_files.specs.Escaped.{escaped_text}
use Rattle.tool_text.specs.Gathered.{TookFirst}
use Rattle.smf_check.specs.declared.answer.CheckAnswer.{CheckAnswer}
use Rattle.smf_check.specs.declared.answer.CheckAnswer.TheVariants.{AllWhole, SomeNot}
use Rattle.smf_check.specs.declared.verdict.Verdict.{Verdict}
use Rattle.smf_check.specs.Verdicts.{finds_whole, finds_damaged, finds_unread, verdict_text}

-- a file by its path, with the verdict on it
pub record JudgedFile : Type 0 where
  pub path : List ℕ
  pub verdict : Verdict

-- the line of a file: `songs/b.mid: 12 NoStatus 30`
abbrev pub judged_text : JudgedFile → List ℕ
judged_text file =
    escaped_text file.path ++ (codes ": " ++ (verdict_text file.verdict ++ 10 ∷ []))

-- its line, where it has one: with `quiet` only a file that is not whole
abbrev pub shown : Bool → JudgedFile → List ℕ
shown quiet file = if (quiet && finds_whole file.verdict) then [] else judged_text file

-- the lines of files, one after another
abbrev pub shown_text : Bool → List JudgedFile → List ℕ
shown_text quiet files = flat_map (shown quiet) files

-- how many have such a verdict; beyond 2^64 - 1 it is counted no further
abbrev pub how_many : (Verdict → Bool) → List JudgedFile → ℕ
how_many test files = min (length (filter (λ file. test file.verdict) files)) (2 ^ 64 - 1)

-- the last line: `ok 1 damaged 1 unread 1`
abbrev pub counts_text : List JudgedFile → List ℕ
counts_text files =
    codes "ok " ++ (decimal (how_many finds_whole files)
    ++ (codes " damaged " ++ (decimal (how_many finds_damaged files)
    ++ (codes " unread " ++ (decimal (how_many finds_unread files) ++ 10 ∷ [])))))

-- a line for each file, and the last line; with `quiet` only those of files that are not whole
abbrev pub check_text : Bool → List JudgedFile → List ℕ
check_text quiet files = shown_text quiet files ++ (if quiet then [] else counts_text files)

-- whether each file is whole
abbrev pub check_answer : List JudgedFile → CheckAnswer
check_answer files =
    if list_all (λ file. finds_whole file.verdict) files then AllWhole else SomeNot

-- where the files stand
abbrev pub paths_of : List JudgedFile → List (List ℕ)
paths_of files = map (λ file. file.path) files

module _ (IsVerdictAt : List ℕ → Verdict → Type 0) where
  -- each has its verdict at its path
  abbrev pub AreJudged : List JudgedFile → Type 0
  AreJudged files = AllByRecursion (λ file. IsVerdictAt file.path file.verdict) files

  -- Each of these files was judged, a sink took the lines of all of them, and this is the answer.
  pub record IsChecked {W : Type 0} (ArePaths : List (List ℕ) → Type 0)
      (HasTaken : W → List ℕ → Type 0) (quiet : Bool) (answer : CheckAnswer)
      (old new : W) : Type 0 where
    pub files : List JudgedFile
    pub named : ArePaths (paths_of files)
    pub judged : AreJudged files
    pub took : Took HasTaken old (check_text quiet files) new
    pub answered : answer ≡ check_answer files

  -- The first of these files were judged, and a sink took the first part of their lines; or each
  -- was, and it took the first part of all that is printed.
  pub record IsCheckedInPart {W : Type 0} (ArePaths AreFirstPaths : List (List ℕ) → Type 0)
      (HasTaken : W → List ℕ → Type 0) (quiet : Bool) (old new : W) : Type 0 where
    pub files : List JudgedFile
    pub judged : AreJudged files
    pub stopped : (AreFirstPaths (paths_of files)
        × TookFirst HasTaken old (shown_text quiet files) new)
        ⊎ (ArePaths (paths_of files) × TookFirst HasTaken old (check_text quiet files) new)
