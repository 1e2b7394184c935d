-- Representation: How far a check of files has gone.
use Rattle.std.specs.Prelude.{◌≡◌, ◌==◌, ◌&&◌, ℕ, Bool, if◌then◌else◌, List, [], ◌∷◌, ◌++◌, codes}
use Rattle.std.specs.Fmt.{decimal}
use Rattle.byte_io.specs.Memory.{one_more}
use Rattle.tool_text.specs.Gathered.{IsGathered, TookFirst}
use Rattle.smf_check.specs.declared.answer.CheckAnswer.{CheckAnswer}
use Rattle.smf_check.specs.declared.answer.CheckAnswer.TheVariants.{AllWhole, SomeNot}
use Rattle.smf_check.specs.declared.report.Report.{Report}
use Rattle.smf_check.specs.declared.tally.Tally.{Tally}
use Rattle.smf_check.specs.declared.verdict.Verdict.{Verdict}
use Rattle.smf_check.specs.declared.verdict.Verdict.TheVariants.{Whole, Forgiven, Damaged, Unread}
use Rattle.smf_check.specs.Checks.{JudgedFile, paths_of, shown_text, AreJudged}

-- ---- counts

-- before the first file
abbrev pub no_verdicts : Tally
no_verdicts = record { whole = 0; damaged = 0; unread = 0 }

-- one file more
abbrev pub with_verdict : Tally → Verdict → Tally
with_verdict tally Whole = record tally { whole = one_more tally.whole }
with_verdict tally (Forgiven status program) = record tally { whole = one_more tally.whole }
with_verdict tally (Damaged fault) = record tally { damaged = one_more tally.damaged }
with_verdict tally (Unread there) = record tally { unread = one_more tally.unread }

-- these files more
abbrev pub with_verdicts : Tally → List JudgedFile → Tally
with_verdicts tally [] = tally
with_verdicts tally (file ∷ files) = with_verdicts (with_verdict tally file.verdict) files

-- the last line, by the counts
abbrev pub tally_text : Tally → List ℕ
tally_text tally =
    codes "ok " ++ (decimal tally.whole
    ++ (codes " damaged " ++ (decimal tally.damaged
    ++ (codes " unread " ++ (decimal tally.unread ++ 10 ∷ [])))))

-- with `quiet` there is none
abbrev pub end_text : Bool → Tally → List ℕ
end_text quiet tally = if quiet then [] else tally_text tally

-- the answer, by the counts
abbrev pub answer_by : Tally → CheckAnswer
answer_by tally = if (tally.damaged == 0 && tally.unread == 0) then AllWhole else SomeNot

-- ---- what was gathered and written

-- These files were counted, and their lines were gathered or written behind what was there.
pub record IsReported {W : Type 0} (HasTaken : W → List ℕ → Type 0) (old new : W)
    (before after : Report) (files : List JudgedFile) : Type 0 where
  pub quiet : after.quiet ≡ before.quiet
  pub sent : IsGathered HasTaken old new after.text.items []
      (before.text.items ++ shown_text before.quiet files)
  pub counted : after.tally ≡ with_verdicts before.tally files

module _ (IsVerdictAt : List ℕ → Verdict → Type 0) {W : Type 0}
    (ArePaths : List (List ℕ) → Type 0) (HasTaken : W → List ℕ → Type 0) (old new : W) where
  -- Files at these paths were judged, and reported.
  pub record HasChecked (before after : Report) : Type 0 where
    pub files : List JudgedFile
    pub named : ArePaths (paths_of files)
    pub judged : AreJudged IsVerdictAt files
    pub reported : IsReported HasTaken old new before after files

  -- They were judged, and a sink took the first part of what was gathered before and their lines.
  pub record StopsChecking (before : Report) : Type 0 where
    pub files : List JudgedFile
    pub named : ArePaths (paths_of files)
    pub judged : AreJudged IsVerdictAt files
    pub stopped : TookFirst HasTaken old
        (before.text.items ++ shown_text before.quiet files) new
