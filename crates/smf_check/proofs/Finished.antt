-- What a whole check printed and answered.
use Rattle.std.proofs.Common.{◌≡◌, ℕ, Bool, List, [], ◌++◌, ◌∙◌, ap, subst, inl, inr}
use Rattle.std.specs.Prelude.{Result, Ok, Err, IfOk, OnOk}
use Rattle.byte_io.specs.Moved.{Took}
use Rattle.tool_text.specs.Gathered.{IsGathered, TookFirst}
use Rattle.smf_check.specs.declared.answer.CheckAnswer.{CheckAnswer}
use Rattle.smf_check.specs.declared.report.Report.{Report}
use Rattle.smf_check.specs.declared.tally.Tally.{Tally}
use Rattle.smf_check.specs.declared.verdict.Verdict.{Verdict}
use Rattle.smf_check.specs.Checks.{JudgedFile, check_text, shown_text, IsChecked, IsCheckedInPart}
use Rattle.smf_check.specs.Checking.{answer_by, end_text, no_verdicts, with_verdicts, HasChecked, IsReported, StopsChecking}
use Rattle.smf_check.proofs.Counted.{answered, last-line}
use Rattle.smf_check.proofs.Reported.{stops-then, took-then}

-- what follows of a value from a fact that holds wherever there is one, and one of the value
pub if-ok-both : {T E P : Type 0} {Q R : T → Type 0} (r : Result T E) → ((x : T) → P → Q x → R x) → OnOk r P → IfOk r Q → IfOk r R
if-ok-both (Ok x) f p q = f x p q
if-ok-both (Err e) f p q = tt

module _ {W : Type 0} (HasTaken : W → List ℕ → Type 0) (quiet : Bool) (first second : Report) (said : first.quiet ≡ quiet) (empty : first.text.items ≡ []) (none : first.tally ≡ no_verdicts) where
  sent : (old mid : W) (files : List JudgedFile) → IsReported HasTaken old mid first second files → IsGathered HasTaken old mid second.text.items [] (shown_text quiet files)
  sent old mid files r = subst (IsGathered HasTaken old mid second.text.items []) (ap (λ (xs : List ℕ). xs ++ shown_text first.quiet files) empty ∙ ap (λ q. shown_text q files) said) r.sent

  tallied : (old mid : W) (files : List JudgedFile) → IsReported HasTaken old mid first second files → second.tally ≡ with_verdicts no_verdicts files
  tallied old mid files r = r.counted ∙ ap (λ (t : Tally). with_verdicts t files) none

  ended : (old mid : W) (files : List JudgedFile) → IsReported HasTaken old mid first second files → shown_text quiet files ++ end_text second.quiet second.tally ≡ check_text quiet files
  ended old mid files r = ap (λ (xs : List ℕ). shown_text quiet files ++ xs)
      (ap (λ q. end_text q second.tally) (r.quiet ∙ said) ∙ ap (end_text quiet) (tallied old mid files r) ∙ last-line quiet files)

  module _ (IsVerdictAt : List ℕ → Verdict → Type 0) (ArePaths : List (List ℕ) → Type 0) (old mid new : W) where
    pub checked : (answer : CheckAnswer) → HasChecked IsVerdictAt ArePaths HasTaken old mid first second → Took HasTaken mid (second.text.items ++ end_text second.quiet second.tally) new → answer ≡ answer_by second.tally →
        IsChecked IsVerdictAt ArePaths HasTaken quiet answer old new
    checked answer h k a = record {
      files = h.files;
      named = h.named;
      judged = h.judged;
      took = subst (λ (all : List ℕ). Took HasTaken old all new) (ended old mid h.files h.reported)
          (took-then HasTaken old mid new second.text.items (end_text second.quiet second.tally) (shown_text quiet h.files) (sent old mid h.files h.reported) k);
      answered = a ∙ ap answer_by (tallied old mid h.files h.reported) ∙ answered h.files;
    }

    pub stops-at-end : (AreFirstPaths : List (List ℕ) → Type 0) → HasChecked IsVerdictAt ArePaths HasTaken old mid first second → TookFirst HasTaken mid (second.text.items ++ end_text second.quiet second.tally) new → IsCheckedInPart IsVerdictAt ArePaths AreFirstPaths HasTaken quiet old new
    stops-at-end AreFirstPaths h k = record {
      files = h.files;
      judged = h.judged;
      stopped = inr (
        h.named,
        subst (λ (all : List ℕ). TookFirst HasTaken old all new) (ended old mid h.files h.reported)
            (stops-then HasTaken old mid new second.text.items (end_text second.quiet second.tally) (shown_text quiet h.files) (sent old mid h.files h.reported) k),
      );
    }

    pub stops-before : (AreFirstPaths : List (List ℕ) → Type 0) → StopsChecking IsVerdictAt AreFirstPaths HasTaken old new first → IsCheckedInPart IsVerdictAt ArePaths AreFirstPaths HasTaken quiet old new
    stops-before AreFirstPaths h = record {
      files = h.files;
      judged = h.judged;
      stopped = inl (h.named, subst (λ (all : List ℕ). TookFirst HasTaken old all new) (ap (λ (xs : List ℕ). xs ++ shown_text first.quiet h.files) empty ∙ ap (λ q. shown_text q h.files) said) h.stopped);
    }
