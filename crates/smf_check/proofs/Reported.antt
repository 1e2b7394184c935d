-- Files that are judged and reported one after another.
use Rattle.std.proofs.Common.{◌≡◌, ℕ, Bool, List, [], ◌∷◌, ◌++◌, ◌∙◌, map, refl, ap, sym, subst, append_assoc, append-nil, inl, inr}
use Rattle.std.specs.List.{AllByRecursion}
use Rattle.std.proofs.lemmas.List.Concat.{flat_map-append}
use Rattle.byte_io.specs.Moved.{Took}
use Rattle.tool_text.specs.Gathered.{IsGathered, TookFirst}
use Rattle.tool_text.proofs.Pieces.{goes-all, goes-none, goes-more, stops-none, stops-more}
use Rattle.smf_check.specs.declared.report.Report.{Report}
use Rattle.smf_check.specs.declared.tally.Tally.{Tally}
use Rattle.smf_check.specs.declared.verdict.Verdict.{Verdict}
use Rattle.smf_check.specs.Named.{AreFirst, AreThese}
use Rattle.smf_check.specs.Checks.{JudgedFile, paths_of, shown, shown_text}
use Rattle.smf_check.specs.Checking.{with_verdicts, with_verdict, HasChecked, IsReported, StopsChecking}

-- ---- lists

map-both : {X Y : Type 0} (f : X → Y) (xs ys : List X) → map f (xs ++ ys) ≡ map f xs ++ map f ys
map-both f [] ys = refl
map-both f (x ∷ xs) ys = ap (λ zs. f x ∷ zs) (map-both f xs ys)

all-both : {X : Type 0} (P : X → Type 0) (xs ys : List X) → AllByRecursion P xs → AllByRecursion P ys → AllByRecursion P (xs ++ ys)
all-both P [] ys h k = k
all-both P (x ∷ xs) ys h k = (h.0, all-both P xs ys h.1 k)

with-both : (tally : Tally) (xs ys : List JudgedFile) → with_verdicts tally (xs ++ ys) ≡ with_verdicts (with_verdicts tally xs) ys
with-both tally [] ys = refl
with-both tally (x ∷ xs) ys = with-both (with_verdict tally x.verdict) xs ys

shown-both : (quiet : Bool) (before : List ℕ) (xs ys : List JudgedFile) → before ++ shown_text quiet (xs ++ ys) ≡ (before ++ shown_text quiet xs) ++ shown_text quiet ys
shown-both quiet before xs ys = ap (λ (zs : List ℕ). before ++ zs) (flat_map-append (shown quiet) xs ys) ∙ sym (append_assoc before (shown_text quiet xs) (shown_text quiet ys))

-- ---- the first of some paths

pub first-none : (ArePaths : List (List ℕ) → Type 0) → AreFirst ArePaths []
first-none ArePaths = inl refl

pub first-all : (ArePaths : List (List ℕ) → Type 0) (paths : List (List ℕ)) → ArePaths paths → AreFirst ArePaths paths
first-all ArePaths paths h = inr ([], subst ArePaths (sym (append-nil paths)) h)

module _ {W : Type 0} (HasTaken : W → List ℕ → Type 0) where
  -- ---- texts

  longer : (old mid : W) (text line all : List ℕ) → IsGathered HasTaken old mid text [] all → IsGathered HasTaken old mid text (line ++ []) (all ++ line)
  longer old mid text line all g = record {
    gained = g.gained;
    took = g.took;
    whole = ap (λ (xs : List ℕ). xs ++ (line ++ [])) (sym (append-nil (g.gained ++ text)) ∙ g.whole) ∙ ap (λ (xs : List ℕ). all ++ xs) (append-nil line);
  }

  pub goes-then : (old mid new : W) (text left line all : List ℕ) → IsGathered HasTaken old mid text [] all → IsGathered HasTaken mid new left [] (text ++ line) → IsGathered HasTaken old new left [] (all ++ line)
  goes-then old mid new text left line all g k = goes-more HasTaken old mid new text (text ++ line) left line [] (all ++ line) (longer old mid text line all g) refl k

  pub stops-then : (old mid new : W) (text line all : List ℕ) → IsGathered HasTaken old mid text [] all → TookFirst HasTaken mid (text ++ line) new → TookFirst HasTaken old (all ++ line) new
  stops-then old mid new text line all g k = stops-more HasTaken old mid new text (text ++ line) line [] (all ++ line) (longer old mid text line all g) refl k

  pub took-then : (old mid new : W) (text line all : List ℕ) → IsGathered HasTaken old mid text [] all → Took HasTaken mid (text ++ line) new → Took HasTaken old (all ++ line) new
  took-then old mid new text line all g k =
      goes-all HasTaken old mid new text (line ++ []) (text ++ line) (all ++ line) (longer old mid text line all g) (ap (λ (xs : List ℕ). text ++ xs) (sym (append-nil line))) k

  -- ---- reports

  reported-none : (old : W) (report : Report) → IsReported HasTaken old old report report []
  reported-none old report = record { quiet = refl; sent = goes-none HasTaken old report.text.items []; counted = refl }

  reported-more : (old mid new : W) (first second third : Report) (xs ys : List JudgedFile) → IsReported HasTaken old mid first second xs → IsReported HasTaken mid new second third ys → IsReported HasTaken old new first third (xs ++ ys)
  reported-more old mid new first second third xs ys h k =
      let sent : IsGathered HasTaken mid new third.text.items [] (second.text.items ++ shown_text first.quiet ys) = subst (λ (q : Bool). IsGathered HasTaken mid new third.text.items [] (second.text.items ++ shown_text q ys)) h.quiet k.sent in
      record {
        quiet = k.quiet ∙ h.quiet;
        sent = subst (λ (all : List ℕ). IsGathered HasTaken old new third.text.items [] all) (sym (shown-both first.quiet first.text.items xs ys))
            (goes-then old mid new second.text.items third.text.items (shown_text first.quiet ys) (first.text.items ++ shown_text first.quiet xs) h.sent sent);
        counted = k.counted ∙ ap (λ (t : Tally). with_verdicts t ys) h.counted ∙ sym (with-both first.tally xs ys);
      }

  stopped-more : (old mid new : W) (first second : Report) (xs ys : List JudgedFile) → IsReported HasTaken old mid first second xs → TookFirst HasTaken mid (second.text.items ++ shown_text second.quiet ys) new →
      TookFirst HasTaken old (first.text.items ++ shown_text first.quiet (xs ++ ys)) new
  stopped-more old mid new first second xs ys h k =
      let stopped : TookFirst HasTaken mid (second.text.items ++ shown_text first.quiet ys) new = subst (λ (q : Bool). TookFirst HasTaken mid (second.text.items ++ shown_text q ys) new) h.quiet k in
      subst (λ (all : List ℕ). TookFirst HasTaken old all new) (sym (shown-both first.quiet first.text.items xs ys))
      (stops-then old mid new second.text.items (shown_text first.quiet ys) (first.text.items ++ shown_text first.quiet xs) h.sent stopped)

  -- ---- files

  module _ (IsVerdictAt : List ℕ → Verdict → Type 0) where
    pub checked-none : (ArePaths : List (List ℕ) → Type 0) (old : W) (report : Report) → ArePaths [] → HasChecked IsVerdictAt ArePaths HasTaken old old report report
    checked-none ArePaths old report h = record { files = []; named = h; judged = tt; reported = reported-none old report }

    pub stops-at-once : (ArePaths : List (List ℕ) → Type 0) (old : W) (before : Report) → ArePaths [] → StopsChecking IsVerdictAt ArePaths HasTaken old old before
    stops-at-once ArePaths old before h = record { files = []; named = h; judged = tt; stopped = stops-none HasTaken old (before.text.items ++ []) }

    -- one file
    pub checked-one : (path : List ℕ) (verdict : Verdict) (old new : W) (before after : Report) → IsVerdictAt path verdict → IsReported HasTaken old new before after (record { path = path; verdict = verdict } ∷ []) →
        HasChecked IsVerdictAt (AreThese (path ∷ [])) HasTaken old new before after
    checked-one path verdict old new before after v r = record { files = record { path = path; verdict = verdict } ∷ []; named = refl; judged = (v, tt); reported = r }

    pub stops-at-one : (path : List ℕ) (verdict : Verdict) (old new : W) (before : Report) → IsVerdictAt path verdict → TookFirst HasTaken old (before.text.items ++ shown_text before.quiet (record { path = path; verdict = verdict } ∷ [])) new →
        StopsChecking IsVerdictAt (AreFirst (AreThese (path ∷ []))) HasTaken old new before
    stops-at-one path verdict old new before v k = record {
      files = record { path = path; verdict = verdict } ∷ [];
      named = first-all (AreThese (path ∷ [])) (path ∷ []) refl;
      judged = (v, tt);
      stopped = k;
    }

    -- the same files, by what else their paths are
    pub checked-as : (ArePaths AreToo : List (List ℕ) → Type 0) (old new : W) (before after : Report) → ((paths : List (List ℕ)) → ArePaths paths → AreToo paths) → HasChecked IsVerdictAt ArePaths HasTaken old new before after →
        HasChecked IsVerdictAt AreToo HasTaken old new before after
    checked-as ArePaths AreToo old new before after f h = record { files = h.files; named = f (paths_of h.files) h.named; judged = h.judged; reported = h.reported }

    pub stops-as : (ArePaths AreToo : List (List ℕ) → Type 0) (old new : W) (before : Report) → ((paths : List (List ℕ)) → ArePaths paths → AreToo paths) → StopsChecking IsVerdictAt ArePaths HasTaken old new before →
        StopsChecking IsVerdictAt AreToo HasTaken old new before
    stops-as ArePaths AreToo old new before f h = record { files = h.files; named = f (paths_of h.files) h.named; judged = h.judged; stopped = h.stopped }

    -- and then others
    pub checked-more : (ArePaths AreOthers AreBoth : List (List ℕ) → Type 0) (old mid new : W) (first second third : Report) → ((xs ys : List (List ℕ)) → ArePaths xs → AreOthers ys → AreBoth (xs ++ ys)) →
        HasChecked IsVerdictAt ArePaths HasTaken old mid first second → HasChecked IsVerdictAt AreOthers HasTaken mid new second third → HasChecked IsVerdictAt AreBoth HasTaken old new first third
    checked-more ArePaths AreOthers AreBoth old mid new first second third f h k = record {
      files = h.files ++ k.files;
      named = subst AreBoth (sym (map-both (λ (file : JudgedFile). file.path) h.files k.files)) (f (paths_of h.files) (paths_of k.files) h.named k.named);
      judged = all-both (λ (file : JudgedFile). IsVerdictAt file.path file.verdict) h.files k.files h.judged k.judged;
      reported = reported-more old mid new first second third h.files k.files h.reported k.reported;
    }

    pub stops-later : (ArePaths AreOthers AreBoth : List (List ℕ) → Type 0) (old mid new : W) (first second : Report) → ((xs ys : List (List ℕ)) → ArePaths xs → AreOthers ys → AreBoth (xs ++ ys)) →
        HasChecked IsVerdictAt ArePaths HasTaken old mid first second → StopsChecking IsVerdictAt AreOthers HasTaken mid new second → StopsChecking IsVerdictAt AreBoth HasTaken old new first
    stops-later ArePaths AreOthers AreBoth old mid new first second f h k = record {
      files = h.files ++ k.files;
      named = subst AreBoth (sym (map-both (λ (file : JudgedFile). file.path) h.files k.files)) (f (paths_of h.files) (paths_of k.files) h.named k.named);
      judged = all-both (λ (file : JudgedFile). IsVerdictAt file.path file.verdict) h.files k.files h.judged k.judged;
      stopped = stopped-more old mid new first second h.files k.files h.reported k.stopped;
    }
