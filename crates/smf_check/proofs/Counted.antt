-- How many files have which verdict, counted one after another.
use Rattle.std.proofs.Common.{◌≡◌, ◌≤◌, ◌+◌, ◌-◌, ◌^◌, ◌&&◌, ℕ, suc, Bool, true, false, cond, List, [], ◌∷◌, ◌∙◌, length, refl, ap, sym, arith}
use Rattle.std.specs.Prelude.{◌==◌, min, if◌then◌else◌}
use Rattle.std.specs.List.{filter, list_all}
use Rattle.byte_io.specs.Memory.{one_more}
use Rattle.smf_check.specs.declared.answer.CheckAnswer.TheVariants.{AllWhole, SomeNot}
use Rattle.smf_check.specs.declared.tally.Tally.{Tally}
use Rattle.smf_check.specs.declared.verdict.Verdict.{Verdict}
use Rattle.smf_check.specs.declared.verdict.Verdict.TheVariants.{Whole, Forgiven, Damaged, Unread}
use Rattle.smf_check.specs.Verdicts.{finds_whole, finds_damaged, finds_unread}
use Rattle.smf_check.specs.Checks.{JudgedFile, check_answer, counts_text, how_many}
use Rattle.smf_check.specs.Checking.{answer_by, end_text, no_verdicts, with_verdicts, with_verdict}

abbrev most : ℕ
most = 2 ^ 64 - 1

-- ---- one count

min-most : (n m : ℕ) → n ≤ m → n ≡ min (n + 0) m
min-most n m l = grind arith

min-within : (n m : ℕ) → min n m ≤ m
min-within n m = grind arith

min-twice : (n k m : ℕ) → min (min (n + 1) m + k) m ≡ min (n + suc k) m
min-twice n k m = grind arith

module _ (count : Tally → ℕ) (test : Verdict → Bool) (one : (tally : Tally) (verdict : Verdict) → count (with_verdict tally verdict) ≡ cond (test verdict) (one_more (count tally)) (count tally)) where
  counted-within : (b : Bool) (n : ℕ) → n ≤ most → cond b (one_more n) n ≤ most
  counted-within true n l = min-within (n + 1) most
  counted-within false n l = l

  counted-one : (b : Bool) (n : ℕ) (file : JudgedFile) (files : List JudgedFile) → min (cond b (one_more n) n + length files) most ≡ min (n + length (cond b (file ∷ files) files)) most
  counted-one true n file files = min-twice n (length files) most
  counted-one false n file files = refl

  counted-after : (files : List JudgedFile) (tally : Tally) → count tally ≤ most → count (with_verdicts tally files) ≡ min (count tally + length (filter (λ file. test file.verdict) files)) most
  counted-after [] tally l = min-most (count tally) most l
  counted-after (file ∷ files) tally l =
      let within : count (with_verdict tally file.verdict) ≤ most = rw (one tally file.verdict) (counted-within (test file.verdict) (count tally) l) in
      counted-after files (with_verdict tally file.verdict) within
      ∙ ap (λ n. min (n + length (filter (λ f. test f.verdict) files)) most) (one tally file.verdict)
      ∙ counted-one (test file.verdict) (count tally) file (filter (λ f. test f.verdict) files)

  counted-all : count no_verdicts ≡ 0 → (files : List JudgedFile) → count (with_verdicts no_verdicts files) ≡ how_many test files
  counted-all none files =
      let none_before : count no_verdicts + length (filter (λ file. test file.verdict) files) ≡ length (filter (λ file. test file.verdict) files) = omega (arith, none) in
      counted-after files no_verdicts (omega (arith, none)) ∙ ap (λ n. min n most) none_before

whole-one : (tally : Tally) (verdict : Verdict) → (with_verdict tally verdict).whole ≡ cond (finds_whole verdict) (one_more tally.whole) tally.whole
whole-one tally Whole = refl
whole-one tally (Forgiven status program) = refl
whole-one tally (Damaged fault) = refl
whole-one tally (Unread there) = refl

damaged-one : (tally : Tally) (verdict : Verdict) → (with_verdict tally verdict).damaged ≡ cond (finds_damaged verdict) (one_more tally.damaged) tally.damaged
damaged-one tally Whole = refl
damaged-one tally (Forgiven status program) = refl
damaged-one tally (Damaged fault) = refl
damaged-one tally (Unread there) = refl

unread-one : (tally : Tally) (verdict : Verdict) → (with_verdict tally verdict).unread ≡ cond (finds_unread verdict) (one_more tally.unread) tally.unread
unread-one tally Whole = refl
unread-one tally (Forgiven status program) = refl
unread-one tally (Damaged fault) = refl
unread-one tally (Unread there) = refl

-- all three
all-counted : (files : List JudgedFile) → with_verdicts no_verdicts files ≡ record { whole = how_many finds_whole files; damaged = how_many finds_damaged files; unread = how_many finds_unread files }
all-counted files =
    let of : ℕ → ℕ → ℕ → Tally = λ w d u. record { whole = w; damaged = d; unread = u } in
    let counts : Tally = with_verdicts no_verdicts files in
    ap (λ w. of w counts.damaged counts.unread) (counted-all (λ t. t.whole) finds_whole whole-one refl files)
    ∙ ap (λ d. of (how_many finds_whole files) d counts.unread) (counted-all (λ t. t.damaged) finds_damaged damaged-one refl files)
    ∙ ap (λ u. of (how_many finds_whole files) (how_many finds_damaged files) u) (counted-all (λ t. t.unread) finds_unread unread-one refl files)

pub last-line : (quiet : Bool) (files : List JudgedFile) → end_text quiet (with_verdicts no_verdicts files) ≡ (if quiet then [] else counts_text files)
last-line quiet files = ap (end_text quiet) (all-counted files)

-- ---- the answer

and-false : (b : Bool) → false ≡ (b && false)
and-false true = refl
and-false false = refl

some-counted : (n : ℕ) → false ≡ (suc n == 0)
some-counted n = grind arith

all-whole : (files : List JudgedFile) → list_all (λ file. finds_whole file.verdict) files ≡ (length (filter (λ file. finds_damaged file.verdict) files) == 0 && length (filter (λ file. finds_unread file.verdict) files) == 0)
all-whole [] = refl
all-whole (file ∷ files) = go (all-whole files) file.verdict
  where
    damaged : List JudgedFile
    damaged = filter (λ f. finds_damaged f.verdict) files

    unread : List JudgedFile
    unread = filter (λ f. finds_unread f.verdict) files

    go : list_all (λ f. finds_whole f.verdict) files ≡ (length damaged == 0 && length unread == 0) → (v : Verdict) → (finds_whole v && list_all (λ f. finds_whole f.verdict) files) ≡ (length (cond (finds_damaged v) (file ∷ damaged) damaged) == 0 && length (cond (finds_unread v) (file ∷ unread) unread) == 0)
    go others Whole = others
    go others (Forgiven status program) = others
    go others (Damaged fault) = ap (λ b. b && (length unread == 0)) (some-counted (length damaged))
    go others (Unread there) = and-false (length damaged == 0) ∙ ap (λ b. (length damaged == 0) && b) (some-counted (length unread))

none-counted : (n : ℕ) → (min n most == 0) ≡ (n == 0)
none-counted n = grind arith

pub answered : (files : List JudgedFile) → answer_by (with_verdicts no_verdicts files) ≡ check_answer files
answered files =
    ap answer_by (all-counted files)
    ∙ ap (λ b. if b then AllWhole else SomeNot) (ap (λ b. b && (how_many finds_unread files == 0)) (none-counted (length (filter (λ f. finds_damaged f.verdict) files)))
    ∙ ap (λ b. (length (filter (λ f. finds_damaged f.verdict) files) == 0) && b) (none-counted (length (filter (λ f. finds_unread f.verdict) files))) ∙ sym (all-whole files))
