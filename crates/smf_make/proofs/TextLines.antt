-- The lines of a text, one after another.
use Rattle.std.proofs.Common.{◌≡◌, ℕ, ◌+◌, ◌<◌, List, [], ◌∷◌, length, take, drop, refl, sym, ap, ◌∙◌, arith}
use Rattle.std.specs.List.{position_or_len}
use Rattle.std.specs.Prelude.{◌==◌, false}
use Rattle.std.proofs.lemmas.List.Splits.{length-slice_split}
use Rattle.script_text.specs.Words.{is_line_end, lines}
use Rattle.script_text.proofs.LineByLine.{first_of_lines}
use Rattle.script_text.proofs.Places.{uncut}
use Rattle.smf_make.specs.SaidFiles.{without_empty_last}

-- a text has a first line
pub record HasLine (ls : List (List ℕ)) : Type 0 where
  pub line : List ℕ
  pub more : List (List ℕ)
  pub is : ls ≡ line ∷ more

pub some-line : (text : List ℕ) → HasLine (lines text)
some-line text = go (lines text) (let n = length-slice_split is_line_end text in omega (arith, n))
  where
    go : (ls : List (List ℕ)) → 0 < length ls → HasLine ls
    go [] h = absurd (omega arith)
    go (line ∷ more) h = record { line = line; more = more; is = refl }

-- a line that another follows
pub line-more : (text line next : List ℕ) (n : ℕ) → n ≡ position_or_len is_line_end text → n < length text → line ≡ take n text → next ≡ drop (n + 1) text → without_empty_last (lines text) ≡ line ∷ without_empty_last (lines next)
line-more text line next n e l f g =
    let after = some-line next in
    ap without_empty_last (sym (first_of_lines text line next n e l f g) ∙ ap (λ (xs : List (List ℕ)). line ∷ xs) after.is)
    ∙ ap (λ (xs : List (List ℕ)). line ∷ without_empty_last xs) (sym after.is)

-- the last line
pub line-last : (text : List ℕ) → position_or_len is_line_end text ≡ length text → (length text == 0) ≡ false → without_empty_last (lines text) ≡ text ∷ []
line-last [] e some = let bad : ⊥ = cc in absurd bad
line-last (b ∷ text) e some = ap without_empty_last (uncut is_line_end (b ∷ text) e)
