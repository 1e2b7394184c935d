-- Numbers of one byte each.
use Rattle.std.proofs.Common.{◌≡◌, ℕ, zero, suc, ◌+◌, ◌*◌, ◌^◌, List, [], ◌∷◌, ◌++◌, ◌∙◌, length, refl, arith, ap, sym, subst}
use Rattle.std.specs.Prelude.{replicate, ◌==◌, IsTrue}
use Rattle.std.proofs.lemmas.Bool.{eqb-true}
use Rattle.std.specs.Fmt.{decimal}
use Rattle.smf_text.specs.AllTexts.{Shape, Numbers, sum_of, fits, numbers_text, shape_text}
use Rattle.smf_text.specs.Words.{each_text}

-- so many numbers of a byte have so many bytes
pub sum-ones : (n : ℕ) → sum_of (replicate n 1) ≡ n
sum-ones zero = refl
sum-ones (suc n) = let e : sum_of (replicate n 1) ≡ n = sum-ones n in omega arith

pub ones-text : (bytes : List ℕ) → numbers_text (replicate (length bytes) 1) bytes ≡ each_text bytes
ones-text [] = refl
ones-text (b ∷ bytes) = let e : b * 256 ^ 0 + 0 ≡ b = omega arith in rw e (ap (λ (xs : List ℕ). 32 ∷ decimal b ++ xs) (ones-text bytes))

-- the shape of so many numbers of a byte
pub each-shape : (shape : Shape) (n : ℕ) (bytes : List ℕ) → shape ≡ Numbers (replicate n 1) → IsTrue (fits shape (length bytes)) → shape_text shape bytes ≡ each_text bytes
each-shape shape n bytes is h =
    let fit : IsTrue (length bytes == sum_of (replicate n 1)) = subst (λ (s : Shape). IsTrue (fits s (length bytes))) is h in
    let count : length bytes ≡ n = eqb-true (length bytes) (sum_of (replicate n 1)) fit ∙ sum-ones n in
    ap (λ (s : Shape). shape_text s bytes) is ∙ ap (λ (k : ℕ). numbers_text (replicate k 1) bytes) (sym count) ∙ ones-text bytes
