-- Words that are written with blanks between them.
use Rattle.std.proofs.Common.{◌≡◌, ℕ, Bool, true, false, not, cond, List, [], ◌∷◌, ◌++◌, append-nil, refl, sym, ap, ◌∙◌}
use Rattle.std.specs.Prelude.{if◌then◌else◌}
use Rattle.std.specs.List.{AllByRecursion, filter, slice_split, onto_first}
use Rattle.std.proofs.lemmas.List.Splits.{slice_split-cons_yes, slice_split-cons_no}
use Rattle.script_text.specs.Words.{is_blank, is_empty, words}
use Rattle.smf_make.specs.SaidEvents.{unindented, from_blank, behind_word}

-- none passes the test
abbrev pub AreFree : (ℕ → Bool) → List ℕ → Type 0
AreFree p bytes = AllByRecursion (λ b. p b ≡ false) bytes

pub split-at : (p : ℕ → Bool) (w : List ℕ) (y : ℕ) (rest : List ℕ) → AreFree p w → p y ≡ true → slice_split p (w ++ y ∷ rest) ≡ w ∷ slice_split p rest
split-at p [] y rest f e = slice_split-cons_yes p y rest e
split-at p (b ∷ w) y rest f e = slice_split-cons_no p b (w ++ y ∷ rest) f.0 ∙ ap (onto_first b) (split-at p w y rest f.1 e)

split-none : (p : ℕ → Bool) (w : List ℕ) → AreFree p w → slice_split p w ≡ w ∷ []
split-none p [] f = refl
split-none p (b ∷ w) f = slice_split-cons_no p b w f.0 ∙ ap (onto_first b) (split-none p w f.1)

-- a byte or more, and no blank
pub record IsWord (w : List ℕ) : Type 0 where
  pub some : is_empty w ≡ false
  pub solid : AreFree is_blank w

-- nothing, or a blank first
abbrev pub IsSpaced : List ℕ → Type 0
IsSpaced [] = Unit {0}
IsSpaced (b ∷ rest) = is_blank b ≡ true

kept : (w : List ℕ) (parts : List (List ℕ)) → is_empty w ≡ false → filter (λ x. not (is_empty x)) (w ∷ parts) ≡ w ∷ filter (λ x. not (is_empty x)) parts
kept w parts e = ap (λ (t : Bool). cond (not t) (w ∷ filter (λ x. not (is_empty x)) parts) (filter (λ x. not (is_empty x)) parts)) e

pub words-blank : (b : ℕ) (rest : List ℕ) → is_blank b ≡ true → words (b ∷ rest) ≡ words rest
words-blank b rest e = ap (filter (λ x. not (is_empty x))) (slice_split-cons_yes is_blank b rest e)

-- a word, and those behind it
pub words-then : (w rest : List ℕ) → IsWord w → IsSpaced rest → words (w ++ rest) ≡ w ∷ words rest
words-then w [] is spaced =
    ap words (append-nil w) ∙ ap (filter (λ x. not (is_empty x))) (split-none is_blank w is.solid) ∙ kept w [] is.some
words-then w (b ∷ rest) is spaced =
    ap (filter (λ x. not (is_empty x))) (split-at is_blank w b rest is.solid spaced) ∙ kept w (slice_split is_blank rest) is.some
    ∙ ap (λ (ws : List (List ℕ)). w ∷ ws) (sym (words-blank b rest spaced))

pub words-only : (w : List ℕ) → IsWord w → words w ≡ w ∷ []
words-only w is = ap words (sym (append-nil w)) ∙ words-then w [] is tt

-- ---- what stands behind a word

from-blank : (rest : List ℕ) → IsSpaced rest → from_blank rest ≡ rest
from-blank [] spaced = refl
from-blank (b ∷ rest) spaced = ap (λ (t : Bool). if t then (b ∷ rest) else from_blank rest) spaced

from-word : (w rest : List ℕ) → AreFree is_blank w → IsSpaced rest → from_blank (w ++ rest) ≡ rest
from-word [] rest f spaced = from-blank rest spaced
from-word (b ∷ w) rest f spaced = ap (λ (t : Bool). if t then (b ∷ (w ++ rest)) else from_blank (w ++ rest)) f.0 ∙ from-word w rest f.1 spaced

pub behind-then : (w rest : List ℕ) → IsWord w → IsSpaced rest → behind_word (w ++ rest) ≡ rest
behind-then [] rest is spaced = let e : is_empty [] ≡ false = is.some in let bad : ⊥ = cc in absurd bad
behind-then (b ∷ w) rest is spaced =
    let solid : AreFree is_blank (b ∷ w) = is.solid in
    ap (λ (t : Bool). from_blank (if t then unindented (w ++ rest) else (b ∷ (w ++ rest)))) solid.0 ∙ from-word (b ∷ w) rest is.solid spaced
