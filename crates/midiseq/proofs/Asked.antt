-- What is given by a word, and what without one.
use Rattle.std.proofs.Common.{◌≡◌, ◌∙◌, ℕ, Bool, List, Option, Some, None, sym, subst}
use Rattle.std.specs.Prelude.{MatchOption}
use Rattle.clap.specs.declared.parser.matches.Found.{Found}
use Rattle.midiseq.specs.Given.{IsFlag}

pub with_word : (o : Option (List ℕ)) (P : Type 0) (Q : List ℕ → Type 0) (word : List ℕ) → o ≡ Some word → Q word → MatchOption o P Q
with_word o P Q word is given = subst (λ x. MatchOption x P Q) (sym is) given

pub without_word : (o : Option (List ℕ)) (P : Type 0) (Q : List ℕ → Type 0) → o ≡ None → P → MatchOption o P Q
without_word o P Q is given = subst (λ x. MatchOption x P Q) (sym is) given

-- a flag that was tested
pub flag_is : (found : Found) (id : List ℕ) (given known : Bool) → given ≡ known → IsFlag found id given → IsFlag found id known
flag_is found id given known e f = record { absent = λ n. sym e ∙ f.absent n; present = λ p. sym e ∙ f.present p }
