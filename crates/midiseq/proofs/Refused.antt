-- Why the words name no session, from what making it tells.
use Rattle.std.proofs.Common.{◌≡◌, ◌⊎◌, ℕ, List, Option, Some, None, Result, is_some, ap, inl, inr, refl, subst}
use Rattle.std.specs.Prelude.{IfErr, IsSome}
use Rattle.std.proofs.lemmas.Result.{IfErr-weaker}
use Rattle.clap.specs.declared.parser.matches.Found.{Found}
use Rattle.program_tasks.specs.Words.{IsOfWords}
use Rattle.program_tasks.specs.Times.{end_said, IsNoEnd}
use Rattle.program_tasks.specs.declared.end_word.EndWord.{EndWord}
use Rattle.program_tasks.specs.declared.program_fault.ProgramFault.{ProgramFault}
use Rattle.midiseq.specs.Given.{IsEndGiven}
use Rattle.midiseq.specs.Refused.{IsOfEndWord}

of_words : {T : Type 0} (r : Result T ProgramFault) (found : Found) (end : EndWord) (words : List (List ℕ)) → IsEndGiven found end →
    (end_said end ≡ None → IfErr r (IsNoEnd end)) → (IsSome (end_said end) → IfErr r (IsOfWords words)) → IfErr r (λ e. IsOfEndWord found e ⊎ IsOfWords words e)
of_words r found end words given none some = go (end_said end) refl
  where
    go : (o : Option ℕ) → end_said end ≡ o → IfErr r (λ e. IsOfEndWord found e ⊎ IsOfWords words e)
    go None e = IfErr-weaker r _ _ (λ x h. inl (record { end = end; given = given; unsaid = e; told = h })) (none e)
    go (Some n) e = IfErr-weaker r _ _ (λ x h. inr h) (some (ap is_some e))

-- so of the words as they were found
pub of_found : {T : Type 0} (r : Result T ProgramFault) (found : Found) (end : EndWord) (words found-words : List (List ℕ)) → IsEndGiven found end → words ≡ found-words →
    (end_said end ≡ None → IfErr r (IsNoEnd end)) → (IsSome (end_said end) → IfErr r (IsOfWords words)) → IfErr r (λ e. IsOfEndWord found e ⊎ IsOfWords found-words e)
of_found r found end words found-words given same none some = subst (λ ws. IfErr r (λ e. IsOfEndWord found e ⊎ IsOfWords ws e)) same (of_words r found end words given none some)
