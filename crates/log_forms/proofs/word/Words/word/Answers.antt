use Rattle.std.proofs.Common.{◌∙◌, ◌+◌, ◌∷◌, ap, sym, refl, take, List, ℕ}
use Rattle.std.proofs.lemmas.List.{take_rest}
use Rattle.log_forms.specs.Kept.{words_left}
use Rattle.log_forms.specs.Lines.{is_space}
use Rattle.log_forms.proofs.Cut.{first_part, last_part}
use Rattle.log_forms.proofs.word.Words.word.Goals as goal
use Rattle.log_forms.proofs.word.Words.word.Goals.{then-end-line, else-end-line}

pub returns-clause-some : goal.returns-clause-some
returns-clause-some c =
    let line : List ℕ = c.in_ok-line.line.now in
    let end : ℕ = c.word_len-end.result in
    let at = c.word_len-end.ensures in
    elim c.if-end-line.branch [
      | then-end-line w ↦
          sym c.self.view_is ∙ ap words_left c.in_ok-line.was
          ∙ first_part is_space line (take end line) _ end at.value w.if-end-line.true refl (take_rest line (end + 1))
          ∙ ap (λ r. take end line ∷ words_left r) (sym w.self-is)
      | else-end-line w ↦
          sym c.self.view_is ∙ ap words_left c.in_ok-line.was
          ∙ last_part is_space line (take end line) end at.value at.within w.if-end-line.false refl
          ∙ ap (λ r. take end line ∷ words_left r) (sym w.self-is)
    ]
