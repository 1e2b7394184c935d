use Rattle.std.proofs.Common.{◌∙◌, ◌+◌, ◌<◌, ◌∷◌, ap, sym, refl, take, length, List, ℕ}
use Rattle.std.proofs.lemmas.List.{take_rest}
use Rattle.log_forms.specs.Lines.{lines}
use Rattle.log_forms.proofs.Cut.{first_line, last_line, not_empty}
use Rattle.log_forms.proofs.line.Lines.next_line.Goals as goal
use Rattle.log_forms.proofs.line.Lines.next_line.Goals.{then-end-text, else-end-text}

pub returns-clause-some : goal.returns-clause-some
returns-clause-some c =
    let text : List ℕ = c.self.inside.rest.now in
    let end : ℕ = c.line_len-end.result in
    let at = c.line_len-end.ensures in
    let some : 0 < length text = not_empty text (sym (c.if-is_empty.ensures)) in
    elim c.if-end-text.branch [
      | then-end-text w ↦
          sym c.self.view_is
          ∙ first_line text (take end text) _ end at.value w.if-end-text.true refl (take_rest text (end + 1))
          ∙ ap (λ r. take end text ∷ lines r.now) (sym w.self-is)
      | else-end-text w ↦
          sym c.self.view_is
          ∙ last_line text (take end text) _ end at.value some at.within w.if-end-text.false refl (take_rest text end)
          ∙ ap (λ r. take end text ∷ lines r.now) (sym w.self-is)
    ]
