use Rattle.std.proofs.Common.{rules, ◌≡◌, ◌++◌, ap, ◌∙◌}
use Rattle.std.specs.Prelude.{codes}
use Rattle.std.proofs.lemmas.List.{append_assoc}
use Rattle.session_circle.specs.Printed.{closing_text, text_at}
use Rattle.session_circle.proofs.text.push_mending.Goals as goal

pub returns : goal.returns
returns c =
    let start = codes "mend" in
    let between = text_at closing_text c.args.lines.now c.args.inputs.now c.args.place in
    let end = codes ": nobody else may join it\n" in
    let first : c.extend_from_slice.new.self.items ≡ c.args.text.now.items ++ start = search rules in
    let second : c.push_at.new.text.items ≡ c.extend_from_slice.new.self.items ++ between = search rules in
    c.in_ok-extend_from_slice-2.ensures.items
    ∙ ap (λ xs. xs ++ end) (second ∙ ap (λ xs. xs ++ between) first) ∙ append_assoc (c.args.text.now.items ++ start) between end ∙ append_assoc c.args.text.now.items start (between ++ end)
