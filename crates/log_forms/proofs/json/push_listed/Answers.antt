use Rattle.std.proofs.Common.{◌∙◌, ◌++◌, ap, append_assoc, List, ℕ}
use Rattle.std.specs.List.{flat_map}
use Rattle.std.specs.Prelude.{codes}
use Rattle.log_forms.specs.Json.{escaped}
use Rattle.log_forms.proofs.json.push_listed.Goals as goal

pub returns : goal.returns
returns c =
    let old = c.args.out.now.items in
    let text = flat_map escaped c.args.text.now in
    let front = codes "{\"entry\":\"list\",\"text\":\"" in
    c.in_ok-extend_from_slice-2.ensures.items
    ∙ ap (λ (xs : List ℕ). xs ++ codes "\"}\n") (c.in_ok-push_all_escaped.ensures ∙ ap (λ (xs : List ℕ). xs ++ text) c.in_ok-extend_from_slice.ensures.items)
    ∙ append_assoc (old ++ front) text (codes "\"}\n")
    ∙ append_assoc old front (text ++ codes "\"}\n")
