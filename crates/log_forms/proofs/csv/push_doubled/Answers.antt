use Rattle.std.proofs.Common.{◌∙◌, ◌+◌, ◌++◌, ap, sym, refl, List, ℕ}
use Rattle.std.proofs.lemmas.List.{take_rest}
use Rattle.log_forms.specs.Csv.{doubled, is_quote}
use Rattle.log_forms.proofs.Runs.{run_written, rest_written, doubled-stays, quote_found}
use Rattle.log_forms.proofs.csv.push_doubled.Goals as goal

pub loop-at-preserved : goal.loop-at-preserved
loop-at-preserved c =
    let l = c.loop-at in
    let at = c.in-Some.ensures in
    run_written doubled is_quote doubled-stays l.out.items c.extend_from_slice.new.self.items c.extend_from_slice-in-Some.new.self.items l.rest.now _ _ _ c.in-Some.at _
    at l.invariant refl (c.in_ok-extend_from_slice.ensures).items refl
    ((c.in_ok-extend_from_slice-2.ensures).items ∙ ap (λ (xs : List ℕ). c.extend_from_slice.new.self.items ++ xs) (sym (quote_found l.rest.now c.in-Some.at at)))
    (take_rest l.rest.now (c.in-Some.at + 1))

pub returns : goal.returns
returns c =
    let l = c.loop-at in
    rest_written doubled is_quote doubled-stays l.out.items _ l.rest.now _ (c.in_default.ensures) l.invariant (c.in_ok-extend_from_slice-3.ensures).items
