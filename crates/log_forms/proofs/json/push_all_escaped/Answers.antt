use Rattle.std.proofs.Common.{◌+◌, refl}
use Rattle.std.proofs.lemmas.List.{take_rest}
use Rattle.log_forms.specs.Json.{escaped, needs_escape}
use Rattle.log_forms.proofs.Runs.{run_written, rest_written, escaped-stays}
use Rattle.log_forms.proofs.json.push_all_escaped.Goals as goal

pub loop-at-preserved : goal.loop-at-preserved
loop-at-preserved c =
    let l = c.loop-at in
    run_written escaped needs_escape escaped-stays l.out.items c.extend_from_slice.new.self.items c.push_escaped.new.out.items l.rest.now _ _ _ c.in-Some.at _
    (c.in-Some.ensures) l.invariant refl (c.in_ok-extend_from_slice.ensures).items refl (c.in_ok-push_escaped.ensures) (take_rest l.rest.now (c.in-Some.at + 1))

pub returns : goal.returns
returns c =
    let l = c.loop-at in
    rest_written escaped needs_escape escaped-stays l.out.items _ l.rest.now _ (c.in_default.ensures) l.invariant (c.in_ok-extend_from_slice-2.ensures).items
