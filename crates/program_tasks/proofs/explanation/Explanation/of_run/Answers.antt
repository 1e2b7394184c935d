use Rattle.std.proofs.Common.{◌∙◌, ap}
use Rattle.sounding_notes.specs.Sounding.{sounding}
use Rattle.program_tasks.proofs.Diagnosed.{explained_by}
use Rattle.program_tasks.proofs.explanation.Explanation.of_run.Goals as goal

pub returns : goal.returns
returns c =
    explained_by c.args.run.now c.args.ports.now (record { diagnostics = c.in_ok-diagnostics.field-0; slips = c.in_ok-slips.field-0; losses = c.in_ok-from_slice.field-0; sounding = c.in_ok-sounding_notes.field-0; absent = c.in_ok-absent_ports.field-0 })
    c.in_ok-diagnostics.ensures c.in_ok-slips.ensures (c.in_ok-from_slice.ensures.items ∙ c.as_slice.ensures) (c.in_ok-sounding_notes.ensures ∙ ap sounding c.as_slice-2.ensures) c.in_ok-absent_ports.ensures
