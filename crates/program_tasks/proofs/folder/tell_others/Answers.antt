use Rattle.std.specs.Prelude.{string_bytes}
use Rattle.program_tasks.specs.LeftOut.{lost_line}
use Rattle.program_tasks.proofs.Told.{line_next, named_all}
use Rattle.program_tasks.proofs.folder.tell_others.Goals as goal

pub loop-name-preserved : goal.loop-name-preserved
loop-name-preserved g c =
    line_next g.N.Notes.HasTold (λ name. lost_line c.args.explains (record { name = string_bytes name; why = c.args.why })) c.args.names.now c.loop-name.name-index _ _ _ _ c.loop-name-test.true c.name-item.is c.loop-name.invariant
    (rw (← c.as_str.ensures.value) c.tell_one.ensures)

pub returns : goal.returns
returns g c = named_all g.N.Notes.HasTold c.args.explains c.args.why string_bytes c.args.names.now c.loop-name.name-index _ _ c.loop-name.auto.name-index-end c.loop-name-test.false c.loop-name.invariant
