use Rattle.std.proofs.Common.{sym, ap, ◌∙◌}
use Rattle.seq_state.specs.State.{with_entry}
use Rattle.seq_state.proofs.Effects.{put-same}
use Rattle.seq_settle.proofs.keys.add_key.Goals as goal

pub returns-in-None : goal.returns-in-None
returns-in-None g c =
    let m = g.A.Agenda.content c.args.agenda.now in
    sym (put-same m c.args.cell) ∙ ap (with_entry m c.args.cell) (c.requires.absent ∙ sym c.in-None.is)
