use Rattle.std.proofs.Common.{◌∙◌, ap, sym, List, Bool}
use Rattle.seq_state.specs.declared.log.LogEntry.TheVariants.{Delivered}
use Rattle.sounding_notes.specs.Kept.{reads_at, after_entry}
use Rattle.sounding_notes.proofs.Hearing.{heard_at}
use Rattle.sounding_notes.proofs.table.NoteTable.hear.Goals as goal

pub returns-in_ok-hear : goal.returns-in_ok-hear
returns-in_ok-hear c n note =
    let d = c.in-Delivered.delivery in
    heard_at c.self.inside.ports.items d c.index_mut.result.now c.hear.new.self c.place_of.result c.self.invariant c.place_of.ensures.place c.place_of.ensures.small c.place_of.ensures.client c.place_of.ensures.port c.index_mut.ensures.value c.in_ok-hear.ensures n note
    ∙ ap (λ (ports : List (List Bool)). after_entry n (reads_at ports n) (Delivered d)) c.self.view_is
    ∙ ap (after_entry n (reads_at c.args.self.now n)) (sym c.in-Delivered.is)
