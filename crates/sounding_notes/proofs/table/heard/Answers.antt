use Rattle.std.proofs.Common.{◌∙◌, ap, sym, take}
use Rattle.sounding_notes.specs.Kept.{after_entry}
use Rattle.sounding_notes.specs.Sounding.{sounds}
use Rattle.sounding_notes.proofs.Hearing.{sounds_more}
use Rattle.sounding_notes.proofs.table.heard.Goals as goal

pub loop-entry-preserved : goal.loop-entry-preserved
loop-entry-preserved c n note =
    c.in_ok-hear.ensures n note
    ∙ ap (λ b. after_entry n b c.entry-item.result) (c.loop-entry.invariant n note)
    ∙ ap (after_entry n (sounds (take c.loop-entry.entry-index c.args.entries.now) n)) c.entry-item.is
    ∙ sym (sounds_more n c.args.entries.now c.loop-entry.entry-index c.entry-item.result c.loop-entry-test.true)
