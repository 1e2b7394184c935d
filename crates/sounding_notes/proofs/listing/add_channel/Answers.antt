use Rattle.std.proofs.Common.{◌++◌, ◌∷◌, [], cond, ap, ◌∙◌}
use Rattle.sounding_notes.specs.Kept.{reads_in}
use Rattle.sounding_notes.specs.Sounding.{note_at}
use Rattle.sounding_notes.proofs.Added.{added_none, added_next}
use Rattle.sounding_notes.proofs.Parts.{one_note, channel_done}
use Rattle.sounding_notes.proofs.listing.add_channel.Goals as goal

pub loop-note-init : goal.loop-note-init
loop-note-init c = added_none (one_note (reads_in c.args.notes.now) c.args.target.now c.args.channel) 0 128 _

pub loop-note-preserved : goal.loop-note-preserved
loop-note-preserved c =
    added_next (one_note (reads_in c.args.notes.now) c.args.target.now c.args.channel) 0 _ 128 _ _ _ c.loop-note-test.true c.loop-note.invariant
    (c.in_ok-push_if.ensures ∙ ap (λ b. c.loop-note.found.items ++ cond b (note_at c.args.target.now c.args.channel c.loop-note.note ∷ []) []) c.sounds.ensures)

pub returns : goal.returns
returns c = channel_done (reads_in c.args.notes.now) c.args.target.now c.args.channel _ _ _ c.loop-note-test.false c.loop-note.invariant
