use Rattle.std.specs.List.{filter}
use Rattle.sounding_notes.specs.Kept.{reads_in}
use Rattle.sounding_notes.specs.Sounding.{notes_of_channel}
use Rattle.sounding_notes.proofs.Added.{added_none, added_next}
use Rattle.sounding_notes.proofs.Parts.{port_done, silent_port}
use Rattle.sounding_notes.proofs.listing.add_port.Goals as goal

pub returns-then-is_empty : goal.returns-then-is_empty
returns-then-is_empty c = silent_port c.args.notes.now c.args.target.now _ _ c.if-is_empty.true c.is_empty.ensures

pub loop-channel-init : goal.loop-channel-init
loop-channel-init c = added_none (λ channel. filter (reads_in c.args.notes.now) (notes_of_channel c.args.target.now channel)) 0 16 _

pub loop-channel-preserved : goal.loop-channel-preserved
loop-channel-preserved c =
    added_next (λ channel. filter (reads_in c.args.notes.now) (notes_of_channel c.args.target.now channel)) 0 _ 16 _ _ _ c.loop-channel-test.true c.loop-channel.invariant c.in_ok-add_channel.ensures

pub returns : goal.returns
returns c = port_done (reads_in c.args.notes.now) c.args.target.now _ _ _ c.loop-channel-test.false c.loop-channel.invariant
