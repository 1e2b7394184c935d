use Rattle.std.proofs.Common.{◌∙◌, ap, sym}
use Rattle.std.specs.Option.{option_map}
use Rattle.smf_files.specs.Refusals.{fault_of}
use Rattle.smf_files.proofs.WritingTracks.{early-end}
use Rattle.smf_files.proofs.tracks.track_fault.Goals as goal

pub returns-then-pair-pairs : goal.returns-then-pair-pairs
returns-then-pair-pairs c =
    sym (ap (option_map fault_of) (c.loop-pair.invariant.refused ∙ early-end c.args.pairs.now c.args.track c.loop-pair.pair _ c.if-pair-pairs.true (sym c.can_stand.ensures ∙ c.if-not-can_stand.false) (sym c.is_end.ensures ∙ c.if-is_end.true)))
