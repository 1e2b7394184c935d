use Rattle.std.proofs.Common.{◌∙◌}
use Rattle.std.proofs.lemmas.Result.{IfOk-weaker}
use Rattle.sounding_notes.specs.Kept.{reads_at}
use Rattle.sounding_notes.specs.Sounding.{sounds}
use Rattle.sounding_notes.proofs.Parts.{same_at_all}
use Rattle.sounding_notes.proofs.listing.sounding_notes.Goals as goal

pub returns : goal.returns
returns c =
    IfOk-weaker c.listed.result _ _ (λ ns h. h ∙ same_at_all (reads_at c.in_ok-table.table) (sounds c.args.entries.now) c.in_ok-table.ensures) c.listed.ensures
