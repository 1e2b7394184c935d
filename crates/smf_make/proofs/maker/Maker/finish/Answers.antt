use Rattle.smf_make.specs.WrittenParts.{IsPartOf}
use Rattle.std.proofs.Common.{subst}
use Rattle.smf_make.specs.declared.written_part.WrittenPart.{WrittenPart}
use Rattle.smf_make.proofs.LineByLine.{finished}
use Rattle.smf_make.proofs.maker.Maker.finish.Goals as goal

pub returns-then-ended-tracks-clause-ended : goal.returns-then-ended-tracks-clause-ended
returns-then-ended-tracks-clause-ended c = λ number begun making.
    finished c.args.self.bytes.items c.in-Between.tracks c.in-Between.ended number begun c.if-ended-tracks.true
    (subst (λ (p : WrittenPart). IsPartOf c.args.self.bytes.items p begun) c.in-Between.is making.holds)
