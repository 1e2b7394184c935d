use Rattle.smf_mend.proofs.Grown.{chunk-closed}
use Rattle.smf_mend.proofs.growth.Growth.end_track.Goals as goal

pub returns-clause-grown : goal.returns-clause-grown
returns-clause-grown c = λ front content starts h.
    chunk-closed c.args.self.now (record { bytes = c.close_chunk.new.bytes; is_outgrown = c.args.self.now.is_outgrown }) front content c.args.start c.if-self.false c.if-self.false c.close_chunk.ensures (starts c.if-self.false) h
