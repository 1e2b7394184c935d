-- What was read so far is taken.
use Rattle.std.proofs.Common.{◌≡◌, length, false}
use Rattle.smf_make.proofs.ReadPieces.{IsRead}
use Rattle.smf_make.proofs.stream.make_text.Given as goal

abbrev pub invariant-pieces : goal.invariant-pieces
invariant-pieces g l = record {
  sound : g.R.Source.failed l.input ≡ false;
  space : length l.piece ≡ 8192;
  taken : IsRead g.R.Source.HasLeft l.fn.input l.input l.maker l.kept.items l.room;
}

abbrev pub decreases-pieces : goal.decreases-pieces
decreases-pieces g l = l.room
