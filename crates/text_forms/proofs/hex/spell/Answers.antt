use Rattle.std.proofs.Common.{◌<◌, ◌*◌, ◌+◌, length, arith}
use Rattle.text_forms.proofs.Hexed.{spaces_stay, spelled_more, pair_is}
use Rattle.text_forms.proofs.hex.spell.Goals as goal

pub loop-i-preserved : goal.loop-i-preserved
loop-i-preserved c =
    let was = c.loop-i.invariant in
    let room : 3 * c.loop-i.i + 2 < length c.loop-i.digits = omega arith in
    record {
      spaces = spaces_stay c.loop-i.digits c.loop-i.i _ _ was.spaces room;
      spelled = spelled_more c.loop-i.digits c.loop-i.i _ _ was.spaces room c.args.bytes.now (omega arith) (pair_is _ _ c.hex_of.ensures) was.spelled;
    }
