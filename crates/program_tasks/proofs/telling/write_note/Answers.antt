use Rattle.std.proofs.Common.{refl}
use Rattle.std.proofs.lemmas.Grind.{put_four}
use Rattle.program_tasks.proofs.telling.write_note.Goals as goal

pub returns : goal.returns
returns g c = λ plain ok.
    let a = c.in_ok-write_str.ensures.writes plain refl in
    let b = c.in_ok-write.ensures.writes a.plain refl in
    let d = c.in_ok-write_str-2.ensures.writes b.plain refl in
    put_four g.W.Write.write_str_gives _ _ _ _ _ _ _ _ _ _ a b d (c.write_channel.ensures d.plain ok) refl
