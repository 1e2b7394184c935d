use Rattle.std.proofs.Common.{◌≤◌, ◌/◌, arith}
use Rattle.std.proofs.Math.Nat.{div-le_of_le-mul}
use Rattle.std.proofs.lemmas.Nat.{le-div}
use Rattle.std.proofs.lemmas.Bool.{and_parts, and_from, leb-true, le-leb}
use Rattle.program_tasks.proofs.grid.tempo_of.Goals as goal

pub returns-clause-within : goal.returns-clause-within
returns-clause-within c =
    let parts = and_parts _ _ c.requires in
    let least : 4 ≤ c.args.bpm = leb-true 4 c.args.bpm parts.0 in
    let most : c.args.bpm ≤ 60000000 = leb-true c.args.bpm 60000000 parts.1 in
    let some : 1 ≤ 60000000 / c.args.bpm = le-div 1 60000000 c.args.bpm (omega arith) (omega arith) in
    let few : 60000000 / c.args.bpm ≤ 15000000 = div-le_of_le-mul c.args.bpm (omega arith) in
    and_from _ _ (le-leb 1 (60000000 / c.args.bpm) some) (le-leb (60000000 / c.args.bpm) 16777215 (omega arith))
