use Rattle.std.proofs.Common.{◌≡◌, ◌+◌, ◌≤◌, length, ap, arith}
use Rattle.script_text.specs.Words.{words}
use Rattle.script_text.proofs.Cut.{words-few}
use Rattle.script_text.proofs.words.Words.are_few.Goals as goal

pub returns : goal.returns
returns c =
    let few : length (words c.self.inside.rest.now) ≤ length c.self.inside.rest.now + 1 = words-few c.self.inside.rest.now in
    let same : length (words c.self.inside.rest.now) ≡ length c.args.self.now = ap length c.self.view_is in
    omega (arith, c.self.told, few, same)
