use Rattle.std.proofs.Common.{map}
use Rattle.program_tasks.proofs.Rising.{owners-rise}
use Rattle.program_tasks.proofs.session.Session.of_words.Goals as goal

pub returns-clause-rising : goal.returns-clause-rising
returns-clause-rising c = owners-rise _ (map (λ x. x.now) c.args.scripts.now) c.in_ok-scripts.ensures.scripts
