use Rattle.program_tasks.proofs.WordsTold.{word_added, word_wrong}
use Rattle.program_tasks.proofs.words.scripts_named.Goals as goal

pub returns-in-Err-clause-refused : goal.returns-in-Err-clause-refused
returns-in-Err-clause-refused c =
    word_wrong (λ w. w.now) c.args.words.now c.loop-word.word-index _ _ c.in-Err.fault c.loop-word-test.true c.loop-word.invariant c.in-Err.ensures.refused

pub loop-word-preserved : goal.loop-word-preserved
loop-word-preserved c =
    word_added (λ w. w.now) c.args.words.now c.loop-word.word-index _ _ _ c.loop-word-test.true c.loop-word.invariant c.in_default.ensures.added
