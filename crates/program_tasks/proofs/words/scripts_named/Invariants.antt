use Rattle.std.proofs.Common.{map, take, drop}
use Rattle.program_tasks.specs.Words.{scripts_seen}
use Rattle.program_tasks.proofs.WordsTold.{IsReadOn}
use Rattle.program_tasks.proofs.words.scripts_named.Given as goal

abbrev pub invariant-loop-word : goal.invariant-loop-word
invariant-loop-word l = IsReadOn (map (λ w. w.now) l.words) (map (λ w. w.now) (take l.word-index l.words))
    (map (λ w. w.now) (drop l.word-index l.words)) (scripts_seen l.scripts.items)
