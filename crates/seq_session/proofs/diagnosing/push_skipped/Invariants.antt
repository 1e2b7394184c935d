use Rattle.std.proofs.Common.{◌≡◌, ◌++◌, map, take}
use Rattle.seq_session.specs.Diagnostics.{skipped_line}
use Rattle.seq_session.proofs.diagnosing.push_skipped.Given as goal

abbrev pub invariant-loop-skip : goal.invariant-loop-skip
invariant-loop-skip l = l.told.items ≡ l.initial.told.items ++ map (skipped_line l.client (map (λ x. x.now) l.lines)) (take l.skip-index l.skips)
