use Rattle.std.proofs.Common.{◌∙◌, refl}
use Rattle.memory.proofs.Outcomes.{on_err}
use Rattle.smf_check.proofs.Reported.{checked-more, stops-later}
use Rattle.smf_check.proofs.Words.{paths-first, paths-next, same-at}
use Rattle.smf_check.proofs.checking.check_words.Goals as goal

pub returns-in_err-check_word-clause-short : goal.returns-in_err-check_word-clause-short
returns-in_err-check_word-clause-short g c = on_err c.from_residual.result
    (stops-later g.W.Sink.HasTaken _ _ _ _ _ _ _ _ _
    (paths-first c.args.is_lenient g.S.FileStore.CannotList g.S.FileStore.HasNames g.S.FileStore.IsStanding (λ w. w.now) c.args.words.now c.loop-word.word-index _ c.loop-word-test.true (same-at _ _ _ _ c.loop-word-test.true))
    c.loop-word.invariant.checked c.in_err-check_word.ensures.short)

pub loop-word-preserved : goal.loop-word-preserved
loop-word-preserved g c = record {
  checked = checked-more g.W.Sink.HasTaken _ _ _ _ _ _ _ _ _ _
      (paths-next c.args.is_lenient g.S.FileStore.CannotList g.S.FileStore.HasNames g.S.FileStore.IsStanding (λ w. w.now) c.args.words.now c.loop-word.word-index _ c.loop-word-test.true (same-at _ _ _ _ c.loop-word-test.true))
      c.loop-word.invariant.checked c.in_ok-check_word.ensures.checked;
  unmarked = c.in_ok-check_word.ensures.marks.unmarked refl;
  eager = c.check_word.ensures.marks.eager ∙ c.loop-word.invariant.eager;
}
