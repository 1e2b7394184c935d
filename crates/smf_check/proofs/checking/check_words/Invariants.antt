use Rattle.std.proofs.Common.{◌≡◌, map, take}
use Rattle.std.specs.Prelude.{false}
use Rattle.smf_check.specs.Named.{ArePathsOf}
use Rattle.smf_check.specs.Verdicts.{IsJudged}
use Rattle.smf_check.specs.Checking.{HasChecked}
use Rattle.smf_check.proofs.checking.check_words.Given as goal

abbrev pub invariant-loop-word : goal.invariant-loop-word
invariant-loop-word g l = record {
  checked : HasChecked (IsJudged l.is_lenient g.S.FileStore.IsOpened g.S.Reader.Source.HasLeft g.S.FileStore.CannotOpen g.S.Reader.Source.failed g.S.FileStore.IsStanding)
      (ArePathsOf l.is_lenient g.S.FileStore.CannotList g.S.FileStore.HasNames g.S.FileStore.IsStanding (map (λ w. w.now) (take l.word-index l.words))) g.W.Sink.HasTaken l.initial.out l.out l.initial.report l.report;
  unmarked : g.W.Sink.failed l.out ≡ false;
  eager : g.W.Sink.takes_some l.out ≡ g.W.Sink.takes_some l.initial.out;
}
