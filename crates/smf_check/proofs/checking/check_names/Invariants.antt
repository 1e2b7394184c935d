use Rattle.std.proofs.Common.{◌≡◌, map, take}
use Rattle.std.specs.Prelude.{string_bytes, false}
use Rattle.folder_files.specs.Paths.{path_in}
use Rattle.smf_check.specs.Named.{AreThese}
use Rattle.smf_check.specs.Verdicts.{IsJudged}
use Rattle.smf_check.specs.Checking.{HasChecked}
use Rattle.smf_check.proofs.checking.check_names.Given as goal

abbrev pub invariant-loop-name : goal.invariant-loop-name
invariant-loop-name g l = record {
  checked : HasChecked (IsJudged l.is_lenient g.S.FileStore.IsOpened g.S.Reader.Source.HasLeft g.S.FileStore.CannotOpen g.S.Reader.Source.failed g.S.FileStore.IsStanding)
      (AreThese (map (λ name. path_in l.folder (string_bytes name)) (take l.name-index l.names))) g.W.Sink.HasTaken l.initial.out l.out l.initial.report l.report;
  unmarked : g.W.Sink.failed l.out ≡ false;
  eager : g.W.Sink.takes_some l.out ≡ g.W.Sink.takes_some l.initial.out;
}
