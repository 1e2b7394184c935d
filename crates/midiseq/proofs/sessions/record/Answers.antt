use Rattle.std.proofs.Common.{◌≡◌, ◌∙◌, Some, None, ap, rules}
use Rattle.std.specs.Prelude.{codes}
use Rattle.clap.specs.Matches.{found_of, first_value}
use Rattle.midiseq.specs.Given.{text_of}
use Rattle.midiseq.proofs.Asked.{with_word, without_word}
use Rattle.midiseq.proofs.Recorded.{as_given, stopped_as_given}
use Rattle.midiseq.proofs.sessions.record.Goals as goal

pub returns-in_default-clause-recorded : goal.returns-in_default-clause-recorded
returns-in_default-clause-recorded g c =
    let none : first_value (found_of c.args.found.now) (codes "ports") ≡ None = search rules in
    let path : c.unwrap_or-path.result.now ≡ text_of (found_of c.args.found.now) (codes "out") = search rules in
    as_given g.S.FileStore.IsOpened g.S.Reader.Source.HasLeft g.S.FileStore.CannotOpen g.S.FileStore.CannotList g.S.Reader.Source.failed g.S.FileStore.IsStanding g.S.FileStore.HasNames g.S.FileStore.AreOne g.S.FileStore.IsBegun g.S.Writer.Sink.HasTaken g.S.FileStore.IsStored
    g.S.Writer.Sink.failed g.S.Writer.Sink.takes_some g.S.FileStore.CannotBegin g.S.FileStore.CannotStore g.N.Notes.HasTold (found_of c.args.found.now) c.in_ok-session.session c.in_ok-session.ensures.given _ _
    c.record_as.result _ c.record_as.ensures.recorded
    (record { path = path; strict = c.is_strict-strict.ensures; what = without_word _ _ _ none c.one_port-what.ensures })

pub returns-in_default-clause-fault : goal.returns-in_default-clause-fault
returns-in_default-clause-fault g c =
    let none : first_value (found_of c.args.found.now) (codes "ports") ≡ None = search rules in
    let path : c.unwrap_or-path.result.now ≡ text_of (found_of c.args.found.now) (codes "out") = search rules in
    stopped_as_given g.S.FileStore.IsOpened g.S.Reader.Source.HasLeft g.S.FileStore.CannotOpen g.S.FileStore.CannotList g.S.Reader.Source.failed g.S.FileStore.IsStanding g.S.FileStore.HasNames g.S.FileStore.AreOne g.S.FileStore.IsBegun g.S.Writer.Sink.HasTaken g.S.FileStore.IsStored
    g.S.Writer.Sink.failed g.S.Writer.Sink.takes_some g.S.FileStore.CannotBegin g.S.FileStore.CannotStore g.N.Notes.HasTold (found_of c.args.found.now) c.in_ok-session.session c.in_ok-session.ensures.given _ _
    c.record_as.result _ c.record_as.ensures.fault
    (record { path = path; strict = c.is_strict-strict.ensures; what = without_word _ _ _ none c.one_port-what.ensures })

pub returns-clause-recorded : goal.returns-clause-recorded
returns-clause-recorded g c =
    let some : first_value (found_of c.args.found.now) (codes "ports") ≡ Some c.in-Some.word.now = search rules in
    let path : c.unwrap_or-path.result.now ≡ text_of (found_of c.args.found.now) (codes "out") = search rules in
    as_given g.S.FileStore.IsOpened g.S.Reader.Source.HasLeft g.S.FileStore.CannotOpen g.S.FileStore.CannotList g.S.Reader.Source.failed g.S.FileStore.IsStanding g.S.FileStore.HasNames g.S.FileStore.AreOne g.S.FileStore.IsBegun g.S.Writer.Sink.HasTaken g.S.FileStore.IsStored
    g.S.Writer.Sink.failed g.S.Writer.Sink.takes_some g.S.FileStore.CannotBegin g.S.FileStore.CannotStore g.N.Notes.HasTold (found_of c.args.found.now) c.in_ok-session.session c.in_ok-session.ensures.given _ _
    c.record_as-2.result _ c.record_as-2.ensures.recorded
    (record {
      path = path;
      strict = c.is_strict-strict.ensures;
      what = with_word _ _ _ c.in-Some.word.now some
          (record { named = ap Some c.as_slice.ensures.value ∙ c.in_ok-ports.ensures.ports; words = c.grid_of.result; given = c.grid_of.ensures; grid = c.in_ok-grid.ensures.grid });
    })

pub returns-clause-fault : goal.returns-clause-fault
returns-clause-fault g c =
    let some : first_value (found_of c.args.found.now) (codes "ports") ≡ Some c.in-Some.word.now = search rules in
    let path : c.unwrap_or-path.result.now ≡ text_of (found_of c.args.found.now) (codes "out") = search rules in
    stopped_as_given g.S.FileStore.IsOpened g.S.Reader.Source.HasLeft g.S.FileStore.CannotOpen g.S.FileStore.CannotList g.S.Reader.Source.failed g.S.FileStore.IsStanding g.S.FileStore.HasNames g.S.FileStore.AreOne g.S.FileStore.IsBegun g.S.Writer.Sink.HasTaken g.S.FileStore.IsStored
    g.S.Writer.Sink.failed g.S.Writer.Sink.takes_some g.S.FileStore.CannotBegin g.S.FileStore.CannotStore g.N.Notes.HasTold (found_of c.args.found.now) c.in_ok-session.session c.in_ok-session.ensures.given _ _
    c.record_as-2.result _ c.record_as-2.ensures.fault
    (record {
      path = path;
      strict = c.is_strict-strict.ensures;
      what = with_word _ _ _ c.in-Some.word.now some
          (record { named = ap Some c.as_slice.ensures.value ∙ c.in_ok-ports.ensures.ports; words = c.grid_of.result; given = c.grid_of.ensures; grid = c.in_ok-grid.ensures.grid });
    })
