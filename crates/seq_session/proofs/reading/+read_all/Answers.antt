use Rattle.std.proofs.Common.{rules, ◌≡◌, false, is_some, IfSome, subst}
use Rattle.seq_session.specs.Rising.{AreRising}
use Rattle.seq_session.specs.Devices.{clients, AreSound, reader_blamed}
use Rattle.seq_session.proofs.Blamed.{first_told, rest_told}
use Rattle.seq_session.proofs.reading.+read_all.Goals as goal

pub returns-in_err-read_one-clause-marks : goal.returns-in_err-read_one-clause-marks
returns-in_err-read_one-clause-marks g t c =
    let parts = c.in-Some.ensures.cases.0 in
    let mark : g.R.Source.failed c.read_one.new.source.reader ≡ is_some (reader_blamed c.from_residual.result) = search rules in
    let blamed : IfSome (reader_blamed c.from_residual.result) (λ k. k ≡ c.in-Some.first.now.client) = search rules in
    first_told g.R.Source.failed c.in-Some.first.now c.read_one.new.source (reader_blamed c.from_residual.result) c.in-Some.more.now c.read_one.ensures.client mark blamed
    (subst (λ xs. AreRising (clients xs)) parts c.requires.rising) (subst (AreSound g.R.Source.failed) parts c.requires.sound)

pub returns-in_err-push-clause-marks : goal.returns-in_err-push-clause-marks
returns-in_err-push-clause-marks g t c =
    let parts = c.in-Some.ensures.cases.0 in
    let mark : g.R.Source.failed c.read_one.new.source.reader ≡ is_some (reader_blamed c.from_residual-in_err-push.result) = search rules in
    let blamed : IfSome (reader_blamed c.from_residual-in_err-push.result) (λ k. k ≡ c.in-Some.first.now.client) = search rules in
    first_told g.R.Source.failed c.in-Some.first.now c.read_one.new.source (reader_blamed c.from_residual-in_err-push.result) c.in-Some.more.now c.read_one.ensures.client mark blamed
    (subst (λ xs. AreRising (clients xs)) parts c.requires.rising) (subst (AreSound g.R.Source.failed) parts c.requires.sound)

pub returns-clause-marks : goal.returns-clause-marks
returns-clause-marks g t c =
    let parts = c.in-Some.ensures.cases.0 in
    let mark : g.R.Source.failed c.read_one.new.source.reader ≡ false = search rules in
    rest_told g.R.Source.failed c.in-Some.first.now c.read_one.new.source (reader_blamed c.read_all.result) c.in-Some.more.now _ c.read_one.ensures.client mark c.read_all.ensures.blamed
    (subst (λ xs. AreRising (clients xs)) parts c.requires.rising) c.read_all.ensures.marks
