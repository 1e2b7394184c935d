use Rattle.std.proofs.Common.{◌≡◌, Some, None, inr, rules}
use Rattle.std.specs.Prelude.{codes}
use Rattle.std.proofs.lemmas.Result.{IfErr-weaker, IfOk-weaker}
use Rattle.clap.specs.Matches.{found_of, first_value}
use Rattle.midiseq.proofs.Asked.{with_word, without_word}
use Rattle.midiseq.proofs.sessions.run.Goals as goal

pub returns-in_default-clause-ran : goal.returns-in_default-clause-ran
returns-in_default-clause-ran g c =
    let none : first_value (found_of c.args.found.now) (codes "logs") ≡ None = search rules in
    IfOk-weaker c.print_run.result _ _ (λ ended ran. record { session = c.in_ok-session.session; given = c.in_ok-session.ensures.given; ran = without_word _ _ _ none ran }) c.print_run.ensures.ran

pub returns-in_default-clause-fault : goal.returns-in_default-clause-fault
returns-in_default-clause-fault g c =
    let none : first_value (found_of c.args.found.now) (codes "logs") ≡ None = search rules in
    IfErr-weaker c.print_run.result _ _ (λ e why. inr (record { session = c.in_ok-session.session; given = c.in_ok-session.ensures.given; why = without_word _ _ _ none why })) c.print_run.ensures.fault

pub returns-clause-ran : goal.returns-clause-ran
returns-clause-ran g c =
    let some : first_value (found_of c.args.found.now) (codes "logs") ≡ Some c.in-Some.path.now = search rules in
    IfOk-weaker c.stream_run.result _ _ (λ ended ran. record { session = c.in_ok-session.session; given = c.in_ok-session.ensures.given; ran = with_word _ _ _ c.in-Some.path.now some ran }) c.stream_run.ensures.ran

pub returns-clause-fault : goal.returns-clause-fault
returns-clause-fault g c =
    let some : first_value (found_of c.args.found.now) (codes "logs") ≡ Some c.in-Some.path.now = search rules in
    IfErr-weaker c.stream_run.result _ _ (λ e why. inr (record { session = c.in_ok-session.session; given = c.in_ok-session.ensures.given; why = with_word _ _ _ c.in-Some.path.now some why })) c.stream_run.ensures.fault
