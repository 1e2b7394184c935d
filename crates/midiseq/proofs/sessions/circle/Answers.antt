use Rattle.std.proofs.Common.{◌≡◌, Some, None, inr, rules}
use Rattle.std.specs.Prelude.{codes}
use Rattle.std.proofs.lemmas.Result.{IfErr-weaker, IfOk-weaker}
use Rattle.clap.specs.Matches.{found_of, first_value}
use Rattle.midiseq.proofs.Asked.{with_word, without_word}
use Rattle.midiseq.proofs.sessions.circle.Goals as goal

pub returns-in_default-clause-printed : goal.returns-in_default-clause-printed
returns-in_default-clause-printed g c =
    let none : first_value (found_of c.args.found.now) (codes "owner") ≡ None = search rules in
    IfOk-weaker c.circle.result _ _
    (λ answer printed. record {
      session = c.in_ok-session.session;
      given = c.in_ok-session.ensures.given;
      printed = without_word _ _ _ none printed;
    })
    c.circle.ensures.printed

pub returns-in_default-clause-fault : goal.returns-in_default-clause-fault
returns-in_default-clause-fault g c =
    IfErr-weaker c.circle.result _ _
    (λ e why. inr (inr (record {
      session = c.in_ok-session.session;
      given = c.in_ok-session.ensures.given;
      why = why;
    })))
    c.circle.ensures.fault

pub returns-clause-printed : goal.returns-clause-printed
returns-clause-printed g c =
    let some : first_value (found_of c.args.found.now) (codes "owner") ≡ Some c.in-Some.word.now = search rules in
    IfOk-weaker c.circle-2.result _ _
    (λ answer printed. record {
      session = c.in_ok-session.session;
      given = c.in_ok-session.ensures.given;
      printed = with_word _ _ _ c.in-Some.word.now some (record {
        owner = c.in-Some-client_named.owner;
        client = c.in-Some-client_named.ensures;
        in_session = c.get_flag-in_session.result;
        flag = record { absent = c.get_flag-in_session.ensures.none; present = c.get_flag-in_session.ensures.value };
        printed = printed;
      });
    })
    c.circle-2.ensures.printed

pub returns-clause-fault : goal.returns-clause-fault
returns-clause-fault g c =
    IfErr-weaker c.circle-2.result _ _
    (λ e why. inr (inr (record {
      session = c.in_ok-session.session;
      given = c.in_ok-session.ensures.given;
      why = why;
    })))
    c.circle-2.ensures.fault
