use Rattle.std.proofs.Common.{inr}
use Rattle.std.proofs.lemmas.Result.{IfErr-weaker, on_ok_weaker}
use Rattle.midiseq.proofs.sessions.why.Goals as goal

pub returns-clause-printed : goal.returns-clause-printed
returns-clause-printed g c = on_ok_weaker c.why.result
    (λ answered. record {
      session = c.in_ok-session.session;
      given = c.in_ok-session.ensures.given;
      question = c.question_of-question.result;
      asked = c.question_of-question.ensures;
      answered = answered;
    })
    c.why.ensures.printed

pub returns-clause-fault : goal.returns-clause-fault
returns-clause-fault g c = IfErr-weaker c.why.result _ _
    (λ e why. inr (record {
      session = c.in_ok-session.session;
      given = c.in_ok-session.ensures.given;
      question = c.question_of-question.result;
      asked = c.question_of-question.ensures;
      why = why;
    }))
    c.why.ensures.fault
