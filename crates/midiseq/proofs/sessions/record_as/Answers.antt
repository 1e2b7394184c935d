use Rattle.std.proofs.Common.{cond, sym, ap}
use Rattle.program_tasks.specs.declared.ending.Ended.TheVariants.{Judged, Done}
use Rattle.program_tasks.proofs.Said.{err_is}
use Rattle.midiseq.proofs.sessions.record_as.Goals as goal

pub returns-then-strict-clause-recorded : goal.returns-then-strict-clause-recorded
returns-then-strict-clause-recorded g c = record {
  explains = c.get_flag-asked.result;
  explain_flag = record { absent = c.get_flag-asked.ensures.none; present = c.get_flag-asked.ensures.value };
  answer = c.in_ok-answer.answer;
  recorded = rw (← c.is_explained-explains.ensures) c.in_ok-answer.ensures.recorded;
  ends = ap (λ b. cond b (Judged c.in_ok-answer.answer) Done) (sym c.if-strict.true);
}

pub returns-clause-recorded : goal.returns-clause-recorded
returns-clause-recorded g c = record {
  explains = c.get_flag-asked.result;
  explain_flag = record { absent = c.get_flag-asked.ensures.none; present = c.get_flag-asked.ensures.value };
  answer = c.in_ok-answer.answer;
  recorded = rw (← c.is_explained-explains.ensures) c.in_ok-answer.ensures.recorded;
  ends = ap (λ b. cond b (Judged c.in_ok-answer.answer) Done) (sym c.if-strict.false);
}

pub returns-in_err-answer-clause-fault : goal.returns-in_err-answer-clause-fault
returns-in_err-answer-clause-fault g c =
    err_is _ c.from_residual.result c.in_err-answer.field-0.0 c.from_residual.ensures.1
    (record {
      explains = c.is_explained-explains.result;
      asked = record {
        strict = c.args.recording.now.strict;
        strict_flag = c.requires.strict;
        explains = c.get_flag-asked.result;
        explain_flag = record { absent = c.get_flag-asked.ensures.none; present = c.get_flag-asked.ensures.value };
        is = c.is_explained-explains.ensures;
      };
      why = c.in_err-answer.ensures.fault;
    })
