use Rattle.std.proofs.Common.{true, false, inr}
use Rattle.std.specs.Prelude.{codes}
use Rattle.clap.specs.Matches.{found_of}
use Rattle.program_tasks.proofs.Said.{err_is}
use Rattle.midiseq.proofs.Asked.{flag_is}
use Rattle.midiseq.proofs.sessions.print_run.Goals as goal

pub returns-in_err-answer-clause-fault : goal.returns-in_err-answer-clause-fault
returns-in_err-answer-clause-fault g c =
    err_is _ c.from_residual-in_err-answer.result c.in_err-answer.field-0.0 c.from_residual-in_err-answer.ensures.1 (inr c.in_err-answer.ensures.fault)

pub returns-then-strict-clause-ran : goal.returns-then-strict-clause-ran
returns-then-strict-clause-ran g c =
    record {
      printing = c.in_ok-printing.printing;
      form = c.in_ok-printing.ensures.form;
      list_flag = c.in_ok-printing.ensures.listed;
      strict = true;
      strict_flag = flag_is (found_of c.args.found.now) (codes "strict") c.get_flag-strict.result true c.if-strict.true (record { absent = c.get_flag-strict.ensures.none; present = c.get_flag-strict.ensures.value });
      explains = c.get_flag-explains.result;
      explain_flag = record { absent = c.get_flag-explains.ensures.none; present = c.get_flag-explains.ensures.value };
      ran = c.in_ok-answer.ensures.explained;
    }

pub returns-in_err-explain-clause-fault : goal.returns-in_err-explain-clause-fault
returns-in_err-explain-clause-fault g c =
    err_is _ c.from_residual-in_err-explain.result c.in_err-explain.field-0.0 c.from_residual-in_err-explain.ensures.1 (inr c.in_err-explain.ensures.fault)

pub returns-then-explains-clause-ran : goal.returns-then-explains-clause-ran
returns-then-explains-clause-ran g c =
    record {
      printing = c.in_ok-printing.printing;
      form = c.in_ok-printing.ensures.form;
      list_flag = c.in_ok-printing.ensures.listed;
      strict = false;
      strict_flag = flag_is (found_of c.args.found.now) (codes "strict") c.get_flag-strict.result false c.if-strict.false (record { absent = c.get_flag-strict.ensures.none; present = c.get_flag-strict.ensures.value });
      explains = true;
      explain_flag = flag_is (found_of c.args.found.now) (codes "explain") c.get_flag-explains.result true c.if-explains.true (record { absent = c.get_flag-explains.ensures.none; present = c.get_flag-explains.ensures.value });
      ran = (c.in_ok-explain.field-0, c.in_ok-explain.ensures.explained);
    }

pub returns-in_err-run-clause-fault : goal.returns-in_err-run-clause-fault
returns-in_err-run-clause-fault g c =
    err_is _ c.from_residual-in_err-run.result c.in_err-run.field-0.0 c.from_residual-in_err-run.ensures.1 (inr c.in_err-run.ensures.fault)

pub returns-clause-ran : goal.returns-clause-ran
returns-clause-ran g c =
    record {
      printing = c.in_ok-printing.printing;
      form = c.in_ok-printing.ensures.form;
      list_flag = c.in_ok-printing.ensures.listed;
      strict = false;
      strict_flag = flag_is (found_of c.args.found.now) (codes "strict") c.get_flag-strict.result false c.if-strict.false (record { absent = c.get_flag-strict.ensures.none; present = c.get_flag-strict.ensures.value });
      explains = false;
      explain_flag = flag_is (found_of c.args.found.now) (codes "explain") c.get_flag-explains.result false c.if-explains.false (record { absent = c.get_flag-explains.ensures.none; present = c.get_flag-explains.ensures.value });
      ran = c.in_ok-run.ensures.printed;
    }
