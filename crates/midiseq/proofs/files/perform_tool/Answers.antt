use Rattle.std.proofs.Common.{inr, rules}
use Rattle.std.proofs.lemmas.Result.{IfErr-weaker, on_ok_weaker}
use Rattle.midiseq.proofs.files.perform_tool.Goals as goal

pub returns-in-Some-clause-done : goal.returns-in-Some-clause-done
returns-in-Some-clause-done g c =
    on_ok_weaker c.perform.result
    (λ done. record {
      task = c.in-Some.task;
      flags = record { all = c.get_flag.result; at = c.get_flag-2.result; lenient = c.get_flag-3.result };
      given = record { all = search rules; at = search rules; lenient = search rules };
      tool = c.in-Some.ensures.tool;
      stream = search rules;
      done = done;
    })
    c.perform.ensures.done

pub returns-in-Some-clause-fault : goal.returns-in-Some-clause-fault
returns-in-Some-clause-fault g c =
    IfErr-weaker c.perform.result _ _
    (λ e told. inr (record {
      task = c.in-Some.task;
      flags = record { all = c.get_flag.result; at = c.get_flag-2.result; lenient = c.get_flag-3.result };
      given = record { all = search rules; at = search rules; lenient = search rules };
      tool = c.in-Some.ensures.tool;
      stream = search rules;
      told = told;
    }))
    c.perform.ensures.told
