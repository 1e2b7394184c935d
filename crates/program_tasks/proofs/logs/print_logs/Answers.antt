use Rattle.std.proofs.Common.{map, ap}
use Rattle.std.specs.Option.{option_map}
use Rattle.std.proofs.lemmas.Result.{on_err_weaker}
use Rattle.memory.proofs.Outcomes.{on_err}
use Rattle.program_tasks.proofs.PrintedLogs.{stops_early, listing_stops}
use Rattle.program_tasks.proofs.logs.print_logs.Goals as goal

pub returns-in_err-print_all-clause-short : goal.returns-in_err-print_all-clause-short
returns-in_err-print_all-clause-short g c =
    on_err c.from_residual.result (stops_early g.W.Sink.HasTaken c.args.scripts.now (map (λ t. t.taken) c.args.logs.now) c.args.out.now c.args.out.now c.print_all.new.out (option_map (λ l. l.now) c.args.listing) c.in_err-print_all.ensures.short)

pub returns-in-Some-clause-short : goal.returns-in-Some-clause-short
returns-in-Some-clause-short g c =
    on_err_weaker c.send.result
    (λ k. listing_stops g.W.Sink.HasTaken c.args.scripts.now (map (λ t. t.taken) c.args.logs.now) c.args.out.now c.print_all.new.out c.send.new.out c.in-Some.listing.now (option_map (λ l. l.now) c.args.listing) (ap (option_map (λ l. l.now)) c.in-Some.is) c.in_ok-print_all.ensures.text k)
    c.send.ensures.part
