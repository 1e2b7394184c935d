use Rattle.std.proofs.lemmas.Result.{on_ok_weaker, on_err_weaker}
use Rattle.smf_text.proofs.Printed.{places-dumped, places-dump-stops}
use Rattle.smf_text.proofs.dump_all.dump_places_text.Goals as goal

pub returns-clause-text : goal.returns-clause-text
returns-clause-text g c = on_ok_weaker c.dump_file.result (λ k. places-dumped g.R.Source.HasLeft g.W.Sink.HasTaken _ _ _ _ k) c.dump_file.ensures.text

pub returns-clause-short : goal.returns-clause-short
returns-clause-short g c = on_err_weaker c.dump_file.result (λ k. places-dump-stops g.R.Source.HasLeft g.W.Sink.HasTaken _ _ _ _ k) c.dump_file.ensures.short
