use Rattle.std.proofs.Common.{◌∙◌, ◌++◌, map, ap}
use Rattle.std.proofs.lemmas.Result.{on_ok_weaker}
use Rattle.script_text.specs.Words.{lines}
use Rattle.seq_session.specs.Diagnostics.{skipped_line}
use Rattle.seq_session.proofs.Wrong.{first_skipped}
use Rattle.seq_session.proofs.diagnosing.+push_all_skipped.Goals as goal

pub returns : goal.returns
returns t c = on_ok_weaker c.push_all_skipped.result
    (first_skipped c.args.scripts.now c.in-Some.more_scripts.now c.args.reads.now c.in-Some-split_first.more_reads.now c.in-Some.script.now c.in-Some-split_first.read.now (map (λ l. l.now) c.as_slice-2.result.now) c.args.told.now.items c.push_skipped.new.told.items c.push_all_skipped.new.told.items
    c.in-Some.ensures.cases.0 c.in-Some-split_first.ensures.cases.0 (ap (map (λ l. l.now)) c.as_slice-2.ensures.value ∙ c.in_ok-lines.ensures ∙ ap lines c.as_slice.ensures)
    (c.in_ok-push_skipped.ensures ∙ ap (λ xs. c.args.told.now.items ++ map (skipped_line c.in-Some.script.now.client (map (λ l. l.now) c.as_slice-2.result.now)) xs) c.as_slice-3.ensures))
    c.push_all_skipped.ensures
