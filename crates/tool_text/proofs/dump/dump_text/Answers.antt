use Rattle.std.proofs.Common.{inr}
use Rattle.std.proofs.lemmas.Result.{on_ok_weaker, on_err_weaker}
use Rattle.tool_text.proofs.Accepted.{file-dumped, file-stops, file-told, fault-told}
use Rattle.tool_text.proofs.dump.dump_text.Goals as goal

pub returns-in-Err-read-clause-told : goal.returns-in-Err-read-clause-told
returns-in-Err-read-clause-told g c = fault-told g.R.Source.HasLeft _ _ _ c.in-Ok.ensures.bytes c.in-Err-read.fault _ c.from.ensures (λ some. rw c.as_slice.ensures.value at (c.in-Err-read.ensures.fault some))

pub returns-clause-text : goal.returns-clause-text
returns-clause-text g c =
    let file = rw c.as_slice.ensures.value at c.in-Ok-read.ensures.file in
    on_ok_weaker c.print_dump.result (λ k. file-dumped g.R.Source.HasLeft _ _ _ c.in-Ok.ensures.bytes c.in-Ok-read.file file g.W.Sink.HasTaken _ _ k) c.print_dump.ensures.text

pub returns-clause-short : goal.returns-clause-short
returns-clause-short g c =
    let file = rw c.as_slice.ensures.value at c.in-Ok-read.ensures.file in
    on_err_weaker c.print_dump.result (λ k. inr (file-stops g.R.Source.HasLeft _ _ _ c.in-Ok.ensures.bytes c.in-Ok-read.file file g.W.Sink.HasTaken _ _ k)) c.print_dump.ensures.short

pub returns-clause-told : goal.returns-clause-told
returns-clause-told g c =
    let file = rw c.as_slice.ensures.value at c.in-Ok-read.ensures.file in
    file-told g.R.Source.HasLeft _ _ _ c.in-Ok.ensures.bytes c.in-Ok-read.file file c.print_dump.result c.print_dump.ensures.only
