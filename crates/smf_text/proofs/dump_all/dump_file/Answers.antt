use Rattle.std.proofs.Common.{inr}
use Rattle.std.proofs.lemmas.Result.{on_ok_weaker, on_err_weaker}
use Rattle.smf_text.proofs.Printed.{file-printed}
use Rattle.smf_text.proofs.dump_all.dump_file.Goals as goal

pub returns-clause-text : goal.returns-clause-text
returns-clause-text g c =
    let file = rw c.as_slice.ensures.value at c.in-Ok-read.ensures.file in
    let printed = rw c.as_slice-2.ensures.value at c.print_file.ensures.text in
    on_ok_weaker c.print_file.result (λ k. file-printed g.R.Source.HasLeft _ _ _ c.in-Ok.ensures.bytes c.in-Ok-read.file file c.args.is_placed _ (k file)) printed

pub returns-clause-short : goal.returns-clause-short
returns-clause-short g c =
    let file = rw c.as_slice.ensures.value at c.in-Ok-read.ensures.file in
    let printed = rw c.as_slice-2.ensures.value at c.print_file.ensures.short in
    on_err_weaker c.print_file.result (λ k. inr (file-printed g.R.Source.HasLeft _ _ _ c.in-Ok.ensures.bytes c.in-Ok-read.file file c.args.is_placed _ (k file))) printed
