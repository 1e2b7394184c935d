use Rattle.std.proofs.Common.{subst}
use Rattle.std.proofs.lemmas.Result.{on_ok_weaker, on_err_weaker}
use Rattle.byte_io.specs.Moved.{Took}
use Rattle.tool_text.specs.Gathered.{TookFirst}
use Rattle.smf_text.proofs.Placed.{same-without-places}
use Rattle.smf_text.proofs.dump_all.print_all.Goals as goal

pub returns-clause-text : goal.returns-clause-text
returns-clause-text g c =
    on_ok_weaker c.print_file.result (λ k. subst (λ text. Took g.W.Sink.HasTaken c.args.out.now text c.print_file.new.out) (same-without-places _ _ c.requires.file) (k c.requires.file)) c.print_file.ensures.text

pub returns-clause-short : goal.returns-clause-short
returns-clause-short g c =
    on_err_weaker c.print_file.result (λ k. subst (λ text. TookFirst g.W.Sink.HasTaken c.args.out.now text c.print_file.new.out) (same-without-places _ _ c.requires.file) (k c.requires.file)) c.print_file.ensures.short
