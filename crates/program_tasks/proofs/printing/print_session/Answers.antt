use Rattle.std.proofs.Common.{◌≡◌, ◌∙◌, map, ap, subst}
use Rattle.std.proofs.lemmas.Result.{on_ok_weaker}
use Rattle.byte_io.specs.Moved.{Took}
use Rattle.seq_session.specs.Sessions.{all_logs, listing_after}
use Rattle.program_tasks.proofs.Printed.{printed_as}
use Rattle.program_tasks.proofs.printing.print_session.Goals as goal

pub returns-clause-printed : goal.returns-clause-printed
returns-clause-printed g c =
    let r = c.in_ok-held.ensures.held in
    let files = c.args.files.now in
    let until = c.args.session.now.until in
    let logs : map (λ l. l.taken) c.as_slice-logs.result.now ≡ all_logs files until r.scripts = ap (map (λ l. l.taken)) c.as_slice-logs.ensures.value ∙ r.logs in
    let listing : c.as_slice-listing.result.now ≡ listing_after files until r.scripts = c.as_slice-listing.ensures ∙ r.listing in
    on_ok_weaker c.print_texts.result
    (λ took. record {
      scripts = r.scripts;
      read = r.read;
      took = subst (λ text. Took g.W.Sink.HasTaken c.args.out.now text c.print_texts.new.out)
          (printed_as g.S.FileStore.IsOpened g.S.Reader.Source.HasLeft files until c.args.session.now.scripts.items _ r.scripts r.read logs c.as_slice-listing.result.now c.args.printing listing) took;
    })
    c.print_texts.ensures.printed
