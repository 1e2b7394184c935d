use Rattle.std.proofs.Common.{◌≡◌, ◌∙◌, map, ap, subst}
use Rattle.byte_io.specs.Moved.{Took}
use Rattle.seq_session.specs.Sessions.{all_logs, listing_after}
use Rattle.seq_session.proofs.Alone.{logs_made}
use Rattle.program_tasks.proofs.Printed.{printed_as}
use Rattle.program_tasks.proofs.explaining.explain_session.Goals as goal

pub returns-clause-explained : goal.returns-clause-explained
returns-clause-explained g c =
    let r = c.in_ok-run.ensures.run in
    let files = c.args.files.now in
    let until = c.args.session.now.until in
    let logs : map (λ l. l.taken) c.as_slice.result.now ≡ all_logs files until r.scripts =
    ap (map (λ l. l.taken)) c.as_slice.ensures.value ∙ c.in_ok-logs.ensures ∙ c.in_ok-texts.ensures ∙ logs_made files until r.scripts c.in_ok-run.run' r.is in
    let listing : c.as_slice-listing.result.now ≡ listing_after files until r.scripts = c.as_slice-listing.ensures ∙ r.is.listing in
    record {
      scripts = r.scripts;
      read = r.read;
      took = subst (λ text. Took g.W.Sink.HasTaken c.args.out.now text c.print_texts.new.out)
          (printed_as g.S.FileStore.IsOpened g.S.Reader.Source.HasLeft files until c.args.session.now.scripts.items _ r.scripts r.read logs c.as_slice-listing.result.now c.args.printing listing) c.in_ok-print_texts.ensures.printed;
      explained = c.in_ok-explanation.ensures files until r.scripts r.is;
    }
