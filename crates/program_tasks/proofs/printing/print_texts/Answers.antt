use Rattle.std.proofs.Common.{◌≡◌, ◌∙◌, map, sym, ap, subst}
use Rattle.std.specs.Option.{option_map}
use Rattle.byte_io.specs.Moved.{Took}
use Rattle.program_tasks.specs.LogsPrinted.{printed_in, listing_where}
use Rattle.program_tasks.proofs.printing.print_texts.Goals as goal
use Rattle.program_tasks.proofs.printing.print_texts.Goals.{then-printing, else-printing}

pub returns-in-Ok-clause-printed : goal.returns-in-Ok-clause-printed
returns-in-Ok-clause-printed g c =
    let same : option_map (λ l. l.now) c.if-printing.listing ≡ listing_where c.args.printing.listed c.args.listing.now =
    elim c.if-printing.branch [
      | then-printing w ↦ ap (option_map (λ l. l.now)) w.listing-is ∙ ap (λ b. listing_where b c.args.listing.now) (sym w.if-printing.true)
      | else-printing w ↦ ap (option_map (λ l. l.now)) w.listing-is ∙ ap (λ b. listing_where b c.args.listing.now) (sym w.if-printing.false)
    ] in
    subst (λ o. Took g.W.Sink.HasTaken c.args.out.now (printed_in c.args.printing.form c.args.session.now.scripts.items (map (λ l. l.taken) c.args.logs.now) o) c.print_in.new.out) same
    (subst (λ words. Took g.W.Sink.HasTaken c.args.out.now (printed_in c.args.printing.form words (map (λ l. l.taken) c.args.logs.now) (option_map (λ l. l.now) c.if-printing.listing)) c.print_in.new.out) c.as_slice-scripts.ensures.value c.in-Ok.ensures.text)
