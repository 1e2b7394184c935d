use Rattle.std.proofs.Common.{◌≡◌, ◌++◌, ap, ◌∙◌}
use Rattle.std.proofs.lemmas.Option.{MatchOption-at_some}
use Rattle.std.specs.List.{filter}
use Rattle.sounding_notes.specs.Kept.{reads_at}
use Rattle.sounding_notes.specs.Sounding.{notes_of_client, all_notes}
use Rattle.sounding_notes.proofs.Added.{added_none, added_next}
use Rattle.sounding_notes.proofs.Parts.{all_done}
use Rattle.sounding_notes.proofs.listing.listed.Goals as goal

pub loop-number-init : goal.loop-number-init
loop-number-init c = added_none (λ client. filter (reads_at c.args.table.now) (notes_of_client client)) 128 192 _

pub loop-number-preserved : goal.loop-number-preserved
loop-number-preserved c =
    let is : c.unwrap-client.result ≡ c.loop-number.number = MatchOption-at_some _ (λ n. n ≡ c.loop-number.number) _ c.unwrap-client.ensures c.new.ensures.value in
    added_next (λ client. filter (reads_at c.args.table.now) (notes_of_client client)) 128 _ 192 _ _ _ c.loop-number-test.true c.loop-number.invariant
    (c.in_ok-add_client.ensures ∙ ap (λ k. c.loop-number.found.items ++ filter (reads_at c.args.table.now) (notes_of_client k)) is)

pub returns : goal.returns
returns c =
    all_done (reads_at c.args.table.now) _ _ _ c.loop-number-test.false c.loop-number.invariant
    ∙ ap (λ xs. xs ++ filter (reads_at c.args.table.now) all_notes) c.new-found.ensures.items
