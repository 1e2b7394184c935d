use Rattle.std.proofs.Common.{◌≡◌, ap}
use Rattle.std.proofs.lemmas.Option.{MatchOption-at_some}
use Rattle.std.specs.List.{filter}
use Rattle.seq_state.specs.Heard.{port_at}
use Rattle.sounding_notes.specs.Kept.{reads_at}
use Rattle.sounding_notes.specs.Sounding.{notes_of_port}
use Rattle.sounding_notes.proofs.Added.{added_none, added_next}
use Rattle.sounding_notes.proofs.Parts.{client_done, port_added}
use Rattle.sounding_notes.proofs.listing.add_client.Goals as goal

pub loop-number-init : goal.loop-number-init
loop-number-init c = added_none (λ port. filter (reads_at c.args.table.now) (notes_of_port (port_at c.args.client port))) 0 16 _

pub loop-number-preserved : goal.loop-number-preserved
loop-number-preserved c =
    added_next (λ port. filter (reads_at c.args.table.now) (notes_of_port (port_at c.args.client port))) 0 _ 16 _ _ _ c.loop-number-test.true c.loop-number.invariant
    (port_added c.args.table.now c.notes_of.result.now (port_at c.args.client c.unwrap-port.result) c.args.client c.loop-number.number _ _ c.notes_of.ensures (ap (port_at c.args.client) (MatchOption-at_some _ (λ n. n ≡ c.loop-number.number) _ c.unwrap-port.ensures c.new.ensures.value)) c.in_ok-add_port.ensures)

pub returns : goal.returns
returns c = client_done (reads_at c.args.table.now) c.args.client _ _ _ c.loop-number-test.false c.loop-number.invariant
