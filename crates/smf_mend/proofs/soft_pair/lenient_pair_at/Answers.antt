use Rattle.std.proofs.Common.{◌≡◌, ◌≤◌, ◌∙◌, length, false, ap, sym, arith}
use Rattle.smf_grammar.specs.Seen.{event_seen, pair_seen}
use Rattle.smf_mend.specs.Lenient.{event_left, has_high_data}
use Rattle.smf_mend.specs.Tallies.{payload_size}
use Rattle.smf_mend.proofs.Softened.{lenient-strict}
use Rattle.smf_mend.proofs.Payloads.{pair-within}
use Rattle.smf_mend.proofs.soft_pair.lenient_pair_at.Goals as goal

pub returns-in-Err-clause-value : goal.returns-in-Err-clause-value
returns-in-Err-clause-value c =
    let low : has_high_data (event_left c.args.left.now) ≡ false = ap has_high_data (sym c.event_left.ensures) ∙ sym c.has_high_data.ensures ∙ c.if-has_high_data.false in
    lenient-strict c.args.running c.args.left.now low ∙ c.in-Err.ensures.value

pub has_counted_bytes-requires : goal.has_counted_bytes-requires
has_counted_bytes-requires c =
    let within : payload_size (event_seen c.in-Ok.found.0.event) ≤ length c.args.left.now = pair-within c.args.running c.args.left.now c.in-Ok.found.1.now (pair_seen c.in-Ok.found.0) c.in-Ok.ensures.value in
    omega (arith, c.requires.few)

pub returns-clause-value : goal.returns-clause-value
returns-clause-value c =
    let low : has_high_data (event_left c.args.left.now) ≡ false = ap has_high_data (sym c.event_left.ensures) ∙ sym c.has_high_data.ensures ∙ c.if-has_high_data.false in
    lenient-strict c.args.running c.args.left.now low ∙ c.in-Ok.ensures.value
