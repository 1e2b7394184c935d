use Rattle.std.proofs.Common.{◌≤◌, ◌<◌, ◌-◌, ◌∙◌, ℕ, length, ap, sym, refl, arith}
use Rattle.smf_grammar.specs.Chunks.{most_bytes}
use Rattle.smf_grammar.specs.Seen.{event_seen}
use Rattle.smf_make.proofs.PairByPair.{pair-too-large, pair-within, pair-ends}
use Rattle.smf_make.proofs.written_part.add_pair.Goals as goal

pub returns-then-len-gt-MOST_BYTES-clause-err : goal.returns-then-len-gt-MOST_BYTES-clause-err
returns-then-len-gt-MOST_BYTES-clause-err c = λ h done ps last w.
    let big : most_bytes < length c.push_event.new.out.items = omega (arith, c.len.ensures, c.if-len-gt-MOST_BYTES.true, c.push_event.new.out.ok) in
    pair-too-large _ _ _ c.args.track h done ps last c.args.tick (record { delta = c.args.tick - last; event = event_seen c.args.event.now }) w (ap (λ (n : ℕ). c.args.tick - n) w.last) c.in_ok-push_quantity.ensures c.in_ok-push_event.ensures big

pub returns-then-is_end-clause-ok : goal.returns-then-is_end-clause-ok
returns-then-is_end-clause-ok c = λ h done ps last w.
    let small : length c.push_event.new.out.items ≤ most_bytes = omega (arith, c.len.ensures, c.if-len-gt-MOST_BYTES.false, c.push_event.new.out.ok) in
    pair-ends _ _ _ c.args.track h done ps last c.args.tick (record { delta = c.args.tick - last; event = event_seen c.args.event.now }) w (ap (λ (n : ℕ). c.args.tick - n) w.last) c.in_ok-push_quantity.ensures c.in_ok-push_event.ensures (sym c.is_end.ensures ∙ c.if-is_end.true) small _ c.close_chunk.ensures

pub returns-clause-ok : goal.returns-clause-ok
returns-clause-ok c = λ h done ps last w.
    let small : length c.push_event.new.out.items ≤ most_bytes = omega (arith, c.len.ensures, c.if-len-gt-MOST_BYTES.false, c.push_event.new.out.ok) in
    pair-within _ _ _ c.args.track h done ps last c.args.tick (record { delta = c.args.tick - last; event = event_seen c.args.event.now }) w (ap (λ (n : ℕ). c.args.tick - n) w.last) c.in_ok-push_quantity.ensures c.in_ok-push_event.ensures (sym c.is_end.ensures ∙ c.if-is_end.false) small _ refl refl refl c.status_after.ensures refl
