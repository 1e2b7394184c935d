use Rattle.std.proofs.Common.{rules, ◌∙◌, arith, sym, subst}
use Rattle.smf_grammar.specs.Seen.{pair_seen, IsRunning}
use Rattle.smf_grammar.specs.Written.{pair_text}
use Rattle.smf_mend.specs.Growing.{GrewBy, IsLonger}
use Rattle.smf_mend.proofs.LenientTracks.{Next, lenient-status, below-more}
use Rattle.smf_mend.proofs.Grown.{writing-step, writing-end}
use Rattle.smf_mend.proofs.soft_track.mend_track.Goals as goal

pub returns-then-is_end-clause-ok : goal.returns-then-is_end-clause-ok
returns-then-is_end-clause-ok c =
    let grew : GrewBy c.pairs.out c.push_pair.new.self (pair_text c.pairs.strict (pair_seen c.in-Ok-lenient_pair_at.found.0)) = search rules in
    let more : IsLonger c.pairs.out c.push_pair.new.self = search rules in
    let next : Next c.args.content.now c.args.place c.pairs.strict c.pairs.running c.pairs.left.now c.in-Ok-lenient_pair_at.found.1.now (pair_seen c.in-Ok-lenient_pair_at.found.0) c.pairs.tally c.forgive.new.self =
    record { next = c.in-Ok-lenient_pair_at.ensures.value; can = c.in-Ok-lenient_pair_at.ensures.can; status = c.forgive.ensures.status; data_bytes = c.forgive.ensures.data_bytes } in
    writing-end _ _ _ _ _ _ (pair_seen c.in-Ok-lenient_pair_at.found.0) c.args.tally.now c.pairs.tally c.forgive.new.self c.begin_track.new.self c.pairs.out c.push_pair.new.self c.pairs.invariant.written next grew (sym c.is_end.ensures ∙ c.if-is_end.true)
    c.args.out.now c.end_track.new.self c.in-Ok.start c.in-Ok.ensures.grown c.in-Ok.ensures.start (λ off. c.in-Ok.ensures.longer.still (c.pairs.invariant.still (more.still off))) c.end_track.ensures.small c.end_track.ensures.grown

pub pairs-preserved : goal.pairs-preserved
pairs-preserved c =
    let grew : GrewBy c.pairs.out c.push_pair.new.self (pair_text c.pairs.strict (pair_seen c.in-Ok-lenient_pair_at.found.0)) = search rules in
    let more : IsLonger c.pairs.out c.push_pair.new.self = search rules in
    let next : Next c.args.content.now c.args.place c.pairs.strict c.pairs.running c.pairs.left.now c.in-Ok-lenient_pair_at.found.1.now (pair_seen c.in-Ok-lenient_pair_at.found.0) c.pairs.tally c.forgive.new.self =
    record { next = c.in-Ok-lenient_pair_at.ensures.value; can = c.in-Ok-lenient_pair_at.ensures.can; status = c.forgive.ensures.status; data_bytes = c.forgive.ensures.data_bytes } in
    record {
      written = writing-step _ _ _ _ _ _ (pair_seen c.in-Ok-lenient_pair_at.found.0) c.args.tally.now c.pairs.tally c.forgive.new.self c.begin_track.new.self c.pairs.out c.push_pair.new.self c.pairs.invariant.written next grew (sym c.is_end.ensures ∙ c.if-is_end.false) _ _
          c.status_after-strict.ensures c.lenient_running-running.ensures;
      status = subst IsRunning (sym c.lenient_running-running.ensures) (lenient-status c.pairs.running _ c.pairs.invariant.status c.in-Ok-lenient_pair_at.ensures.sound);
      within = omega (arith, c.in-Ok-lenient_pair_at.ensures.shorter);
      few = below-more c.forgive.new.self _ _ c.forgive.ensures.few (omega (arith, c.in-Ok-lenient_pair_at.ensures.shorter));
      still = λ off. c.pairs.invariant.still (more.still off);
      begun = λ off. (let before = c.pairs.invariant.begun (more.still off) in let after = more.longer off in omega (arith, before, after));
      room = more.small;
    }
