use Rattle.std.proofs.Common.{◌≡◌, ◌≤◌, ◌+◌, ◌-◌, ◌*◌, ◌^◌, refl, sym, arith, rules}
use Rattle.tempo_clock.specs.Ticks.{numerator}
use Rattle.tempo_clock.specs.Kept.{entry_at}
use Rattle.tempo_clock.proofs.Numerators.{numerator-zero}
use Rattle.tempo_clock.proofs.Starts.{starts-next, starts-small, starts-push}
use Rattle.tempo_clock.proofs.tempo_table.starts_of.Goals as goal

pub loop-entry-init : goal.loop-entry-init
loop-entry-init c = record {
  counted = search rules;
  each = λ i h. absurd (omega arith);
  tick = sym c.requires.first;
  tempo = λ h. absurd (omega arith);
  brief = omega arith;
  start = sym (numerator-zero _);
  small = omega arith;
}

pub loop-entry-preserved : goal.loop-entry-preserved
loop-entry-preserved c =
    let es = c.args.entries.now in
    let i = c.loop-entry.entry-index in
    let next : c.loop-entry.start + ((entry_at es i).tick - c.loop-entry.before.tick) * (c.loop-entry.before.tempo * 1000) ≡ numerator (record { division = 0; entries = es }) (entry_at es i).tick
    = starts-next es i _ _ _ c.requires c.loop-entry-test.true c.loop-entry.invariant.start c.loop-entry.invariant.tick c.loop-entry.invariant.tempo in
    let few : numerator (record { division = 0; entries = es }) (entry_at es i).tick ≤ (entry_at es i).tick * 2 ^ 34 = starts-small es (entry_at es i).tick c.requires in
    let back : i + 1 - 1 ≡ i = omega arith in
    record {
      counted = search rules;
      each = starts-push (λ k. numerator (record { division = 0; entries = es }) (entry_at es k).tick) _ _ _ _ c.loop-entry.invariant.counted c.loop-entry.invariant.each (search rules) next;
      tick = rw back refl;
      tempo = λ _. rw back refl;
      brief = omega (arith, c.requires.below i);
      start = next;
      small = rw next few;
    }
