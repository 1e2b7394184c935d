use Rattle.std.proofs.Common.{◌+◌, inl, inr, List, ℕ, ◌++◌, [], take, drop, refl, sym, ap, subst, ◌∙◌, append-nil, arith}
use Rattle.std.specs.Prelude.{Option, IfSome}
use Rattle.std.specs.Rc.{rc_value}
use Rattle.midi_wire.specs.Readings.{reading, rest}
use Rattle.midi_wire.specs.Parsing.{message_in, IsExclusiveFront}
use Rattle.memory.proofs.Outcomes.{on_err}
use Rattle.midi_wire.proofs.Calls.{gains-none}
use Rattle.midi_wire.proofs.Machine.{held-silent, rest-again}
use Rattle.midi_wire.proofs.Outcomes.{gained-more, from_place}
use Rattle.midi_wire.proofs.Exclusives.{SharedFront, shared-front, more-reading, more-rest, gains-after}
use Rattle.midi_wire.proofs.parser.OpenBlock.take_exclusives.Goals as goal

pub loop-next-init : goal.loop-next-init
loop-next-init c = record {
  within = omega arith;
  some = inr refl;
  front = c.requires.first;
  told = gains-none c.args.out.now.items (c.args.self.now ++ []) (ap (λ v. reading v) (append-nil c.args.self.now) ∙ held-silent c.args.self.now c.requires.settled);
  leaves = sym (ap (λ v. rest v) (append-nil c.args.self.now) ∙ c.requires.settled);
}

pub take_exclusive-requires-clause-settled : goal.take_exclusive-requires-clause-settled
take_exclusive-requires-clause-settled c = ap (λ v. rest v) c.loop-next.invariant.leaves ∙ rest-again _ ∙ sym c.loop-next.invariant.leaves

pub take_exclusive-requires-clause-data : goal.take_exclusive-requires-clause-data
take_exclusive-requires-clause-data c =
    let front : IsExclusiveFront (drop c.loop-next.at c.args.bytes.now) c.in-Some.count = subst (λ (next : Option ℕ). IfSome next (λ count. IsExclusiveFront (drop c.loop-next.at c.args.bytes.now) count)) c.in-Some.is c.loop-next.invariant.front in
    let there : SharedFront c.args.bytes.now (rc_value c.in_ok-shared.shared).items c.loop-next.at c.in-Some.count = shared-front c.args.bytes.now (rc_value c.in_ok-shared.shared).items c.loop-next.at c.in-Some.count (ap (λ v. v.items) c.in_ok-shared.ensures.ok ∙ c.in_ok-from_slice.ensures.ok) c.loop-next.invariant.within front in
    there.low

pub returns-in_err-take_exclusive-clause-err : goal.returns-in_err-take_exclusive-clause-err
returns-in_err-take_exclusive-clause-err c =
    let front : IsExclusiveFront (drop c.loop-next.at c.args.bytes.now) c.in-Some.count = subst (λ (next : Option ℕ). IfSome next (λ count. IsExclusiveFront (drop c.loop-next.at c.args.bytes.now) count)) c.in-Some.is c.loop-next.invariant.front in
    let there : SharedFront c.args.bytes.now (rc_value c.in_ok-shared.shared).items c.loop-next.at c.in-Some.count = shared-front c.args.bytes.now (rc_value c.in_ok-shared.shared).items c.loop-next.at c.in-Some.count (ap (λ v. v.items) c.in_ok-shared.ensures.ok ∙ c.in_ok-from_slice.ensures.ok) c.loop-next.invariant.within front in
    on_err c.from_residual-in_err-take_exclusive.result (gains-after c.args.out.now.items c.loop-next.out.items c.take_exclusive.new.out.items c.args.self.now c.loop-next.self c.args.bytes.now (message_in (c.loop-next.at + 1) c.in-Some.count (rc_value c.in_ok-shared.shared).items) c.loop-next.at (c.in-Some.count + 2) c.loop-next.invariant.told c.loop-next.invariant.leaves there.whole c.in_err-take_exclusive.ensures.err)

pub loop-next-preserved : goal.loop-next-preserved
loop-next-preserved c =
    let front : IsExclusiveFront (drop c.loop-next.at c.args.bytes.now) c.in-Some.count = subst (λ (next : Option ℕ). IfSome next (λ count. IsExclusiveFront (drop c.loop-next.at c.args.bytes.now) count)) c.in-Some.is c.loop-next.invariant.front in
    let there : SharedFront c.args.bytes.now (rc_value c.in_ok-shared.shared).items c.loop-next.at c.in-Some.count = shared-front c.args.bytes.now (rc_value c.in_ok-shared.shared).items c.loop-next.at c.in-Some.count (ap (λ v. v.items) c.in_ok-shared.ensures.ok ∙ c.in_ok-from_slice.ensures.ok) c.loop-next.invariant.within front in
    let at : ℕ = c.loop-next.at + (c.in-Some.count + 2) in
    record {
      within = there.taken;
      some = inl (omega arith);
      front = subst (λ (s : List ℕ). IfSome c.exclusive_count-next.result (λ count. IsExclusiveFront s count)) (from_place c.args.bytes.now at) c.exclusive_count-next.ensures.some;
      told = gained-more c.take_exclusive.new.out.items c.loop-next.out.items c.args.out.now.items (reading (c.args.self.now ++ take c.loop-next.at c.args.bytes.now)) (reading (c.loop-next.self ++ take (c.in-Some.count + 2) (drop c.loop-next.at c.args.bytes.now))) (reading (c.args.self.now ++ take at c.args.bytes.now))
          (c.in_ok-take_exclusive.ensures.told ∙ ap (λ (m : List ℕ). c.loop-next.out.items ++ reading (c.loop-next.self ++ m)) there.whole)
          c.loop-next.invariant.told
          (more-reading c.args.self.now c.loop-next.self c.args.bytes.now c.loop-next.at (c.in-Some.count + 2) c.loop-next.invariant.leaves);
      leaves = c.in_ok-take_exclusive.ensures.leaves ∙ ap (λ (m : List ℕ). rest (c.loop-next.self ++ m)) there.whole ∙ sym (more-rest c.args.self.now c.loop-next.self c.args.bytes.now c.loop-next.at (c.in-Some.count + 2) c.loop-next.invariant.leaves);
    }
