use Rattle.std.proofs.Common.{◌≤◌, ◌∷◌, ◌++◌, [], refl, sym, ap, subst, ◌∙◌}
use Rattle.std.specs.Prelude.{IsTrue}
use Rattle.std.proofs.lemmas.Bool.{leb-true, leb-false}
use Rattle.midi_wire.specs.Messages.{StatusClass, begins, is_tail}
use Rattle.midi_wire.specs.Readings.{reading}
use Rattle.midi_wire.proofs.Steps.{real_of}
use Rattle.midi_wire.proofs.Table.{real-none}
use Rattle.midi_wire.proofs.Settled.{IsBlockStatus}
use Rattle.midi_wire.proofs.Machine.{real-reading, real-rest, status-reading, status-rest}
use Rattle.midi_wire.proofs.Calls.{gains-none, gains-one}
use Rattle.std.proofs.lemmas.Result.{on_ok_weaker, on_err_weaker}
use Rattle.midi_wire.proofs.Outcomes.{gained-more, first-gained}
use Rattle.midi_wire.proofs.parser.OpenBlock.take.Goals as goal

pub returns-in_default : goal.returns-in_default
returns-in_default c =
    let high : 248 ≤ c.args.byte = leb-true 248 c.args.byte (sym c.is_real_time.ensures ∙ c.if-not-is_real_time.false) in
    record {
      told = gains-none c.args.out.now.items (c.args.self.now ++ c.args.byte ∷ []) (real-reading c.args.self.now c.args.byte c.requires high ∙ real-none (begins c.args.byte) c.args.byte (λ e. c.in_default.not-RealTime (c.of.ensures ∙ e)));
      leaves = sym (real-rest c.args.self.now c.args.byte c.requires high);
      err = tt;
    }

pub returns-in_ok-push-clause-told : goal.returns-in_ok-push-clause-told
returns-in_ok-push-clause-told c =
    let high : 248 ≤ c.args.byte = leb-true 248 c.args.byte (sym c.is_real_time.ensures ∙ c.if-not-is_real_time.false) in
    gains-one _ c.args.out.now.items c.alone.result (c.args.byte ∷ []) (c.args.self.now ++ c.args.byte ∷ []) c.in_ok-push.ensures.items c.alone.ensures
    (real-reading c.args.self.now c.args.byte c.requires high ∙ ap (λ k. real_of k c.args.byte) (sym c.of.ensures ∙ c.in-RealTime.is))

pub returns-in_ok-push-clause-leaves : goal.returns-in_ok-push-clause-leaves
returns-in_ok-push-clause-leaves c = sym (real-rest c.args.self.now c.args.byte c.requires (leb-true 248 c.args.byte (sym c.is_real_time.ensures ∙ c.if-not-is_real_time.false)))

pub returns-then-not-is_real_time-clause-told : goal.returns-then-not-is_real_time-clause-told
returns-then-not-is_real_time-clause-told c =
    let s : IsBlockStatus c.args.byte = record { high = leb-true 128 c.args.byte (sym c.is_status.ensures ∙ c.if-not-is_status.false); low = leb-false 248 c.args.byte (sym c.is_real_time.ensures ∙ c.if-not-is_real_time.true) } in
    on_ok_weaker c.begin.result (λ p. gained-more c.begin.new.out.items c.end.new.out.items c.args.out.now.items (reading (c.args.self.now ++ 247 ∷ [])) (reading (c.args.byte ∷ [])) _ p c.in_ok-end.ensures.told (status-reading c.args.self.now c.args.byte c.requires s)) c.begin.ensures.told

pub returns-then-not-is_real_time-clause-leaves : goal.returns-then-not-is_real_time-clause-leaves
returns-then-not-is_real_time-clause-leaves c =
    let s : IsBlockStatus c.args.byte = record { high = leb-true 128 c.args.byte (sym c.is_status.ensures ∙ c.if-not-is_status.false); low = leb-false 248 c.args.byte (sym c.is_real_time.ensures ∙ c.if-not-is_real_time.true) } in
    on_ok_weaker c.begin.result (λ p. p ∙ sym (status-rest c.args.self.now c.args.byte c.requires s)) c.begin.ensures.leaves

pub returns-then-not-is_real_time-clause-err : goal.returns-then-not-is_real_time-clause-err
returns-then-not-is_real_time-clause-err c =
    let s : IsBlockStatus c.args.byte = record { high = leb-true 128 c.args.byte (sym c.is_status.ensures ∙ c.if-not-is_status.false); low = leb-false 248 c.args.byte (sym c.is_real_time.ensures ∙ c.if-not-is_real_time.true) } in
    on_err_weaker c.begin.result (λ p. first-gained c.begin.new.out.items c.args.out.now.items (reading (c.args.self.now ++ 247 ∷ [])) (reading (c.args.byte ∷ [])) _ (p ∙ c.in_ok-end.ensures.told) (status-reading c.args.self.now c.args.byte c.requires s)) c.begin.ensures.err

pub alone-requires : goal.alone-requires
alone-requires c = subst (λ (k : StatusClass). IsTrue (is_tail k [])) (sym c.in-RealTime.is ∙ c.of.ensures) refl
