use Rattle.std.proofs.Common.{◌≤◌, List, ℕ, ◌∷◌, [], length, refl, sym, ap, subst, ◌∙◌, arith}
use Rattle.std.specs.Prelude.{IsTrue}
use Rattle.std.proofs.lemmas.Bool.{le-leb}
use Rattle.midi_wire.specs.Messages.{StatusClass, Exclusive, TuneRequest, begins, most_data, is_tail}
use Rattle.midi_wire.specs.Parsing.{waits_for}
use Rattle.midi_wire.proofs.Calls.{gains-none, gains-one, begin-waiting-reading, begin-waiting-rest, begin-by-reading, begin-by-rest, waits-of, waits-for, begun-nothing}
use Rattle.midi_wire.proofs.Written.{exclusive-is}
use Rattle.midi_wire.proofs.parser.OpenBlock.begin.Goals as goal

pub invariant_of-self-in-Channel : goal.invariant_of-self-in-Channel
invariant_of-self-in-Channel c = (ap (waits_for c.in-Channel.width) (sym c.of.ensures) ∙ waits-of c.in-Channel.width c.of.result c.in-Channel.is, c.self.invariant.1)

pub returns-in-Channel-clause-told : goal.returns-in-Channel-clause-told
returns-in-Channel-clause-told c =
    gains-none c.args.out.now.items (c.args.status ∷ []) (begin-waiting-reading c.args.status c.requires.high c.requires.low (waits-for c.in-Channel.width (begins c.args.status) (ap (waits_for c.in-Channel.width) (sym c.of.ensures) ∙ waits-of c.in-Channel.width c.of.result c.in-Channel.is)))

pub returns-in-Channel-clause-leaves : goal.returns-in-Channel-clause-leaves
returns-in-Channel-clause-leaves c =
    sym (begin-waiting-rest c.args.status c.requires.high c.requires.low (waits-for c.in-Channel.width (begins c.args.status) (ap (waits_for c.in-Channel.width) (sym c.of.ensures) ∙ waits-of c.in-Channel.width c.of.result c.in-Channel.is)))

pub returns-in-Exclusive-clause-told : goal.returns-in-Exclusive-clause-told
returns-in-Exclusive-clause-told c = gains-none c.args.out.now.items (c.args.status ∷ []) (begin-by-reading c.args.status Exclusive c.requires.high c.requires.low (sym c.of.ensures ∙ c.in-Exclusive.is))

pub returns-in-Exclusive-clause-leaves : goal.returns-in-Exclusive-clause-leaves
returns-in-Exclusive-clause-leaves c =
    ap (λ (xs : List ℕ). 240 ∷ xs) c.clear.ensures.items
    ∙ ap (λ (n : ℕ). n ∷ []) (sym (exclusive-is c.args.status (sym c.of.ensures ∙ c.in-Exclusive.is)))
    ∙ sym (begin-by-rest c.args.status Exclusive c.requires.high c.requires.low (sym c.of.ensures ∙ c.in-Exclusive.is))

pub returns-in-RealTime-clause-told : goal.returns-in-RealTime-clause-told
returns-in-RealTime-clause-told c = gains-none c.args.out.now.items (c.args.status ∷ []) (begin-by-reading c.args.status c.of.result c.requires.high c.requires.low (sym c.of.ensures) ∙ (begun-nothing c.of.result c.args.status c.in-RealTime.is).0)

pub returns-in-RealTime-clause-leaves : goal.returns-in-RealTime-clause-leaves
returns-in-RealTime-clause-leaves c = c.requires.idle ∙ sym (begin-by-rest c.args.status c.of.result c.requires.high c.requires.low (sym c.of.ensures) ∙ (begun-nothing c.of.result c.args.status c.in-RealTime.is).1)

pub returns-in_ok-push-in-TuneRequest-clause-told : goal.returns-in_ok-push-in-TuneRequest-clause-told
returns-in_ok-push-in-TuneRequest-clause-told c =
    gains-one _ c.args.out.now.items c.alone.result (c.args.status ∷ []) (c.args.status ∷ []) c.in_ok-push-in-TuneRequest.ensures.items c.alone.ensures
    (begin-by-reading c.args.status TuneRequest c.requires.high c.requires.low (sym c.of.ensures ∙ c.in-TuneRequest.is))

pub returns-in_ok-push-in-TuneRequest-clause-leaves : goal.returns-in_ok-push-in-TuneRequest-clause-leaves
returns-in_ok-push-in-TuneRequest-clause-leaves c = c.requires.idle ∙ sym (begin-by-rest c.args.status TuneRequest c.requires.high c.requires.low (sym c.of.ensures ∙ c.in-TuneRequest.is))

pub invariant_of-self : goal.invariant_of-self
invariant_of-self c =
    let few : length c.clear.new.self.items ≤ most_data = subst (λ (xs : List ℕ). length xs ≤ most_data) (sym c.clear.ensures.items) (omega arith) in
    (le-leb (length c.clear.new.self.items) most_data few, few)

pub alone-requires : goal.alone-requires
alone-requires c = subst (λ (k : StatusClass). IsTrue (is_tail k [])) (sym c.in-TuneRequest.is ∙ c.of.ensures) refl
