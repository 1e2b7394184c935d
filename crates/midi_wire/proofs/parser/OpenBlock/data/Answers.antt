use Rattle.std.proofs.Common.{◌≡◌, ◌∷◌, ◌++◌, [], true, refl, sym, ap, subst, ◌∙◌, inl, inr}
use Rattle.std.specs.Prelude.{IsTrue}
use Rattle.midi_wire.specs.Messages.{One, Two, begins}
use Rattle.midi_wire.specs.Parsing.{pending_bytes, is_sound, waits_for, waits_for_two}
use Rattle.midi_wire.specs.Writings.{is_channel}
use Rattle.midi_wire.proofs.Calls.{gains-none, gains-one, idle-data-reading, idle-data-rest, collecting-reading, collected-whole, collected-overlong, overlong-reading, overlong-again, after-data-reading, after-data-rest, two-silent, two-half, one-told, two-told, one-left, two-left, waits-for, waits-one, waits-both, next-left}
use Rattle.midi_wire.proofs.AllRead.{read-test}
use Rattle.midi_wire.proofs.parser.OpenBlock.data.Goals as goal

pub returns-in-Idle-clause-told : goal.returns-in-Idle-clause-told
returns-in-Idle-clause-told c =
    elim c.in-Idle.is [
      | inl e ↦ gains-none c.args.out.now.items (c.args.self.now ++ c.args.byte ∷ []) (idle-data-reading c.args.self.now c.args.byte (sym c.self.view_is ∙ ap (λ k. pending_bytes k c.self.inside.payload.items) e) c.requires.low)
      | inr e ↦ gains-none c.args.out.now.items (c.args.self.now ++ c.args.byte ∷ []) (overlong-reading c.args.self.now c.args.byte (sym c.self.view_is ∙ ap (λ k. pending_bytes k c.self.inside.payload.items) e) c.requires.settled c.requires.low)
    ]

pub returns-in-Idle-clause-leaves : goal.returns-in-Idle-clause-leaves
returns-in-Idle-clause-leaves c =
    elim c.in-Idle.is [
      | inl e ↦ (sym c.self.view_is ∙ ap (λ k. pending_bytes k c.self.inside.payload.items) e) ∙ sym (idle-data-rest c.args.self.now c.args.byte (sym c.self.view_is ∙ ap (λ k. pending_bytes k c.self.inside.payload.items) e) c.requires.low)
      | inr e ↦ overlong-again c.args.self.now c.args.byte (sym c.self.view_is ∙ ap (λ k. pending_bytes k c.self.inside.payload.items) e) c.requires.settled c.requires.low
    ]

pub returns-in_ok-push-in-One-clause-told : goal.returns-in_ok-push-in-One-clause-told
returns-in_ok-push-in-One-clause-told c =
    let waits : waits_for One (begins c.in-Waiting.status) ≡ true = ap (λ w. waits_for w (begins c.in-Waiting.status)) (sym c.in-One.is) ∙ subst (λ k. IsTrue (is_sound k c.self.inside.payload.items)) c.in-Waiting.is c.self.invariant.0 in
    gains-one _ c.args.out.now.items c.with_one.result (c.in-Waiting.status ∷ c.args.byte ∷ []) (c.args.self.now ++ c.args.byte ∷ []) c.in_ok-push-in-One.ensures.items c.with_one.ensures
    (after-data-reading c.args.self.now c.in-Waiting.status [] c.args.byte (sym c.self.view_is ∙ ap (λ k. pending_bytes k c.self.inside.payload.items) c.in-Waiting.is) c.requires.settled c.requires.low ∙ one-told (begins c.in-Waiting.status) c.in-Waiting.status c.args.byte (waits-for One (begins c.in-Waiting.status) waits) (waits-one (begins c.in-Waiting.status) waits))

pub returns-in_ok-push-in-One-clause-leaves : goal.returns-in_ok-push-in-One-clause-leaves
returns-in_ok-push-in-One-clause-leaves c =
    let waits : waits_for One (begins c.in-Waiting.status) ≡ true = ap (λ w. waits_for w (begins c.in-Waiting.status)) (sym c.in-One.is) ∙ subst (λ k. IsTrue (is_sound k c.self.inside.payload.items)) c.in-Waiting.is c.self.invariant.0 in
    ap (λ k. pending_bytes k c.self.inside.payload.items) c.next_group-self-inside.ensures
    ∙ next-left c.in-Waiting.width c.in-Waiting.status c.self.inside.payload.items
    ∙ sym (after-data-rest c.args.self.now c.in-Waiting.status [] c.args.byte (sym c.self.view_is ∙ ap (λ k. pending_bytes k c.self.inside.payload.items) c.in-Waiting.is) c.requires.settled c.requires.low ∙ one-left (begins c.in-Waiting.status) c.in-Waiting.status c.args.byte (is_channel (begins c.in-Waiting.status)) (waits-for One (begins c.in-Waiting.status) waits) (waits-one (begins c.in-Waiting.status) waits) refl)

pub returns-in-Two-clause-told : goal.returns-in-Two-clause-told
returns-in-Two-clause-told c =
    let waits : waits_for Two (begins c.in-Waiting.status) ≡ true = ap (λ w. waits_for w (begins c.in-Waiting.status)) (sym c.in-Two.is) ∙ subst (λ k. IsTrue (is_sound k c.self.inside.payload.items)) c.in-Waiting.is c.self.invariant.0 in
    gains-none c.args.out.now.items (c.args.self.now ++ c.args.byte ∷ []) (after-data-reading c.args.self.now c.in-Waiting.status [] c.args.byte (sym c.self.view_is ∙ ap (λ k. pending_bytes k c.self.inside.payload.items) c.in-Waiting.is) c.requires.settled c.requires.low ∙ two-silent (begins c.in-Waiting.status) c.in-Waiting.status c.args.byte (waits-both (begins c.in-Waiting.status) waits))

pub returns-in-Two-clause-leaves : goal.returns-in-Two-clause-leaves
returns-in-Two-clause-leaves c =
    let waits : waits_for Two (begins c.in-Waiting.status) ≡ true = ap (λ w. waits_for w (begins c.in-Waiting.status)) (sym c.in-Two.is) ∙ subst (λ k. IsTrue (is_sound k c.self.inside.payload.items)) c.in-Waiting.is c.self.invariant.0 in
    sym (after-data-rest c.args.self.now c.in-Waiting.status [] c.args.byte (sym c.self.view_is ∙ ap (λ k. pending_bytes k c.self.inside.payload.items) c.in-Waiting.is) c.requires.settled c.requires.low ∙ two-half (begins c.in-Waiting.status) c.in-Waiting.status c.args.byte (waits-both (begins c.in-Waiting.status) waits))

pub returns-in_ok-push-in-Half-clause-told : goal.returns-in_ok-push-in-Half-clause-told
returns-in_ok-push-in-Half-clause-told c =
    let waits : waits_for_two (begins c.in-Half.status) ≡ true = subst (λ k. IsTrue (is_sound k c.self.inside.payload.items)) c.in-Half.is c.self.invariant.0 in
    gains-one _ c.args.out.now.items c.with_two.result (c.in-Half.status ∷ c.in-Half.first ∷ c.args.byte ∷ []) (c.args.self.now ++ c.args.byte ∷ []) c.in_ok-push-in-Half.ensures.items c.with_two.ensures
    (after-data-reading c.args.self.now c.in-Half.status (c.in-Half.first ∷ []) c.args.byte (sym c.self.view_is ∙ ap (λ k. pending_bytes k c.self.inside.payload.items) c.in-Half.is) c.requires.settled c.requires.low ∙ two-told (begins c.in-Half.status) c.in-Half.status c.in-Half.first c.args.byte waits)

pub returns-in_ok-push-in-Half-clause-leaves : goal.returns-in_ok-push-in-Half-clause-leaves
returns-in_ok-push-in-Half-clause-leaves c =
    let waits : waits_for_two (begins c.in-Half.status) ≡ true = subst (λ k. IsTrue (is_sound k c.self.inside.payload.items)) c.in-Half.is c.self.invariant.0 in
    ap (λ k. pending_bytes k c.self.inside.payload.items) c.next_group-self-inside-in-Half.ensures
    ∙ next-left Two c.in-Half.status c.self.inside.payload.items
    ∙ sym (after-data-rest c.args.self.now c.in-Half.status (c.in-Half.first ∷ []) c.args.byte (sym c.self.view_is ∙ ap (λ k. pending_bytes k c.self.inside.payload.items) c.in-Half.is) c.requires.settled c.requires.low ∙ two-left (begins c.in-Half.status) c.in-Half.status c.in-Half.first c.args.byte (is_channel (begins c.in-Half.status)) waits refl)

pub returns-then-not-branch-clause-told : goal.returns-then-not-branch-clause-told
returns-then-not-branch-clause-told c =
    gains-none c.args.out.now.items (c.args.self.now ++ c.args.byte ∷ [])
    (collecting-reading c.args.self.now c.self.inside.payload.items (c.args.byte ∷ []) (sym c.self.view_is ∙ ap (λ k. pending_bytes k c.self.inside.payload.items) c.in-Collecting.is) c.self.invariant.1 c.requires.settled (c.requires.low, tt))

pub returns-else-not-branch-clause-told : goal.returns-else-not-branch-clause-told
returns-else-not-branch-clause-told c =
    gains-none c.args.out.now.items (c.args.self.now ++ c.args.byte ∷ [])
    (collecting-reading c.args.self.now c.self.inside.payload.items (c.args.byte ∷ []) (sym c.self.view_is ∙ ap (λ k. pending_bytes k c.self.inside.payload.items) c.in-Collecting.is) c.self.invariant.1 c.requires.settled (c.requires.low, tt))

pub returns-then-not-branch-clause-leaves : goal.returns-then-not-branch-clause-leaves
returns-then-not-branch-clause-leaves c =
    collected-overlong c.args.self.now c.self.inside.payload.items (c.args.byte ∷ []) c.in_ok-add_data-in-Collecting.field-0 (sym c.self.view_is ∙ ap (λ k. pending_bytes k c.self.inside.payload.items) c.in-Collecting.is) c.self.invariant.1 c.requires.settled (c.requires.low, tt) c.in_ok-add_data-in-Collecting.ensures.fits c.if-not-branch.true

pub returns-else-not-branch-clause-leaves : goal.returns-else-not-branch-clause-leaves
returns-else-not-branch-clause-leaves c =
    ap (λ k. pending_bytes k c.add_data.new.payload.items) c.in-Collecting.is
    ∙ collected-whole c.args.self.now c.self.inside.payload.items (c.args.byte ∷ []) c.add_data.new.payload.items c.in_ok-add_data-in-Collecting.field-0 (sym c.self.view_is ∙ ap (λ k. pending_bytes k c.self.inside.payload.items) c.in-Collecting.is) c.self.invariant.1 c.requires.settled (c.requires.low, tt) c.in_ok-add_data-in-Collecting.ensures.fits c.if-not-branch.false c.in_ok-add_data-in-Collecting.ensures.added

pub with_two-requires : goal.with_two-requires
with_two-requires c = read-test (c.args.self.now ++ c.args.byte ∷ []) (c.in-Half.status ∷ c.in-Half.first ∷ c.args.byte ∷ []) (after-data-reading c.args.self.now c.in-Half.status (c.in-Half.first ∷ []) c.args.byte (sym c.self.view_is ∙ ap (λ k. pending_bytes k c.self.inside.payload.items) c.in-Half.is) c.requires.settled c.requires.low ∙ two-told (begins c.in-Half.status) c.in-Half.status c.in-Half.first c.args.byte (subst (λ k. IsTrue (is_sound k c.self.inside.payload.items)) c.in-Half.is c.self.invariant.0))
