use Rattle.std.proofs.Common.{ℕ, ◌∷◌, ◌++◌, [], take, drop, get_or, sym, ap, ◌∙◌}
use Rattle.std.proofs.lemmas.Bool.{leb-false}
use Rattle.std.proofs.lemmas.List.{take-append-drop}
use Rattle.midi_wire.specs.Parsing.{pending_bytes}
use Rattle.midi_wire.proofs.Calls.{gains-none, gains-one, collecting-reading, collected-whole, collected-overlong, data-taken}
use Rattle.midi_wire.proofs.Voices.{running-reading, running-rest}
use Rattle.memory.proofs.Outcomes.{on_err}
use Rattle.midi_wire.proofs.Outcomes.{prefix-of-first, cut-one, cut-three, take-two, on_err-then}
use Rattle.midi_wire.proofs.parser.OpenBlock.take_front.Goals as goal

pub returns-in_err-take_voice-clause-err : goal.returns-in_err-take_voice-clause-err
returns-in_err-take_voice-clause-err c =
    on_err c.from_residual.result (prefix-of-first c.args.out.now.items c.take_voice.new.out.items c.args.self.now (get_or c.args.bytes.now 0 0 ∷ get_or c.args.bytes.now 1 0 ∷ get_or c.args.bytes.now 2 0 ∷ []) (drop 3 c.args.bytes.now) c.args.bytes.now (cut-three c.args.bytes.now c.in-len3-up.len_at_least) c.in_err-take_voice.ensures.err)

pub returns-in_err-take-clause-err : goal.returns-in_err-take-clause-err
returns-in_err-take-clause-err c =
    on_err c.from_residual-in_err-take.result (prefix-of-first c.args.out.now.items c.take.new.out.items c.args.self.now (get_or c.args.bytes.now 0 0 ∷ []) (drop 1 c.args.bytes.now) c.args.bytes.now (cut-one c.args.bytes.now c.requires.some) c.in_err-take.ensures.err)

pub returns-else-is_status-clause-told : goal.returns-else-is_status-clause-told
returns-else-is_status-clause-told c =
    let a : ℕ = get_or c.args.bytes.now 0 0 in
    let b : ℕ = get_or c.args.bytes.now 1 0 in
    gains-one _ c.args.out.now.items c.with_two.result (c.in-Waiting.status ∷ a ∷ b ∷ []) (c.args.self.now ++ take 2 c.args.bytes.now) c.in_ok-push.ensures.items c.with_two.ensures
    (running-reading c.args.self.now (take 2 c.args.bytes.now) c.in-Waiting.status a b
    (sym c.self.view_is ∙ ap (λ k. pending_bytes k c.self.inside.payload.items) c.in-Waiting.is) (take-two c.args.bytes.now c.in-len2-up.len_at_least) (c.is_voice_of_two-else-is_status.ensures.0 c.if-is_voice_of_two-2.true)
    (leb-false 128 a (sym c.is_status.ensures ∙ c.if-is_status.false)) (leb-false 128 b (sym c.is_status-else-is_status.ensures ∙ c.if-not-is_status-3.true)))

pub returns-else-is_status-clause-leaves : goal.returns-else-is_status-clause-leaves
returns-else-is_status-clause-leaves c =
    let a : ℕ = get_or c.args.bytes.now 0 0 in
    let b : ℕ = get_or c.args.bytes.now 1 0 in
    running-rest c.args.self.now (take 2 c.args.bytes.now) c.in-Waiting.status a b
    (sym c.self.view_is ∙ ap (λ k. pending_bytes k c.self.inside.payload.items) c.in-Waiting.is) (take-two c.args.bytes.now c.in-len2-up.len_at_least) (c.is_voice_of_two-else-is_status.ensures.0 c.if-is_voice_of_two-2.true)
    (leb-false 128 a (sym c.is_status.ensures ∙ c.if-is_status.false)) (leb-false 128 b (sym c.is_status-else-is_status.ensures ∙ c.if-not-is_status-3.true))

-- whole exclusive messages among the first bytes
pub returns-in-Some-clause-err : goal.returns-in-Some-clause-err
returns-in-Some-clause-err c =
    on_err-then c.take_exclusives.result (prefix-of-first c.args.out.now.items c.take_exclusives.new.out.items c.args.self.now (take c.min.result c.args.bytes.now) (drop c.min.result c.args.bytes.now) c.args.bytes.now (sym (take-append-drop c.min.result c.args.bytes.now))) c.take_exclusives.ensures.err

-- the bytes before the first status, of an exclusive message
pub returns-then-not-branch-clause-told : goal.returns-then-not-branch-clause-told
returns-then-not-branch-clause-told c =
    gains-none c.args.out.now.items (c.args.self.now ++ take c.data_len-count.result c.args.bytes.now)
    (collecting-reading c.args.self.now c.self.inside.payload.items (take c.data_len-count.result c.args.bytes.now) (sym c.self.view_is ∙ ap (λ k. pending_bytes k c.self.inside.payload.items) c.in-Collecting.is) c.self.invariant.1 c.requires.settled (data-taken c.args.bytes.now c.data_len-count.result c.data_len-count.ensures.value))

pub returns-else-not-branch-clause-told : goal.returns-else-not-branch-clause-told
returns-else-not-branch-clause-told c =
    gains-none c.args.out.now.items (c.args.self.now ++ take c.data_len-count.result c.args.bytes.now)
    (collecting-reading c.args.self.now c.self.inside.payload.items (take c.data_len-count.result c.args.bytes.now) (sym c.self.view_is ∙ ap (λ k. pending_bytes k c.self.inside.payload.items) c.in-Collecting.is) c.self.invariant.1 c.requires.settled (data-taken c.args.bytes.now c.data_len-count.result c.data_len-count.ensures.value))

pub returns-then-not-branch-clause-leaves : goal.returns-then-not-branch-clause-leaves
returns-then-not-branch-clause-leaves c =
    collected-overlong c.args.self.now c.self.inside.payload.items (take c.data_len-count.result c.args.bytes.now) c.in_ok-add_data.field-0 (sym c.self.view_is ∙ ap (λ k. pending_bytes k c.self.inside.payload.items) c.in-Collecting.is) c.self.invariant.1 c.requires.settled (data-taken c.args.bytes.now c.data_len-count.result c.data_len-count.ensures.value) c.in_ok-add_data.ensures.fits c.if-not-branch.true

pub returns-else-not-branch-clause-leaves : goal.returns-else-not-branch-clause-leaves
returns-else-not-branch-clause-leaves c =
    ap (λ k. pending_bytes k c.add_data.new.payload.items) c.in-Collecting.is
    ∙ collected-whole c.args.self.now c.self.inside.payload.items (take c.data_len-count.result c.args.bytes.now) c.add_data.new.payload.items c.in_ok-add_data.field-0 (sym c.self.view_is ∙ ap (λ k. pending_bytes k c.self.inside.payload.items) c.in-Collecting.is) c.self.invariant.1 c.requires.settled (data-taken c.args.bytes.now c.data_len-count.result c.data_len-count.ensures.value) c.in_ok-add_data.ensures.fits c.if-not-branch.false c.in_ok-add_data.ensures.added
