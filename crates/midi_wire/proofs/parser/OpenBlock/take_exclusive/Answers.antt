use Rattle.std.proofs.Common.{◌≤◌, List, ℕ, ◌∷◌, ◌++◌, [], length, sym, ap, ◌∙◌}
use Rattle.std.specs.Rc.{rc_value}
use Rattle.midi_wire.specs.Messages.{exclusive_message}
use Rattle.midi_wire.specs.Readings.{reading}
use Rattle.midi_wire.specs.Parsing.{data_in}
use Rattle.memory.proofs.Outcomes.{on_err}
use Rattle.midi_wire.proofs.Outcomes.{gained-more, first-gained}
use Rattle.midi_wire.proofs.Exclusives.{exclusive-reading, exclusive-rest, exclusive-sound, few-data}
use Rattle.midi_wire.proofs.parser.OpenBlock.take_exclusive.Goals as goal

pub exclusive_in-requires-clause-message : goal.exclusive_in-requires-clause-message
exclusive_in-requires-clause-message c =
    let d : List ℕ = data_in c.args.from c.args.count (rc_value c.args.bytes.now).items in
    let few : length d ≤ 65536 = few-data (rc_value c.args.bytes.now).items c.args.from c.args.count c.requires.within c.requires.few in
    exclusive-sound d c.requires.data few

pub returns-in_err-exclusive_in-clause-err : goal.returns-in_err-exclusive_in-clause-err
returns-in_err-exclusive_in-clause-err c =
    let d : List ℕ = data_in c.args.from c.args.count (rc_value c.args.bytes.now).items in
    let few : length d ≤ 65536 = few-data (rc_value c.args.bytes.now).items c.args.from c.args.count c.requires.within c.requires.few in
    on_err c.from_residual-in_err-exclusive_in.result (first-gained c.end.new.out.items c.args.out.now.items (reading (c.args.self.now ++ 247 ∷ [])) (exclusive_message d ∷ []) _ c.in_ok-end.ensures.told (exclusive-reading c.args.self.now d c.requires.settled c.requires.data few))

pub returns-in_err-push-clause-err : goal.returns-in_err-push-clause-err
returns-in_err-push-clause-err c =
    let d : List ℕ = data_in c.args.from c.args.count (rc_value c.args.bytes.now).items in
    let few : length d ≤ 65536 = few-data (rc_value c.args.bytes.now).items c.args.from c.args.count c.requires.within c.requires.few in
    on_err c.from_residual-in_err-push.result (first-gained c.push.new.self.items c.args.out.now.items (reading (c.args.self.now ++ 247 ∷ [])) (exclusive_message d ∷ []) _
    (◌∙◌ {A = List (List ℕ)} c.in_err-push.ensures.items c.in_ok-end.ensures.told)
    (exclusive-reading c.args.self.now d c.requires.settled c.requires.data few))

pub returns-clause-told : goal.returns-clause-told
returns-clause-told c =
    let d : List ℕ = data_in c.args.from c.args.count (rc_value c.args.bytes.now).items in
    let few : length d ≤ 65536 = few-data (rc_value c.args.bytes.now).items c.args.from c.args.count c.requires.within c.requires.few in
    gained-more c.push.new.self.items c.end.new.out.items c.args.out.now.items (reading (c.args.self.now ++ 247 ∷ [])) (exclusive_message d ∷ []) _
    (◌∙◌ {A = List (List ℕ)} c.in_ok-push.ensures.items (ap (λ (m : List ℕ). c.end.new.out.items ++ m ∷ []) c.in_ok-exclusive_in.ensures))
    c.in_ok-end.ensures.told
    (exclusive-reading c.args.self.now d c.requires.settled c.requires.data few)

pub returns-clause-leaves : goal.returns-clause-leaves
returns-clause-leaves c =
    let d : List ℕ = data_in c.args.from c.args.count (rc_value c.args.bytes.now).items in
    let few : length d ≤ 65536 = few-data (rc_value c.args.bytes.now).items c.args.from c.args.count c.requires.within c.requires.few in
    c.in_ok-end.ensures.nothing ∙ sym (exclusive-rest c.args.self.now d c.requires.settled c.requires.data few)
