use Rattle.std.proofs.Common.{◌≡◌, List, ℕ, ◌∷◌, ◌++◌, [], sym, ap, ◌∙◌}
use Rattle.midi_wire.specs.Readings.{reading}
use Rattle.memory.proofs.Outcomes.{on_err}
use Rattle.midi_wire.proofs.Calls.{gains-none}
use Rattle.midi_wire.proofs.EndOthers.{end-others}
use Rattle.midi_wire.proofs.Outcomes.{gained-more, first-gained}
use Rattle.midi_wire.proofs.Voices.{voice-reading, voice-rest}
use Rattle.midi_wire.proofs.parser.OpenBlock.take_voice.Goals as goal
use Rattle.midi_wire.proofs.parser.OpenBlock.take_voice.Goals.{in-Collecting+in_ok-end, in_default}

pub returns-in_err-push-clause-err : goal.returns-in_err-push-clause-err
returns-in_err-push-clause-err c =
    let ended : c.match-self.out.items ≡ c.args.out.now.items ++ reading (c.args.self.now ++ 247 ∷ []) =
    elim c.match-self.branch [
      | in-Collecting+in_ok-end w ↦ ap (λ v. v.items) w.out-is ∙ w.in_ok-end.ensures.told
      | in_default w ↦ ap (λ v. v.items) w.out-is ∙ gains-none c.args.out.now.items (c.args.self.now ++ 247 ∷ []) (end-others c.self.inside.block c.self.inside.payload.items c.args.self.now w.in_default.not-Collecting c.self.view_is c.self.invariant.0 c.requires.settled)
    ] in
    on_err c.from_residual-in_err-push.result (first-gained c.push.new.self.items c.args.out.now.items (reading (c.args.self.now ++ 247 ∷ [])) ((c.args.status ∷ c.args.first ∷ c.args.second ∷ []) ∷ []) _
    (c.in_err-push.ensures.items ∙ ended)
    (voice-reading c.args.self.now c.args.status c.args.first c.args.second c.requires.settled c.requires.channel c.requires.first c.requires.second))

pub returns-clause-told : goal.returns-clause-told
returns-clause-told c =
    let ended : c.match-self.out.items ≡ c.args.out.now.items ++ reading (c.args.self.now ++ 247 ∷ []) =
    elim c.match-self.branch [
      | in-Collecting+in_ok-end w ↦ ap (λ v. v.items) w.out-is ∙ w.in_ok-end.ensures.told
      | in_default w ↦ ap (λ v. v.items) w.out-is ∙ gains-none c.args.out.now.items (c.args.self.now ++ 247 ∷ []) (end-others c.self.inside.block c.self.inside.payload.items c.args.self.now w.in_default.not-Collecting c.self.view_is c.self.invariant.0 c.requires.settled)
    ] in
    gained-more c.push.new.self.items c.match-self.out.items c.args.out.now.items (reading (c.args.self.now ++ 247 ∷ [])) ((c.args.status ∷ c.args.first ∷ c.args.second ∷ []) ∷ []) _
    (c.in_ok-push.ensures.items ∙ ap (λ (m : List ℕ). c.match-self.out.items ++ m ∷ []) c.with_two.ensures)
    ended
    (voice-reading c.args.self.now c.args.status c.args.first c.args.second c.requires.settled c.requires.channel c.requires.first c.requires.second)

pub returns-clause-leaves : goal.returns-clause-leaves
returns-clause-leaves c = sym (voice-rest c.args.self.now c.args.status c.args.first c.args.second c.requires.settled c.requires.channel c.requires.first c.requires.second)
