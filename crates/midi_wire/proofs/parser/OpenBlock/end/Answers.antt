use Rattle.std.proofs.Common.{List, ℕ, ◌∷◌, ◌++◌, [], sym, ap, subst, ◌∙◌}
use Rattle.std.specs.Prelude.{IsTrue}
use Rattle.midi_wire.specs.Parsing.{pending_bytes, is_sound}
use Rattle.midi_wire.proofs.Calls.{gains-none, gains-one, end-exclusive}
use Rattle.midi_wire.proofs.EndOthers.{end-others}
use Rattle.midi_wire.proofs.AllRead.{read-test}
use Rattle.midi_wire.proofs.parser.OpenBlock.end.Goals as goal
use Rattle.midi_wire.proofs.parser.OpenBlock.end.Goals.{in-Collecting+in_ok-tell_exclusive, in_default}

pub returns-clause-told : goal.returns-clause-told
returns-clause-told c =
    elim c.match-self.branch [
      | in-Collecting+in_ok-tell_exclusive w ↦
          ap (λ v. v.items) w.out-is
          ∙ gains-one _ c.args.out.now.items (240 ∷ w.as_slice.result.now ++ 247 ∷ []) (240 ∷ c.self.inside.payload.items ++ 247 ∷ []) (c.args.self.now ++ 247 ∷ []) w.in_ok-tell_exclusive.ensures.told
          (ap (λ (xs : List ℕ). 240 ∷ xs ++ 247 ∷ []) w.as_slice.ensures.value)
          (end-exclusive c.args.self.now c.self.inside.payload.items (sym c.self.view_is ∙ ap (λ k. pending_bytes k c.self.inside.payload.items) w.in-Collecting.is) c.requires (subst (λ k. IsTrue (is_sound k c.self.inside.payload.items)) w.in-Collecting.is c.self.invariant.0))
      | in_default w ↦
          ap (λ v. v.items) w.out-is
          ∙ gains-none c.args.out.now.items (c.args.self.now ++ 247 ∷ []) (end-others c.self.inside.block c.self.inside.payload.items c.args.self.now w.in_default.not-Collecting c.self.view_is c.self.invariant.0 c.requires)
    ]

pub tell_exclusive-requires : goal.tell_exclusive-requires
tell_exclusive-requires c =
    rw c.as_slice.ensures.value
    (read-test (c.args.self.now ++ 247 ∷ []) (240 ∷ c.self.inside.payload.items ++ 247 ∷ [])
    (end-exclusive c.args.self.now c.self.inside.payload.items (sym c.self.view_is ∙ ap (λ k. pending_bytes k c.self.inside.payload.items) c.in-Collecting.is) c.requires (subst (λ k. IsTrue (is_sound k c.self.inside.payload.items)) c.in-Collecting.is c.self.invariant.0)))
