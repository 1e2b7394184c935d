use Rattle.std.proofs.Common.{◌≡◌, ◌<◌, ◌∙◌, ap, sym, subst, take}
use Rattle.std.specs.Prelude.{filter, nat_lt}
use Rattle.memory.proofs.Outcomes.{on_err}
use Rattle.tempo_clock.specs.Ticks.{Tempos, numerator}
use Rattle.tempo_clock.specs.Kept.{AreBefore}
use Rattle.tempo_clock.specs.Shared.{table_of}
use Rattle.tempo_clock.proofs.Parts.{first_rises, second_rises, all_before}
use Rattle.tempo_clock.proofs.Changed.{kept-changed}
use Rattle.tempo_clock.proofs.tempo_map.TempoMap.change.Goals as goal

pub entries_before-kept-requires : goal.entries_before-kept-requires
entries_before-kept-requires c =
    let es : c.entries.result.now ≡ (table_of c.self.inside.base).entries = c.entries.ensures ∙ ap (λ (t : Tempos). t.entries) c.table.ensures in
    rw es (first_rises _ _ c.self.invariant.0.sound.ordered)

pub entries_before-own-requires : goal.entries_before-own-requires
entries_before-own-requires c = rw c.as_slice.ensures.value (second_rises _ _ c.self.invariant.0.sound.ordered)

pub returns-in_err-replace_from-clause-memory : goal.returns-in_err-replace_from-clause-memory
returns-in_err-replace_from-clause-memory c =
    let es : c.entries.result.now ≡ (table_of c.self.inside.base).entries = c.entries.ensures ∙ ap (λ (t : Tempos). t.entries) c.table.ensures in
    let metrical : (table_of c.self.inside.base).division < 32768 = subst (λ (m : Tempos). m.division < 32768) (sym c.self.view_is) c.requires.metrical in
    on_err c.from_residual.result (subst (λ (m : Tempos). m.entries ≡ filter (λ e. nat_lt e.tick c.args.from_tick) m.entries) c.self.view_is
    (all_before (take c.self.inside.kept (table_of c.self.inside.base).entries) c.self.inside.added.entries.items c.args.from_tick _ _ c.self.invariant.0.sound.ordered
    (subst (λ xs. AreBefore (take c.self.inside.kept xs) c.args.from_tick c.entries_before-kept.result) es c.entries_before-kept.ensures)
    (subst (λ xs. AreBefore xs c.args.from_tick c.entries_before-own.result) c.as_slice.ensures.value c.entries_before-own.ensures)
    (c.in_err-replace_from.ensures.some (c.self.invariant.1 metrical)) c.in_err-replace_from.ensures.full))

pub invariant_of-self-2 : goal.invariant_of-self-2
invariant_of-self-2 c =
    let es : c.entries.result.now ≡ (table_of c.self.inside.base).entries = c.entries.ensures ∙ ap (λ (t : Tempos). t.entries) c.table.ensures in
    let metrical : (table_of c.self.inside.base).division < 32768 = subst (λ (m : Tempos). m.division < 32768) (sym c.self.view_is) c.requires.metrical in (
      kept-changed (table_of c.self.inside.base) c.self.inside.kept c.self.inside.added.entries.items c.self.inside.added.starts.items c.self.invariant.0 c.args.from_tick c.args.tempo _ _
          (subst (λ xs. AreBefore (take c.self.inside.kept xs) c.args.from_tick c.entries_before-kept.result) es c.entries_before-kept.ensures)
          (subst (λ xs. AreBefore xs c.args.from_tick c.entries_before-own.result) c.as_slice.ensures.value c.entries_before-own.ensures)
          _ _ _ c.requires.tempo metrical (c.numerator_at-start.ensures.value ∙ ap (λ n. numerator n c.args.from_tick) (sym c.self.view_is))
          c.in_ok-replace_from.ensures.entries c.in_ok-replace_from.ensures.starts,
      λ d. c.in_ok-replace_from.ensures.room (c.self.invariant.1 d),
    )
