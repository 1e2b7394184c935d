use Rattle.std.proofs.Common.{◌∙◌, sym, subst, ap}
use Rattle.tempo_clock.specs.Kept.{AreStartsKept}
use Rattle.tempo_clock.proofs.Numerators.{numerator-zero}
use Rattle.tempo_clock.proofs.Segments.{segment-smpte, segment-start, segment-covers, segment-start_small}
use Rattle.tempo_clock.proofs.tempo_table.TempoTable.segment.Goals as goal

pub returns-then-after-eq0-clause-start : goal.returns-then-after-eq0-clause-start
returns-then-after-eq0-clause-start c = sym (numerator-zero c.args.self.now)

pub returns-then-after-eq0-clause-covers : goal.returns-then-after-eq0-clause-covers
returns-then-after-eq0-clause-covers c =
    let kept : AreStartsKept c.args.self.now c.self.inside.ppq c.self.inside.starts.items = subst (λ m. AreStartsKept m c.self.inside.ppq c.self.inside.starts.items) c.self.view_is c.self.invariant in
    λ t low high. segment-smpte c.args.self.now kept.sound (c.requires.some c.if-after-eq0.true) t

pub returns-clause-start : goal.returns-clause-start
returns-clause-start c =
    let kept : AreStartsKept c.args.self.now c.self.inside.ppq c.self.inside.starts.items = subst (λ m. AreStartsKept m c.self.inside.ppq c.self.inside.starts.items) c.self.view_is c.self.invariant in
    segment-start _ _ _ _ _ _ kept (c.as_slice-entries.ensures.value ∙ ap (λ m. m.entries) c.self.view_is) c.as_slice.ensures.value c.if-after-eq0.false c.requires.within

pub returns-clause-covers : goal.returns-clause-covers
returns-clause-covers c =
    let kept : AreStartsKept c.args.self.now c.self.inside.ppq c.self.inside.starts.items = subst (λ m. AreStartsKept m c.self.inside.ppq c.self.inside.starts.items) c.self.view_is c.self.invariant in
    λ t low high. segment-covers _ _ _ _ _ _ t kept (c.as_slice-entries.ensures.value ∙ ap (λ m. m.entries) c.self.view_is) c.as_slice.ensures.value c.if-after-eq0.false c.requires.within low high

pub returns-clause-start_small : goal.returns-clause-start_small
returns-clause-start_small c =
    let kept : AreStartsKept c.args.self.now c.self.inside.ppq c.self.inside.starts.items = subst (λ m. AreStartsKept m c.self.inside.ppq c.self.inside.starts.items) c.self.view_is c.self.invariant in
    segment-start_small _ _ _ _ _ _ kept (c.as_slice-entries.ensures.value ∙ ap (λ m. m.entries) c.self.view_is) c.as_slice.ensures.value c.if-after-eq0.false c.requires.within
