use Rattle.std.proofs.Common.{◌∙◌, ap, ℤ, pos, rules}
use Rattle.route_filter.specs.Chains.{note_after}
use Rattle.route_filter.proofs.Ranges.{shift-stays}
use Rattle.route_filter.proofs.Composed.{whole-some, whole-none, passed-twice}
use Rattle.route_filter.proofs.rule_args.RuleArgs.then.Goals as goal

pub returns-in-Some-clause-rule : goal.returns-in-Some-clause-rule
returns-in-Some-clause-rule c = search rules

pub returns-in-Some-clause-passed : goal.returns-in-Some-clause-passed
returns-in-Some-clause-passed c =
    let notes = c.in-Some.notes in
    let stays = shift-stays notes.shift c.in-Some.ensures.shift in
    let whole = whole-some c.args.self.now c.args.next.now _ _ _ c.channels_then-channels.ensures c.or-channel.ensures (c.intersection-kinds.ensures tt) notes.low notes.high _
    (λ n. ap (λ (z : ℤ). note_after notes.low notes.high z n) stays ∙ c.in-Some.ensures.both n) in
    passed-twice _ _ _ c.requires.first c.requires.second (returns-in-Some-clause-rule c) whole

pub returns-in-None-clause-rule : goal.returns-in-None-clause-rule
returns-in-None-clause-rule c = search rules

pub returns-in-None-clause-passed : goal.returns-in-None-clause-passed
returns-in-None-clause-passed c =
    let whole = whole-none c.args.self.now c.args.next.now _ _ _ c.channels_then-channels.ensures c.or-channel.ensures (c.intersection-kinds.ensures tt) 0 127 (pos 0) _ (c.intersection.ensures tt) c.in-None.ensures.none in
    passed-twice _ _ _ c.requires.first c.requires.second (returns-in-None-clause-rule c) whole
