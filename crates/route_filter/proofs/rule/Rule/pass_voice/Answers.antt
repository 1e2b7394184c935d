use Rattle.std.proofs.Common.{◌∙◌, ap, sym, refl, ℕ, ◌+◌, ◌-◌, ◌%◌, Bool, Some, None}
use Rattle.route_filter.specs.Passing.{rule_output}
use Rattle.route_filter.specs.VoiceBytes.{first_byte_after}
use Rattle.route_filter.proofs.Calls.{kind-missing, channel-missing, found}
use Rattle.route_filter.proofs.rule.Rule.pass_voice.Goals as goal

pub returns-then-not-has_voice_kind : goal.returns-then-not-has_voice_kind
returns-then-not-has_voice_kind c =
    kind-missing _ _ _ _ _ c.self.view_is c.self.invariant c.voice.invariant _ c.has_voice_kind.ensures c.if-not-has_voice_kind.true
    ∙ ap (rule_output c.args.self.now) c.voice.view_is

pub returns-then-not-has_channel : goal.returns-then-not-has_channel
returns-then-not-has_channel c =
    channel-missing _ _ _ _ _ c.self.view_is c.self.invariant c.voice.invariant _ c.has_channel.ensures c.if-not-has_channel.true
    ∙ ap (rule_output c.args.self.now) c.voice.view_is

pub returns-in_err-first : goal.returns-in_err-first
returns-in_err-first c =
    let rule = c.args.self.now in
    let first = sym c.in_err-first.was ∙ c.moved.ensures ∙ ap (λ (t : Bool). first_byte_after rule t c.voice.inside.first) c.has_note.ensures in
    c.from_residual.ensures
    ∙ found rule _ _ _ c.voice.inside.second c.self.view_is c.self.invariant c.voice.invariant _ _ None _ c.has_voice_kind.ensures c.if-not-has_voice_kind.false c.has_channel.ensures c.if-not-has_channel.false first refl
    ∙ ap (rule_output rule) c.voice.view_is

pub returns : goal.returns
returns c =
    let rule = c.args.self.now in
    let first = sym c.in_ok-first.was ∙ c.moved.ensures ∙ ap (λ (t : Bool). first_byte_after rule t c.voice.inside.first) c.has_note.ensures in
    found rule _ _ _ c.voice.inside.second c.self.view_is c.self.invariant c.voice.invariant _ _ (Some c.in_ok-first.first) _ c.has_voice_kind.ensures c.if-not-has_voice_kind.false c.has_channel.ensures c.if-not-has_channel.false first
    (ap (λ (n : ℕ). c.voice.inside.status - c.voice.inside.status % 16 + n) c.unwrap_or.ensures)
    ∙ ap (rule_output rule) c.voice.view_is
