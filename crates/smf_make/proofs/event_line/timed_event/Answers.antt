use Rattle.std.proofs.Common.{◌≡◌, ◌∙◌, ℕ, Bool, true, false, List, [], ◌∷◌, refl, sym, ap}
use Rattle.std.specs.Prelude.{if◌then◌else◌, Option, Some, None}
use Rattle.std.specs.Option.{option_map}
use Rattle.script_text.specs.Numbers.{both, only_if, u64}
use Rattle.script_text.specs.Table.{word_as}
use Rattle.script_text.specs.Words.{words}
use Rattle.smf_grammar.specs.Pairs.{TrackEvent}
use Rattle.smf_grammar.specs.Written.{has_bytes}
use Rattle.smf_make.specs.Events.{said_event}
use Rattle.smf_make.specs.SaidEvents.{behind_word, event_by, event_said, timed_by, timed_event}
use Rattle.smf_make.proofs.FirstWords.{said-first}
use Rattle.smf_make.proofs.event_line.timed_event.Goals as goal

-- an event behind a number, where a length can count its bytes
timed : (line rest : List ℕ) (tick : ℕ) (e : TrackEvent) (t : Bool) → word_as u64 (words line) ≡ Some (tick, words rest) → rest ≡ behind_word line → event_by (words rest) (behind_word rest) ≡ Some e → has_bytes e ≡ t → timed_event line ≡ (if t then Some (tick, e) else None)
unfolding timed_event
timed line rest tick e t first behind said counted = go (words line) first
  where
    counts : (t : Bool) → option_map {U = ℕ × TrackEvent} (λ x. (tick, x)) (if t then Some e else None) ≡ (if t then Some (tick, e) else None)
    counts true = refl
    counts false = refl

    go : (ws : List (List ℕ)) → word_as u64 ws ≡ Some (tick, words rest) → timed_by ws (behind_word line) ≡ (if t then Some (tick, e) else None)
    go [] first = cc
    go (w ∷ ws) first =
        let is = said-first (u64 w) tick ws (words rest) first in
        ap (λ (o : Option ℕ). both {C = ℕ × TrackEvent} (λ n x. (n, x)) o (event_said (behind_word line))) is.0
        ∙ ap (λ (text : List ℕ). option_map {U = ℕ × TrackEvent} (λ x. (tick, x)) (event_said text)) (sym behind)
        ∙ ap (λ (o : Option TrackEvent). option_map {U = ℕ × TrackEvent} (λ x. (tick, x)) (only_if has_bytes o)) said
        ∙ ap (λ (b : Bool). option_map {U = ℕ × TrackEvent} (λ x. (tick, x)) (if b then Some e else None)) counted
        ∙ counts t

pub returns-then-not-has_bytes-clause-err : goal.returns-then-not-has_bytes-clause-err
returns-then-not-has_bytes-clause-err c = λ _.
    timed c.args.line.now c.in-Some.rest.now c.in-Some.tick (said_event c.in_ok-event.event) false (sym c.in-Some.ensures.said) c.in-Some.ensures.behind c.in_ok-event.ensures.ok (sym c.has_bytes.ensures ∙ c.if-not-has_bytes.true)

pub returns-clause-ok : goal.returns-clause-ok
returns-clause-ok c =
    timed c.args.line.now c.in-Some.rest.now c.in-Some.tick (said_event c.in_ok-event.event) true (sym c.in-Some.ensures.said) c.in-Some.ensures.behind c.in_ok-event.ensures.ok (sym c.has_bytes.ensures ∙ c.if-not-has_bytes.false)
