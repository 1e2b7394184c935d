use Rattle.std.proofs.Common.{◌≡◌, ◌<◌, ◌∙◌, sym, ap, length, drop, ℕ, arith, length-drop}
use Rattle.std.proofs.lemmas.Bool.{false≢true, eqb-true, eq-eqb}
use Rattle.script_text.proofs.Cut.{no_word, next_word}
use Rattle.smf_make.specs.SaidEvents.{from_blank}
use Rattle.smf_make.proofs.FirstWords.{unindented-drop, from_blank-drop, some-word}
use Rattle.smf_make.proofs.words.split_word.Goals as goal

pub returns-then-is_empty-clause-none : goal.returns-then-is_empty-clause-none
returns-then-is_empty-clause-none c =
    no_word c.args.line.now c.unindented-text.result.now (c.unindented-text.ensures.value ∙ unindented-drop c.args.line.now) (eqb-true (length c.unindented-text.result.now) 0 (sym c.is_empty.ensures ∙ c.if-is_empty.true))

pub returns-clause-some : goal.returns-clause-some
returns-clause-some c =
    next_word c.args.line.now c.unindented-text.result.now c.split_at.result.0.now c.split_at.result.1.now c.word_len.result (c.unindented-text.ensures.value ∙ unindented-drop c.args.line.now)
    (λ e. false≢true (sym c.if-is_empty.false ∙ c.is_empty.ensures ∙ eq-eqb (length c.unindented-text.result.now) 0 e)) c.word_len.ensures.value c.split_at.ensures.front c.split_at.ensures.back

pub returns-clause-behind : goal.returns-clause-behind
returns-clause-behind c =
    c.split_at.ensures.back ∙ ap (λ n. drop n c.unindented-text.result.now) c.word_len.ensures.value
    ∙ sym (from_blank-drop c.unindented-text.result.now) ∙ ap from_blank c.unindented-text.ensures.value

pub returns-clause-shorter : goal.returns-clause-shorter
returns-clause-shorter c =
    let some : 0 < c.word_len.result = some-word c.args.line.now c.unindented-text.result.now c.word_len.result c.unindented-text.ensures.value (λ e. false≢true (sym c.if-is_empty.false ∙ c.is_empty.ensures ∙ eq-eqb (length c.unindented-text.result.now) 0 e)) c.word_len.ensures.value in
    let rest : length c.split_at.result.1.now ≡ length (drop c.word_len.result c.unindented-text.result.now) = ap length c.split_at.ensures.back in
    omega (arith, length-drop {A = ℕ}, rest, c.unindented-text.ensures.within, c.word_len.ensures.within)
