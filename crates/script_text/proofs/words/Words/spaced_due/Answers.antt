use Rattle.std.proofs.Common.{◌-◌, ℕ, List, drop, take, length, sym, ap, refl, ◌∙◌, arith}
use Rattle.std.proofs.lemmas.List.{take_rest}
use Rattle.script_text.specs.Numbers.{due_word}
use Rattle.script_text.specs.Table.{word_as}
use Rattle.script_text.proofs.Usual.{due_front}
use Rattle.script_text.proofs.words.Words.spaced_due.Goals as goal

pub returns-in_ok-ticks-in-32-clause-some : goal.returns-in_ok-ticks-in-32-clause-some
returns-in_ok-ticks-in-32-clause-some c =
    let bytes : List ℕ = c.self.inside.rest.now in
    let digits : List ℕ = take (length bytes - 2) (drop 2 bytes) in
    let n : ℕ = c.in_ok-ticks-in-32.len in
    let h = c.in_ok-ticks-in-32.ensures in
    sym (ap (word_as due_word) c.self.view_is)
    ∙ due_front bytes digits (take (length digits - n) (drop n digits)) 116 n c.in_ok-ticks-in-32.ticks (omega arith) (omega arith) (omega arith) refl (take_rest bytes 2) h.whole h.some h.within h.digits h.value (take_rest digits n)

pub returns-in_ok-nanos-in-32-2-clause-some : goal.returns-in_ok-nanos-in-32-2-clause-some
returns-in_ok-nanos-in-32-2-clause-some c =
    let bytes : List ℕ = c.self.inside.rest.now in
    let digits : List ℕ = take (length bytes - 2) (drop 2 bytes) in
    let n : ℕ = c.in_ok-nanos-in-32-2.len in
    let h = c.in_ok-nanos-in-32-2.ensures in
    sym (ap (word_as due_word) c.self.view_is)
    ∙ due_front bytes digits (take (length digits - n) (drop n digits)) 110 n c.in_ok-nanos-in-32-2.nanos (omega arith) (omega arith) (omega arith) refl (take_rest bytes 2) h.whole h.some h.within h.digits h.value (take_rest digits n)
