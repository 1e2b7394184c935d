use Rattle.std.proofs.Common.{◌≡◌, ◌<◌, ◌-◌, ℕ, List, drop, take, get_or, length, sym, ap, ◌∙◌, arith, rules, ◌⊎◌}
use Rattle.std.proofs.lemmas.List.{take_rest}
use Rattle.script_text.specs.Numbers.{queue}
use Rattle.script_text.specs.Table.{word_as}
use Rattle.script_text.proofs.Usual.{queue_front}
use Rattle.script_text.proofs.words.Words.spaced_queue.Goals as goal

pub returns-in-empty-clause-some : goal.returns-in-empty-clause-some
returns-in-empty-clause-some c =
    let bytes : List ℕ = c.self.inside.rest.now in
    let rest : List ℕ = take (length bytes - 7) (drop 7 bytes) in
    let ic = c.in_ok-client.ensures in
    let iq = c.in_ok-queue.ensures in
    let end : (length rest < 1) ⊎ (get_or rest 0 0 ≡ 32) = search rules in
    sym (ap (word_as queue) c.self.view_is)
    ∙ queue_front bytes rest c.in_ok-client.client c.in_ok-queue.queue (omega arith) (take_rest bytes 7) (omega arith) (omega arith) (omega arith) (omega arith) (omega arith) (omega arith) (omega arith) (omega arith) (omega arith) (omega arith)
    end (omega arith) (omega arith) (omega arith) (omega arith)
