use Rattle.std.proofs.Common.{◌≡◌, ◌∙◌, ◌<◌, ◌/◌, IfOk, map, length, ap, sym, subst, arith, ℕ, take, List}
use Rattle.script_text.specs.declared.reading.ScriptInput.{ScriptInput}
use Rattle.script_text.specs.declared.reading.ScriptRead.{ScriptRead}
use Rattle.seq_session.specs.Merging.{inputs_in_order, merged_with, AreSorted}
use Rattle.seq_session.proofs.Joining.{sorted_front, sorted_back, by_halves}
use Rattle.seq_session.proofs.merging.+references.Goals as goal

pub references-requires : goal.references-requires
references-requires t c =
    let s = c.split_at.ensures in
    let less : length c.split_at.result.0.now < t = (let d = c.decreases in omega arith) in
    (less, subst AreSorted (sym s.front) (sorted_front (length c.args.reads.now / 2) c.args.reads.now c.requires))

pub references-requires-then-reads-gt1 : goal.references-requires-then-reads-gt1
references-requires-then-reads-gt1 t c =
    let s = c.split_at.ensures in
    let less : length c.split_at.result.1.now < t = (let d = c.decreases in omega arith) in
    (less, subst AreSorted (sym s.back) (sorted_back (length c.args.reads.now / 2) c.args.reads.now c.requires))

pub returns-then-reads-gt1 : goal.returns-then-reads-gt1
returns-then-reads-gt1 t c =
    let s = c.split_at.ensures in
    let half : ℕ = length c.args.reads.now / 2 in
    let reads : List ScriptRead = c.args.reads.now in
    subst (λ (xs : List ScriptInput). IfOk c.join.result (λ v. map (λ r. r.now) v.items ≡ xs))
    (ap (λ xs. merged_with (map (λ r. r.now) xs) (map (λ r. r.now) c.as_slice-then-reads-gt1.result.now)) c.as_slice.ensures.value
    ∙ ap (λ xs. merged_with (map (λ r. r.now) c.in_ok-left.left.items) (map (λ r. r.now) xs)) c.as_slice-then-reads-gt1.ensures.value
    ∙ ap (λ xs. merged_with xs (map (λ r. r.now) c.in_ok-right.right.items)) (c.in_ok-left.ensures ∙ ap inputs_in_order s.front)
    ∙ ap (λ xs. merged_with (inputs_in_order (take half reads)) xs) (c.in_ok-right.ensures ∙ ap inputs_in_order s.back)
    ∙ sym (by_halves half reads))
    c.join.ensures
