use Rattle.std.proofs.Common.{◌≡◌, ◌∙◌, [], ap, sym, subst, rules}
use Rattle.test_tools.specs.Texts.{IsTextOf, IsFaultOf}
use Rattle.test_tools.proofs.Known.{known_text, known_bound, known_fault, not_dumped}
use Rattle.test_tools.proofs.texts.printed.Goals as goal

pub returns-in_err-print-clause-told : goal.returns-in_err-print-clause-told
returns-in_err-print-clause-told c =
    let whole : c.new-input.result.left ≡ c.args.bytes.now = ap (λ s. s.left) c.new-input.ensures ∙ c.in_ok-from_slice.ensures.items in
    let none : c.in_ok-out.out.taken ≡ [] = ap (λ s. s.taken) c.in_ok-out.ensures.value in
    let told : IsFaultOf c.args.tool c.args.bytes.now c.in_err-print.field-0.0 = known_fault c.new-input.result c.print.new.input c.in_ok-out.out c.print.new.out c.args.bytes.now whole none c.args.tool _ c.in_err-print.ensures.told in
    search rules

pub returns-clause-text : goal.returns-clause-text
returns-clause-text c =
    let whole : c.new-input.result.left ≡ c.args.bytes.now = ap (λ s. s.left) c.new-input.ensures ∙ c.in_ok-from_slice.ensures.items in
    let none : c.in_ok-out.out.taken ≡ [] = ap (λ s. s.taken) c.in_ok-out.ensures.value in
    subst (IsTextOf c.args.tool c.args.bytes.now) (sym (c.in_ok-from_slice-2.ensures.items ∙ c.bytes.ensures))
    (known_text c.new-input.result c.print.new.input c.in_ok-out.out c.print.new.out c.args.bytes.now whole none c.args.tool c.in_ok-print.ensures.text)

pub returns-clause-bounded : goal.returns-clause-bounded
returns-clause-bounded c =
    let whole : c.new-input.result.left ≡ c.args.bytes.now = ap (λ s. s.left) c.new-input.ensures ∙ c.in_ok-from_slice.ensures.items in
    let none : c.in_ok-out.out.taken ≡ [] = ap (λ s. s.taken) c.in_ok-out.ensures.value in
    known_bound c.new-input.result c.print.new.input c.in_ok-out.out c.print.new.out c.args.bytes.now whole none c.args.tool c.in_ok-print.ensures.text

pub returns-clause-refused : goal.returns-clause-refused
returns-clause-refused c = λ e x f.
    let whole : c.new-input.result.left ≡ c.args.bytes.now = ap (λ s. s.left) c.new-input.ensures ∙ c.in_ok-from_slice.ensures.items in
    let none : c.in_ok-out.out.taken ≡ [] = ap (λ s. s.taken) c.in_ok-out.ensures.value in
    absurd (not_dumped c.new-input.result c.print.new.input c.in_ok-out.out c.print.new.out c.args.bytes.now whole none c.args.tool c.in_ok-print.ensures.text e x f)
