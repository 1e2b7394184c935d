use Rattle.std.proofs.Common.{◌≡◌, ◌+◌, length, drop}
use Rattle.script_text.specs.LineFaults as faults
use Rattle.script_text.proofs.line_faults.form_fault.Given as goal

abbrev pub invariant-loop-kind : goal.invariant-loop-kind
invariant-loop-kind l = record {
  rest : faults.fault_from l.place (drop l.kind-index l.form.kinds.now) l.form.rest l.words
      ≡ faults.fault_from 3 l.form.kinds.now l.form.rest l.fn.words;
  count : l.place + length l.words ≡ 3 + length l.fn.words;
}
