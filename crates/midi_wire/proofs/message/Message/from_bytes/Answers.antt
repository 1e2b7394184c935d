use Rattle.std.proofs.Common.{◌≤◌, ℕ, List, length, Some, None, sym, ap, ◌∙◌, arith, rules}
use Rattle.std.specs.Prelude.{IsTrue, if◌then◌else◌}
use Rattle.midi_wire.specs.Messages.{is_message}
use Rattle.midi_wire.proofs.Makers.{kind-exclusive, exclusive-long, exclusive-same, exclusive-whole, three-same}
use Rattle.memory.proofs.Outcomes.{on_err}
use Rattle.midi_wire.proofs.message.Message.from_bytes.Goals as goal

pub slice_bounds-payload-count : goal.slice_bounds-payload-count
slice_bounds-payload-count c =
    let p : IsTrue (is_message c.args.bytes.now) = sym c.is_message.ensures ∙ c.if-not-is_message.false in
    let h : 2 ≤ length c.args.bytes.now = exclusive-long c.args.bytes.now p c.if-status.true in
    omega arith

pub slice_bounds-payload-start : goal.slice_bounds-payload-start
slice_bounds-payload-start c =
    let p : IsTrue (is_message c.args.bytes.now) = sym c.is_message.ensures ∙ c.if-not-is_message.false in
    let h : 2 ≤ length c.args.bytes.now = exclusive-long c.args.bytes.now p c.if-status.true in
    search rules

pub exclusive-requires : goal.exclusive-requires
exclusive-requires c = exclusive-same c.args.bytes.now (sym c.is_message.ensures ∙ c.if-not-is_message.false) c.if-status.true

pub returns-in_err-exclusive-clause-exclusive : goal.returns-in_err-exclusive-clause-exclusive
returns-in_err-exclusive-clause-exclusive c = on_err c.from_residual.result (kind-exclusive c.args.bytes.now c.if-status.true)

pub returns-then-status-clause-ok : goal.returns-then-status-clause-ok
returns-then-status-clause-ok c =
    let p : IsTrue (is_message c.args.bytes.now) = sym c.is_message.ensures ∙ c.if-not-is_message.false in
    ap (λ (m : List ℕ). Some m) (c.in_ok-exclusive.ensures ∙ exclusive-whole c.args.bytes.now p c.if-status.true)
    ∙ ap (λ t. if t then Some c.args.bytes.now else None) (sym p)

pub with_two-requires : goal.with_two-requires
with_two-requires c =
    let p : IsTrue (is_message c.args.bytes.now) = sym c.is_message.ensures ∙ c.if-not-is_message.false in
    three-same c.args.bytes.now p c.if-status.false (λ e. omega arith) (λ e. omega arith)
