use Rattle.std.proofs.Common.{◌≡◌, arith, refl, rules, sym}
use Rattle.std.specs.Prelude.{None, IfErr}
use Rattle.smf_files.specs.declared.fault.WriteFault.TheVariants.{OutOfMemory}
use Rattle.smf_files.specs.Refusals.{write_refusal, told_refusal}
use Rattle.smf_files.proofs.Writing.{too-large, accepted, back, nothing-refused}
use Rattle.smf_files.proofs.write.write_format0.Goals as goal

pub returns-in_default-events_size-clause-refused : goal.returns-in_default-events_size-clause-refused
returns-in_default-events_size-clause-refused c =
    too-large c.args.ppq c.args.tempo c.args.events.now (record { some_ppq = omega arith; small_ppq = omega arith; some_tempo = omega arith; small_tempo = omega arith; good = sym c.in_default.ensures.value }) c.in_default-events_size.ensures

pub returns-in_err-written-clause-refused : goal.returns-in_err-written-clause-refused
returns-in_err-written-clause-refused c =
    let none : write_refusal c.args.ppq c.args.tempo c.args.events.now ≡ None = accepted c.args.ppq c.args.tempo c.args.events.now (record { some_ppq = omega arith; small_ppq = omega arith; some_tempo = omega arith; small_tempo = omega arith; good = sym c.in_default.ensures.value }) (omega (arith, c.in-Some-events_size.ensures.0, c.in-Some-events_size.ensures.1)) in
    let only : IfErr c.from_residual.result (λ x. x ≡ OutOfMemory) = search rules in
    nothing-refused told_refusal OutOfMemory c.from_residual.result _ refl only none

pub returns-clause-taken : goal.returns-clause-taken
returns-clause-taken c = accepted c.args.ppq c.args.tempo c.args.events.now (record { some_ppq = omega arith; small_ppq = omega arith; some_tempo = omega arith; small_tempo = omega arith; good = sym c.in_default.ensures.value }) (omega (arith, c.in-Some-events_size.ensures.0, c.in-Some-events_size.ensures.1))

pub returns-clause-reads_back : goal.returns-clause-reads_back
returns-clause-reads_back c = back c.args.ppq c.args.tempo c.args.events.now (record { some_ppq = omega arith; small_ppq = omega arith; some_tempo = omega arith; small_tempo = omega arith; good = sym c.in_default.ensures.value }) c.in_default.ensures.messages (omega (arith, c.in-Some-events_size.ensures.0, c.in-Some-events_size.ensures.1))
