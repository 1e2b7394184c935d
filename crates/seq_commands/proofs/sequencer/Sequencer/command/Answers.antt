use Rattle.std.proofs.Common.{◌≡◌, ◌++◌, Some, None, sym, ap, subst, ◌∙◌, append-nil}
use Rattle.seq_state.specs.declared.log.Reply.TheVariants.{Refused}
use Rattle.seq_state.specs.Step.{Stepped}
use Rattle.seq_commands.specs.declared.sequencer.Turn.{Turn}
use Rattle.seq_commands.specs.Whole.{turn_of, refusal_in, step_in, IsWhole}
use Rattle.seq_commands.proofs.Commanded.{counted, counted-state, counted-step, counted-whole, refused-step, accepted-tells, given-whole}
use Rattle.seq_commands.proofs.sequencer.Sequencer.command.Goals as goal

pub returns-in-Some-clause-state : goal.returns-in-Some-clause-state
returns-in-Some-clause-state g c =
    let s = c.args.self.now in
    let i = c.args.input.now in
    let told : Some c.in-Some.refusal ≡ refusal_in (counted s) (turn_of i) i.command = sym c.in-Some.is ∙ c.refusal.ensures ∙ ap (λ t. refusal_in (counted s) t i.command) c.turn_of.ensures in
    counted-state s c.requires.whole.cells ∙ ap (λ (x : Stepped). x.state) (sym (refused-step s (turn_of i) i.command c.in-Some.refusal c.requires.whole.cells told))

pub returns-in-Some-clause-reply : goal.returns-in-Some-clause-reply
returns-in-Some-clause-reply g c =
    let s = c.args.self.now in
    let i = c.args.input.now in
    let told : Some c.in-Some.refusal ≡ refusal_in (counted s) (turn_of i) i.command = sym c.in-Some.is ∙ c.refusal.ensures ∙ ap (λ t. refusal_in (counted s) t i.command) c.turn_of.ensures in
    ap Refused c.number.ensures ∙ ap (λ (x : Stepped). x.reply) (sym (refused-step s (turn_of i) i.command c.in-Some.refusal c.requires.whole.cells told))

pub returns-in-Some-clause-sent : goal.returns-in-Some-clause-sent
returns-in-Some-clause-sent g c =
    let s = c.args.self.now in
    let i = c.args.input.now in
    let told : Some c.in-Some.refusal ≡ refusal_in (counted s) (turn_of i) i.command = sym c.in-Some.is ∙ c.refusal.ensures ∙ ap (λ t. refusal_in (counted s) t i.command) c.turn_of.ensures in
    sym (append-nil c.args.out.now.items)
    ∙ ap (λ (x : Stepped). c.args.out.now.items ++ x.delivered) (sym (refused-step s (turn_of i) i.command c.in-Some.refusal c.requires.whole.cells told))

pub returns-in-Some-clause-whole : goal.returns-in-Some-clause-whole
returns-in-Some-clause-whole g c = counted-whole c.args.self.now (g.A.Agenda.content c.args.agenda.now) c.args.input.now.moment c.requires.whole

pub carry_out-requires-clause-whole : goal.carry_out-requires-clause-whole
carry_out-requires-clause-whole g c =
    subst (λ (t : Turn). IsWhole (counted c.args.self.now) (g.A.Agenda.content c.args.agenda.now) t.moment) (sym c.turn_of-2.ensures)
    (counted-whole c.args.self.now (g.A.Agenda.content c.args.agenda.now) c.args.input.now.moment c.requires.whole)

pub returns-in-Ok-clause-state : goal.returns-in-Ok-clause-state
returns-in-Ok-clause-state g c =
    let s = c.args.self.now in
    let i = c.args.input.now in
    let same : step_in (counted s) c.turn_of-2.result i.command ≡ step_in s (turn_of i) i.command = ap (λ t. step_in (counted s) t i.command) c.turn_of-2.ensures ∙ counted-step s (turn_of i) i.command c.requires.whole.cells in
    c.in-Ok.ensures.gives.2.state ∙ ap (λ (x : Stepped). x.state) same

pub returns-in-Ok-clause-reply : goal.returns-in-Ok-clause-reply
returns-in-Ok-clause-reply g c =
    let s = c.args.self.now in
    let i = c.args.input.now in
    let same : step_in (counted s) c.turn_of-2.result i.command ≡ step_in s (turn_of i) i.command = ap (λ t. step_in (counted s) t i.command) c.turn_of-2.ensures ∙ counted-step s (turn_of i) i.command c.requires.whole.cells in
    c.in-Ok.ensures.gives.2.reply_is ∙ ap (λ (x : Stepped). x.reply) same

pub returns-in-Ok-clause-sent : goal.returns-in-Ok-clause-sent
returns-in-Ok-clause-sent g c =
    let s = c.args.self.now in
    let i = c.args.input.now in
    let same : step_in (counted s) c.turn_of-2.result i.command ≡ step_in s (turn_of i) i.command = ap (λ t. step_in (counted s) t i.command) c.turn_of-2.ensures ∙ counted-step s (turn_of i) i.command c.requires.whole.cells in
    c.in-Ok.ensures.gives.1 ∙ ap (λ ds. c.args.out.now.items ++ ds) (c.in-Ok.ensures.gives.2.sent_is ∙ ap (λ (x : Stepped). x.delivered) same)

pub returns-in-Ok-clause-whole : goal.returns-in-Ok-clause-whole
returns-in-Ok-clause-whole g c =
    let s = c.args.self.now in
    let i = c.args.input.now in
    let keys = g.A.Agenda.content c.args.agenda.now in
    let keys' = g.A.Agenda.content c.carry_out.new.agenda in
    let given = c.in-Ok.ensures.gives in
    let whole = subst (λ (t : Turn). IsWhole (counted s) keys t.moment) (sym c.turn_of-2.ensures) (counted-whole s keys i.moment c.requires.whole) in
    subst (λ (t : Turn). IsWhole c.carry_out.new.self keys' t.moment) c.turn_of-2.ensures
    (given-whole (counted s) c.carry_out.new.self c.turn_of-2.result i.command keys keys' c.in-Ok.reply given.0 whole given.2)

pub returns-in-Err-clause-quiet : goal.returns-in-Err-clause-quiet
returns-in-Err-clause-quiet g c = λ refused.
    let s = c.args.self.now in
    let i = c.args.input.now in
    let told : None ≡ refusal_in (counted s) (turn_of i) i.command = sym c.in_default.is ∙ c.refusal.ensures ∙ ap (λ t. refusal_in (counted s) t i.command) c.turn_of.ensures in
    absurd (accepted-tells s (turn_of i) i.command c.requires.whole.cells told refused)
