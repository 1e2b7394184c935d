use Rattle.std.proofs.Common.{◌≡◌, Some, sym, ap, ◌∙◌}
use Rattle.std.proofs.lemmas.Result.{on_ok_weaker}
use Rattle.std.specs.FinMap.{get}
use Rattle.seq_state.specs.declared.input.Command.TheVariants.{CreateFilter}
use Rattle.seq_state.specs.Effect.{with_change, put_filter, new_filter}
use Rattle.seq_state.proofs.Done.{creates-filter}
use Rattle.seq_clients.specs.Roster.{with_client}
use Rattle.seq_commands.specs.Whole.{clients_of, state_of}
use Rattle.seq_commands.proofs.ClientsAccepted.{accepted-filter, rule-made, rule-refused}
use Rattle.seq_commands.proofs.ClientsGiven.{nodes-kept, queues-filter}
use Rattle.seq_commands.proofs.sequencer.Sequencer.create_filter.Goals as goal

pub unreachable-requires : goal.unreachable-requires
unreachable-requires c =
    rule-refused c.args.rule.now (accepted-filter c.args.self.now.files (state_of c.args.self.now) c.args.turn.moment c.args.turn.actor c.args.filter c.args.caps c.args.rule.now c.requires.accepted).1
    (sym c.new.ensures ∙ c.in_default.is)

pub create_filter-requires-clause-open : goal.create_filter-requires-clause-open
create_filter-requires-clause-open c = (accepted-filter c.args.self.now.files (state_of c.args.self.now) c.args.turn.moment c.args.turn.actor c.args.filter c.args.caps c.args.rule.now c.requires.accepted).0

pub create_filter-requires-clause-free : goal.create_filter-requires-clause-free
create_filter-requires-clause-free c = (accepted-filter c.args.self.now.files (state_of c.args.self.now) c.args.turn.moment c.args.turn.actor c.args.filter c.args.caps c.args.rule.now c.requires.accepted).2

pub returns : goal.returns
returns c =
    let its = get (clients_of c.args.self.now) c.args.turn.actor in
    let made = Some (new_filter c.args.caps c.args.rule.now) in
    let same : c.in-Some.rule ≡ c.args.rule.now = rule-made c.args.rule.now c.in-Some.rule (sym c.new.ensures ∙ c.in-Some.is) in
    on_ok_weaker c.create_filter.result (λ e. nodes-kept c.args.self.now c.args.turn (CreateFilter c.args.filter c.args.caps c.args.rule.now) (with_change its (put_filter c.args.filter made)) _ _ c.requires.accepted
    (creates-filter c.args.self.now.files (state_of c.args.self.now) c.args.turn.moment c.args.turn.actor c.args.filter c.args.caps c.args.rule.now)
    (e ∙ ap (λ x. with_client c.args.self.now.patchbay.clients c.args.turn.actor (with_change its (put_filter c.args.filter (Some (new_filter c.args.caps x))))) same)
    c.create_filter.ensures.graph (queues-filter c.args.filter made its)) c.create_filter.ensures.ok
