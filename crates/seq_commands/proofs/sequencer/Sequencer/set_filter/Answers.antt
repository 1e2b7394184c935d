use Rattle.std.proofs.Common.{◌≡◌, sym, ap, ◌∙◌}
use Rattle.std.specs.FinMap.{get}
use Rattle.seq_state.specs.declared.input.Command.TheVariants.{SetFilter}
use Rattle.seq_state.specs.Effect.{with_change, put_filter, filter_of, filter_ruled}
use Rattle.seq_state.proofs.Done.{sets-filter}
use Rattle.seq_clients.specs.Roster.{with_client}
use Rattle.seq_commands.specs.Whole.{clients_of, state_of}
use Rattle.seq_commands.proofs.ClientsAccepted.{accepted-rule, rule-made, rule-refused}
use Rattle.seq_commands.proofs.ClientsGiven.{nodes-kept, queues-filter}
use Rattle.seq_commands.proofs.sequencer.Sequencer.set_filter.Goals as goal

pub unreachable-requires : goal.unreachable-requires
unreachable-requires c =
    rule-refused c.args.rule.now (accepted-rule c.args.self.now.files (state_of c.args.self.now) c.args.turn.moment c.args.turn.actor c.args.filter c.args.rule.now c.requires.accepted).0
    (sym c.new.ensures ∙ c.in_default.is)

pub set_filter-requires : goal.set_filter-requires
set_filter-requires c = (accepted-rule c.args.self.now.files (state_of c.args.self.now) c.args.turn.moment c.args.turn.actor c.args.filter c.args.rule.now c.requires.accepted).1

pub returns : goal.returns
returns c =
    let its = get (clients_of c.args.self.now) c.args.turn.actor in
    let was = filter_of its c.args.filter in
    let same : c.in-Some.rule ≡ c.args.rule.now = rule-made c.args.rule.now c.in-Some.rule (sym c.new.ensures ∙ c.in-Some.is) in
    nodes-kept c.args.self.now c.args.turn (SetFilter c.args.filter c.args.rule.now) (with_change its (put_filter c.args.filter (filter_ruled c.args.rule.now was))) _ _ c.requires.accepted
    (sets-filter c.args.self.now.files (state_of c.args.self.now) c.args.turn.moment c.args.turn.actor c.args.filter c.args.rule.now)
    (c.set_filter.ensures.clients
    ∙ ap (λ x. with_client c.args.self.now.patchbay.clients c.args.turn.actor (with_change its (put_filter c.args.filter (filter_ruled x was)))) same)
    c.set_filter.ensures.graph (queues-filter c.args.filter (filter_ruled c.args.rule.now was) its)
