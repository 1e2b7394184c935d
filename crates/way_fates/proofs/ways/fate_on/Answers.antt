use Rattle.std.proofs.Common.{true, false, List, sym, ap, ◌∙◌}
use Rattle.node_table.specs.declared.number.Addr.{Addr}
use Rattle.way_fates.specs.Fates.{stopped_at}
use Rattle.way_fates.specs.declared.fate.Fate.TheVariants.{Lost}
use Rattle.way_fates.proofs.Fated.{end-is, ended-fate, ended-rooms}
use Rattle.way_fates.proofs.ways.fate_on.Goals as goal

pub returns-then-take-clause-fate : goal.returns-then-take-clause-fate
returns-then-take-clause-fate c =
    let a = c.args in
    let none = sym c.in_default.is ∙ c.in_ok-stopped.ensures ∙ ap (λ (ns : List Addr). stopped_at a.clients.now.clients ns a.message.now) c.nodes.ensures.nodes in
    ended-fate a.clients.now.clients a.message.now a.rooms.now a.route.now c.last-client.result.client true none
    (end-is a.route.now c.last-client.ensures.0 c.last-client.result c.last-client.ensures.1) (sym c.if-take.true ∙ c.take.ensures.room)

pub returns-then-take-clause-left : goal.returns-then-take-clause-left
returns-then-take-clause-left c =
    let a = c.args in
    let none = sym c.in_default.is ∙ c.in_ok-stopped.ensures ∙ ap (λ (ns : List Addr). stopped_at a.clients.now.clients ns a.message.now) c.nodes.ensures.nodes in
    c.take.ensures.left
    ∙ ended-rooms a.clients.now.clients a.message.now a.rooms.now a.route.now c.last-client.result.client none (end-is a.route.now c.last-client.ensures.0 c.last-client.result c.last-client.ensures.1)

pub returns-clause-fate : goal.returns-clause-fate
returns-clause-fate c =
    let a = c.args in
    let none = sym c.in_default.is ∙ c.in_ok-stopped.ensures ∙ ap (λ (ns : List Addr). stopped_at a.clients.now.clients ns a.message.now) c.nodes.ensures.nodes in
    ap Lost c.in_size-size.ensures
    ∙ ended-fate a.clients.now.clients a.message.now a.rooms.now a.route.now c.last-client.result.client false none
    (end-is a.route.now c.last-client.ensures.0 c.last-client.result c.last-client.ensures.1) (sym c.if-take.false ∙ c.take.ensures.room)

pub returns-clause-left : goal.returns-clause-left
returns-clause-left c =
    let a = c.args in
    let none = sym c.in_default.is ∙ c.in_ok-stopped.ensures ∙ ap (λ (ns : List Addr). stopped_at a.clients.now.clients ns a.message.now) c.nodes.ensures.nodes in
    c.take.ensures.left
    ∙ ended-rooms a.clients.now.clients a.message.now a.rooms.now a.route.now c.last-client.result.client none (end-is a.route.now c.last-client.ensures.0 c.last-client.result c.last-client.ensures.1)
