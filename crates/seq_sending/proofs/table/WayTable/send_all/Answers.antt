use Rattle.std.proofs.Common.{◌≡◌, ◌++◌, length, append-nil, sym, ap, ◌∙◌, arith}
use Rattle.std.proofs.lemmas.Bool.{eqb-true}
use Rattle.patch_graph.specs.Index.{targets_of}
use Rattle.seq_state.specs.Step.{pools_after, copies_with_room}
use Rattle.seq_sending.proofs.Known.{all-known}
use Rattle.seq_sending.proofs.Onward.{none-to-nobody}
use Rattle.seq_sending.proofs.table.WayTable.send_all.Goals as goal

pub returns-then-is_empty-clause-pools : goal.returns-then-is_empty-clause-pools
returns-then-is_empty-clause-pools c =
    let a = c.args in
    let targets = targets_of a.graph.now a.source.now in
    let none : length targets ≡ 0 = ap length (sym c.targets.ensures) ∙ eqb-true _ _ (sym c.is_empty.ensures ∙ c.if-is_empty.true) in
    ap (pools_after a.clients.now.pools) (sym (none-to-nobody a.clients.now.clients a.graph.now a.moment targets a.messages.now none))

pub returns-then-is_empty-clause-sent : goal.returns-then-is_empty-clause-sent
returns-then-is_empty-clause-sent c =
    let a = c.args in
    let targets = targets_of a.graph.now a.source.now in
    let none : length targets ≡ 0 = ap length (sym c.targets.ensures) ∙ eqb-true _ _ (sym c.is_empty.ensures ∙ c.if-is_empty.true) in
    sym (append-nil a.out.now.items)
    ∙ ap (λ ds. a.out.now.items ++ copies_with_room a.clients.now.pools ds) (sym (none-to-nobody a.clients.now.clients a.graph.now a.moment targets a.messages.now none))

pub returns-in_err-found-clause-kept : goal.returns-in_err-found-clause-kept
returns-in_err-found-clause-kept c =
    let a = c.args in
    record {
      rows = c.requires.rows;
      ways = c.take-known.ensures.left a.clients.now.clients a.graph.now a.self.now.changes c.requires.ways;
      counts = c.requires.counts;
    }

pub returns-in_err-send_each-clause-kept : goal.returns-in_err-send_each-clause-kept
returns-in_err-send_each-clause-kept c =
    let a = c.args in
    record {
      rows = c.requires.rows;
      ways = c.take-known.ensures.left a.clients.now.clients a.graph.now a.self.now.changes c.requires.ways;
      counts = c.send_each-2.ensures.counts;
    }

pub returns-clause-kept : goal.returns-clause-kept
returns-clause-kept c =
    let a = c.args in
    let r = a.clients.now.clients in
    record {
      rows = c.requires.rows;
      ways = c.keep_ways.ensures r a.graph.now a.self.now.changes c.in_ok-found.ensures.ways (omega (arith, c.in_ok-found.ensures.at))
          (c.take-known.ensures.left r a.graph.now a.self.now.changes c.requires.ways);
      counts = c.in_ok-send_each.ensures.counts;
    }

pub send_each-requires-2-clause-ways : goal.send_each-requires-2-clause-ways
send_each-requires-2-clause-ways c =
    let a = c.args in
    all-known a.clients.now.clients a.graph.now (targets_of a.graph.now a.source.now) c.in_ok-found.found c.in_ok-found.ensures.all c.in_ok-found.ensures.ways

pub find-requires : goal.find-requires
find-requires c found e current =
    let a = c.args in
    let at = c.place_of.ensures.place in
    (c.take-known.ensures.taken a.clients.now.clients a.graph.now a.self.now.changes c.requires.ways found e).ways a.source.now at.0 at.1 current
