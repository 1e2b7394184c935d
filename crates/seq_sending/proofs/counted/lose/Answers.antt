use Rattle.std.proofs.Common.{◌+◌, ap, ◌∙◌}
use Rattle.std.specs.FinMap.{get}
use Rattle.node_table.specs.Numbers.{first_client}
use Rattle.seq_clients.proofs.Changing.{get-put_same, get-put_other}
use Rattle.seq_clients.specs.Roster.{Roster}
use Rattle.seq_state.specs.State.{with_entry}
use Rattle.seq_sending.specs.Rooms.{with_losses}
use Rattle.seq_sending.proofs.counted.lose.Goals as goal

pub returns-clause-lost : goal.returns-clause-lost
returns-clause-lost c =
    let was = c.args.clients.now.pools in
    let k = first_client + c.args.row in
    ap (λ (r : Roster). get r.pools k) c.lose_beyond.ensures
    ∙ ap (λ x. get (with_entry was x (with_losses c.args.moment c.args.copies (get was x))) k) c.client_of.ensures
    ∙ get-put_same was k (with_losses c.args.moment c.args.copies (get was k))

pub returns-clause-others : goal.returns-clause-others
returns-clause-others c other apart =
    let was = c.args.clients.now.pools in
    let k = first_client + c.args.row in
    ap (λ (r : Roster). get r.pools other) c.lose_beyond.ensures
    ∙ ap (λ x. get (with_entry was x (with_losses c.args.moment c.args.copies (get was x))) other) c.client_of.ensures
    ∙ get-put_other was k (with_losses c.args.moment c.args.copies (get was k)) other apart
