use Rattle.std.proofs.Common.{◌∙◌, Option, Some, ap, sym}
use Rattle.std.specs.Option.{option_map}
use Rattle.cell_pools.specs.Pools.{listening_on}
use Rattle.seq_state.specs.State.{with_entry}
use Rattle.seq_clients.specs.Rows.{with_pool_changed}
use Rattle.seq_clients.specs.contracts.rows.RowTable.{the_view}
use Rattle.seq_clients.specs.declared.row.ClientRow.{ClientRow}
use Rattle.seq_clients.proofs.Arrays.{get_at, inserted, removed}
use Rattle.seq_clients.proofs.rows.RowTable.listen.Goals as goal
use Rattle.seq_clients.proofs.rows.RowTable.listen.Goals.{in-Some, in-None}

pub returns : goal.returns
returns c =
    let here = get_at (option_map (λ b. b.value)) 128 64 _ _ c.self.view_is c.self.invariant _ _ c.row_of.ensures.start c.row_of.ensures.small c.index-self-row_of.result in
    let change = with_pool_changed listening_on in
    let later = λ (o : Option ClientRow). with_entry c.args.self.now c.args.client (option_map change o) in
    elim c.match-self-row_of.branch [
      | in-Some w ↦ ap the_view w.self-inside-is
          ∙ inserted (option_map (λ b. b.value)) 128 64 _ _ c.self.view_is c.self.invariant _ _ c.row_of.ensures.start c.row_of.ensures.small _ _ (ap (λ p. Some (record w.deref_mut.result.now { pool = p })) w.listen.ensures ∙ ap (λ r. Some (change r)) w.deref_mut.ensures.value)
          ∙ ap later (ap (option_map (λ b. b.value)) (sym w.in-Some.is) ∙ here)
      | in-None w ↦ ap the_view w.self-inside-is
          ∙ removed (option_map (λ b. b.value)) 128 64 _ _ c.self.view_is c.self.invariant _ _ c.row_of.ensures.start c.row_of.ensures.small _ (ap (option_map (λ b. b.value)) w.in-None.is)
          ∙ ap later (ap (option_map (λ b. b.value)) (sym w.in-None.is) ∙ here)
    ]
