use Rattle.std.proofs.Common.{◌∙◌, Option, Some, ap, sym}
use Rattle.std.specs.Option.{option_map}
use Rattle.cell_pools.specs.Pools.{after_offer}
use Rattle.seq_state.specs.State.{with_entry}
use Rattle.seq_state.specs.Step.{pool_has_room}
use Rattle.seq_clients.specs.Rows.{with_pool_changed}
use Rattle.seq_clients.specs.contracts.rows.RowTable.{the_view}
use Rattle.seq_clients.specs.declared.row.ClientRow.{ClientRow}
use Rattle.seq_clients.proofs.Arrays.{get_at, inserted, removed}
use Rattle.seq_clients.proofs.rows.RowTable.offer.Goals as goal
use Rattle.seq_clients.proofs.rows.RowTable.offer.Goals.{in-Some, in-None+in-Exclusive-1, in-None+in-Short-1}

pub returns-clause-kept : goal.returns-clause-kept
returns-clause-kept c =
    let here = get_at (option_map (λ b. b.value)) 128 64 _ _ c.self.view_is c.self.invariant _ _ c.row_of.ensures.start c.row_of.ensures.small c.index-self-row_of.result in
    let room = λ (o : Option ClientRow). pool_has_room c.args.arrival.moment (option_map (λ r. r.pool) o) in
    elim c.match-self-row_of.branch [
      | in-Some w ↦ w.result-is ∙ w.offer.ensures.taken ∙ ap (λ (r : ClientRow). pool_has_room c.args.arrival.moment (Some r.pool)) w.deref_mut.ensures.value ∙ ap room (ap (option_map (λ b. b.value)) (sym w.in-Some.is) ∙ here)
      | in-None+in-Exclusive-1 w ↦ w.result-is ∙ ap room (ap (option_map (λ b. b.value)) (sym w.in-None.is) ∙ here)
      | in-None+in-Short-1 w ↦ w.result-is ∙ ap room (ap (option_map (λ b. b.value)) (sym w.in-None.is) ∙ here)
    ]

pub returns-clause-after : goal.returns-clause-after
returns-clause-after c =
    let here = get_at (option_map (λ b. b.value)) 128 64 _ _ c.self.view_is c.self.invariant _ _ c.row_of.ensures.start c.row_of.ensures.small c.index-self-row_of.result in
    let later = λ (o : Option ClientRow). with_entry c.args.self.now c.args.client (option_map (with_pool_changed (λ p. after_offer c.args.arrival.moment p c.args.arrival)) o) in
    elim c.match-self-row_of.branch [
      | in-Some w ↦ ap the_view w.self-inside-is
          ∙ inserted (option_map (λ b. b.value)) 128 64 _ _ c.self.view_is c.self.invariant _ _ c.row_of.ensures.start c.row_of.ensures.small _ _ (ap (λ p. Some (record w.deref_mut.result.now { pool = p })) w.offer.ensures.after ∙ ap (λ r. Some (with_pool_changed (λ p. after_offer c.args.arrival.moment p c.args.arrival) r)) w.deref_mut.ensures.value)
          ∙ ap later (ap (option_map (λ b. b.value)) (sym w.in-Some.is) ∙ here)
      | in-None+in-Exclusive-1 w ↦ ap the_view w.self-inside-is
          ∙ removed (option_map (λ b. b.value)) 128 64 _ _ c.self.view_is c.self.invariant _ _ c.row_of.ensures.start c.row_of.ensures.small _ (ap (option_map (λ b. b.value)) w.in-None.is)
          ∙ ap later (ap (option_map (λ b. b.value)) (sym w.in-None.is) ∙ here)
      | in-None+in-Short-1 w ↦ ap the_view w.self-inside-is
          ∙ removed (option_map (λ b. b.value)) 128 64 _ _ c.self.view_is c.self.invariant _ _ c.row_of.ensures.start c.row_of.ensures.small _ (ap (option_map (λ b. b.value)) w.in-None.is)
          ∙ ap later (ap (option_map (λ b. b.value)) (sym w.in-None.is) ∙ here)
    ]
