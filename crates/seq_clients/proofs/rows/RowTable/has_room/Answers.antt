use Rattle.std.proofs.Common.{◌∙◌, ℕ, Bool, Option, Some, ap, sym}
use Rattle.std.specs.Option.{option_map}
use Rattle.seq_state.specs.Step.{pool_has_room}
use Rattle.seq_clients.specs.declared.row.ClientRow.{ClientRow}
use Rattle.seq_clients.proofs.Arrays.{get_at}
use Rattle.seq_clients.proofs.rows.RowTable.has_room.Goals as goal

abbrev room : ℕ → Option ClientRow → Bool
room moment o = pool_has_room moment (option_map (λ r. r.pool) o)

pub returns-in-Some : goal.returns-in-Some
returns-in-Some c =
    c.has_room.ensures ∙ ap (λ (r : ClientRow). pool_has_room c.args.moment (Some r.pool)) c.deref.ensures
    ∙ ap (room c.args.moment) (ap (option_map (λ b. b.value)) (sym c.in-Some.is)
    ∙ get_at (option_map (λ b. b.value)) 128 64 _ _ c.self.view_is c.self.invariant _ _ c.row_of.ensures.start c.row_of.ensures.small _)

pub returns-in-None : goal.returns-in-None
returns-in-None c =
    ap (room c.args.moment) (ap (option_map (λ b. b.value)) (sym c.in-None.is)
    ∙ get_at (option_map (λ b. b.value)) 128 64 _ _ c.self.view_is c.self.invariant _ _ c.row_of.ensures.start c.row_of.ensures.small _)
