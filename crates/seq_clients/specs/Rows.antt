-- Representation: What a client has beside its name and its nodes.
use Rattle.std.specs.Prelude.{ℕ, refl}
use Rattle.std.specs.Ordering.{nat_cmp}
use Rattle.std.specs.Coded.{Coded, code_by, coded×, coded_ℕ}
use Rattle.std.specs.FinMap
use Rattle.std.specs.FinMap.{FinMap}
use Rattle.cell_pools.specs.Pools.{coded_pool, empty_pool}
use Rattle.seq_state.specs.State.{Queue, ClientPool}
use Rattle.seq_state.specs.Codes.{coded_queue, coded_arrival}
use Rattle.seq_clients.specs.declared.row.ClientRow.{ClientRow}

abbrev pub coded_row : Coded ClientRow
coded_row =
    code_by (ℕ × (ℕ × (FinMap nat_cmp Queue × ClientPool)))
    (coded× coded_ℕ (coded× coded_ℕ
    (coded× (FinMap.code coded_ℕ coded_queue) (coded_pool coded_arrival))))
    (λ r. (r.in_size, (r.out_size, (r.queues, r.pool))))
    (λ p. record { in_size = p.0; out_size = p.1.0; queues = p.1.1.0; pool = p.1.1.1 }) (λ _. refl)

-- the row of a client as it is opened
abbrev pub new_row : ℕ → ℕ → ClientRow
new_row in_size out_size =
    record {
      in_size = in_size;
      out_size = out_size;
      queues = FinMap.empty;
      pool = empty_pool in_size;
    }

-- a row after a change of its pool
abbrev pub with_pool_changed : (ClientPool → ClientPool) → ClientRow → ClientRow
with_pool_changed f r = record r { pool = f r.pool }
