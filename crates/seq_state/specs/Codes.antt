-- Representation: The parts of the plain state as codes, as a model has them. Nothing here is to be
-- believed: each code carries its proof.
use Rattle.std.specs.Prelude.{ℕ, Bool, List, refl}
use Rattle.std.specs.Ordering.{nat_cmp}
use Rattle.std.specs.Coded.{Coded, code_by, coded×, coded_list, coded_bool, coded_ℕ}
use Rattle.std.specs.FinMap
use Rattle.std.specs.FinMap.{FinMap}
use Rattle.tempo_clock.specs.Clocks.{Clock}
use Rattle.tempo_clock.specs.Codes.{coded_clock, coded_due}
use Rattle.tempo_clock.specs.declared.due.Due.{Due}
use Rattle.route_filter.specs.Codes.{coded_rule}
use Rattle.route_filter.specs.declared.rule_args.RuleArgs.{RuleArgs}
use Rattle.node_table.specs.Codes.{coded_queue_addr}
use Rattle.node_table.specs.declared.number.QueueAddr.{QueueAddr}
use Rattle.cell_pools.specs.Pools as pools
use Rattle.patch_graph.specs.Codes.{coded_edge}
use Rattle.patch_graph.specs.declared.edge.Edge.{Edge}
use Rattle.seq_state.specs.declared.log.Arrival.{Arrival}
use Rattle.seq_state.specs.State.{PortInfo, FilterInfo, Queue, Client, ClientPool, DueMessage, Playback, OwnedPlayback, State}

abbrev pub coded_port : Coded PortInfo
coded_port = code_by (List ℕ × (ℕ × List ℕ))
    (coded× (coded_list coded_ℕ) (coded× coded_ℕ (coded_list coded_ℕ)))
    (λ p. (p.name, (p.caps.0, p.fed)))
    (λ c. record { name = c.0; caps = record { 0 = c.1.0 }; fed = c.1.1 }) (λ _. refl)

abbrev pub coded_filter : Coded FilterInfo
coded_filter = code_by (ℕ × RuleArgs) (coded× coded_ℕ coded_rule) (λ f. (f.caps.0, f.rule))
    (λ c. record { caps = record { 0 = c.0 }; rule = c.1 }) (λ _. refl)

abbrev pub coded_queue : Coded Queue
coded_queue = code_by (Clock × Bool) (coded× coded_clock coded_bool) (λ q. (q.clock, q.shared))
    (λ p. record { clock = p.0; shared = p.1 }) (λ _. refl)

abbrev pub coded_client : Coded Client
coded_client =
    code_by (List ℕ × (ℕ
    × (ℕ × (FinMap nat_cmp PortInfo × (FinMap nat_cmp FilterInfo × FinMap nat_cmp Queue)))))
    (coded× (coded_list coded_ℕ)
    (coded× coded_ℕ (coded× coded_ℕ
    (coded× (FinMap.code coded_ℕ coded_port)
    (coded× (FinMap.code coded_ℕ coded_filter) (FinMap.code coded_ℕ coded_queue))))))
    (λ c. (c.name, (c.in_size, (c.out_size, (c.ports, (c.filters, c.queues))))))
    (λ p. record {
      name = p.0;
      in_size = p.1.0;
      out_size = p.1.1.0;
      ports = p.1.1.1.0;
      filters = p.1.1.1.1.0;
      queues = p.1.1.1.1.1;
    }) (λ _. refl)

abbrev pub coded_arrival : Coded Arrival
coded_arrival = code_by (ℕ × (ℕ × List ℕ)) (coded× coded_ℕ (coded× coded_ℕ (coded_list coded_ℕ)))
    (λ a. (a.moment, (a.port, a.message)))
    (λ p. record { moment = p.0; port = p.1.0; message = p.1.1 }) (λ _. refl)

abbrev pub coded_due_message : Coded DueMessage
coded_due_message = code_by (Due × List ℕ) (coded× coded_due (coded_list coded_ℕ))
    (λ e. (e.due, e.message)) (λ p. record { due = p.0; message = p.1 }) (λ _. refl)

abbrev pub coded_playback : Coded Playback
coded_playback = code_by (ℕ × (ℕ × List DueMessage))
    (coded× coded_ℕ (coded× coded_ℕ (coded_list coded_due_message)))
    (λ p. (p.port, (p.accepted, p.events)))
    (λ c. record { port = c.0; accepted = c.1.0; events = c.1.1 }) (λ _. refl)

abbrev pub coded_pending : Coded OwnedPlayback
coded_pending =
    code_by (ℕ × (QueueAddr × Playback)) (coded× coded_ℕ (coded× coded_queue_addr coded_playback))
    (λ p. (p.client, (p.queue, p.playback)))
    (λ c. record { client = c.0; queue = c.1.0; playback = c.1.1 }) (λ _. refl)

abbrev pub coded_state : Coded State
coded_state =
    code_by (FinMap nat_cmp Client × (FinMap nat_cmp ClientPool × (List Edge × List OwnedPlayback)))
    (coded× (FinMap.code coded_ℕ coded_client)
    (coded× (FinMap.code coded_ℕ (pools.coded_pool coded_arrival))
    (coded× (coded_list coded_edge) (coded_list coded_pending))))
    (λ s. (s.clients, (s.pools, (s.edges, s.pending))))
    (λ p. record { clients = p.0; pools = p.1.0; edges = p.1.1.0; pending = p.1.1.1 }) (λ _. refl)
