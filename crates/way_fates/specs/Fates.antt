-- Definition: What becomes of a message on each way from a port.
use Rattle.std.specs.Prelude.{ℕ, if◌then◌else◌, List, [], ◌∷◌, Option, Some, None, unwrap_or}
use Rattle.std.specs.Option.{option_and_then, option_map, option_or, option_to_list}
use Rattle.std.specs.Ordering.{nat_cmp}
use Rattle.std.specs.FinMap
use Rattle.std.specs.FinMap.{FinMap}
use Rattle.node_table.specs.declared.number.Addr.{Addr}
use Rattle.patch_graph.specs.declared.edge.Edge.{Edge}
use Rattle.patch_graph.specs.Paths.{paths, end_of, nodes_of}
use Rattle.seq_state.specs.declared.log.Delivery.{Delivery}
use Rattle.seq_state.specs.State.{Client, FilterInfo}
use Rattle.seq_state.specs.Copies.{filter_at, passed_by, copy_on_path, copy}
use Rattle.seq_state.specs.Step.{pool_has_room, pools_after}
use Rattle.seq_clients.specs.Roster.{Roster, input_size}
use Rattle.way_fates.specs.Stops.{stop_by}
use Rattle.way_fates.specs.declared.stop.Stop.{Stop}
use Rattle.way_fates.specs.declared.fate.Fate.{Fate}
use Rattle.way_fates.specs.declared.fate.Fate.TheVariants.{Stopped, Arrives, Lost}
use Rattle.way_fates.specs.declared.fate.WayFate.{WayFate}

-- ---- what stops it

-- why a node stops a message: a filter by its rule, and a port never
abbrev pub stop_at : Option FilterInfo → List ℕ → Option Stop
stop_at None message = None
stop_at (Some f) message = stop_by f.rule message

-- where a message is stopped that goes from node to node, as each passes it on, and why
abbrev pub stopped_at : FinMap nat_cmp Client → List Addr → List ℕ → Option Fate
stopped_at clients [] message = None
stopped_at clients (node ∷ nodes) message =
    let f = filter_at clients node.client node.node in
    option_or (option_map (Stopped node) (stop_at f message))
    (option_and_then (stopped_at clients nodes) (passed_by f message))

-- ---- what becomes of it

-- of one that comes to a client: it arrives where there is room, and else it is lost
abbrev pub fate_at : Roster → ℕ → ℕ → Fate
fate_at roster moment client = if pool_has_room moment (FinMap.get roster.pools client)
    then Arrives else Lost (input_size (FinMap.get roster.clients client))

-- where no filter stops it, it comes to the client at the end of the path
abbrev pub fate_on : Roster → ℕ → Addr → List ℕ → List Edge → Fate
fate_on roster moment source message path =
    unwrap_or (stopped_at roster.clients (nodes_of path) message)
    (fate_at roster moment (end_of source path).client)

-- the copy that comes to the end of a path, if one does
abbrev pub copy_by : FinMap nat_cmp Client → ℕ → Addr → List ℕ → List Edge → Option Delivery
copy_by clients moment source message path =
    copy moment (end_of source path) (copy_on_path clients path message)

-- the pools once that copy was offered
abbrev pub past_path : Roster → ℕ → Addr → List ℕ → List Edge → Roster
past_path roster moment source message path = record roster {
  pools = pools_after roster.pools
      (option_to_list (copy_by roster.clients moment source message path));
}

-- on paths one after another: the copy of each finds the pools as those before it left them
abbrev pub fates_on : Roster → ℕ → Addr → List ℕ → List (List Edge) → List WayFate
fates_on roster moment source message [] = []
fates_on roster moment source message (path ∷ paths) =
    record {
      route = nodes_of path;
      fate = fate_on roster moment source message path;
    } ∷ fates_on (past_path roster moment source message path) moment source message paths

-- on all paths from a port, the oldest first
abbrev pub fates : Roster → List Edge → ℕ → Addr → List ℕ → List WayFate
fates roster edges moment source message =
    fates_on roster moment source message (paths edges source)
