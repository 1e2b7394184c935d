-- Definition: The lines of scripts that did nothing: skipped ones, and ones whose commands were
-- refused, with what each refusal is about.
use Rattle.std.specs.Prelude.{ℕ, zero, suc, ◌==◌, Bool, not, ◌||◌, if◌then◌else◌, List, [], ◌∷◌, ◌++◌, map, Option, Some, None, slice_get}
use Rattle.std.specs.List.{filter_map, last_or}
use Rattle.std.specs.Option.{option_and_then}
use Rattle.node_table.specs.Addresses.{same}
use Rattle.node_table.specs.Capabilities.{read_bit, write_bit, subs_read_bit, subs_write_bit, no_export_bit, can}
use Rattle.node_table.specs.declared.caps.Caps.{Caps}
use Rattle.node_table.specs.declared.number.Addr.{Addr}
use Rattle.node_table.specs.declared.number.Node.TheVariants.{Port, Filter}
use Rattle.node_table.specs.declared.number.QueueAddr.{QueueAddr}
use Rattle.seq_state.specs.declared.input.Command.{Command}
use Rattle.seq_state.specs.declared.input.Command.TheVariants.{CreatePort, DeletePort, CreateFilter, SetFilter, DeleteFilter, Connect, Disconnect, Bytes, Send, CreateQueue, CreateQueueFrom, Schedule, Play}
use Rattle.seq_state.specs.declared.input.Input.{Input}
use Rattle.seq_state.specs.declared.log.LogEntry.{LogEntry}
use Rattle.seq_state.specs.declared.log.LogEntry.TheVariants.{Delivered, Replied}
use Rattle.seq_state.specs.declared.log.Reply.{Reply}
use Rattle.seq_state.specs.declared.log.Reply.TheVariants as reply
use Rattle.seq_state.specs.declared.refusal.Refusal.{Refusal}
use Rattle.seq_state.specs.declared.refusal.Refusal.TheVariants as refusal
use Rattle.seq_state.specs.Refusals.{number_of}
use Rattle.seq_state.specs.Table.{queue_named}
use Rattle.script_text.specs.declared.reading.ScriptRead.{ScriptRead}
use Rattle.script_text.specs.declared.line_faults.LineFault.{LineFault}
use Rattle.script_text.specs.declared.reading.Skip.{Skip}
use Rattle.script_text.specs.declared.reading.SkipReason.{SkipReason}
use Rattle.script_text.specs.declared.reading.SkipReason.TheVariants as reason
use Rattle.script_text.specs.LineFaults.{line_fault}
use Rattle.script_text.specs.Words.{lines}
use Rattle.seq_session.specs.declared.about.About.{About}
use Rattle.seq_session.specs.declared.about.About.TheVariants.{Nothing, Node, Edge, Queue, Lacks, NotExported}
use Rattle.seq_session.specs.declared.about.Capability.TheVariants.{Read, SubsRead, Write, SubsWrite}
use Rattle.seq_session.specs.declared.made_caps.Making.{Making}
use Rattle.seq_session.specs.declared.diagnostic.Cause.{Cause}
use Rattle.seq_session.specs.declared.diagnostic.Cause.TheVariants.{Unreadable, Skipped, Refused}
use Rattle.seq_session.specs.declared.diagnostic.Diagnostic.{Diagnostic}
use Rattle.seq_session.specs.declared.merged.Merged.{Merged}
use Rattle.seq_session.specs.declared.source.Script.{Script}
use Rattle.seq_session.specs.Logs.{all_refusals}

-- a line of a client's script that did nothing
abbrev pub nothing_done : ℕ → ℕ → Cause → Diagnostic
nothing_done client line cause = record { client = client; line = line; cause = cause }

-- ---- skipped lines

-- why a line is unreadable, of these lines, if it is; lines count from 1
abbrev pub fault_at : List (List ℕ) → ℕ → Option LineFault
fault_at ls zero = None
fault_at ls (suc n) = option_and_then line_fault (slice_get ls n)

-- a line that is unreadable is told by the word that is wrong
abbrev pub unreadable : Option LineFault → Cause
unreadable None = Skipped reason.Unreadable
unreadable (Some fault) = Unreadable fault

abbrev pub cause_by : Option LineFault → SkipReason → Cause
cause_by fault reason.Unreadable = unreadable fault
cause_by fault why = Skipped why

abbrev pub skip_cause : List (List ℕ) → Skip → Cause
skip_cause ls s = cause_by (fault_at ls s.line) s.why

abbrev pub skipped_line : ℕ → List (List ℕ) → Skip → Diagnostic
skipped_line client ls s = nothing_done client s.line (skip_cause ls s)

-- those of a script
abbrev pub skipped_lines : Script → ScriptRead → List Diagnostic
skipped_lines s r = map (skipped_line s.client (lines s.text)) r.skips

-- those of all scripts, with the reading of each
abbrev pub all_skipped_lines : List Script → List ScriptRead → List Diagnostic
all_skipped_lines (s ∷ scripts) (r ∷ reads) = skipped_lines s r ++ all_skipped_lines scripts reads
all_skipped_lines _ _ = []

-- ---- refused commands

abbrev pub refusal_in : List Refusal → ℕ → Option Refusal
refusal_in [] n = None
refusal_in (r ∷ rs) n = if number_of r == n then Some r else refusal_in rs n

-- the refusal that has the number
abbrev pub refusal_numbered : ℕ → Option Refusal
refusal_numbered n = refusal_in all_refusals n

-- why a command was refused, if it was
abbrev pub refusal_of : Reply → Option Refusal
refusal_of (reply.Refused n) = refusal_numbered n
refusal_of _ = None

-- ---- the capabilities of nodes

abbrev pub own_port : ℕ → ℕ → Addr
own_port actor port = record { client = actor; node = Port port }

abbrev pub own_filter : ℕ → ℕ → Addr
own_filter actor filter = record { client = actor; node = Filter filter }

-- the node that a command makes, with its capabilities
abbrev pub made_by : ℕ → Command → Option Making
made_by actor (CreatePort port name caps) =
    Some (record { node = own_port actor port; caps = caps })
made_by actor (CreateFilter filter caps rule) =
    Some (record { node = own_filter actor filter; caps = caps })
made_by actor _ = None

-- what an input makes, where this is the reply to it
abbrev pub made_where : Reply → Option Input → Option Making
made_where reply.Done (Some i) = made_by i.actor i.command
made_where _ _ = None

-- what the command of an entry of the run has made
abbrev pub made_in : List Input → LogEntry → Option Making
made_in inputs (Delivered d) = None
made_in inputs (Replied place moment client r) = made_where r (slice_get inputs place)

-- the capabilities, where it is this node
abbrev pub caps_of : Addr → Making → Option Caps
caps_of node m = if same m.node node then Some m.caps else None

-- the capabilities with which a node was last made, by what was replied before
abbrev pub last_made : List Input → List LogEntry → Addr → Option Caps
last_made inputs before node =
    last_or None (filter_map (λ e. option_and_then (caps_of node) (made_in inputs e)) before)

-- ---- what a refusal is about

-- the node of its own that a command names
abbrev pub about_own : ℕ → Command → About
about_own actor (CreatePort port name caps) = Node (own_port actor port)
about_own actor (DeletePort port) = Node (own_port actor port)
about_own actor (Bytes port bytes) = Node (own_port actor port)
about_own actor (Send port message) = Node (own_port actor port)
about_own actor (Schedule q port due message) = Node (own_port actor port)
about_own actor (Play q port file) = Node (own_port actor port)
about_own actor (CreateFilter filter caps rule) = Node (own_filter actor filter)
about_own actor (SetFilter filter rule) = Node (own_filter actor filter)
about_own actor (DeleteFilter filter) = Node (own_filter actor filter)
about_own actor _ = Nothing

-- the subscription that a command names, and the nodes at its ends
abbrev pub about_edge : Command → About
about_edge (Connect source target) = Edge source target
about_edge (Disconnect source target) = Edge source target
about_edge _ = Nothing

abbrev pub about_source : Command → About
about_source (Connect source target) = Node source
about_source (Disconnect source target) = Node source
about_source _ = Nothing

abbrev pub about_target : Command → About
about_target (Connect source target) = Node target
about_target (Disconnect source target) = Node target
about_target _ = Nothing

-- the queue that a command names, where it names one
abbrev pub about_named : Option QueueAddr → About
about_named None = Nothing
about_named (Some q) = Queue q

-- a queue that a command makes is the actor's
abbrev pub about_queue : ℕ → Command → About
about_queue actor (CreateQueue queue ppq tempo) = Queue (record { client = actor; queue = queue })
about_queue actor (CreateQueueFrom queue file) = Queue (record { client = actor; queue = queue })
about_queue actor c = about_named (queue_named c)

abbrev pub owns_either : ℕ → Addr → Addr → Bool
owns_either actor source target = (actor == source.client) || (actor == target.client)

-- NO_EXPORT stands in the way where the actor owns neither node
abbrev pub no_export_at : Bool → Addr → ℕ → Addr → ℕ → About
no_export_at owns_one source read target write =
    if owns_one then Nothing
    else if can no_export_bit read then NotExported source
    else if can no_export_bit write then NotExported target
    else Nothing

-- the first that stands in the way, in the order in which `permits` names them
abbrev pub first_lack : ℕ → Addr → ℕ → Addr → ℕ → About
first_lack actor source read target write =
    if not (can read_bit read) then Lacks source Read
    else if not ((actor == source.client) || can subs_read_bit read) then Lacks source SubsRead
    else if not (can write_bit write) then Lacks target Write
    else if not ((actor == target.client) || can subs_write_bit write) then Lacks target SubsWrite
    else no_export_at (owns_either actor source target) source read target write

-- the same, where both nodes were made
abbrev pub lack_of : ℕ → Addr → Option Caps → Addr → Option Caps → About
lack_of actor source (Some read) target (Some write) =
    first_lack actor source read.0 target write.0
lack_of actor source _ target _ = Nothing

-- `made` has the capabilities of each node
abbrev pub about_caps : (Addr → Option Caps) → ℕ → Command → About
about_caps made actor (Connect source target) =
    lack_of actor source (made source) target (made target)
about_caps made actor (Disconnect source target) =
    lack_of actor source (made source) target (made target)
about_caps made actor _ = Nothing

-- what the refusal of an input is about
abbrev pub about : (Addr → Option Caps) → Refusal → Input → About
about made refusal.NodeExists i = about_own i.actor i.command
about made refusal.NoNode i = about_own i.actor i.command
about made refusal.NoSender i = about_source i.command
about made refusal.NoDest i = about_target i.command
about made refusal.NotPermitted i = about_caps made i.actor i.command
about made refusal.AlreadyConnected i = about_edge i.command
about made refusal.NotConnected i = about_edge i.command
about made refusal.SourcesFull i = about_target i.command
about made refusal.Cycle i = about_edge i.command
about made refusal.QueueExists i = about_queue i.actor i.command
about made refusal.NotYours i = about_queue i.actor i.command
about made refusal.NoQueue i = about_queue i.actor i.command
about made refusal.QueueRunning i = about_queue i.actor i.command
about made refusal.QueueStopped i = about_queue i.actor i.command
about made _ i = Nothing

-- the same, where there is an input
abbrev pub about_input : (Addr → Option Caps) → Refusal → Option Input → About
about_input made r None = Nothing
about_input made r (Some i) = about made r i

-- ---- refused lines

-- a refused line, where there are a line and a refusal
abbrev pub refused_at : ℕ → Option ℕ → Option Refusal → (Refusal → About) → List Diagnostic
refused_at client (Some line) (Some r) of = nothing_done client line (Refused r (of r)) ∷ []
refused_at client _ _ of = []

-- the line of an entry of the run, where its command was refused; `lines` are those of the inputs
abbrev pub refused_line : List ℕ → List Input → (Addr → Option Caps) → LogEntry → List Diagnostic
refused_line lines inputs made (Delivered d) = []
refused_line lines inputs made (Replied place moment client r) =
    refused_at client (slice_get lines place) (refusal_of r)
    (λ why. about_input made why (slice_get inputs place))

-- those of entries that come after these
abbrev pub refused_after : List ℕ → List Input → List LogEntry → List LogEntry → List Diagnostic
refused_after lines inputs before [] = []
refused_after lines inputs before (e ∷ es) =
    refused_line lines inputs (last_made inputs before) e
    ++ refused_after lines inputs (before ++ e ∷ []) es

abbrev pub refused_lines : List ℕ → List Input → List LogEntry → List Diagnostic
refused_lines lines inputs entries = refused_after lines inputs [] entries

-- ---- a run

-- the skipped lines, script by script, and then the refused ones, in the order of the run
abbrev pub diagnostics : List Script → List ScriptRead → Merged → List LogEntry → List Diagnostic
diagnostics scripts reads merged entries =
    all_skipped_lines scripts reads ++ refused_lines merged.lines merged.inputs entries
