use Rattle.std.proofs.Common.{◌≡◌, ◌<◌, None, refl, sym, ap, ◌∙◌, arith}
use Rattle.std.specs.Prelude.{IsSome, is_some}
use Rattle.std.specs.FinMap.{get, remove}
use Rattle.seq_state.specs.State.{with_entry}
use Rattle.seq_settle.specs.Cells.{seen_state}
use Rattle.seq_settle.specs.Sends.{key_of_first, key_of_head}
use Rattle.seq_settle.proofs.Covered.{all_keys, all-keys, all-left, first-of-all, none-comes, none-of-all, turn-timed}
use Rattle.seq_settle.proofs.Stores.{get-put_here}
use Rattle.seq_settle.proofs.Loop.{turn_from, turn_fewer, fresh_next, loop_end, has_event, gone-again, from-same, rekept}
use Rattle.seq_settle.proofs.settling.settle_all.Goals as goal

pub loop-due-init : goal.loop-due-init
loop-due-init g c =
    let clients = g.D.Desk.clients c.args.desk.now in
    let w = c.in_ok-wake.ensures in
    record {
      clients = refl;
      edges = refl;
      timed = w.timed;
      later = w.later;
      kept = record { are = c.requires.cells; keys = all-keys clients c.args.cells.now.cells; state = refl; told_is = refl };
      sizes = λ client. refl;
      idle = none-comes clients c.args.cells.now.cells c.wake.new.order (g.A.Agenda.content c.wake.new.agenda) w.timed c.args.moment w.later;
    }

-- ---- a message that was scheduled

pub loop-due-smaller-in-Some-2 : goal.loop-due-smaller-in-Some-2
loop-due-smaller-in-Some-2 g c =
    let i = c.loop-due.invariant in
    let first = first-of-all (g.D.Desk.clients c.args.desk.now) c.loop-due.cells.cells c.wake.new.order (g.A.Agenda.content c.loop-due.agenda) i.timed c.args.moment i.later c.in-Some.due.0 c.in-Some.due.1 c.in-Some.ensures.due in
    turn_fewer _ (g.D.Desk.edges c.args.desk.now) c.args.steps c.args.moment (g.D.Desk.pools c.args.desk.now) _ _ _ c.in-Some.due.0 c.in-Some.due.1 i.kept.are i.kept.keys first
    (c.in_ok-popped.ensures.rest (ap is_some c.in-Some-2.is))

pub loop-due-preserved-in-Some-2 : goal.loop-due-preserved-in-Some-2
loop-due-preserved-in-Some-2 g c =
    let i = c.loop-due.invariant in
    let r = c.in-Some-2.popped in
    let here : IsSome c.in_ok-popped.field-0 = ap is_some c.in-Some-2.is in
    let last : r.head.due ≡ None = c.in_ok-popped.ensures.last r c.in-Some-2.is in
    let clients = g.D.Desk.clients c.args.desk.now in
    let all = all_keys clients c.loop-due.cells.cells in
    let first = first-of-all clients c.loop-due.cells.cells c.wake.new.order (g.A.Agenda.content c.loop-due.agenda) i.timed c.args.moment i.later c.in-Some.due.0 c.in-Some.due.1 c.in-Some.ensures.due in
    let t = turn-timed clients c.loop-due.cells.cells c.wake.new.order (g.A.Agenda.content c.loop-due.agenda) i.timed c.args.moment i.later c.args.steps i.kept.are c.in-Some.due.0 c.in-Some.due.1 r None c.pop_scheduled.new.cells.cells _ _ c.in-Some.ensures.due
    (λ x e es h f. sym c.in-Some-2.is ∙ c.in_ok-popped.ensures.event here x e es h f) (c.in_ok-popped.ensures.rest here) (sym (ap (key_of_first clients r.head) last)) c.in-Some.ensures.popped
    (gone-again (g.A.Agenda.content c.loop-due.agenda) _ c.in-Some.due.0 c.in-Some.ensures.popped) in
    record {
      clients = c.in_ok-send_popped.ensures.clients ∙ i.clients;
      edges = c.in_ok-send_popped.ensures.edges ∙ i.edges;
      timed = t.0;
      later = t.1;
      kept = rekept _ _ _ _ _ _ _ _ _ _ _ (all-keys clients _)
          (turn_from _ _ _ _ _ _ _ _ _ _ _ _ all (remove all c.in-Some.due.0) (with_entry (remove all c.in-Some.due.0) c.in-Some.due.0 None) c.in-Some.due.0 c.in-Some.due.1 r None i.kept first
          (λ x e es h f. sym c.in-Some-2.is ∙ c.in_ok-popped.ensures.event here x e es h f) (c.in_ok-popped.ensures.rest here)
          _ _ _ i.clients i.edges c.in_ok-send_popped.ensures.clients c.in_ok-send_popped.ensures.pools c.in_ok-send_popped.ensures.sent
          (sym (ap (key_of_first (g.D.Desk.clients c.send_popped.new.desk) r.head) last)) refl refl);
      sizes = λ client. c.in_ok-popped.ensures.sizes client ∙ i.sizes client;
      idle = λ none. let n : c.args.moment < c.in-Some.due.1.moment = i.idle none c.in-Some.due.0 c.in-Some.due.1 c.in-Some.ensures.due.here in absurd (omega (arith, n, c.in-Some.ensures.due.due));
    }

-- ---- the first of several

pub unreachable-requires : goal.unreachable-requires
unreachable-requires g c =
    let i = c.loop-due.invariant in
    let first = first-of-all (g.D.Desk.clients c.args.desk.now) c.loop-due.cells.cells c.wake.new.order (g.A.Agenda.content c.loop-due.agenda) i.timed c.args.moment i.later c.in-Some.due.0 c.in-Some.due.1 c.in-Some.ensures.due in
    has_event _ _ _ _ _ c.in-Some.due.0 c.in-Some.due.1 c.in_ok-popped-2.field-0 i.kept.are i.kept.keys first
    (λ x e es h f. c.in_ok-popped-2.ensures.event x e es (ap (λ s. get s.cells c.in-Some.due.0) (c.in_ok-popped.ensures.none c.in_default-2.is) ∙ h) f) c.in_default-3.is

pub add_key-requires-clause-absent : goal.add_key-requires-clause-absent
add_key-requires-clause-absent g c = ap (λ m. get m c.in-Some.due.0) c.in-Some.ensures.popped ∙ get-put_here (g.A.Agenda.content c.loop-due.agenda) c.in-Some.due.0 None

pub add_key-requires-clause-free : goal.add_key-requires-clause-free
add_key-requires-clause-free g c =
    let i = c.loop-due.invariant in
    let r = c.in-Some-3.popped in
    let clients = g.D.Desk.clients c.args.desk.now in
    let all = all_keys clients c.loop-due.cells.cells in
    let first = first-of-all clients c.loop-due.cells.cells c.wake.new.order (g.A.Agenda.content c.loop-due.agenda) i.timed c.args.moment i.later c.in-Some.due.0 c.in-Some.due.1 c.in-Some.ensures.due in
    λ x q e f. fresh_next clients c.args.steps c.args.moment _ all (remove all c.in-Some.due.0) c.in-Some.due.0 c.in-Some.due.1 r c.key_of-key.result i.kept.are i.kept.keys first
    (λ x e es h f. sym c.in-Some-3.is ∙ c.in_ok-popped-2.ensures.event x e es (ap (λ s. get s.cells c.in-Some.due.0) (c.in_ok-popped.ensures.none c.in_default-2.is) ∙ h) f) refl
    (c.key_of-key.ensures ∙ ap (key_of_head (g.D.Desk.clients c.send_popped-in-Some.new.desk)) c.in_ok-head.ensures.head ∙ ap (λ x. key_of_head x r.head) (c.in_ok-head.ensures.clients ∙ i.clients)) x q e
    (all-left clients c.loop-due.cells.cells c.wake.new.order (g.A.Agenda.content c.loop-due.agenda) _ i.timed c.in-Some.due.0 c.in-Some.ensures.popped q x f)

pub loop-due-smaller : goal.loop-due-smaller
loop-due-smaller g c =
    let i = c.loop-due.invariant in
    let first = first-of-all (g.D.Desk.clients c.args.desk.now) c.loop-due.cells.cells c.wake.new.order (g.A.Agenda.content c.loop-due.agenda) i.timed c.args.moment i.later c.in-Some.due.0 c.in-Some.due.1 c.in-Some.ensures.due in
    turn_fewer _ (g.D.Desk.edges c.args.desk.now) c.args.steps c.args.moment (g.D.Desk.pools c.args.desk.now) _ _ _ c.in-Some.due.0 c.in-Some.due.1 i.kept.are i.kept.keys first
    (from-same c.in-Some.due.0 (ap (λ s. s.cells) (c.in_ok-popped.ensures.none c.in_default-2.is)) c.in_ok-popped-2.ensures.rest)

pub loop-due-preserved : goal.loop-due-preserved
loop-due-preserved g c =
    let i = c.loop-due.invariant in
    let r = c.in-Some-3.popped in
    let same = ap (λ s. s.cells) (c.in_ok-popped.ensures.none c.in_default-2.is) in
    let clients = g.D.Desk.clients c.args.desk.now in
    let all = all_keys clients c.loop-due.cells.cells in
    let next = c.key_of-key.ensures ∙ ap (key_of_head (g.D.Desk.clients c.send_popped-in-Some.new.desk)) c.in_ok-head.ensures.head in
    let first = first-of-all clients c.loop-due.cells.cells c.wake.new.order (g.A.Agenda.content c.loop-due.agenda) i.timed c.args.moment i.later c.in-Some.due.0 c.in-Some.due.1 c.in-Some.ensures.due in
    let t = turn-timed clients c.loop-due.cells.cells c.wake.new.order (g.A.Agenda.content c.loop-due.agenda) i.timed c.args.moment i.later c.args.steps i.kept.are c.in-Some.due.0 c.in-Some.due.1 r c.key_of-key.result c.pop_first.new.cells.cells _ _ c.in-Some.ensures.due
    (λ x e es h f. sym c.in-Some-3.is ∙ c.in_ok-popped-2.ensures.event x e es (ap (λ s. get s c.in-Some.due.0) same ∙ h) f) (from-same c.in-Some.due.0 same c.in_ok-popped-2.ensures.rest)
    (next ∙ ap (λ x. key_of_head x r.head) (c.in_ok-head.ensures.clients ∙ i.clients)) c.in-Some.ensures.popped c.in_ok-add_key.ensures in
    record {
      clients = c.in_ok-head.ensures.clients ∙ i.clients;
      edges = c.in_ok-head.ensures.edges ∙ i.edges;
      timed = t.0;
      later = t.1;
      kept = rekept _ _ _ _ _ _ _ _ _ _ _ (all-keys clients _)
          (turn_from _ _ _ _ _ _ _ _ _ _ _ _ all (remove all c.in-Some.due.0) (with_entry (remove all c.in-Some.due.0) c.in-Some.due.0 c.key_of-key.result) c.in-Some.due.0 c.in-Some.due.1 r c.key_of-key.result i.kept first
          (λ x e es h f. sym c.in-Some-3.is ∙ c.in_ok-popped-2.ensures.event x e es (ap (λ s. get s c.in-Some.due.0) same ∙ h) f) (from-same c.in-Some.due.0 same c.in_ok-popped-2.ensures.rest)
          _ _ _ i.clients i.edges c.in_ok-head.ensures.clients c.in_ok-head.ensures.pools c.in_ok-head.ensures.sent next refl refl);
      sizes = λ client. c.in_ok-popped-2.ensures.sizes client ∙ c.in_ok-popped.ensures.sizes client ∙ i.sizes client;
      idle = λ none. let n : c.args.moment < c.in-Some.due.1.moment = i.idle none c.in-Some.due.0 c.in-Some.due.1 c.in-Some.ensures.due.here in absurd (omega (arith, n, c.in-Some.ensures.due.due));
    }

pub returns-clause-state : goal.returns-clause-state
returns-clause-state g c =
    let i = c.loop-due.invariant in
    ap (λ x. seen_state x (g.D.Desk.pools c.loop-due.desk) (g.D.Desk.edges c.loop-due.desk) c.loop-due.cells.cells c.args.steps) i.clients
    ∙ ap (λ x. seen_state (g.D.Desk.clients c.args.desk.now) (g.D.Desk.pools c.loop-due.desk) x c.loop-due.cells.cells c.args.steps) i.edges
    ∙ (loop_end _ _ _ _ _ _ _ _ _ _ i.kept (none-of-all (g.D.Desk.clients c.args.desk.now) c.loop-due.cells.cells c.wake.new.order (g.A.Agenda.content c.loop-due.agenda) i.timed c.args.moment i.later c.in_default.ensures.none)).0

pub returns-clause-delivered : goal.returns-clause-delivered
returns-clause-delivered g c =
    let i = c.loop-due.invariant in
    (loop_end _ _ _ _ _ _ _ _ _ _ i.kept (none-of-all (g.D.Desk.clients c.args.desk.now) c.loop-due.cells.cells c.wake.new.order (g.A.Agenda.content c.loop-due.agenda) i.timed c.args.moment i.later c.in_default.ensures.none)).1
