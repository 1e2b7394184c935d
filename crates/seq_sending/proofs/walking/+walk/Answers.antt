use Rattle.std.proofs.Common.{◌≡◌, ◌∷◌, ◌++◌, ◌-◌, ℕ, List, [], Some, sym, ap, subst, ◌∙◌, append-nil}
use Rattle.std.specs.List.{flat_map}
use Rattle.std.specs.Option.{option_to_list}
use Rattle.std.proofs.lemmas.List.{take_all}
use Rattle.node_table.specs.declared.number.Addr.{Addr}
use Rattle.node_table.specs.declared.number.Node.TheVariants.{Port}
use Rattle.patch_graph.specs.Cursor.{at_port}
use Rattle.seq_state.specs.Copies.{copy}
use Rattle.seq_state.specs.declared.log.Delivery.{Delivery}
use Rattle.seq_state.specs.Step.{pools_after, copies_with_room}
use Rattle.seq_sending.specs.Carrying.{copies_to}
use Rattle.seq_sending.proofs.Sent.{spread-none, spread-hops}
use Rattle.seq_sending.specs.Barren.{AreBarren}
use Rattle.seq_sending.specs.Rooms.{AreAt}
use Rattle.seq_sending.specs.declared.barren.Mark.{Mark}
use Rattle.seq_sending.proofs.OneMoment.{kept-at, copy-at, to-at}
use Rattle.seq_sending.proofs.Rooms.{cut_law}
use Rattle.seq_sending.proofs.Walked.{still-barren, one-more, no-longer, pools-next, sent-next}
use Rattle.seq_sending.proofs.Reached.{on-ok}
use Rattle.seq_sending.proofs.walking.+walk.Goals as goal

pub walk_all-loop-target-preserved : goal.walk_all-loop-target-preserved
walk_all-loop-target-preserved g t c =
    let a = c.args in
    let l = c.loop-target in
    let i = l.invariant in
    let target = c.target-item.result in
    let who = a.clients.now.clients in
    let was = a.clients.now.pools in
    let m : List ℕ = g.M.Carried.bytes a.message.now in
    let one : Addr → List Delivery = λ node. copies_to who a.graph.now a.moment (a.hops - 1) node m in
    let all : (node : Addr) → AreAt a.moment (one node) = λ node. to-at a.moment who a.graph.now (a.hops - 1) node m in
    let sent = c.in_ok-walk_to.ensures in
    let same : copies_to l.clients.clients a.graph.now a.moment (a.hops - 1) target m ≡ one target =
    ap (λ x. copies_to x a.graph.now a.moment (a.hops - 1) target m) i.clients in
    record {
      clients = sent.clients ∙ i.clients;
      pools = pools-next a.moment one all a.targets.now l.target-index target c.loop-target-test.true c.target-item.is was l.clients.pools _ i.pools
          (sent.pools ∙ ap (λ ds. pools_after l.clients.pools (copies_with_room l.clients.pools ds)) same);
      sent = sent-next a.moment one all a.targets.now l.target-index target c.loop-target-test.true c.target-item.is was l.clients.pools a.out.now.items l.out.items _ i.pools i.sent
          (sent.sent ∙ ap (λ ds. l.out.items ++ copies_with_room l.clients.pools ds) same);
      barren = subst (λ x. AreBarren g.M.Carried.bytes x a.graph.now a.moment c.walk_to.new.clients.pools c.walk_to.new.barren.marks.items) i.clients sent.barren;
    }

pub walk_all-returns-then-hops-eq0-clause-pools : goal.walk_all-returns-then-hops-eq0-clause-pools
walk_all-returns-then-hops-eq0-clause-pools g t c =
    let a = c.args in
    let was = a.clients.now.pools in
    ap (λ ds. pools_after was (copies_with_room was ds)) (sym (spread-none a.clients.now.clients a.graph.now a.moment a.hops a.targets.now (g.M.Carried.bytes a.message.now) c.if-hops-eq0.true))

pub walk_all-returns-then-hops-eq0-clause-sent : goal.walk_all-returns-then-hops-eq0-clause-sent
walk_all-returns-then-hops-eq0-clause-sent g t c =
    let a = c.args in
    let was = a.clients.now.pools in
    sym (append-nil a.out.now.items)
    ∙ ap (λ ds. a.out.now.items ++ copies_with_room was ds) (sym (spread-none a.clients.now.clients a.graph.now a.moment a.hops a.targets.now (g.M.Carried.bytes a.message.now) c.if-hops-eq0.true))

pub walk_all-returns-clause-pools : goal.walk_all-returns-clause-pools
walk_all-returns-clause-pools g t c =
    let a = c.args in
    let l = c.loop-target in
    let who = a.clients.now.clients in
    let was = a.clients.now.pools in
    let one : Addr → List Delivery = λ node. copies_to who a.graph.now a.moment (a.hops - 1) node (g.M.Carried.bytes a.message.now) in
    l.invariant.pools
    ∙ ap (λ ts. pools_after was (copies_with_room was (flat_map one ts))) (take_all l.target-index a.targets.now c.loop-target-test.false)
    ∙ ap (λ ds. pools_after was (copies_with_room was ds)) (sym (spread-hops who a.graph.now a.moment a.hops a.targets.now (g.M.Carried.bytes a.message.now) c.if-hops-eq0.false))

pub walk_all-returns-clause-sent : goal.walk_all-returns-clause-sent
walk_all-returns-clause-sent g t c =
    let a = c.args in
    let l = c.loop-target in
    let who = a.clients.now.clients in
    let was = a.clients.now.pools in
    let one : Addr → List Delivery = λ node. copies_to who a.graph.now a.moment (a.hops - 1) node (g.M.Carried.bytes a.message.now) in
    l.invariant.sent
    ∙ ap (λ ts. a.out.now.items ++ copies_with_room was (flat_map one ts)) (take_all l.target-index a.targets.now c.loop-target-test.false)
    ∙ ap (λ ds. a.out.now.items ++ copies_with_room was ds) (sym (spread-hops who a.graph.now a.moment a.hops a.targets.now (g.M.Carried.bytes a.message.now) c.if-hops-eq0.false))

-- ---- to a node that is marked

pub walk_to-returns-then-has-clause-pools : goal.walk_to-returns-then-has-clause-pools
walk_to-returns-then-has-clause-pools g t c =
    let a = c.args in
    let was = a.clients.now.pools in
    sym (ap (pools_after was) (c.has.ensures a.clients.now.clients a.graph.now a.moment was c.requires c.if-has.true))

pub walk_to-returns-then-has-clause-sent : goal.walk_to-returns-then-has-clause-sent
walk_to-returns-then-has-clause-sent g t c =
    let a = c.args in
    let was = a.clients.now.pools in
    sym (append-nil a.out.now.items)
    ∙ ap (λ ds. a.out.now.items ++ ds) (sym (c.has.ensures a.clients.now.clients a.graph.now a.moment was c.requires c.if-has.true))

-- ---- to a port, and to a filter

pub walk_to-returns-in-Port-clause-barren : goal.walk_to-returns-in-Port-clause-barren
walk_to-returns-in-Port-clause-barren g t c =
    let a = c.args in
    let was = a.clients.now.pools in
    let now = c.keep.new.clients.pools in
    let ds : List Delivery = option_to_list (copy a.moment (at_port (record { client = a.node.now.client; port = c.in-Port.port })) (Some (g.M.Carried.bytes a.message.now))) in
    let all : AreAt a.moment (copies_with_room was ds) = kept-at a.moment was ds (copy-at a.moment a.node.now.client (Port c.in-Port.port) (g.M.Carried.bytes a.message.now)) in
    on-ok c.keep.result (now ≡ pools_after was (copies_with_room was ds)) (AreBarren g.M.Carried.bytes a.clients.now.clients a.graph.now a.moment now a.barren.now.marks.items)
    (λ e. still-barren g.M.Carried.bytes a.clients.now.clients a.graph.now a.moment was now a.barren.now.marks.items (copies_with_room was ds) all e c.requires)
    c.keep.ensures.pools

pub walk_to-returns-in_ok-message-in-Filter-clause-barren : goal.walk_to-returns-in_ok-message-in-Filter-clause-barren
walk_to-returns-in_ok-message-in-Filter-clause-barren g t c =
    let a = c.args in
    let b = c.in_ok-walk_behind-in-Filter.ensures in
    let who = a.clients.now.clients in
    let was = a.clients.now.pools in
    let now = c.walk_behind.new.clients.pools in
    let mark = c.in_ok-message-in-Filter in
    let new : Mark g.row.M.Denot = record { node = a.node.now; hops = a.hops; message = mark.message } in
    let marks = c.walk_behind.new.barren.marks.items in
    let ds : List Delivery = copies_to who a.graph.now a.moment a.hops a.node.now (g.M.Carried.bytes a.message.now) in
    let all : AreAt a.moment ds = to-at a.moment who a.graph.now a.hops a.node.now (g.M.Carried.bytes a.message.now) in
    let none : copies_with_room was ds ≡ [] = no-longer a.out.now.items c.walk_behind.new.out.items (copies_with_room was ds) b.sent (sym c.walk_behind.new.out.ok.0 ∙ sym c.len.ensures ∙ c.if-len-before.false ∙ c.len-before.ensures ∙ a.out.now.ok.0) in
    let dead : copies_with_room now ds ≡ [] = ap (λ p. copies_with_room p ds) b.pools ∙ cut_law was a.moment ds (copies_with_room was ds) all (kept-at a.moment was ds all) none in
    let same : copies_with_room now (copies_to who a.graph.now a.moment a.hops a.node.now (g.M.Carried.bytes mark.message)) ≡ [] =
    ap (λ m. copies_with_room now (copies_to who a.graph.now a.moment a.hops a.node.now m)) mark.ensures ∙ dead in
    on-ok c.add.result (c.add.new.self.marks.items ≡ marks ++ new ∷ []) (AreBarren g.M.Carried.bytes who a.graph.now a.moment now c.add.new.self.marks.items)
    (λ e. subst (AreBarren g.M.Carried.bytes who a.graph.now a.moment now) (sym e) (one-more g.M.Carried.bytes who a.graph.now a.moment now marks new b.barren same))
    c.add.ensures
