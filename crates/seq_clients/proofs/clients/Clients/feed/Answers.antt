use Rattle.std.proofs.Common.{◌≡◌, ◌++◌, ℕ, List, subst}
use Rattle.std.specs.Prelude.{length, OnErr, OnOk, IfOk}
use Rattle.std.proofs.lemmas.Result.{on_err_weaker, on_ok_weaker}
use Rattle.midi_wire.specs.Parsing.{GainsPrefix}
use Rattle.midi_wire.specs.Readings.{reading}
use Rattle.seq_clients.proofs.Bodies.{stream-there, fed-there, fed-kept, port-is-fed, port-begins, port-missed}
use Rattle.seq_clients.proofs.clients.Clients.feed.Goals as goal

pub feed-requires : goal.feed-requires
feed-requires c = stream-there c.self.inside.nodes c.self.inside.rows _ c.self.invariant c.self.view_is c.args.client c.args.port _ c.port_addr.ensures _ c.in-Some.ensures.value

pub invariant_of-self : goal.invariant_of-self
invariant_of-self c = fed-kept c.self.inside.nodes c.self.inside.rows _ c.self.invariant c.self.view_is c.args.client c.args.port _ c.port_addr.ensures _ c.in-Some.ensures.value _ c.feed.ensures.stays

pub returns-in-Some-clause-fed : goal.returns-in-Some-clause-fed
returns-in-Some-clause-fed c =
    on_ok_weaker c.feed.result (λ e. port-is-fed c.self.inside.nodes c.self.inside.rows _ c.self.invariant c.self.view_is c.args.client c.args.port _ c.port_addr.ensures _ c.in-Some.ensures.value _ c.args.bytes.now e) c.feed.ensures.fed

pub returns-in-Some-clause-told : goal.returns-in-Some-clause-told
returns-in-Some-clause-told c =
    subst (λ (b : List ℕ). OnOk c.feed.result (c.feed.new.out.items ≡ c.args.out.now.items ++ reading (b ++ c.args.bytes.now)))
    (fed-there c.self.inside.nodes c.self.inside.rows _ c.self.invariant c.self.view_is c.args.client c.args.port _ c.port_addr.ensures _ c.in-Some.ensures.value) c.feed.ensures.told

pub returns-in-Some-clause-number : goal.returns-in-Some-clause-number
returns-in-Some-clause-number c =
    subst (λ (b : List ℕ). IfOk c.feed.result (λ n. n ≡ length (reading (b ++ c.args.bytes.now))))
    (fed-there c.self.inside.nodes c.self.inside.rows _ c.self.invariant c.self.view_is c.args.client c.args.port _ c.port_addr.ensures _ c.in-Some.ensures.value) c.feed.ensures.number

pub returns-in-Some-clause-err : goal.returns-in-Some-clause-err
returns-in-Some-clause-err c =
    on_err_weaker c.feed.result (λ e. port-begins c.self.inside.nodes c.self.inside.rows _ c.self.invariant c.self.view_is c.args.client c.args.port _ c.port_addr.ensures _ c.in-Some.ensures.value _ e) c.feed.ensures.anew

pub returns-in-Some-clause-first : goal.returns-in-Some-clause-first
returns-in-Some-clause-first c =
    subst (λ (b : List ℕ). OnErr c.feed.result (GainsPrefix c.args.out.now.items c.feed.new.out.items (reading (b ++ c.args.bytes.now))))
    (fed-there c.self.inside.nodes c.self.inside.rows _ c.self.invariant c.self.view_is c.args.client c.args.port _ c.port_addr.ensures _ c.in-Some.ensures.value) c.feed.ensures.first

pub unreachable-requires : goal.unreachable-requires
unreachable-requires c = port-missed c.self.inside.nodes c.self.inside.rows _ c.self.invariant c.self.view_is c.args.client c.args.port _ c.port_addr.ensures c.requires c.in_default.ensures.value
