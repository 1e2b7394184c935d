use Rattle.std.proofs.Common.{◌≡◌, ℕ, [], ◌∷◌, ap, ◌∙◌}
use Rattle.std.proofs.lemmas.Result.{on_ok_weaker}
use Rattle.node_table.specs.declared.caps.Caps.{Caps}
use Rattle.seq_state.specs.declared.input.Command.TheVariants.{CreatePort, Connect}
use Rattle.seq_state.specs.Step.{port_addr}
use Rattle.tool_text.specs.Thru.{readable, writable, input_at_start, after_input}
use Rattle.tool_text.proofs.Joined.{said_next, unwrapped}
use Rattle.tool_text.proofs.thru.join.Goals as goal

pub returns-clause-joined : goal.returns-clause-joined
returns-clause-joined g c =
    let source : c.unwrap-source.result ≡ 128 = unwrapped _ _ _ c.unwrap-source.ensures c.new.ensures.value in
    let sink : c.unwrap-sink.result ≡ 129 = unwrapped _ _ _ c.unwrap-sink.ensures c.new-2.ensures.value in
    let port : c.unwrap-port.result ≡ 0 = unwrapped _ _ _ c.unwrap-port.ensures c.new-3.ensures.value in
    let out : c.both-readable.result ≡ readable = ap (λ (n : ℕ). record { 0 = n }) c.both-readable.ensures in
    let into : c.both-writable.result ≡ writable = ap (λ (n : ℕ). record { 0 = n }) c.both-writable.ensures in
    let first = said_next _ _ _ _ _ _ _ _ c.requires c.in_ok-say.ensures.state source c.in_ok-opening.ensures in
    let second = said_next _ _ _ _ _ _ _ _ first c.in_ok-say-2.ensures.state source
    (c.in_ok-creation.ensures ∙ ap (λ p. CreatePort p (0x6F ∷ 0x75 ∷ 0x74 ∷ []) c.both-readable.result) port ∙ ap (λ (x : Caps). CreatePort 0 (0x6F ∷ 0x75 ∷ 0x74 ∷ []) x) out) in
    let third = said_next _ _ _ _ _ _ _ _ second c.in_ok-say-3.ensures.state sink c.in_ok-opening-2.ensures in
    let fourth = said_next _ _ _ _ _ _ _ _ third c.in_ok-say-4.ensures.state sink
    (c.in_ok-creation-2.ensures ∙ ap (λ p. CreatePort p (0x69 ∷ 0x6E ∷ []) c.both-writable.result) port ∙ ap (λ (x : Caps). CreatePort 0 (0x69 ∷ 0x6E ∷ []) x) into) in
    on_ok_weaker c.say-5.result
    (λ (e : c.say-5.new.engine ≡ after_input c.say-4.new.engine (input_at_start c.unwrap-sink.result c.connection.result)). said_next _ _ _ _ _ _ _ _ fourth e sink
    (c.connection.ensures ∙ ap (λ s. Connect (port_addr s c.unwrap-port.result) (port_addr c.unwrap-sink.result c.unwrap-port.result)) source
    ∙ ap (λ t. Connect (port_addr 128 c.unwrap-port.result) (port_addr t c.unwrap-port.result)) sink ∙ ap (λ p. Connect (port_addr 128 p) (port_addr 129 p)) port))
    c.say-5.ensures.state
