use Rattle.std.proofs.Common.{false}
use Rattle.seq_state.specs.Heard.{port_messages}
use Rattle.sounding_notes.proofs.Started.{from_a_start, starts_sounding}
use Rattle.sounding_notes.proofs.laws.sounds_from_a_start.Goals as goal

pub returns : goal.returns
returns c log n =
    let messages = port_messages n.target log in
    (λ h. from_a_start n.channel n.note messages h, λ s. starts_sounding n.channel n.note false messages s)
