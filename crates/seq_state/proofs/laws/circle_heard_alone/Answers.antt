use Rattle.seq_state.proofs.Heard.{port_bytes_law}
use Rattle.seq_state.proofs.laws.circle_heard_alone.Goals as goal

pub returns : goal.returns
returns c = port_bytes_law
