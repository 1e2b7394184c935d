use Rattle.seq_examples.proofs.SendInside.{send_inside}
use Rattle.seq_examples.proofs.rows.send_inside_message.Goals as goal

pub returns : goal.returns
returns c = send_inside
