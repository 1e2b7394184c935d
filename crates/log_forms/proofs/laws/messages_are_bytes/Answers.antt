use Rattle.log_forms.proofs.MessageBytes.{message_is_bytes}
use Rattle.log_forms.proofs.laws.messages_are_bytes.Goals as goal

pub returns : goal.returns
returns c = message_is_bytes
