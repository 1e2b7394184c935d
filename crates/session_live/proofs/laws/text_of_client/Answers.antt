use Rattle.session_live.proofs.Fronts.{text_law}
use Rattle.session_live.proofs.laws.text_of_client.Goals as goal

pub returns : goal.returns
returns c = text_law
