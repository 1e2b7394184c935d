use Rattle.log_forms.proofs.Wholes.{log_in-append, listing_in-append}
use Rattle.log_forms.proofs.laws.written_in_pieces.Goals as goal

pub returns : goal.returns
returns c = record { log = log_in-append; listing = listing_in-append }
