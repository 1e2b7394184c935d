use Rattle.lenient_text.proofs.Printed.{fault-told}
use Rattle.lenient_text.proofs.reading.read_leniently.Goals as goal

pub returns-clause-told : goal.returns-clause-told
returns-clause-told g c = fault-told g.R.Source.HasLeft _ _ c.in-Ok.bytes.items c.in-Ok.ensures.bytes c.in-Err-mend_unwrapped.fault _ c.from.ensures
    (λ some. rw c.as_slice.ensures.value at (c.in-Err-mend_unwrapped.ensures.refused some))
