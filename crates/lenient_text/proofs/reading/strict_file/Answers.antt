use Rattle.lenient_text.proofs.Printed.{memory-only}
use Rattle.lenient_text.proofs.reading.strict_file.Goals as goal

pub returns-in-Err-clause-only : goal.returns-in-Err-clause-only
returns-in-Err-clause-only c = memory-only _ c.requires.0 c.requires.1 c.in-Err.fault _ c.from.ensures (λ some. rw c.as_slice.ensures.value at (c.in-Err.ensures.fault some))
