-- Definition: How the reasons are printed.
use Rattle.std.specs.Prelude.{ℕ, List, codes}
use Rattle.script_text.specs.declared.reading.SkipReason.{SkipReason}
use Rattle.script_text.specs.declared.reading.SkipReason.TheVariants.{Unreadable, PastEnd, Late, TooLong}

abbrev pub reason_text : SkipReason → List ℕ
reason_text Unreadable = codes "unreadable"
reason_text PastEnd = codes "past-end"
reason_text Late = codes "late"
reason_text TooLong = codes "too-long"
