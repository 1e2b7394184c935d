-- Definition: The text of the fault.
use Rattle.std.specs.Prelude.{ℕ, List, codes}

-- a refused growth as it is printed
abbrev pub out_of_memory_text : List ℕ
out_of_memory_text = codes "out of memory"
