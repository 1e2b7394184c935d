-- Definition: How addresses are printed.
use Rattle.std.specs.Prelude.{ℕ, List, ◌++◌, codes}
use Rattle.std.specs.Fmt.{decimal}
use Rattle.node_table.specs.declared.number.Node.{Node}
use Rattle.node_table.specs.declared.number.Node.TheVariants.{Port, Filter}

-- `p0` or `f3`
abbrev pub node_text : Node → List ℕ
node_text (Port n) = codes "p" ++ decimal n
node_text (Filter n) = codes "f" ++ decimal n

-- `128:p0` or `129:f3`
abbrev pub addr_text : ℕ → Node → List ℕ
addr_text client node = decimal client ++ codes ":" ++ node_text node

-- `128:q0`
abbrev pub queue_text : ℕ → ℕ → List ℕ
queue_text client queue = decimal client ++ codes ":q" ++ decimal queue
