-- Definition: Which addresses are one, and what stands there.
use Rattle.std.specs.Prelude.{◌==◌, Bool, true, false, ◌&&◌}
use Rattle.node_table.specs.declared.number.Addr.{Addr}
use Rattle.node_table.specs.declared.number.Node.{Node}
use Rattle.node_table.specs.declared.number.Node.TheVariants.{Port, Filter}

abbrev pub same_node : Node → Node → Bool
same_node (Port m) (Port n) = m == n
same_node (Filter m) (Filter n) = m == n
same_node (Port m) (Filter n) = false
same_node (Filter m) (Port n) = false

abbrev pub same : Addr → Addr → Bool
same a b = (a.client == b.client) && same_node a.node b.node

abbrev pub is_filter_node : Node → Bool
is_filter_node (Port n) = false
is_filter_node (Filter n) = true

abbrev pub is_filter : Addr → Bool
is_filter a = is_filter_node a.node
