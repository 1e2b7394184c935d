-- Representation: The codes of addresses, by which a model may have them in its value.
use Rattle.std.specs.Prelude.{◌≡◌, ℕ, ◌⊎◌, refl}
use Rattle.std.proofs.Common.{inl, inr}
use Rattle.std.specs.Coded.{Coded, code_by, coded×, coded⊎, coded_ℕ}
use Rattle.node_table.specs.declared.number.Addr.{Addr}
use Rattle.node_table.specs.declared.number.Node.{Node}
use Rattle.node_table.specs.declared.number.Node.TheVariants.{Port, Filter}
use Rattle.node_table.specs.declared.number.QueueAddr.{QueueAddr}

abbrev pub node_either : Node → ℕ ⊎ ℕ
node_either (Port n) = inl n
node_either (Filter n) = inr n

abbrev pub either_node : ℕ ⊎ ℕ → Node
either_node (inl n) = Port n
either_node (inr n) = Filter n

pub node_back : (n : Node) → either_node (node_either n) ≡ n
node_back (Port n) = refl
node_back (Filter n) = refl

abbrev pub coded_node : Coded Node
coded_node = code_by (ℕ ⊎ ℕ) (coded⊎ coded_ℕ coded_ℕ) node_either either_node node_back

abbrev pub coded_addr : Coded Addr
coded_addr =
    code_by (ℕ × Node) (coded× coded_ℕ coded_node)
    (λ a. (a.client, a.node)) (λ p. record { client = p.0; node = p.1 }) (λ _. refl)

abbrev pub coded_queue_addr : Coded QueueAddr
coded_queue_addr =
    code_by (ℕ × ℕ) (coded× coded_ℕ coded_ℕ)
    (λ q. (q.client, q.queue)) (λ p. record { client = p.0; queue = p.1 }) (λ _. refl)
