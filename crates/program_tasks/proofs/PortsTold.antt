-- Ports that words name, in turn.
use Rattle.std.proofs.Common.{◌≡◌, ◌<◌, ℕ, zero, suc, List, [], ◌∷◌, ◌++◌, length, get_or, Option, Some, None, refl, sym, ap, ◌∙◌, arith}
use Rattle.std.specs.Option.{option_map}
use Rattle.node_table.specs.declared.number.PortAddr.{PortAddr}
use Rattle.script_text.specs.Numbers.{both}
use Rattle.program_tasks.specs.Words.{port_named, each_port}

-- where a word names no port, words name none
pub no_port : (words : List (List ℕ)) (i : ℕ) (w : List ℕ) → i < length words → w ≡ get_or words i w → port_named w ≡ None → each_port words ≡ None
no_port [] i w lt is none = absurd (omega arith)
no_port (v ∷ words) zero w lt is none =
    let first : port_named v ≡ None = ap port_named (sym is) ∙ none in
    ap (λ o. both (λ port ports. port ∷ ports) o (each_port words)) first
no_port (v ∷ words) (suc i) w lt is none = go (port_named v) (no_port words i w (omega arith) is none)
  where
    go : (o : Option PortAddr) → each_port words ≡ None → both (λ port ports. port ∷ ports) o (each_port words) ≡ None
    go None h = refl
    go (Some p) h = ap (option_map (λ ports. p ∷ ports)) h

-- one word more
pub one_port : (words : List (List ℕ)) (w : List ℕ) (ports : List PortAddr) (port : PortAddr) → Some ports ≡ each_port words → port_named w ≡ Some port → Some (ports ++ port ∷ []) ≡ each_port (words ++ w ∷ [])
one_port [] w ports port e is =
    let none : ports ≡ [] = cc in
    ap (λ ps. Some (ps ++ port ∷ [])) none ∙ sym (ap (λ o. both (λ p ps. p ∷ ps) o (Some [])) is)
one_port (v ∷ words) w ports port e is = go (port_named v) (each_port words) (λ ps r. one_port words w ps port r is) refl e
  where
    go : (o : Option PortAddr) (rest : Option (List PortAddr)) → ((ps : List PortAddr) → Some ps ≡ each_port words → Some (ps ++ port ∷ []) ≡ each_port (words ++ w ∷ [])) → each_port words ≡ rest → Some ports ≡ both (λ p ps. p ∷ ps) o rest →
        Some (ports ++ port ∷ []) ≡ both (λ p ps. p ∷ ps) o (each_port (words ++ w ∷ []))
    go None rest later r h = absurd (let bad : Some ports ≡ None = h in cc)
    go (Some p) None later r h = absurd (let bad : Some ports ≡ None = h in cc)
    go (Some p) (Some ps) later r h =
        let same : ports ≡ p ∷ ps = cc in
        ap (λ qs. Some (qs ++ port ∷ [])) same ∙ ap (option_map (λ qs. p ∷ qs)) (later ps (sym r))
