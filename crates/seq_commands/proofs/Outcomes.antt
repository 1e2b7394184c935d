-- Facts for one outcome.
use Rattle.std.proofs.Common.{Result, Ok, Err}
use Rattle.std.specs.Prelude.{OnOk, IfOk}

pub if_ok-both : {X E Q : Type 0} {P S : X → Type 0} (r : Result X E) → ((x : X) → P x → Q → S x) → IfOk r P → OnOk r Q → IfOk r S
if_ok-both (Ok x) f p q = f x p q
if_ok-both (Err e) f p q = p
