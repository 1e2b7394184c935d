use Rattle.std.proofs.Common.{◌≡◌, ℕ, ◌∷◌, [], Option, Some, None}
use Rattle.std.specs.Prelude.{IfSome, IfNone}
use Rattle.memchr.specs.Find.{IsFirstByte}
use Rattle.script_text.specs.Words.{lines, is_line_end}
use Rattle.session_live.specs.Talk.{IsLineEnd}
use Rattle.session_live.proofs.Parted.{first-end, no-end}
use Rattle.session_live.proofs.cutting.line_end.Goals as goal

pub returns-clause-some : goal.returns-clause-some
returns-clause-some c = by c.memchr.result c.memchr.ensures
  where
    by : (found : Option ℕ) → IsFirstByte is_line_end c.args.text.now found → IfSome found (λ place. IsLineEnd c.args.text.now place)
    by None h = tt
    by (Some n) h = first-end c.args.text.now n h

pub returns-clause-none : goal.returns-clause-none
returns-clause-none c = by c.memchr.result c.memchr.ensures
  where
    by : (found : Option ℕ) → IsFirstByte is_line_end c.args.text.now found → IfNone found (lines c.args.text.now ≡ c.args.text.now ∷ [])
    by None h = no-end c.args.text.now h
    by (Some n) h = tt
