use Rattle.std.proofs.Common.{◌≡◌, ◌++◌, map, take}
use Rattle.session_live.specs.Answers.{Comes, parts_text}
use Rattle.session_live.proofs.parts.Writer.push_comes.Given as goal

abbrev pub invariant-loop-delivery : goal.invariant-loop-delivery
invariant-loop-delivery l = l.text.items ≡ l.fn.text.items ++ parts_text (map Comes (take l.delivery-index l.delivered))
