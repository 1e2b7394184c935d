-- Definition: What was forgiven, as it is printed.
use Rattle.std.specs.Prelude.{ℕ, List, ◌++◌, codes}
use Rattle.std.specs.Fmt.{decimal}
use Rattle.smf_mend.specs.declared.forgiven.Forgiven.{Forgiven}
use Rattle.smf_mend.specs.declared.told.Lenience.{Lenience}
use Rattle.smf_mend.specs.declared.told.Lenience.TheVariants.{RunningStatus, ProgramChange}

-- a kind in words
abbrev pub lenience_text : Lenience → List ℕ
lenience_text RunningStatus = codes "running status"
lenience_text ProgramChange = codes "program change"

-- how many times something of a kind was forgiven, and the place of the first:
-- `forgiven 3 running status 6977`
abbrev pub forgiven_text : Lenience → Forgiven → List ℕ
forgiven_text kind forgiven =
    codes "forgiven " ++ decimal forgiven.times ++ codes " " ++ lenience_text kind ++ codes " "
    ++ decimal forgiven.first
