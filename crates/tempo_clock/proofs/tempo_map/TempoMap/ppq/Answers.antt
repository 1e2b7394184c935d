use Rattle.std.proofs.Common.{◌∙◌, refl, ap}
use Rattle.tempo_clock.specs.Ticks.{resolution}
use Rattle.tempo_clock.proofs.Parts.{resolution-alike}
use Rattle.tempo_clock.proofs.tempo_map.TempoMap.ppq.Goals as goal

pub returns-clause-value : goal.returns-clause-value
returns-clause-value c = c.ppq.ensures.value ∙ ap resolution c.table.ensures ∙ resolution-alike _ _ refl ∙ ap resolution c.self.view_is
