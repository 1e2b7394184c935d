-- Definition: Events in order of tick.
use Rattle.std.specs.Prelude.{Bool, true, List, [], ◌∷◌, nat_le, ◌&&◌}
use Rattle.std.specs.List.{list_all}
use Rattle.smf_grammar.specs.declared.event.Event.{Event}

-- no event stands at an earlier tick than one before it
abbrev pub ticks_rise : List Event → Bool
ticks_rise [] = true
ticks_rise (e ∷ es) = list_all (λ x. nat_le e.tick x.tick) es && ticks_rise es
