use Rattle.std.proofs.Common.{◌≡◌, [], map, rules}
use Rattle.std.specs.Prelude.{codes, unwrap_or}
use Rattle.std.specs.Option.{option_map}
use Rattle.clap.specs.Matches.{found_of, matched_of, raw_values}
use Rattle.midiseq.proofs.Refused.{of_found}
use Rattle.midiseq.proofs.sessions.session_of.Goals as goal

pub returns-clause-fault : goal.returns-clause-fault
returns-clause-fault c =
    let scripts : map (λ w. w.now) c.unwrap_or-scripts.result.now ≡ unwrap_or (option_map raw_values (matched_of (found_of c.args.found.now) (codes "CLIENT=PATH"))) [] = search rules in
    of_found c.of_words.result (found_of c.args.found.now) c.end_of.result (map (λ w. w.now) c.unwrap_or-scripts.result.now) _ c.end_of.ensures scripts c.of_words.ensures.no_end c.of_words.ensures.refused
