use Rattle.std.proofs.Common.{not, length, sym, ap, ◌∙◌}
use Rattle.std.specs.Option.{unwrap_or}
use Rattle.std.specs.Str.{bytes_eq}
use Rattle.script_text.proofs.Places.{prefix_len-map, place_or}
use Rattle.script_text.proofs.address.number_of_name.Goals as goal

pub returns : goal.returns
returns c =
    c.unwrap_or.ensures
    ∙ ap (λ o. unwrap_or o (length c.args.names.now)) c.first_named.ensures
    ∙ place_or (λ n. bytes_eq n.items c.args.name.now) c.args.names.now
    ∙ sym (prefix_len-map (λ n. not (bytes_eq n c.args.name.now)) (λ n. n.items) c.args.names.now)
