-- The types of meta events that have a name, one after another.
use Rattle.std.proofs.Common.{◌≡◌, ℕ, suc, ◌+◌, ◌<◌, Bool, false, List, map, length, drop, get_or, drop-cons, add-one, sym, ap, ◌∙◌}
use Rattle.std.specs.Prelude.{if◌then◌else◌, Option, Some}
use Rattle.std.specs.Str.{bytes_eq}
use Rattle.smf_text.specs.AllTexts.{Shape}
use Rattle.smf_make.specs.declared.meta_types.NamedType.{NamedType}
use Rattle.smf_make.specs.SaidEvents.{type_among}
use Rattle.smf_make.specs.Words.{row_seen, type_seen}

pub among-next : (word : List ℕ) (xs : List NamedType) (i : ℕ) (d : NamedType) (all : Option (ℕ × Shape)) → i < length xs → bytes_eq (get_or xs i d).name.now word ≡ false → type_among word (map row_seen (drop i xs)) ≡ all → type_among word (map row_seen (drop (i + 1) xs)) ≡ all
among-next word xs i d all h e so_far =
    ap (λ (k : ℕ). type_among word (map row_seen (drop k xs))) (add-one i)
    ∙ sym (ap (λ (ys : List NamedType). type_among word (map row_seen ys)) (drop-cons xs i d h)
    ∙ ap (λ (t : Bool). if t then Some (type_seen (get_or xs i d)) else type_among word (map row_seen (drop (suc i) xs))) e)
    ∙ so_far
