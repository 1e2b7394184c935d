use Rattle.std.proofs.Common.{◌∙◌, ◌≡◌, ap, true}
use Rattle.std.specs.List.{list_all}
use Rattle.log_forms.specs.Lines.{is_hex_byte}
use Rattle.log_forms.proofs.Hexed.{first_hex, rest_hex}
use Rattle.log_forms.proofs.hex_text.HexText.shape.Goals as goal

pub byte_of-requires : goal.byte_of-requires
byte_of-requires c =
    let all : list_all is_hex_byte c.new-words.result ≡ true = ap (list_all is_hex_byte) c.new-words.ensures ∙ c.self.invariant in
    let one = (c.in-Some.ensures).some in
    let two = (c.in-Some-word.ensures).some in
    first_hex c.word.new.self _ _ two (rest_hex c.new-words.result _ _ one all)

pub byte_of-requires-then-is_done : goal.byte_of-requires-then-is_done
byte_of-requires-then-is_done c =
    let all : list_all is_hex_byte c.new-words.result ≡ true = ap (list_all is_hex_byte) c.new-words.ensures ∙ c.self.invariant in
    let one = (c.in-Some.ensures).some in
    let two = (c.in-Some-word.ensures).some in
    first_hex c.word.new.self _ _ two (rest_hex c.new-words.result _ _ one all)

pub byte_of-requires-then-is_done-2 : goal.byte_of-requires-then-is_done-2
byte_of-requires-then-is_done-2 c =
    let all : list_all is_hex_byte c.new-words.result ≡ true = ap (list_all is_hex_byte) c.new-words.ensures ∙ c.self.invariant in
    let one = (c.in-Some.ensures).some in
    let two = (c.in-Some-word.ensures).some in
    let three = (c.in-Some-word-2.ensures).some in
    first_hex c.word-2.new.self _ _ three (rest_hex c.word.new.self _ _ two (rest_hex c.new-words.result _ _ one all))
