use Rattle.std.proofs.Common.{◌∙◌, sym}
use Rattle.log_forms.specs.Lines.{is_space, words}
use Rattle.log_forms.proofs.Cut.{some_parts}
use Rattle.log_forms.proofs.Hexed.{bytes_of-some}
use Rattle.log_forms.proofs.hex_text.HexText.new.Goals as goal

pub returns-then-are_hex_bytes : goal.returns-then-are_hex_bytes
returns-then-are_hex_bytes c =
    bytes_of-some (words c.args.text.now) (some_parts is_space c.args.text.now) (sym c.are_hex_bytes.ensures ∙ c.if-are_hex_bytes.true)
