use Rattle.std.proofs.Common.{◌∙◌, ap, sym}
use Rattle.text_forms.specs.Hex.{in_hex}
use Rattle.log_forms.proofs.Hexed.{in_hex-text}
use Rattle.log_forms.proofs.hex_text.HexText.as_text.Goals as goal

pub returns : goal.returns
returns c = sym (in_hex-text c.self.inside.text.now c.self.invariant) ∙ ap in_hex c.self.view_is
