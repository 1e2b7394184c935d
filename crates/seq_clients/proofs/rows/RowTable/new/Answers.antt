use Rattle.std.proofs.Common.{refl}
use Rattle.std.specs.Option.{option_map}
use Rattle.seq_clients.proofs.Arrays.{empty_seen}
use Rattle.seq_clients.proofs.rows.RowTable.new.Goals as goal

pub returns : goal.returns
returns c = empty_seen (option_map (λ b. b.value)) 128 64 _ c.nothing.ensures.none refl
