-- Definition: What the capabilities of two nodes let an actor do with a subscription between them.
use Rattle.std.specs.Prelude.{ℕ, ◌==◌, Bool, not, ◌&&◌, ◌||◌}
use Rattle.std.specs.Int.RustNames.{bit_and}
use Rattle.node_table.specs.declared.number.Addr.{Addr}

-- the bits of capabilities, as in the ALSA sequencer interface
abbrev pub read_bit : ℕ
read_bit = 1

abbrev pub write_bit : ℕ
write_bit = 2

abbrev pub subs_read_bit : ℕ
subs_read_bit = 32

abbrev pub subs_write_bit : ℕ
subs_write_bit = 64

abbrev pub no_export_bit : ℕ
no_export_bit = 128

-- these and 16, for both directions
abbrev pub known_bits : ℕ
known_bits = 243

-- whether only known capabilities are among these
abbrev pub are_known : ℕ → Bool
are_known caps = bit_and caps known_bits == caps

abbrev pub can : ℕ → ℕ → Bool
can bit caps = bit_and caps bit == bit

-- READ at the source and WRITE at the target, SUBS_READ and SUBS_WRITE at a node of another
-- client, and NO_EXPORT at neither where both are others'
abbrev pub permits : ℕ → Addr → ℕ → Addr → ℕ → Bool
permits actor source read target write =
    can read_bit read && ((actor == source.client) || can subs_read_bit read)
    && can write_bit write && ((actor == target.client) || can subs_write_bit write)
    && ((actor == source.client) || (actor == target.client)
    || not (can no_export_bit read || can no_export_bit write))
