use Rattle.std.proofs.Common.{ℕ, ◌*◌, ◌/◌, ◌%◌, ◌^◌, bit_xor, ◌∙◌, ap}
use Rattle.std.specs.Int.{w128, to_be_bytes}
use Rattle.siv_mode.specs.Blocks.{double}
use Rattle.siv_mode.proofs.blocks.doubled.Goals as goal

pub returns : goal.returns
unfolding double
returns c =
    c.to_be_bytes.ensures
    ∙ ap (λ (n : ℕ). to_be_bytes w128 (bit_xor (n * 2 % 2 ^ 128) (n / 2 ^ 127 * 0x87))) c.from_be_bytes-number.ensures
