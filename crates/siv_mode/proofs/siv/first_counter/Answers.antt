use Rattle.std.proofs.Common.{ℕ, ◌-◌, ◌^◌, bit_and, ◌∙◌, ap}
use Rattle.std.specs.Int.{w128, to_be_bytes}
use Rattle.siv_mode.specs.Siv.{first_counter}
use Rattle.siv_mode.proofs.siv.first_counter.Goals as goal

pub returns : goal.returns
unfolding first_counter
returns c =
    c.to_be_bytes.ensures
    ∙ ap (λ (n : ℕ). to_be_bytes w128 (bit_and n (2 ^ 128 - 1 - 2 ^ 63 - 2 ^ 31))) c.from_be_bytes.ensures
