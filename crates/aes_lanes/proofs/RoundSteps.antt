-- The rounds one by one, and the cipher as its last round, with the number of a round as code counts it.
use Rattle.std.proofs.Common.{◌≡◌, ◌<◌, ℕ, suc, ◌+◌, ◌-◌, List, ap, ◌∙◌, arith}
use Rattle.aes_lanes.specs.Rounds.{add_round_key, mix_columns, shift_rows, sub_bytes, inverse_mix_columns, inverse_shift_rows, inverse_sub_bytes}
use Rattle.aes_lanes.specs.Schedule.{round_key}
use Rattle.aes_lanes.specs.Cipher.{rounds, inverse_rounds}

-- round n, of which n - 1 are before it
pub rounds-next : (words block : List ℕ) (n : ℕ) → 0 < n
    → rounds words block (n + 1 - 1) ≡ add_round_key (mix_columns (shift_rows (sub_bytes (rounds words block (n - 1))))) (round_key words n)
unfolding rounds
rounds-next words block n some =
    let next : n + 1 - 1 ≡ suc (n - 1) = omega arith in
    let key : suc (n - 1) ≡ n = omega arith in
    ap (rounds words block) next
    ∙ ap (λ r. add_round_key (mix_columns (shift_rows (sub_bytes (rounds words block (n - 1))))) (round_key words r)) key

pub inverse_rounds-next : (words block : List ℕ) (nr n : ℕ) → 0 < n
    → inverse_rounds nr words block (n + 1 - 1)
    ≡ inverse_mix_columns (add_round_key (inverse_sub_bytes (inverse_shift_rows (inverse_rounds nr words block (n - 1)))) (round_key words (nr - n)))
unfolding inverse_rounds
inverse_rounds-next words block nr n some =
    let next : n + 1 - 1 ≡ suc (n - 1) = omega arith in
    let key : nr - suc (n - 1) ≡ nr - n = omega arith in
    ap (inverse_rounds nr words block) next
    ∙ ap (λ r. inverse_mix_columns (add_round_key (inverse_sub_bytes (inverse_shift_rows (inverse_rounds nr words block (n - 1)))) (round_key words r))) key
