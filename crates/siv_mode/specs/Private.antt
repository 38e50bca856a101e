-- Words of private contracts: CMAC that goes on from a value.
use Rattle.std.specs.Prelude.{ℕ, ◌*◌, List, drop}
use Rattle.aes_lanes.specs.Bytes.{xor_bytes}
use Rattle.siv_mode.specs.Cmac.{blocks_before_last, last_block, chained}

-- CMAC of a text, from a value on
unfoldable pub cmac_from : (List ℕ → List ℕ) → List ℕ → List ℕ → List ℕ
cmac_from image x text =
    let n : ℕ = blocks_before_last text in
    image (xor_bytes (chained image x text n) (last_block image (drop (16 * n) text)))
