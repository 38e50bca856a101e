-- What a block cipher is under a key: a function on blocks, and the function back.
use Rattle.std.specs.Prelude.{◌≡◌, ℕ, List}
use Rattle.aes_lanes.specs.Bytes.{IsBlock}

-- each of two functions takes blocks to blocks, and undoes the other on blocks
pub record AreInverse (image preimage : List ℕ → List ℕ) : Type 0 where
  pub block : (b : List ℕ) → IsBlock b → IsBlock (image b)
  pub block_back : (b : List ℕ) → IsBlock b → IsBlock (preimage b)
  pub back : (b : List ℕ) → IsBlock b → preimage (image b) ≡ b
  pub forth : (b : List ℕ) → IsBlock b → image (preimage b) ≡ b
