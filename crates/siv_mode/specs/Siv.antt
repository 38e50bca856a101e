-- SIV: RFC 5297, section 2.6, over two block ciphers that are given as the images of a block.
use Rattle.std.specs.Prelude.{◌≡◌, ℕ, ◌-◌, ◌^◌, List, ◌++◌, bit_and, length}
use Rattle.std.specs.Int.{w128, from_be_bytes, to_be_bytes}
use Rattle.aes_lanes.specs.Bytes.{IsBlock}
use Rattle.aes_lanes.specs.Counter.{ctr128}
use Rattle.siv_mode.specs.S2v.{s2v}

-- the images of a block cipher have sixteen bytes, and those of blocks are blocks
pub record AreImages (image : List ℕ → List ℕ) : Type 0 where
  pub sixteen : (block : List ℕ) → length (image block) ≡ 16
  pub block : (block : List ℕ) → IsBlock block → IsBlock (image block)

-- the counter block Q of a vector V: V without bits 31 and 63, counted from its end
unfoldable pub first_counter : List ℕ → List ℕ
first_counter v = to_be_bytes w128 (bit_and (from_be_bytes w128 v) (2 ^ 128 - 1 - 2 ^ 63 - 2 ^ 31))

-- SIV-ENCRYPT with the images of the key of S2V and of the key of counter mode: the vector V, then the
-- plain text, encrypted from Q on
unfoldable pub siv_encrypt : (List ℕ → List ℕ) → (List ℕ → List ℕ) → List (List ℕ) → List ℕ → List ℕ
siv_encrypt mac ctr strings plain =
    let v : List ℕ = s2v mac strings plain in
    v ++ ctr128 ctr (first_counter v) plain

-- the plain text is one that seals to these bytes
abbrev pub Opens : (List ℕ → List ℕ) → (List ℕ → List ℕ) → List (List ℕ) → List ℕ → List ℕ → Type 0
Opens mac ctr strings bytes plain = siv_encrypt mac ctr strings plain ≡ bytes

-- no plain text seals to these bytes
abbrev pub OpensToNothing : (List ℕ → List ℕ) → (List ℕ → List ℕ) → List (List ℕ) → List ℕ → Type 0
OpensToNothing mac ctr strings bytes = (plain : List ℕ) → ¬ Opens mac ctr strings bytes plain

-- bytes open to one plain text at most
abbrev pub OpensToOneText : (List ℕ → List ℕ) → (List ℕ → List ℕ) → Type 0
OpensToOneText mac ctr =
    (strings : List (List ℕ)) (bytes plain other : List ℕ)
    → Opens mac ctr strings bytes plain
    → Opens mac ctr strings bytes other
    → plain ≡ other
