-- A sealed text is of bytes, and its tag is a block.
use Rattle.std.proofs.Common.{◌≡◌, ℕ, zero, suc, ◌+◌, ◌*◌, true, false, cond, nat_eq, eqb-true, List, [], ◌∷◌, ◌++◌, length, length-append, refl, ap, ◌∙◌, lit<}
use Rattle.aes_lanes.specs.Bytes.{AreBytes, IsBlock}
use Rattle.aes_lanes.specs.Cipher.{aes256}
use Rattle.aes_lanes.specs.Counter.{ctr32, increment32}
use Rattle.aes_lanes.proofs.Bytes.{bytes-append, bytes-high_first, length-high_first}
use Rattle.aes_lanes.specs.Laws.Cipher.{aes-undone, length-aes}
use Rattle.gcm_mode.specs.Hash.{block_bytes, ghash, blocks_of}
use Rattle.gcm_mode.specs.Gcm.{pre_counter, hash_subkey, encrypted, tag_of}

IsBlock-block_bytes : (n : ℕ) → IsBlock (block_bytes n)
unfolding block_bytes
IsBlock-block_bytes n = record { sixteen = length-high_first 16 n; bytes = bytes-high_first 16 n }

IsBlock-short_counter : (iv : List ℕ) → AreBytes iv → length iv ≡ 12 → IsBlock (iv ++ 0 ∷ 0 ∷ 0 ∷ 1 ∷ [])
IsBlock-short_counter iv bytes twelve = record {
  sixteen = length-append iv (0 ∷ 0 ∷ 0 ∷ 1 ∷ []) ∙ ap (λ n. n + 4) twelve;
  bytes = bytes-append iv (0 ∷ 0 ∷ 0 ∷ 1 ∷ []) bytes one;
}
  where
    one : AreBytes (0 ∷ 0 ∷ 0 ∷ 1 ∷ [])
    one zero = lit< tt
    one (suc zero) = lit< tt
    one (suc (suc zero)) = lit< tt
    one (suc (suc (suc zero))) = lit< tt
    one (suc (suc (suc (suc k)))) = lit< tt

IsBlock-pre_counter : (key iv : List ℕ) → AreBytes iv → IsBlock (pre_counter (aes256 key) iv)
unfolding pre_counter
IsBlock-pre_counter key iv bytes =
    let hash : ℕ = ghash (hash_subkey (aes256 key)) (blocks_of iv ++ 8 * length iv ∷ []) in
    elim (nat_eq (length iv) 12) as (λ t. nat_eq (length iv) 12 ≡ t → IsBlock (cond t (iv ++ 0 ∷ 0 ∷ 0 ∷ 1 ∷ []) (block_bytes hash))) [
      | true ↦ λ e. IsBlock-short_counter iv bytes (eqb-true (length iv) 12 e)
      | false ↦ λ e. IsBlock-block_bytes hash
    ] refl

-- what the law says of counter mode: counter blocks after a block are blocks, and a text of bytes stays one of bytes
pub record KeepsBytes : Type 0 where
  pub counter : (block : List ℕ) → IsBlock block → IsBlock (increment32 block)
  pub text : (image : List ℕ → List ℕ) → ((block : List ℕ) → length (image block) ≡ 16)
      → ((block : List ℕ) → IsBlock block → IsBlock (image block))
      → (start text : List ℕ) → IsBlock start → AreBytes text → AreBytes (ctr32 image start text)

pub bytes-encrypted : KeepsBytes → (key iv text : List ℕ) → AreBytes iv → AreBytes text → AreBytes (encrypted (aes256 key) iv text)
unfolding encrypted
bytes-encrypted law key iv text iv_bytes bytes =
    law.text (aes256 key) (length-aes 8 key) (aes-undone 8 key).block _ text (law.counter _ (IsBlock-pre_counter key iv iv_bytes)) bytes

pub bytes-tag_of : KeepsBytes → (key iv ad text : List ℕ) → AreBytes iv → AreBytes (tag_of (aes256 key) iv ad text)
unfolding tag_of
bytes-tag_of law key iv ad text iv_bytes =
    law.text (aes256 key) (length-aes 8 key) (aes-undone 8 key).block _ _ (IsBlock-pre_counter key iv iv_bytes) (IsBlock-block_bytes _).bytes
