-- The blocks behind a text.
use Rattle.std.proofs.Common.{◌≡◌, ℕ, ◌*◌, ◌/◌, List, length, Ok, refl, sym, ap, ◌∙◌, arith}
use Rattle.base64.specs.Engines.{url_safe_no_pad}
use Rattle.base64.specs.GeneralPurpose.{IsBytes, decode_of}
use Rattle.base64.proofs.EngineFacts.{decode_of-encode_of}
use Rattle.vault_names.specs.Blocks.{AreBlocksOf, IsSizeOfBlocks}
use Rattle.vault_names.specs.Gocryptfs.{base64url, blocks_of, bytes_of}
use Rattle.vault_names.proofs.Blocks.{IsBytes-bytes_of, length-bytes_of, length-first_chunks, bytes_of-blocks_of, IsBlock-blocks_of}

-- a text decodes to what it is the base64url of
decode_of-base64url : (bytes : List ℕ) → IsBytes bytes → decode_of url_safe_no_pad (base64url bytes) ≡ Ok bytes
decode_of-base64url bytes are = decode_of-encode_of url_safe_no_pad bytes refl are

pub decoded_blocks : (text : List ℕ) (blocks : List (List ℕ)) → AreBlocksOf text blocks → decode_of url_safe_no_pad text ≡ Ok (bytes_of blocks)
decoded_blocks text blocks are =
    ap (decode_of url_safe_no_pad) are.encoded ∙ decode_of-base64url (bytes_of blocks) (IsBytes-bytes_of blocks are.each)

-- what a text of blocks decodes to
pub decoded-is : (text bytes : List ℕ) (blocks : List (List ℕ)) → AreBlocksOf text blocks → decode_of url_safe_no_pad text ≡ Ok bytes → bytes ≡ bytes_of blocks
decoded-is text bytes blocks are decoded =
    let same : Ok bytes ≡ Ok (bytes_of blocks) = sym decoded ∙ decoded_blocks text blocks are in
    cc

pub IsSizeOfBlocks-decoded : (text bytes : List ℕ) (blocks : List (List ℕ)) → AreBlocksOf text blocks → decode_of url_safe_no_pad text ≡ Ok bytes → IsSizeOfBlocks (length bytes)
IsSizeOfBlocks-decoded text bytes blocks are decoded =
    let size : length bytes ≡ 16 * length blocks = ap length (decoded-is text bytes blocks are decoded) ∙ length-bytes_of blocks are.each in
    let some = are.some in
    let most = are.most in
    record { some = omega arith; most = omega arith; whole = omega arith }

-- the blocks of bytes that a text is the base64url of
pub AreBlocksOf-decoded : (text bytes : List ℕ) → IsSizeOfBlocks (length bytes) → IsBytes bytes → text ≡ base64url bytes → AreBlocksOf text (blocks_of bytes)
AreBlocksOf-decoded text bytes size are encoded =
    let some = size.some in
    let most = size.most in
    let whole = size.whole in
    record {
      some = rw (length-first_chunks 16 (length bytes / 16) bytes) (omega arith);
      most = rw (length-first_chunks 16 (length bytes / 16) bytes) (omega arith);
      each = IsBlock-blocks_of bytes whole are;
      encoded = encoded ∙ ap base64url (sym (bytes_of-blocks_of bytes whole));
    }
