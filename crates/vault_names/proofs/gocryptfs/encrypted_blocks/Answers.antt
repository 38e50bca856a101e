use Rattle.std.proofs.Common.{◌≡◌, Ok, Err, List, ℕ, length, arith, refl, sym, ap, subst, ◌∙◌}
use Rattle.base64.specs.Engines.{url_safe_no_pad}
use Rattle.base64.specs.GeneralPurpose.{decode_of}
use Rattle.vault_names.specs.Blocks.{AreBlocksOf}
use Rattle.vault_names.specs.Gocryptfs.{blocks_of}
use Rattle.vault_names.proofs.Texts.{IsSizeOfBlocks-decoded, AreBlocksOf-decoded, decoded_blocks}
use Rattle.vault_names.proofs.gocryptfs.encrypted_blocks.Goals as goal

pub returns-in-Err-DecodeError : goal.returns-in-Err-DecodeError
returns-in-Err-DecodeError c = λ blocks are.
    let failed : decode_of url_safe_no_pad c.args.text.now ≡ Err c.in-Err-DecodeError.field-0-0 =
    ap (decode_of url_safe_no_pad) (sym c.as_bytes.ensures.value) ∙ rw c.in-Err-DecodeError.field-0-is at c.in-Err-DecodeError.ensures.err in
    let decoded : Err c.in-Err-DecodeError.field-0-0 ≡ Ok _ = sym failed ∙ decoded_blocks c.args.text.now blocks are in cc

pub returns-then-not-is_size_of_blocks : goal.returns-then-not-is_size_of_blocks
returns-then-not-is_size_of_blocks c = λ blocks are.
    let decoded : decode_of url_safe_no_pad c.args.text.now ≡ Ok c.in-Ok.bytes.items =
    ap (decode_of url_safe_no_pad) (sym c.as_bytes.ensures.value) ∙ c.in-Ok.ensures.ok in
    let size = IsSizeOfBlocks-decoded c.args.text.now c.in-Ok.bytes.items blocks are decoded in
    let len : length c.in-Ok.bytes.items ≡ c.len.result = omega (arith, c.len.ensures) in
    let told = c.if-not-is_size_of_blocks.ensures.1 (rw len at size) in
    cc

pub returns : goal.returns
returns c =
    let bytes : List ℕ = c.in-Ok.bytes.items in
    let len : c.len.result ≡ length bytes = omega (arith, c.len.ensures) in
    let size = rw len at (c.if-not-is_size_of_blocks.ensures.0 refl) in
    let are = AreBlocksOf-decoded c.args.text.now bytes size c.in-Ok.ensures.bytes (sym c.as_bytes.ensures.value ∙ c.in-Ok.ensures.exact (refl, refl)) in
    let copied = c.in_ok-from_slice.ensures.items ∙ c.as_chunks.ensures.front ∙ ap blocks_of c.as_slice.ensures.value in
    subst (AreBlocksOf c.args.text.now) (sym copied) are
