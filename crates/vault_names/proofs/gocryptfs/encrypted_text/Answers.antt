use Rattle.std.proofs.Common.{◌≡◌, ◌/◌, length, ap, ◌∙◌}
use Rattle.vault_names.specs.Gocryptfs.{padded_bytes}
use Rattle.vault_names.proofs.Encryption.{some_blocks, few_blocks}
use Rattle.vault_names.proofs.gocryptfs.encrypted_text.Goals as goal

count : (c : goal.After-as_mut_slice) → length c.as_mut_slice.result.now ≡ length c.in_ok-whole.whole.items / 16
count c =
    ap length (c.as_mut_slice.ensures.value ∙ c.in_ok-blocks.ensures.items) ∙ c.as_chunks.ensures.front_len
    ∙ ap (λ xs. length xs / 16) c.as_slice.ensures.value

pub encrypt-requires-clause-some : goal.encrypt-requires-clause-some
encrypt-requires-clause-some c =
    let same : c.in_ok-whole.whole.items ≡ padded_bytes c.args.name.now = c.in_ok-whole.ensures ∙ ap padded_bytes c.bytes.ensures.value in
    rw (count c) (some_blocks c.args.name.now _ same)

pub encrypt-requires-clause-most : goal.encrypt-requires-clause-most
encrypt-requires-clause-most c =
    let same : c.in_ok-whole.whole.items ≡ padded_bytes c.args.name.now = c.in_ok-whole.ensures ∙ ap padded_bytes c.bytes.ensures.value in
    rw (count c) (few_blocks c.args.name.now _ c.bytes.ensures.named same)
