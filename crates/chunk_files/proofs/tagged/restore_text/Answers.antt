use Rattle.std.proofs.Common.{◌≡◌, ◌∙◌, ◌+◌, ◌-◌, ℕ, List, drop, take, length, sym, ap, ap₂, arith}
use Rattle.std.proofs.lemmas.List.{drop-take}
use Rattle.aes_lanes.specs.Cipher.{aes256}
use Rattle.aes_lanes.specs.Counter.{ctr128}
use Rattle.chunk_files.specs.Tagged.{before_tag, restored_text}
use Rattle.chunk_files.proofs.tagged.restore_text.Goals as goal

pub returns : goal.returns
unfolding restored_text
returns c =
    let stored : List ℕ = c.args.stored.now in
    let rest : ℕ = length stored - 32 - 16 in
    let sum : 16 + rest ≡ length stored - 32 = omega (arith, c.requires.least) in
    let text : take rest (drop 16 stored) ≡ drop 16 (before_tag stored) = sym (drop-take 16 rest stored) ∙ ap (λ (m : ℕ). drop 16 (take m stored)) sum in
    c.ctr128_xor.ensures ∙ ap₂ (ctr128 (aes256 c.args.key.now)) c.copy_from_slice.ensures.after (c.copy_from_slice-2.ensures.after ∙ text)
