use Rattle.std.proofs.Common.{◌≡◌, ◌*◌, ◌∙◌, ap, arith, length}
use Rattle.std.proofs.lemmas.List.{take_at}
use Rattle.kdf_suite.specs.Blocks.{joined}
use Rattle.kdf_suite.specs.Pbkdf2.{pbkdf2_sha256}
use Rattle.kdf_suite.specs.Scrypt.{mixed_part, scrypt_key}
use Rattle.kdf_suite.proofs.scrypt_kdf.scrypt.Goals as goal

pub returns-clause-key : goal.returns-clause-key
unfolding scrypt_key
returns-clause-key c =
    let size : length c.deref_mut.result.now ≡ 128 * c.r-r.result * c.p-p.result = c.deref_mut.ensures.len ∙ c.in_ok-parts.ensures.len in
    let parts = c.deref.ensures.value
    ∙ take_at _ _ _ (omega (arith, c.pbkdf2_256.auto.out, c.deref_mut.ensures.len))
    ∙ c.pbkdf2_256.ensures
    ∙ ap (pbkdf2_sha256 c.args.pass.now c.args.salt.now 1) size in
    let mixed = c.deref-2.ensures.value ∙ c.in_ok-mixed.ensures
    ∙ ap (λ b. joined (mixed_part c.n-n.result c.r-r.result b) c.p-p.result) parts in
    rw (← c.n-n.ensures.number, ← c.r-r.ensures.number, ← c.p-p.ensures.number)
    (c.pbkdf2_256-2.ensures ∙ ap (λ salt. pbkdf2_sha256 c.args.pass.now salt 1 (length c.args.out.now)) mixed)
