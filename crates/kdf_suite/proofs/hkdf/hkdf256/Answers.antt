use Rattle.std.proofs.Common.{◌≡◌, ◌*◌, ◌≤◌, suc, length, ◌∙◌, add-one, refl, rules, arith}
use Rattle.std.proofs.lemmas.List.{take_all}
use Rattle.kdf_suite.specs.Hkdf.{hkdf_block, hkdf_sha256}
use Rattle.kdf_suite.proofs.FirstBlocks.{IsFilled-all, IsFilled-more, IsFilled-none, begins-within}
use Rattle.kdf_suite.proofs.hkdf.hkdf256.Goals as goal

pub numbered-init : goal.numbered-init
unfolding hkdf_block
numbered-init c = record { filled = IsFilled-none _ _; last = refl; short = omega arith }

pub numbered-preserved : goal.numbered-preserved
unfolding hkdf_block
numbered-preserved c =
    let within : 32 * c.numbered.index ≤ length c.numbered.out =
    omega (arith, begins-within (length c.args.out.now) c.numbered.index _ c.div_ceil-count.ensures c.numbered-test.true) in
    let size : length c.next_block-next.result ≡ 32 = search rules in
    let next : c.next_block-next.result ≡ hkdf_block c.hmac256-key.result c.args.info.now (suc c.numbered.index) =
    rw (← c.numbered.invariant.last, ← add-one) c.next_block-next.ensures in
    record {
      filled = rw c.write_front.ensures (IsFilled-more _ c.numbered.out _ c.numbered.index within size next c.numbered.invariant.filled);
      last = take_all 32 c.next_block-next.result (omega (arith, size)) ∙ next ∙ rw add-one;
      short = omega arith;
    }

pub returns : goal.returns
unfolding hkdf_sha256
returns c =
    rw (← c.hmac256-key.ensures)
    (IsFilled-all _ _ _ _ _ c.numbered.auto.out c.div_ceil-count.ensures c.numbered-test.false c.numbered.auto.index-end c.numbered.invariant.filled)
