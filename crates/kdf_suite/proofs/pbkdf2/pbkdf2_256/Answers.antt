use Rattle.std.proofs.Common.{◌*◌, ◌≤◌, length, ◌∙◌, add-one, rules, arith}
use Rattle.kdf_suite.specs.Pbkdf2.{pbkdf2_sha256}
use Rattle.kdf_suite.proofs.FirstBlocks.{IsFilled-all, IsFilled-more, IsFilled-none, begins-within}
use Rattle.kdf_suite.proofs.pbkdf2.pbkdf2_256.Goals as goal

pub numbered-init : goal.numbered-init
numbered-init c = IsFilled-none _ _

pub numbered-preserved : goal.numbered-preserved
numbered-preserved c =
    let within : 32 * c.numbered.index ≤ length c.numbered.out =
    omega (arith, begins-within (length c.args.out.now) c.numbered.index _ c.div_ceil-count.ensures c.numbered-test.true) in
    rw c.write_front.ensures
    (IsFilled-more _ c.numbered.out _ c.numbered.index within (search rules) (c.derived_block-block.ensures ∙ rw add-one) c.numbered.invariant)

pub returns : goal.returns
unfolding pbkdf2_sha256
returns c = IsFilled-all _ _ _ _ _ c.numbered.auto.out c.div_ceil-count.ensures c.numbered-test.false c.numbered.auto.index-end c.numbered.invariant
