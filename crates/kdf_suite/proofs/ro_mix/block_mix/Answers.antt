use Rattle.std.proofs.Common.{◌∙◌, ◌+◌, ◌*◌, ◌-◌, ap, arith, bit_xor, length}
use Rattle.std.specs.Simd.Lanes.{zip2}
use Rattle.kdf_suite.specs.Diagonals.{in_order, words_of}
use Rattle.kdf_suite.specs.Salsa.{salsa20_8}
use Rattle.kdf_suite.proofs.Mixed.{IsMixed-all, IsMixed-more, IsMixed-none}
use Rattle.kdf_suite.proofs.Spread.{in_order-block}
use Rattle.kdf_suite.proofs.ro_mix.block_mix.Goals as goal

pub pairs-init : goal.pairs-init
pairs-init c = record {
  whole = c.diagonals_at-x.ensures.whole;
  mixed = IsMixed-none _ _ _ _ (c.diagonals_at-x.ensures.words
      ∙ in_order-block (32 * c.args.r) c.args.input.now (2 * c.args.r - 1) (length c.args.input.now - (32 * c.args.r - 16)) (32 * c.args.r - 16) (omega (arith, c.requires.low, c.requires.input)) (omega (arith, c.requires.low)) (omega (arith, c.requires.low)));
}

pub pairs-preserved : goal.pairs-preserved
pairs-preserved c =
    let even = c.mix_block-first.ensures.mixed
    ∙ ap (λ block. salsa20_8 (zip2 bit_xor (words_of c.pairs.x) block)) (in_order-block (32 * c.args.r) c.args.input.now (2 * c.pairs.i) _ _ (omega arith) (omega arith) (omega arith)) in
    let odd = c.mix_block-second.ensures.mixed
    ∙ ap (λ block. salsa20_8 (zip2 bit_xor (words_of c.mix_block-first.result) block)) (in_order-block (32 * c.args.r) c.args.input.now (2 * c.pairs.i + 1) _ _ (omega arith) (omega arith) (omega arith)) in
    record {
      whole = c.mix_block-second.ensures.whole;
      mixed = IsMixed-more c.args.r (in_order (32 * c.args.r) c.args.input.now) c.pairs.i (words_of c.pairs.x) (words_of c.mix_block-first.result) (words_of c.mix_block-second.result) c.pairs.output c.mix_block-first.new.output c.mix_block-second.new.output c.pairs-test.true even odd c.mix_block-first.ensures.written c.mix_block-first.ensures.others c.mix_block-second.ensures.written c.mix_block-second.ensures.others c.pairs.invariant.mixed;
    }

pub returns : goal.returns
returns c = IsMixed-all _ _ _ _ _ (omega arith) c.pairs.invariant.mixed
