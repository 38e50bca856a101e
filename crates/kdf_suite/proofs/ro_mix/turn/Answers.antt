use Rattle.std.proofs.Common.{◌∙◌, ◌*◌, add-one, ap, arith, bit_xor, refl, sym}
use Rattle.std.specs.Simd.Lanes.{zip2}
use Rattle.kdf_suite.specs.Diagonals.{in_order}
use Rattle.kdf_suite.specs.RoMix.{block_mix, integerify, mixed_turns}
use Rattle.kdf_suite.proofs.Spread.{spread-xor}
use Rattle.kdf_suite.proofs.Tables.{length-row, row_at}
use Rattle.kdf_suite.proofs.ro_mix.turn.Goals as goal

pub returns : goal.returns
unfolding mixed_turns
returns c = λ first i table now.
    let row_long = length-row c.args.r first c.args.n c.place_in_table.result _ _ c.args.table.now table c.place_in_table.ensures.within (omega arith) refl in
    let row = row_at c.args.r first c.args.n c.place_in_table.result (integerify c.args.r (in_order (32 * c.args.r) c.args.x.now)) _ _ c.args.table.now table c.place_in_table.ensures.place c.place_in_table.ensures.within (omega arith) refl in
    rw (add-one, ← now)
    (c.block_mix.ensures
    ∙ ap (block_mix c.args.r) (ap (in_order (32 * c.args.r)) c.xor_words.ensures
    ∙ spread-xor 13 (32 * c.args.r) c.args.x.now _ (c.requires.x ∙ sym row_long)
    ∙ ap (zip2 bit_xor (in_order (32 * c.args.r) c.args.x.now)) row))
