use Rattle.std.proofs.Common.{◌≡◌, ◌∙◌, ◌*◌, ap, arith, length}
use Rattle.kdf_suite.specs.Diagonals.{in_order, spread}
use Rattle.kdf_suite.specs.RoMix.{ro_mix}
use Rattle.kdf_suite.proofs.Spread.{spread-back}
use Rattle.kdf_suite.proofs.ro_mix.ro_mix.Goals as goal

pub returns : goal.returns
returns c =
    let back = ap (in_order (32 * c.args.r)) (c.spread.ensures ∙ ap (λ n. spread 5 n c.args.x.now) c.requires.x) ∙ spread-back (32 * c.args.r) c.args.x.now (omega arith) c.requires.x in
    let mixed = c.mix_with_table.ensures (in_order (32 * c.args.r) c.spread.new.out) (rw c.deref.ensures.value c.in_ok-table.ensures.table) c.in_ok-table.ensures.mixed in
    let long : length c.mix_with_table.new.x ≡ 32 * c.args.r = omega (arith, c.as_mut_slice-mixed.ensures.len, c.in_ok-words.ensures.len) in
    c.spread-2.ensures ∙ ap (λ n. spread 13 n c.mix_with_table.new.x) long ∙ mixed ∙ ap (ro_mix c.args.n c.args.r) back
