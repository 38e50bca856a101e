use Rattle.std.proofs.Common.{◌≡◌, ◌∙◌, ◌*◌, ◌-◌, ◌%◌, ap, arith, slice_index, sym}
use Rattle.std.proofs.lemmas.Nat.{mod_below}
use Rattle.kdf_suite.specs.Diagonals.{in_order, place}
use Rattle.kdf_suite.proofs.Integerify.{integerify-mod, power-positive}
use Rattle.kdf_suite.proofs.Spread.{get_or-spread, length-spread}
use Rattle.kdf_suite.proofs.ro_mix.place_in_table.Goals as goal

pub returns-clause-place : goal.returns-clause-place
returns-clause-place c =
    let first : place 13 (32 * c.args.r - 16) ≡ 32 * c.args.r - 16 = omega (arith, c.requires.low) in
    let word = get_or-spread 13 (32 * c.args.r) c.args.x.now (32 * c.args.r - 16) (omega (arith, c.requires.low)) ∙ ap (slice_index c.args.x.now) first in
    sym (ap (λ w. w % c.args.n) word)
    ∙ integerify-mod c.args.n c.args.r (in_order (32 * c.args.r) c.args.x.now) c.requires.low (length-spread 13 (32 * c.args.r) c.args.x.now) c.requires.power c.requires.high

pub returns-clause-within : goal.returns-clause-within
returns-clause-within c = mod_below _ _ (power-positive c.args.n c.requires.power)
