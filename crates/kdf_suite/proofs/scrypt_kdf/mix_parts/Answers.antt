use Rattle.std.proofs.Common.{◌≡◌, ℕ, ◌+◌, ◌*◌, ◌-◌, ◌<◌, ◌≤◌, ◌∙◌, ◌++◌, add-one, ap, ap₂, arith, take, drop}
use Rattle.std.proofs.Math.Nat.{mul-le-mul_left}
use Rattle.std.proofs.lemmas.List.{take_at}
use Rattle.kdf_suite.specs.Blocks.{joined}
use Rattle.kdf_suite.specs.RoMix.{ro_mix}
use Rattle.kdf_suite.specs.Scrypt.{bytes_of, words_of}
use Rattle.kdf_suite.proofs.scrypt_kdf.mix_parts.Goals as goal

-- one of p parts ends within them
part_within : (size i p : ℕ) → i < p → size * i + size ≤ size * p
part_within size i p few =
    let next : i + 1 ≤ p = omega (arith, few) in omega (arith, mul-le-mul_left size next)

pub overflow_mul-start : goal.overflow_mul-start
overflow_mul-start c = omega (arith, part_within (128 * c.args.r) c.parts.i c.args.p c.parts-test.true)

pub overflow_mul-start-in-parts : goal.overflow_mul-start-in-parts
overflow_mul-start-in-parts c = omega (arith, part_within (128 * c.args.r) c.parts.i c.args.p c.parts-test.true)

pub overflow_add-start : goal.overflow_add-start
overflow_add-start c = omega (arith, part_within (128 * c.args.r) c.parts.i c.args.p c.parts-test.true)

pub slice_bounds-words_of-end : goal.slice_bounds-words_of-end
slice_bounds-words_of-end c = omega (arith, part_within (128 * c.args.r) c.parts.i c.args.p c.parts-test.true)

pub parts-init : goal.parts-init
unfolding joined
parts-init c = c.in_ok-mixed.ensures.items

pub parts-preserved : goal.parts-preserved
unfolding joined
parts-preserved c =
    let whole = c.deref.ensures.value ∙ take_at _ _ _ (omega (arith, c.ro_mix.auto.x, c.deref_mut.ensures.len)) in
    let size : 128 * c.args.r * c.parts.i + 128 * c.args.r - 128 * c.args.r * c.parts.i ≡ 128 * c.args.r = omega arith in
    let part = ap (λ n. take n (drop (128 * c.args.r * c.parts.i) c.args.parts.now)) size in
    let words = c.deref_mut.ensures.value ∙ c.in_ok-words.ensures.words ∙ ap (words_of (32 * c.args.r)) part in
    let mixed = whole ∙ c.in_ok-ro_mix.ensures ∙ ap (ro_mix c.args.n c.args.r) words in
    rw add-one (c.in_ok-append_bytes.ensures ∙ ap₂ ◌++◌ c.parts.invariant (ap bytes_of mixed))
