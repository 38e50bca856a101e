use Rattle.std.proofs.Common.{◌≡◌, ℕ, ◌-◌, ◌*◌, ◌/◌, ◌%◌, ◌<◌, ◌≤◌, length, take, drop, bit_xor, ap, sym, ◌∙◌, arith}
use Rattle.gcm_mode.specs.Field.{product}
use Rattle.gcm_mode.specs.Hash.{block_number}
use Rattle.gcm_mode.proofs.Hashes.{ghash_from-one, ghash_from-part}
use Rattle.gcm_mode.proofs.Lanes.{IsBlock-sum, block_number-sum}
use Rattle.gcm_mode.proofs.hash.hash_to_end.Goals as goal

pub times-requires : goal.times-requires
times-requires c = IsBlock-sum c.hash_on-next.result c.args.last c.hash_on-next.ensures.block c.requires.last

pub returns-then-odd-eq0-clause-steps : goal.returns-then-odd-eq0-clause-steps
returns-then-odd-eq0-clause-steps c =
    c.times.ensures.product
    ∙ ap (λ (x : ℕ). product x c.args.powers.now)
    (block_number-sum c.hash_on-next.result c.args.last c.hash_on-next.ensures.block c.requires.last
    ∙ ap (λ (x : ℕ). bit_xor x (block_number c.args.last)) c.hash_on-next.ensures.steps)

pub returns-clause-steps : goal.returns-clause-steps
returns-clause-steps c =
    let size : ℕ = length c.args.bytes.now in
    let n : ℕ = 2 * (size / 32) in
    let cut : size - size % 32 ≡ 16 * n = omega arith in
    let some : 0 < length c.split_at.result.1.now = omega (arith, c.split_at.ensures.back_len) in
    let few : length c.split_at.result.1.now ≤ 16 = omega (arith, c.split_at.ensures.back_len) in
    let h : ℕ = c.args.powers.now in
    let next : ℕ = block_number c.hash_on-next-2.result in
    c.two_steps.ensures.steps
    ∙ ap (λ (x : ℕ). product (bit_xor x (block_number c.args.last)) h)
    (sym (ghash_from-one h next (block_number c.block_of.result) c.split_at.result.1.now some few c.block_of.ensures.number)
    ∙ ghash_from-part h (block_number c.args.hash) next c.args.bytes.now c.split_at.result.0.now c.split_at.result.1.now n (omega arith)
    (c.split_at.ensures.front ∙ ap (λ (k : ℕ). take k c.args.bytes.now) cut) (c.split_at.ensures.back ∙ ap (λ (k : ℕ). drop k c.args.bytes.now) cut)
    c.hash_on-next-2.ensures.steps)
