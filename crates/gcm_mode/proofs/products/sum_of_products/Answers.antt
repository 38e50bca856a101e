use Rattle.std.proofs.Common.{◌≡◌, ℕ, ◌-◌, ◌*◌, ◌/◌, ◌%◌, ◌^◌, ◌+◌, ◌<◌, ◌≤◌, bit_xor, sym, ap, ap₂, ◌∙◌, arith, lit<}
use lib.Bits.{xor_zero_l}
use Rattle.gcm_mode.specs.Field.{times_power}
use Rattle.gcm_mode.specs.Pairs.{lane}
use Rattle.gcm_mode.specs.Products.{bytes_sum}
use Rattle.gcm_mode.proofs.FieldSums.{gathered, gathered-first, gathered-more, gathered-next, times_power-folded, zeros_left}
use Rattle.gcm_mode.proofs.Lanes.{IsPair-splat, IsPair-sum, lane-lt, lane-none, lane-one_on, lane-sum}
use Rattle.gcm_mode.proofs.ProductSums.{gathered-products}
use Rattle.gcm_mode.proofs.products.sum_of_products.Goals as goal

pub one_on-moved-requires-clause-before : goal.one_on-moved-requires-clause-before
one_on-moved-requires-clause-before c = IsPair-splat 0 (lit< tt)

pub loop-done-init : goal.loop-done-init
loop-done-init c =
    let low = c.sum_of_bytes-low in (
      low.ensures.pair,
      IsPair-splat 0 (lit< tt),
      λ k two. gathered-first (λ b. bytes_sum b k c.args.pairs.now c.args.blocks.now) (lane k low.result) _ (low.ensures.lanes k two) (lane-none k two),
      λ k two. ap (λ (n : ℕ). n % 2 ^ 128) (lane-none k two),
    )

pub loop-done-preserved : goal.loop-done-preserved
loop-done-preserved c =
    let low = c.loop-done.low in
    let high = c.loop-done.high in
    let s = c.loop-done.done in
    let pair_low = c.loop-done.invariant.0 in
    let pair_high = c.loop-done.invariant.1 in
    let more = c.sum_of_bytes-more in
    let moved = c.one_on-moved in
    let carried = c.one_on-carried in
    let none = IsPair-splat 0 (lit< tt) in
    let left : 14 - s ≤ 15 = omega arith in
    let place : 15 - s ≡ 14 - s + 1 = omega arith in
    let next : 15 - (s + 1) ≡ 14 - s = omega arith in
    let zeros : (k : ℕ) → k < 2 → (lane k high % 2 ^ 8 ≡ 0) × (bit_xor (lane k low % 2 ^ 8 * 2 ^ 120) (lane k high / 2 ^ 8) % 2 ^ (8 * (15 - s)) ≡ 0) =
    λ k two. zeros_left (lane k low) (lane k high) (15 - s) (omega arith) (c.loop-done.invariant.3 k two) in
    let moved_is : (k : ℕ) → k < 2 → lane k moved.result ≡ lane k low / 2 ^ 8 =
    λ k two. lane-one_on k _ low moved.result two none pair_low moved.ensures.first moved.ensures.others ∙ ap (λ (n : ℕ). bit_xor (n % 2 ^ 8 * 2 ^ 120) (lane k low / 2 ^ 8)) (lane-none k two) ∙ xor_zero_l (lane k low / 2 ^ 8) in
    let carried_is : (k : ℕ) → k < 2 → lane k carried.result ≡ bit_xor (lane k low % 2 ^ 8 * 2 ^ 120) (lane k high / 2 ^ 8) =
    λ k two. lane-one_on k low high carried.result two pair_low pair_high carried.ensures.first carried.ensures.others in (
      IsPair-sum moved.result more.result moved.ensures.pair more.ensures.pair,
      carried.ensures.pair,
      λ k two.
          ap₂ (λ (a b : ℕ). bit_xor a (times_power 128 b))
          (lane-sum k moved.result more.result two moved.ensures.pair more.ensures.pair ∙ ap₂ bit_xor (moved_is k two) (more.ensures.lanes k two))
          (carried_is k two)
          ∙ gathered-more (lane k low) (lane k high) (bytes_sum (14 - s) k c.args.pairs.now c.args.blocks.now) (lane-lt k low pair_low) (zeros k two).0
          ∙ ap (λ (n : ℕ). bit_xor (times_power 8 n) (bytes_sum (14 - s) k c.args.pairs.now c.args.blocks.now)) (c.loop-done.invariant.2 k two)
          ∙ gathered-next (λ b. bytes_sum b k c.args.pairs.now c.args.blocks.now) s,
      λ k two.
          let all : 8 * (15 - (s + 1)) + 8 ≡ 8 * (15 - s) = omega arith in
          ap₂ (λ (n j : ℕ). n % 2 ^ j) (carried_is k two) all ∙ (zeros k two).1,
    )

pub returns : goal.returns
returns c =
    let low = c.loop-done.low in
    let high = c.loop-done.high in
    let s = c.loop-done.done in
    let folded = c.times_u128-folded in
    let last : s ≡ 15 = omega arith in
    let pair_low = c.loop-done.invariant.0 in
    let pair_high = c.loop-done.invariant.1 in
    record {
      pair = IsPair-sum low folded.result pair_low folded.ensures.pair;
      lanes = λ l two.
          let zeros : lane l high % 2 ^ 8 ≡ 0 = ap (λ (n : ℕ). lane l high % 2 ^ (8 * (15 - n) + 8)) (sym last) ∙ c.loop-done.invariant.3 l two in
          lane-sum l low folded.result two pair_low folded.ensures.pair
          ∙ ap (bit_xor (lane l low)) (folded.ensures.lanes l two ∙ sym (times_power-folded (lane l high) (lane-lt l high pair_high) zeros))
          ∙ c.loop-done.invariant.2 l two
          ∙ ap (gathered (λ b. bytes_sum b l c.args.pairs.now c.args.blocks.now)) last
          ∙ gathered-products l c.args.pairs.now c.args.blocks.now c.requires.rows;
    }
