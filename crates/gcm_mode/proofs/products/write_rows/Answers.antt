use Rattle.std.proofs.Common.{ℕ, ◌*◌, ◌^◌, ◌<◌, length, length-set, sym, ap, ◌∙◌, arith}
use Rattle.gcm_mode.specs.Field.{product, times_u}
use Rattle.gcm_mode.specs.Pairs.{byte_of, lane, nibble_sum}
use Rattle.gcm_mode.specs.declared.vectors.Row.{Row}
use Rattle.gcm_mode.proofs.Lanes.{lane-lt}
use Rattle.gcm_mode.proofs.RowBytes.{first-nibble, more_rows, second-nibble}
use Rattle.gcm_mode.proofs.products.write_rows.Goals as goal

pub loop-b-preserved : goal.loop-b-preserved
loop-b-preserved c =
    let powers = c.args.powers in
    let rows = c.loop-b.rows in
    let b = c.loop-b.b in
    let bits = c.bits_of-first_bits.result in
    let first = c.bits_of-first_bits.ensures in
    let fifth = c.times_u-fifth.ensures in
    let last_bits = c.bits_of-last_bits.result in
    let last = c.bits_of-last_bits.ensures in
    let within : b < length rows = omega arith in
    let fits : (m : ℕ) → lane m powers < 2 ^ 128 = λ m. lane-lt m powers c.requires in (
      length-set rows b _ ∙ c.loop-b.invariant.0,
      more_rows (λ k m n. byte_of k (product (n * 2 ^ 124) (lane m powers))) (λ (r : Row). r.high) rows b _ within
          (λ m n two lt.
          c.row_of-high.ensures.each m n two lt
          ∙ ap (byte_of b) (
          ap (λ (h : ℕ). nibble_sum n h (lane m bits.four) (lane m bits.two) (lane m bits.one)) (ap (lane m) first.eight)
          ∙ first-nibble n (lane m powers) (lane m bits.four) (lane m bits.two) (lane m bits.one) lt (fits m) (first.four m two) (first.two m two) (first.one m two)))
          c.loop-b.invariant.1,
      more_rows (λ k m n. byte_of k (product (n * 2 ^ 120) (lane m powers))) (λ (r : Row). r.low) rows b _ within
          (λ m n two lt.
          c.row_of-low.ensures.each m n two lt
          ∙ ap (byte_of b) (
          second-nibble n (lane m powers) (lane m bits.four) (lane m bits.two) (lane m bits.one)
          (lane m last_bits.eight) (lane m last_bits.four) (lane m last_bits.two) (lane m last_bits.one)
          lt (fits m) (first.four m two) (first.two m two) (first.one m two)
          (ap (lane m) last.eight ∙ fifth.lanes m two)
          (last.four m two ∙ ap (λ (v : ℕ). times_u v) (sym (ap (lane m) last.eight)))
          (last.two m two) (last.one m two)))
          c.loop-b.invariant.2,
    )
