use Rattle.std.proofs.Common.{◌*◌, ◌+◌, bit_xor, get_or, ap, ◌∙◌, arith}
use Rattle.std.specs.Simd.Lanes.{zip2}
use Rattle.gcm_mode.specs.Pairs.{lane}
use Rattle.gcm_mode.proofs.Lanes.{IsPair-sum, get_or-both}
use Rattle.gcm_mode.proofs.RowBytes.{IsPair-eights, IsPair-fours, IsPair-ones, IsPair-twos, row-byte}
use Rattle.gcm_mode.proofs.products.row_of.Goals as goal

pub byte_where-eight-requires : goal.byte_where-eight-requires
byte_where-eight-requires c = record { v = c.args.bits.now.eight_pair; b = c.requires; mask = IsPair-eights }

pub byte_where-four-requires : goal.byte_where-four-requires
byte_where-four-requires c = record { v = c.args.bits.now.four_pair; b = c.requires; mask = IsPair-fours }

pub byte_where-two-requires : goal.byte_where-two-requires
byte_where-two-requires c = record { v = c.args.bits.now.two_pair; b = c.requires; mask = IsPair-twos }

pub byte_where-one-requires : goal.byte_where-one-requires
byte_where-one-requires c = record { v = c.args.bits.now.one_pair; b = c.requires; mask = IsPair-ones }

pub returns : goal.returns
returns c =
    let bits = c.args.bits.now in
    let p = c.byte_where-eight.result in
    let q = c.byte_where-four.result in
    let r = c.byte_where-two.result in
    let s = c.byte_where-one.result in
    let pair_p = c.byte_where-eight.ensures.pair in
    let pair_q = c.byte_where-four.ensures.pair in
    let pair_r = c.byte_where-two.ensures.pair in
    let pair_s = c.byte_where-one.ensures.pair in
    let first = IsPair-sum p q pair_p pair_q in
    let second = IsPair-sum (zip2 bit_xor p q) r first pair_r in
    record {
      pair = IsPair-sum (zip2 bit_xor (zip2 bit_xor p q) r) s second pair_s;
      each = λ l n two lt.
          let k = 16 * l + n in
          get_or-both bit_xor (zip2 bit_xor (zip2 bit_xor p q) r) s k second.long pair_s.long (omega arith)
          ∙ ap (λ x. bit_xor x (get_or s k 0)) (get_or-both bit_xor (zip2 bit_xor p q) r k first.long pair_r.long (omega arith)
          ∙ ap (λ x. bit_xor x (get_or r k 0)) (get_or-both bit_xor p q k pair_p.long pair_q.long (omega arith)))
          ∙ row-byte c.args.b l n p q r s (lane l bits.eight) (lane l bits.four) (lane l bits.two) (lane l bits.one) two lt
          (c.byte_where-eight.ensures.each l n two lt) (c.byte_where-four.ensures.each l n two lt)
          (c.byte_where-two.ensures.each l n two lt) (c.byte_where-one.ensures.each l n two lt);
    }
