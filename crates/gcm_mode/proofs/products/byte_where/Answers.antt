use Rattle.std.proofs.Common.{◌*◌, ◌+◌, bit_and, get_or, sym, ap, ◌∙◌, arith}
use Rattle.std.proofs.lemmas.Simd.{get_or-replicate}
use Rattle.gcm_mode.proofs.Lanes.{get_or-both}
use Rattle.gcm_mode.proofs.RowBytes.{AreNibbles-splat, IsPair-masked, byte_of-lane}
use Rattle.gcm_mode.proofs.products.byte_where.Goals as goal

pub look-spread-requires : goal.look-spread-requires
look-spread-requires c = record { table = c.requires.v; nibbles = AreNibbles-splat c.args.b c.requires.b }

pub returns : goal.returns
returns c =
    let spread = c.look-spread.result in
    let b = c.args.b in
    record {
      pair = IsPair-masked spread c.args.mask c.look-spread.ensures.pair c.requires.mask;
      each = λ l n two lt.
          get_or-both bit_and spread c.args.mask (16 * l + n) c.look-spread.ensures.pair.long c.requires.mask.long (omega arith)
          ∙ ap (λ x. bit_and x (get_or c.args.mask (16 * l + n) 0))
          (c.look-spread.ensures.each l n two lt
          ∙ ap (λ k. get_or c.args.v (16 * l + k) 0) (get_or-replicate 32 (16 * l + n) b 0 (omega arith))
          ∙ sym (byte_of-lane b l c.args.v c.requires.b c.requires.v));
    }
