use Rattle.std.proofs.Common.{ap, ◌∙◌, length, arith}
use Rattle.kdf_suite.specs.Hmac.{xored_with}
use Rattle.kdf_suite.proofs.Keys.{length-zero_padded, xored_all, xored_more, zero_padded-is}
use Rattle.kdf_suite.proofs.hmac.padded_key.Goals as goal

pub bytes-preserved : goal.bytes-preserved
bytes-preserved g c =
    let block = g.row.BLOCK in
    let key = c.args.key.now in
    let padded = zero_padded-is block key _ c.copy_from_slice.ensures.after in
    let long = ap length padded ∙ length-zero_padded block key c.requires in
    xored_more c.args.pad _ c.bytes.out c.bytes.i (omega (arith, long)) c.bytes.invariant

pub returns : goal.returns
returns g c =
    let block = g.row.BLOCK in
    let key = c.args.key.now in
    let padded = zero_padded-is block key _ c.copy_from_slice.ensures.after in
    let long = ap length padded ∙ length-zero_padded block key c.requires in
    xored_all c.args.pad _ c.bytes.out c.bytes.i (omega (arith, long)) c.bytes.invariant
    ∙ ap (xored_with c.args.pad) padded
