use Rattle.std.proofs.Common.{◌≡◌, ◌*◌, length, Ok, ap, ◌∙◌, arith}
use Rattle.hex.specs.Hex.{encode_lower}
use Rattle.move_journal.proofs.Values.{plan_decoded, texts_differ, written}
use Rattle.move_journal.proofs.line.plan_in.Goals as goal

pub returns-in_default : goal.returns-in_default
returns-in_default c plan digest e = let ok : c.from_hex.result ≡ Ok plan = c.from_hex.ensures ∙ plan_decoded c.args.value.now plan digest e in cc

pub returns-else-eq : goal.returns-else-eq
returns-else-eq c plan digest e =
    let ok : c.from_hex.result ≡ Ok plan = c.from_hex.ensures ∙ plan_decoded c.args.value.now plan digest e in
    let same : c.as_slice.result.now ≡ plan = cc in
    let room : 64 ≡ 2 * length c.as_slice.result.now = omega (arith, ap length same, digest.size) in
    let out = written c.encode_to_slice.result 64 c.encode_to_slice.new.output c.as_slice.result.now c.encode_to_slice.ensures.fits c.encode_to_slice.ensures.written room in
    texts_differ c.as_slice-2.result.now c.args.value.now c.eq.result c.eq.ensures c.if-eq.false (cc (out, ap encode_lower same, e))
