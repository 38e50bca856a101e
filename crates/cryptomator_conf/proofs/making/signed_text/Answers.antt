use Rattle.std.proofs.Common.{◌∙◌}
use Rattle.std.proofs.lemmas.Result.{IfOk-weaker}
use Rattle.cryptomator_conf.proofs.Written.{signed_in_parts}
use Rattle.cryptomator_conf.proofs.making.signed_text.Goals as goal

pub returns : goal.returns
returns c =
    IfOk-weaker c.format.result _ _
    (λ text written. rw (c.new-header.ensures, c.as_bytes.ensures.value, c.new-payload.ensures, c.as_bytes-2.ensures.value, c.in_ok-payload.ensures) at written ∙ signed_in_parts c.args.combo c.args.id.now)
    c.format.ensures.ok
