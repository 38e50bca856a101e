use Rattle.std.proofs.lemmas.Result.{IfOk-weaker}
use Rattle.cryptomator_conf.proofs.Written.{text_of_parts}
use Rattle.cryptomator_conf.proofs.making.master_text.Goals as goal

pub returns : goal.returns
returns c =
    IfOk-weaker c.format.result _ _
    (λ text written. text_of_parts (record { salt = c.args.salt.now; cost = c.args.cost.now; primary = c.args.primary.now; hmac = c.args.hmac.now }) c.args.tag.now _
    (rw (c.new-hmac.ensures, c.new-primary.ensures, c.new-salt.ensures, c.new-tag.ensures, c.r-r.ensures.number, c.n-n.ensures.number) at written))
    c.format.ensures.ok
