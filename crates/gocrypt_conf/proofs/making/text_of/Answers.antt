use Rattle.std.proofs.lemmas.Result.{IfOk-weaker}
use Rattle.gocrypt_conf.proofs.Written.{text_of_parts}
use Rattle.gocrypt_conf.proofs.making.text_of.Goals as goal

pub returns : goal.returns
returns c =
    IfOk-weaker c.format.result _ _
    (λ text written. text_of_parts _ _ _ _ _ _ (rw (c.new-sealed.ensures, c.new-salt.ensures, c.n-n.ensures.number, c.r-r.ensures.number, c.p-p.ensures.number) at written))
    c.format.ensures.ok
