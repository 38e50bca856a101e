use Rattle.std.proofs.Common.{◌∙◌, sym}
use Rattle.passwd_core.specs.Steps.{DrawsGo}
use Rattle.passwd_core.proofs.Drawn.{at_random, go_none, go_salt, go_zeros}
use Rattle.passwd_core.proofs.drawing.draw_go.Goals as goal

pub returns-in_err-salt-clause-draws : goal.returns-in_err-salt-clause-draws
returns-in_err-salt-clause-draws g c =
    let s = g.R.Randoms.left c.args.random.now in
    let s1 = g.R.Randoms.left c.draw.new.random in
    at_random (DrawsGo s s1) c.from_residual.result c.from_residual.ensures.1 c.in_err-salt.ensures.fault (go_none s s1 c.in_err-salt.ensures.nothing)

pub returns-in_err-nonce-clause-draws : goal.returns-in_err-nonce-clause-draws
returns-in_err-nonce-clause-draws g c =
    let s = g.R.Randoms.left c.args.random.now in
    let s1 = g.R.Randoms.left c.draw.new.random in
    let s2 = g.R.Randoms.left c.draw-2.new.random in
    at_random (DrawsGo s s2) c.from_residual-in_err-nonce.result c.from_residual-in_err-nonce.ensures.1 c.in_err-nonce.ensures.fault
    (go_salt c.draws_compose.ensures.composed s s1 c.in_ok-salt.salt c.in_ok-salt.ensures.bytes c.in_ok-salt.ensures.drawn s2 c.in_err-nonce.ensures.nothing)

pub returns-then-are_zeros-clause-draws : goal.returns-then-are_zeros-clause-draws
returns-then-are_zeros-clause-draws g c =
    let s = g.R.Randoms.left c.args.random.now in
    let s1 = g.R.Randoms.left c.draw.new.random in
    let s2 = g.R.Randoms.left c.draw-2.new.random in
    go_zeros c.draws_compose.ensures.composed s s1 c.in_ok-salt.salt c.in_ok-salt.ensures.bytes c.in_ok-salt.ensures.drawn s2
    c.in_ok-nonce.nonce c.in_ok-nonce.ensures.bytes c.in_ok-nonce.ensures.drawn (sym c.are_zeros.ensures ∙ c.if-are_zeros.true)
