use Rattle.vault_write.specs.Founding.{DrawsCm}
use Rattle.vault_write.proofs.Drawn.{at_random, cm_all, cm_none, cm_one, cm_two, cm_three}
use Rattle.vault_write.proofs.drawing.draw_cm.Goals as goal

pub returns-in_err-enc-clause-draws : goal.returns-in_err-enc-clause-draws
returns-in_err-enc-clause-draws g c =
    at_random (DrawsCm (g.R.Randoms.left c.args.random.now) (g.R.Randoms.left c.draw.new.random)) c.from_residual.result c.from_residual.ensures.1 c.in_err-enc.ensures.fault
    (cm_none (g.R.Randoms.left c.args.random.now) (g.R.Randoms.left c.draw.new.random) c.in_err-enc.ensures.nothing)

pub returns-in_err-mac-clause-draws : goal.returns-in_err-mac-clause-draws
returns-in_err-mac-clause-draws g c =
    at_random (DrawsCm (g.R.Randoms.left c.args.random.now) (g.R.Randoms.left c.draw-2.new.random)) c.from_residual-in_err-mac.result c.from_residual-in_err-mac.ensures.1 c.in_err-mac.ensures.fault
    (cm_one c.draws_compose.ensures.composed (g.R.Randoms.left c.args.random.now) (g.R.Randoms.left c.draw.new.random) c.in_ok-enc.enc (record { size = c.in_ok-enc.ensures.size; small = c.in_ok-enc.ensures.small }) c.in_ok-enc.ensures.drawn (g.R.Randoms.left c.draw-2.new.random) c.in_err-mac.ensures.nothing)

pub returns-in_err-salt-clause-draws : goal.returns-in_err-salt-clause-draws
returns-in_err-salt-clause-draws g c =
    at_random (DrawsCm (g.R.Randoms.left c.args.random.now) (g.R.Randoms.left c.draw-3.new.random)) c.from_residual-in_err-salt.result c.from_residual-in_err-salt.ensures.1 c.in_err-salt.ensures.fault
    (cm_two c.draws_compose.ensures.composed (g.R.Randoms.left c.args.random.now) (g.R.Randoms.left c.draw.new.random) c.in_ok-enc.enc (record { size = c.in_ok-enc.ensures.size; small = c.in_ok-enc.ensures.small }) c.in_ok-enc.ensures.drawn (g.R.Randoms.left c.draw-2.new.random) c.in_ok-mac.mac (record { size = c.in_ok-mac.ensures.size; small = c.in_ok-mac.ensures.small }) c.in_ok-mac.ensures.drawn (g.R.Randoms.left c.draw-3.new.random) c.in_err-salt.ensures.nothing)

pub returns-in_err-jti-clause-draws : goal.returns-in_err-jti-clause-draws
returns-in_err-jti-clause-draws g c =
    at_random (DrawsCm (g.R.Randoms.left c.args.random.now) (g.R.Randoms.left c.draw-4.new.random)) c.from_residual-in_err-jti.result c.from_residual-in_err-jti.ensures.1 c.in_err-jti.ensures.fault
    (cm_three c.draws_compose.ensures.composed (g.R.Randoms.left c.args.random.now) (g.R.Randoms.left c.draw.new.random) c.in_ok-enc.enc (record { size = c.in_ok-enc.ensures.size; small = c.in_ok-enc.ensures.small }) c.in_ok-enc.ensures.drawn (g.R.Randoms.left c.draw-2.new.random) c.in_ok-mac.mac (record { size = c.in_ok-mac.ensures.size; small = c.in_ok-mac.ensures.small }) c.in_ok-mac.ensures.drawn (g.R.Randoms.left c.draw-3.new.random) c.in_ok-salt.salt (record { size = c.in_ok-salt.ensures.size; small = c.in_ok-salt.ensures.small }) c.in_ok-salt.ensures.drawn (g.R.Randoms.left c.draw-4.new.random) c.in_err-jti.ensures.nothing)

pub returns-clause-draws : goal.returns-clause-draws
returns-clause-draws g c =
    cm_all c.draws_compose.ensures.composed (g.R.Randoms.left c.args.random.now) (g.R.Randoms.left c.draw.new.random) c.in_ok-enc.enc (record { size = c.in_ok-enc.ensures.size; small = c.in_ok-enc.ensures.small }) c.in_ok-enc.ensures.drawn
    (g.R.Randoms.left c.draw-2.new.random) c.in_ok-mac.mac (record { size = c.in_ok-mac.ensures.size; small = c.in_ok-mac.ensures.small }) c.in_ok-mac.ensures.drawn (g.R.Randoms.left c.draw-3.new.random) c.in_ok-salt.salt (record { size = c.in_ok-salt.ensures.size; small = c.in_ok-salt.ensures.small }) c.in_ok-salt.ensures.drawn
    (g.R.Randoms.left c.draw-4.new.random) c.in_ok-jti.jti (record { size = c.in_ok-jti.ensures.size; small = c.in_ok-jti.ensures.small }) c.in_ok-jti.ensures.drawn
