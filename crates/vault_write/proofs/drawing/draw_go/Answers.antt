use Rattle.vault_write.specs.Founding.{DrawsGo}
use Rattle.vault_write.proofs.Drawn.{at_random, go_all, go_none, go_one, go_two, go_three}
use Rattle.vault_write.proofs.Exits.{at_fault}
use Rattle.vault_write.proofs.drawing.draw_go.Goals as goal

pub returns-in_err-master-clause-draws : goal.returns-in_err-master-clause-draws
returns-in_err-master-clause-draws g c =
    at_random (DrawsGo (g.R.Randoms.left c.args.random.now) (g.R.Randoms.left c.draw.new.random)) c.from_residual.result c.from_residual.ensures.1 c.in_err-master.ensures.fault
    (go_none (g.R.Randoms.left c.args.random.now) (g.R.Randoms.left c.draw.new.random) c.in_err-master.ensures.nothing)

pub returns-in_err-salt-clause-draws : goal.returns-in_err-salt-clause-draws
returns-in_err-salt-clause-draws g c =
    at_random (DrawsGo (g.R.Randoms.left c.args.random.now) (g.R.Randoms.left c.draw-2.new.random)) c.from_residual-in_err-salt.result c.from_residual-in_err-salt.ensures.1 c.in_err-salt.ensures.fault
    (go_one c.draws_compose.ensures.composed (g.R.Randoms.left c.args.random.now) (g.R.Randoms.left c.draw.new.random) c.in_ok-master.master (record { size = c.in_ok-master.ensures.size; small = c.in_ok-master.ensures.small }) c.in_ok-master.ensures.drawn (g.R.Randoms.left c.draw-2.new.random) c.in_err-salt.ensures.nothing)

pub returns-in_err-nonce-clause-draws : goal.returns-in_err-nonce-clause-draws
returns-in_err-nonce-clause-draws g c =
    at_fault (DrawsGo (g.R.Randoms.left c.args.random.now) (g.R.Randoms.left c.draw_some.new.random)) c.from_residual-in_err-nonce.result _ c.from_residual-in_err-nonce.ensures.1
    (go_two c.draws_compose.ensures.composed (g.R.Randoms.left c.args.random.now) (g.R.Randoms.left c.draw.new.random) c.in_ok-master.master (record { size = c.in_ok-master.ensures.size; small = c.in_ok-master.ensures.small }) c.in_ok-master.ensures.drawn (g.R.Randoms.left c.draw-2.new.random) c.in_ok-salt.salt (record { size = c.in_ok-salt.ensures.size; small = c.in_ok-salt.ensures.small }) c.in_ok-salt.ensures.drawn (g.R.Randoms.left c.draw_some.new.random) c.in_err-nonce.field-0.0 c.in_err-nonce.ensures.draws)

pub returns-in_err-key-clause-draws : goal.returns-in_err-key-clause-draws
returns-in_err-key-clause-draws g c =
    at_fault (DrawsGo (g.R.Randoms.left c.args.random.now) (g.R.Randoms.left c.draw_some-2.new.random)) c.from_residual-in_err-key.result _ c.from_residual-in_err-key.ensures.1
    (go_three c.draws_compose.ensures.composed (g.R.Randoms.left c.args.random.now) (g.R.Randoms.left c.draw.new.random) c.in_ok-master.master (record { size = c.in_ok-master.ensures.size; small = c.in_ok-master.ensures.small }) c.in_ok-master.ensures.drawn (g.R.Randoms.left c.draw-2.new.random) c.in_ok-salt.salt (record { size = c.in_ok-salt.ensures.size; small = c.in_ok-salt.ensures.small }) c.in_ok-salt.ensures.drawn (g.R.Randoms.left c.draw_some.new.random) c.in_ok-nonce.nonce c.in_ok-nonce.ensures.draws (g.R.Randoms.left c.draw_some-2.new.random) c.in_err-key.field-0.0 c.in_err-key.ensures.draws)

pub returns-clause-draws : goal.returns-clause-draws
returns-clause-draws g c =
    go_all c.draws_compose.ensures.composed (g.R.Randoms.left c.args.random.now) (g.R.Randoms.left c.draw.new.random) c.in_ok-master.master (record { size = c.in_ok-master.ensures.size; small = c.in_ok-master.ensures.small }) c.in_ok-master.ensures.drawn
    (g.R.Randoms.left c.draw-2.new.random) c.in_ok-salt.salt (record { size = c.in_ok-salt.ensures.size; small = c.in_ok-salt.ensures.small }) c.in_ok-salt.ensures.drawn (g.R.Randoms.left c.draw_some.new.random) c.in_ok-nonce.nonce c.in_ok-nonce.ensures.draws
    (g.R.Randoms.left c.draw_some-2.new.random) c.in_ok-key.key c.in_ok-key.ensures.draws
