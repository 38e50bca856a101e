use Rattle.std.proofs.Common.{◌∙◌}
use Rattle.item_making.specs.declared.fault.PutFault.TheVariants as puts
use Rattle.folder_model.proofs.ByFault.{one_fault}
use Rattle.vault_write.specs.Founding.{FoundsGo}
use Rattle.vault_write.proofs.Exits.{at_fault}
use Rattle.vault_write.proofs.NewFounded.{not_failed, go_undrawn, go_unmade, go_failed, go_done}
use Rattle.vault_write.proofs.init.init_go.Goals as goal

pub returns-in_err-drawn-clause-founds : goal.returns-in_err-drawn-clause-founds
returns-in_err-drawn-clause-founds g c =
    at_fault (FoundsGo c.args.work.now c.args.at.now c.args.pass.now c.args.cost.now (g.R.Randoms.left c.args.random.now) (g.R.Randoms.left c.draw_go.new.random) (g.F.Folder.told c.args.folder.now) (g.F.Folder.told c.args.folder.now)) c.from_residual.result _ c.from_residual.ensures.1
    (go_undrawn c.args.work.now c.args.at.now c.args.pass.now c.args.cost.now (g.R.Randoms.left c.args.random.now) (g.R.Randoms.left c.draw_go.new.random) (g.F.Folder.told c.args.folder.now) (g.met.F.Folder.sound c.args.folder.now) c.requires c.in_err-drawn.field-0.0 c.in_err-drawn.ensures.draws)

pub returns-in_err-drawn-clause-failed : goal.returns-in_err-drawn-clause-failed
returns-in_err-drawn-clause-failed g c is =
    absurd (not_failed c.in_err-drawn.field-0.0 c.in_err-drawn.ensures.fault (one_fault c.from_residual.result c.in_err-drawn.field-0.0 puts.Failed c.from_residual.ensures.1 is))

pub returns-in_err-conf-clause-founds : goal.returns-in_err-conf-clause-founds
returns-in_err-conf-clause-founds g c =
    at_fault (FoundsGo c.args.work.now c.args.at.now c.args.pass.now c.args.cost.now (g.R.Randoms.left c.args.random.now) (g.R.Randoms.left c.draw_go.new.random) (g.F.Folder.told c.args.folder.now) (g.F.Folder.told c.args.folder.now)) c.from_residual-in_err-conf.result _ c.from_residual-in_err-conf.ensures.1
    (go_unmade c.args.work.now c.args.at.now c.args.pass.now c.args.cost.now (g.R.Randoms.left c.args.random.now) (g.R.Randoms.left c.draw_go.new.random) (g.F.Folder.told c.args.folder.now) (g.met.F.Folder.sound c.args.folder.now) c.requires c.in_ok-drawn.drawn c.in_ok-drawn.ensures.draws)

pub returns-in_err-found_go-clause-founds : goal.returns-in_err-found_go-clause-founds
returns-in_err-found_go-clause-founds g c =
    at_fault (FoundsGo c.args.work.now c.args.at.now c.args.pass.now c.args.cost.now (g.R.Randoms.left c.args.random.now) (g.R.Randoms.left c.draw_go.new.random) (g.F.Folder.told c.args.folder.now) (g.F.Folder.told c.found_go.new.folder)) c.from_residual-in_err-found_go.result _ c.from_residual-in_err-found_go.ensures.1
    (go_failed c.args.work.now c.args.at.now c.args.pass.now c.args.cost.now (g.R.Randoms.left c.args.random.now) (g.R.Randoms.left c.draw_go.new.random) (g.F.Folder.told c.args.folder.now) (g.met.F.Folder.sound c.args.folder.now) c.requires c.in_ok-drawn.drawn c.in_ok-drawn.ensures.draws c.as_slice.result.now (c.as_slice.ensures.value ∙ c.in_ok-conf.ensures) (g.F.Folder.told c.found_go.new.folder) c.in_err-found_go.field-0.0 c.in_err-found_go.ensures.founds)

pub returns-clause-founds : goal.returns-clause-founds
returns-clause-founds g c =
    go_done c.args.work.now c.args.at.now c.args.pass.now c.args.cost.now (g.R.Randoms.left c.args.random.now) (g.R.Randoms.left c.draw_go.new.random) (g.F.Folder.told c.args.folder.now) (g.met.F.Folder.sound c.args.folder.now) c.requires c.in_ok-drawn.drawn c.in_ok-drawn.ensures.draws c.as_slice.result.now (c.as_slice.ensures.value ∙ c.in_ok-conf.ensures) (g.F.Folder.told c.found_go.new.folder) c.made_texts_give_back_their_keys.ensures c.new_vaults_of_gocryptfs_are_empty.ensures c.vaults_of_gocryptfs_stay_tidy.ensures.made c.cost_is_one.ensures c.in_ok-found_go.ensures.founds
