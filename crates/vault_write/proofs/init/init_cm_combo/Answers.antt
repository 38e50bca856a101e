use Rattle.std.proofs.Common.{refl, inr}
use Rattle.cryptomator_conf.specs.Text.{keys_of}
use Rattle.item_making.specs.declared.fault.PutFault.TheVariants as puts
use Rattle.folder_model.proofs.ByFault.{one_fault}
use Rattle.vault_write.specs.Founding.{FoundsCm}
use Rattle.vault_write.proofs.Exits.{at_fault}
use Rattle.vault_write.proofs.NewFounded.{not_failed, cm_undrawn, cm_failed, cm_done}
use Rattle.vault_write.proofs.init.init_cm_combo.Goals as goal

pub returns-in_err-drawn-clause-founds : goal.returns-in_err-drawn-clause-founds
returns-in_err-drawn-clause-founds g c =
    at_fault (FoundsCm c.args.work.now c.args.at.now c.args.pass.now c.args.cost.now c.args.combo (g.R.Randoms.left c.args.random.now) (g.R.Randoms.left c.draw_cm.new.random) (g.F.Folder.told c.args.folder.now) (g.F.Folder.told c.args.folder.now)) c.from_residual.result _ c.from_residual.ensures.1
    (cm_undrawn c.args.work.now c.args.at.now c.args.pass.now c.args.cost.now c.args.combo (g.R.Randoms.left c.args.random.now) (g.R.Randoms.left c.draw_cm.new.random) (g.F.Folder.told c.args.folder.now) (g.met.F.Folder.sound c.args.folder.now) c.requires c.in_err-drawn.field-0.0 c.in_err-drawn.ensures.draws)

pub returns-in_err-drawn-clause-failed : goal.returns-in_err-drawn-clause-failed
returns-in_err-drawn-clause-failed g c is =
    absurd (not_failed c.in_err-drawn.field-0.0 (inr c.in_err-drawn.ensures.fault) (one_fault c.from_residual.result c.in_err-drawn.field-0.0 puts.Failed c.from_residual.ensures.1 is))

pub returns-in_err-found_drawn-clause-founds : goal.returns-in_err-found_drawn-clause-founds
returns-in_err-found_drawn-clause-founds g c =
    at_fault (FoundsCm c.args.work.now c.args.at.now c.args.pass.now c.args.cost.now c.args.combo (g.R.Randoms.left c.args.random.now) (g.R.Randoms.left c.draw_cm.new.random) (g.F.Folder.told c.args.folder.now) (g.F.Folder.told c.found_drawn.new.folder)) c.from_residual-in_err-found_drawn.result _ c.from_residual-in_err-found_drawn.ensures.1
    (cm_failed c.args.work.now c.args.at.now c.args.pass.now c.args.cost.now c.args.combo (g.R.Randoms.left c.args.random.now) (g.R.Randoms.left c.draw_cm.new.random) (g.F.Folder.told c.args.folder.now) (g.met.F.Folder.sound c.args.folder.now) c.requires c.in_ok-drawn.drawn c.in_ok-drawn.ensures.draws
    (g.F.Folder.told c.found_drawn.new.folder) c.in_err-found_drawn.field-0.0 c.in_err-found_drawn.ensures.founds)

pub returns-clause-founds : goal.returns-clause-founds
returns-clause-founds g c =
    cm_done c.args.work.now c.args.at.now c.args.pass.now c.args.cost.now c.args.combo (g.R.Randoms.left c.args.random.now) (g.R.Randoms.left c.draw_cm.new.random) (g.F.Folder.told c.args.folder.now) (g.met.F.Folder.sound c.args.folder.now) c.requires c.in_ok-drawn.drawn c.in_ok-drawn.ensures.draws
    (g.F.Folder.told c.found_drawn.new.folder) c.made_files_give_back_their_keys.ensures c.cost_is_one.ensures
    (c.new_vaults_of_cryptomator_are_empty.ensures (record { keys = keys_of c.in_ok-drawn.drawn; combo = c.args.combo; threshold = 220 }) c.args.pass.now c.args.cost.now c.in_ok-drawn.drawn refl, c.vaults_of_cryptomator_stay_tidy.ensures.made (record { keys = keys_of c.in_ok-drawn.drawn; combo = c.args.combo; threshold = 220 }) c.args.pass.now c.args.cost.now c.in_ok-drawn.drawn refl) c.in_ok-found_drawn.ensures.founds
