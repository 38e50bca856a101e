use Rattle.std.proofs.Common.{[], ◌∷◌}
use Rattle.folder_spec.specs.Edit.{folder_view}
use Rattle.vault_write.specs.Founding.{StagesWhole}
use Rattle.vault_write.proofs.Exits.{at_fault}
use Rattle.vault_write.proofs.Staged.{place_in_staged, first_failed, one_staged, both_staged}
use Rattle.vault_write.proofs.init.stage_files.Goals as goal

pub stage_in-requires : goal.stage_in-requires
stage_in-requires g c v is =
    place_in_staged c.staged_folders_are_seen.ensures [] c.args.staged.now [] (g.F.Folder.told c.args.folder.now) (g.F.Folder.told c.begin_folder.new.folder) c.args.first.now (c.in_ok-begin_folder.ensures.begun []).1 v is

pub returns-in_err-stage_in-clause-staged : goal.returns-in_err-stage_in-clause-staged
returns-in_err-stage_in-clause-staged g c =
    let b1 = c.args.first_bytes.now in
    let b2 = c.args.second_bytes.now in
    at_fault (StagesWhole c.args.staged.now (folder_view ((c.args.second.now, b2) ∷ (c.args.first.now, b1) ∷ [])) (b2 ∷ b1 ∷ []) (g.F.Folder.told c.args.folder.now) (g.F.Folder.told c.stage_in.new.folder)) c.from_residual-in_err-stage_in.result _ c.from_residual-in_err-stage_in.ensures.1
    (first_failed c.stagings_are_of_more_files.ensures c.staged_folders_gain_files.ensures.during c.staged_folders_gain_files.ensures.gained c.args.staged.now c.args.first.now c.args.first_bytes.now c.args.second.now c.args.second_bytes.now (g.F.Folder.told c.args.folder.now) (g.F.Folder.told c.begin_folder.new.folder) (g.F.Folder.told c.stage_in.new.folder)
    (λ contents. (c.in_ok-begin_folder.ensures.begun contents).1) c.stage_in.ensures.moments c.in_err-stage_in.field-0.0)

pub stage_in-requires-2 : goal.stage_in-requires-2
stage_in-requires-2 g c v is =
    let b1 = c.args.first_bytes.now in
    place_in_staged c.staged_folders_are_seen.ensures (b1 ∷ []) c.args.staged.now ((c.args.first.now, b1) ∷ []) (g.F.Folder.told c.args.folder.now) (g.F.Folder.told c.stage_in.new.folder) c.args.second.now
    (one_staged c.stagings_are_of_more_files.ensures c.staged_folders_gain_files.ensures.during c.staged_folders_gain_files.ensures.gained c.args.staged.now c.args.first.now c.args.first_bytes.now c.args.second.now c.args.second_bytes.now (g.F.Folder.told c.args.folder.now) (g.F.Folder.told c.begin_folder.new.folder) (g.F.Folder.told c.stage_in.new.folder)
    (λ contents. (c.in_ok-begin_folder.ensures.begun contents).1) c.stage_in.ensures.moments (g.met.F.Folder.sound c.begin_folder.new.folder) (g.met.F.Folder.sound c.stage_in.new.folder) c.in_ok-stage_in.ensures.written (b1 ∷ []) (λ file among. among)) v is

pub returns-clause-staged : goal.returns-clause-staged
returns-clause-staged g c =
    both_staged c.stagings_are_of_more_files.ensures c.staged_folders_gain_files.ensures.during c.staged_folders_gain_files.ensures.gained c.args.staged.now c.args.first.now c.args.first_bytes.now c.args.second.now c.args.second_bytes.now (g.F.Folder.told c.args.folder.now) (g.F.Folder.told c.begin_folder.new.folder) (g.F.Folder.told c.stage_in.new.folder)
    (λ contents. (c.in_ok-begin_folder.ensures.begun contents).1) c.stage_in.ensures.moments (g.met.F.Folder.sound c.begin_folder.new.folder) (g.met.F.Folder.sound c.stage_in.new.folder) c.in_ok-stage_in.ensures.written (g.F.Folder.told c.stage_in-2.new.folder) c.stage_in-2.result (g.met.F.Folder.sound c.stage_in-2.new.folder)
    c.stage_in-2.ensures.moments c.stage_in-2.ensures.written
