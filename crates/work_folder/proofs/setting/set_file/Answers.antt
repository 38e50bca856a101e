use Rattle.std.proofs.Common.{[], ◌∷◌, codes, Ok, Err, sym, ap, ◌∙◌, subst}
use Rattle.std.proofs.lemmas.Result.{err_from_is_err_and}
use Rattle.folder_spec.specs.State.{present}
use Rattle.folder_spec.specs.Event.{Rename, Changes, FromTo}
use Rattle.folder_spec.specs.Replace.{IsNewFile}
use Rattle.folder_spec.specs.Seen.{IfSeen, ShowsFilePlace}
use Rattle.folder_spec.proofs.Paths.{child-not_base}
use Rattle.folder_spec.proofs.Stages.{Staging}
use Rattle.folder_staging.specs.Places.{IsStage}
use Rattle.work_folder.specs.Entries.{stage_path}
use Rattle.work_folder.specs.Setting.{SetsIf}
use Rattle.work_folder.proofs.Settings.{sets_nothing, sets_staged, rename_failed, rename_refused, sets_settled, set_settled, answer_settled, stage_again}
use Rattle.work_folder.proofs.setting.set_file.Goals as goal

pub stage-requires : goal.stage-requires
stage-requires g c =
    subst (IsStage (g.F.Folder.told c.args.folder.now)) (sym c.in_ok-staged.ensures) (record { below_base = child-not_base (stage_path c.args.work.now) (codes "f"); place = c.requires.stage })

pub returns-in_err-staged-clause-moments : goal.returns-in_err-staged-clause-moments
returns-in_err-staged-clause-moments g c =
    let law = c.images_show_views.ensures in
    sets_nothing (record { images = law.images; settled = law.settled }) c.args.work.now c.args.at.now c.args.bytes.now c.requires.apart (g.F.Folder.told c.args.folder.now)
    (g.met.F.Folder.sound c.args.folder.now)

pub returns-in_err-stage-clause-moments : goal.returns-in_err-stage-clause-moments
returns-in_err-stage-clause-moments g c =
    let law = c.images_show_views.ensures in
    let t0 = g.F.Folder.told c.args.folder.now in
    let t1 = g.F.Folder.told c.stage.new.folder in
    sets_staged (record { images = law.images; settled = law.settled }) c.args.work.now c.args.at.now c.args.bytes.now c.requires.apart t0 t1 (g.met.F.Folder.sound c.args.folder.now)
    (subst (λ p. FromTo (Staging (c.args.bytes.now ∷ []) p) t0 t1) c.in_ok-staged.ensures c.stage.ensures.moments)

pub returns-in_err-rename-clause-moments : goal.returns-in_err-rename-clause-moments
returns-in_err-rename-clause-moments g c =
    let law = c.images_show_views.ensures in
    let t0 = g.F.Folder.told c.args.folder.now in
    let t1 = g.F.Folder.told c.stage.new.folder in
    let t2 = g.F.Folder.told c.rename.new.self in
    rename_failed (record { images = law.images; settled = law.settled }) c.args.work.now c.args.at.now c.args.bytes.now c.requires.apart t0 t1 (g.met.F.Folder.sound c.args.folder.now)
    (g.met.F.Folder.sound c.stage.new.folder) (subst (λ p. FromTo (Staging (c.args.bytes.now ∷ []) p) t0 t1) c.in_ok-staged.ensures c.in_ok-stage.ensures.moments)
    (subst (λ p. FromTo (λ a b. IsNewFile c.args.bytes.now a.state b.state (present b.state p)) t0 t1) c.in_ok-staged.ensures c.in_ok-stage.ensures.written) t2 c.in_err-rename.field-0.0
    (subst (λ p. Changes (Rename p c.args.at.now) t1 t2 (Err c.in_err-rename.field-0.0)) c.in_ok-staged.ensures c.in_err-rename.ensures.changes)

pub returns-in_err-rename-clause-answer : goal.returns-in_err-rename-clause-answer
returns-in_err-rename-clause-answer g c =
    let law = c.images_show_views.ensures in
    let t0 = g.F.Folder.told c.args.folder.now in
    let t1 = g.F.Folder.told c.stage.new.folder in
    let t2 = g.F.Folder.told c.rename.new.self in
    let p = err_from_is_err_and c.from_residual-in_err-rename.result c.from_residual-in_err-rename.ensures.1 in
    subst (λ r. IfSeen t0 (λ v. SetsIf (ShowsFilePlace v c.args.at.now) r)) (sym (p.1 ∙ ap Err p.2))
    (rename_refused (record { images = law.images; settled = law.settled }) c.args.work.now c.args.at.now c.args.bytes.now c.requires.apart t0 t1 (g.met.F.Folder.sound c.args.folder.now)
    (g.met.F.Folder.sound c.stage.new.folder) (subst (λ p. FromTo (Staging (c.args.bytes.now ∷ []) p) t0 t1) c.in_ok-staged.ensures c.in_ok-stage.ensures.moments)
    (subst (λ p. FromTo (λ a b. IsNewFile c.args.bytes.now a.state b.state (present b.state p)) t0 t1) c.in_ok-staged.ensures c.in_ok-stage.ensures.written) t2 c.in_err-rename.field-0.0
    (subst (λ p. Changes (Rename p c.args.at.now) t1 t2 (Err c.in_err-rename.field-0.0)) c.in_ok-staged.ensures c.in_err-rename.ensures.changes))

pub returns-clause-moments : goal.returns-clause-moments
returns-clause-moments g c =
    let law = c.images_show_views.ensures in
    let t0 = g.F.Folder.told c.args.folder.now in
    let t1 = g.F.Folder.told c.stage.new.folder in
    let t2 = g.F.Folder.told c.rename.new.self in
    sets_settled (record { images = law.images; settled = law.settled }) c.args.work.now c.args.at.now c.args.bytes.now c.requires.apart t0 t1 (g.met.F.Folder.sound c.args.folder.now)
    (g.met.F.Folder.sound c.stage.new.folder) (subst (λ p. FromTo (Staging (c.args.bytes.now ∷ []) p) t0 t1) c.in_ok-staged.ensures c.in_ok-stage.ensures.moments)
    (subst (λ p. FromTo (λ a b. IsNewFile c.args.bytes.now a.state b.state (present b.state p)) t0 t1) c.in_ok-staged.ensures c.in_ok-stage.ensures.written) t2
    (subst (λ p. Changes (Rename p c.args.at.now) t1 t2 (Ok tt)) c.in_ok-staged.ensures c.in_ok-rename.ensures.changes) (g.F.Folder.told c.settle.new.self) c.settle.result c.settle.ensures.changes

pub returns-clause-set : goal.returns-clause-set
returns-clause-set g c =
    let law = c.images_show_views.ensures in
    let t0 = g.F.Folder.told c.args.folder.now in
    let t1 = g.F.Folder.told c.stage.new.folder in
    let t2 = g.F.Folder.told c.rename.new.self in
    set_settled (record { images = law.images; settled = law.settled }) c.args.work.now c.args.at.now c.args.bytes.now c.requires.apart t0 t1 (g.met.F.Folder.sound c.args.folder.now)
    (g.met.F.Folder.sound c.stage.new.folder) (subst (λ p. FromTo (Staging (c.args.bytes.now ∷ []) p) t0 t1) c.in_ok-staged.ensures c.in_ok-stage.ensures.moments)
    (subst (λ p. FromTo (λ a b. IsNewFile c.args.bytes.now a.state b.state (present b.state p)) t0 t1) c.in_ok-staged.ensures c.in_ok-stage.ensures.written) t2
    (subst (λ p. Changes (Rename p c.args.at.now) t1 t2 (Ok tt)) c.in_ok-staged.ensures c.in_ok-rename.ensures.changes) (g.F.Folder.told c.settle.new.self) c.settle.result c.settle.ensures.changes

pub returns-clause-answer : goal.returns-clause-answer
returns-clause-answer g c =
    let law = c.images_show_views.ensures in
    let t0 = g.F.Folder.told c.args.folder.now in
    let t1 = g.F.Folder.told c.stage.new.folder in
    let t2 = g.F.Folder.told c.rename.new.self in
    answer_settled (record { images = law.images; settled = law.settled }) c.args.work.now c.args.at.now c.args.bytes.now c.requires.apart t0 t1 (g.met.F.Folder.sound c.args.folder.now)
    (g.met.F.Folder.sound c.stage.new.folder) (subst (λ p. FromTo (Staging (c.args.bytes.now ∷ []) p) t0 t1) c.in_ok-staged.ensures c.in_ok-stage.ensures.moments)
    (subst (λ p. FromTo (λ a b. IsNewFile c.args.bytes.now a.state b.state (present b.state p)) t0 t1) c.in_ok-staged.ensures c.in_ok-stage.ensures.written) t2
    (subst (λ p. Changes (Rename p c.args.at.now) t1 t2 (Ok tt)) c.in_ok-staged.ensures c.in_ok-rename.ensures.changes) (g.F.Folder.told c.settle.new.self) c.settle.result c.settle.ensures.changes

pub returns-clause-stage : goal.returns-clause-stage
returns-clause-stage g c =
    let law = c.images_show_views.ensures in
    let t0 = g.F.Folder.told c.args.folder.now in
    let t1 = g.F.Folder.told c.stage.new.folder in
    let t2 = g.F.Folder.told c.rename.new.self in
    stage_again (record { images = law.images; settled = law.settled }) c.args.work.now c.args.at.now c.args.bytes.now c.requires.apart t0 t1 (g.met.F.Folder.sound c.args.folder.now)
    (g.met.F.Folder.sound c.stage.new.folder) (subst (λ p. FromTo (Staging (c.args.bytes.now ∷ []) p) t0 t1) c.in_ok-staged.ensures c.in_ok-stage.ensures.moments)
    (subst (λ p. FromTo (λ a b. IsNewFile c.args.bytes.now a.state b.state (present b.state p)) t0 t1) c.in_ok-staged.ensures c.in_ok-stage.ensures.written) t2
    (subst (λ p. Changes (Rename p c.args.at.now) t1 t2 (Ok tt)) c.in_ok-staged.ensures c.in_ok-rename.ensures.changes) (g.F.Folder.told c.settle.new.self) c.settle.result c.settle.ensures.changes c.requires.stage
