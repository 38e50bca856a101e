use Rattle.std.proofs.Common.{◌≡◌, sym, subst}
use Rattle.std.proofs.lemmas.Result.{err_from_is_err_and}
use Rattle.folder_spec.specs.Seen.{IfSeen, ShowsNothingOrFile}
use Rattle.work_folder.specs.Changing.{Alters}
use Rattle.folder_spec.specs.View.{NoEntry}
use Rattle.work_folder.proofs.Entered.{make_fell, clear_fell, prepare_done, place_to_clear}
use Rattle.work_folder.proofs.changing.prepare.Goals as goal

pub returns-in_err-make_folder : goal.returns-in_err-make_folder
returns-in_err-make_folder g c =
    let p = err_from_is_err_and c.from_residual-in_err-make_folder.result c.from_residual-in_err-make_folder.ensures.1 in
    rw (p.1, p.2)
    (make_fell c.args.at.now (g.F.Folder.told c.args.folder.now) (g.F.Folder.told c.make_folder.new.folder) (g.F.Folder.faults c.args.folder.now)
    (g.F.Folder.faults c.make_folder.new.folder) c.in_err-make_folder.field-0.0 c.in_err-make_folder.ensures.moments c.in_err-make_folder.ensures.counts)

pub clear_file-requires : goal.clear_file-requires
clear_file-requires g c v is =
    subst (ShowsNothingOrFile v) (sym c.in_ok-new.ensures)
    (place_to_clear c.args.at.now (g.F.Folder.told c.args.folder.now) (g.met.F.Folder.sound c.args.folder.now) c.requires (g.F.Folder.told c.make_folder.new.folder)
    c.in_ok-make_folder.ensures.moments v is)

pub returns-in_err-clear_file : goal.returns-in_err-clear_file
returns-in_err-clear_file g c =
    let t1 = g.F.Folder.told c.make_folder.new.folder in
    let t2 = g.F.Folder.told c.clear_file.new.folder in
    let p = err_from_is_err_and c.from_residual-in_err-clear_file.result c.from_residual-in_err-clear_file.ensures.1 in
    rw (p.1, p.2)
    (clear_fell c.args.at.now (g.F.Folder.told c.args.folder.now) t1 t2 (g.F.Folder.faults c.args.folder.now) (g.F.Folder.faults c.make_folder.new.folder)
    (g.F.Folder.faults c.clear_file.new.folder) c.in_ok-make_folder.ensures.counts c.in_ok-make_folder.ensures.moments
    (subst (λ p. Alters (λ q. ⊥) (λ q. q ≡ p) t1 t2) c.in_ok-new.ensures c.in_err-clear_file.ensures.moments) c.in_err-clear_file.field-0.0
    c.in_err-clear_file.ensures.counts)

pub returns : goal.returns
returns g c =
    let t1 = g.F.Folder.told c.make_folder.new.folder in
    let t2 = g.F.Folder.told c.clear_file.new.folder in
    prepare_done c.args.at.now (g.F.Folder.told c.args.folder.now) t1 t2 (g.F.Folder.faults c.args.folder.now) (g.F.Folder.faults c.make_folder.new.folder)
    (g.F.Folder.faults c.clear_file.new.folder) c.in_ok-make_folder.ensures.counts c.in_ok-make_folder.ensures.moments
    (subst (λ p. Alters (λ q. ⊥) (λ q. q ≡ p) t1 t2) c.in_ok-new.ensures c.in_ok-clear_file.ensures.moments) c.in_ok-clear_file.ensures.counts
    c.in_ok-make_folder.ensures.there
    (subst (λ p. IfSeen t2 (λ v. v p ≡ NoEntry)) c.in_ok-new.ensures c.in_ok-clear_file.ensures.gone)
