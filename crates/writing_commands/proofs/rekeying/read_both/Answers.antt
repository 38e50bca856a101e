use Rattle.std.proofs.Common.{◌≡◌, false, IfErr, sym, subst}
use Rattle.std.proofs.lemmas.Result.{err_from_is_err_and}
use Rattle.folder_spec.specs.Seen.{IfSeen, IsSeen}
use Rattle.open_for_reading.specs.Opening.{OfPassFile}
use Rattle.open_for_reading.specs.Places.{overlap}
use Rattle.open_for_reading.specs.Refusing.{Unless}
use Rattle.open_for_reading.specs.Shown.{refused}
use Rattle.writing_commands.proofs.RekeyedVaults.{first_unread, second_unread}
use Rattle.writing_commands.proofs.rekeying.read_both.Goals as goal

pub returns-in_err-old-clause-refused : goal.returns-in_err-old-clause-refused
returns-in_err-old-clause-refused g c =
    let new = c.args.new.now in
    let p = err_from_is_err_and c.from_residual.result c.from_residual.ensures.1 in
    subst (λ r. IfErr r (λ answer. overlap new.vault new.work ≡ false → IfSeen (g.F.Folder.told c.args.folder.now) (λ v. Unless answer (OfPassFile new.pass (v new.pass) (refused answer) (λ phrase. OfPassFile new.new_pass (v new.new_pass) (refused answer) (λ new_phrase. ⊥)))))) (sym p.1) (λ apart v is.
    subst (λ answer. Unless answer (OfPassFile new.pass (v new.pass) (refused answer) (λ phrase. OfPassFile new.new_pass (v new.new_pass) (refused answer) (λ new_phrase. ⊥)))) (sym p.2)
    (first_unread new v c.in_err-old.field-0.0 (c.in_err-old.ensures.refused apart v is)))

pub returns-in_err-new-clause-refused : goal.returns-in_err-new-clause-refused
returns-in_err-new-clause-refused g c =
    let new = c.args.new.now in
    let p = err_from_is_err_and c.from_residual-in_err-new.result c.from_residual-in_err-new.ensures.1 in
    subst (λ r. IfErr r (λ answer. overlap new.vault new.work ≡ false → IfSeen (g.F.Folder.told c.args.folder.now) (λ v. Unless answer (OfPassFile new.pass (v new.pass) (refused answer) (λ phrase. OfPassFile new.new_pass (v new.new_pass) (refused answer) (λ new_phrase. ⊥)))))) (sym p.1) (λ apart v is.
    subst (λ answer. Unless answer (OfPassFile new.pass (v new.pass) (refused answer) (λ phrase. OfPassFile new.new_pass (v new.new_pass) (refused answer) (λ new_phrase. ⊥)))) (sym p.2)
    (second_unread new v c.in_err-new.field-0.0 c.in_ok-old.old (c.in_ok-old.ensures.phrase v is) (c.in_err-new.ensures.refused v (subst (λ t. IsSeen t v) (sym c.in_ok-old.ensures.told) is))))
