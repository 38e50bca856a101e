use Rattle.std.proofs.Common.{◌≡◌, false, IfErr, IsTrue, sym, subst}
use Rattle.std.proofs.lemmas.Result.{err_from_is_err_and}
use Rattle.folder_spec.specs.Seen.{IfSeen, IsSeen}
use Rattle.open_for_reading.specs.Opening.{IsPhrase}
use Rattle.open_for_reading.specs.Places.{overlap}
use Rattle.open_for_reading.specs.Tests.{is_of_beginning}
use Rattle.open_for_changing.specs.Refusing.{RefusesSite}
use Rattle.open_for_changing.proofs.Beginnings.{same_under, seen_after}
use Rattle.open_for_changing.proofs.Sites.{begins_nowhere, readied_begins, site_opens, site_refused, site_unread, site_unready}
use Rattle.open_for_changing.proofs.Leavings.{leaves_all}
use Rattle.open_for_changing.proofs.beginning.begin.Goals as goal

pub returns-in_err-phrase-clause-moments : goal.returns-in_err-phrase-clause-moments
returns-in_err-phrase-clause-moments g c =
    begins_nowhere c.args.change.now.work (g.F.Folder.told c.args.folder.now) (g.F.Folder.told c.read_apart.new.folder) c.in_err-phrase.ensures.told

pub returns-in_err-phrase-clause-refused : goal.returns-in_err-phrase-clause-refused
returns-in_err-phrase-clause-refused g c =
    let change = c.args.change.now in
    let p = err_from_is_err_and c.from_residual.result c.from_residual.ensures.1 in
    subst (λ r. IfErr r (λ answer. overlap change.target.vault change.work ≡ false → IfSeen (g.F.Folder.told c.args.folder.now) (λ v. RefusesSite change v answer))) (sym p.1) (λ apart v is.
    subst (RefusesSite change v) (sym p.2) (site_unread change v c.in_err-phrase.field-0.0 (c.in_err-phrase.ensures.refused apart v is)))

pub returns-in_err-phrase-clause-own : goal.returns-in_err-phrase-clause-own
returns-in_err-phrase-clause-own g c =
    let change = c.args.change.now in
    let p = err_from_is_err_and c.from_residual.result c.from_residual.ensures.1 in
    subst (λ r. IfErr r (λ answer. overlap change.target.vault change.work ≡ false → IsTrue (is_of_beginning answer))) (sym p.1) (λ apart.
    subst (λ answer. IsTrue (is_of_beginning answer)) (sym p.2) (readied_begins c.in_err-phrase.field-0.0 (c.in_err-phrase.ensures.own apart)))

pub returns-in_err-work-clause-refused : goal.returns-in_err-work-clause-refused
returns-in_err-work-clause-refused g c =
    let change = c.args.change.now in
    let p = err_from_is_err_and c.from_residual-in_err-work.result c.from_residual-in_err-work.ensures.1 in
    subst (λ r. IfErr r (λ answer. overlap change.target.vault change.work ≡ false → IfSeen (g.F.Folder.told c.args.folder.now) (λ v. RefusesSite change v answer))) (sym p.1) (λ apart v is.
    subst (RefusesSite change v) (sym p.2) (site_unready change v c.in_ok-phrase.phrase c.in_err-work.field-0.0 (c.in_ok-phrase.ensures.phrase v is)
    (c.in_err-work.ensures.refused v (subst (λ t. IsSeen t v) (sym c.in_ok-phrase.ensures.told) is))))

pub returns-in_err-work-clause-own : goal.returns-in_err-work-clause-own
returns-in_err-work-clause-own g c =
    let change = c.args.change.now in
    let p = err_from_is_err_and c.from_residual-in_err-work.result c.from_residual-in_err-work.ensures.1 in
    subst (λ r. IfErr r (λ answer. overlap change.target.vault change.work ≡ false → IsTrue (is_of_beginning answer))) (sym p.1) (λ apart.
    subst (λ answer. IsTrue (is_of_beginning answer)) (sym p.2) (readied_begins c.in_err-work.field-0.0 c.in_err-work.ensures.own))

pub returns-in_err-vault-clause-refused : goal.returns-in_err-vault-clause-refused
returns-in_err-vault-clause-refused g c =
    let change = c.args.change.now in
    let told = g.F.Folder.told c.args.folder.now in
    let p = err_from_is_err_and c.from_residual-in_err-vault.result c.from_residual-in_err-vault.ensures.1 in
    subst (λ r. IfErr r (λ answer. overlap change.target.vault change.work ≡ false → IfSeen told (λ v. RefusesSite change v answer))) (sym p.1) (λ apart v is.
    let seen_then = subst (λ t. IsSeen t v) (sym c.in_ok-phrase.ensures.told) is in
    let after = seen_after change.work (g.F.Folder.told c.read_apart.new.folder) (g.F.Folder.told c.enter_settled.new.folder) c.in_ok-work.ensures.moments v seen_then in
    subst (RefusesSite change v) (sym p.2) (site_refused change v after.0 c.as_slice.result.now c.in_err-vault.field-0.0
    (same_under c.roots_show_their_own.ensures.outside c.roots_show_their_own.ensures.alike change.target.vault change.work apart v after.0 after.2)
    (subst (IsPhrase (v change.target.pass)) (sym c.as_slice.ensures) (c.in_ok-phrase.ensures.phrase v is)) (c.in_ok-work.ensures.entered v seen_then) (c.in_err-vault.ensures.refused after.0 after.1)))

pub returns-clause-opened : goal.returns-clause-opened
returns-clause-opened g c = λ v is.
    let change = c.args.change.now in
    let after = seen_after change.work (g.F.Folder.told c.read_apart.new.folder) (g.F.Folder.told c.enter_settled.new.folder) c.in_ok-work.ensures.moments v (subst (λ t. IsSeen t v) (sym c.in_ok-phrase.ensures.told) is) in
    site_opens change v after.0 c.as_slice.result.now c.in_ok-vault.vault.vault
    (same_under c.roots_show_their_own.ensures.outside c.roots_show_their_own.ensures.alike change.target.vault change.work c.in_ok-phrase.ensures.apart v after.0 after.2)
    (subst (IsPhrase (v change.target.pass)) (sym c.as_slice.ensures) (c.in_ok-phrase.ensures.phrase v is)) (c.in_ok-vault.ensures.opened after.0 after.1)

pub returns-in_err-phrase-clause-leaves : goal.returns-in_err-phrase-clause-leaves
returns-in_err-phrase-clause-leaves g c =
    leaves_all c.args.change.now.work (g.F.Folder.told c.args.folder.now) (g.F.Folder.told c.read_apart.new.folder) c.in_err-phrase.ensures.told
