use Rattle.std.proofs.Common.{◌≡◌, ◌⊎◌, IsTrue, ◌∙◌, inr, refl, string_bytes, sym, subst}
use Rattle.folder_spec.specs.Event.{FromTo}
use Rattle.folder_spec.specs.Seen.{IfSeen, IsSeen, under}
use Rattle.vault_spec.specs.Vault.{format_of}
use Rattle.vault_walk.specs.Surveyed.{IsWithin}
use Rattle.vault_check.specs.Repairing.{StopsMoving}
use Rattle.checking_commands.specs.Repair.{HasStopped, IsOfMoving, Moved, OfRepairing, TellsMoved, TellsMovedStrays, is_of_test}
use Rattle.open_for_reading.specs.Refusing.{Unless}
use Rattle.command_answers.specs.declared.answer.Answer.TheVariants.{Done}
use Rattle.checking_commands.proofs.Repairs.{has_moved, has_stopped, moves_strays, moving, moving_or_not, when_err, when_ok}
use Rattle.checking_commands.proofs.repairing.move_strays.Goals as goal

pub returns-clause-moved : goal.returns-clause-moved
returns-clause-moved g c =
    let target = c.args.target.now in
    let vault = c.in_ok-vault.vault in
    let t0 = g.F.Folder.told c.args.folder.now in
    let t2 = g.F.Folder.told c.test_free.new.folder in
    let t3 = g.F.Folder.told c.move_strays_of.new.folder in
    when_ok c.move_strays_of.result (λ text. TellsMoved vault.vault vault.root target.lost (string_bytes text) t2 t3) (λ text. TellsMovedStrays target (string_bytes text) t0 t3)
    (λ text tells. has_moved target vault.root vault.vault t0 t2 t3 c.in_ok-vault.ensures.root (c.in_ok-test_free.ensures.told ∙ c.in_ok-vault.ensures.told) c.in_ok-vault.ensures.opened c.requires
    (string_bytes text) tells c.repaired_vaults_have_no_strays.ensures)
    c.move_strays_of.ensures.moved

pub returns-clause-moves : goal.returns-clause-moves
returns-clause-moves g c = inr
    (moves_strays c.args.target.now c.in_ok-vault.vault.root c.in_ok-vault.vault.vault (g.F.Folder.told c.args.folder.now) (g.F.Folder.told c.test_free.new.folder)
    (g.F.Folder.told c.move_strays_of.new.folder) c.in_ok-vault.ensures.root (c.in_ok-test_free.ensures.told ∙ c.in_ok-vault.ensures.told) c.in_ok-vault.ensures.opened c.requires
    c.move_strays_of.ensures.moments c.move_strays_of.ensures.bare c.repairs_keep_what_opens.ensures)

pub returns-clause-stops : goal.returns-clause-stops
returns-clause-stops g c =
    let target = c.args.target.now in
    let vault = c.in_ok-vault.vault in
    let t0 = g.F.Folder.told c.args.folder.now in
    let t2 = g.F.Folder.told c.test_free.new.folder in
    let t3 = g.F.Folder.told c.move_strays_of.new.folder in
    when_err c.move_strays_of.result (λ answer. (t3 ≡ t2) ⊎ FromTo (StopsMoving vault.root (format_of vault.vault) target.lost) t2 t3) (λ answer. (t3 ≡ t0) ⊎ HasStopped target t0 t3)
    (λ answer stops. has_stopped target vault.root vault.vault t0 t2 t3 c.in_ok-vault.ensures.root (c.in_ok-test_free.ensures.told ∙ c.in_ok-vault.ensures.told) c.in_ok-vault.ensures.opened c.requires
    stops)
    c.move_strays_of.ensures.stops

pub returns-clause-passed : goal.returns-clause-passed
returns-clause-passed g c =
    let target = c.args.target.now in
    let vault = c.in_ok-vault.vault in
    when_ok c.move_strays_of.result (λ text. IfSeen (g.F.Folder.told c.test_free.new.folder) (λ v. IsWithin (format_of vault.vault) (under vault.root v)))
    (λ text. IfSeen (g.F.Folder.told c.args.folder.now) (λ v. OfRepairing target v Done))
    (λ text inside v is.
    let opened = subst (λ t. IsSeen t v) (sym c.in_ok-vault.ensures.told) is in
    let tested = subst (λ t. IsSeen t v) (sym c.in_ok-test_free.ensures.told) opened in
    moving target v vault.vault Done (c.in_ok-vault.ensures.opened v is) (c.in_ok-test_free.ensures.free v opened)
    (Moved refl (subst (λ root. IsWithin (format_of vault.vault) (under root v)) c.in_ok-vault.ensures.root (inside v tested))))
    c.move_strays_of.ensures.within

pub returns-clause-cause : goal.returns-clause-cause
returns-clause-cause g c =
    let target = c.args.target.now in
    let vault = c.in_ok-vault.vault in
    when_err c.move_strays_of.result
    (λ answer. IfSeen (g.F.Folder.told c.test_free.new.folder) (λ v. Unless answer (IsOfMoving (format_of vault.vault) (under vault.root v) answer)))
    (λ answer. IfSeen (g.F.Folder.told c.args.folder.now) (λ v. Unless answer (OfRepairing target v answer)))
    (λ answer cause v is.
    let opened = subst (λ t. IsSeen t v) (sym c.in_ok-vault.ensures.told) is in
    let tested = subst (λ t. IsSeen t v) (sym c.in_ok-test_free.ensures.told) opened in
    moving_or_not target v vault.vault answer (c.in_ok-vault.ensures.opened v is) (c.in_ok-test_free.ensures.free v opened)
    (subst (λ root. Unless answer (IsOfMoving (format_of vault.vault) (under root v) answer)) c.in_ok-vault.ensures.root (cause v tested)))
    c.move_strays_of.ensures.cause

pub returns-clause-tested : goal.returns-clause-tested
returns-clause-tested g c =
    when_err c.move_strays_of.result
    (λ answer. IsTrue (is_of_test answer) → g.F.Folder.told c.move_strays_of.new.folder ≡ g.F.Folder.told c.test_free.new.folder)
    (λ answer. IsTrue (is_of_test answer) → g.F.Folder.told c.move_strays_of.new.folder ≡ g.F.Folder.told c.args.folder.now)
    (λ answer unchanged test. unchanged test ∙ c.in_ok-test_free.ensures.told ∙ c.in_ok-vault.ensures.told) c.move_strays_of.ensures.tested
