use Rattle.std.proofs.Common.{◌∙◌, inr, sym, subst}
use Rattle.folder_spec.specs.Seen.{under}
use Rattle.vault_spec.specs.Vault.{format_of}
use Rattle.vault_check.specs.Repairing.{AreStraysBehind}
use Rattle.vault_check.proofs.Repaired.{none_behind, stops_by}
use Rattle.checking_commands.proofs.repairing.move_strays_of.Goals as goal

pub returns-in-Ok-move_strays-clause-bare : goal.returns-in-Ok-move_strays-clause-bare
returns-in-Ok-move_strays-clause-bare g c v seen none =
    let root = c.args.vault.now.root in
    let f = format_of c.args.vault.now.vault in
    c.move_strays.ensures.nothing
    (none_behind root f (under root v) c.as_slice-2.result.now (subst (AreStraysBehind root f (under root v)) (sym c.as_slice-2.ensures.value) (c.in-Ok.ensures.strays v seen)) none)
    ∙ c.in-Ok.ensures.looks.told

pub returns-clause-bare : goal.returns-clause-bare
returns-clause-bare g c v seen none =
    let root = c.args.vault.now.root in
    let f = format_of c.args.vault.now.vault in
    c.move_strays.ensures.nothing
    (none_behind root f (under root v) c.as_slice-2.result.now (subst (AreStraysBehind root f (under root v)) (sym c.as_slice-2.ensures.value) (c.in-Ok.ensures.strays v seen)) none)
    ∙ c.in-Ok.ensures.looks.told

pub returns-clause-stops : goal.returns-clause-stops
returns-clause-stops g c =
    let root = c.args.vault.now.root in
    let f = format_of c.args.vault.now.vault in
    inr
    (stops_by root c.args.lost.now f c.as_slice-2.result.now (g.F.Folder.told c.args.folder.now)
    (λ v seen. subst (AreStraysBehind root f (under root v)) (sym c.as_slice-2.ensures.value) (c.in-Ok.ensures.strays v seen))
    (g.F.Folder.told c.strays_of.new.folder) (g.F.Folder.told c.move_strays.new.folder) c.in-Ok.ensures.looks.told c.in-Err-move_strays.ensures.stops)
