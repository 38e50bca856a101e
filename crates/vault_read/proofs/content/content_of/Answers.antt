use Rattle.std.proofs.Common.{◌∙◌, Err, refl, sym, ap}
use Rattle.std.proofs.lemmas.Result.{err_from_is_err_and}
use Rattle.folder_spec.specs.Seen.{under}
use Rattle.plain_tree.specs.Names as plain
use Rattle.vault_spec.specs.Find.{find}
use Rattle.vault_spec.specs.Find as spec
use Rattle.vault_spec.specs.Standing.{standing}
use Rattle.vault_spec.specs.Vault.{format_of}
use Rattle.vault_read.proofs.FoundFiles.{content_placed, directory_placed, refuses_content}
use Rattle.vault_read.proofs.content.content_of.Goals as goal

pub returns-in_err-place-clause-fault : goal.returns-in_err-place-clause-fault
returns-in_err-place-clause-fault g c =
    let p = err_from_is_err_and c.from_residual.result c.from_residual.ensures.1 in
    let root = c.args.vault.now.root in
    let path = c.args.path.now in
    rw (p.1, p.2)
    (λ v seen. refuses_content root path (find (format_of c.args.vault.now.vault) (under root v) path) c.in_err-place.field-0.0 (c.in_err-place.ensures.fault v seen))

pub returns-in-File-clause-place : goal.returns-in-File-clause-place
returns-in-File-clause-place g c = λ v seen.
    let vault = c.args.vault.now in
    let path = c.args.path.now in
    content_placed vault.vault vault.root v path (standing (format_of vault.vault) (under vault.root v) path) c.in_ok-place.place refl (c.in_ok-place.ensures.place v seen) c.in-File.is

pub returns-in_ok-copy-in-Dir-clause-fault : goal.returns-in_ok-copy-in-Dir-clause-fault
returns-in_ok-copy-in-Dir-clause-fault g c = λ v seen.
    let vault = c.args.vault.now in
    let path = c.args.path.now in
    let f = format_of vault.vault in
    let w = under vault.root v in
    directory_placed f w vault.root path (standing f w path) c.in_ok-place.place (λ at directory stands. c.what_is_found_stands.ensures.directory f w path at directory stands)
    refl (c.in_ok-place.ensures.place v seen) c.in-Dir.is
    ∙ ap (λ (p : plain.Path). Err (spec.WrongKind p)) (sym c.in_ok-copy-in-Dir.ensures)
