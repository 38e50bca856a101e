use Rattle.std.proofs.Common.{◌≡◌, ◌++◌, Vec, Global, sym, ap, ◌∙◌, subst, arith}
use Rattle.std.proofs.lemmas.Result.{err_from_is_err_and}
use Rattle.folder_model.proofs.Counting.{counts_at_fault}
use Rattle.folder_spec.specs.Listing.{Item, IsListing}
use Rattle.folder_spec.specs.Seen.{IsSeen, under}
use Rattle.folder_spec.specs.View.{Folder}
use Rattle.vault_spec.specs.Format.{Directory}
use Rattle.vault_spec.specs.Vault.{format_of}
use Rattle.vault_read.specs.Listing.{HasItems, items_of}
use Rattle.vault_read.specs.declared.listing.Found.{Found}
use Rattle.vault_read.proofs.Gathering.{listed}
use Rattle.vault_read.proofs.listing.found_in.Goals as goal

pub returns-clause-items : goal.returns-clause-items
returns-clause-items g c v is =
    let vault = c.args.vault.now.vault in
    let root = c.args.vault.now.root in
    let dir : Directory = c.args.dir.now in
    let entries = c.in_ok-entries.entries.items in
    let at_is : c.in_ok-at.at ≡ root ++ dir.folder = c.in_ok-at.ensures ∙ ap (λ r. r ++ c.dir.inside.folder) c.root.ensures ∙ ap (λ (d : Directory). root ++ d.folder) c.dir.view_is in
    let later = subst (λ t. IsSeen t v) (sym c.in_ok-entries.ensures.told) is in
    listed vault root v dir entries c.in_ok-found.found.items c.sorted.result.items
    (subst (λ p. IsListing v p entries) at_is (c.in_ok-entries.ensures.answer v is).1)
    (subst (λ es. HasItems (format_of vault) (under root v) dir es (items_of c.in_ok-found.found.items)) c.as_slice.ensures.value (c.in_ok-found.ensures.items v later))
    (c.in_ok-found.ensures.places v later) c.sorted.ensures

pub returns-in_err-entries-clause-counts : goal.returns-in_err-entries-clause-counts
returns-in_err-entries-clause-counts g c =
    let p = err_from_is_err_and c.from_residual-in_err-entries.result c.from_residual-in_err-entries.ensures.1 in
    let n0 = g.F.Folder.faults c.args.folder.now in
    let root = c.args.vault.now.root in
    let dir : Directory = c.args.dir.now in
    let at = c.in_ok-at.at in
    let at_is : at ≡ root ++ dir.folder = c.in_ok-at.ensures ∙ ap (λ r. r ++ c.dir.inside.folder) c.root.ensures ∙ ap (λ (d : Directory). root ++ d.folder) c.dir.view_is in
    rw (p.1, p.2)
    (counts_at_fault (Vec Item Global) (Vec Found Global) (g.F.Folder.told c.args.folder.now) n0 n0 (g.F.Folder.faults c.list.new.self) (λ v. v at ≡ Folder)
    (λ v entries. IsListing v at entries.items) c.in_err-entries.field-0.0 (omega arith) (λ v is. ap v at_is ∙ c.requires.folder v is) c.in_err-entries.ensures.answer
    c.in_err-entries.ensures.counts)
