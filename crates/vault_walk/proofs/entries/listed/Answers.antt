use Rattle.std.proofs.Common.{◌≡◌, Vec, Global, ap, ◌∙◌, subst, arith}
use Rattle.std.proofs.lemmas.Result.{err_from_is_err_and}
use Rattle.folder_model.proofs.Counting.{counts_at_fault}
use Rattle.folder_spec.specs.Listing.{Item, IsListing}
use Rattle.folder_spec.specs.View.{Folder}
use Rattle.vault_walk.proofs.Folders.{listing_under}
use Rattle.vault_walk.proofs.entries.listed.Goals as goal

pub returns-clause-listing : goal.returns-clause-listing
returns-clause-listing g c v is =
    let root = c.args.root.now in
    let at = c.args.at.now in
    listing_under root at v c.in_ok-entries.entries.items
    (subst (λ p. IsListing v p c.in_ok-entries.entries.items) c.in_ok-path.ensures (c.in_ok-entries.ensures.answer v is).1)

pub returns-in_err-entries-clause-counts : goal.returns-in_err-entries-clause-counts
returns-in_err-entries-clause-counts g c =
    let p = err_from_is_err_and c.from_residual-in_err-entries.result c.from_residual-in_err-entries.ensures.1 in
    let n0 = g.F.Folder.faults c.args.folder.now in
    let path = c.in_ok-path.path in
    rw (p.1, p.2)
    (counts_at_fault (Vec Item Global) (Vec Item Global) (g.F.Folder.told c.args.folder.now) n0 n0 (g.F.Folder.faults c.list.new.self) (λ v. v path ≡ Folder)
    (λ v entries. IsListing v path entries.items) c.in_err-entries.field-0.0 (omega arith) (λ v is. ap v c.in_ok-path.ensures ∙ c.requires v is) c.in_err-entries.ensures.answer
    c.in_err-entries.ensures.counts)
