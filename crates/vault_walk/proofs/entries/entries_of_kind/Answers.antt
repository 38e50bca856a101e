use Rattle.folder_spec.specs.Seen.{under}
use Rattle.vault_walk.proofs.Folders.{seen_folders, folders_under, no_listing, not_folder}
use Rattle.vault_walk.proofs.entries.entries_of_kind.Goals as goal

pub returns-in_default-clause-listing : goal.returns-in_default-clause-listing
returns-in_default-clause-listing g c v is =
    let w = under c.args.root.now v in
    rw c.new.ensures.items (no_listing w c.args.at.now
    (folders_under c.args.root.now v (seen_folders (g.F.Folder.told c.args.folder.now) (g.met.F.Folder.sound c.args.folder.now) v is))
    (not_folder (w c.args.at.now) c.args.kind (c.requires v is) c.in_default.not-Dir))
