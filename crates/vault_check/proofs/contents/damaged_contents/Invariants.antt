use Rattle.std.proofs.Common.{◌≡◌, ◌≤◌, take}
use Rattle.vault_check.specs.Contents.{HasRead}
use Rattle.vault_spec.specs.Vault.{format_of}
use Rattle.vault_check.proofs.contents.damaged_contents.Given as goal

abbrev pub invariant-loop-at : goal.invariant-loop-at
invariant-loop-at g l = record {
  told : g.F.Folder.told l.folder ≡ g.F.Folder.told l.initial.folder;
  read : HasRead (g.F.Folder.told l.initial.folder) (format_of l.vault.vault) (take l.at-index l.contents) l.damaged.items;
  grows : g.F.Folder.faults l.initial.folder ≤ g.F.Folder.faults l.folder;
}
