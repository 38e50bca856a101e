use Rattle.std.proofs.Common.{◌≡◌, ◌-◌, ◌≤◌, ℕ, List}
use Rattle.folder_spec.specs.View.{View, FileOf}
use Rattle.folder_spec.specs.Seen.{IfSeen, IsSeen}
use Rattle.vault_read.specs.Contents.{IsBeingRead, still}
use Rattle.vault_check.proofs.contents.first_fault.Given as goal

-- what is still to come of the content ends as its reading does
abbrev pub invariant-chunks : goal.invariant-chunks
invariant-chunks g l = record {
  told : g.F.Folder.told l.folder ≡ g.F.Folder.told l.initial.folder;
  at : l.reader.at ≡ l.initial.reader.at;
  file : IfSeen (g.F.Folder.told l.initial.folder) (λ v. IsBeingRead v l.reader.at l.reader.decoding);
  ending : (v : View) → IsSeen (g.F.Folder.told l.initial.folder) v → (bytes : List ℕ) → v l.initial.reader.at ≡ FileOf bytes
      → (still l.initial.reader.decoding bytes).ending ≡ (still l.reader.decoding bytes).ending;
  grows : g.F.Folder.faults l.initial.folder ≤ g.F.Folder.faults l.folder;
}

-- the chunks still to be given
abbrev pub decreases-chunks : goal.decreases-chunks
decreases-chunks g l = 1099511627776 - l.reader.decoding.number
