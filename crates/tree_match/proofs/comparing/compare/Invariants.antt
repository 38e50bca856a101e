use Rattle.std.proofs.Common.{◌≡◌, ◌≤◌, ℕ, List}
use Rattle.folder_spec.specs.View.{View, FileOf}
use Rattle.folder_spec.specs.Seen.{IfSeen, IsSeen}
use Rattle.vault_read.specs.Contents.{IsBeingRead}
use Rattle.tree_match.specs.Comparing.{compared}
use Rattle.tree_match.specs.Pieces.{bytes_left, uncompared}
use Rattle.tree_match.proofs.comparing.compare.Given as goal

-- what was compared is the same
abbrev pub invariant-pieces : goal.invariant-pieces
invariant-pieces g l = record {
  told : g.F.Folder.told l.folder ≡ g.F.Folder.told l.initial.folder;
  a_at : l.a.at ≡ l.initial.a.at;
  b_at : l.b.at ≡ l.initial.b.at;
  a_file : IfSeen (g.F.Folder.told l.initial.folder) (λ v. IsBeingRead v l.a.at l.a.decoding);
  b_file : IfSeen (g.F.Folder.told l.initial.folder) (λ v. IsBeingRead v l.b.at l.b.decoding);
  same : (v : View) → IsSeen (g.F.Folder.told l.initial.folder) v → (x y : List ℕ) → v l.initial.a.at ≡ FileOf x → v l.initial.b.at ≡ FileOf y
      → compared (uncompared l.initial.a x) (uncompared l.initial.b y) ≡ compared (uncompared l.a x) (uncompared l.b y);
  grows : g.F.Folder.faults l.initial.folder ≤ g.F.Folder.faults l.folder;
}

-- the bytes still to be compared
abbrev pub decreases-pieces : goal.decreases-pieces
decreases-pieces g l = bytes_left l.a
