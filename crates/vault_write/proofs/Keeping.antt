-- A directory that is kept is that of its plain path still, once an item is placed.
use Rattle.std.proofs.Common.{◌≡◌, List, ℕ, Option, Some, None, Result, Ok, Err, OnOk, refl, sym, subst}
use Rattle.folder_spec.specs.Event.{Told, FromTo}
use Rattle.folder_spec.specs.Seen.{IsSeen, seen, under}
use Rattle.folder_spec.specs.View.{View}
use Rattle.plain_tree.specs.Names as plain
use Rattle.vault_read.specs.Finding.{IsDirPlace}
use Rattle.vault_read.specs.Opened.{FitsKey}
use Rattle.vault_read.specs.declared.finding.DirPlace.{DirPlace}
use Rattle.vault_spec.specs.Anywhere.{KeepsEntered}
use Rattle.vault_spec.specs.Format.{Format}
use Rattle.vault_spec.specs.Opened.{OpenedVault}
use Rattle.vault_spec.specs.Vault.{format_of}
use Rattle.item_making.specs.Ending.{Ending}
use Rattle.item_making.specs.Making.{Placing}
use Rattle.item_making.specs.declared.fault.PutFault.{PutFault}
use Rattle.folder_spec.specs.Path.{Path}
use Rattle.vault_write.specs.Calls.{How, IsAt, IsKept, MakesOne}
use Rattle.vault_write.specs.declared.kept.KeptDir.{KeptDir}

place_on : (root : Path) (f : Format) (u w : View) (front : plain.Path) (dir : DirPlace) → KeepsEntered f u w → IsDirPlace root f u front dir → IsDirPlace root f w front dir
place_on root f u w front dir keeps is = record {
  at = is.at;
  dir = is.dir;
  stands = keeps front is.at is.dir is.stands;
  at_is = is.at_is;
  folder_is = is.folder_is;
  key_is = is.key_is;
}

at_on : (R : Told → Told → Type 0) (vault : OpenedVault) (front : plain.Path) (dir : DirPlace) (t w : Option Told) → FromTo R t w
    → ((v x : View) → IsSeen t v → IsSeen w x → KeepsEntered (format_of vault.vault) (under vault.root v) (under vault.root x)) → IsAt vault front dir t → IsAt vault front dir w
at_on R vault front dir (Some a) (Some b) went keeps at x is =
    place_on vault.root (format_of vault.vault) (under vault.root (seen a.state)) (under vault.root x) front dir (keeps (seen a.state) x refl is) (at (seen a.state) refl)
at_on R vault front dir None (Some b) went keeps at x is = absurd went
at_on R vault front dir t None went keeps at x is = absurd is

-- the directory that was kept for an item that was placed
pub kept_on : (how : How) (p : Placing) (ending : Ending) (drawn : List ℕ) (t w : Option Told) (here : KeptDir) (result : Result (Unit {0}) PutFault) → MakesOne how p ending drawn t w result
    → FitsKey p.vault.vault here.dir.key → here.path ≡ p.front → IsAt p.vault p.front here.dir t → OnOk result (IsKept p.vault w (Some here))
kept_on how p ending drawn t w here (Err fault) one fits same at = tt
kept_on how p ending drawn t w here (Ok value) one fits same at = (
  fits,
  subst (λ path. IsAt p.vault path here.dir w) (sym same) (at_on _ p.vault p.front here.dir t w one.makes.moments (λ v x is_v is_x. (one.makes.ends v x is_v is_x).3) at),
)
