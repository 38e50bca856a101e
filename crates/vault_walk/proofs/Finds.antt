-- Which findings an entry of a vault may have.
use Rattle.std.proofs.Common.{◌≡◌, ◌≢◌, [], Bool, true, false, cond, ◌&&◌, not, inl, inr, refl, sym, ap, ◌∙◌}
use Rattle.folder_spec.specs.Path.{Part, Path}
use Rattle.folder_spec.specs.View.{Found, NoEntry, Folder, FileOf, Special, View}
use Rattle.vault_names.specs.Cryptomator.{is_cm_long_name}
use Rattle.vault_names.specs.Gocryptfs.{is_long_name}
use Rattle.vault_spec.specs.Cryptomator.{cm_item_of, content_file, folder_item, has_file, id_file, lost_by, symlink_file}
use Rattle.vault_spec.specs.Format.{Format, Directory, Item, Nothing, FileItem, DirectoryItem, NoItem, Expected, Extra}
use Rattle.vault_spec.specs.Gocryptfs.{go_item}
use Rattle.vault_spec.specs.Vault.{Vault, Gocryptfs, Cryptomator, format_of}
use Rattle.vault_spec.specs.declared.Finding.{Finding}
use Rattle.vault_spec.specs.declared.Finding.TheVariants as is
use Rattle.vault_walk.specs.Here.{IsFindingHere, IsNoItemHere, IsUnnamedHere}
use Rattle.std.specs.Prelude.{codes}

-- 8, 9 and 11
abbrev pub is_odd : Finding → Bool
is_odd is.SymlinkFound = true
is_odd is.WrongKind = true
is_odd is.TwoKinds = true
is_odd is.BadStoredName = false
is_odd is.NoDirKey = false
is_odd is.LongNameLost = false
is_odd is.OrphanLongName = false
is_odd is.DirIdTwice = false
is_odd is.NoFolder = false
is_odd is.OrphanFolder = false
is_odd is.ExtraEntry = false
is_odd is.HeaderDamaged = false
is_odd is.ChunkDamaged = false
is_odd is.EmptyOrphan = false

-- 1, 3 and 9
abbrev pub is_of_no_name : Finding → Bool
is_of_no_name is.BadStoredName = true
is_of_no_name is.LongNameLost = true
is_of_no_name is.WrongKind = true
is_of_no_name is.SymlinkFound = false
is_of_no_name is.TwoKinds = false
is_of_no_name is.NoDirKey = false
is_of_no_name is.OrphanLongName = false
is_of_no_name is.DirIdTwice = false
is_of_no_name is.NoFolder = false
is_of_no_name is.OrphanFolder = false
is_of_no_name is.ExtraEntry = false
is_of_no_name is.HeaderDamaged = false
is_of_no_name is.ChunkDamaged = false
is_of_no_name is.EmptyOrphan = false

abbrev pub has_odd : Item → Bool
has_odd (NoItem finding) = is_odd finding
has_odd Nothing = true
has_odd (FileItem rest) = true
has_odd DirectoryItem = true

abbrev is_nothing : Item → Bool
is_nothing Nothing = true
is_nothing (NoItem finding) = false
is_nothing (FileItem rest) = false
is_nothing DirectoryItem = false

-- what entries of a format may be
pub record FindsRight (f : Format) : Type 0 where
  pub absent : (long : Bool) (v : View) → v [] ≡ NoEntry → f.item long v ≡ Nothing
  pub present : (long : Bool) (v : View) → f.item long v ≡ Nothing → v [] ≡ NoEntry
  pub odd : (long : Bool) (v : View) → has_odd (f.item long v) ≡ true
  pub unnamed : (entry : Part) (there : Found) → is_of_no_name (f.unnamed entry there) ≡ true
  pub inner_odd : (long : Bool) (finding : Finding) (entry : Part) (there : Found) → f.inner_role long (NoItem finding) entry there ≢ Extra
  pub inner_nothing : (long : Bool) (entry : Part) (there : Found) → f.inner_role long Nothing entry there ≢ Extra

expected : Expected ≢ Extra
expected e = cc

go_present : (there : Found) → go_item there ≡ Nothing → there ≡ NoEntry
go_present NoEntry e = refl
go_present (FileOf bytes) e = cc
go_present Folder e = cc
go_present Special e = cc

go_odd : (there : Found) → has_odd (go_item there) ≡ true
go_odd NoEntry = refl
go_odd (FileOf bytes) = refl
go_odd Folder = refl
go_odd Special = refl

go_unnamed_right : (b : Bool) → is_of_no_name (cond b is.LongNameLost is.BadStoredName) ≡ true
go_unnamed_right true = refl
go_unnamed_right false = refl

folder_odd : (long content id symlink : Bool) → has_odd (folder_item long content id symlink) ≡ true
folder_odd true true true true = refl
folder_odd true true true false = refl
folder_odd true true false true = refl
folder_odd true true false false = refl
folder_odd true false true true = refl
folder_odd true false true false = refl
folder_odd true false false true = refl
folder_odd true false false false = refl
folder_odd false true true true = refl
folder_odd false true true false = refl
folder_odd false true false true = refl
folder_odd false true false false = refl
folder_odd false false true true = refl
folder_odd false false true false = refl
folder_odd false false false true = refl
folder_odd false false false false = refl

folder_stands : (long content id symlink : Bool) → is_nothing (folder_item long content id symlink) ≡ false
folder_stands true true true true = refl
folder_stands true true true false = refl
folder_stands true true false true = refl
folder_stands true true false false = refl
folder_stands true false true true = refl
folder_stands true false true false = refl
folder_stands true false false true = refl
folder_stands true false false false = refl
folder_stands false true true true = refl
folder_stands false true true false = refl
folder_stands false true false true = refl
folder_stands false true false false = refl
folder_stands false false true true = refl
folder_stands false false true false = refl
folder_stands false false false true = refl
folder_stands false false false false = refl

cm_odd : (long : Bool) (v : View) (there : Found) → has_odd (cm_item_of long v there) ≡ true
cm_odd true v NoEntry = refl
cm_odd false v NoEntry = refl
cm_odd true v (FileOf bytes) = refl
cm_odd false v (FileOf bytes) = refl
cm_odd true v Special = refl
cm_odd false v Special = refl
cm_odd true v Folder = folder_odd true (has_file v content_file) (has_file v id_file) (has_file v symlink_file)
cm_odd false v Folder = folder_odd false (has_file v content_file) (has_file v id_file) (has_file v symlink_file)

no_folder_is_nothing : (long content id symlink : Bool) → folder_item long content id symlink ≡ Nothing → ⊥
no_folder_is_nothing long content id symlink e =
    let clash : true ≡ false = sym (ap is_nothing e) ∙ folder_stands long content id symlink in cc clash

cm_present : (long : Bool) (v : View) (there : Found) → cm_item_of long v there ≡ Nothing → there ≡ NoEntry
cm_present long v NoEntry e = refl
cm_present true v (FileOf bytes) e = cc
cm_present false v (FileOf bytes) e = cc
cm_present true v Special e = cc
cm_present false v Special e = cc
cm_present long v Folder e = absurd (no_folder_is_nothing long (has_file v content_file) (has_file v id_file) (has_file v symlink_file) e)

lost_right : (there : Found) → is_of_no_name (lost_by there) ≡ true
lost_right Folder = refl
lost_right NoEntry = refl
lost_right (FileOf bytes) = refl
lost_right Special = refl

cm_unnamed_right : (b : Bool) (there : Found) → is_of_no_name (cond b (lost_by there) is.BadStoredName) ≡ true
cm_unnamed_right true there = lost_right there
cm_unnamed_right false there = refl

pub finds_right : (vault : Vault) → FindsRight (format_of vault)
finds_right (Gocryptfs keys) = record {
  absent = λ long v none. ap go_item none;
  present = λ long v e. go_present (v []) e;
  odd = λ long v. go_odd (v []);
  unnamed = λ entry there. go_unnamed_right (is_long_name entry);
  inner_odd = λ long finding entry there e. expected e;
  inner_nothing = λ long entry there e. expected e;
}
finds_right (Cryptomator cm) = record {
  absent = λ long v none. ap (cm_item_of long v) none;
  present = λ long v e. cm_present long v (v []) e;
  odd = λ long v. cm_odd long v (v []);
  unnamed = λ entry there. cm_unnamed_right (is_cm_long_name entry) there;
  inner_odd = λ long finding entry there e. expected e;
  inner_nothing = λ long entry there e. expected e;
}

-- such findings are found
pub odd_here : (f : Format) (v : View) (dir : Directory) (finding : Finding) (at : Path) → is_odd finding ≡ true → IsNoItemHere f v dir finding at → IsFindingHere f v dir finding at
odd_here f v dir is.SymlinkFound at odd here = here
odd_here f v dir is.WrongKind at odd here = inr here
odd_here f v dir is.TwoKinds at odd here = here
odd_here f v dir is.BadStoredName at odd here = cc
odd_here f v dir is.NoDirKey at odd here = cc
odd_here f v dir is.LongNameLost at odd here = cc
odd_here f v dir is.OrphanLongName at odd here = cc
odd_here f v dir is.DirIdTwice at odd here = cc
odd_here f v dir is.NoFolder at odd here = cc
odd_here f v dir is.OrphanFolder at odd here = cc
odd_here f v dir is.ExtraEntry at odd here = cc
odd_here f v dir is.HeaderDamaged at odd here = cc
odd_here f v dir is.ChunkDamaged at odd here = cc
odd_here f v dir is.EmptyOrphan at odd here = cc

pub unnamed_here : (f : Format) (v : View) (dir : Directory) (finding : Finding) (at : Path) → is_of_no_name finding ≡ true → IsUnnamedHere f v dir finding at → IsFindingHere f v dir finding at
unnamed_here f v dir is.BadStoredName at none here = here
unnamed_here f v dir is.LongNameLost at none here = here
unnamed_here f v dir is.WrongKind at none here = inl here
unnamed_here f v dir is.SymlinkFound at none here = cc
unnamed_here f v dir is.TwoKinds at none here = cc
unnamed_here f v dir is.NoDirKey at none here = cc
unnamed_here f v dir is.OrphanLongName at none here = cc
unnamed_here f v dir is.DirIdTwice at none here = cc
unnamed_here f v dir is.NoFolder at none here = cc
unnamed_here f v dir is.OrphanFolder at none here = cc
unnamed_here f v dir is.ExtraEntry at none here = cc
unnamed_here f v dir is.HeaderDamaged at none here = cc
unnamed_here f v dir is.ChunkDamaged at none here = cc
unnamed_here f v dir is.EmptyOrphan at none here = cc
