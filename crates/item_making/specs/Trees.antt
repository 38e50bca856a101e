-- What views of a folder show while one item is made in a vault: the old tree, or the new one. Here nothing is said of chunks, of
-- tables or of a format's files.
use Rattle.folder_spec.specs.Path.{Path}
use Rattle.folder_spec.specs.View.{View, AgreeIn}
use Rattle.folder_spec.specs.Region.{apart_from}
use Rattle.folder_spec.specs.Seen.{under}
use Rattle.plain_tree.specs.Names as plain
use Rattle.vault_spec.specs.Adding.{OpensAs, OpensWith}
use Rattle.vault_spec.specs.Alike.{IsOrderly}
use Rattle.vault_spec.specs.Findings.{IsClean}
use Rattle.vault_spec.specs.Format.{Format}
use Rattle.vault_spec.specs.Making.{NewItem, NewDirectory, NewFile}
use Rattle.vault_spec.specs.Opens.{Opened, Directory, Content}
use Rattle.vault_spec.specs.Staying.{LoadsAlike}
use Rattle.vault_spec.specs.Tidy.{StaysTidy}

-- the view shows a vault in good order at the root: nothing is found in it, and it is orderly
pub record ShowsVault (f : Format) (root : Path) (v : View) : Type 0 where
  pub clean : IsClean f (under root v)
  pub orderly : IsOrderly f (under root v)

-- All is the same but what stands at the root and below it. There the same vault stands, in good order.
pub record KeepsVault (f : Format) (root : Path) (v w : View) : Type 0 where
  pub elsewhere : AgreeIn (apart_from root) w v
  pub loads : LoadsAlike (under root v) (under root w)
  pub good : ShowsVault f root w

-- A vault stays in good order, nothing is left over in it, and each passphrase opens it as it did.
pub record StaysGood (f : Format) (v w : View) : Type 0 where
  pub clean : IsClean f w
  pub tidy : StaysTidy f v w
  pub orderly : IsOrderly f w
  pub loads : LoadsAlike v w

-- and in it all opens as it did
pub record KeepsTree (f : Format) (root : Path) (v w : View) : Type 0 where
  pub vault : KeepsVault f root v w
  pub opens : OpensAs f (under root v) (under root w)

-- and in it all opens as it did but at one path, where the item opens
pub record GainsItem (f : Format) (root : Path) (path : plain.Path) (item : Opened) (v w : View) : Type 0 where
  pub vault : KeepsVault f root v w
  pub opens : OpensWith f (under root v) (under root w) path item

-- what an item opens as
abbrev pub opens_as : NewItem → Opened
opens_as NewDirectory = Directory
opens_as (NewFile content) = Content content
