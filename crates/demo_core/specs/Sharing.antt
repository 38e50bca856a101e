-- An item of the demonstration that shares its place in a vault with another.
use Rattle.std.specs.Prelude.{◌≡◌, ◌<◌, ℕ, List, [], ◌∷◌, ◌++◌, Option, Some, Ok, IsTrue}
use Rattle.folder_spec.specs.Event.{Told}
use Rattle.folder_spec.specs.Moments.{Moments}
use Rattle.folder_spec.specs.Path as folder
use Rattle.folder_spec.specs.Seen.{seen, under}
use Rattle.folder_spec.specs.View.{View}
use Rattle.plain_tree.specs.Names as plain
use Rattle.port_model.specs.Draws.{ByteStream, Draws}
use Rattle.vault_spec.specs.Alike.{HasNoItem}
use Rattle.vault_spec.specs.Find.{enter}
use Rattle.vault_spec.specs.Findings.{IsClean}
use Rattle.vault_spec.specs.Format.{Directory}
use Rattle.vault_spec.specs.Making.{NewItem, NewDirectory}
use Rattle.vault_spec.specs.Standing.{standing_in}
use Rattle.vault_spec.specs.Tidy.{HasOwnPlace, IsTidy}
use Rattle.vault_spec.specs.Vault.{Vault, IsVault, format_of}
use Rattle.demo_core.specs.Demonstration.{is_directory, path_of}
use Rattle.demo_core.specs.Making.{phrase}

-- The item of this number is new in a clean and tidy vault that the passphrase opens, and with these bytes drawn has no place of its own
-- there: it would get the stored place of another item, or as a directory the folder of another, the root's among them.
pub record LacksOwnPlace (number : ℕ) (view : View) (drawn : List ℕ) : Type 0 where
  pub vault : Vault
  pub opens : IsVault view phrase vault
  pub clean : IsClean (format_of vault) view
  pub tidy : IsTidy (format_of vault) view
  pub front : plain.Path
  pub name : List ℕ
  pub path : path_of number ≡ front ++ name ∷ []
  pub dir : Directory
  pub entered : enter (format_of vault) view front ≡ Ok dir
  pub free : HasNoItem (standing_in (format_of vault) view dir name)
  pub item : NewItem
  pub directory : item ≡ NewDirectory → IsTrue (is_directory number)
  pub shared : ¬ HasOwnPlace (format_of vault) view dir name item drawn

-- whatever is done, a folder goes from one state to another
abbrev pub GoesOn : Option Told → Option Told → Type 0
GoesOn = Moments (λ s0 s. Unit {0}) (λ s0 s e. Unit {0})

-- At some moment of a call, and with the bytes that it drew last, one of the first items has no place of its own in the vault at a root.
pub record SharesPlace (root : folder.Path) (before after : Option Told) (stream stream' : Option ByteStream) (count : ℕ) : Type 0 where
  pub now : Told
  pub since : GoesOn before (Some now)
  pub until : GoesOn (Some now) after
  pub earlier : List ℕ
  pub drawn : List ℕ
  pub were_drawn : Draws stream stream' (earlier ++ drawn)
  pub number : ℕ
  pub first : number < count
  pub lacks : LacksOwnPlace number (under root (seen now.state)) drawn
