-- The items of a directory, by the entries of its folder.
use Rattle.std.specs.Prelude.{◌≡◌, ◌≢◌, ◌↔◌, ◌≤◌, ℕ, Bool, true, false, ◌&&◌, not, List, ◌++◌, length, map, codes, nat_eq, Option, Some, None, is_some, IsTrue, AllPairs, Contains}
use Rattle.std.specs.List.{starts_with, ends_with}
use Rattle.std.specs.List.Sorted.{IsPermutation}
use Rattle.std.specs.Str.{bytes_eq, IsUtf8}
use Rattle.std.specs.declared.cmp.Ordering.TheVariants.{Less}
use Rattle.folder_spec.specs.Listing as folder
use Rattle.folder_spec.specs.Path.{Path}
use Rattle.folder_spec.specs.View.{View, FileOf}
use Rattle.plain_tree.specs.Names.{is_name}
use Rattle.plain_tree.specs.Order.{name_cmp}
use Rattle.plain_tree.specs.declared.NodeKind.TheVariants as node
use Rattle.vault_names.specs.Cryptomator.{IsCmTextOf, cm_entry_of}
use Rattle.vault_names.specs.Gocryptfs.{IsTextOf, entry_of}
use Rattle.vault_names.specs.declared.entry.Stored.{Stored}
use Rattle.vault_spec.specs.Format.{Format, Directory, Item, Nothing, FileItem, DirectoryItem, NoItem}
use Rattle.vault_spec.specs.Listing.{AreListed, Listed, node_of}
use Rattle.vault_spec.specs.Standing.{standing_in}
use Rattle.vault_spec.specs.Vault.{Vault, Gocryptfs, Cryptomator, format_of}
use Rattle.vault_read.specs.Finding.{IsPlace}
use Rattle.vault_read.specs.Opened.{kind_of}
use Rattle.vault_read.specs.declared.listing.Found.{Found}
use Rattle.vault_read.specs.declared.vault.VaultKind.{VaultKind}
use Rattle.vault_read.specs.declared.vault.VaultKind.TheVariants as kind

-- the name of an entry is that of a long one
abbrev pub is_long : VaultKind → List ℕ → Bool
is_long kind.Gocryptfs entry = starts_with nat_eq entry (codes "gocryptfs.longname.")
is_long kind.Cryptomator entry = ends_with nat_eq entry (codes ".c9s")

-- the text that an entry stands for: its own name, or what the file of a long one holds
abbrev pub IsTextAt : Format → View → Directory → List ℕ → Bool → List ℕ → Type 0
IsTextAt f v dir entry false text = text ≡ entry
IsTextAt f v dir entry true text = v (dir.folder ++ f.full_at entry) ≡ FileOf text

-- the text is that of a name in the directory with a key
abbrev pub IsNameOf : Vault → List ℕ → List ℕ → List ℕ → Type 0
IsNameOf (Gocryptfs keys) key name text = IsTextOf keys.names key name text
IsNameOf (Cryptomator vault) key name text = IsCmTextOf vault.keys key name text

-- what is stored of the name that has this text
abbrev pub stored_by : Vault → List ℕ → Stored
stored_by (Gocryptfs keys) text = entry_of text
stored_by (Cryptomator vault) text = cm_entry_of vault.threshold text

-- what is stored has a text of its own where its name is long, and only there
abbrev pub has_form : Bool → Option (List ℕ) → Bool
has_form long None = not long
has_form long (Some text) = long

-- what is stored of a name stands at this entry
abbrev pub is_entry : List ℕ → Bool → Stored → Bool
is_entry entry long s = bytes_eq s.name entry && has_form long s.full

-- A text is that of one name at most. An entry tells whether its name is long. The text of a name is UTF-8, and of at most
-- 1,024 bytes.
pub record TellsNames (vault : Vault) (key : List ℕ) : Type 0 where
  pub one : (name other text : List ℕ) → IsNameOf vault key name text → IsNameOf vault key other text → name ≡ other
  pub form : (name : List ℕ) → IsTrue (is_name name)
      → is_long (kind_of vault) ((format_of vault).stored key name).name ≡ is_some ((format_of vault).stored key name).full
  pub short : (name text : List ℕ) → IsNameOf vault key name text → length text ≤ 1024
  pub utf8 : (name text : List ℕ) → IsNameOf vault key name text → IsUtf8 text

-- the item with this name, if one stands at its entry
abbrev pub named_item : List ℕ → Item → Option Listed
named_item name Nothing = None
named_item name (FileItem rest) = Some (record { name = name; node = node.File })
named_item name DirectoryItem = Some (record { name = name; node = node.Dir })
named_item name (NoItem finding) = None

-- an item stands under its name, at this entry
pub record IsItemAt (f : Format) (v : View) (dir : Directory) (entry : List ℕ) (item : Listed) : Type 0 where
  pub stands : node_of (standing_in f v dir item.name) ≡ Some item.node
  pub entry_is : (f.stored dir.key item.name).name ≡ entry

-- this is the item at an entry, if there is one
abbrev pub IsItemOf : Format → View → Directory → List ℕ → Option Listed → Type 0
IsItemOf f v dir entry found = (item : Listed) → (found ≡ Some item) ↔ IsItemAt f v dir entry item

-- These are the items at the entries: each stands at one, and what stands at one is among them. Where the entries have names of
-- their own, the items have too.
pub record HasItems (f : Format) (v : View) (dir : Directory) (entries : List folder.Item) (items : List Listed) : Type 0 where
  pub sound : (item : Listed) → Contains items item → (entry : folder.Item) × Contains entries entry × IsItemAt f v dir entry.name item
  pub complete : (entry : folder.Item) (item : Listed) → Contains entries entry → IsItemAt f v dir entry.name item → Contains items item
  pub apart : AllPairs (λ (x y : folder.Item). x.name ≢ y.name) entries → AllPairs (λ (x y : Listed). x.name ≢ y.name) items

-- ---- items with their places

-- an item that was found, without its place; and those of a list
abbrev pub item_found : Option Found → Option Listed
item_found None = None
item_found (Some found) = Some found.item

abbrev pub items_of : List Found → List Listed
items_of found = map (λ (x : Found). x.item) found

-- where what an entry stores is, by the entry's path
abbrev pub item_path : Path → Item → Path
item_path at Nothing = at
item_path at (FileItem rest) = at ++ rest
item_path at DirectoryItem = at
item_path at (NoItem finding) = at

-- the place of an item of a directory is as looking for its path tells it
abbrev pub HasPlace : Path → Format → View → Directory → Found → Type 0
HasPlace root f v dir found = IsPlace root (standing_in f v dir found.item.name) (record { at = found.at; node = found.item.node })

abbrev pub HavePlaces : Path → Format → View → Directory → List Found → Type 0
HavePlaces root f v dir found = (x : Found) → Contains found x → HasPlace root f v dir x

-- these are the items of a directory in byte order of their names, each with its place
pub record AreFound (root : Path) (f : Format) (v : View) (dir : Directory) (found : List Found) : Type 0 where
  pub listed : AreListed f v dir (items_of found)
  pub places : HavePlaces root f v dir found

-- the same items, in order where they have names of their own
pub record AreSorted (found sorted : List Found) : Type 0 where
  pub same : IsPermutation found sorted
  pub ordered : AllPairs (λ (x y : Found). x.item.name ≢ y.item.name) found → AllPairs (λ (x y : Found). name_cmp x.item.name y.item.name ≡ Less) sorted
