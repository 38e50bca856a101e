-- The item at an entry of a directory, by the text that the entry stands for.
use Rattle.std.proofs.Common.{◌≡◌, ◌≢◌, ◌≤◌, IfSome, ℕ, ◌++◌, List, Bool, true, false, cond, Option, Some, None, is_some, IsTrue, length, nat_le, refl, sym, ap, ◌∙◌, subst}
use Rattle.std.proofs.lemmas.Bool.{and_parts, and_from}
use Rattle.std.proofs.lemmas.Slice.Eq.{bytes_eq-Decides}
use Rattle.std.specs.Str.{bytes_eq, IsUtf8}
use Rattle.folder_spec.specs.Path.{Path, child}
use Rattle.folder_spec.specs.Event.{Told}
use Rattle.folder_spec.specs.Seen.{IfSeen, under}
use Rattle.folder_spec.specs.View.{Found, NoEntry, Folder, FileOf, Special, View}
use Rattle.plain_tree.specs.Names.{is_name}
use Rattle.plain_tree.specs.declared.NodeKind.{NodeKind}
use Rattle.plain_tree.specs.declared.NodeKind.TheVariants as node
use Rattle.vault_names.specs.Cryptomator.{cm_text, cm_entry_of, cm_long_name, cm_stored}
use Rattle.vault_names.specs.Gocryptfs.{go_text, entry_of, long_name, stored}
use Rattle.vault_names.specs.declared.entry.Stored.{Stored}
use Rattle.vault_spec.specs.Findings.{IsEntryOf}
use Rattle.vault_spec.specs.Format.{Format, Directory, Item, Nothing, FileItem, DirectoryItem, NoItem, file_bytes}
use Rattle.vault_spec.specs.Listing.{Listed, node_of}
use Rattle.vault_spec.specs.Standing.{Standing, Absent, standing_in, standing_of, holds, holds_full, item_at, is_file_of}
use Rattle.vault_spec.specs.Vault.{Vault, Gocryptfs, Cryptomator, format_of}
use Rattle.vault_read.specs.Finding.{IsPlace}
use Rattle.vault_read.specs.Listing.{HasPlace, IsItemAt, IsItemOf, IsNameOf, IsTextAt, TellsNames, has_form, is_entry, is_long, item_found, item_path, named_item}
use Rattle.vault_read.specs.declared.listing.Found as read
use Rattle.vault_read.specs.Opened.{kind_of}

-- what is stored of the name of a text: the text is the entry's name, or stands in its own file
data IsStoredOf (text : List ℕ) (s : Stored) : Type 0 where
  short : s.name ≡ text → s.full ≡ None → IsStoredOf text s
  long_one : s.full ≡ Some text → IsStoredOf text s

stored_by : (limit : ℕ) (long : List ℕ → List ℕ) (text : List ℕ)
    → IsStoredOf text (cond (nat_le (length text) limit) (record { name = text; full = None }) (record { name = long text; full = Some text }))
stored_by limit long text = by_size (nat_le (length text) limit)
  where
    by_size : (b : Bool) → IsStoredOf text (cond b (record { name = text; full = None }) (record { name = long text; full = Some text }))
    by_size true = short refl refl
    by_size false = long_one refl

stored_of : (vault : Vault) (key name text : List ℕ) → IsNameOf vault key name text → IsStoredOf text ((format_of vault).stored key name)
unfolding stored cm_stored
stored_of (Gocryptfs keys) key name text is = subst (λ t. IsStoredOf text (entry_of t)) (sym is.encrypts) (stored_by 255 long_name text)
stored_of (Cryptomator vault) key name text is = subst (λ t. IsStoredOf text (cm_entry_of vault.threshold t)) (sym is.encrypts) (stored_by vault.threshold cm_long_name text)

-- the kind of what is an item, if its name is right
abbrev node_by : Item → Option NodeKind
node_by Nothing = None
node_by (FileItem rest) = Some node.File
node_by DirectoryItem = Some node.Dir
node_by (NoItem finding) = None

node_named : (f : Format) (v : View) (at : Path) (item : Item) → node_of (standing_of f v at true item) ≡ node_by item
node_named f v at Nothing = refl
node_named f v at (FileItem rest) = refl
node_named f v at DirectoryItem = refl
node_named f v at (NoItem finding) = refl

-- where an item stands, its name is right
named_where : (f : Format) (v : View) (at : Path) (named : Bool) (item : Item) (kind : NodeKind) → node_of (standing_of f v at named item) ≡ Some kind → named ≡ true
named_where f v at true item kind e = refl
named_where f v at false Nothing kind e = cc
named_where f v at false (FileItem rest) kind e = cc
named_where f v at false DirectoryItem kind e = cc
named_where f v at false (NoItem finding) kind e = cc

item_named : (name : List ℕ) (item : Item) (found : Listed) → named_item name item ≡ Some found → (found.name ≡ name) × (node_by item ≡ Some found.node)
item_named name Nothing found e = cc
item_named name (FileItem rest) found e = let same : record { name = name; node = node.File } ≡ found = cc in (sym (ap (λ (x : Listed). x.name) same), ap (λ (x : Listed). Some x.node) same)
item_named name DirectoryItem found e = let same : record { name = name; node = node.Dir } ≡ found = cc in (sym (ap (λ (x : Listed). x.name) same), ap (λ (x : Listed). Some x.node) same)
item_named name (NoItem finding) found e = cc

named_back : (name : List ℕ) (item : Item) (kind : NodeKind) → node_by item ≡ Some kind → named_item name item ≡ Some (record { name = name; node = kind })
named_back name Nothing kind e = cc
named_back name (FileItem rest) kind e = let same : node.File ≡ kind = cc in ap (λ k. Some (record { name = name; node = k })) same
named_back name DirectoryItem kind e = let same : node.Dir ≡ kind = cc in ap (λ k. Some (record { name = name; node = k })) same
named_back name (NoItem finding) kind e = cc

-- the text of a name
text_of : (vault : Vault) (key name : List ℕ) → IsTrue (is_name name) → (text : List ℕ) × IsNameOf vault key name text
text_of (Gocryptfs keys) key name named = (go_text keys.names key name, record { named = named; encrypts = refl })
text_of (Cryptomator vault) key name named = (cm_text vault.keys key name, record { named = named; encrypts = refl })

name_is : (vault : Vault) (key name text : List ℕ) → IsNameOf vault key name text → is_name name ≡ true
name_is (Gocryptfs keys) key name text is = is.named
name_is (Cryptomator vault) key name text is = is.named

same_bytes : (xs ys : List ℕ) → bytes_eq xs ys ≡ true → xs ≡ ys
same_bytes xs ys e = (bytes_eq-Decides xs ys).0 e

bytes_same : (xs ys : List ℕ) → xs ≡ ys → bytes_eq xs ys ≡ true
bytes_same xs ys e = (bytes_eq-Decides xs ys).1 e

-- a file with a text
file_with : (text : List ℕ) (there : Found) → is_file_of text (file_bytes there) ≡ true → there ≡ FileOf text
file_with text NoEntry e = cc
file_with text Folder e = cc
file_with text Special e = cc
file_with text (FileOf bytes) e = ap FileOf (same_bytes bytes text e)

held : (v : View) (at : Path) (text : List ℕ) (full : Option (List ℕ)) → full ≡ Some text → v at ≡ FileOf text → holds v at full ≡ true
held v at text full is there = ap (holds v at) is ∙ ap (λ x. is_file_of text (file_bytes x)) there ∙ bytes_same text text refl

held_back : (v : View) (at : Path) (text : List ℕ) (full : Option (List ℕ)) → full ≡ Some text → holds v at full ≡ true → v at ≡ FileOf text
held_back v at text full is right = file_with text (v at) (sym (ap (holds v at) is) ∙ right)

has_short : (long : Bool) (full : Option (List ℕ)) → long ≡ false → has_form long full ≡ true → full ≡ None
has_short long None is right = refl
has_short long (Some text) is right = cc

has_long : (long : Bool) (full : Option (List ℕ)) → long ≡ true → has_form long full ≡ true → full ≢ None
has_long true None is right e = cc
has_long false None is right e = cc
has_long long (Some text) is right e = cc

right_form : (long : Bool) (full : Option (List ℕ)) → long ≡ is_some full → has_form long full ≡ true
right_form true None e = cc
right_form false None e = refl
right_form true (Some text) e = refl
right_form false (Some text) e = cc

form_tells : (long : Bool) (full : Option (List ℕ)) → has_form long full ≡ true → is_some full ≡ long
form_tells true None e = cc
form_tells false None e = refl
form_tells true (Some text) e = refl
form_tells false (Some text) e = cc

pub entry_tells : (entry : List ℕ) (long : Bool) (s : Stored) → IsTrue (is_entry entry long s) → long ≡ is_some s.full
entry_tells entry long s right = sym (form_tells long s.full (and_parts (bytes_eq s.name entry) (has_form long s.full) right).1)

where_named : (b : Bool) (x : Standing) (kind : NodeKind) → node_of (cond b x Absent) ≡ Some kind → (b ≡ true) × (node_of x ≡ Some kind)
where_named true x kind e = (refl, e)
where_named false x kind e = cc

-- an entry stands for one text
texts_alike : (f : Format) (v : View) (dir : Directory) (entry : List ℕ) (long : Bool) (text other : List ℕ) → IsTextAt f v dir entry long text → IsTextAt f v dir entry long other → text ≡ other
texts_alike f v dir entry false text other at there = at ∙ sym there
texts_alike f v dir entry true text other at there = let same : FileOf text ≡ FileOf other = sym at ∙ there in cc

module _ (vault : Vault) (v : View) (dir : Directory) (entry : List ℕ) where
  abbrev kept : List ℕ → Stored
  kept name = (format_of vault).stored dir.key name

  abbrev full_path : List ℕ → Path
  full_path of_entry = dir.folder ++ (format_of vault).full_at of_entry

  -- the long-name file of an entry has its text, where the text was taken from there
  holds_at : (long : Bool) (name text : List ℕ) → IsTextAt (format_of vault) v dir entry long text → IsNameOf vault dir.key name text
      → IsTrue (is_entry entry long (kept name)) → holds_full (format_of vault) v dir (kept name) ≡ true
  holds_at false name text at name_of right =
      let parts = and_parts (bytes_eq (kept name).name entry) (has_form false (kept name).full) right in
      ap (holds v (full_path (kept name).name)) (has_short false (kept name).full refl parts.1)
  holds_at true name text at name_of right = by_form (stored_of vault dir.key name text name_of)
    where
      parts : (bytes_eq (kept name).name entry ≡ true) × (has_form true (kept name).full ≡ true)
      parts = and_parts (bytes_eq (kept name).name entry) (has_form true (kept name).full) right

      by_form : IsStoredOf text (kept name) → holds_full (format_of vault) v dir (kept name) ≡ true
      by_form (short is none) = absurd (has_long true (kept name).full refl parts.1 none)
      by_form (long_one is) = held v (full_path (kept name).name) text (kept name).full is
          (ap (λ e. v (full_path e)) (same_bytes (kept name).name entry parts.0) ∙ at)

  -- the name of an entry has a text there
  text_of_entry : (long : Bool) (name : List ℕ) → TellsNames vault dir.key → long ≡ is_long (kind_of vault) entry → IsEntryOf (format_of vault) v dir entry name
      → (text : List ℕ) × IsTextAt (format_of vault) v dir entry long text × IsNameOf vault dir.key name text × IsTrue (is_entry entry long (kept name))
  text_of_entry long name tells form of_name =
      (text.0, by_form (stored_of vault dir.key name text.0 text.1), text.1, and_from (bytes_eq s.name entry) (has_form long s.full) (bytes_same s.name entry of_name.stores) (right_form long s.full form_is))
    where
      s : Stored
      s = kept name

      text : (text : List ℕ) × IsNameOf vault dir.key name text
      text = text_of vault dir.key name of_name.named

      form_is : long ≡ is_some s.full
      form_is = form ∙ ap (is_long (kind_of vault)) (sym of_name.stores) ∙ tells.form name of_name.named

      by_form : IsStoredOf text.0 s → IsTextAt (format_of vault) v dir entry long text.0
      by_form (short is none) = subst (λ b. IsTextAt (format_of vault) v dir entry b text.0) (sym (form_is ∙ ap (λ (x : Option (List ℕ)). is_some x) none)) (sym is ∙ of_name.stores)
      by_form (long_one is) = subst (λ b. IsTextAt (format_of vault) v dir entry b text.0) (sym (form_is ∙ ap (λ (x : Option (List ℕ)). is_some x) is))
          (ap (λ e. v (full_path e)) (sym of_name.stores) ∙ held_back v (full_path s.name) text.0 s.full is of_name.full)

  -- what stands under a name is at its entry
  entry_behind : (name : List ℕ) (kind : NodeKind) → node_of (standing_in (format_of vault) v dir name) ≡ Some kind → (kept name).name ≡ entry → IsEntryOf (format_of vault) v dir entry name
  unfolding standing_in
  entry_behind name kind stands at_entry =
      let f = format_of vault in
      let s = kept name in
      let place = child dir.folder s.name in
      let named = where_named (is_name name) (standing_of f v place (holds_full f v dir s) (item_at f v dir s)) kind stands in
      record { named = named.0; stores = at_entry; full = named_where f v place (holds_full f v dir s) (item_at f v dir s) kind named.1 }

  -- the entry is that of the name that is found
  pub entry_found : (long : Bool) (name text : List ℕ) → IsTextAt (format_of vault) v dir entry long text → IsNameOf vault dir.key name text
      → IsTrue (is_entry entry long (kept name)) → IsEntryOf (format_of vault) v dir entry name
  entry_found long name text at name_of right = record {
    named = name_is vault dir.key name text name_of;
    stores = same_bytes (kept name).name entry (and_parts (bytes_eq (kept name).name entry) (has_form long (kept name).full) right).0;
    full = holds_at long name text at name_of right;
  }

  -- and of no other
  pub one_name : (long : Bool) (name text : List ℕ) → TellsNames vault dir.key → long ≡ is_long (kind_of vault) entry → IsTextAt (format_of vault) v dir entry long text
      → IsNameOf vault dir.key name text → (other : List ℕ) → IsEntryOf (format_of vault) v dir entry other → other ≡ name
  one_name long name text tells form at name_of other of_other =
      let behind = text_of_entry long other tells form of_other in
      tells.one other name text (subst (IsNameOf vault dir.key other) (texts_alike (format_of vault) v dir entry long behind.0 text behind.1 at) behind.2) name_of

  -- it is that of none where it has no text
  pub no_entry_text : (long : Bool) → TellsNames vault dir.key → long ≡ is_long (kind_of vault) entry
      → ((text : List ℕ) → IsUtf8 text → length text ≤ 1024 → ¬ IsTextAt (format_of vault) v dir entry long text)
      → (name : List ℕ) → ¬ IsEntryOf (format_of vault) v dir entry name
  no_entry_text long tells form none name of_name =
      let behind = text_of_entry long name tells form of_name in
      none behind.0 (tells.utf8 name behind.0 behind.2) (tells.short name behind.0 behind.2) behind.1

  -- nor where its text is no name's
  pub no_entry_name : (long : Bool) (text : List ℕ) → TellsNames vault dir.key → long ≡ is_long (kind_of vault) entry → IsTextAt (format_of vault) v dir entry long text
      → ((name : List ℕ) → IsNameOf vault dir.key name text → ¬ IsTrue (is_entry entry long (kept name)))
      → (name : List ℕ) → ¬ IsEntryOf (format_of vault) v dir entry name
  no_entry_name long text tells form at none name of_name =
      let behind = text_of_entry long name tells form of_name in
      none name (subst (IsNameOf vault dir.key name) (texts_alike (format_of vault) v dir entry long behind.0 text behind.1 at) behind.2) behind.3

  -- what stands under the name that the entry is of
  pub item_stands : (long : Bool) (name : List ℕ) (item : Item) → IsEntryOf (format_of vault) v dir entry name → long ≡ is_some (kept name).full
      → item ≡ (format_of vault).item long (under (child dir.folder entry) v)
      → standing_in (format_of vault) v dir name ≡ standing_of (format_of vault) v (child dir.folder entry) true item
  unfolding standing_in
  item_stands long name item of_name form is_item =
      let f = format_of vault in
      let s = kept name in
      ap (λ b. cond b (standing_of f v (child dir.folder s.name) (holds_full f v dir s) (item_at f v dir s)) Absent) of_name.named
      ∙ ap (λ b. standing_of f v (child dir.folder s.name) b (item_at f v dir s)) of_name.full
      ∙ ap (λ b. standing_of f v (child dir.folder s.name) true (f.item b (under (child dir.folder s.name) v))) (sym form)
      ∙ ap (λ e. standing_of f v (child dir.folder e) true (f.item long (under (child dir.folder e) v))) of_name.stores
      ∙ ap (standing_of f v (child dir.folder entry) true) (sym is_item)

  -- the item of the one name that the entry is of
  pub found_item : (long : Bool) (name : List ℕ) (item : Item) → IsEntryOf (format_of vault) v dir entry name
      → ((other : List ℕ) → IsEntryOf (format_of vault) v dir entry other → other ≡ name) → long ≡ is_some (kept name).full
      → item ≡ (format_of vault).item long (under (child dir.folder entry) v) → IsItemOf (format_of vault) v dir entry (named_item name item)
  found_item long name item of_name one form is_item found = (there, back)
    where
      its_node : node_of (standing_in (format_of vault) v dir name) ≡ node_by item
      its_node = ap (λ x. node_of x) (item_stands long name item of_name form is_item) ∙ node_named (format_of vault) v (child dir.folder entry) item

      there : named_item name item ≡ Some found → IsItemAt (format_of vault) v dir entry found
      there e =
          let is = item_named name item found e in
          record {
            stands = ap (λ m. node_of (standing_in (format_of vault) v dir m)) is.0 ∙ its_node ∙ is.1;
            entry_is = ap (λ m. (kept m).name) is.0 ∙ of_name.stores;
          }

      back : IsItemAt (format_of vault) v dir entry found → named_item name item ≡ Some found
      back a =
          let same : found.name ≡ name = one found.name (entry_behind found.name found.node a.stands a.entry_is) in
          named_back name item found.node (sym its_node ∙ ap (λ m. node_of (standing_in (format_of vault) v dir m)) (sym same) ∙ a.stands)
          ∙ ap (λ m. Some (record { name = m; node = found.node })) (sym same)

  -- and none, where it is of no name
  pub no_item : ((name : List ℕ) → ¬ IsEntryOf (format_of vault) v dir entry name) → IsItemOf (format_of vault) v dir entry None
  no_item none found = (λ e. cc e, λ a. absurd (none found.name (entry_behind found.name found.node a.stands a.entry_is)))

-- ---- its place

placed : (root : Path) (f : Format) (v : View) (dir : Directory) (at : Path) (name : List ℕ) (item : Item) (one : read.Found) → Some one.item ≡ named_item name item
    → one.at ≡ root ++ item_path at item → standing_in f v dir name ≡ standing_of f v at true item → HasPlace root f v dir one
placed root f v dir at name Nothing one is path stands = cc
placed root f v dir at name (NoItem finding) one is path stands = cc
placed root f v dir at name (FileItem rest) one is path stands =
    let same : one.item ≡ record { name = name; node = node.File } = cc in
    subst (λ x. IsPlace root x (record { at = one.at; node = one.item.node })) (sym (ap (λ (i : Listed). standing_in f v dir i.name) same ∙ stands))
    (ap (λ (i : Listed). i.node) same, path)
placed root f v dir at name DirectoryItem one is path stands =
    let same : one.item ≡ record { name = name; node = node.Dir } = cc in
    subst (λ x. IsPlace root x (record { at = one.at; node = one.item.node })) (sym (ap (λ (i : Listed). standing_in f v dir i.name) same ∙ stands))
    (ap (λ (i : Listed). i.node) same, path)

pub found_place : (t : Option Told) (vault : Vault) (root : Path) (dir : Directory) (entry : List ℕ) (long : Bool) (name : List ℕ) (item : Item) (found : Option read.Found)
    → IfSeen t (λ v. IsEntryOf (format_of vault) (under root v) dir entry name) → long ≡ is_some ((format_of vault).stored dir.key name).full
    → IfSeen t (λ v. item ≡ (format_of vault).item long (under (child dir.folder entry) (under root v))) → item_found found ≡ named_item name item
    → IfSome found (λ one. one.at ≡ root ++ item_path (child dir.folder entry) item) → IfSome found (λ one. IfSeen t (λ v. HasPlace root (format_of vault) (under root v) dir one))
found_place t vault root dir entry long name item None of form item_is is path = tt
found_place t vault root dir entry long name item (Some one) of form item_is is path =
    λ v seen. placed root (format_of vault) (under root v) dir (child dir.folder entry) name item one is path
    (item_stands vault (under root v) dir entry long name item (of v seen) form (item_is v seen))
