-- The items of a directory, gathered from the entries of its folder.
use Rattle.std.proofs.Common.{◌≡◌, ◌≢◌, ◌⊎◌, inl, inr, ℕ, ◌+◌, ◌<◌, ◌++◌, ◌∷◌, [], List, Bool, true, false, cond, Option, Some, None, Ok, Err, length, get_or, refl, sym, ap, ◌∙◌, subst, append-nil, append_assoc, arith, length-append, is_some}
use Rattle.std.specs.Prelude.{AllPairs, Contains}
use Rattle.std.specs.Option.{option_to_list}
use Rattle.std.specs.Ordering.{is_eq}
use Rattle.std.specs.Str.{bytes_eq}
use Rattle.std.specs.declared.cmp.Ordering.TheVariants.{Less}
use Rattle.std.proofs.lemmas.List.{get_or_append_left, map-append}
use Rattle.std.proofs.lemmas.List.Elements.{Contains-append_left, Contains-push, Contains-push_cases, Contains-get_or}
use Rattle.std.proofs.lemmas.List.Quantifiers.{all_pairs_push}
use Rattle.std.proofs.lemmas.List.Sorted.{Contains-permutation, IsPermutation-sym}
use Rattle.std.proofs.lemmas.Map.Text.{is_eq-slice_cmp}
use Rattle.std.proofs.lemmas.Slice.Eq.{bytes_eq-Decides}
use Rattle.std.proofs.Math.Seq.{get_or-append_seam}
use Rattle.folder_spec.specs.Listing as folder
use Rattle.folder_spec.specs.Listing.{IsListing}
use Rattle.folder_spec.specs.Path.{Path, child}
use Rattle.folder_spec.specs.Seen.{under}
use Rattle.folder_spec.specs.View.{Found, NoEntry, Folder, FileOf, Special, View, kind_found}
use Rattle.folder_spec.specs.declared.Kind.TheVariants.{Missing}
use Rattle.plain_tree.specs.Names as plain
use Rattle.plain_tree.specs.Names.{is_name}
use Rattle.plain_tree.specs.Order.{name_cmp}
use Rattle.plain_tree.specs.declared.NodeKind.{NodeKind}
use Rattle.vault_spec.specs.Cryptomator.{cm_item_of}
use Rattle.vault_spec.specs.Gocryptfs.{go_item}
use Rattle.vault_spec.specs.Format.{Format, Directory, Item, Nothing, FileItem, DirectoryItem, NoItem, is_folder, key_of}
use Rattle.vault_spec.specs.Listing.{Listed, node_of}
use Rattle.vault_spec.specs.Standing.{Standing, Absent, Strange, File, Dir, directory_with, root_of, standing, standing_from, standing_in, standing_of, holds_full, item_at}
use Rattle.vault_spec.specs.declared.Lack.TheVariants.{NoFolder}
use Rattle.vault_spec.specs.Vault.{Vault, Gocryptfs, Cryptomator, format_of}
use Rattle.vault_spec.proofs.Mapped.{all_pairs_mapped, contains_mapped, mapped_from}
use Rattle.vault_read.proofs.Sorting.{front_pairs, pairs_from_mapped}
use Rattle.vault_read.specs.Listing.{AreFound, AreSorted, HasItems, HasPlace, HavePlaces, IsItemAt, IsItemOf, item_found, items_of}
use Rattle.vault_read.specs.declared.listing.Found as read

module _ (f : Format) (v : View) (dir : Directory) where
  pub none_yet : HasItems f v dir [] []
  none_yet = record {
    sound = λ item there. absurd (omega (arith, there.1));
    complete = λ entry item there at. absurd (omega (arith, there.1));
    apart = λ all i j d less within. absurd (omega (arith, within));
  }

  -- an entry without an item
  passed : (es : List folder.Item) (xs : List Listed) (e : folder.Item) → HasItems f v dir es xs → IsItemOf f v dir e.name None → HasItems f v dir (es ++ e ∷ []) xs
  passed es xs e h none = record {
    sound = λ item there. let at = h.sound item there in (at.0, Contains-append_left es (e ∷ []) at.0 at.1, at.2);
    complete = λ entry item there at. by_place entry item at (Contains-push_cases es e entry there);
    apart = λ all. h.apart (front_pairs (λ (x y : folder.Item). x.name ≢ y.name) es (e ∷ []) all);
  }
    where
      by_place : (entry : folder.Item) (item : Listed) → IsItemAt f v dir entry.name item → Contains es entry ⊎ (e ≡ entry) → Contains xs item
      by_place entry item at (inl old) = h.complete entry item old at
      by_place entry item at (inr same) =
          let nothing : None ≡ Some item = (none item).1 (subst (λ (x : folder.Item). IsItemAt f v dir x.name item) (sym same) at) in cc

  -- and one with an item
  taken : (es : List folder.Item) (xs : List Listed) (e : folder.Item) (x : Listed) → HasItems f v dir es xs → IsItemOf f v dir e.name (Some x)
      → HasItems f v dir (es ++ e ∷ []) (xs ++ x ∷ [])
  taken es xs e x h one = record {
    sound = λ item there. by_item item (Contains-push_cases xs x item there);
    complete = λ entry item there at. by_place entry item at (Contains-push_cases es e entry there);
    apart = λ all. all_pairs_push (λ (a b : Listed). a.name ≢ b.name) xs x (h.apart (front_pairs (λ (a b : folder.Item). a.name ≢ b.name) es (e ∷ []) all)) (others all);
  }
    where
      here : IsItemAt f v dir e.name x
      here = (one x).0 refl

      by_item : (item : Listed) → Contains xs item ⊎ (x ≡ item) → (entry : folder.Item) × Contains (es ++ e ∷ []) entry × IsItemAt f v dir entry.name item
      by_item item (inl old) = let at = h.sound item old in (at.0, Contains-append_left es (e ∷ []) at.0 at.1, at.2)
      by_item item (inr same) = (e, Contains-push es e, subst (IsItemAt f v dir e.name) same here)

      by_place : (entry : folder.Item) (item : Listed) → IsItemAt f v dir entry.name item → Contains es entry ⊎ (e ≡ entry) → Contains (xs ++ x ∷ []) item
      by_place entry item at (inl old) = Contains-append_left xs (x ∷ []) item (h.complete entry item old at)
      by_place entry item at (inr same) =
          let is : Some x ≡ Some item = (one item).1 (subst (λ (y : folder.Item). IsItemAt f v dir y.name item) (sym same) at) in
          let it : x ≡ item = cc in subst (Contains (xs ++ x ∷ [])) it (Contains-push xs x)

      others : AllPairs (λ (a b : folder.Item). a.name ≢ b.name) (es ++ e ∷ []) → (k : ℕ) (d : Listed) → k < length xs → (get_or xs k d).name ≢ x.name
      others all k d within same =
          let at = h.sound (get_or xs k d) (Contains-get_or xs k d within) in
          let old = at.1 in
          let sizes : length (es ++ e ∷ []) ≡ length es + 1 = length-append es (e ∷ []) in
          let first : get_or (es ++ e ∷ []) old.0 at.0 ≡ at.0 = get_or_append_left es (e ∷ []) at.0 old.0 old.1 ∙ old.2 in
          let last : get_or (es ++ e ∷ []) (length es) at.0 ≡ e = get_or-append_seam es e [] at.0 in
          all old.0 (length es) at.0 old.1 (omega (arith, sizes))
          (ap (λ (y : folder.Item). y.name) first ∙ sym at.2.entry_is ∙ ap (λ n. (f.stored dir.key n).name) same ∙ here.entry_is ∙ sym (ap (λ (y : folder.Item). y.name) last))

  pub one_more : (es : List folder.Item) (xs : List Listed) (e : folder.Item) (found : Option Listed) → HasItems f v dir es xs → IsItemOf f v dir e.name found
      → HasItems f v dir (es ++ e ∷ []) (xs ++ option_to_list found)
  one_more es xs e None h is = subst (HasItems f v dir (es ++ e ∷ [])) (sym (append-nil xs)) (passed es xs e h is)
  one_more es xs e (Some x) h is = taken es xs e x h is

-- where an item stands under a name, something stands at its entry
no_item : (vault : Vault) (w : View) (at : Path) (long : Bool) → w at ≡ NoEntry → (format_of vault).item long (under at w) ≡ Nothing
no_item (Gocryptfs keys) w at long none = ap go_item (ap w (append-nil at) ∙ none)
no_item (Cryptomator vault) w at long none = ap (cm_item_of long (under at w)) (ap w (append-nil at) ∙ none)

no_node : (f : Format) (v : View) (at : Path) (named named' : Bool) (item : Item) (kind : NodeKind) → item ≡ Nothing → node_of (cond named' (standing_of f v at named item) Absent) ≡ Some kind → ⊥
no_node f v at named true item kind none stands = let absent : node_of (standing_of f v at named item) ≡ None = ap (λ i. node_of (standing_of f v at named i)) none in cc
no_node f v at named false item kind none stands = cc

entry_stands : (vault : Vault) (w : View) (dir : Directory) (name : List ℕ) (kind : NodeKind) → node_of (standing_in (format_of vault) w dir name) ≡ Some kind
    → w (child dir.folder ((format_of vault).stored dir.key name).name) ≢ NoEntry
unfolding standing_in
entry_stands vault w dir name kind stands none =
    let f = format_of vault in
    let s = f.stored dir.key name in
    no_node f w (child dir.folder s.name) (holds_full f w dir s) (is_name name) (item_at f w dir s) kind (no_item vault w (child dir.folder s.name) (is_some s.full) none) stands

missing_where : (x : Found) → kind_found x ≡ Missing → x ≡ NoEntry
missing_where NoEntry e = refl
missing_where Folder e = cc
missing_where (FileOf bytes) e = cc
missing_where Special e = cc

-- names in order are apart
less_apart : (x y : List ℕ) → name_cmp x y ≡ Less → x ≢ y
less_apart x y less same =
    let equal : bytes_eq x y ≡ true = (bytes_eq-Decides x y).1 same in
    let clash : true ≡ false = sym equal ∙ sym (is_eq-slice_cmp x y) ∙ ap is_eq less in cc

-- ---- with their places

alone : (found : Option read.Found) → items_of (option_to_list found) ≡ option_to_list (item_found found)
alone None = refl
alone (Some x) = refl

pub items_more : (all : List read.Found) (found : Option read.Found) → items_of (all ++ option_to_list found) ≡ items_of all ++ option_to_list (item_found found)
items_more all found = map-append (λ (x : read.Found). x.item) all (option_to_list found) ∙ ap (λ xs. items_of all ++ xs) (alone found)

pub places_more : (root : Path) (f : Format) (v : View) (dir : Directory) (all : List read.Found) (found : Option read.Found) → HavePlaces root f v dir all
    → ((x : read.Found) → found ≡ Some x → HasPlace root f v dir x) → HavePlaces root f v dir (all ++ option_to_list found)
places_more root f v dir all None have one = subst (HavePlaces root f v dir) (sym (append-nil all)) have
places_more root f v dir all (Some x) have one = λ y among. by_case y (Contains-push_cases all x y among)
  where
    by_case : (y : read.Found) → Contains all y ⊎ (x ≡ y) → HasPlace root f v dir y
    by_case y (inl old) = have y old
    by_case y (inr same) = subst (HasPlace root f v dir) same (one x refl)

-- the items of all entries that a folder shows, in order, are those of the directory
pub listed : (vault : Vault) (root : Path) (v : View) (dir : Directory) (entries : List folder.Item) (found sorted : List read.Found)
    → IsListing v (root ++ dir.folder) entries → HasItems (format_of vault) (under root v) dir entries (items_of found)
    → HavePlaces root (format_of vault) (under root v) dir found → AreSorted found sorted → AreFound root (format_of vault) (under root v) dir sorted
listed vault root v dir entries found sorted listing has places order = record {
  listed = record {
    ordered = all_pairs_mapped (λ (x y : Listed). name_cmp x.name y.name ≡ Less) (λ (x : read.Found). x.item) sorted
        (order.ordered (pairs_from_mapped (λ (x y : Listed). x.name ≢ y.name) (λ (x : read.Found). x.item) found
        (has.apart (λ i j d less within. less_apart (get_or entries i d).name (get_or entries j d).name (listing.ordered i j d less within)))));
    items = λ item. (there item, back item);
  };
  places = λ x among. places x (Contains-permutation sorted found x (IsPermutation-sym found sorted order.same) among);
}
  where
    there : (item : Listed) → Contains (items_of sorted) item → node_of (standing_in (format_of vault) (under root v) dir item.name) ≡ Some item.node
    there item among =
        let x = mapped_from (λ (x : read.Found). x.item) sorted item among in
        let before : Contains (items_of found) x.0.item
        = contains_mapped (λ (x : read.Found). x.item) found x.0 (Contains-permutation sorted found x.0 (IsPermutation-sym found sorted order.same) x.1) in
        (has.sound item (subst (Contains (items_of found)) x.2 before)).2.stands

    back : (item : Listed) → node_of (standing_in (format_of vault) (under root v) dir item.name) ≡ Some item.node → Contains (items_of sorted) item
    back item stands =
        let name = ((format_of vault).stored dir.key item.name).name in
        let entry : folder.Item = record { name = name; kind = kind_found (v (child (root ++ dir.folder) name)) } in
        let there : kind_found (v (child (root ++ dir.folder) name)) ≢ Missing
        = λ gone. entry_stands vault (under root v) dir item.name item.node stands
        (ap v (sym (append_assoc root dir.folder (name ∷ []))) ∙ missing_where (v (child (root ++ dir.folder) name)) gone) in
        let x = mapped_from (λ (x : read.Found). x.item) found item
        (has.complete entry item ((listing.entries entry).1 (there, refl)) (record { stands = stands; entry_is = refl })) in
        subst (Contains (items_of sorted)) x.2 (contains_mapped (λ (x : read.Found). x.item) sorted x.0 (Contains-permutation found sorted x.0 order.same x.1))

-- a directory that is entered has a folder
folder_found : (x : Found) → is_folder x ≡ true → x ≡ Folder
folder_found Folder e = refl
folder_found NoEntry e = cc
folder_found (FileOf bytes) e = cc
folder_found Special e = cc

with_key : (f : Format) (v : View) (at : Path) (key : Option (List ℕ)) (dir : Directory) → directory_with f v at key ≡ Ok dir → v dir.folder ≡ Folder
with_key f v at None dir e = cc
with_key f v at (Some key) dir e = by_folder (is_folder (v (f.folder_of at key))) refl e
  where
    by_folder : (b : Bool) → is_folder (v (f.folder_of at key)) ≡ b → cond b (Ok (record { folder = f.folder_of at key; key = key })) (Err NoFolder) ≡ Ok dir → v dir.folder ≡ Folder
    by_folder true is e =
        let same : record { folder = f.folder_of at key; key = key } ≡ dir = cc in
        ap (λ (d : Directory). v d.folder) (sym same) ∙ folder_found (v (f.folder_of at key)) is
    by_folder false is e = cc

standing_opens : (f : Format) (v : View) (place : Path) (named : Bool) (item : Item) (at : Path) (dir : Directory) → standing_of f v place named item ≡ Dir at (Ok dir) → v dir.folder ≡ Folder
standing_opens f v place named Nothing at dir e = cc
standing_opens f v place false (FileItem rest) at dir e = cc
standing_opens f v place true (FileItem rest) at dir e = cc
standing_opens f v place false DirectoryItem at dir e = cc
standing_opens f v place true DirectoryItem at dir e =
    let same : directory_with f v place (key_of f (under place v)) ≡ Ok dir = cc in with_key f v place (key_of f (under place v)) dir same
standing_opens f v place named (NoItem finding) at dir e = cc

in_opens : (f : Format) (v : View) (d : Directory) (name : List ℕ) (at : Path) (dir : Directory) → standing_in f v d name ≡ Dir at (Ok dir) → v dir.folder ≡ Folder
unfolding standing_in
in_opens f v d name at dir e = by_name (is_name name) e
  where
    by_name : (b : Bool) → cond b (standing_of f v (child d.folder (f.stored d.key name).name) (holds_full f v d (f.stored d.key name)) (item_at f v d (f.stored d.key name))) Absent ≡ Dir at (Ok dir)
        → v dir.folder ≡ Folder
    by_name true e = standing_opens f v (child d.folder (f.stored d.key name).name) (holds_full f v d (f.stored d.key name)) (item_at f v d (f.stored d.key name)) at dir e
    by_name false e = cc

opens_from : (f : Format) (v : View) (here : Standing) (path : plain.Path) (at : Path) (dir : Directory)
    → ((at : Path) (dir : Directory) → here ≡ Dir at (Ok dir) → v dir.folder ≡ Folder) → standing_from f v here path ≡ Dir at (Ok dir) → v dir.folder ≡ Folder
opens_from f v here [] at dir opens e = opens at dir e
opens_from f v Absent (name ∷ rest) at dir opens e = cc
opens_from f v (Strange place) (name ∷ rest) at dir opens e = cc
opens_from f v (File place) (name ∷ rest) at dir opens e = cc
opens_from f v (Dir place (Err lack)) (name ∷ rest) at dir opens e = cc
opens_from f v (Dir place (Ok d)) (name ∷ rest) at dir opens e = opens_from f v (standing_in f v d name) rest at dir (in_opens f v d name) e

pub folder_stands : (f : Format) (v : View) (path : plain.Path) (at : Path) (dir : Directory) → standing f v path ≡ Dir at (Ok dir) → v dir.folder ≡ Folder
folder_stands f v path at dir e = opens_from f v (root_of f v) path at dir root_opens e
  where
    root_opens : (at : Path) (dir : Directory) → root_of f v ≡ Dir at (Ok dir) → v dir.folder ≡ Folder
    root_opens at dir e = let same : directory_with f v [] (f.root_key v) ≡ Ok dir = cc in with_key f v [] (f.root_key v) dir same
