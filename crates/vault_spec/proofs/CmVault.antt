-- Cryptomator's format is lawful.
use Rattle.folder_spec.specs.Seen.{ShowsFile}
use Rattle.vault_spec.specs.StoredNames.{CmTexts}
use Rattle.vault_spec.proofs.PathEnds.{child-both}
use Rattle.std.proofs.Common.{◌≡◌, ◌≢◌, ℕ, Bool, true, false, ◌&&◌, ◌||◌, List, [], ◌∷◌, ◌++◌, cond, refl, sym, ap, ◌∙◌, inr, subst, Some, None, Option, IsTrue, length, codes, arith, nat_le, bytes_eq, ◌⊎◌, ◌+◌, inl, length-append, append-nil, is_some}
use Rattle.std.proofs.lemmas.List.{append_cancel_right}
use Rattle.std.specs.Option.{option_and_then}
use Rattle.folder_spec.specs.Path.{Part, Path, child}
use Rattle.folder_spec.specs.View.{Found, NoEntry, Folder, FileOf, Special, View, kind_found}
use Rattle.vault_names.specs.Cryptomator.{cm_text, cm_long_name, cm_stored, IsPlainUpTo}
use Rattle.vault_spec.specs.Format.{Format, Item, Nothing, FileItem, DirectoryItem, NoItem, Expected, is_bytes, is_file, file_bytes}
use Rattle.vault_spec.specs.Cryptomator.{CmVault, cm_format, cm_item_of, cm_role, content_file, directory_id, folder_item, full_file, has_file, id_file, inner_role, is_base32_text, symlink_file, top, content_folder, cm_item}
use Rattle.vault_spec.proofs.Entries.{one_text, same_forms}
use Rattle.vault_spec.proofs.Lawful.{IsLawful}
use Rattle.vault_spec.proofs.ByteKeys.{given, are_bytes}

-- a text isn't a long entry's name: their last characters differ
abbrev last_or : ℕ → List ℕ → ℕ
last_or a [] = a
last_or a (b ∷ bytes) = last_or b bytes

last_or-append : (a : ℕ) (bytes : List ℕ) (b c d e : ℕ) → last_or a (bytes ++ b ∷ c ∷ d ∷ e ∷ []) ≡ e
last_or-append a [] b c d e = refl
last_or-append a (x ∷ bytes) b c d e = last_or-append x bytes b c d e

pub not_long : (text other : List ℕ) → IsPlainUpTo (codes ".c9r") text → IsPlainUpTo (codes ".c9s") other → text ≢ other
not_long text other short long e =
    let lasts : 114 ≡ 115 = sym (last_or-append 0 short.front 46 99 57 114) ∙ ap (last_or 0) (sym short.ended ∙ e ∙ long.ended) ∙ last_or-append 0 long.front 46 99 57 115 in
    omega (arith, lasts)

-- an id is of bytes
pub id_is : (o : Option (List ℕ)) (id : List ℕ) → option_and_then directory_id o ≡ Some id → is_bytes id ≡ true
id_is None id e = cc
id_is (Some bytes) id e =
    let both : ((is_bytes bytes && nat_le 1 (length bytes) && nat_le (length bytes) 1000) ≡ true) × (bytes ≡ id)
    = given (is_bytes bytes && nat_le 1 (length bytes) && nat_le (length bytes) 1000) bytes id e in
    ap is_bytes (sym both.1) ∙ first_true (is_bytes bytes) (nat_le 1 (length bytes)) (nat_le (length bytes) 1000) both.0
  where
    first_true : (a b c : Bool) → (a && b && c) ≡ true → a ≡ true
    first_true true b c e = refl
    first_true false b c e = cc

-- and has some
pub some_bytes : (o : Option (List ℕ)) (id : List ℕ) → option_and_then directory_id o ≡ Some id → id ≢ []
some_bytes None id e none = cc
some_bytes (Some bytes) id e none =
    let both : ((is_bytes bytes && nat_le 1 (length bytes) && nat_le (length bytes) 1000) ≡ true) × (bytes ≡ id)
    = given (is_bytes bytes && nat_le 1 (length bytes) && nat_le (length bytes) 1000) bytes id e in
    not_empty (ap is_id_size (sym (both.1 ∙ none)) ∙ both.0)
  where
    is_id_size : List ℕ → Bool
    is_id_size bytes = is_bytes bytes && nat_le 1 (length bytes) && nat_le (length bytes) 1000

    not_empty : is_id_size [] ≡ true → ⊥
    not_empty e = cc

-- the files that tell what a folder is
abbrev pub is_mark : Part → Bool
is_mark m = bytes_eq m id_file || bytes_eq m content_file || bytes_eq m symlink_file

-- a folder's item with its content is long, and has the file
pub folder_content : (v : View) (long contents dir symlink : Bool) (rest : Path) → folder_item long contents dir symlink ≡ FileItem rest → (rest ≡ content_file ∷ []) × (contents ≡ true)
folder_content v true true false false rest e = (cc, refl)
folder_content v false true false false rest e = cc
folder_content v long false true false rest e = cc
folder_content v long false false true rest e = cc
folder_content v long false false false rest e = cc
folder_content v long true true symlink rest e = cc
folder_content v long true false true rest e = cc
folder_content v long false true true rest e = cc

pub file_there : (x : Found) → is_file x ≡ true → (bytes : List ℕ) × (x ≡ FileOf bytes)
file_there NoEntry e = cc
file_there Folder e = cc
file_there (FileOf bytes) e = (bytes, refl)
file_there Special e = cc

pub content_is : (long : Bool) (v : View) (x : Found) → v [] ≡ x → (rest : Path) → cm_item_of long v x ≡ FileItem rest → ShowsFile v rest
content_is long v NoEntry is rest e = cc
content_is true v (FileOf bytes) is rest e = cc
content_is false v (FileOf bytes) is rest e = let same : [] ≡ rest = cc in (bytes, ap v (sym same) ∙ is)
content_is true v Special is rest e = cc
content_is false v Special is rest e = cc
content_is long v Folder is rest e =
    let both : (rest ≡ content_file ∷ []) × (has_file v content_file ≡ true) = folder_content v long (has_file v content_file) (has_file v id_file) (has_file v symlink_file) rest e in
    subst (ShowsFile v) (sym both.0) (file_there (v (content_file ∷ [])) both.1)

both_expected : (b : Bool) → cond b Expected Expected ≡ Expected
both_expected true = refl
both_expected false = refl

file_by_kind : (x y : Found) → kind_found x ≡ kind_found y → is_file x ≡ is_file y
file_by_kind NoEntry NoEntry e = refl
file_by_kind Folder Folder e = refl
file_by_kind (FileOf a) (FileOf b) e = refl
file_by_kind Special Special e = refl
file_by_kind NoEntry Folder e = refl
file_by_kind NoEntry (FileOf b) e = cc
file_by_kind NoEntry Special e = refl
file_by_kind Folder NoEntry e = refl
file_by_kind Folder (FileOf b) e = cc
file_by_kind Folder Special e = refl
file_by_kind (FileOf a) NoEntry e = cc
file_by_kind (FileOf a) Folder e = cc
file_by_kind (FileOf a) Special e = cc
file_by_kind Special NoEntry e = refl
file_by_kind Special Folder e = refl
file_by_kind Special (FileOf b) e = cc

pub item_by_kind : (long : Bool) (v : View) (x y : Found) → kind_found x ≡ kind_found y → cm_item_of long v x ≡ cm_item_of long v y
item_by_kind long v NoEntry NoEntry e = refl
item_by_kind long v Folder Folder e = refl
item_by_kind true v (FileOf a) (FileOf b) e = refl
item_by_kind false v (FileOf a) (FileOf b) e = refl
item_by_kind long v Special Special e = refl
item_by_kind long v NoEntry Folder e = cc
item_by_kind long v NoEntry (FileOf b) e = cc
item_by_kind long v NoEntry Special e = cc
item_by_kind long v Folder NoEntry e = cc
item_by_kind long v Folder (FileOf b) e = cc
item_by_kind long v Folder Special e = cc
item_by_kind long v (FileOf a) NoEntry e = cc
item_by_kind long v (FileOf a) Folder e = cc
item_by_kind long v (FileOf a) Special e = cc
item_by_kind long v Special NoEntry e = cc
item_by_kind long v Special Folder e = cc
item_by_kind long v Special (FileOf b) e = cc

-- an item is told by the kind of its entry and by which of its marks are files
pub item_by_marks : (long : Bool) (v w : View) (x : Found) → ((m : Part) → IsTrue (is_mark m) → is_file (v (m ∷ [])) ≡ is_file (w (m ∷ []))) → cm_item_of long v x ≡ cm_item_of long w x
item_by_marks long v w NoEntry marks = refl
item_by_marks true v w (FileOf bytes) marks = refl
item_by_marks false v w (FileOf bytes) marks = refl
item_by_marks true v w Special marks = refl
item_by_marks false v w Special marks = refl
item_by_marks long v w Folder marks =
    ap (λ b. folder_item long b (has_file v id_file) (has_file v symlink_file)) (marks content_file refl)
    ∙ ap (λ b. folder_item long (has_file w content_file) b (has_file v symlink_file)) (marks id_file refl)
    ∙ ap (folder_item long (has_file w content_file) (has_file w id_file)) (marks symlink_file refl)

pub item_stays : (long : Bool) (v w : View) (x : Found) → ((m : Part) → IsTrue (is_mark m) → kind_found (v (m ∷ [])) ≡ kind_found (w (m ∷ []))) → cm_item_of long v x ≡ cm_item_of long w x
item_stays long v w x marks = item_by_marks long v w x (λ m is. file_by_kind (v (m ∷ [])) (w (m ∷ [])) (marks m is))

pub role_of_files : (at : Path) (a b : List ℕ) → cm_role at (FileOf a) ≡ cm_role at (FileOf b)
role_of_files [] a b = refl
role_of_files (x ∷ []) a b = refl
role_of_files (x ∷ y ∷ []) a b = refl
role_of_files (x ∷ y ∷ z ∷ []) a b = refl
role_of_files (x ∷ y ∷ z ∷ u ∷ rest) a b = refl

pub inner_role_of_files : (long : Bool) (item : Item) (x : Part) (a b : List ℕ) → inner_role long item x (FileOf a) ≡ inner_role long item x (FileOf b)
inner_role_of_files long Nothing x a b = refl
inner_role_of_files long (FileItem rest) x a b = refl
inner_role_of_files long DirectoryItem x a b = refl
inner_role_of_files long (NoItem finding) x a b = refl

pub no_role_of_nothing : (at : Path) → cm_role at NoEntry ≡ Expected
no_role_of_nothing [] = refl
no_role_of_nothing (a ∷ []) = both_expected (bytes_eq a top)
no_role_of_nothing (a ∷ b ∷ []) = both_expected (bytes_eq a top)
no_role_of_nothing (a ∷ b ∷ c ∷ []) = both_expected (bytes_eq a top && is_base32_text 2 b)
no_role_of_nothing (a ∷ b ∷ c ∷ d ∷ rest) = refl

pub no_inner_role_of_nothing : (long : Bool) (item : Item) (x : Part) → inner_role long item x NoEntry ≡ Expected
no_inner_role_of_nothing long Nothing x = refl
no_inner_role_of_nothing long (FileItem rest) x = refl
no_inner_role_of_nothing long DirectoryItem x = refl
no_inner_role_of_nothing long (NoItem finding) x = refl

-- a content is stored at the entry, or in it
pub content_size : (long : Bool) (v : View) (x : Found) (rest : Path) → cm_item_of long v x ≡ FileItem rest → (rest ≡ []) ⊎ (rest ≡ content_file ∷ [])
content_size long v NoEntry rest e = cc
content_size true v (FileOf bytes) rest e = cc
content_size false v (FileOf bytes) rest e = inl cc
content_size true v Special rest e = cc
content_size false v Special rest e = cc
content_size long v Folder rest e = inr (folder_content v long (has_file v content_file) (has_file v id_file) (has_file v symlink_file) rest e).0

pub content_or_entry : (long : Bool) (v : View) (rest : Path) → (rest ≡ []) ⊎ (cm_item long v ≡ FileItem rest) → (rest ≡ []) ⊎ (rest ≡ content_file ∷ [])
content_or_entry long v rest (inl none) = inl none
content_or_entry long v rest (inr item) = content_size long v (v []) rest item

-- entries of folders of three parts, with contents at one place
pub one_entry : (p q : Path) (a b : Part) (one two : Path) → (one ≡ []) ⊎ (one ≡ content_file ∷ []) → (two ≡ []) ⊎ (two ≡ content_file ∷ []) → length p ≡ 3 → length q ≡ 3
    → child p a ++ one ≡ child q b ++ two → child p a ≡ child q b
one_entry p q a b one two first second size_p size_q same = by_rests first second
  where
    sizes : length p + 1 + length one ≡ length q + 1 + length two
    sizes = ap (λ n. n + length one) (sym (length-append p (a ∷ []))) ∙ sym (length-append (child p a) one) ∙ ap length same
        ∙ length-append (child q b) two ∙ ap (λ n. n + length two) (length-append q (b ∷ []))

    no_more : (n m : ℕ) → length one ≡ n → length two ≡ m → n ≡ m
    no_more n m is_one is_two = omega (arith, sizes, size_p, size_q, is_one, is_two)

    no_one : ◌≡◌ {A = ℕ} 0 1 → ⊥
    no_one e = omega (arith, e)

    by_rests : (one ≡ []) ⊎ (one ≡ content_file ∷ []) → (two ≡ []) ⊎ (two ≡ content_file ∷ []) → child p a ≡ child q b
    by_rests (inl x) (inl y) = sym (append-nil (child p a)) ∙ ap (λ r. child p a ++ r) (sym x) ∙ same ∙ ap (λ r. child q b ++ r) y ∙ append-nil (child q b)
    by_rests (inr x) (inr y) = append_cancel_right (child p a) (child q b) (content_file ∷ []) (ap (λ r. child p a ++ r) (sym x) ∙ same ∙ ap (λ r. child q b ++ r) y)
    by_rests (inl x) (inr y) = absurd (no_one (no_more 0 1 (ap length x) (ap length y)))
    by_rests (inr x) (inl y) = absurd (no_one (sym (no_more 1 0 (ap length x) (ap length y))))

-- a content has no name of another file in an entry
pub content_apart : (p : Path) (a : Part) (rest q : Path) (b mark : Part) → (rest ≡ []) ⊎ (rest ≡ content_file ∷ []) → length p ≡ 3 → length q ≡ 3 → content_file ≢ mark
    → child p a ++ rest ≢ child (child q b) mark
content_apart p a rest q b mark (inl none) size_p size_q apart same =
    let one : length p + 1 ≡ length q + 1 + 1 = sym (length-append p (a ∷ [])) ∙ ap length (sym (append-nil (child p a)) ∙ ap (λ r. child p a ++ r) (sym none) ∙ same)
    ∙ length-append (child q b) (mark ∷ []) ∙ ap (λ n. n + 1) (length-append q (b ∷ [])) in
    omega (arith, one, size_p, size_q)
content_apart p a rest q b mark (inr content) size_p size_q apart same =
    apart (child-both (child p a) (child q b) content_file mark (ap (λ r. child p a ++ r) (sym content) ∙ same)).1

pub content_below : (p : Path) (a : Part) (rest : Path) (mark : Part) → length p ≡ 3 → child p a ++ rest ≢ mark ∷ []
content_below p a rest mark size same =
    let one : length p + 1 + length rest ≡ 1 = ap (λ n. n + length rest) (sym (length-append p (a ∷ []))) ∙ sym (length-append (child p a) rest) ∙ ap length same in
    omega (arith, one, size)

unfoldable pub cm_lawful : (vault : CmVault) → CmTexts vault.keys → IsLawful (cm_format vault)
unfolding cm_stored
cm_lawful vault texts = record {
  marks = is_mark;
  is_key = is_bytes;
  root_key = λ v key e. let none : [] ≡ key = cc in subst (λ k. is_bytes k ≡ true) none refl;
  entry_key = λ v key e. id_is (file_bytes (v (id_file ∷ []))) key e;
  root_apart = λ v w key other at some is is_other folders keys_one.
      let none : [] ≡ key = cc in some_bytes (file_bytes (w (id_file ∷ []))) other is_other (sym (none ∙ keys_one));
  one_name = λ key name other is named other_named e.
      let same : cm_text vault.keys key name ≡ cm_text vault.keys key other = one_text cm_long_name vault.threshold (cm_text vault.keys key name) (cm_text vault.keys key other) e in
      texts.one key name other (cm_text vault.keys key other) (are_bytes key is) (record { named = named; encrypts = same }) (record { named = other_named; encrypts = refl });
  forms = λ key name other is named other_named e.
      same_forms cm_long_name vault.threshold (cm_text vault.keys key name) (cm_text vault.keys key other)
      (not_long (cm_text vault.keys key name) (cm_long_name (cm_text vault.keys key other)) (texts.plain key name (are_bytes key is) named) (texts.long_plain (cm_text vault.keys key other)))
      (not_long (cm_text vault.keys key other) (cm_long_name (cm_text vault.keys key name)) (texts.plain key other (are_bytes key is) other_named) (texts.long_plain (cm_text vault.keys key name))) e;
  item_by_kinds = λ long v w there marks. item_stays long v w (v []) marks ∙ item_by_kind long w (v []) (w []) there;
  key_is_mark = refl;
  root_by_key = λ v w same. refl;
  none = λ long v free. ap (cm_item_of long v) free;
  content = λ long v rest e. content_is long v (v []) refl rest e;
  content_entry = λ v w long short one two key other at place a b is_one is_two same.
      one_entry (content_folder vault.keys key) (content_folder vault.keys other) a b one two (content_or_entry long v one is_one) (content_or_entry short w two is_two) refl refl same;
  content_no_key = λ v key other name another rest at place is named item.
      content_apart (content_folder vault.keys key) (cm_stored vault.keys vault.threshold key name).name rest (content_folder vault.keys other) (cm_stored vault.keys vault.threshold other another).name id_file
      (content_or_entry (is_some (cm_stored vault.keys vault.threshold key name).full) v rest (inr item)) refl refl (λ same. cc);
  content_no_root_key = λ v key name rest at is named item. content_below (content_folder vault.keys key) (cm_stored vault.keys vault.threshold key name).name rest id_file refl;
  content_no_configuration = λ v key name rest at is named item. record {
    gocryptfs = λ same. content_below (content_folder vault.keys key) (cm_stored vault.keys vault.threshold key name).name rest (codes "gocryptfs.conf") refl (sym same);
    master = λ same. content_below (content_folder vault.keys key) (cm_stored vault.keys vault.threshold key name).name rest (codes "masterkey.cryptomator") refl (sym same);
    vault = λ same. content_below (content_folder vault.keys key) (cm_stored vault.keys vault.threshold key name).name rest (codes "vault.cryptomator") refl (sym same);
  };
  content_no_name = λ v key other name another rest at place is named item long is_other another_named same.
      content_apart (content_folder vault.keys key) (cm_stored vault.keys vault.threshold key name).name rest (content_folder vault.keys other) (cm_stored vault.keys vault.threshold other another).name full_file
      (content_or_entry (is_some (cm_stored vault.keys vault.threshold key name).full) v rest (inr item)) refl refl (λ clash. cc) same;
  unnamed_by_file = λ x a b. refl;
  role_by_file = role_of_files;
  inner_role_by_file = inner_role_of_files;
  no_role = no_role_of_nothing;
  no_inner_role = no_inner_role_of_nothing;
  role_in_nothing = λ long x there. refl;
  full_place = λ entry. inr (full_file, refl);
}

-- a fact of the format of each vault
abbrev pub OfEachCm : ((f : Format) → IsLawful f → Type 0) → Type 0
OfEachCm Fact = (vault : CmVault) (texts : CmTexts vault.keys) → Fact (cm_format vault) (cm_lawful vault texts)
