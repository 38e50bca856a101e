-- What each exit of a call that makes a directory says.
use Rattle.std.specs.Option.{option_or}
use Rattle.std.specs.List.{list_all}
use Rattle.std.proofs.lemmas.Bool.{le-leb, eqb-true}
use Rattle.std.proofs.lemmas.List.{take_all, take_more}
use Rattle.std.proofs.lemmas.Bool.Decides.{leb_tells, eqb_tells}
use Rattle.std.proofs.Common.{arith, true, false, Bool, nat_lt, nat_le, nat_eq, ◌≡◌, ◌≢◌, ◌⊎◌, ◌<◌, ℕ, ◌≤◌, zero, suc, List, [], ◌∷◌, ◌++◌, ◌+◌, ◌-◌, get_or, length, take, replicate, cond, ◌*◌, Option, Some, None, Result, Ok, Err, IsErrAnd, refl, sym, ap, ◌∙◌, inl, inr, subst, IsTrue}
use Rattle.chunk_files.specs.Keys as contents
use Rattle.chunk_files.specs.Keys.{Keys}
use Rattle.chunk_files.specs.Zeros.{is_all_zero}
use Rattle.item_making.specs.Ending.{Whole}
use Rattle.content_writing.specs.Writing.{DrewNoZeros, DrewZeros, HasZeros}
use Rattle.content_writing.proofs.Sixteens.{drawn_so_far}
use Rattle.item_making.specs.Faults.{of_folder}
use Rattle.item_making.specs.declared.fault.PutFault.{PutFault}
use Rattle.item_making.specs.declared.fault.PutFault.TheVariants as puts
use Rattle.vault_values.specs.Id.{id_of}
use Rattle.folder_spec.specs.declared.FolderFault.{FolderFault}
use Rattle.folder_spec.specs.Path.{Path, parent}
use Rattle.folder_spec.proofs.Seen.{seen_of}
use Rattle.folder_spec.specs.State.{IsSound}
use Rattle.folder_spec.specs.Event.{Told, FromTo}
use Rattle.folder_spec.specs.Seen.{IfSeen, IsSeen, seen, under}
use Rattle.folder_spec.specs.View.{Found, NoEntry, Folder, FileOf, Special, View}
use Rattle.plain_tree.specs.Names as plain
use Rattle.plain_tree.specs.Names.{is_name}
use Rattle.port_model.specs.Draws.{ByteStream, Draws}
use Rattle.vault_names.specs.Cryptomator.{cm_folder_of, is_id_character}
use Rattle.vault_read.specs.Laws.{KeepsVaults}
use Rattle.vault_spec.specs.Opened.{OpenedVault}
use Rattle.vault_read.specs.Opened.{IsCryptomator, kind_of}
use Rattle.vault_read.specs.declared.vault.VaultKind.TheVariants as kind
use Rattle.vault_spec.specs.Cryptomator.{CmVault, cm_format, directory_id, shelf_named, folder_named, taken_unless_folder, taken_folders}
use Rattle.vault_spec.specs.Format.{is_bytes, taken_at}
use Rattle.vault_spec.specs.Gocryptfs.{directory_key, taken_unless}
use Rattle.vault_spec.specs.Making.{NewDirectory, draws}
use Rattle.vault_spec.specs.Standing.{entry_at}
use Rattle.vault_spec.specs.Vault.{Vault, Gocryptfs, Cryptomator, format_of}
use Rattle.vault_write.specs.Calls.{MakesDirectory, New}
use Rattle.vault_write.specs.Editing.{Edits, HasFinished, HasBegun, GoPlaces, CmPlaces, go_making, cm_making}
use Rattle.vault_write.specs.Founding.{SomeDrew, DrawsSome}
use Rattle.item_making.specs.Making.{Placing, Making, format}
use Rattle.item_making.specs.Placing.{MayMake}
use Rattle.vault_write.specs.Refusing.{Answers, MayDraw}
use Rattle.vault_write.specs.Showing.{EditsShowTrees, SettledEditsShowTrees}
use Rattle.vault_write.specs.Slots.{IsSlot, IsTakenAt, IsShelfTaken, IsHomeTaken, DrewAtMost, PlacesOne, wants_text, placing}
use Rattle.vault_write.proofs.Begun.{FoldersStand, has_begun}
use Rattle.vault_write.proofs.CmBegun.{cm_begun, cm_places, shelf_above}
use Rattle.vault_write.proofs.Exits.{at_fault}
use Rattle.vault_write.proofs.Found.{Enters, cm_draws, or_taken, taken_there}
use Rattle.vault_write.proofs.GoBegun.{go_begun, go_places}
use Rattle.vault_write.proofs.NewVaults.{is_key}
use Rattle.vault_write.proofs.Seeing.{if_seen}
use Rattle.vault_write.proofs.Stages.{left_true, right_true}
use Rattle.vault_write.proofs.ItemMade.{IsBegun, IsRootFault, RootsShow, makes_named, makes_root, one_ok, one_failed, one_refused}
use Rattle.vault_write.proofs.Filing.{no_zeros_in_none}

abbrev Stream : Type 0
Stream = Option ByteStream

pub drawn_none : (s : Stream) → Draws s s []
drawn_none None = tt
drawn_none (Some stream) = λ place. refl

-- nothing was changed
pub refused_one : (p : Placing) (drawn : List ℕ) (s s' : Stream) (t u : Option Told) (fault : PutFault) (result : Result (Unit {0}) PutFault)
    → Draws s s' drawn → length drawn ≤ draws (format p) p.item → (fault ≡ puts.ZeroRandom → DrewZeros (format p).content drawn) → (fault ≢ puts.ZeroRandom → DrewNoZeros (format p).content drawn) → u ≡ t
    → IfSeen t (λ v. Answers p drawn Whole (under p.vault.root v) (Err fault)) → IsErrAnd result (λ e. e ≡ fault)
    → PlacesOne p s s' t u result
refused_one p drawn s s' t u fault result were few zeros accepted same answer by_fault =
    at_fault (PlacesOne p s s' t u) result fault by_fault
    (subst (λ x. PlacesOne p s s' t x (Err fault)) (sym same) (record { drawn = drawn; were_drawn = were; one = one_refused New p Whole drawn t fault few zeros accepted answer }))

-- a call that did the edits failed, or made the item
module _ (shows : EditsShowTrees) (settles : SettledEditsShowTrees) (roots : RootsShow) (p : Placing) (drawn : List ℕ) (m : Making) (s s' : Stream) (t w : Option Told)
    (begun : (a : Told) → t ≡ Some a → IsBegun p drawn m a) (were : Draws s s' drawn) (size : length drawn ≡ draws (format p) p.item) where
  pub failed_one : (fault : FolderFault) (result : Result (Unit {0}) PutFault) → DrewNoZeros (format p).content drawn → FromTo (Edits p.work p.vault.root m) t w → IsErrAnd result (λ e. e ≡ of_folder fault) → PlacesOne p s s' t w result
  failed_one fault result none went by_fault = at_fault (PlacesOne p s s' t w) result (of_folder fault) by_fault (record { drawn = drawn; were_drawn = were; one = one_failed shows settles roots p drawn m t w begun size fault none went })

  pub done_one : DrewNoZeros (format p).content drawn → FromTo (Edits p.work p.vault.root m) t w → FromTo (HasFinished p.work p.vault.root m) t w → PlacesOne p s s' t w (Ok tt)
  done_one none went finished = record { drawn = drawn; were_drawn = were; one = one_ok shows settles roots p drawn m t w begun size none went finished }

-- its item is begun, and it may do the edits
pub record MayMakeOne (p : Placing) (drawn : List ℕ) (m : Making) (Places : View → Type 0) (t : Option Told) : Type 0 where
  pub begun : (a : Told) → t ≡ Some a → IsBegun p drawn m a
  pub begins : HasBegun p.work p.vault.root m t
  pub places : IfSeen t (λ v. Places v)

-- ---- gocryptfs

pub go_may : Enters → FoldersStand → (root : Path) (vault : Vault) → kind_of vault ≡ kind.Gocryptfs → KeepsVaults (format_of vault) → (work : Path) (front : plain.Path) (name : List ℕ) → IsTrue (is_name name)
    → (t : Option Told) → MayMake t work root → ((a : Told) → t ≡ Some a → IsSound a.state) → (at side : Path) (full : Option (List ℕ))
    → IfSeen t (λ v. IsSlot (record { root = root; vault = vault }) (format_of vault) front name (under root v) at side full) → (wants : Bool) (key : List ℕ)
    → IfSeen t (λ v. (wants ≡ wants_text (v side) full) × (taken_unless side (v side) full ≡ None)) → directory_key key ≡ Some key → length key ≡ 16
    → MayMakeOne (placing (record { root = root; vault = vault }) work front name NewDirectory) key (go_making wants side at full key) (λ v. GoPlaces v work wants side at) t
go_may enters folders root (Gocryptfs keys) is laws work front name named t may sound at side full slot wants key side_is is_key sixteen = record {
  begun = begun_at;
  begins = has_begun (placing (record { root = root; vault = Gocryptfs keys }) work front name NewDirectory) key (go_making wants side at full key) t refl may sound begun_at;
  places = λ v s. go_places enters folders keys root work front name v at side full wants (may.ready v s) may.apart may.beside (slot v s) (side_is v s).0;
}
  where
    begun_at : (a : Told) → t ≡ Some a → IsBegun (placing (record { root = root; vault = Gocryptfs keys }) work front name NewDirectory) key (go_making wants side at full key) a
    begun_at a told = go_begun enters keys laws root work front name key named is_key sixteen a at side full wants (sound a told) (slot (seen a.state) (seen_of t a told))
        (side_is (seen a.state) (seen_of t a told)).0 (side_is (seen a.state) (seen_of t a told)).1 may.apart may.beside
go_may enters folders root (Cryptomator cm) is laws work front name named t may sound at side full slot wants key side_is is_key sixteen = let clash : kind.Cryptomator ≡ kind.Gocryptfs = is in cc

pub drew_key : (s s' : Stream) (key : List ℕ) → DrawsSome s s' (Ok key) → directory_key key ≡ Some key
drew_key s s' key h = subst (λ x. directory_key x ≡ Some x) (sym h.drew.0) (is_key h.bytes h.sizes h.drew.2)

zeros_are : (n : ℕ) (bytes : List ℕ) → length bytes ≡ n → is_all_zero bytes ≡ true → bytes ≡ replicate n 0
zeros_are zero [] size e = refl
zeros_are zero (b ∷ bytes) size e = cc
zeros_are (suc n) [] size e = cc
zeros_are (suc n) (b ∷ bytes) size e =
    let head : b ≡ 0 = eqb-true b 0 (left_true (nat_eq b 0) (is_all_zero bytes) e) in
    let step : length (b ∷ bytes) ≡ suc (length bytes) = refl in
    let tail : bytes ≡ replicate n 0 = zeros_are n bytes (omega (arith, size, step)) (right_true (nat_eq b 0) (is_all_zero bytes) e) in
    cc

refuses_zeros : (vault : Vault) → kind_of vault ≡ kind.Gocryptfs → (contents.format_of (format_of vault).content).refuses_zeros ≡ true
refuses_zeros (Gocryptfs keys) is = refl
refuses_zeros (Cryptomator cm) is = let clash : kind.Cryptomator ≡ kind.Gocryptfs = is in cc

-- no zeros were drawn for a key that has a bit
pub key_has_bits : (keys : Keys) (key : List ℕ) → length key ≡ 16 → is_all_zero key ≡ false → (number : ℕ) → HasZeros keys key number → ⊥
key_has_bits keys key size some zero has =
    let are : key ≡ replicate 16 0 = sym (take_all 16 key (omega (arith, size))) ∙ has.zeros in
    let no : true ≡ false = ap is_all_zero (sym are) ∙ some in
    cc no
key_has_bits keys key size some (suc number) has = let long : 16 * suc (suc number) ≤ length key = drawn_so_far (suc number) key has.zeros in absurd (omega (arith, size, long))

-- no key was drawn
pub go_undrawn : (vault : OpenedVault) → kind_of vault.vault ≡ kind.Gocryptfs → (work : Path) (front : plain.Path) (name : List ℕ) (s s' : Stream) (t u : Option Told) (fault : PutFault) (result : Result (Unit {0}) PutFault)
    → DrawsSome s s' (Err fault) → IfSeen t (λ v. MayDraw (placing vault work front name NewDirectory) (under vault.root v)) → u ≡ t → IsErrAnd result (λ e. e ≡ fault) → PlacesOne (placing vault work front name NewDirectory) s s' t u result
go_undrawn vault is work front name s s' t u fault result h may same by_fault =
    refused_one (placing vault work front name NewDirectory) h.drawn s s' t u fault result h.were_drawn (few fault h.drew) (λ is_zero. drew_zeros fault is_zero h.drew) (drew_none fault h.drew) same (λ v seen_so. answer fault (under vault.root v) (may v seen_so) h.drew) by_fault
  where
    few : (fault : PutFault) → SomeDrew h.bytes h.drawn (Err fault) → length h.drawn ≤ 16
    few puts.ZeroRandom k = let size : length h.drawn ≡ 16 = ap length k.0 ∙ h.sizes.size in omega (arith, size)
    few puts.Random k = let size : length h.drawn ≡ 0 = ap length k in omega (arith, size)
    few fault k = absurd k

    drew_zeros : (fault : PutFault) → fault ≡ puts.ZeroRandom → SomeDrew h.bytes h.drawn (Err fault) → DrewZeros (format_of vault.vault).content h.drawn
    drew_zeros puts.ZeroRandom same k = (0, record { refused = refuses_zeros vault.vault is; zeros = ap (take 16) (k.0 ∙ zeros_are 16 h.bytes h.sizes.size k.1) }, ap length k.0 ∙ h.sizes.size)
    drew_zeros puts.Random same k = cc same
    drew_zeros fault same k = absurd k

    drew_none : (fault : PutFault) → SomeDrew h.bytes h.drawn (Err fault) → fault ≢ puts.ZeroRandom → DrewNoZeros (format_of vault.vault).content h.drawn
    drew_none puts.ZeroRandom k other = absurd (other refl)
    drew_none puts.Random k other = subst (DrewNoZeros (format_of vault.vault).content) (sym k) (no_zeros_in_none (format_of vault.vault).content)
    drew_none fault k other = absurd k

    answer : (fault : PutFault) (v : View) → MayDraw (placing vault work front name NewDirectory) v → SomeDrew h.bytes h.drawn (Err fault) → Answers (placing vault work front name NewDirectory) h.drawn Whole v (Err fault)
    answer puts.ZeroRandom v may_so k = (may_so, drew_zeros puts.ZeroRandom refl k)
    answer puts.Random v may_so k = may_so
    answer fault v may_so k = absurd k

-- ---- Cryptomator

pub cm_may : Enters → FoldersStand → (root : Path) (vault : Vault) → kind_of vault ≡ kind.Cryptomator → KeepsVaults (format_of vault) → (work : Path) (front : plain.Path) (name : List ℕ) → IsTrue (is_name name)
    → (t : Option Told) → MayMake t work root → ((a : Told) → t ≡ Some a → IsSound a.state) → (at side : Path) (full : Option (List ℕ))
    → IfSeen t (λ v. IsSlot (record { root = root; vault = vault }) (format_of vault) front name (under root v) at side full) → (shelf home : Path) (wants : Bool) (id drawn : List ℕ)
    → home ≡ root ++ (format_of vault).folder_of [] id → shelf ≡ parent home → IfSeen t (λ v. v home ≡ NoEntry) → IfSeen t (λ v. v shelf ≡ cond wants NoEntry Folder)
    → id ≡ id_of drawn → directory_id (id_of drawn) ≡ Some (id_of drawn) → length drawn ≡ 16
    → MayMakeOne (placing (record { root = root; vault = vault }) work front name NewDirectory) drawn (cm_making wants shelf home at full id) (λ v. CmPlaces v work wants shelf home at) t
cm_may enters folders root (Cryptomator cm) is laws work front name named t may sound at side full slot shelf home wants id drawn home_is shelf_is home_free shelf_by id_is is_id sixteen = record {
  begun = begun_at;
  begins = has_begun (placing (record { root = root; vault = Cryptomator cm }) work front name NewDirectory) drawn (cm_making wants shelf home at full id) t refl may sound begun_at;
  places = if_seen (λ v. CmPlaces v work wants shelf home at) t
      (λ a told. cm_places enters cm root work front name id a at side full shelf home wants (sound a told) (slot (seen a.state) (seen_of t a told)) home_is shelf_is
      (home_free (seen a.state) (seen_of t a told)) (shelf_by (seen a.state) (seen_of t a told)) may.apart may.beside folders (may.ready (seen a.state) (seen_of t a told)));
}
  where
    begun_at : (a : Told) → t ≡ Some a → IsBegun (placing (record { root = root; vault = Cryptomator cm }) work front name NewDirectory) drawn (cm_making wants shelf home at full id) a
    begun_at a told = cm_begun enters cm root work front name id a at side full shelf home wants (sound a told) (slot (seen a.state) (seen_of t a told)) home_is shelf_is
        (home_free (seen a.state) (seen_of t a told)) (shelf_by (seen a.state) (seen_of t a told)) may.apart may.beside laws named drawn id_is is_id sixteen
cm_may enters folders root (Gocryptfs keys) is laws work front name named t may sound at side full slot shelf home wants id drawn home_is shelf_is home_free shelf_by id_is is_id sixteen = let clash : kind.Gocryptfs ≡ kind.Cryptomator = is in cc

-- no zeros are refused
pub none_refused : ((cm : CmVault) → (contents.format_of (cm_format cm).content).refuses_zeros ≡ false) → (vault : Vault) → kind_of vault ≡ kind.Cryptomator → (drawn : List ℕ) → DrewNoZeros (format_of vault).content drawn
none_refused none (Cryptomator cm) is drawn number has = let no : false ≡ true = sym (none cm) ∙ has.refused in cc no
none_refused none (Gocryptfs keys) is drawn number has = let clash : kind.Gocryptfs ≡ kind.Cryptomator = is in cc

-- a new directory's id is a key
not_below : (a b : ℕ) → b < a → nat_le a b ≡ false
not_below a b less = elim (leb_tells a b) [
  | inl k ↦ absurd (omega (arith, k.1, less))
  | inr k ↦ k.0
]

not_equal : (a b : ℕ) → b < a → nat_eq a b ≡ false
not_equal a b less = elim (eqb_tells a b) [
  | inl k ↦ absurd (omega (arith, k.1, less))
  | inr k ↦ k.0
]

no_character : (c : ℕ) → 256 ≤ c → is_id_character c ≡ false
no_character c large =
    rw (le-leb 48 c (omega (arith, large)), not_below c 57 (omega (arith, large)), le-leb 97 c (omega (arith, large)), not_below c 102 (omega (arith, large)), not_equal c 45 (omega (arith, large))) refl

character_small : (c : ℕ) → is_id_character c ≡ true → nat_lt c 256 ≡ true
character_small c e = elim (leb_tells (suc c) 256) [
  | inl k ↦ k.0
  | inr k ↦ let none : is_id_character c ≡ false = no_character c (omega (arith, k.1)) in cc
]

characters_small : (text : List ℕ) → list_all is_id_character text ≡ true → is_bytes text ≡ true
characters_small [] e = refl
characters_small (c ∷ text) e =
    rw (character_small c (left_true (is_id_character c) (list_all is_id_character text) e)) (characters_small text (right_true (is_id_character c) (list_all is_id_character text) e))

pub is_id : (id : List ℕ) → length id ≡ 36 → IsTrue (list_all is_id_character id) → directory_id id ≡ Some id
is_id id size characters = rw (characters_small id characters, size) refl

-- no id was drawn
pub undrawn_one : (vault : OpenedVault) (work : Path) (front : plain.Path) (name : List ℕ) (s s' : Stream) (t u : Option Told) (fault : PutFault) (result : Result (Unit {0}) PutFault)
    → DrewAtMost 16 s s' → ((drawn : List ℕ) → DrewNoZeros (format_of vault.vault).content drawn) → (fault ≡ puts.Random) ⊎ (fault ≡ puts.NoMemory)
    → IfSeen t (λ v. MayDraw (placing vault work front name NewDirectory) (under vault.root v)) → u ≡ t → IsErrAnd result (λ e. e ≡ fault) → PlacesOne (placing vault work front name NewDirectory) s s' t u result
undrawn_one vault work front name s s' t u fault result h none kinds may same by_fault =
    refused_one (placing vault work front name NewDirectory) h.drawn s s' t u fault result h.were_drawn h.few undrawn (λ other. none h.drawn) same (λ v seen_so. answer (under vault.root v) (may v seen_so)) by_fault
  where
    undrawn : fault ≡ puts.ZeroRandom → DrewZeros (format_of vault.vault).content h.drawn
    undrawn zeros = elim kinds [
      | inl random ↦ cc
      | inr memory ↦ cc
    ]

    answer : (v : View) → MayDraw (placing vault work front name NewDirectory) v → Answers (placing vault work front name NewDirectory) h.drawn Whole v (Err fault)
    answer v may_so = elim kinds [
      | inl random ↦ subst (λ x. Answers (placing vault work front name NewDirectory) h.drawn Whole v (Err x)) (sym random) may_so
      | inr memory ↦ subst (λ x. Answers (placing vault work front name NewDirectory) h.drawn Whole v (Err x)) (sym memory) tt
    ]

-- whichever path it has
unless_folder : (one other : Path) (there : Found) → taken_unless_folder one there ≡ Some one → taken_unless_folder other there ≡ Some other
unless_folder one other NoEntry e = cc
unless_folder one other Folder e = cc
unless_folder one other (FileOf bytes) e = refl
unless_folder one other Special e = refl

-- one of its folders' places is taken
module _ (cm : CmVault) (root work : Path) (front : plain.Path) (name id drawn : List ℕ) (t : Option Told) (at side : Path) (full : Option (List ℕ)) (id_is : id ≡ id_of drawn)
    (slot : IfSeen t (λ v. IsSlot (record { root = root; vault = Cryptomator cm }) (cm_format cm) front name (under root v) at side full)) where
  abbrev p : Placing
  p = placing (record { root = root; vault = Cryptomator cm }) work front name NewDirectory

  abbrev home : Path
  home = root ++ folder_named (cm_folder_of cm.keys id)

  abbrev shelf : Path
  shelf = parent home

  folders_taken : (place : Path) (v : View) → (s : IsSeen t v) → taken_folders (under root v) (cm_folder_of cm.keys id) ≡ Some place → Answers p drawn Whole (under root v) (Err (puts.Taken (root ++ place)))
  folders_taken place v s e = (
    place,
    refl,
    record {
      dir = (slot v s).dir;
      there = record { entered = (slot v s).entered; allowed = (slot v s).allowed };
      is = subst (λ x. (cm_format cm).taken_for_directory (under root v) (slot v s).dir ((cm_format cm).stored (slot v s).dir.key name) x ≡ Some place) id_is
          (ap (λ x. option_or (taken_at (entry_at (cm_format cm) (slot v s).dir name) x) (taken_folders (under root v) (cm_folder_of cm.keys id))) (slot v s).free ∙ e);
    },
    inr (cm_draws root (Cryptomator cm) refl work front name NewDirectory t at side full slot v s),
  )

  home_taken : (fault : PutFault) → IsTakenAt home t fault → IfSeen t (λ v. Answers p drawn Whole (under root v) (Err fault))
  home_taken fault is v s =
      or_taken p drawn Whole (under root v) fault home (IfSeen t (λ v. v home ≢ NoEntry))
      (λ taken. folders_taken (folder_named (cm_folder_of cm.keys id)) v s
      (ap (λ o. option_or o (taken_unless_folder (shelf_named (cm_folder_of cm.keys id)) (under root v (shelf_named (cm_folder_of cm.keys id)))))
      (taken_there (folder_named (cm_folder_of cm.keys id)) (under root v (folder_named (cm_folder_of cm.keys id))) (taken v s)))) is

  shelf_taken : (fault : PutFault) → IfSeen t (λ v. v home ≡ NoEntry) → IsShelfTaken shelf t fault → IfSeen t (λ v. Answers p drawn Whole (under root v) (Err fault))
  shelf_taken fault free is v s =
      or_taken p drawn Whole (under root v) fault shelf (IfSeen t (λ v. taken_unless_folder shelf (v shelf) ≡ Some shelf))
      (λ taken. subst (λ q. Answers p drawn Whole (under root v) (Err (puts.Taken q))) (sym (shelf_above root (cm_folder_of cm.keys id)))
      (folders_taken (shelf_named (cm_folder_of cm.keys id)) v s
      (ap (λ x. option_or (taken_at (folder_named (cm_folder_of cm.keys id)) x) (taken_unless_folder (shelf_named (cm_folder_of cm.keys id)) (under root v (shelf_named (cm_folder_of cm.keys id))))) (free v s)
      ∙ unless_folder shelf (shelf_named (cm_folder_of cm.keys id)) (under root v (shelf_named (cm_folder_of cm.keys id)))
      (ap (λ q. taken_unless_folder shelf (v q)) (sym (shelf_above root (cm_folder_of cm.keys id))) ∙ taken v s)))) is

  either_taken : (fault : PutFault) → IsHomeTaken shelf home t fault → IfSeen t (λ v. Answers p drawn Whole (under root v) (Err fault))
  either_taken fault (inl first) = home_taken fault first
  either_taken fault (inr second) = shelf_taken fault second.0 second.1

pub home_refused : (root : Path) (vault : Vault) → kind_of vault ≡ kind.Cryptomator → (work : Path) (front : plain.Path) (name id drawn : List ℕ) (t : Option Told) (at side : Path) (full : Option (List ℕ)) → id ≡ id_of drawn
    → IfSeen t (λ v. IsSlot (record { root = root; vault = vault }) (format_of vault) front name (under root v) at side full) → (fault : PutFault)
    → IsHomeTaken (parent (root ++ (format_of vault).folder_of [] id)) (root ++ (format_of vault).folder_of [] id) t fault
    → IfSeen t (λ v. Answers (placing (record { root = root; vault = vault }) work front name NewDirectory) drawn Whole (under root v) (Err fault))
home_refused root (Cryptomator cm) is work front name id drawn t at side full id_is slot fault taken = either_taken cm root work front name id drawn t at side full id_is slot fault taken
home_refused root (Gocryptfs keys) is work front name id drawn t at side full id_is slot fault taken = let clash : kind.Gocryptfs ≡ kind.Cryptomator = is in cc

pub is_cryptomator : (vault : Vault) → kind_of vault ≡ kind.Cryptomator → IsCryptomator vault
is_cryptomator (Cryptomator cm) is = tt
is_cryptomator (Gocryptfs keys) is = let clash : kind.Gocryptfs ≡ kind.Cryptomator = is in cc

-- ---- at a plain path

pub no_names : (names path : plain.Path) → length names < 1 → names ≡ path → path ≡ []
no_names [] path short is = sym is
no_names (name ∷ names) path short is = let size : length (name ∷ names) ≡ suc (length names) = refl in absurd (omega (arith, short, size))

-- the names are those in front of the last, and that
pub last_name : (names path : plain.Path) (name : List ℕ) → names ≡ path → 1 ≤ length names → name ≡ get_or names (length names - 1) name → path ≡ take (length names - 1) names ++ name ∷ []
last_name names path name same some is =
    let below : length names - 1 < length names = omega (arith, some) in
    let whole : length names ≤ length names - 1 + 1 = omega arith in
    sym same ∙ sym (take_all (length names - 1 + 1) names whole) ∙ take_more names (length names - 1) name below ∙ ap (λ x. take (length names - 1) names ++ x ∷ []) (sym is)

pub root_made : (vault : OpenedVault) (work : Path) (path : plain.Path) (s : Stream) (t : Option Told) (fault : PutFault) → path ≡ [] → IsRootFault New vault.root fault
    → MakesDirectory vault work path s s t t (Err fault)
root_made vault work path s t fault none is = record { drawn = []; were_drawn = drawn_none s; makes = makes_root New vault work path NewDirectory Whole t fault none is }

pub named_made : (vault : OpenedVault) (work : Path) (path front : plain.Path) (name : List ℕ) (s s' : Stream) (t u : Option Told) (result : Result (Unit {0}) PutFault) → path ≡ front ++ name ∷ []
    → PlacesOne (placing vault work front name NewDirectory) s s' t u result → MakesDirectory vault work path s s' t u result
named_made vault work path front name s s' t u result is k = record {
  drawn = k.drawn;
  were_drawn = k.were_drawn;
  makes = makes_named New vault work path front name NewDirectory Whole k.drawn t u result is k.one;
}
