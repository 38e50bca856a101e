-- What is gone of a vault where some strays are: no folder of entries, and no entry of an item with its files.
use Rattle.std.proofs.Common.{◌≡◌, ◌≢◌, ◌⊎◌, ℕ, zero, suc, ◌+◌, Bool, true, false, List, [], ◌∷◌, ◌++◌, Ok, Result, cond, refl, sym, ap, ◌∙◌, inl, inr, subst, append_assoc, append-nil, IsTrue, is_some, length, length-append, arith}
use Rattle.folder_spec.specs.Path.{Part, Path, child}
use Rattle.folder_spec.specs.View.{Found, NoEntry, Folder, View}
use Rattle.folder_spec.specs.Seen.{under, ShowsFile}
use Rattle.folder_spec.proofs.Paths.{child_begins, child-not_base, base_or_child}
use Rattle.plain_tree.specs.Names as plain
use Rattle.plain_tree.specs.Names.{is_name}
use Rattle.vault_spec.specs.declared.Finding.{Finding}
use Rattle.vault_spec.specs.declared.Finding.TheVariants as is
use Rattle.vault_spec.specs.Alike.{HasFolders}
use Rattle.vault_spec.specs.Findings.{IsEntryOf, Belongs, IsUnnamed, IsOrphanName, IsFullTextOf, IsInside, IsExtra, IsLoose, IsFinding}
use Rattle.vault_spec.specs.Findings as findings
use Rattle.vault_spec.specs.declared.Lack.{Lack}
use Rattle.vault_spec.specs.Format.{Format, Directory, Item, Nothing, FileItem, DirectoryItem, NoItem, Expected, ContentFolder, Extra}
use Rattle.vault_spec.specs.Moving.{is_moved, IsStray, cut, GoesWith, AreStrays, HasSoundFolders}
use Rattle.vault_spec.specs.Reached.{Leads, IsReached}
use Rattle.vault_spec.specs.Standing.{Dir, entry_at, holds_full, item_at, root_of, directory_with, standing_of, standing_in}
use Rattle.vault_spec.proofs.Lawful.{IsLawful}
use Rattle.vault_spec.proofs.StrayLaws.{KnowsStrays, IsNested, IsFlat}
use Rattle.vault_spec.proofs.Grafts.{IsRight, reached_right, IsEntered, is_entered, standing_named}
use Rattle.vault_spec.proofs.Clean.{IsChild, is_child}
use Rattle.vault_spec.proofs.PathEnds.{child-both}

-- An entry of a folder that is a stray: it has no name, or one and is no item, or is a long-name file without its text.
pub data EntryStray (f : Format) (v : View) (dir : Directory) (x : Part) : Type 0 where
  NoName : ¬ Belongs f v dir x → ((name : List ℕ) → ¬ IsEntryOf f v dir x name) → EntryStray f v dir x
  NoneOfName : (name : List ℕ) → IsEntryOf f v dir x name → item_at f v dir (f.stored dir.key name) ≡ NoItem is.SymlinkFound → EntryStray f v dir x
  NoText : IsTrue (f.is_full x) → ((entry : Part) → ¬ IsFullTextOf f v dir x entry) → EntryStray f v dir x

pub record StrayEntry (f : Format) (v : View) (at : Path) : Type 0 where
  pub dir : Directory
  pub x : Part
  pub reached : IsReached f v dir
  pub place : at ≡ child dir.folder x
  pub stray : EntryStray f v dir x

-- A stray is an entry of a folder, or an entry of an item's own folder, or has no place by its role, or is a content folder that isn't
-- reached.
pub data StrayPlace (f : Format) (v : View) (at : Path) : Type 0 where
  AtEntry : StrayEntry f v at → StrayPlace f v at
  InEntry : IsInside f v at → StrayPlace f v at
  Misplaced : f.role at (v at) ≡ Extra → StrayPlace f v at
  Unreached : IsLoose f v at → StrayPlace f v at

by_extra : (f : Format) (v : View) (at : Path) → IsExtra f v at → StrayPlace f v at
by_extra f v at (inl inside) = InEntry inside
by_extra f v at (inr role) = Misplaced role

unnamed_entry : (f : Format) (v : View) (at : Path) (finding : Finding) → IsUnnamed f v finding at → StrayEntry f v at
unnamed_entry f v at finding u = record { dir = u.dir; x = u.entry; reached = u.reached; place = u.place; stray = NoName u.stray u.unnamed }

odd_entry : (f : Format) (v : View) (at : Path) → findings.IsNoItem f v is.SymlinkFound at → StrayEntry f v at
odd_entry f v at u = record { dir = u.dir; x = (f.stored u.dir.key u.name).name; reached = u.reached; place = u.place; stray = NoneOfName u.name u.of u.is }

orphan_entry : (f : Format) (v : View) (at : Path) → IsOrphanName f v at → StrayEntry f v at
orphan_entry f v at u = record { dir = u.dir; x = u.file; reached = u.reached; place = u.place; stray = NoText u.full u.wrong }

by_finding : (f : Format) (v : View) (at : Path) (finding : Finding) → IsTrue (is_moved finding) → IsFinding f v finding at → StrayPlace f v at
by_finding f v at is.BadStoredName moved found = AtEntry (unnamed_entry f v at is.BadStoredName found)
by_finding f v at is.NoDirKey moved found = cc
by_finding f v at is.LongNameLost moved found = AtEntry (unnamed_entry f v at is.LongNameLost found)
by_finding f v at is.OrphanLongName moved found = AtEntry (orphan_entry f v at found)
by_finding f v at is.DirIdTwice moved found = cc
by_finding f v at is.NoFolder moved found = cc
by_finding f v at is.OrphanFolder moved found = Unreached found.loose
by_finding f v at is.SymlinkFound moved found = AtEntry (odd_entry f v at found)
by_finding f v at is.WrongKind moved found = cc
by_finding f v at is.ExtraEntry moved found = by_extra f v at found
by_finding f v at is.TwoKinds moved found = cc
by_finding f v at is.HeaderDamaged moved found = cc
by_finding f v at is.ChunkDamaged moved found = cc
by_finding f v at is.EmptyOrphan moved found = cc

pub stray_place : (f : Format) (v : View) (at : Path) → IsStray f v at → StrayPlace f v at
stray_place f v at stray = by_finding f v at stray.finding stray.moved stray.found

-- what is known of the vault and of what is gone
pub record IsCut (f : Format) (lawful : IsLawful f) (v : View) (gone : Path → Bool) : Type 0 where
  pub knows : KnowsStrays f lawful
  pub has : HasSoundFolders f v
  pub are : AreStrays f v gone

-- what stays and what goes
pub kept : (v : View) (gone : Path → Bool) (q : Path) → gone q ≡ false → cut gone v q ≡ v q
kept v gone q is = ap (λ b. cond b NoEntry (v q)) is

pub went : (v : View) (gone : Path → Bool) (q : Path) → gone q ≡ true → cut gone v q ≡ NoEntry
went v gone q is = ap (λ b. cond b NoEntry (v q)) is

pub gone_or_not : (b : Bool) → (b ≡ true) ⊎ (b ≡ false)
gone_or_not true = inl refl
gone_or_not false = inr refl

pub is_still : (v : View) (gone : Path → Bool) (q : Path) → cut gone v q ≢ NoEntry → gone q ≡ false
is_still v gone q there = elim (gone_or_not (gone q)) [
  | inl is ↦ absurd (there (went v gone q is))
  | inr stays ↦ stays
]

pub not_gone : (b : Bool) → (b ≡ true → ⊥) → b ≡ false
not_gone true never = absurd (never refl)
not_gone false never = refl

-- what goes from a folder that stays is a stray
pub gone_child : (f : Format) (v : View) (gone : Path → Bool) → AreStrays f v gone → (up : Path) (x : Part) → gone up ≡ false → gone (child up x) ≡ true → IsStray f v (child up x)
gone_child f v gone are up x up_stays goes =
    let with : GoesWith f v gone (child up x) = are.strays (child up x) goes in
    elim (child_begins with.at up x with.rest with.place) [
      | inl same ↦ subst (IsStray f v) (sym same) with.stray
      | inr above ↦ let clash : true ≡ false = sym (are.whole with.at above.0 with.went) ∙ ap gone (sym above.1) ∙ up_stays in cc
    ]

-- a folder of entries is that of its key, and names of one entry are both long or both short
folder_form : (f : Format) (lawful : IsLawful f) (v : View) (dir : Directory) → (reached : IsReached f v dir) → dir.folder ≡ f.folder_of (reached_right f lawful v reached.0 dir reached.1).at dir.key
folder_form f lawful v dir reached = (reached_right f lawful v reached.0 dir reached.1).form

-- what is in a folder of entries has no role
pub no_role_there : (f : Format) (lawful : IsLawful f) → KnowsStrays f lawful → (v : View) (dir : Directory) → IsReached f v dir → (a : Part) (rest : Path) (there : Found)
    → f.role (child dir.folder a ++ rest) there ≡ Expected
no_role_there f lawful knows v dir reached a rest there =
    ap (λ p. f.role (child p a ++ rest) there) (folder_form f lawful v dir reached)
    ∙ knows.entry_role (reached_right f lawful v reached.0 dir reached.1).at dir.key a rest there

no_role_at : (f : Format) (lawful : IsLawful f) → KnowsStrays f lawful → (v : View) (dir : Directory) → IsReached f v dir → (a : Part) (there : Found) → f.role (child dir.folder a) there ≡ Expected
no_role_at f lawful knows v dir reached a there =
    ap (λ p. f.role p there) (sym (append-nil (child dir.folder a))) ∙ no_role_there f lawful knows v dir reached a [] there

-- a folder of entries is no entry where no folder is in one
pub never_in_entries : (f : Format) (lawful : IsLawful f) → IsFlat f → (v : View) (dir other : Directory) → IsReached f v dir → IsReached f v other → (a : Part) (rest : Path) → dir.folder ≢ child other.folder a ++ rest
never_in_entries f lawful flat v dir other reached reached_too a rest same =
    flat.apart (reached_right f lawful v reached.0 dir reached.1).at (reached_right f lawful v reached_too.0 other reached_too.1).at dir.key other.key a rest
    (sym (folder_form f lawful v dir reached) ∙ same ∙ ap (λ p. child p a ++ rest) (folder_form f lawful v other reached_too))

-- an item's own folder that is a folder of entries has nothing without a place
never_inside : (f : Format) (lawful : IsLawful f) → KnowsStrays f lawful → (v : View) (dir other : Directory) → IsReached f v dir → IsReached f v other → (a : Part) → dir.folder ≡ child other.folder a
    → (long : Bool) (item : Item) (x : Part) (there : Found) → f.inner_role long item x there ≢ Extra
never_inside f lawful knows v dir other reached reached_too a same long item x there extra = elim knows.layout [
  | inl nested ↦ let clash : Expected ≡ Extra = sym (nested.inner long item x there) ∙ extra in cc
  | inr flat ↦ never_in_entries f lawful flat v dir other reached reached_too a [] (same ∙ sym (append-nil (child other.folder a)))
]

-- a stray at an entry of a folder is one as an entry
pub entry_stray : (f : Format) (lawful : IsLawful f) → KnowsStrays f lawful → (v : View) → HasSoundFolders f v → (dir : Directory) → IsReached f v dir → (x : Part)
    → IsStray f v (child dir.folder x) → EntryStray f v dir x
entry_stray f lawful knows v has dir reached x stray = by_place (stray_place f v (child dir.folder x) stray)
  where
    by_place : StrayPlace f v (child dir.folder x) → EntryStray f v dir x
    by_place (AtEntry s) =
        let both : (dir.folder ≡ s.dir.folder) × (x ≡ s.x) = child-both dir.folder s.dir.folder x s.x s.place in
        let one : dir ≡ s.dir = has.own dir s.dir reached s.reached both.0 in
        subst (λ d. EntryStray f v d x) (sym one) (subst (EntryStray f v s.dir) (sym both.1) s.stray)
    by_place (InEntry u) =
        let both : (dir.folder ≡ entry_at f u.dir u.name) × (x ≡ u.entry) = child-both dir.folder (entry_at f u.dir u.name) x u.entry u.place in
        absurd (never_inside f lawful knows v dir u.dir reached u.reached (f.stored u.dir.key u.name).name both.0
        (is_some (f.stored u.dir.key u.name).full) (item_at f v u.dir (f.stored u.dir.key u.name)) u.entry (v (child dir.folder x)) u.extra)
    by_place (Misplaced role) = let clash : Expected ≡ Extra = sym (no_role_at f lawful knows v dir reached x (v (child dir.folder x))) ∙ role in cc
    by_place (Unreached u) = let clash : Expected ≡ ContentFolder = sym (no_role_at f lawful knows v dir reached x (v (child dir.folder x))) ∙ u.folder in cc

-- the entry of a name is one of its item, whatever other name it has
pub same_item : (f : Format) (lawful : IsLawful f) (v : View) (dir : Directory) (name other : List ℕ) → IsReached f v dir → IsTrue (is_name name) → IsTrue (is_name other)
    → (f.stored dir.key other).name ≡ (f.stored dir.key name).name → (is_some (f.stored dir.key other).full ≡ is_some (f.stored dir.key name).full) × (item_at f v dir (f.stored dir.key other) ≡ item_at f v dir (f.stored dir.key name))
same_item f lawful v dir name other reached named other_named same = (
  forms,
  ap (λ b. f.item b (under (entry_at f dir other) v)) forms ∙ ap (λ n. f.item (is_some (f.stored dir.key name).full) (under (child dir.folder n) v)) same,
)
  where
    forms : is_some (f.stored dir.key other).full ≡ is_some (f.stored dir.key name).full
    forms = lawful.forms dir.key other name (reached_right f lawful v reached.0 dir reached.1).is_key other_named named same

-- a stray that is the entry of a name is no item
pub stray_is_no_item : (f : Format) (lawful : IsLawful f) → KnowsStrays f lawful → (v : View) → HasSoundFolders f v → (dir : Directory) → IsReached f v dir → (name : List ℕ)
    → IsEntryOf f v dir (f.stored dir.key name).name name → IsStray f v (entry_at f dir name) → item_at f v dir (f.stored dir.key name) ≡ NoItem is.SymlinkFound
stray_is_no_item f lawful knows v has dir reached name of stray = by_entry (entry_stray f lawful knows v has dir reached (f.stored dir.key name).name stray)
  where
    by_entry : EntryStray f v dir (f.stored dir.key name).name → item_at f v dir (f.stored dir.key name) ≡ NoItem is.SymlinkFound
    by_entry (NoName stray_too unnamed) = absurd (unnamed name of)
    by_entry (NoneOfName other of_other item) = sym (same_item f lawful v dir name other reached of.named of_other.named of_other.stores).1 ∙ item
    by_entry (NoText full wrong) =
        let clash : true ≡ false = sym full ∙ knows.entry_not_full dir.key name (reached_right f lawful v reached.0 dir reached.1).is_key of.named in cc

-- no stray is the root
pub stray_not_root : (f : Format) (lawful : IsLawful f) → KnowsStrays f lawful → (v : View) (at : Path) → IsStray f v at → at ≢ []
stray_not_root f lawful knows v at stray root = by_place (stray_place f v at stray)
  where
    by_place : StrayPlace f v at → ⊥
    by_place (AtEntry s) = child-not_base s.dir.folder s.x (sym s.place ∙ root)
    by_place (InEntry u) = child-not_base (entry_at f u.dir u.name) u.entry (sym u.place ∙ root)
    by_place (Misplaced role) = let clash : Expected ≡ Extra = sym (knows.root_role (v at)) ∙ ap (λ p. f.role p (v at)) (sym root) ∙ role in cc
    by_place (Unreached u) = let clash : Expected ≡ ContentFolder = sym (knows.root_role (v at)) ∙ ap (λ p. f.role p (v at)) (sym root) ∙ u.folder in cc

pub root_stays : (f : Format) (lawful : IsLawful f) (v : View) (gone : Path → Bool) → IsCut f lawful v gone → gone [] ≡ false
root_stays f lawful v gone is_cut = not_gone (gone []) (λ goes.
    let with : GoesWith f v gone [] = is_cut.are.strays [] goes in
    stray_not_root f lawful is_cut.knows v with.at with.stray (front_none with.at with.rest with.place))
  where
    front_none : (at rest : Path) → [] ≡ at ++ rest → at ≡ []
    front_none [] rest e = refl
    front_none (a ∷ at) rest e = cc

-- folders stand above what stands
above_stands : (v : View) → HasFolders v → (at rest : Path) → v (at ++ rest) ≡ Folder → v at ≡ Folder
above_stands v folders at [] there = ap v (sym (append-nil at)) ∙ there
above_stands v folders at (a ∷ rest) there =
    folders at a (λ none. let up : v (child at a) ≡ Folder = above_stands v folders (child at a) rest (ap v (append_assoc at (a ∷ []) rest) ∙ there) in
    let clash : Folder ≡ NoEntry = sym up ∙ none in cc)

-- Where no folder is in one of entries, none goes.
flat_folder_stays : (f : Format) (lawful : IsLawful f) (v : View) (gone : Path → Bool) → IsCut f lawful v gone → IsFlat f → (dir : Directory) → IsReached f v dir → gone dir.folder ≡ false
flat_folder_stays f lawful v gone is_cut flat dir reached = not_gone (gone dir.folder) (λ goes. by_with (is_cut.are.strays dir.folder goes))
  where
    right : IsRight f lawful v dir
    right = reached_right f lawful v reached.0 dir reached.1

    by_place : (at rest : Path) → dir.folder ≡ at ++ rest → v at ≡ Folder → StrayPlace f v at → ⊥
    by_place at rest place there (AtEntry s) = never_in_entries f lawful flat v dir s.dir reached s.reached s.x rest (place ∙ ap (λ p. p ++ rest) s.place)
    by_place at rest place there (InEntry u) =
        never_in_entries f lawful flat v dir u.dir reached u.reached (f.stored u.dir.key u.name).name (u.entry ∷ rest)
        (place ∙ ap (λ p. p ++ rest) u.place ∙ append_assoc (entry_at f u.dir u.name) (u.entry ∷ []) rest)
    by_place at rest place there (Misplaced role) =
        is_cut.knows.folder_role right.at dir.key at rest (sym right.form ∙ place) (ap (f.role at) (sym there) ∙ role)
    by_place at rest place there (Unreached u) =
        u.loose dir reached (right.form ∙ sym (is_cut.knows.folder_content right.at dir.key at rest (sym right.form ∙ place) (ap (f.role at) (sym there) ∙ u.folder)))

    by_with : GoesWith f v gone dir.folder → ⊥
    by_with with = by_place with.at with.rest with.place (above_stands v is_cut.has.folders with.at with.rest (ap v (sym with.place) ∙ right.there)) (stray_place f v with.at with.stray)

-- Where each folder is its entry, none goes: by the number of names to it.
abbrev FoldersStay : Format → View → (Path → Bool) → ℕ → Type 0
FoldersStay f v gone n = (path : plain.Path) (dir : Directory) → length path ≡ n → Leads f v path dir → gone dir.folder ≡ false

nested_root : (f : Format) (lawful : IsLawful f) (v : View) (gone : Path → Bool) → IsCut f lawful v gone → IsNested f lawful → (dir : Directory) → Leads f v [] dir → gone dir.folder ≡ false
nested_root f lawful v gone is_cut nested dir leads =
    let entered : IsEntered f v [] (f.root_key v) dir = is_entered f v [] (f.root_key v) dir (root_entered leads.at leads.stands) in
    ap gone (entered.form ∙ nested.own [] dir.key) ∙ root_stays f lawful v gone is_cut
  where
    root_entered : (at : Path) → root_of f v ≡ Dir at (Ok dir) → directory_with f v [] (f.root_key v) ≡ Ok dir
    root_entered at e = cc

-- what stands as a directory is an item that is one
by_item : (f : Format) (v : View) (at : Path) (held : Bool) (item : Item) (a : Path) (x : Result Directory Lack) → standing_of f v at held item ≡ Dir a x → item ≡ DirectoryItem
by_item f v at held Nothing a x e = cc
by_item f v at false (FileItem rest) a x e = cc
by_item f v at true (FileItem rest) a x e = cc
by_item f v at held DirectoryItem a x e = refl
by_item f v at held (NoItem finding) a x e = cc

is_directory : (f : Format) (v : View) (dir : Directory) (name : List ℕ) (at : Path) (x : Result Directory Lack) → is_name name ≡ true → standing_in f v dir name ≡ Dir at x
    → item_at f v dir (f.stored dir.key name) ≡ DirectoryItem
is_directory f v dir name at x named e =
    by_item f v (entry_at f dir name) (holds_full f v dir (f.stored dir.key name)) (item_at f v dir (f.stored dir.key name)) at x (sym (standing_named f v dir name named) ∙ e)

nested_child : (f : Format) (lawful : IsLawful f) (v : View) (gone : Path → Bool) → IsCut f lawful v gone → IsNested f lawful → (path : plain.Path) (name : List ℕ) (dir : Directory)
    → (one : IsChild f v path name dir) → gone one.dir.folder ≡ false → gone dir.folder ≡ false
nested_child f lawful v gone is_cut nested path name dir one up_stays = not_gone (gone dir.folder) (λ goes.
    let stray : IsStray f v (entry_at f one.dir name)
    = gone_child f v gone is_cut.are one.dir.folder (f.stored one.dir.key name).name up_stays (ap gone (sym form) ∙ goes) in
    let no_item : item_at f v one.dir (f.stored one.dir.key name) ≡ NoItem is.SymlinkFound
    = stray_is_no_item f lawful is_cut.knows v is_cut.has one.dir (path, one.leads) name (record { named = one.how.named; stores = refl; full = one.how.held }) stray in
    let clash : NoItem is.SymlinkFound ≡ DirectoryItem = sym no_item ∙ is_directory f v one.dir name one.at (Ok dir) one.how.named one.stands in cc)
  where
    form : dir.folder ≡ entry_at f one.dir name
    form = one.its.form ∙ nested.own (entry_at f one.dir name) dir.key

nested_more : (f : Format) (lawful : IsLawful f) (v : View) (gone : Path → Bool) → IsCut f lawful v gone → IsNested f lawful → (n : ℕ) → FoldersStay f v gone n → FoldersStay f v gone (suc n)
nested_more f lawful v gone is_cut nested n shorter path dir size leads = by_end (base_or_child path)
  where
    by_end : (path ≡ []) ⊎ ((p : Path) × (a : Part) × (path ≡ child p a)) → gone dir.folder ≡ false
    by_end (inl none) = nested_root f lawful v gone is_cut nested dir (subst (λ p. Leads f v p dir) none leads)
    by_end (inr last) =
        let one : IsChild f v last.0 last.1 dir = is_child f v last.0 last.1 dir (subst (λ p. Leads f v p dir) last.2 leads) in
        let more : length last.0 + 1 ≡ suc n = sym (length-append last.0 (last.1 ∷ [])) ∙ ap length (sym last.2) ∙ size in
        nested_child f lawful v gone is_cut nested last.0 last.1 dir one (shorter last.0 one.dir (omega (arith, more)) one.leads)

no_names : (f : Format) (lawful : IsLawful f) (v : View) (gone : Path → Bool) → IsCut f lawful v gone → IsNested f lawful → FoldersStay f v gone zero
no_names f lawful v gone is_cut nested [] dir size leads = nested_root f lawful v gone is_cut nested dir leads
no_names f lawful v gone is_cut nested (name ∷ path) dir size leads = cc

nested_stay : (f : Format) (lawful : IsLawful f) (v : View) (gone : Path → Bool) → IsCut f lawful v gone → IsNested f lawful → (n : ℕ) → FoldersStay f v gone n
nested_stay f lawful v gone is_cut nested zero = no_names f lawful v gone is_cut nested
nested_stay f lawful v gone is_cut nested (suc n) = nested_more f lawful v gone is_cut nested n (nested_stay f lawful v gone is_cut nested n)

-- no folder of entries goes
pub folder_stays : (f : Format) (lawful : IsLawful f) (v : View) (gone : Path → Bool) → IsCut f lawful v gone → (dir : Directory) → IsReached f v dir → gone dir.folder ≡ false
folder_stays f lawful v gone is_cut dir reached = elim is_cut.knows.layout [
  | inl nested ↦ nested_stay f lawful v gone is_cut nested (length reached.0) reached.0 dir refl reached.1
  | inr flat ↦ flat_folder_stays f lawful v gone is_cut flat dir reached
]
