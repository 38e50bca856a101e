-- What is found in a vault of which some strays are gone was found before, but for notes.
use Rattle.std.proofs.Common.{◌≡◌, ◌≢◌, ℕ, Bool, true, false, List, [], ◌++◌, Err, Result, refl, sym, ap, ◌∙◌, inl, inr, subst, IsTrue, is_some}
use Rattle.folder_spec.specs.Path.{Part, Path, child}
use Rattle.folder_spec.specs.View.{NoEntry, FileOf, View}
use Rattle.folder_spec.specs.Seen.{under, ShowsFile}
use Rattle.vault_spec.specs.declared.Finding.{Finding}
use Rattle.vault_spec.specs.declared.Finding.TheVariants as is
use Rattle.vault_spec.specs.declared.Lack.{Lack}
use Rattle.vault_spec.specs.declared.Lack.TheVariants as lacks
use Rattle.vault_spec.specs.Alike.{HasNoItem}
use Rattle.vault_spec.specs.Findings.{IsEntryOf, Belongs, IsUnnamed, IsDirectoryItem, IsLocked, IsFullTextOf, IsOrphanName, IsTwice, IsLoose, IsFixed, IsOrphanFolder, IsInside, IsExtra, IsDamaged, HasFault, IsFinding}
use Rattle.vault_spec.specs.Findings as findings
use Rattle.vault_spec.specs.Format.{Format, Directory, Nothing, NoItem, Expected, ContentFolder, Extra, key_of}
use Rattle.vault_spec.specs.Moving.{cut}
use Rattle.vault_spec.specs.Reached.{IsReached}
use Rattle.vault_spec.specs.Standing.{Dir, entry_at, holds_full, item_at, root_of}
use Rattle.vault_spec.proofs.Lawful.{IsLawful}
use Rattle.vault_spec.proofs.Grafts.{none_stands, holds_by}
use Rattle.vault_spec.proofs.Clean.{StandsAs, stands_as}
use Rattle.vault_spec.proofs.StaysClean.{nothing_at}
use Rattle.vault_spec.proofs.Places.{led_on, led_back}
use Rattle.vault_spec.proofs.Cuts.{IsCut, kept, is_still, root_stays}
use Rattle.vault_spec.proofs.CutItems.{item_stays, entry_key_stays, held_on, held_back}
use Rattle.vault_spec.proofs.CutOpens.{cut_alike}

-- what was found, and stays
abbrev Was : Format → View → (Path → Bool) → Finding → Path → Type 0
Was f v gone finding at = IsFinding f v finding at × (gone at ≡ false)

-- a directory that is reached was
back : (f : Format) (lawful : IsLawful f) (v : View) (gone : Path → Bool) → IsCut f lawful v gone → (dir : Directory) → IsReached f (cut gone v) dir → IsReached f v dir
back f lawful v gone is_cut dir reached = (reached.0, led_back f v (cut gone v) (cut_alike f lawful v gone is_cut) reached.0 dir reached.1)

on : (f : Format) (lawful : IsLawful f) (v : View) (gone : Path → Bool) → IsCut f lawful v gone → (dir : Directory) → IsReached f v dir → IsReached f (cut gone v) dir
on f lawful v gone is_cut dir reached = (reached.0, led_on f v (cut gone v) (cut_alike f lawful v gone is_cut) reached.0 dir reached.1)

-- a file that stays is one, and was one
file_on : (v : View) (gone : Path → Bool) (at : Path) → gone at ≡ false → ShowsFile v at → ShowsFile (cut gone v) at
file_on v gone at stays file = (file.0, kept v gone at stays ∙ file.1)

file_back : (v : View) (gone : Path → Bool) (at : Path) → ShowsFile (cut gone v) at → (gone at ≡ false) × ShowsFile v at
file_back v gone at file = (stays, (file.0, sym (kept v gone at stays) ∙ file.1))
  where
    stays : gone at ≡ false
    stays = is_still v gone at (λ none. let clash : FileOf file.0 ≡ NoEntry = sym file.1 ∙ none in cc)

-- an entry of a name was one
entry_back : (f : Format) (v : View) (gone : Path → Bool) (dir : Directory) (x : Part) (name : List ℕ) → IsEntryOf f (cut gone v) dir x name → IsEntryOf f v dir x name
entry_back f v gone dir x name of = record {
  named = of.named;
  stores = of.stores;
  full = held_back v gone (dir.folder ++ f.full_at (f.stored dir.key name).name) (f.stored dir.key name).full of.full;
}

-- an entry of no name was one
unnamed_back : (f : Format) (lawful : IsLawful f) (v : View) (gone : Path → Bool) → IsCut f lawful v gone → (finding : Finding) (at : Path)
    → IsUnnamed f (cut gone v) finding at → IsUnnamed f v finding at × (gone at ≡ false)
unnamed_back f lawful v gone is_cut finding at u = (
  record {
    dir = u.dir;
    entry = u.entry;
    reached = reached;
    place = u.place;
    there = λ none. u.there (kept v gone at stays ∙ none);
    stray = λ b. u.stray (record { file = file_on v gone (child u.dir.folder u.entry) (ap gone (sym u.place) ∙ stays) b.file; name = b.name });
    unnamed = λ name of. u.unnamed name (record { named = of.named; stores = of.stores; full = full name of });
    is = u.is ∙ ap (f.unnamed u.entry) (kept v gone at stays);
  },
  stays,
)
  where
    stays : gone at ≡ false
    stays = is_still v gone at u.there

    reached : IsReached f v u.dir
    reached = back f lawful v gone is_cut u.dir u.reached

    full : (name : List ℕ) → IsEntryOf f v u.dir u.entry name → IsTrue (holds_full f (cut gone v) u.dir (f.stored u.dir.key name))
    full name of = held_on f lawful v gone is_cut u.dir reached name (record { named = of.named; stores = refl; full = of.full })
        (ap (λ x. gone (child u.dir.folder x)) of.stores ∙ ap gone (sym u.place) ∙ stays)

-- an entry that is there is one that stays
entry_still : (f : Format) (lawful : IsLawful f) (v : View) (gone : Path → Bool) (dir : Directory) (name : List ℕ) → item_at f (cut gone v) dir (f.stored dir.key name) ≢ Nothing → gone (entry_at f dir name) ≡ false
entry_still f lawful v gone dir name some = is_still v gone (entry_at f dir name) (λ none. some (nothing_at f lawful (cut gone v) dir name none))

-- what is no item was none
no_item_back : (f : Format) (lawful : IsLawful f) (v : View) (gone : Path → Bool) → IsCut f lawful v gone → (finding : Finding) (at : Path)
    → findings.IsNoItem f (cut gone v) finding at → findings.IsNoItem f v finding at × (gone at ≡ false)
no_item_back f lawful v gone is_cut finding at u = (
  record {
    dir = u.dir;
    name = u.name;
    reached = back f lawful v gone is_cut u.dir u.reached;
    of = entry_back f v gone u.dir (f.stored u.dir.key u.name).name u.name u.of;
    place = u.place;
    is = item_stays f lawful v gone is_cut u.dir (back f lawful v gone is_cut u.dir u.reached) u.name u.of.named stays ∙ u.is;
  },
  ap gone u.place ∙ stays,
)
  where
    stays : gone (entry_at f u.dir u.name) ≡ false
    stays = entry_still f lawful v gone u.dir u.name (λ none. let clash : NoItem finding ≡ Nothing = sym u.is ∙ none in cc)

-- a directory item was one, and its entry stays
record WasDirectory (f : Format) (v : View) (gone : Path → Bool) (at : Path) (x : Result Directory Lack) : Type 0 where
  item : IsDirectoryItem f v at x
  stays : gone at ≡ false
  key : key_of f (under at v) ≡ key_of f (under at (cut gone v))

directory_back : (f : Format) (lawful : IsLawful f) (v : View) (gone : Path → Bool) → IsCut f lawful v gone → (at : Path) (x : Result Directory Lack) → IsDirectoryItem f (cut gone v) at x → WasDirectory f v gone at x
directory_back f lawful v gone is_cut at x u = record {
  item = record {
    dir = u.dir;
    name = u.name;
    reached = reached;
    stands = elim ((cut_alike f lawful v gone is_cut).steps reached.0 u.dir u.name reached.1) [
      | inl same ↦ same.stands ∙ u.stands
      | inr none ↦ absurd (subst HasNoItem u.stands none.1)
    ];
  };
  stays = ap gone how.place ∙ stays;
  key = subst (λ p. key_of f (under p v) ≡ key_of f (under p (cut gone v))) (sym how.place) (entry_key_stays f lawful v gone is_cut u.dir reached u.name how.named stays);
}
  where
    reached : IsReached f v u.dir
    reached = back f lawful v gone is_cut u.dir u.reached

    how : StandsAs f (cut gone v) u.dir u.name at x
    how = stands_as f (cut gone v) u.dir u.name at x u.stands

    stays : gone (entry_at f u.dir u.name) ≡ false
    stays = is_still v gone (entry_at f u.dir u.name) (λ none. subst HasNoItem u.stands (none_stands f lawful (cut gone v) u.dir u.name none))

-- a directory without its key or its folder was one
locked_back : (f : Format) (lawful : IsLawful f) (v : View) (gone : Path → Bool) → IsCut f lawful v gone → (lack : Lack) (at : Path) → IsLocked f (cut gone v) lack at → IsLocked f v lack at × (gone at ≡ false)
locked_back f lawful v gone is_cut lack at (inl root) = (inl ((cut_alike f lawful v gone is_cut).root ∙ root), ap gone (top root) ∙ root_stays f lawful v gone is_cut)
  where
    top : root_of f (cut gone v) ≡ Dir at (Err lack) → at ≡ []
    top e = cc
locked_back f lawful v gone is_cut lack at (inr item) =
    let was : WasDirectory f v gone at (Err lack) = directory_back f lawful v gone is_cut at (Err lack) item in
    (inr was.item, was.stays)

-- two directories that are one were
twice_back : (f : Format) (lawful : IsLawful f) (v : View) (gone : Path → Bool) → IsCut f lawful v gone → (at : Path) → IsTwice f (cut gone v) at → IsTwice f v at × (gone at ≡ false)
twice_back f lawful v gone is_cut at u =
    let was : WasDirectory f v gone at u.one = directory_back f lawful v gone is_cut at u.one u.item in
    let other : WasDirectory f v gone u.other u.two = directory_back f lawful v gone is_cut u.other u.two u.again in (
      record {
        other = u.other;
        apart = u.apart;
        one = u.one;
        two = u.two;
        item = was.item;
        again = other.item;
        key = u.key;
        its = was.key ∙ u.its;
        same = other.key ∙ u.same;
        folder = u.folder;
      },
      was.stays,
    )

-- a long-name file without its right text was one
orphan_back : (f : Format) (lawful : IsLawful f) (v : View) (gone : Path → Bool) → IsCut f lawful v gone → (at : Path) → IsOrphanName f (cut gone v) at → IsOrphanName f v at × (gone at ≡ false)
orphan_back f lawful v gone is_cut at u = (
  record {
    dir = u.dir;
    file = u.file;
    reached = back f lawful v gone is_cut u.dir u.reached;
    place = u.place;
    there = was.1;
    full = u.full;
    wrong = λ entry text. u.wrong entry (record {
      name = text.name;
      of = record { named = text.of.named; stores = text.of.stores; full = still entry text };
      long = text.long;
      beside = text.beside;
    });
  },
  was.0,
)
  where
    was : (gone at ≡ false) × ShowsFile v at
    was = file_back v gone at u.there

    -- the text of an entry is in this file, which stays
    still : (entry : Part) → (text : IsFullTextOf f v u.dir u.file entry) → holds_full f (cut gone v) u.dir (f.stored u.dir.key text.name) ≡ true
    still entry text =
        sym (holds_by v (cut gone v) (u.dir.folder ++ f.full_at (f.stored u.dir.key text.name).name) (f.stored u.dir.key text.name).full
        (λ _. sym (kept v gone (u.dir.folder ++ f.full_at (f.stored u.dir.key text.name).name)
        (ap (λ r. gone (u.dir.folder ++ r)) (ap f.full_at text.of.stores ∙ text.beside) ∙ ap gone (sym u.place) ∙ was.0)))) ∙ text.of.full

-- a content folder that isn't reached, and holds more than what belongs there, did
orphan_folder_back : (f : Format) (lawful : IsLawful f) (v : View) (gone : Path → Bool) → IsCut f lawful v gone → (at : Path) → IsOrphanFolder f (cut gone v) at → IsOrphanFolder f v at × (gone at ≡ false)
orphan_folder_back f lawful v gone is_cut at u = (
  record {
    loose = record {
      folder = ap (f.role at) (sym (kept v gone at stays)) ∙ u.loose.folder;
      loose = λ dir reached. u.loose.loose dir (on f lawful v gone is_cut dir reached);
    };
    entry = u.entry;
    there = λ none. u.there (kept v gone (child at u.entry) entry_stays ∙ none);
    more = λ fixed. u.more (record { file = file_on v gone (child at u.entry) entry_stays fixed.file; name = fixed.name });
  },
  stays,
)
  where
    stays : gone at ≡ false
    stays = is_still v gone at (λ none. let clash : Expected ≡ ContentFolder = sym (lawful.no_role at) ∙ ap (f.role at) (sym none) ∙ u.loose.folder in cc)

    entry_stays : gone (child at u.entry) ≡ false
    entry_stays = is_still v gone (child at u.entry) u.there

-- what has no place had none
inside_back : (f : Format) (lawful : IsLawful f) (v : View) (gone : Path → Bool) → IsCut f lawful v gone → (at : Path) → IsInside f (cut gone v) at → IsInside f v at × (gone at ≡ false)
inside_back f lawful v gone is_cut at u = (
  record {
    dir = u.dir;
    name = u.name;
    reached = reached;
    of = entry_back f v gone u.dir (f.stored u.dir.key u.name).name u.name u.of;
    entry = u.entry;
    place = u.place;
    extra = ap (λ i. f.inner_role (is_some (f.stored u.dir.key u.name).full) i u.entry (v at)) (item_stays f lawful v gone is_cut u.dir reached u.name u.of.named entry_stays)
        ∙ ap (f.inner_role (is_some (f.stored u.dir.key u.name).full) (item_at f (cut gone v) u.dir (f.stored u.dir.key u.name)) u.entry) (sym (kept v gone at stays)) ∙ u.extra;
  },
  stays,
)
  where
    reached : IsReached f v u.dir
    reached = back f lawful v gone is_cut u.dir u.reached

    entry_stays : gone (entry_at f u.dir u.name) ≡ false
    entry_stays = entry_still f lawful v gone u.dir u.name (λ none.
        let clash : Expected ≡ Extra = sym (lawful.role_in_nothing (is_some (f.stored u.dir.key u.name).full) u.entry (cut gone v at))
        ∙ ap (λ i. f.inner_role (is_some (f.stored u.dir.key u.name).full) i u.entry (cut gone v at)) (sym none) ∙ u.extra in cc)

    stays : gone at ≡ false
    stays = is_still v gone at (λ none.
        let clash : Expected ≡ Extra = sym (lawful.no_inner_role (is_some (f.stored u.dir.key u.name).full) (item_at f (cut gone v) u.dir (f.stored u.dir.key u.name)) u.entry)
        ∙ ap (f.inner_role (is_some (f.stored u.dir.key u.name).full) (item_at f (cut gone v) u.dir (f.stored u.dir.key u.name)) u.entry) (sym none) ∙ u.extra in cc)

extra_back : (f : Format) (lawful : IsLawful f) (v : View) (gone : Path → Bool) → IsCut f lawful v gone → (at : Path) → IsExtra f (cut gone v) at → IsExtra f v at × (gone at ≡ false)
extra_back f lawful v gone is_cut at (inl inside) =
    let was : IsInside f v at × (gone at ≡ false) = inside_back f lawful v gone is_cut at inside in (inl was.0, was.1)
extra_back f lawful v gone is_cut at (inr role) = (inr (ap (f.role at) (sym (kept v gone at stays)) ∙ role), stays)
  where
    stays : gone at ≡ false
    stays = is_still v gone at (λ none. let clash : Expected ≡ Extra = sym (lawful.no_role at) ∙ ap (f.role at) (sym none) ∙ role in cc)

-- a content with a fault had it
fault_back : (f : Format) (lawful : IsLawful f) (v : View) (gone : Path → Bool) → IsCut f lawful v gone → (finding : Finding) (at : Path) → HasFault f (cut gone v) finding at → HasFault f v finding at × (gone at ≡ false)
fault_back f lawful v gone is_cut finding at u = (
  record {
    fault = u.fault;
    damaged = record {
      dir = u.damaged.dir;
      name = u.damaged.name;
      reached = reached;
      stands = elim ((cut_alike f lawful v gone is_cut).steps reached.0 u.damaged.dir u.damaged.name reached.1) [
        | inl same ↦ same.stands ∙ u.damaged.stands
        | inr none ↦ absurd (subst HasNoItem u.damaged.stands none.1)
      ];
      bytes = u.damaged.bytes;
      there = sym (kept v gone at was.0) ∙ u.damaged.there;
      faulty = u.damaged.faulty;
    };
    is = u.is;
  },
  was.0,
)
  where
    reached : IsReached f v u.damaged.dir
    reached = back f lawful v gone is_cut u.damaged.dir u.damaged.reached

    was : (gone at ≡ false) × ShowsFile v at
    was = file_back v gone at (u.damaged.bytes, u.damaged.there)

pub found_back : (f : Format) (lawful : IsLawful f) (v : View) (gone : Path → Bool) → IsCut f lawful v gone → (finding : Finding) (at : Path) → finding ≢ is.EmptyOrphan → IsFinding f (cut gone v) finding at → Was f v gone finding at
found_back f lawful v gone is_cut is.BadStoredName at some found = unnamed_back f lawful v gone is_cut is.BadStoredName at found
found_back f lawful v gone is_cut is.NoDirKey at some found = locked_back f lawful v gone is_cut lacks.NoDirKey at found
found_back f lawful v gone is_cut is.LongNameLost at some found = unnamed_back f lawful v gone is_cut is.LongNameLost at found
found_back f lawful v gone is_cut is.OrphanLongName at some found = orphan_back f lawful v gone is_cut at found
found_back f lawful v gone is_cut is.DirIdTwice at some found = twice_back f lawful v gone is_cut at found
found_back f lawful v gone is_cut is.NoFolder at some found = locked_back f lawful v gone is_cut lacks.NoFolder at found
found_back f lawful v gone is_cut is.OrphanFolder at some found = orphan_folder_back f lawful v gone is_cut at found
found_back f lawful v gone is_cut is.SymlinkFound at some found = no_item_back f lawful v gone is_cut is.SymlinkFound at found
found_back f lawful v gone is_cut is.WrongKind at some (inl found) =
    let was : IsUnnamed f v is.WrongKind at × (gone at ≡ false) = unnamed_back f lawful v gone is_cut is.WrongKind at found in (inl was.0, was.1)
found_back f lawful v gone is_cut is.WrongKind at some (inr found) =
    let was : findings.IsNoItem f v is.WrongKind at × (gone at ≡ false) = no_item_back f lawful v gone is_cut is.WrongKind at found in (inr was.0, was.1)
found_back f lawful v gone is_cut is.ExtraEntry at some found = extra_back f lawful v gone is_cut at found
found_back f lawful v gone is_cut is.TwoKinds at some found = no_item_back f lawful v gone is_cut is.TwoKinds at found
found_back f lawful v gone is_cut is.HeaderDamaged at some found = fault_back f lawful v gone is_cut is.HeaderDamaged at found
found_back f lawful v gone is_cut is.ChunkDamaged at some found = fault_back f lawful v gone is_cut is.ChunkDamaged at found
found_back f lawful v gone is_cut is.EmptyOrphan at some found = absurd (some refl)
