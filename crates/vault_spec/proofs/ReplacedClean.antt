-- A clean vault stays clean where a file's content is replaced.
use Rattle.std.proofs.Common.{◌≡◌, ◌≢◌, ℕ, List, Err, Result, refl, sym, ap, ◌∙◌, inl, inr, is_some}
use Rattle.folder_spec.specs.Path.{Part, Path, child}
use Rattle.folder_spec.specs.View.{Found, NoEntry, FileOf, View}
use Rattle.folder_spec.specs.Seen.{under, ShowsFile}
use Rattle.folder_spec.specs.Edit.{edited, file_edit}
use Rattle.folder_spec.proofs.Paths.{one_or_not}
use Rattle.plain_tree.specs.Names as plain
use Rattle.plain_tree.specs.Names.{is_name}
use Rattle.vault_spec.specs.declared.Finding.{Finding}
use Rattle.vault_spec.specs.declared.Lack.{Lack}
use Rattle.vault_spec.specs.declared.Lack.TheVariants as lacks
use Rattle.vault_spec.specs.declared.Finding.TheVariants as is
use Rattle.vault_spec.specs.Format.{Format, Directory, key_of}
use Rattle.vault_spec.specs.Standing.{File, entry_at, item_at, standing}
use Rattle.vault_spec.specs.Reached.{Leads}
use Rattle.vault_spec.specs.Findings.{IsEntryOf, Belongs, IsUnnamed, IsDirectoryItem, IsLocked, IsFullTextOf, IsOrphanName, IsTwice, IsFixed, IsOrphanFolder, IsInside, IsExtra, IsClean}
use Rattle.vault_spec.specs.Findings as findings
use Rattle.vault_spec.specs.Alike.{IsOrderly}
use Rattle.vault_spec.proofs.Lawful.{IsLawful}
use Rattle.vault_spec.proofs.Places.{brought_there}
use Rattle.vault_spec.proofs.Clean.{stands_as}
use Rattle.vault_spec.proofs.Replacing.{IsReplaced, replaced_elsewhere, item_same, key_same, full_same, step_same, root_same, stands_same, where_file_stands}

-- what a file's bytes tell nothing of stays
pub by_file : (f : Format) (lawful : IsLawful f) (v : View) (at : Path) (old bytes : List ℕ) → IsReplaced f lawful v at old → {A : Type 0} (tells : Found → A) → ((a b : List ℕ) → tells (FileOf a) ≡ tells (FileOf b))
    → (q : Path) → tells (edited v (file_edit at bytes) q) ≡ tells (v q)
by_file f lawful v at old bytes r tells alike q = elim (one_or_not q at) [
  | inl here ↦ ap (λ p. tells (edited v (file_edit at bytes) p)) here ∙ ap tells (brought_there v (file_edit at bytes)) ∙ alike bytes old ∙ ap tells (sym r.file) ∙ ap (λ p. tells (v p)) (sym here)
  | inr apart ↦ ap tells (replaced_elsewhere f lawful v at old bytes r q apart.0)
]

pub file_back : (f : Format) (lawful : IsLawful f) (v : View) (at : Path) (old bytes : List ℕ) → IsReplaced f lawful v at old → (q : Path) → ShowsFile (edited v (file_edit at bytes)) q → ShowsFile v q
file_back f lawful v at old bytes r q file = elim (one_or_not q at) [
  | inl here ↦ (old, ap v here ∙ r.file)
  | inr apart ↦ (file.0, sym (replaced_elsewhere f lawful v at old bytes r q apart.0) ∙ file.1)
]

file_on : (f : Format) (lawful : IsLawful f) (v : View) (at : Path) (old bytes : List ℕ) → IsReplaced f lawful v at old → (q : Path) → ShowsFile v q → ShowsFile (edited v (file_edit at bytes)) q
file_on f lawful v at old bytes r q file = elim (one_or_not q at) [
  | inl here ↦ (bytes, ap (edited v (file_edit at bytes)) here ∙ brought_there v (file_edit at bytes))
  | inr apart ↦ (file.0, replaced_elsewhere f lawful v at old bytes r q apart.0 ∙ file.1)
]

pub there_back : (f : Format) (lawful : IsLawful f) (v : View) (at : Path) (old bytes : List ℕ) → IsReplaced f lawful v at old → (q : Path) → edited v (file_edit at bytes) q ≢ NoEntry → v q ≢ NoEntry
there_back f lawful v at old bytes r q there none = elim (one_or_not q at) [
  | inl here ↦ let clash : FileOf old ≡ NoEntry = sym r.file ∙ ap v (sym here) ∙ none in cc
  | inr apart ↦ there (replaced_elsewhere f lawful v at old bytes r q apart.0 ∙ none)
]

pub led_back : (f : Format) (lawful : IsLawful f) (v : View) (at : Path) (old bytes : List ℕ) → IsReplaced f lawful v at old → (path : plain.Path) (dir : Directory) → Leads f (edited v (file_edit at bytes)) path dir → Leads f v path dir
led_back f lawful v at old bytes r path dir leads = record { at = leads.at; stands = stands_same f lawful v at old bytes r path ∙ leads.stands }

pub led_on : (f : Format) (lawful : IsLawful f) (v : View) (at : Path) (old bytes : List ℕ) → IsReplaced f lawful v at old → (path : plain.Path) (dir : Directory) → Leads f v path dir → Leads f (edited v (file_edit at bytes)) path dir
led_on f lawful v at old bytes r path dir leads = record { at = leads.at; stands = sym (stands_same f lawful v at old bytes r path) ∙ leads.stands }

pub entry_back : (f : Format) (lawful : IsLawful f) (v : View) (at : Path) (old bytes : List ℕ) → IsReplaced f lawful v at old → (path : plain.Path) (dir : Directory) → Leads f v path dir
    → (x : Part) (name : List ℕ) → IsEntryOf f (edited v (file_edit at bytes)) dir x name → IsEntryOf f v dir x name
entry_back f lawful v at old bytes r path dir leads x name of = record { named = of.named; stores = of.stores; full = full_same f lawful v at old bytes r path dir name leads of.named ∙ of.full }

entry_on : (f : Format) (lawful : IsLawful f) (v : View) (at : Path) (old bytes : List ℕ) → IsReplaced f lawful v at old → (path : plain.Path) (dir : Directory) → Leads f v path dir
    → (x : Part) (name : List ℕ) → IsEntryOf f v dir x name → IsEntryOf f (edited v (file_edit at bytes)) dir x name
entry_on f lawful v at old bytes r path dir leads x name of = record { named = of.named; stores = of.stores; full = sym (full_same f lawful v at old bytes r path dir name leads of.named) ∙ of.full }

unnamed_back : (f : Format) (lawful : IsLawful f) (v : View) (at : Path) (old bytes : List ℕ) → IsReplaced f lawful v at old → (finding : Finding) (q : Path)
    → IsUnnamed f (edited v (file_edit at bytes)) finding q → IsUnnamed f v finding q
unnamed_back f lawful v at old bytes r finding q u = record {
  dir = u.dir;
  entry = u.entry;
  reached = (u.reached.0, led_back f lawful v at old bytes r u.reached.0 u.dir u.reached.1);
  place = u.place;
  there = there_back f lawful v at old bytes r q u.there;
  stray = λ b. u.stray (record { file = file_on f lawful v at old bytes r (child u.dir.folder u.entry) b.file; name = b.name });
  unnamed = λ name of. u.unnamed name (entry_on f lawful v at old bytes r u.reached.0 u.dir (led_back f lawful v at old bytes r u.reached.0 u.dir u.reached.1) u.entry name of);
  is = u.is ∙ by_file f lawful v at old bytes r (f.unnamed u.entry) (lawful.unnamed_by_file u.entry) q;
}

no_item_back : (f : Format) (lawful : IsLawful f) (v : View) (at : Path) (old bytes : List ℕ) → IsReplaced f lawful v at old → (finding : Finding) (q : Path)
    → findings.IsNoItem f (edited v (file_edit at bytes)) finding q → findings.IsNoItem f v finding q
no_item_back f lawful v at old bytes r finding q u =
    let leads : Leads f v u.reached.0 u.dir = led_back f lawful v at old bytes r u.reached.0 u.dir u.reached.1 in
    record {
      dir = u.dir;
      name = u.name;
      reached = (u.reached.0, leads);
      of = entry_back f lawful v at old bytes r u.reached.0 u.dir leads (f.stored u.dir.key u.name).name u.name u.of;
      place = u.place;
      is = item_same f lawful v at old bytes r u.dir u.name ∙ u.is;
    }

item_back : (f : Format) (lawful : IsLawful f) (v : View) (at : Path) (old bytes : List ℕ) → IsReplaced f lawful v at old → (q : Path) (x : Result Directory Lack)
    → IsDirectoryItem f (edited v (file_edit at bytes)) q x → IsDirectoryItem f v q x
item_back f lawful v at old bytes r q x item =
    let leads : Leads f v item.reached.0 item.dir = led_back f lawful v at old bytes r item.reached.0 item.dir item.reached.1 in
    record {
      dir = item.dir;
      name = item.name;
      reached = (item.reached.0, leads);
      stands = step_same f lawful v at old bytes r item.reached.0 item.dir item.name leads ∙ item.stands;
    }

key_back : (f : Format) (lawful : IsLawful f) (v : View) (at : Path) (old bytes : List ℕ) → IsReplaced f lawful v at old → (q : Path) (x : Result Directory Lack)
    → IsDirectoryItem f (edited v (file_edit at bytes)) q x → key_of f (under q v) ≡ key_of f (under q (edited v (file_edit at bytes)))
key_back f lawful v at old bytes r q x item =
    let place : q ≡ entry_at f item.dir item.name = (stands_as f (edited v (file_edit at bytes)) item.dir item.name q x item.stands).place in
    ap (λ p. key_of f (under p v)) place
    ∙ key_same f lawful v at old bytes r item.reached.0 item.dir item.name (led_back f lawful v at old bytes r item.reached.0 item.dir item.reached.1)
    ∙ ap (λ p. key_of f (under p (edited v (file_edit at bytes)))) (sym place)

locked_back : (f : Format) (lawful : IsLawful f) (v : View) (at : Path) (old bytes : List ℕ) → IsReplaced f lawful v at old → (lack : Lack) (q : Path)
    → IsLocked f (edited v (file_edit at bytes)) lack q → IsLocked f v lack q
locked_back f lawful v at old bytes r lack q (inl root) = inl (root_same f lawful v at old bytes r ∙ root)
locked_back f lawful v at old bytes r lack q (inr item) = inr (item_back f lawful v at old bytes r q (Err lack) item)

orphan_back : (f : Format) (lawful : IsLawful f) (v : View) (at : Path) (old bytes : List ℕ) → IsReplaced f lawful v at old → (q : Path) → IsOrphanName f (edited v (file_edit at bytes)) q → IsOrphanName f v q
orphan_back f lawful v at old bytes r q u =
    let leads : Leads f v u.reached.0 u.dir = led_back f lawful v at old bytes r u.reached.0 u.dir u.reached.1 in
    record {
      dir = u.dir;
      file = u.file;
      reached = (u.reached.0, leads);
      place = u.place;
      there = file_back f lawful v at old bytes r q u.there;
      full = u.full;
      wrong = λ entry text. u.wrong entry (record {
        name = text.name;
        of = entry_on f lawful v at old bytes r u.reached.0 u.dir leads entry text.name text.of;
        long = text.long;
        beside = text.beside;
      });
    }

twice_back : (f : Format) (lawful : IsLawful f) (v : View) (at : Path) (old bytes : List ℕ) → IsReplaced f lawful v at old → (q : Path) → IsTwice f (edited v (file_edit at bytes)) q → IsTwice f v q
twice_back f lawful v at old bytes r q u = record {
  other = u.other;
  apart = u.apart;
  one = u.one;
  two = u.two;
  item = item_back f lawful v at old bytes r q u.one u.item;
  again = item_back f lawful v at old bytes r u.other u.two u.again;
  key = u.key;
  its = key_back f lawful v at old bytes r q u.one u.item ∙ u.its;
  same = key_back f lawful v at old bytes r u.other u.two u.again ∙ u.same;
  folder = u.folder;
}

orphan_folder_back : (f : Format) (lawful : IsLawful f) (v : View) (at : Path) (old bytes : List ℕ) → IsReplaced f lawful v at old → (q : Path)
    → IsOrphanFolder f (edited v (file_edit at bytes)) q → IsOrphanFolder f v q
orphan_folder_back f lawful v at old bytes r q u = record {
  loose = record {
    folder = sym (by_file f lawful v at old bytes r (f.role q) (lawful.role_by_file q) q) ∙ u.loose.folder;
    loose = λ dir reached. u.loose.loose dir (reached.0, led_on f lawful v at old bytes r reached.0 dir reached.1);
  };
  entry = u.entry;
  there = there_back f lawful v at old bytes r (child q u.entry) u.there;
  more = λ fixed. u.more (record { file = file_on f lawful v at old bytes r (child q u.entry) fixed.file; name = fixed.name });
}

extra_back : (f : Format) (lawful : IsLawful f) (v : View) (at : Path) (old bytes : List ℕ) → IsReplaced f lawful v at old → (q : Path) → IsExtra f (edited v (file_edit at bytes)) q → IsExtra f v q
extra_back f lawful v at old bytes r q (inr role) = inr (sym (by_file f lawful v at old bytes r (f.role q) (lawful.role_by_file q) q) ∙ role)
extra_back f lawful v at old bytes r q (inl u) =
    let leads : Leads f v u.reached.0 u.dir = led_back f lawful v at old bytes r u.reached.0 u.dir u.reached.1 in
    inl (record {
      dir = u.dir;
      name = u.name;
      reached = (u.reached.0, leads);
      of = entry_back f lawful v at old bytes r u.reached.0 u.dir leads (f.stored u.dir.key u.name).name u.name u.of;
      entry = u.entry;
      place = u.place;
      extra = ap (λ i. f.inner_role (is_some (f.stored u.dir.key u.name).full) i u.entry (v q)) (item_same f lawful v at old bytes r u.dir u.name)
          ∙ sym (by_file f lawful v at old bytes r (f.inner_role (is_some (f.stored u.dir.key u.name).full) (item_at f (edited v (file_edit at bytes)) u.dir (f.stored u.dir.key u.name)) u.entry)
          (lawful.inner_role_by_file (is_some (f.stored u.dir.key u.name).full) (item_at f (edited v (file_edit at bytes)) u.dir (f.stored u.dir.key u.name)) u.entry) q) ∙ u.extra;
    })

replaced_clean : (f : Format) (lawful : IsLawful f) (v : View) (at : Path) (old bytes : List ℕ) → IsReplaced f lawful v at old → IsClean f v → IsClean f (edited v (file_edit at bytes))
replaced_clean f lawful v at old bytes r clean is.BadStoredName q counts found = clean is.BadStoredName q refl (unnamed_back f lawful v at old bytes r is.BadStoredName q found)
replaced_clean f lawful v at old bytes r clean is.NoDirKey q counts found = clean is.NoDirKey q refl (locked_back f lawful v at old bytes r lacks.NoDirKey q found)
replaced_clean f lawful v at old bytes r clean is.LongNameLost q counts found = clean is.LongNameLost q refl (unnamed_back f lawful v at old bytes r is.LongNameLost q found)
replaced_clean f lawful v at old bytes r clean is.OrphanLongName q counts found = clean is.OrphanLongName q refl (orphan_back f lawful v at old bytes r q found)
replaced_clean f lawful v at old bytes r clean is.DirIdTwice q counts found = clean is.DirIdTwice q refl (twice_back f lawful v at old bytes r q found)
replaced_clean f lawful v at old bytes r clean is.NoFolder q counts found = clean is.NoFolder q refl (locked_back f lawful v at old bytes r lacks.NoFolder q found)
replaced_clean f lawful v at old bytes r clean is.OrphanFolder q counts found = clean is.OrphanFolder q refl (orphan_folder_back f lawful v at old bytes r q found)
replaced_clean f lawful v at old bytes r clean is.SymlinkFound q counts found = clean is.SymlinkFound q refl (no_item_back f lawful v at old bytes r is.SymlinkFound q found)
replaced_clean f lawful v at old bytes r clean is.WrongKind q counts (inl found) = clean is.WrongKind q refl (inl (unnamed_back f lawful v at old bytes r is.WrongKind q found))
replaced_clean f lawful v at old bytes r clean is.WrongKind q counts (inr found) = clean is.WrongKind q refl (inr (no_item_back f lawful v at old bytes r is.WrongKind q found))
replaced_clean f lawful v at old bytes r clean is.ExtraEntry q counts found = clean is.ExtraEntry q refl (extra_back f lawful v at old bytes r q found)
replaced_clean f lawful v at old bytes r clean is.TwoKinds q counts found = clean is.TwoKinds q refl (no_item_back f lawful v at old bytes r is.TwoKinds q found)
replaced_clean f lawful v at old bytes r clean is.HeaderDamaged q counts found = cc
replaced_clean f lawful v at old bytes r clean is.ChunkDamaged q counts found = cc
replaced_clean f lawful v at old bytes r clean is.EmptyOrphan q counts found = cc

-- so it does where a file stands
pub content_clean : (f : Format) → IsLawful f → (v : View) (p : plain.Path) (at : Path) (bytes : List ℕ) → IsOrderly f v → standing f v p ≡ File at → IsClean f v → IsClean f (edited v (file_edit at bytes))
content_clean f lawful v p at bytes orderly stands clean =
    where_file_stands f lawful v p at (IsClean f (edited v (file_edit at bytes))) orderly.folders stands (λ old r. replaced_clean f lawful v at old bytes r clean)
