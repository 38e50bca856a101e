-- A vault of which some strays are gone opens as it did.
use Rattle.std.proofs.Common.{◌≡◌, ◌⊎◌, ℕ, Bool, true, false, List, [], ◌∷◌, ◌++◌, Ok, Err, Result, cond, refl, sym, ap, ◌∙◌, inl, inr, subst, append-nil, Some, None, Option, IsTrue, is_some}
use Rattle.std.specs.Option.{option_and_then}
use Rattle.folder_spec.specs.Path.{Part, Path, child}
use Rattle.folder_spec.specs.View.{Found, View}
use Rattle.folder_spec.specs.Seen.{under, ShowsFile}
use Rattle.plain_tree.specs.Names as plain
use Rattle.plain_tree.specs.Names.{is_name}
use Rattle.vault_spec.specs.declared.Finding.TheVariants.{SymlinkFound}
use Rattle.vault_spec.specs.declared.Lack.{Lack}
use Rattle.vault_spec.specs.declared.Lack.TheVariants.{NoFolder}
use Rattle.vault_spec.specs.Adding.{OpensAs}
use Rattle.vault_spec.specs.Alike.{HasNoItem, AreAlike, LooksAlike}
use Rattle.vault_spec.specs.Format.{Format, Directory, Item, Nothing, FileItem, DirectoryItem, NoItem, Expected, ContentFolder, Extra, is_folder, file_bytes, key_of}
use Rattle.vault_spec.specs.Moving.{cut}
use Rattle.vault_spec.specs.Reached.{Leads, IsReached}
use Rattle.vault_spec.specs.Standing.{File, Dir, entry_at, holds_full, item_at, root_of, directory_with, standing_of, standing_in}
use Rattle.vault_spec.proofs.Lawful.{IsLawful}
use Rattle.vault_spec.proofs.StrayLaws.{IsNested}
use Rattle.vault_spec.proofs.Steps.{along, opened_alike}
use Rattle.vault_spec.proofs.Grafts.{standing_named, standing_unnamed, none_stands, same_standing, content_there}
use Rattle.vault_spec.proofs.PathEnds.{child-both}
use Rattle.vault_spec.proofs.Places.{no_item_unheld}
use Rattle.vault_spec.proofs.Cuts.{StrayPlace, AtEntry, InEntry, Misplaced, Unreached, stray_place, IsCut, kept, went, gone_or_not, gone_child, stray_is_no_item, root_stays, folder_stays}
use Rattle.vault_spec.proofs.CutItems.{key_stays, no_bytes, marks_stay, item_stays, entry_key_stays, held_on, held_back}

-- a directory that is entered stays, and one that isn't isn't
directory_stays : (f : Format) (v : View) (gone : Path → Bool) (at : Path) (key : Option (List ℕ)) → ((d : Directory) → directory_with f v at key ≡ Ok d → gone d.folder ≡ false)
    → directory_with f v at key ≡ directory_with f (cut gone v) at key
directory_stays f v gone at None stays = refl
directory_stays f v gone at (Some key) stays = by_folder (is_folder (v (f.folder_of at key))) refl (gone_or_not (gone (f.folder_of at key)))
  where
    entered : Bool → Result Directory Lack
    entered b = cond b (Ok (record { folder = f.folder_of at key; key = key })) (Err NoFolder)

    by_folder : (b : Bool) → is_folder (v (f.folder_of at key)) ≡ b → (gone (f.folder_of at key) ≡ true) ⊎ (gone (f.folder_of at key) ≡ false)
        → entered (is_folder (v (f.folder_of at key))) ≡ entered (is_folder (cut gone v (f.folder_of at key)))
    by_folder b there (inr still) = ap (λ x. entered (is_folder x)) (sym (kept v gone (f.folder_of at key) still))
    by_folder true there (inl goes) =
        let clash : true ≡ false = sym goes ∙ stays (record { folder = f.folder_of at key; key = key }) (ap entered there) in cc
    by_folder false there (inl goes) = ap entered there ∙ ap (λ x. entered (is_folder x)) (sym (went v gone (f.folder_of at key) goes))

-- what stands at an entry that stays, stays
entry_stands : (f : Format) (lawful : IsLawful f) (v : View) (gone : Path → Bool) → IsCut f lawful v gone → (path : plain.Path) (dir : Directory) (name : List ℕ) → Leads f v path dir → is_name name ≡ true
    → holds_full f v dir (f.stored dir.key name) ≡ true → gone (entry_at f dir name) ≡ false → standing_in f v dir name ≡ standing_in f (cut gone v) dir name
entry_stands f lawful v gone is_cut path dir name leads named held stays =
    standing_named f v dir name named
    ∙ ap (λ b. standing_of f v (entry_at f dir name) b (item_at f v dir (f.stored dir.key name))) held
    ∙ same_standing f v (cut gone v) (entry_at f dir name) true (item_at f v dir (f.stored dir.key name)) (λ item _. directories item)
    ∙ ap (standing_of f (cut gone v) (entry_at f dir name) true) (item_stays f lawful v gone is_cut dir (path, leads) name named stays)
    ∙ ap (λ b. standing_of f (cut gone v) (entry_at f dir name) b (item_at f (cut gone v) dir (f.stored dir.key name)))
    (sym (held_on f lawful v gone is_cut dir (path, leads) name (record { named = named; stores = refl; full = held }) stays))
    ∙ sym (standing_named f (cut gone v) dir name named)
  where
    stands : (d : Directory) → item_at f v dir (f.stored dir.key name) ≡ DirectoryItem → directory_with f v (entry_at f dir name) (key_of f (under (entry_at f dir name) v)) ≡ Ok d
        → standing_in f v dir name ≡ Dir (entry_at f dir name) (Ok d)
    stands d item entered = standing_named f v dir name named
        ∙ ap (λ b. standing_of f v (entry_at f dir name) b (item_at f v dir (f.stored dir.key name))) held
        ∙ ap (standing_of f v (entry_at f dir name) true) item ∙ ap (Dir (entry_at f dir name)) entered

    leads_on : (d : Directory) → standing_in f v dir name ≡ Dir (entry_at f dir name) (Ok d) → Leads f v (path ++ name ∷ []) d
    leads_on d here = record { at = entry_at f dir name; stands = along f v (root_of f v) dir leads.at path name leads.stands ∙ here }

    directories : item_at f v dir (f.stored dir.key name) ≡ DirectoryItem
        → directory_with f v (entry_at f dir name) (key_of f (under (entry_at f dir name) v)) ≡ directory_with f (cut gone v) (entry_at f dir name) (key_of f (under (entry_at f dir name) (cut gone v)))
    directories item =
        directory_stays f v gone (entry_at f dir name) (key_of f (under (entry_at f dir name) v))
        (λ d entered. folder_stays f lawful v gone is_cut d (path ++ name ∷ [], leads_on d (stands d item entered)))
        ∙ ap (directory_with f (cut gone v) (entry_at f dir name)) (entry_key_stays f lawful v gone is_cut dir (path, leads) name named stays)

-- and so do the bytes of a content
bytes_stay : (v : View) (gone : Path → Bool) (at : Path) → ShowsFile v at → file_bytes (v at) ≡ file_bytes (cut gone v at) → v at ≡ cut gone v at
bytes_stay v gone at file same = elim (gone_or_not (gone at)) [
  | inr stays ↦ sym (kept v gone at stays)
  | inl goes ↦ let clash : Some file.0 ≡ None = ap file_bytes (sym file.1) ∙ same ∙ ap file_bytes (went v gone at goes) in cc
]

content_stays : (f : Format) (lawful : IsLawful f) (v : View) (gone : Path → Bool) → IsCut f lawful v gone → (dir : Directory) → IsReached f v dir → (name : List ℕ) → is_name name ≡ true → gone (entry_at f dir name) ≡ false
    → (held : Bool) (item : Item) (at : Path) → item_at f v dir (f.stored dir.key name) ≡ item → standing_of f v (entry_at f dir name) held item ≡ File at → v at ≡ cut gone v at
content_stays f lawful v gone is_cut dir reached name named stays held item at is here =
    bytes_stay v gone at (content_there f lawful.content v (entry_at f dir name) (is_some (f.stored dir.key name).full) held item at is here) (by_item held item is here)
  where
    at_rest : (rest : Path) → (rest ≡ []) ⊎ ((m : Part) × IsTrue (lawful.marks m) × (rest ≡ m ∷ [])) → file_bytes (v (entry_at f dir name ++ rest)) ≡ file_bytes (cut gone v (entry_at f dir name ++ rest))
    at_rest rest (inl none) = ap file_bytes (sym (kept v gone (entry_at f dir name ++ rest) (ap (λ r. gone (entry_at f dir name ++ r)) none ∙ ap gone (append-nil (entry_at f dir name)) ∙ stays)))
    at_rest rest (inr mark) = subst (λ r. file_bytes (v (entry_at f dir name ++ r)) ≡ file_bytes (cut gone v (entry_at f dir name ++ r))) (sym mark.2)
        (marks_stay f lawful v gone is_cut dir reached name named stays mark.0 mark.1)

    by_item : (held : Bool) (item : Item) → item_at f v dir (f.stored dir.key name) ≡ item → standing_of f v (entry_at f dir name) held item ≡ File at → file_bytes (v at) ≡ file_bytes (cut gone v at)
    by_item held Nothing is here = cc
    by_item false (FileItem rest) is here = cc
    by_item true (FileItem rest) is here =
        let same : entry_at f dir name ++ rest ≡ at = cc in
        subst (λ p. file_bytes (v p) ≡ file_bytes (cut gone v p)) same
        (at_rest rest (is_cut.knows.content_place (is_some (f.stored dir.key name).full) (under (entry_at f dir name) v) rest is))
    by_item false DirectoryItem is here = cc
    by_item true DirectoryItem is here = cc
    by_item held (NoItem finding) is here = cc

-- what stands under a name in a directory that a path leads to
step_stays : (f : Format) (lawful : IsLawful f) (v : View) (gone : Path → Bool) → IsCut f lawful v gone → (path : plain.Path) (dir : Directory) (name : List ℕ) → Leads f v path dir
    → AreAlike v (cut gone v) (standing_in f v dir name) (standing_in f (cut gone v) dir name)
step_stays f lawful v gone is_cut path dir name leads = by_name (is_name name) refl (gone_or_not (holds_full f v dir (f.stored dir.key name))) (gone_or_not (gone (entry_at f dir name)))
  where
    unheld : (w : View) → is_name name ≡ true → holds_full f w dir (f.stored dir.key name) ≡ false → HasNoItem (standing_in f w dir name)
    unheld w named is = subst HasNoItem (sym (standing_named f w dir name named
        ∙ ap (λ b. standing_of f w (entry_at f dir name) b (item_at f w dir (f.stored dir.key name))) is))
        (no_item_unheld f w (entry_at f dir name) (item_at f w dir (f.stored dir.key name)))

    still_unheld : (b : Bool) → holds_full f (cut gone v) dir (f.stored dir.key name) ≡ b → holds_full f v dir (f.stored dir.key name) ≡ false → holds_full f (cut gone v) dir (f.stored dir.key name) ≡ false
    still_unheld false is never = is
    still_unheld true is never =
        let clash : true ≡ false = sym (held_back v gone (dir.folder ++ f.full_at (f.stored dir.key name).name) (f.stored dir.key name).full is) ∙ never in cc

    by_name : (b : Bool) → is_name name ≡ b → (holds_full f v dir (f.stored dir.key name) ≡ true) ⊎ (holds_full f v dir (f.stored dir.key name) ≡ false)
        → (gone (entry_at f dir name) ≡ true) ⊎ (gone (entry_at f dir name) ≡ false) → AreAlike v (cut gone v) (standing_in f v dir name) (standing_in f (cut gone v) dir name)
    by_name false is held goes = inr (subst HasNoItem (sym (standing_unnamed f v dir name is)) (record {}), subst HasNoItem (sym (standing_unnamed f (cut gone v) dir name is)) (record {}))
    by_name true is (inr never) goes = inr (unheld v is never, unheld (cut gone v) is (still_unheld (holds_full f (cut gone v) dir (f.stored dir.key name)) refl never))
    by_name true is (inl held) (inl goes) =
        let no_item : item_at f v dir (f.stored dir.key name) ≡ NoItem SymlinkFound
        = stray_is_no_item f lawful is_cut.knows v is_cut.has dir (path, leads) name (record { named = is; stores = refl; full = held })
        (gone_child f v gone is_cut.are dir.folder (f.stored dir.key name).name (folder_stays f lawful v gone is_cut dir (path, leads)) goes) in
        inr (
          subst HasNoItem (sym (standing_named f v dir name is
              ∙ ap (standing_of f v (entry_at f dir name) (holds_full f v dir (f.stored dir.key name))) no_item)) (record {}),
          none_stands f lawful (cut gone v) dir name (went v gone (entry_at f dir name) goes),
        )
    by_name true is (inl held) (inr stays) = inl (record {
      stands = entry_stands f lawful v gone is_cut path dir name leads is held stays;
      bytes = λ at file. content_stays f lawful v gone is_cut dir (path, leads) name is stays (holds_full f v dir (f.stored dir.key name)) (item_at f v dir (f.stored dir.key name)) at refl
          (sym (standing_named f v dir name is) ∙ file);
    })

-- the root's key stays
root_key_stays : (f : Format) (lawful : IsLawful f) (v : View) (gone : Path → Bool) → IsCut f lawful v gone → f.root_key v ≡ f.root_key (cut gone v)
root_key_stays f lawful v gone is_cut = elim is_cut.knows.layout [
  | inr flat ↦ flat.root v (cut gone v)
  | inl nested ↦ nested.root v ∙ ap (option_and_then f.key_in) (same_bytes nested (gone_or_not (gone (f.key_file ∷ [])))) ∙ sym (nested.root (cut gone v))
]
  where
    no_role : IsNested f lawful → (there : Found) → f.role (f.key_file ∷ []) there ≡ Expected
    no_role nested there = ap (λ p. f.role (child p f.key_file ++ []) there) (sym (nested.own [] [])) ∙ is_cut.knows.entry_role [] [] f.key_file [] there

    by_place : IsNested f lawful → ShowsFile v (f.key_file ∷ []) → StrayPlace f v (f.key_file ∷ []) → ⊥
    by_place nested file (AtEntry s) =
        let both : ([] ≡ s.dir.folder) × (f.key_file ≡ s.x) = child-both [] s.dir.folder f.key_file s.x s.place in
        key_stays f lawful nested v s.dir s.reached s.x (sym both.1) (subst (ShowsFile v) s.place file) s.stray
    by_place nested file (InEntry u) =
        let clash : Expected ≡ Extra = sym (nested.inner (is_some (f.stored u.dir.key u.name).full) (item_at f v u.dir (f.stored u.dir.key u.name)) u.entry (v (f.key_file ∷ []))) ∙ u.extra in cc
    by_place nested file (Misplaced role) = let clash : Expected ≡ Extra = sym (no_role nested (v (f.key_file ∷ []))) ∙ role in cc
    by_place nested file (Unreached u) = let clash : Expected ≡ ContentFolder = sym (no_role nested (v (f.key_file ∷ []))) ∙ u.folder in cc

    same_bytes : IsNested f lawful → (gone (f.key_file ∷ []) ≡ true) ⊎ (gone (f.key_file ∷ []) ≡ false) → file_bytes (v (f.key_file ∷ [])) ≡ file_bytes (cut gone v (f.key_file ∷ []))
    same_bytes nested (inr stays) = ap file_bytes (sym (kept v gone (f.key_file ∷ []) stays))
    same_bytes nested (inl goes) =
        no_bytes (v (f.key_file ∷ [])) (λ bytes file. by_place nested (bytes, file)
        (stray_place f v (f.key_file ∷ []) (gone_child f v gone is_cut.are [] f.key_file (root_stays f lawful v gone is_cut) goes)))
        ∙ ap file_bytes (sym (went v gone (f.key_file ∷ []) goes))

-- so the vault looks alike
pub cut_alike : (f : Format) (lawful : IsLawful f) (v : View) (gone : Path → Bool) → IsCut f lawful v gone → LooksAlike f v (cut gone v)
cut_alike f lawful v gone is_cut = record {
  root = ap (Dir []) (directory_stays f v gone [] (f.root_key v)
      (λ d entered. folder_stays f lawful v gone is_cut d ([], record { at = []; stands = ap (Dir []) entered }))
      ∙ ap (directory_with f (cut gone v) []) (root_key_stays f lawful v gone is_cut));
  steps = λ path dir name leads. step_stays f lawful v gone is_cut path dir name leads;
}

pub cut_opens : (f : Format) (lawful : IsLawful f) (v : View) (gone : Path → Bool) → IsCut f lawful v gone → OpensAs f v (cut gone v)
cut_opens f lawful v gone is_cut path = sym (opened_alike f v (cut gone v) (cut_alike f lawful v gone is_cut) path)
