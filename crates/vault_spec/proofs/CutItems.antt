-- What stands in a vault of which some strays are gone is what stood.
use Rattle.std.proofs.Common.{◌≡◌, ◌≢◌, ◌||◌, ℕ, Bool, true, false, List, [], ◌∷◌, ◌++◌, refl, sym, ap, ◌∙◌, inl, inr, subst, append_assoc, append-nil, Some, None, Option, IsTrue, is_some}
use Rattle.std.specs.Option.{option_and_then}
use Rattle.folder_spec.specs.Path.{Part, Path, child}
use Rattle.folder_spec.specs.View.{Found, NoEntry, Folder, FileOf, Special, View, kind_found}
use Rattle.folder_spec.specs.Seen.{under, ShowsFile}
use Rattle.plain_tree.specs.Names.{is_name}
use Rattle.vault_spec.specs.Findings.{IsEntryOf}
use Rattle.vault_spec.specs.Format.{Format, Directory, Expected, ContentFolder, Extra, is_file, file_bytes, key_of}
use Rattle.vault_spec.specs.Moving.{IsStray, cut}
use Rattle.vault_spec.specs.Reached.{IsReached}
use Rattle.vault_spec.specs.Standing.{entry_at, holds, holds_full, is_file_of, item_at}
use Rattle.vault_spec.proofs.Lawful.{IsLawful}
use Rattle.vault_spec.proofs.StrayLaws.{IsNested}
use Rattle.vault_spec.proofs.Grafts.{reached_right, holds_by}
use Rattle.vault_spec.proofs.PathEnds.{child-both}
use Rattle.vault_spec.proofs.Cuts.{EntryStray, NoName, NoneOfName, NoText, StrayPlace, AtEntry, InEntry, Misplaced, Unreached, stray_place, IsCut, kept, went, gone_or_not, not_gone, gone_child, no_role_there, never_in_entries, entry_stray, same_item, folder_stays}

-- A stray in an entry of a name: an entry of a folder that this is, or without a place in the item's folder.
data InnerStray (f : Format) (v : View) (dir : Directory) (name : List ℕ) (x : Part) : Type 0 where
  OfFolder : (other : Directory) → IsReached f v other → other.folder ≡ entry_at f dir name → EntryStray f v other x → InnerStray f v dir name x
  NoPlace : f.inner_role (is_some (f.stored dir.key name).full) (item_at f v dir (f.stored dir.key name)) x (v (child (entry_at f dir name) x)) ≡ Extra → InnerStray f v dir name x

inner_stray : (f : Format) (lawful : IsLawful f) (v : View) (gone : Path → Bool) → IsCut f lawful v gone → (dir : Directory) → IsReached f v dir → (name : List ℕ) → IsTrue (is_name name) → (x : Part)
    → IsStray f v (child (entry_at f dir name) x) → InnerStray f v dir name x
inner_stray f lawful v gone is_cut dir reached name named x stray = by_place (stray_place f v (child (entry_at f dir name) x) stray)
  where
    no_role : (there : Found) → f.role (child (entry_at f dir name) x) there ≡ Expected
    no_role there = no_role_there f lawful is_cut.knows v dir reached (f.stored dir.key name).name (x ∷ []) there

    extra_of : (other : Directory) (n : List ℕ) (entry : Part) → other ≡ dir → (f.stored other.key n).name ≡ (f.stored dir.key name).name → is_name n ≡ true
        → f.inner_role (is_some (f.stored other.key n).full) (item_at f v other (f.stored other.key n)) entry (v (child (entry_at f dir name) x)) ≡ Extra
        → f.inner_role (is_some (f.stored dir.key name).full) (item_at f v dir (f.stored dir.key name)) entry (v (child (entry_at f dir name) x)) ≡ Extra
    extra_of other n entry one =
        subst (λ d. (f.stored d.key n).name ≡ (f.stored dir.key name).name → is_name n ≡ true
        → f.inner_role (is_some (f.stored d.key n).full) (item_at f v d (f.stored d.key n)) entry (v (child (entry_at f dir name) x)) ≡ Extra
        → f.inner_role (is_some (f.stored dir.key name).full) (item_at f v dir (f.stored dir.key name)) entry (v (child (entry_at f dir name) x)) ≡ Extra) (sym one)
        (λ same other_named extra.
        let alike : (is_some (f.stored dir.key n).full ≡ is_some (f.stored dir.key name).full) × (item_at f v dir (f.stored dir.key n) ≡ item_at f v dir (f.stored dir.key name))
        = same_item f lawful v dir name n reached named other_named same in
        ap (λ b. f.inner_role b (item_at f v dir (f.stored dir.key name)) entry (v (child (entry_at f dir name) x))) (sym alike.0)
        ∙ ap (λ i. f.inner_role (is_some (f.stored dir.key n).full) i entry (v (child (entry_at f dir name) x))) (sym alike.1) ∙ extra)

    by_place : StrayPlace f v (child (entry_at f dir name) x) → InnerStray f v dir name x
    by_place (AtEntry s) =
        let both : (entry_at f dir name ≡ s.dir.folder) × (x ≡ s.x) = child-both (entry_at f dir name) s.dir.folder x s.x s.place in
        OfFolder s.dir s.reached (sym both.0) (subst (EntryStray f v s.dir) (sym both.1) s.stray)
    by_place (InEntry u) =
        let both : (entry_at f dir name ≡ entry_at f u.dir u.name) × (x ≡ u.entry) = child-both (entry_at f dir name) (entry_at f u.dir u.name) x u.entry u.place in
        let entries : (dir.folder ≡ u.dir.folder) × ((f.stored dir.key name).name ≡ (f.stored u.dir.key u.name).name)
        = child-both dir.folder u.dir.folder (f.stored dir.key name).name (f.stored u.dir.key u.name).name both.0 in
        NoPlace (ap (λ y. f.inner_role (is_some (f.stored dir.key name).full) (item_at f v dir (f.stored dir.key name)) y (v (child (entry_at f dir name) x))) both.1
        ∙ extra_of u.dir u.name u.entry (sym (is_cut.has.own dir u.dir reached u.reached entries.0)) (sym entries.1) u.of.named u.extra)
    by_place (Misplaced role) = let clash : Expected ≡ Extra = sym (no_role (v (child (entry_at f dir name) x))) ∙ role in cc
    by_place (Unreached u) = let clash : Expected ≡ ContentFolder = sym (no_role (v (child (entry_at f dir name) x))) ∙ u.folder in cc

-- a directory's key file is no stray
pub key_stays : (f : Format) (lawful : IsLawful f) → IsNested f lawful → (v : View) (dir : Directory) → IsReached f v dir → (x : Part) → x ≡ f.key_file → ShowsFile v (child dir.folder x) → EntryStray f v dir x → ⊥
key_stays f lawful nested v dir reached x key file (NoName stray unnamed) =
    stray (record { file = file; name = ap (λ b. b || f.is_full x) (ap (f.is_fixed dir.folder) key ∙ nested.fixed dir.folder) })
key_stays f lawful nested v dir reached x key file (NoneOfName name of item) =
    nested.not_named dir.key name (reached_right f lawful v reached.0 dir reached.1).is_key of.named (of.stores ∙ key)
key_stays f lawful nested v dir reached x key file (NoText full wrong) = let clash : true ≡ false = sym full ∙ ap f.is_full key ∙ nested.not_full in cc

-- nor is a mark of an item that is a file
mark_stays : (f : Format) (lawful : IsLawful f) (v : View) (gone : Path → Bool) → IsCut f lawful v gone → (dir : Directory) → IsReached f v dir → (name : List ℕ) → IsTrue (is_name name) → (m : Part) → IsTrue (lawful.marks m)
    → ShowsFile v (child (entry_at f dir name) m) → IsStray f v (child (entry_at f dir name) m) → ⊥
mark_stays f lawful v gone is_cut dir reached name named m mark file stray = by_inner (inner_stray f lawful v gone is_cut dir reached name named m stray)
  where
    above : v (entry_at f dir name ++ []) ≡ Folder
    above = ap v (append-nil (entry_at f dir name)) ∙ is_cut.has.folders (entry_at f dir name) m (λ none. let clash : FileOf file.0 ≡ NoEntry = sym file.1 ∙ none in cc)

    by_inner : InnerStray f v dir name m → ⊥
    by_inner (OfFolder other reached_too same s) = elim is_cut.knows.layout [
      | inl nested ↦ key_stays f lawful nested v other reached_too m (nested.mark m mark) (subst (λ p. ShowsFile v (child p m)) (sym same) file) s
      | inr flat ↦ never_in_entries f lawful flat v other dir reached_too reached (f.stored dir.key name).name [] (same ∙ sym (append-nil (entry_at f dir name)))
    ]
    by_inner (NoPlace extra) = is_cut.knows.mark_belongs (is_some (f.stored dir.key name).full) (under (entry_at f dir name) v) m above mark file extra

pub no_bytes : (x : Found) → ((bytes : List ℕ) → x ≢ FileOf bytes) → file_bytes x ≡ None
no_bytes NoEntry never = refl
no_bytes Folder never = refl
no_bytes (FileOf bytes) never = absurd (never bytes refl)
no_bytes Special never = refl

-- so the bytes of marks stay
pub marks_stay : (f : Format) (lawful : IsLawful f) (v : View) (gone : Path → Bool) → IsCut f lawful v gone → (dir : Directory) → IsReached f v dir → (name : List ℕ) → IsTrue (is_name name) → gone (entry_at f dir name) ≡ false
    → (m : Part) → IsTrue (lawful.marks m) → file_bytes (v (child (entry_at f dir name) m)) ≡ file_bytes (cut gone v (child (entry_at f dir name) m))
marks_stay f lawful v gone is_cut dir reached name named stays m mark = elim (gone_or_not (gone (child (entry_at f dir name) m))) [
  | inr still ↦ ap file_bytes (sym (kept v gone (child (entry_at f dir name) m) still))
  | inl goes ↦
      no_bytes (v (child (entry_at f dir name) m)) (λ bytes file. mark_stays f lawful v gone is_cut dir reached name named m mark (bytes, file) (gone_child f v gone is_cut.are (entry_at f dir name) m stays goes))
      ∙ ap file_bytes (sym (went v gone (child (entry_at f dir name) m) goes))
]

is_file_by : (x y : Found) → file_bytes x ≡ file_bytes y → is_file x ≡ is_file y
is_file_by x y same = of_bytes x ∙ ap is_some same ∙ sym (of_bytes y)
  where
    of_bytes : (x : Found) → is_file x ≡ is_some (file_bytes x)
    of_bytes NoEntry = refl
    of_bytes Folder = refl
    of_bytes (FileOf bytes) = refl
    of_bytes Special = refl

-- what an entry is that stays, stays
pub item_stays : (f : Format) (lawful : IsLawful f) (v : View) (gone : Path → Bool) → IsCut f lawful v gone → (dir : Directory) → IsReached f v dir → (name : List ℕ) → IsTrue (is_name name) → gone (entry_at f dir name) ≡ false
    → item_at f v dir (f.stored dir.key name) ≡ item_at f (cut gone v) dir (f.stored dir.key name)
item_stays f lawful v gone is_cut dir reached name named stays =
    is_cut.knows.item_by_files (is_some (f.stored dir.key name).full) (under (entry_at f dir name) v) (under (entry_at f dir name) (cut gone v))
    (ap kind_found (sym (kept v gone (entry_at f dir name ++ []) (ap gone (append-nil (entry_at f dir name)) ∙ stays))))
    (λ m mark. is_file_by (v (child (entry_at f dir name) m)) (cut gone v (child (entry_at f dir name) m)) (marks_stay f lawful v gone is_cut dir reached name named stays m mark))

pub entry_key_stays : (f : Format) (lawful : IsLawful f) (v : View) (gone : Path → Bool) → IsCut f lawful v gone → (dir : Directory) → IsReached f v dir → (name : List ℕ) → IsTrue (is_name name) → gone (entry_at f dir name) ≡ false
    → key_of f (under (entry_at f dir name) v) ≡ key_of f (under (entry_at f dir name) (cut gone v))
entry_key_stays f lawful v gone is_cut dir reached name named stays =
    ap (option_and_then f.key_in) (marks_stay f lawful v gone is_cut dir reached name named stays f.key_file lawful.key_is_mark)

-- a text that stands in its file
text_file : (v : View) (at : Path) (full : Option (List ℕ)) → is_some full ≡ true → holds v at full ≡ true → ShowsFile v at
text_file v at None long held = cc
text_file v at (Some text) long held = by_found (v at) refl
  where
    by_found : (x : Found) → v at ≡ x → ShowsFile v at
    by_found (FileOf bytes) is = (bytes, is)
    by_found NoEntry is = let none : is_file_of text (file_bytes NoEntry) ≡ true = ap (λ x. is_file_of text (file_bytes x)) (sym is) ∙ held in cc
    by_found Folder is = let none : is_file_of text (file_bytes Folder) ≡ true = ap (λ x. is_file_of text (file_bytes x)) (sym is) ∙ held in cc
    by_found Special is = let none : is_file_of text (file_bytes Special) ≡ true = ap (λ x. is_file_of text (file_bytes x)) (sym is) ∙ held in cc

-- the long-name file of a name stays with its entry
full_stays : (f : Format) (lawful : IsLawful f) (v : View) (gone : Path → Bool) → IsCut f lawful v gone → (dir : Directory) → IsReached f v dir → (name : List ℕ) → IsEntryOf f v dir (f.stored dir.key name).name name
    → gone (entry_at f dir name) ≡ false → is_some (f.stored dir.key name).full ≡ true → gone (dir.folder ++ f.full_at (f.stored dir.key name).name) ≡ false
full_stays f lawful v gone is_cut dir reached name of stays long = elim (lawful.full_place (f.stored dir.key name).name) [
  | inl beside ↦ ap (λ r. gone (dir.folder ++ r)) beside.1 ∙ not_gone (gone (child dir.folder beside.0)) (λ goes.
      by_entry beside.0 beside.1 (entry_stray f lawful is_cut.knows v is_cut.has dir reached beside.0
      (gone_child f v gone is_cut.are dir.folder beside.0 (folder_stays f lawful v gone is_cut dir reached) goes)))
  | inr inside ↦
      ap (λ r. gone (dir.folder ++ r)) inside.1 ∙ ap gone (sym (append_assoc dir.folder ((f.stored dir.key name).name ∷ []) (inside.0 ∷ [])))
      ∙ not_gone (gone (child (entry_at f dir name) inside.0)) (λ goes.
      by_inner inside.0 inside.1 (inner_stray f lawful v gone is_cut dir reached name of.named inside.0
      (gone_child f v gone is_cut.are (entry_at f dir name) inside.0 stays goes)))
]
  where
    is_key : IsTrue (lawful.is_key dir.key)
    is_key = (reached_right f lawful v reached.0 dir reached.1).is_key

    file : ShowsFile v (dir.folder ++ f.full_at (f.stored dir.key name).name)
    file = text_file v (dir.folder ++ f.full_at (f.stored dir.key name).name) (f.stored dir.key name).full long of.full

    by_entry : (x : Part) → f.full_at (f.stored dir.key name).name ≡ x ∷ [] → EntryStray f v dir x → ⊥
    by_entry x place (NoName stray unnamed) =
        stray (record { file = subst (λ r. ShowsFile v (dir.folder ++ r)) place file; name = right_or (f.is_fixed dir.folder x) (f.is_full x) (is_cut.knows.full_is_full dir.key name x is_key of.named long place) })
      where
        right_or : (a b : Bool) → b ≡ true → (a || b) ≡ true
        right_or true b is = refl
        right_or false b is = is
    by_entry x place (NoneOfName other of_other item) =
        let clash : true ≡ false = sym (is_cut.knows.full_is_full dir.key name x is_key of.named long place) ∙ ap f.is_full (sym of_other.stores)
        ∙ is_cut.knows.entry_not_full dir.key other is_key of_other.named in cc
    by_entry x place (NoText full wrong) = wrong (f.stored dir.key name).name (record { name = name; of = of; long = long; beside = place })

    two_parts : (a b c : Part) → a ∷ [] ≡ b ∷ c ∷ [] → ⊥
    two_parts a b c e = cc

    by_inner : (x : Part) → f.full_at (f.stored dir.key name).name ≡ (f.stored dir.key name).name ∷ x ∷ [] → InnerStray f v dir name x → ⊥
    by_inner x place (OfFolder other reached_too same s) = elim is_cut.knows.layout [
      | inl nested ↦
          let beside : (file : Part) × (f.full_at (f.stored dir.key name).name ≡ file ∷ []) = nested.beside (f.stored dir.key name).name in
          two_parts beside.0 (f.stored dir.key name).name x (sym beside.1 ∙ place)
      | inr flat ↦ never_in_entries f lawful flat v other dir reached_too reached (f.stored dir.key name).name [] (same ∙ sym (append-nil (entry_at f dir name)))
    ]
    by_inner x place (NoPlace extra) =
        let there : v (child (entry_at f dir name) x) ≡ FileOf file.0
        = ap v (append_assoc dir.folder ((f.stored dir.key name).name ∷ []) (x ∷ []) ∙ ap (λ r. dir.folder ++ r) (sym place)) ∙ file.1 in
        is_cut.knows.full_belongs (item_at f v dir (f.stored dir.key name)) (f.stored dir.key name).name x file.0 place
        (ap (f.inner_role true (item_at f v dir (f.stored dir.key name)) x) (sym there)
        ∙ ap (λ b. f.inner_role b (item_at f v dir (f.stored dir.key name)) x (v (child (entry_at f dir name) x))) (sym long) ∙ extra)

-- so a name that holds for an entry that stays, does so still
pub held_on : (f : Format) (lawful : IsLawful f) (v : View) (gone : Path → Bool) → IsCut f lawful v gone → (dir : Directory) → IsReached f v dir → (name : List ℕ) → IsEntryOf f v dir (f.stored dir.key name).name name
    → gone (entry_at f dir name) ≡ false → holds_full f (cut gone v) dir (f.stored dir.key name) ≡ true
held_on f lawful v gone is_cut dir reached name of stays =
    sym (holds_by v (cut gone v) (dir.folder ++ f.full_at (f.stored dir.key name).name) (f.stored dir.key name).full
    (λ long. sym (kept v gone (dir.folder ++ f.full_at (f.stored dir.key name).name) (full_stays f lawful v gone is_cut dir reached name of stays long)))) ∙ of.full

-- and one that holds, held
pub held_back : (v : View) (gone : Path → Bool) (at : Path) (full : Option (List ℕ)) → holds (cut gone v) at full ≡ true → holds v at full ≡ true
held_back v gone at None held = refl
held_back v gone at (Some text) held = elim (gone_or_not (gone at)) [
  | inl goes ↦ let none : is_file_of text (file_bytes NoEntry) ≡ true = ap (λ x. is_file_of text (file_bytes x)) (sym (went v gone at goes)) ∙ held in cc
  | inr stays ↦ ap (λ x. is_file_of text (file_bytes x)) (sym (kept v gone at stays)) ∙ held
]
