-- The law of strays, for a format that knows them.
use Rattle.std.proofs.Common.{◌≡◌, ◌≢◌, ◌+◌, Bool, true, false, [], ◌∷◌, ◌++◌, refl, sym, ap, ◌∙◌, inl, inr, append_assoc, append-nil, Some, None, Option, IsTrue, is_some, length, length-append, arith}
use Rattle.folder_spec.specs.Path.{Part, Path, child, below}
use Rattle.folder_spec.specs.View.{Found, NoEntry, Folder, FileOf, View}
use Rattle.folder_spec.proofs.Paths.{below_is, below-append, child_begins}
use Rattle.vault_spec.specs.declared.Finding.{Finding}
use Rattle.vault_spec.specs.declared.Finding.TheVariants as is
use Rattle.vault_spec.specs.Alike.{HasFolders}
use Rattle.vault_spec.specs.Findings.{IsExtra, IsFinding}
use Rattle.vault_spec.specs.Format.{Format, Nothing, NoItem, Expected, ContentFolder, Extra}
use Rattle.vault_spec.specs.Moving.{is_moved, IsStray, GoesWith, AreStrays, HasSoundFolders, StraysGoAlone}
use Rattle.vault_spec.specs.Standing.{entry_at, item_at}
use Rattle.vault_spec.proofs.Lawful.{IsLawful}
use Rattle.vault_spec.proofs.StrayLaws.{KnowsStrays}
use Rattle.vault_spec.proofs.StaysClean.{nothing_at}
use Rattle.vault_spec.proofs.Cuts.{StrayPlace, AtEntry, InEntry, Misplaced, Unreached, stray_place, IsCut, gone_child, no_role_there, stray_is_no_item, stray_not_root, folder_stays}
use Rattle.vault_spec.proofs.CutOpens.{cut_opens}
use Rattle.vault_spec.proofs.CutFindings.{found_back}

-- a stray is there
extra_there : (f : Format) → IsLawful f → (v : View) (at : Path) → IsExtra f v at → v at ≢ NoEntry
extra_there f lawful v at (inl u) none =
    let clash : Expected ≡ Extra = sym (lawful.no_inner_role (is_some (f.stored u.dir.key u.name).full) (item_at f v u.dir (f.stored u.dir.key u.name)) u.entry)
    ∙ ap (f.inner_role (is_some (f.stored u.dir.key u.name).full) (item_at f v u.dir (f.stored u.dir.key u.name)) u.entry) (sym none) ∙ u.extra in cc
extra_there f lawful v at (inr role) none = let clash : Expected ≡ Extra = sym (lawful.no_role at) ∙ ap (f.role at) (sym none) ∙ role in cc

found_there : (f : Format) → IsLawful f → (v : View) (at : Path) (finding : Finding) → IsTrue (is_moved finding) → IsFinding f v finding at → v at ≢ NoEntry
found_there f lawful v at is.BadStoredName moved u = u.there
found_there f lawful v at is.NoDirKey moved u = cc
found_there f lawful v at is.LongNameLost moved u = u.there
found_there f lawful v at is.OrphanLongName moved u = λ none. let clash : FileOf u.there.0 ≡ NoEntry = sym u.there.1 ∙ none in cc
found_there f lawful v at is.DirIdTwice moved u = cc
found_there f lawful v at is.NoFolder moved u = cc
found_there f lawful v at is.OrphanFolder moved u = λ none. let clash : Expected ≡ ContentFolder = sym (lawful.no_role at) ∙ ap (f.role at) (sym none) ∙ u.loose.folder in cc
found_there f lawful v at is.SymlinkFound moved u = λ none.
    let clash : Nothing ≡ NoItem is.SymlinkFound = sym (nothing_at f lawful v u.dir u.name (ap v (sym u.place) ∙ none)) ∙ u.is in cc
found_there f lawful v at is.WrongKind moved u = cc
found_there f lawful v at is.ExtraEntry moved u = extra_there f lawful v at u
found_there f lawful v at is.TwoKinds moved u = cc
found_there f lawful v at is.HeaderDamaged moved u = cc
found_there f lawful v at is.ChunkDamaged moved u = cc
found_there f lawful v at is.EmptyOrphan moved u = cc

stray_there : (f : Format) → IsLawful f → (v : View) (at : Path) → IsStray f v at → v at ≢ NoEntry
stray_there f lawful v at stray = found_there f lawful v at stray.finding stray.moved stray.found

-- a folder stands above what is there
folder_above : (v : View) → HasFolders v → (at : Path) (a : Part) (rest : Path) → v (at ++ a ∷ rest) ≢ NoEntry → v at ≡ Folder
folder_above v folders at a [] there = folders at a there
folder_above v folders at a (b ∷ rest) there = folders at a (λ none.
    let up : v (child at a) ≡ Folder = folder_above v folders (child at a) b rest (λ free. there (ap v (sym (append_assoc at (a ∷ []) (b ∷ rest))) ∙ free)) in
    let clash : Folder ≡ NoEntry = sym up ∙ none in cc)

-- one stray alone is gone
abbrev alone : Path → Path → Bool
alone at q = is_some (below at q)

alone_there : (at rest : Path) → alone at (at ++ rest) ≡ true
alone_there at rest = ap is_some (below-append at rest)

are_alone : (f : Format) (v : View) (at : Path) → IsStray f v at → AreStrays f v (alone at)
are_alone f v at stray = record {
  strays = λ q goes. by_below q (below at q) refl goes;
  whole = λ p rest goes. by_whole p rest (below at p) refl goes;
}
  where
    by_below : (q : Path) (o : Option Path) → below at q ≡ o → is_some o ≡ true → GoesWith f v (alone at) q
    by_below q None is some = cc
    by_below q (Some rest) is some = record {
      at = at;
      rest = rest;
      place = below_is at q rest is;
      stray = stray;
      went = ap (alone at) (sym (append-nil at)) ∙ alone_there at [];
    }

    by_whole : (p rest : Path) (o : Option Path) → below at p ≡ o → is_some o ≡ true → alone at (p ++ rest) ≡ true
    by_whole p rest None is some = cc
    by_whole p rest (Some more) is some =
        ap (λ r. alone at (r ++ rest)) (below_is at p more is) ∙ ap (alone at) (append_assoc at more rest) ∙ alone_there at (more ++ rest)

longer : (at : Path) (a : Part) (rest : Path) → at ++ a ∷ rest ≢ at
longer at a rest e =
    let sizes : length at + length (a ∷ rest) ≡ length at = sym (length-append at (a ∷ rest)) ∙ ap length e in
    omega (arith, sizes)

-- what is below a stray has no role
no_role_below : (f : Format) (lawful : IsLawful f) → KnowsStrays f lawful → (v : View) (at : Path) (a : Part) (rest : Path) → v at ≡ Folder → StrayPlace f v at → (there : Found) → f.role (at ++ a ∷ rest) there ≡ Expected
no_role_below f lawful knows v at a rest folder (AtEntry s) there =
    ap (λ p. f.role (p ++ a ∷ rest) there) s.place ∙ no_role_there f lawful knows v s.dir s.reached s.x (a ∷ rest) there
no_role_below f lawful knows v at a rest folder (InEntry u) there =
    ap (λ p. f.role (p ++ a ∷ rest) there) u.place
    ∙ ap (λ p. f.role p there) (append_assoc (entry_at f u.dir u.name) (u.entry ∷ []) (a ∷ rest))
    ∙ no_role_there f lawful knows v u.dir u.reached (f.stored u.dir.key u.name).name (u.entry ∷ a ∷ rest) there
no_role_below f lawful knows v at a rest folder (Misplaced role) there = knows.below_role at a rest there (inl (ap (f.role at) (sym folder) ∙ role))
no_role_below f lawful knows v at a rest folder (Unreached u) there = knows.below_role at a rest there (inr (ap (f.role at) (sym folder) ∙ u.folder))

-- so none is below another
none_below : (f : Format) (lawful : IsLawful f) → KnowsStrays f lawful → (v : View) (at : Path) (a : Part) (rest : Path) → HasSoundFolders f v → IsStray f v at → ¬ IsStray f v (at ++ a ∷ rest)
none_below f lawful knows v at a rest has stray below_it = by_place (stray_place f v (at ++ a ∷ rest) below_it)
  where
    is_cut : IsCut f lawful v (alone at)
    is_cut = record { knows = knows; has = has; are = are_alone f v at stray }

    -- a path with a child that is below it is below it
    goes_up : (up : Path) (x : Part) → at ++ a ∷ rest ≡ child up x → alone at up ≡ true
    goes_up up x place = elim (child_begins at up x (a ∷ rest) (sym place)) [
      | inl same ↦ absurd (longer at a rest (place ∙ same))
      | inr above ↦ ap (alone at) above.1 ∙ alone_there at above.0
    ]

    no_role : (there : Found) → f.role (at ++ a ∷ rest) there ≡ Expected
    no_role = no_role_below f lawful knows v at a rest (folder_above v has.folders at a rest (stray_there f lawful v (at ++ a ∷ rest) below_it)) (stray_place f v at stray)

    by_place : StrayPlace f v (at ++ a ∷ rest) → ⊥
    by_place (AtEntry s) =
        let clash : true ≡ false = sym (goes_up s.dir.folder s.x s.place) ∙ folder_stays f lawful v (alone at) is_cut s.dir s.reached in cc
    by_place (InEntry u) =
        let entry : IsStray f v (entry_at f u.dir u.name)
        = gone_child f v (alone at) is_cut.are u.dir.folder (f.stored u.dir.key u.name).name (folder_stays f lawful v (alone at) is_cut u.dir u.reached) (goes_up (entry_at f u.dir u.name) u.entry u.place) in
        let no_item : item_at f v u.dir (f.stored u.dir.key u.name) ≡ NoItem is.SymlinkFound = stray_is_no_item f lawful knows v has u.dir u.reached u.name u.of entry in
        let clash : Expected ≡ Extra = sym (knows.role_in_no_item (is_some (f.stored u.dir.key u.name).full) is.SymlinkFound u.entry (v (at ++ a ∷ rest)))
        ∙ ap (λ i. f.inner_role (is_some (f.stored u.dir.key u.name).full) i u.entry (v (at ++ a ∷ rest))) (sym no_item) ∙ u.extra in cc
    by_place (Misplaced role) = let clash : Expected ≡ Extra = sym (no_role (v (at ++ a ∷ rest))) ∙ role in cc
    by_place (Unreached u) = let clash : Expected ≡ ContentFolder = sym (no_role (v (at ++ a ∷ rest))) ∙ u.folder in cc

-- what is moved for is no note
no_note : (finding : Finding) → IsTrue (is_moved finding) → finding ≢ is.EmptyOrphan
no_note finding moved note = let clash : true ≡ false = sym moved ∙ ap is_moved note in cc

pub strays_alone : (f : Format) (lawful : IsLawful f) → KnowsStrays f lawful → StraysGoAlone f
strays_alone f lawful knows = record {
  there = λ v at stray. (stray_there f lawful v at stray, stray_not_root f lawful knows v at stray);
  apart = λ v at a rest has stray. none_below f lawful knows v at a rest has stray;
  opens = λ v gone has are. cut_opens f lawful v gone (record { knows = knows; has = has; are = are });
  found = λ v gone has are finding at some found. found_back f lawful v gone (record { knows = knows; has = has; are = are }) finding at some found;
  none = λ v gone has are all at stray.
      let was : IsFinding f v stray.finding at × (gone at ≡ false)
      = found_back f lawful v gone (record { knows = knows; has = has; are = are }) stray.finding at (no_note stray.finding stray.moved) stray.found in
      let clash : true ≡ false = sym (all at (record { finding = stray.finding; moved = stray.moved; found = was.0 })) ∙ was.1 in cc;
}
