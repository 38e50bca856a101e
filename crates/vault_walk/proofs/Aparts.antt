-- What is found at a place outside of the folders of entries, by what it is for.
use Rattle.std.proofs.Common.{◌≡◌, ◌≢◌, ◌⊎◌, ◌↔◌, ◌++◌, ◌∷◌, [], ℕ, Bool, true, false, ◌&&◌, ◌||◌, not, List, Option, Some, None, inl, inr, refl, sym, ap, ◌∙◌, subst}
use Rattle.std.specs.List.{list_any}
use Rattle.std.specs.Prelude.{Contains}
use Rattle.std.proofs.lemmas.List.Elements.{Contains-append_left, Contains-append_right, Contains-append_cases, Contains-push, Contains-push_cases}
use Rattle.folder_spec.specs.Listing.{Item, IsListing}
use Rattle.folder_spec.specs.Path.{Part, Path, child}
use Rattle.folder_spec.specs.View as view
use Rattle.folder_spec.specs.View.{NoEntry, Folder, FileOf, Special, View, kind_found}
use Rattle.folder_spec.specs.declared.Kind.TheVariants as kinds
use Rattle.vault_read.specs.Opened.{kind_of}
use Rattle.vault_read.specs.declared.vault.VaultKind.TheVariants as kind
use Rattle.vault_spec.specs.Findings.{IsFixed, IsIdleFolder, IsIdleShelf, IsLoose, IsOrphanFolder, number_of}
use Rattle.vault_spec.specs.Format.{Format, Role, Expected, Shelf, ContentFolder, Extra}
use Rattle.vault_spec.specs.Cryptomator.{cm_role}
use Rattle.vault_spec.specs.Vault.{Vault, Gocryptfs, Cryptomator, format_of}
use Rattle.vault_spec.specs.declared.Finding.{Finding}
use Rattle.vault_spec.specs.declared.Finding.TheVariants as is
use Rattle.vault_walk.specs.Apart.{AreFoundApart, AreFoundAt, HaveRoles, HoldRoles, IsApartOf, IsFoundApart, IsPlaced, IsReachedFolder, is_apart, is_file_kind, is_more, loose_by, shelf_by}
use Rattle.vault_walk.specs.Here.{IsFindingApart}
use Rattle.vault_walk.specs.Names.{is_fixed_by, role_of}
use Rattle.vault_walk.specs.Report.{found_by}
use Rattle.vault_walk.specs.declared.apart.Place.{Place}
use Rattle.vault_walk.specs.declared.found.Found.{Found}
use Rattle.vault_walk.proofs.EntryReports.{by_back, by_on}
use Rattle.vault_walk.proofs.Flats.{none_within, only_one}
use Rattle.vault_walk.proofs.UnnamedEntries.{is_fixed_is}

any_on : {X : Type 0} (p : X → Bool) (xs : List X) → list_any p xs ≡ true → (x : X) × Contains xs x × (p x ≡ true)
any_on p [] e = cc
any_on {X} p (x ∷ xs) e = by_first (any_on p xs) (p x) refl e
  where
    by_first : (list_any p xs ≡ true → (y : X) × Contains xs y × (p y ≡ true)) → (b : Bool) → p x ≡ b → (b || list_any p xs) ≡ true → (y : X) × Contains (x ∷ xs) y × (p y ≡ true)
    by_first later true is any = (x, Contains-append_left (x ∷ []) xs x (Contains-push [] x), is)
    by_first later false is any = let found = later any in (found.0, Contains-append_right (x ∷ []) xs found.0 found.1, found.2)

any_back : {X : Type 0} (p : X → Bool) (xs : List X) (x : X) → Contains xs x → p x ≡ true → list_any p xs ≡ true
any_back p [] x there is = absurd (none_within x there)
any_back p (y ∷ xs) x there is = by_place (any_back p xs x) (p y) refl (Contains-append_cases (y ∷ []) xs x there)
  where
    by_place : (Contains xs x → p x ≡ true → list_any p xs ≡ true) → (b : Bool) → p y ≡ b → Contains (y ∷ []) x ⊎ Contains xs x → (b || list_any p xs) ≡ true
    by_place later true of place = refl
    by_place later false of (inl here) = let clash : false ≡ true = sym of ∙ ap p (only_one y x here) ∙ is in cc clash
    by_place later false of (inr rest) = later rest is

-- a finding of a path, by its role
by_role : (f : Format) (v : View) (at : Path) (finding : Option Finding) → (finding ≡ Some is.ExtraEntry) ↔ (f.role at (v at) ≡ Extra) → (finding ≡ Some is.OrphanFolder) ↔ IsOrphanFolder f v at
    → (finding ≡ Some is.EmptyOrphan) ↔ (IsIdleFolder f v at ⊎ IsIdleShelf f v at) → ((one : Finding) → finding ≡ Some one → is_apart one ≡ true) → IsApartOf f v at finding
by_role f v at finding extra orphan idle outside = record { is = each; outside = outside }
  where
    each : (one : Finding) → is_apart one ≡ true → (finding ≡ Some one) ↔ IsFindingApart f v one at
    each is.ExtraEntry apart = extra
    each is.OrphanFolder apart = orphan
    each is.EmptyOrphan apart = idle
    each is.BadStoredName apart = cc
    each is.NoDirKey apart = cc
    each is.LongNameLost apart = cc
    each is.OrphanLongName apart = cc
    each is.DirIdTwice apart = cc
    each is.NoFolder apart = cc
    each is.SymlinkFound apart = cc
    each is.WrongKind apart = cc
    each is.TwoKinds apart = cc
    each is.HeaderDamaged apart = cc
    each is.ChunkDamaged apart = cc

none_outside : (one : Finding) → None ≡ Some one → is_apart one ≡ true
none_outside one e = cc

module _ (f : Format) (v : View) (at : Path) where
  no_content : (role : Role) → f.role at (v at) ≡ role → (role ≡ ContentFolder → ⊥) → IsOrphanFolder f v at → ⊥
  no_content role role_is other o = other (sym role_is ∙ o.loose.folder)

  no_idle : (role : Role) → f.role at (v at) ≡ role → (role ≡ ContentFolder → ⊥) → (role ≡ Shelf → ⊥) → IsIdleFolder f v at ⊎ IsIdleShelf f v at → ⊥
  no_idle role role_is other not_shelf (inl i) = other (sym role_is ∙ i.loose.folder)
  no_idle role role_is other not_shelf (inr i) = not_shelf (sym role_is ∙ i.shelf)

  pub apart_expected : f.role at (v at) ≡ Expected → IsApartOf f v at None
  apart_expected role_is =
      by_role f v at None ((λ e. cc e), (λ extra. let clash : Expected ≡ Extra = sym role_is ∙ extra in cc clash))
      ((λ e. cc e), (λ o. absurd (no_content Expected role_is (λ e. cc e) o)))
      ((λ e. cc e), (λ i. absurd (no_idle Expected role_is (λ e. cc e) (λ e. cc e) i))) none_outside

  pub apart_extra : f.role at (v at) ≡ Extra → IsApartOf f v at (Some is.ExtraEntry)
  apart_extra role_is =
      by_role f v at (Some is.ExtraEntry) ((λ e. role_is), (λ extra. refl))
      ((λ e. cc e), (λ o. absurd (no_content Extra role_is (λ e. cc e) o)))
      ((λ e. cc e), (λ i. absurd (no_idle Extra role_is (λ e. cc e) (λ e. cc e) i)))
      (λ one e. let same : is.ExtraEntry ≡ one = cc in ap is_apart (sym same))

  kind_there : (there : view.Found) → there ≢ NoEntry → kind_found there ≢ kinds.Missing
  kind_there NoEntry some e = some refl
  kind_there Folder some e = cc
  kind_there (FileOf bytes) some e = cc
  kind_there Special some e = cc

  listed_entry : (entries : List Item) → IsListing v at entries → (name : Part) → v (child at name) ≢ NoEntry → Contains entries (record { name = name; kind = kind_found (v (child at name)) })
  listed_entry entries listing name some = (listing.entries (record { name = name; kind = kind_found (v (child at name)) })).1 (kind_there (v (child at name)) some, refl)

  entry_there : (entries : List Item) → IsListing v at entries → (entry : Item) → Contains entries entry → v (child at entry.name) ≢ NoEntry
  entry_there entries listing entry there none = let both = (listing.entries entry).0 there in both.0 (sym both.1 ∙ ap kind_found none)

  shelf_idle : (entries : List Item) → IsListing v at entries → f.role at (v at) ≡ Shelf → (shelf_by entries ≡ Some is.EmptyOrphan) ↔ IsIdleShelf f v at
  shelf_idle [] listing role_is = (
    λ e. record { shelf = role_is; empty = λ name. nothing (v (child at name)) (λ some. none_within (record { name = name; kind = kind_found (v (child at name)) }) (listed_entry [] listing name some)) },
    λ i. refl,
  )
    where
      nothing : (there : view.Found) → (there ≢ NoEntry → ⊥) → there ≡ NoEntry
      nothing NoEntry none = refl
      nothing Folder none = absurd (none (λ e. cc e))
      nothing (FileOf bytes) none = absurd (none (λ e. cc e))
      nothing Special none = absurd (none (λ e. cc e))
  shelf_idle (entry ∷ entries) listing role_is = ((λ e. cc e), (λ i. absurd (entry_there (entry ∷ entries) listing entry (Contains-append_left (entry ∷ []) entries entry (Contains-push [] entry)) (i.empty entry.name))))

  shelf_outside : (entries : List Item) (one : Finding) → shelf_by entries ≡ Some one → one ≡ is.EmptyOrphan
  shelf_outside [] one e = cc
  shelf_outside (entry ∷ entries) one e = cc

  pub apart_shelf : (entries : List Item) → IsListing v at entries → f.role at (v at) ≡ Shelf → IsApartOf f v at (shelf_by entries)
  apart_shelf entries listing role_is =
      by_role f v at (shelf_by entries)
      ((λ e. let clash : is.ExtraEntry ≡ is.EmptyOrphan = shelf_outside entries is.ExtraEntry e in cc clash), (λ extra. let clash : Shelf ≡ Extra = sym role_is ∙ extra in cc clash))
      ((λ e. let clash : is.OrphanFolder ≡ is.EmptyOrphan = shelf_outside entries is.OrphanFolder e in cc clash), (λ o. absurd (no_content Shelf role_is (λ e. cc e) o)))
      ((λ e. inr ((shelf_idle entries listing role_is).0 e)), (λ i. by_kind i))
      (λ one e. ap is_apart (shelf_outside entries one e))
    where
      by_kind : IsIdleFolder f v at ⊎ IsIdleShelf f v at → shelf_by entries ≡ Some is.EmptyOrphan
      by_kind (inl i) = let clash : Shelf ≡ ContentFolder = sym role_is ∙ i.loose.folder in cc clash
      by_kind (inr i) = (shelf_idle entries listing role_is).1 i

  pub apart_reached : f.role at (v at) ≡ ContentFolder → IsReachedFolder f v at → IsApartOf f v at None
  apart_reached role_is reached =
      by_role f v at None ((λ e. cc e), (λ extra. let clash : ContentFolder ≡ Extra = sym role_is ∙ extra in cc clash))
      ((λ e. cc e), (λ o. absurd (o.loose.loose reached.0 reached.1 reached.2)))
      ((λ e. cc e), (λ i. absurd (never i))) none_outside
    where
      never : IsIdleFolder f v at ⊎ IsIdleShelf f v at → ⊥
      never (inl i) = i.loose.loose reached.0 reached.1 reached.2
      never (inr i) = let clash : ContentFolder ≡ Shelf = sym role_is ∙ i.shelf in cc clash

  module _ (role_is : f.role at (v at) ≡ ContentFolder) (alone : ¬ IsReachedFolder f v at) where
    loose : IsLoose f v at
    loose = record { folder = role_is; loose = λ dir reached same. alone (dir, reached, same) }

    never_extra : f.role at (v at) ≡ Extra → ⊥
    never_extra extra = let clash : ContentFolder ≡ Extra = sym role_is ∙ extra in cc clash

    never_shelf : IsIdleShelf f v at → ⊥
    never_shelf i = let clash : ContentFolder ≡ Shelf = sym role_is ∙ i.shelf in cc clash

    apart_more : (entry : Part) → v (child at entry) ≢ NoEntry → ¬ IsFixed f v at entry → IsApartOf f v at (Some is.OrphanFolder)
    apart_more entry there more =
        by_role f v at (Some is.OrphanFolder) ((λ e. cc e), (λ extra. absurd (never_extra extra)))
        ((λ e. record { loose = loose; entry = entry; there = there; more = more }), (λ o. refl))
        ((λ e. cc e), (λ i. absurd (never i)))
        (λ one e. let same : is.OrphanFolder ≡ one = cc in ap is_apart (sym same))
      where
        never : IsIdleFolder f v at ⊎ IsIdleShelf f v at → ⊥
        never (inl i) = more (i.fixed entry there)
        never (inr i) = never_shelf i

    apart_idle : ((entry : Part) → v (child at entry) ≢ NoEntry → IsFixed f v at entry) → IsApartOf f v at (Some is.EmptyOrphan)
    apart_idle fixed =
        by_role f v at (Some is.EmptyOrphan) ((λ e. cc e), (λ extra. absurd (never_extra extra)))
        ((λ e. cc e), (λ o. absurd (o.more (fixed o.entry o.there))))
        ((λ e. inl (record { loose = loose; fixed = fixed })), (λ i. refl))
        (λ one e. let same : is.EmptyOrphan ≡ one = cc in ap is_apart (sym same))

is_file_kind_is : (there : view.Found) → is_file_kind (kind_found there) ≡ true → (bytes : List ℕ) × (there ≡ FileOf bytes)
is_file_kind_is (FileOf bytes) e = (bytes, refl)
is_file_kind_is NoEntry e = cc
is_file_kind_is Folder e = cc
is_file_kind_is Special e = cc

both_true : (a b : Bool) → not (a && b) ≡ false → (a ≡ true) × (b ≡ true)
both_true true true e = (refl, refl)
both_true true false e = cc
both_true false b e = cc

not_true : (a b : Bool) → a ≡ true → b ≡ true → not (a && b) ≡ false
not_true true true one two = refl
not_true true false one two = cc
not_true false b one two = cc

module _ (vault : Vault) (v : View) (at : Path) (entries : List Item) (listing : IsListing v at entries) where
  fixed_if : (entry : Item) → Contains entries entry → is_more (kind_of vault) at entry ≡ false → IsFixed (format_of vault) v at entry.name
  fixed_if entry there e =
      let both = both_true (is_file_kind entry.kind) (is_fixed_by (kind_of vault) at entry.name) e in
      record {
        file = is_file_kind_is (v (child at entry.name)) (ap is_file_kind ((listing.entries entry).0 there).1 ∙ both.0);
        name = sym (is_fixed_is vault at entry.name) ∙ both.1;
      }

  more_if : (entry : Item) → Contains entries entry → is_more (kind_of vault) at entry ≡ true → ¬ IsFixed (format_of vault) v at entry.name
  more_if entry there e fixed =
      let clash : true ≡ false
      = sym e ∙ not_true (is_file_kind entry.kind) (is_fixed_by (kind_of vault) at entry.name)
      (ap is_file_kind (sym ((listing.entries entry).0 there).1) ∙ ap (λ x. is_file_kind (kind_found x)) fixed.file.1) (is_fixed_is vault at entry.name ∙ fixed.name) in
      cc clash

  pub apart_loose : (format_of vault).role at (v at) ≡ ContentFolder → ¬ IsReachedFolder (format_of vault) v at → (more : Bool) → more ≡ list_any (is_more (kind_of vault) at) entries
      → IsApartOf (format_of vault) v at (Some (loose_by more))
  apart_loose role_is alone true e =
      let found = any_on (is_more (kind_of vault) at) entries (sym e) in
      apart_more (format_of vault) v at role_is alone found.0.name (entry_there (format_of vault) v at entries listing found.0 found.1) (more_if found.0 found.1 found.2)
  apart_loose role_is alone false e = apart_idle (format_of vault) v at role_is alone fixed
    where
      by_test : (entry : Item) → Contains entries entry → (b : Bool) → is_more (kind_of vault) at entry ≡ b → IsFixed (format_of vault) v at entry.name
      by_test entry there false test = fixed_if entry there test
      by_test entry there true test = let clash : false ≡ true = e ∙ any_back (is_more (kind_of vault) at) entries entry there test in cc clash

      fixed : (name : Part) → v (child at name) ≢ NoEntry → IsFixed (format_of vault) v at name
      fixed name some =
          let entry : Item = record { name = name; kind = kind_found (v (child at name)) } in
          by_test entry (listed_entry (format_of vault) v at entries listing name some) (is_more (kind_of vault) at entry) refl

-- what is found at one place more
none_found : (f : Format) (v : View) (at : Path) (x : Found) → IsApartOf f v at None → IsFoundApart f v x → x.at ≡ at → ⊥
none_found f v at x is_of found place =
    let e : None ≡ Some found.finding = (is_of.is found.finding found.outside).1 (subst (IsFindingApart f v found.finding) place found.apart) in cc e

found_on : (f : Format) (v : View) (at : Path) (finding : Option Finding) → IsApartOf f v at finding → (x : Found) → Contains (found_by at finding) x → IsFoundApart f v x × (x.at ≡ at)
found_on f v at None is_of x there = absurd (none_within x there)
found_on f v at (Some finding) is_of x there =
    let one = by_on at finding x there in (
      record {
        finding = finding;
        number = one.1;
        outside = is_of.outside finding refl;
        apart = subst (IsFindingApart f v finding) (sym one.0) ((is_of.is finding (is_of.outside finding refl)).0 refl);
      },
      one.0,
    )

found_back : (f : Format) (v : View) (at : Path) (finding : Option Finding) → IsApartOf f v at finding → (x : Found) → IsFoundApart f v x → x.at ≡ at → Contains (found_by at finding) x
found_back f v at None is_of x found place = absurd (none_found f v at x is_of found place)
found_back f v at (Some finding) is_of x found place =
    let both : Some finding ≡ Some found.finding = (is_of.is found.finding found.outside).1 (subst (IsFindingApart f v found.finding) place found.apart) in
    let same : finding ≡ found.finding = cc in
    by_back at finding x place (found.number ∙ ap number_of (sym same))

pub none_at_places : (f : Format) (v : View) (found : List Found) → found ≡ [] → AreFoundAt f v [] found
none_at_places f v found e x = (λ there. absurd (none_within x (subst (λ xs. Contains xs x) e there)), λ both. absurd (none_within both.1.0 both.1.1))

pub more_at_places : (f : Format) (v : View) (places : List Place) (place : Place) (found : List Found) (finding : Option Finding) → AreFoundAt f v places found → IsApartOf f v place.at finding
    → AreFoundAt f v (places ++ place ∷ []) (found ++ found_by place.at finding)
more_at_places f v places place found finding are is_of x = (on, back)
  where
    place_on : Contains found x ⊎ Contains (found_by place.at finding) x → IsFoundApart f v x × IsPlaced (places ++ place ∷ []) x.at
    place_on (inl old) = let both = (are x).0 old in (both.0, (both.1.0, Contains-append_left places (place ∷ []) both.1.0 both.1.1, both.1.2))
    place_on (inr new) = let both = found_on f v place.at finding is_of x new in (both.0, (place, Contains-push places place, sym both.1))

    on : Contains (found ++ found_by place.at finding) x → IsFoundApart f v x × IsPlaced (places ++ place ∷ []) x.at
    on there = place_on (Contains-append_cases found (found_by place.at finding) x there)

    place_back : (at : Place) → IsFoundApart f v x → at.at ≡ x.at → Contains places at ⊎ (place ≡ at) → Contains (found ++ found_by place.at finding) x
    place_back at is_found same (inl old) = Contains-append_left found (found_by place.at finding) x ((are x).1 (is_found, (at, old, same)))
    place_back at is_found same (inr new) =
        Contains-append_right found (found_by place.at finding) x (found_back f v place.at finding is_of x is_found (sym same ∙ ap (λ (p : Place). p.at) (sym new)))

    back : IsFoundApart f v x × IsPlaced (places ++ place ∷ []) x.at → Contains (found ++ found_by place.at finding) x
    back both = place_back both.1.0 both.0 both.1.2 (Contains-push_cases places place both.1.0 both.1.1)

-- what is found has a role
finding_role : (f : Format) (v : View) (finding : Finding) (at : Path) → is_apart finding ≡ true → IsFindingApart f v finding at → f.role at (v at) ≢ Expected
finding_role f v is.ExtraEntry at outside u e = let clash : Expected ≡ Extra = sym e ∙ u in cc clash
finding_role f v is.OrphanFolder at outside u e = let clash : Expected ≡ ContentFolder = sym e ∙ u.loose.folder in cc clash
finding_role f v is.EmptyOrphan at outside (inl u) e = let clash : Expected ≡ ContentFolder = sym e ∙ u.loose.folder in cc clash
finding_role f v is.EmptyOrphan at outside (inr u) e = let clash : Expected ≡ Shelf = sym e ∙ u.shelf in cc clash
finding_role f v is.BadStoredName at outside u e = cc
finding_role f v is.NoDirKey at outside u e = cc
finding_role f v is.LongNameLost at outside u e = cc
finding_role f v is.OrphanLongName at outside u e = cc
finding_role f v is.DirIdTwice at outside u e = cc
finding_role f v is.NoFolder at outside u e = cc
finding_role f v is.SymlinkFound at outside u e = cc
finding_role f v is.WrongKind at outside u e = cc
finding_role f v is.TwoKinds at outside u e = cc
finding_role f v is.HeaderDamaged at outside u e = cc
finding_role f v is.ChunkDamaged at outside u e = cc

pub found_role : (f : Format) (v : View) (x : Found) → IsFoundApart f v x → f.role x.at (v x.at) ≢ Expected
found_role f v x found = finding_role f v found.finding x.at found.outside found.apart

cm_roles : (vault : Vault) → kind_of vault ≡ kind.Cryptomator → (at : Path) (there : view.Found) → cm_role at there ≡ (format_of vault).role at there
cm_roles (Cryptomator cm) e at there = refl
cm_roles (Gocryptfs keys) e at there = cc

-- what is found at all places that have a role is all that is found
pub found_at_all : (vault : Vault) → kind_of vault ≡ kind.Cryptomator → (v : View) (places : List Place) (found : List Found) → HoldRoles v places → AreFoundAt (format_of vault) v places found
    → AreFoundApart (format_of vault) v found
found_at_all vault e v places found hold are x = (
  λ there. ((are x).0 there).0,
  λ is_found. (are x).1 (is_found, hold x.at (λ none. found_role (format_of vault) v x is_found (sym (cm_roles vault e x.at (v x.at)) ∙ none))),
)

pub roles_are : (vault : Vault) → kind_of vault ≡ kind.Cryptomator → (v : View) (places : List Place) → HaveRoles v places → (place : Place) → Contains places place
    → role_of place.role ≡ (format_of vault).role place.at (v place.at)
roles_are vault e v places roles place there = roles place there ∙ cm_roles vault e place.at (v place.at)
