-- The entries of a folder that have no place there.
use Rattle.std.proofs.Common.{◌≡◌, ◌≢◌, ◌++◌, ◌∷◌, [], ℕ, Bool, List, refl, sym, ap, ◌∙◌, subst}
use Rattle.std.specs.Prelude.{Contains}
use Rattle.std.proofs.lemmas.List.{flat_map_more}
use Rattle.std.proofs.lemmas.List.Elements.{Contains-push}
use Rattle.folder_spec.specs.Listing.{Item, IsListing}
use Rattle.folder_spec.specs.Path.{Part, Path, child}
use Rattle.folder_spec.specs.View as view
use Rattle.folder_spec.specs.View.{View, NoEntry, kind_found}
use Rattle.folder_spec.specs.declared.Kind.TheVariants.{Missing}
use Rattle.vault_spec.specs.Cryptomator.{inner_role}
use Rattle.vault_spec.specs.Findings.{number_of}
use Rattle.vault_spec.specs.Format as spec
use Rattle.vault_spec.specs.Format.{Role, Expected, Shelf, ContentFolder, Extra, Nothing, FileItem, DirectoryItem, NoItem}
use Rattle.vault_spec.specs.Vault.{Vault, Gocryptfs, Cryptomator, format_of}
use Rattle.vault_spec.specs.declared.Finding.TheVariants as is
use Rattle.vault_read.specs.Opened.{kind_of}
use Rattle.vault_read.specs.declared.vault.VaultKind.TheVariants as kind
use Rattle.vault_walk.specs.Extras.{extra_at, extras}
use Rattle.vault_walk.specs.Report.{AreInside, IsExtraIn}
use Rattle.vault_walk.specs.declared.found.Found.{Found}
use Rattle.vault_walk.proofs.Flats.{flat_on, flat_back, none_within, only_one}

-- an entry that has no place there, as it is found
record IsExtraBy (role : Part → view.Found → Role) (v : View) (at : Path) (x : Found) : Type 0 where
  number : x.number ≡ number_of is.ExtraEntry
  entry : Part
  place : x.at ≡ child at entry
  extra : role entry (v x.at) ≡ Extra

found_extra : Path → Found
found_extra at = record { at = at; number = number_of is.ExtraEntry }

one_extra : (role : Role) (at : Path) (x : Found) → Contains (extra_at role at) x → (role ≡ Extra) × (found_extra at ≡ x)
unfolding found_extra
one_extra Extra at x there = (refl, only_one (found_extra at) x there)
one_extra Expected at x there = absurd (none_within x there)
one_extra Shelf at x there = absurd (none_within x there)
one_extra ContentFolder at x there = absurd (none_within x there)

is_extra : (role : Role) (at : Path) → role ≡ Extra → Contains (extra_at role at) (found_extra at)
unfolding found_extra
is_extra role at e = subst (λ r. Contains (extra_at r at) (found_extra at)) (sym e) (Contains-push [] (found_extra at))

found_same : (x : Found) → x.number ≡ number_of is.ExtraEntry → found_extra x.at ≡ x
unfolding found_extra
found_same x e = let make : ℕ → Found = λ n. record { at = x.at; number = n } in ap make (sym e)

module _ (role : Part → view.Found → Role) (v : View) (at : Path) (entries : List Item) where
  extra_of : Item → List Found
  extra_of entry = extra_at (role entry.name (v (child at entry.name))) (child at entry.name)

  extras_on : (x : Found) → Contains (extras role v at entries) x → IsExtraBy role v at x
  unfolding extras extra_of found_extra
  extras_on x there =
      let from = flat_on extra_of entries x there in
      let one = one_extra (role from.0.name (v (child at from.0.name))) (child at from.0.name) x from.2 in
      let place : child at from.0.name ≡ x.at = ap (λ (y : Found). y.at) one.1 in
      record {
        number = sym (ap (λ (y : Found). y.number) one.1);
        entry = from.0.name;
        place = sym place;
        extra = ap (λ p. role from.0.name (v p)) (sym place) ∙ one.0;
      }

  extras_back : IsListing v at entries → ((name : Part) → role name NoEntry ≢ Extra) → (x : Found) → IsExtraBy role v at x → Contains (extras role v at entries) x
  unfolding extras extra_of
  extras_back listing none x is =
      let item : Item = record { name = is.entry; kind = kind_found (v (child at is.entry)) } in
      let here : role is.entry (v (child at is.entry)) ≡ Extra = ap (λ p. role is.entry (v p)) (sym is.place) ∙ is.extra in
      let stands : v (child at is.entry) ≢ NoEntry = λ e. none is.entry (ap (role is.entry) (sym e) ∙ here) in
      flat_back extra_of entries item x
      ((listing.entries item).1 (there (v (child at is.entry)) stands, refl))
      (subst (Contains (extra_of item)) (ap found_extra (sym is.place) ∙ found_same x is.number) (is_extra (role is.entry (v (child at is.entry))) (child at is.entry) here))
    where
      there : (found : view.Found) → found ≢ NoEntry → kind_found found ≢ Missing
      there NoEntry some e = some refl
      there view.Folder some e = cc
      there (view.FileOf bytes) some e = cc
      there view.Special some e = cc

inner_none : (long : Bool) (item : spec.Item) (name : Part) → inner_role long item name NoEntry ≢ Extra
inner_none long Nothing name e = cc
inner_none long (FileItem rest) name e = cc
inner_none long DirectoryItem name e = cc
inner_none long (NoItem finding) name e = cc

-- in an item's own folder
pub inside_cm : (vault : Vault) → kind_of vault ≡ kind.Cryptomator → (v : View) (at : Path) (entries : List Item) (long : Bool) (item : spec.Item) → IsListing v at entries
    → AreInside (format_of vault) v at long item (extras (inner_role long item) v at entries)
inside_cm (Gocryptfs keys) e v at entries long item listing x = cc
inside_cm (Cryptomator cm) e v at entries long item listing x = (
  λ there. let is = extras_on (inner_role long item) v at entries x there in record { number = is.number; entry = is.entry; place = is.place; extra = is.extra },
  λ is. extras_back (inner_role long item) v at entries listing (inner_none long item) x (record { number = is.number; entry = is.entry; place = is.place; extra = is.extra }),
)

-- and in gocryptfs none has such a folder
pub inside_go : (vault : Vault) → kind_of vault ≡ kind.Gocryptfs → (v : View) (at : Path) (long : Bool) (item : spec.Item) → AreInside (format_of vault) v at long item []
inside_go (Gocryptfs keys) e v at long item x = (λ there. absurd (none_within x there), λ is. absurd (expected is))
  where
    expected : IsExtraIn (format_of (Gocryptfs keys)) v at long item x → ⊥
    expected is = let clash : Expected ≡ Extra = is.extra in cc clash
inside_go (Cryptomator cm) e v at long item x = cc

pub no_extras : (role : Part → view.Found → Role) (v : View) (at : Path) → [] ≡ extras role v at []
unfolding extras
no_extras role v at = refl

-- a listed entry stands as it is listed
pub listed_kind : (v : View) (at : Path) (entries : List Item) → IsListing v at entries → (entry : Item) → Contains entries entry → entry.kind ≡ kind_found (v (child at entry.name))
listed_kind v at entries listing entry there = sym ((listing.entries entry).0 there).1

pub more_extras : (role : Part → view.Found → Role) (v : View) (at : Path) (entries : List Item) (entry : Item) (found : List Found) (its : Role)
    → found ≡ extras role v at entries → its ≡ role entry.name (v (child at entry.name)) → found ++ extra_at its (child at entry.name) ≡ extras role v at (entries ++ entry ∷ [])
unfolding extras extra_of
more_extras role v at entries entry found its so_far is =
    ap (λ (xs : List Found). xs ++ extra_at its (child at entry.name)) so_far
    ∙ ap (λ r. extras role v at entries ++ extra_at r (child at entry.name)) is
    ∙ flat_map_more (extra_of role v at entries) [] entries entry
