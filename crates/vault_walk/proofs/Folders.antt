-- Listings of folders behind a root. Below what is no folder nothing stands.
use Rattle.std.proofs.Common.{◌≡◌, ◌≢◌, ◌++◌, ◌∷◌, [], ℕ, List, Option, Some, None, refl, sym, ap, ◌∙◌, append_assoc, arith}
use Rattle.folder_spec.specs.Event.{Told}
use Rattle.folder_spec.specs.Listing.{Item, IsListing}
use Rattle.folder_spec.specs.Path.{Path, child}
use Rattle.folder_spec.specs.Seen.{IfSeen, under}
use Rattle.folder_spec.specs.State.{IsSound, present}
use Rattle.folder_spec.specs.declared.Spot.{Spot}
use Rattle.folder_spec.specs.declared.Spot.TheVariants.{Nothing, Directory}
use Rattle.folder_spec.specs.View.{Found, NoEntry, Folder, View, found, kind_found}
use Rattle.folder_spec.specs.declared.Kind.{Kind}
use Rattle.folder_spec.specs.declared.Kind.TheVariants.{Missing, Dir}
use Rattle.folder_spec.proofs.Tables.{present_is_table}
use Rattle.vault_spec.specs.Alike.{HasFolders}

folder_of_spot : (bytes : ℕ → List ℕ) (x : Spot) → x ≡ Directory → found bytes x ≡ Folder
folder_of_spot bytes x e = ap (found bytes) e

none_of_spot : (bytes : ℕ → List ℕ) (x : Spot) → found bytes x ≢ NoEntry → x ≢ Nothing
none_of_spot bytes x there e = there (ap (found bytes) e)

-- in what a folder shows, whatever stands has a folder above it
pub seen_folders : (told : Option Told) → ((a : Told) → told ≡ Some a → IsSound a.state) → IfSeen told (λ v. HasFolders v)
seen_folders None sound v is p a there = absurd is
seen_folders (Some a) sound v is p b there =
    let s = a.state in
    let bytes = λ (n : ℕ). (s.nodes n).now in
    ap (λ (w : View). w p) is
    ∙ folder_of_spot bytes (present s p) (((sound a refl).tables (present s) (present_is_table s)).parents p b
    (none_of_spot bytes (present s (child p b)) (λ e. there (ap (λ (w : View). w (child p b)) is ∙ e))))

pub folders_under : (root : Path) (v : View) → HasFolders v → HasFolders (under root v)
folders_under root v folders p a there = folders (root ++ p) a (λ e. there (ap v (sym (append_assoc root p (a ∷ []))) ∙ e))

-- a listing behind a root
pub listing_under : (root at : Path) (v : View) (items : List Item) → IsListing v (root ++ at) items → IsListing (under root v) at items
listing_under root at v items l = record {
  ordered = l.ordered;
  entries = λ x. (
    λ there. let e = (l.entries x).0 there in (e.0, ap (λ p. kind_found (v p)) (sym (append_assoc root at (x.name ∷ []))) ∙ e.1),
    λ is. (l.entries x).1 (is.0, ap (λ p. kind_found (v p)) (append_assoc root at (x.name ∷ [])) ∙ is.1),
  );
}

entry_or_none : (x : Found) → kind_found x ≢ Missing → x ≢ NoEntry
entry_or_none x e none = e (ap kind_found none)

-- where no folder stands nothing is below
pub no_listing : (v : View) (at : Path) → HasFolders v → v at ≢ Folder → IsListing v at []
no_listing v at folders none = record {
  ordered = λ i j d less within. absurd (omega (arith, within));
  entries = λ x. (
    λ there. absurd (omega (arith, there.1)),
    λ is. absurd (none (folders at x.name (entry_or_none (v (child at x.name)) (λ e. is.0 (sym is.1 ∙ e))))),
  );
}

pub not_folder : (x : Found) (kind : Kind) → kind ≡ kind_found x → kind ≢ Dir → x ≢ Folder
not_folder x kind is other e = other (is ∙ ap kind_found e)
