-- The places of a Cryptomator vault outside of its folders of entries.
use Rattle.std.proofs.Common.{◌≡◌, ◌≢◌, ◌⊎◌, ◌++◌, ◌∷◌, [], Bool, true, false, cond, ◌&&◌, ◌||◌, List, inl, inr, refl, sym, ap, ◌∙◌, subst}
use Rattle.std.specs.Prelude.{Contains}
use Rattle.std.specs.Str.{bytes_eq}
use Rattle.std.proofs.lemmas.List.Elements.{Contains-append_left, Contains-append_right, Contains-append_cases, Contains-push, Contains-push_cases}
use Rattle.std.proofs.lemmas.Slice.Eq.{bytes_eq-Decides}
use Rattle.folder_spec.specs.Listing.{Item, IsListing}
use Rattle.folder_spec.specs.Path.{Part, Path, child}
use Rattle.folder_spec.specs.View as view
use Rattle.folder_spec.specs.View.{NoEntry, Folder, FileOf, Special, View, kind_found}
use Rattle.folder_spec.specs.declared.Kind.TheVariants.{Missing}
use Rattle.vault_spec.specs.Alike.{HasFolders}
use Rattle.vault_spec.specs.Cryptomator.{cm_role, file_role, folder_role, is_base32_text, is_configuration, top}
use Rattle.vault_spec.specs.Format.{Expected, Shelf, ContentFolder, Extra}
use Rattle.vault_spec.specs.Format as spec
use Rattle.vault_spec.specs.RootFiles.{is_root_file}
use Rattle.vault_walk.specs.Apart.{HaveRoles, HoldAll, HoldInShelves, HoldRoles, IsLevelAt, IsPlaced}
use Rattle.vault_walk.specs.declared.apart.Level.TheVariants as level
use Rattle.vault_walk.specs.Names.{role_of}
use Rattle.vault_walk.specs.declared.apart.Place.{Place}
use Rattle.vault_walk.specs.declared.names.Role.{Role}
use Rattle.vault_walk.specs.declared.names.Role.TheVariants as role
use Rattle.vault_walk.proofs.Flats.{none_within}

-- each has its role in both
pub both_roles : (v : View) (one two : List Place) → HaveRoles v one → HaveRoles v two → HaveRoles v (one ++ two)
both_roles v one two first second place there = by_place (Contains-append_cases one two place there)
  where
    by_place : Contains one place ⊎ Contains two place → role_of place.role ≡ cm_role place.at (v place.at)
    by_place (inl there) = first place there
    by_place (inr there) = second place there

pub no_roles : (v : View) (places : List Place) → places ≡ [] → HaveRoles v places
no_roles v places e place there = absurd (none_within place (subst (λ ps. Contains ps place) e there))

pub one_role_more : (v : View) (places : List Place) (place : Place) → HaveRoles v places → role_of place.role ≡ cm_role place.at (v place.at) → HaveRoles v (places ++ place ∷ [])
one_role_more v places place roles its other there = by_place (Contains-push_cases places place other there)
  where
    by_place : Contains places other ⊎ (place ≡ other) → role_of other.role ≡ cm_role other.at (v other.at)
    by_place (inl old) = roles other old
    by_place (inr same) = subst (λ (p : Place). role_of p.role ≡ cm_role p.at (v p.at)) same its

pub placed_left : (one two : List Place) (at : Path) → IsPlaced one at → IsPlaced (one ++ two) at
placed_left one two at p = (p.0, Contains-append_left one two p.0 p.1, p.2)

pub placed_right : (one two : List Place) (at : Path) → IsPlaced two at → IsPlaced (one ++ two) at
placed_right one two at p = (p.0, Contains-append_right one two p.0 p.1, p.2)

-- only what stands has a role
folder_stands : (named : Bool) (its : spec.Role) (there : view.Found) → folder_role named its there ≢ Expected → there ≢ NoEntry
folder_stands named its there other none = other (ap (folder_role named its) none)

-- a role that is looked for by a test has passed it
tested : (b : Bool) (one : spec.Role) → cond b one Expected ≢ Expected → (b ≡ true) × (one ≢ Expected)
tested true one other = (refl, other)
tested false one other = absurd (other refl)

both_true : (a b : Bool) → (a && b) ≡ true → (a ≡ true) × (b ≡ true)
both_true true b e = (refl, e)
both_true false b e = cc

shelf_role : (its : Role) → role_of its ≡ Shelf → its ≡ role.Shelf
shelf_role role.Shelf e = refl
shelf_role role.Expected e = cc
shelf_role role.ContentFolder e = cc
shelf_role role.Extra e = cc

-- the path of a folder of content folders
no_shelf : (a b : Bool) (there : view.Found) → cond a (folder_role true Expected there) (file_role b there) ≡ Shelf → ⊥
no_shelf true b NoEntry e = cc
no_shelf true b Folder e = cc
no_shelf true b (FileOf bytes) e = cc
no_shelf true b Special e = cc
no_shelf false b NoEntry e = cc
no_shelf false b Folder e = cc
no_shelf false true (FileOf bytes) e = cc
no_shelf false false (FileOf bytes) e = cc
no_shelf false b Special e = cc

no_deeper : (a b : Bool) (there : view.Found) → cond a (folder_role b ContentFolder there) Expected ≡ Shelf → ⊥
no_deeper false b there e = cc
no_deeper true b NoEntry e = cc
no_deeper true true Folder e = cc
no_deeper true false Folder e = cc
no_deeper true b (FileOf bytes) e = cc
no_deeper true b Special e = cc

shelf_tests : (a b : Bool) (there : view.Found) → cond a (folder_role b Shelf there) Expected ≡ Shelf → (a ≡ true) × (b ≡ true)
shelf_tests false b there e = cc
shelf_tests true b NoEntry e = cc
shelf_tests true true Folder e = (refl, refl)
shelf_tests true false Folder e = cc
shelf_tests true b (FileOf bytes) e = cc
shelf_tests true b Special e = cc

pub shelf_level : (at : Path) (there : view.Found) → cm_role at there ≡ Shelf → IsLevelAt level.Shelf at
shelf_level [] there e = cc
shelf_level (name ∷ []) there e = absurd (no_shelf (bytes_eq name top) (is_configuration name || is_root_file name) there e)
shelf_level (up ∷ name ∷ []) there e =
    let both = shelf_tests (bytes_eq up top) (is_base32_text 2 name) there e in
    (name, both.1, ap (λ u. u ∷ name ∷ []) ((bytes_eq-Decides up top).0 both.0))
shelf_level (up ∷ shelf ∷ name ∷ []) there e = absurd (no_deeper (bytes_eq up top && is_base32_text 2 shelf) (is_base32_text 30 name) there e)
shelf_level (up ∷ shelf ∷ folder ∷ name ∷ rest) there e = cc

pub placed_more : (places : List Place) (place : Place) (entries : List Item) (entry : Item) (at : Path) → ((e : Item) → Contains entries e → IsPlaced places (child at e.name)) → place.at ≡ child at entry.name
    → (e : Item) → Contains (entries ++ entry ∷ []) e → IsPlaced (places ++ place ∷ []) (child at e.name)
placed_more places place entries entry at placed is e there = by_place (Contains-push_cases entries entry e there)
  where
    by_place : Contains entries e ⊎ (entry ≡ e) → IsPlaced (places ++ place ∷ []) (child at e.name)
    by_place (inl old) = placed_left places (place ∷ []) (child at e.name) (placed e old)
    by_place (inr same) = (place, Contains-push places place, is ∙ ap (λ (x : Item). child at x.name) same)

-- what stands in a folder is listed
pub placed_all : (v : View) (at : Path) (entries : List Item) (places : List Place) → IsListing v at entries → ((e : Item) → Contains entries e → IsPlaced places (child at e.name)) → HoldAll v at places
placed_all v at entries places listing placed name some =
    placed (record { name = name; kind = kind_found (v (child at name)) })
    ((listing.entries (record { name = name; kind = kind_found (v (child at name)) })).1 (kind_there (v (child at name)) some, refl))
  where
    kind_there : (there : view.Found) → there ≢ NoEntry → kind_found there ≢ Missing
    kind_there NoEntry some e = some refl
    kind_there Folder some e = cc
    kind_there (FileOf bytes) some e = cc
    kind_there Special some e = cc

pub more_shelves : (v : View) (shelves : List Place) (shelf : Place) (places more : List Place) → HoldInShelves v shelves places → (shelf.role ≡ role.Shelf → HoldAll v shelf.at more)
    → HoldInShelves v (shelves ++ shelf ∷ []) (places ++ more)
more_shelves v shelves shelf places more hold its other there is name some = by_place (Contains-push_cases shelves shelf other there)
  where
    by_place : Contains shelves other ⊎ (shelf ≡ other) → IsPlaced (places ++ more) (child other.at name)
    by_place (inl old) = placed_left places more (child other.at name) (hold other old is name some)
    by_place (inr same) =
        placed_right places more (child other.at name)
        (subst (λ (p : Place). p.role ≡ role.Shelf → HoldAll v p.at more) same its is name some)

module _ (v : View) (folders : HasFolders v) (roots tops shelved : List Place) (tops_roles : HaveRoles v tops) (in_root : HoldAll v [] roots) (in_top : HoldAll v (top ∷ []) tops)
    (in_shelves : HoldInShelves v tops shelved) where
  at_root : (name : Part) → cm_role (name ∷ []) (v (name ∷ [])) ≢ Expected → v (name ∷ []) ≢ NoEntry
  at_root name other none = other (ap (cm_role (name ∷ [])) none ∙ nothing (bytes_eq name top) (is_configuration name || is_root_file name))
    where
      nothing : (a b : Bool) → cond a (folder_role true Expected NoEntry) (file_role b NoEntry) ≡ Expected
      nothing true b = refl
      nothing false b = refl

  is_top : (up : Part) → bytes_eq up top ≡ true → up ≡ top
  is_top up e = (bytes_eq-Decides up top).0 e

  -- a folder of content folders is among those in `d`
  the_shelf : (shelf name : Part) → is_base32_text 2 shelf ≡ true → v (top ∷ shelf ∷ name ∷ []) ≢ NoEntry → IsPlaced shelved (top ∷ shelf ∷ name ∷ [])
  the_shelf shelf name text some =
      let folder : v (top ∷ shelf ∷ []) ≡ Folder = folders (top ∷ shelf ∷ []) name some in
      let p : IsPlaced tops (top ∷ shelf ∷ []) = in_top shelf (λ none. clash (sym folder ∙ none)) in
      let its : role_of p.0.role ≡ Shelf
      = tops_roles p.0 p.1 ∙ ap (λ q. cm_role q (v q)) p.2 ∙ ap (cm_role (top ∷ shelf ∷ [])) folder ∙ ap (λ b. cond b Shelf Extra) text in
      subst (IsPlaced shelved) (ap (λ q. child q name) p.2)
      (in_shelves p.0 p.1 (shelf_role p.0.role its) name (subst (λ q. v (child q name) ≢ NoEntry) (sym p.2) some))
    where
      clash : Folder ≡ NoEntry → ⊥
      clash e = cc

  has_role : (at : Path) → cm_role at (v at) ≢ Expected → IsPlaced (roots ++ tops ++ shelved) at
  has_role [] other = absurd (other refl)
  has_role (name ∷ []) other = placed_left (roots ++ tops) shelved (name ∷ []) (placed_left roots tops (name ∷ []) (in_root name (at_root name other)))
  has_role (up ∷ name ∷ []) other =
      let both = tested (bytes_eq up top) (folder_role (is_base32_text 2 name) Shelf (v (up ∷ name ∷ []))) other in
      let same : up ≡ top = is_top up both.0 in
      let some : v (up ∷ name ∷ []) ≢ NoEntry = folder_stands (is_base32_text 2 name) Shelf (v (up ∷ name ∷ [])) both.1 in
      subst (λ u. IsPlaced (roots ++ tops ++ shelved) (u ∷ name ∷ [])) (sym same)
      (placed_left (roots ++ tops) shelved (top ∷ name ∷ []) (placed_right roots tops (top ∷ name ∷ []) (in_top name (subst (λ u. v (u ∷ name ∷ []) ≢ NoEntry) same some))))
  has_role (up ∷ shelf ∷ name ∷ []) other =
      let both = tested (bytes_eq up top && is_base32_text 2 shelf) (folder_role (is_base32_text 30 name) ContentFolder (v (up ∷ shelf ∷ name ∷ []))) other in
      let tests = both_true (bytes_eq up top) (is_base32_text 2 shelf) both.0 in
      let same : up ≡ top = is_top up tests.0 in
      let some : v (up ∷ shelf ∷ name ∷ []) ≢ NoEntry = folder_stands (is_base32_text 30 name) ContentFolder (v (up ∷ shelf ∷ name ∷ [])) both.1 in
      subst (λ u. IsPlaced (roots ++ tops ++ shelved) (u ∷ shelf ∷ name ∷ [])) (sym same)
      (placed_right (roots ++ tops) shelved (top ∷ shelf ∷ name ∷ []) (the_shelf shelf name tests.1 (subst (λ u. v (u ∷ shelf ∷ name ∷ []) ≢ NoEntry) same some)))
  has_role (up ∷ shelf ∷ folder ∷ name ∷ rest) other = absurd (other refl)

  pub all_roles : HoldRoles v (roots ++ tops ++ shelved)
  all_roles at other = has_role at other
