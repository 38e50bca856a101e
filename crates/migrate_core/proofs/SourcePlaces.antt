-- Where the files of the source's items stand, while others are placed.
use Rattle.std.proofs.Common.{◌≡◌, ◌+◌, ◌<◌, ℕ, zero, suc, Bool, true, false, not, cond, List, [], ◌∷◌, ◌++◌, length, take, drop, get_or, Contains, Option, Some, None, IsTrue, refl, sym, ap, ◌∙◌, subst, arith}
use Rattle.std.proofs.lemmas.List.{take_more, take-append-drop}
use Rattle.folder_spec.specs.Event.{Told, FromTo}
use Rattle.folder_spec.proofs.Regions.{seen_as_before}
use Rattle.folder_spec.specs.Path.{Path}
use Rattle.folder_spec.specs.Region.{IsAsBefore, apart_from_both}
use Rattle.plain_tree.specs.declared.name_map.NameMap.{NameMap}
use Rattle.vault_spec.specs.Opened.{OpenedVault}
use Rattle.vault_spec.specs.Plan.{Planned}
use Rattle.item_making.specs.Making.{is_apart}
use Rattle.migrate_core.proofs.Movings.{source_apart, source_beside, moves_to}
use Rattle.migrate_core.proofs.Planned.{mapped_behind}
use Rattle.folder_spec.specs.Apart.{AreSeparate}
use Rattle.migrate_core.specs.Moved.{is_there}
use Rattle.migrate_core.specs.Sides.{IsMappedWalk}
use Rattle.migrate_core.specs.Written.{lacked}
use Rattle.migration_spec.proofs.Tellings.{AreSound}
use Rattle.migrate_core.specs.Moving.{MovesBeside}
use Rattle.migrate_core.proofs.Writings.{Kept, lacked_more}

-- ---- where the source's files stand

pub kept_by : (region : Path → Bool) (root : Path) (items : List Planned) (t u : Option Told) → AreSound t → ((item : Planned) → Contains items item → IsTrue (region item.at)) → FromTo (λ a b. IsAsBefore region a.state b.state) t u
    → Kept items t u
kept_by region root items (Some a) (Some b) sound inside stayed = λ item among. seen_as_before region a.state b.state (sound a refl) stayed item.at (inside item among)
kept_by region root items None None sound inside stayed = tt
kept_by region root items None (Some b) sound inside stayed = absurd stayed
kept_by region root items (Some a) None sound inside stayed = absurd stayed

-- of the items that are lacked each is one of these
pub lacked_is : (there xs : List Planned) (item : Planned) → Contains (lacked there xs) item → Contains xs item
lacked_is there [] item among = among
lacked_is there (x ∷ xs) item among = by (is_there there x) among (lacked_is there xs item)
  where
    by : (b : Bool) → Contains (cond (not b) (x ∷ lacked there xs) (lacked there xs)) item → (Contains (lacked there xs) item → Contains xs item) → Contains (x ∷ xs) item
    by true c later = let d = later c in (suc d.0, omega (arith, d.1), d.2)
    by false (zero, lt, is) later = (zero, omega arith, is)
    by false (suc k, lt, is) later = let d = later (k, omega (arith, lt), is) in (suc d.0, omega (arith, d.1), d.2)

-- those of the front, and the next one
pub lacked_next : (there xs : List Planned) (k : ℕ) (x : Planned) → k < length xs → x ≡ get_or xs k x → lacked there (take k xs) ++ lacked there (x ∷ []) ≡ lacked there (take (k + 1) xs)
lacked_next there xs k x inside at =
    sym (lacked_more there (take k xs) (x ∷ [])) ∙ ap (λ (z : Planned). lacked there (take k xs ++ z ∷ [])) at ∙ ap (lacked there) (sym (take_more xs k x inside))

-- and all that follow
pub lacked_split : (there xs : List Planned) (k : ℕ) → lacked there (take k xs) ++ lacked there (drop k xs) ≡ lacked there xs
lacked_split there xs k = sym (lacked_more there (take k xs) (drop k xs)) ∙ ap (lacked there) (take-append-drop k xs)

-- an item of the source stands in each region of all below its root
pub source_in : (region : Path → Bool) (rule : NameMap) (from : OpenedVault) (items : List Planned) (t : Option Told) (item : Planned) → ((rest : Path) → IsTrue (region (from.root ++ rest))) → IsMappedWalk rule t from items → Contains items item
    → IsTrue (region item.at)
source_in region rule from items t item inside walked among =
    let behind = mapped_behind rule from items t walked item among in
    subst (λ at. IsTrue (region at)) (sym behind.1) (inside behind.0)

-- so it stands apart from what is staged and from the target
pub source_place : (rule : NameMap) (from : OpenedVault) (root work : Path) (items : List Planned) (t : Option Told) (item : Planned) → AreSeparate from.root root work → IsMappedWalk rule t from items → Contains items item
    → IsTrue (is_apart work root item.at)
source_place rule from root work items t item separate = source_in (is_apart work root) rule from items t item (λ rest. source_apart from.root root work rest separate)

pub source_beside_at : (rule : NameMap) (from : OpenedVault) (root work : Path) (items : List Planned) (t : Option Told) (item : Planned) → AreSeparate from.root root work → IsMappedWalk rule t from items → Contains items item
    → IsTrue (apart_from_both work root item.at)
source_beside_at rule from root work items t item separate = source_in (apart_from_both work root) rule from items t item (λ rest. source_beside from.root root work rest separate)

pub next_among : (items : List Planned) (k : ℕ) (item : Planned) → k < length items → item ≡ get_or items k item → (one : Planned) → Contains (item ∷ []) one → Contains items one
next_among items k item inside at one (zero, lt, is) = subst (Contains items) is (k, inside, sym at)
next_among items k item inside at one (suc j, lt, is) = absurd (omega (arith, lt))

-- the file of the next item stays while those before are placed
pub next_kept : (rule : NameMap) (from : OpenedVault) (root work : Path) (items : List Planned) (k : ℕ) (item : Planned) (some : List Planned) (t u : Option Told) → AreSeparate from.root root work → AreSound t → IsMappedWalk rule t from items
    → k < length items → item ≡ get_or items k item → ((one : Planned) → Contains some one → Contains (item ∷ []) one) → MovesBeside (is_apart work root) work root t u → Kept some t u
next_kept rule from root work items k item some t u separate sound walked inside at are moves =
    kept_by (is_apart work root) from.root some t u sound (λ one among. source_place rule from root work items t one separate walked (next_among items k item inside at one (are one among))) (moves_to work (is_apart work root) root t u moves)
