-- That calls move nothing but what they may, one after the other; and what stays with that.
use Rattle.std.proofs.Common.{◌≡◌, Bool, not, List, ◌++◌, Option, Some, None, Result, refl, sym, ap, ◌∙◌, subst, IsTrue, is_none}
use Rattle.std.proofs.Math.Path.{fun_ext}
use Rattle.folder_spec.specs.declared.FolderFault.{FolderFault}
use Rattle.folder_spec.specs.Path.{Path, below}
use Rattle.folder_spec.specs.State.{State, IsSound}
use Rattle.folder_spec.specs.Event.{Settle, Told, FromTo, Changes}
use Rattle.folder_spec.specs.Moments.{Went}
use Rattle.folder_spec.specs.Region.{IsAsBefore, apart_from, apart_from_both}
use Rattle.folder_spec.specs.Seen.{IsSeen, seen, under, ShowsFile}
use Rattle.folder_spec.specs.View.{View}
use Rattle.folder_spec.proofs.Moments.{went_to}
use Rattle.folder_spec.proofs.Paths.{below-apart}
use Rattle.folder_spec.proofs.Regions.{seen_as_before}
use Rattle.folder_spec.proofs.Tellings.{from_to_more}
use Rattle.migration_sides.specs.Sides.{IsWalked}
use Rattle.folder_spec.specs.Apart.{AreSeparate}
use Rattle.migration_spec.proofs.Kept.{not_staged, turned, beside_of}
use Rattle.plain_tree.specs.declared.name_map.NameMap.{NameMap}
use Rattle.vault_read.specs.OwnFolders.{HasOwnFolders}
use Rattle.vault_spec.specs.Opened.{OpenedVault}
use Rattle.vault_spec.specs.Findings.{IsClean}
use Rattle.vault_spec.specs.Plan.{Planned}
use Rattle.vault_spec.specs.Vault.{format_of}
use Rattle.vault_walk.specs.Surveyed.{IsPlanOf}
use Rattle.item_making.specs.Making.{is_apart, is_staged}
use Rattle.migrate_core.specs.Moving.{OnlyBrings, MovesBeside, MovesOnly}
use Rattle.migrate_core.specs.Sides.{AreItemsToMove, IsMappedWalk}
use Rattle.migration_spec.proofs.Staying.{Kind, stays_more, stays_on, stays_same, stays_settled}
use Rattle.migration_spec.proofs.Tellings.{AreSound}
use Rattle.std.proofs.lemmas.Bool.{and_from}

-- ---- one after the other

pub moves_nowhere : (work : Path) (region : Path → Bool) (root : Path) (t u : Option Told) → u ≡ t → MovesBeside region work root t u
moves_nowhere work region root = stays_same region (λ s0 s e. OnlyBrings work root s e.call)

pub moves_on : (work : Path) (region : Path → Bool) (root : Path) (t u w : Option Told) → MovesBeside region work root t u → MovesBeside region work root u w → MovesBeside region work root t w
moves_on work region root t u w =
    let Q : Kind = λ s0 s e. OnlyBrings work root s e.call in
    stays_on region region Q Q t u w (λ q inside. inside) (λ s0 s1 s e is. is)

-- in a smaller region
pub moves_within : (work : Path) (region within : Path → Bool) (root : Path) (t u : Option Told) → ((q : Path) → IsTrue (region q) → IsTrue (within q)) → MovesBeside within work root t u → MovesBeside region work root t u
moves_within work region within root t u inside =
    let Q : Kind = λ s0 s e. OnlyBrings work root s e.call in
    stays_more region within Q Q t u inside (λ s0 s e is. is)

-- in the end the region is as it was
pub moves_to : (work : Path) (region : Path → Bool) (root : Path) (t u : Option Told) → MovesBeside region work root t u → FromTo (λ a b. IsAsBefore region a.state b.state) t u
moves_to work region root t u moves =
    from_to_more (λ a b. Went (IsAsBefore region a.state) (λ s e. OnlyBrings work root s e.call) a b) (λ a b. IsAsBefore region a.state b.state) t u
    (λ a b is went. went_to (IsAsBefore region a.state) (λ s e. OnlyBrings work root s e.call) a b went) moves

-- a settle moves nothing
pub settle_moves : (work : Path) (region : Path → Bool) (root : Path) (t u : Option Told) (result : Result (Unit {0}) FolderFault) → Changes Settle t u result → MovesBeside region work root t u
settle_moves work region root t u result = stays_settled region (λ s0 s e. OnlyBrings work root s e.call) t u result (λ s outcome. tt)

-- ---- the regions

-- what begins with neither is apart
pub apart_of : (work root q : Path) → below work q ≡ None → below root q ≡ None → IsTrue (is_apart work root q)
apart_of work root q one other = and_from (not (is_staged work q)) (apart_from root q) (ap not (not_staged work q one)) (ap is_none other)

-- the source is apart from the work folder and from the target
module _ (from to through rest : Path) (separate : AreSeparate from to through) where
  pub source_not_in_work : below through (from ++ rest) ≡ None
  source_not_in_work = below-apart through from rest separate.source.other separate.source.one

  pub source_not_in_target : below to (from ++ rest) ≡ None
  source_not_in_target = below-apart to from rest separate.vaults.other separate.vaults.one

  pub source_apart : IsTrue (is_apart through to (from ++ rest))
  source_apart = apart_of through to (from ++ rest) source_not_in_work source_not_in_target

  pub source_beside : IsTrue (apart_from_both through to (from ++ rest))
  source_beside = beside_of through to (from ++ rest) source_not_in_work source_not_in_target

-- and so is the target from the source
pub turned_over : (from to through : Path) → AreSeparate from to through → AreSeparate to from through
turned_over from to through separate = record { vaults = turned separate.vaults; source = separate.target; target = separate.source }

-- ---- a walk

-- what is seen under a root that is as before
pub under_stays : (region : Path → Bool) (root : Path) (a b : State) → IsSound a → ((rest : Path) → IsTrue (region (root ++ rest))) → IsAsBefore region a b → under root (seen b) ≡ under root (seen a)
under_stays region root a b sound inside stayed = fun_ext (λ rest. seen_as_before region a b sound stayed (root ++ rest) (inside rest))

-- of a folder that tells its state
pub seen_stays : (region : Path → Bool) (root : Path) (t u : Option Told) → AreSound t → ((rest : Path) → IsTrue (region (root ++ rest))) → FromTo (λ a b. IsAsBefore region a.state b.state) t u
    → (v w : View) → IsSeen t v → IsSeen u w → under root w ≡ under root v
seen_stays region root (Some a) (Some b) sound inside stayed v w is_v is_w = ap (under root) is_w ∙ under_stays region root a.state b.state (sound a refl) inside stayed ∙ sym (ap (under root) is_v)
seen_stays region root None u sound inside stayed v w is_v is_w = absurd is_v
seen_stays region root (Some a) None sound inside stayed v w is_v is_w = absurd is_w

-- so it is of the source of calls that move something only in the work folder or the target
pub source_stays : (from to through : Path) (t u : Option Told) → AreSeparate from to through → AreSound t → MovesOnly through to t u → (v w : View) → IsSeen t v → IsSeen u w → under from w ≡ under from v
source_stays from to through t u separate sound moves =
    seen_stays (apart_from_both through to) from t u sound (λ rest. source_beside from to through rest separate) (moves_to through (apart_from_both through to) to t u moves)

-- a walk tells as much of a vault that is as before
pub walked_stays : (region : Path → Bool) (from : OpenedVault) (items : List Planned) (t u : Option Told) → ((rest : Path) → IsTrue (region (from.root ++ rest))) → AreSound t
    → FromTo (λ a b. IsAsBefore region a.state b.state) t u → IsWalked t from items → IsWalked u from items
walked_stays region from items (Some a) (Some b) inside sound stayed walked = record {
  clean = λ v is. subst (λ w. IsClean (format_of from.vault) (under from.root w)) (sym is) (subst (IsClean (format_of from.vault)) (sym same) (walked.clean (seen a.state) refl));
  ordered = λ v is. walked.ordered (seen a.state) refl;
  files = λ v is item among file.
      let at = walked.behind item among in
      let there : ShowsFile (seen a.state) item.at = walked.files (seen a.state) refl item among file in
      (there.0, ap (λ (w : View). w item.at) is ∙ seen_as_before region a.state b.state (sound a refl) stayed item.at (subst (λ p. IsTrue (region p)) (sym at.1) (inside at.0)) ∙ there.1);
  behind = walked.behind;
  size = walked.size;
  plan = λ v is. subst (λ w. HasOwnFolders from.vault (under from.root w) → IsPlanOf from.root (format_of from.vault) (under from.root w) items) (sym is)
      (subst (λ u. HasOwnFolders from.vault u → IsPlanOf from.root (format_of from.vault) u items) (sym same) (walked.plan (seen a.state) refl));
}
  where
    same : under from.root (seen b.state) ≡ under from.root (seen a.state)
    same = under_stays region from.root a.state b.state (sound a refl) inside stayed
walked_stays region from items None None inside sound stayed walked = walked
walked_stays region from items None (Some b) inside sound stayed walked = absurd stayed
walked_stays region from items (Some a) None inside sound stayed walked = absurd stayed

-- and so it does at the mapped paths
pub mapped_stays : (region : Path → Bool) (rule : NameMap) (from : OpenedVault) (items : List Planned) (t u : Option Told) → ((rest : Path) → IsTrue (region (from.root ++ rest))) → AreSound t
    → FromTo (λ a b. IsAsBefore region a.state b.state) t u → IsMappedWalk rule t from items → IsMappedWalk rule u from items
mapped_stays region rule from items t u inside sound stayed walked = record { own = walked.own; walked = walked_stays region from walked.own t u inside sound stayed walked.walked; mapped = walked.mapped }

-- so does one of the source while items are placed
pub mapped_stay : (rule : NameMap) (from : OpenedVault) (to through : Path) (items : List Planned) (t u : Option Told) → AreSeparate from.root to through → AreSound t → MovesBeside (is_apart through to) through to t u → IsMappedWalk rule t from items
    → IsMappedWalk rule u from items
mapped_stay rule from to through items t u separate sound moves =
    mapped_stays (is_apart through to) rule from items t u (λ rest. source_apart from.root to through rest separate) sound (moves_to through (is_apart through to) to t u moves)

pub moving_stays : (region : Path → Bool) (rule : NameMap) (from : OpenedVault) (own mapped : List Planned) (t u : Option Told) → ((rest : Path) → IsTrue (region (from.root ++ rest))) → AreSound t
    → FromTo (λ a b. IsAsBefore region a.state b.state) t u → AreItemsToMove rule t from own mapped → AreItemsToMove rule u from own mapped
moving_stays region rule from own mapped t u inside sound stayed items = record { walked = walked_stays region from own t u inside sound stayed items.walked; same = items.same }

pub items_stay : (rule : NameMap) (from : OpenedVault) (to through : Path) (own mapped : List Planned) (t u : Option Told) → AreSeparate from.root to through → AreSound t → MovesOnly through to t u → AreItemsToMove rule t from own mapped
    → AreItemsToMove rule u from own mapped
items_stay rule from to through own mapped t u separate sound moves =
    moving_stays (apart_from_both through to) rule from own mapped t u (λ rest. source_beside from.root to through rest separate) sound (moves_to through (apart_from_both through to) to t u moves)

-- the items to move are such a walk
pub mapped_walk : (rule : NameMap) (t : Option Told) (from : OpenedVault) (own mapped : List Planned) → AreItemsToMove rule t from own mapped → IsMappedWalk rule t from mapped
mapped_walk rule t from own mapped items = record { own = own; walked = items.walked; mapped = items.same }
