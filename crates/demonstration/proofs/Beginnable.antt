-- How a migration of the demonstration stops, by what is seen when it begins.
use Rattle.std.proofs.Common.{◌≡◌, ◌≢◌, ℕ, Option, Some, None, Result, Ok, Err, IfErr, IfOk, refl, sym, subst}
use Rattle.demo_core.specs.Making.{phrase}
use Rattle.plain_tree.specs.declared.name_map.NameMap.TheVariants.{Same}
use Rattle.folder_spec.specs.Event.{Told}
use Rattle.folder_spec.specs.Path.{Path}
use Rattle.folder_spec.specs.Region.{IsAsBefore, apart_from_both}
use Rattle.folder_spec.specs.Seen.{IfSeen, seen, under}
use Rattle.folder_spec.specs.State.{IsSound}
use Rattle.folder_spec.specs.View.{View}
use Rattle.migrate_core.specs.Completing.{CanBegin, IsOfChance}
use Rattle.migrate_core.specs.Faults.{Blamed, is_of_begin}
use Rattle.migrate_core.specs.Limits.{HasSmallContents, IsOfLimit, PassesInTree, PassesLimit}
use Rattle.migration_spec.specs.Guard.{tree_at, AreOpenedBy, Migration}
use Rattle.migrate_core.specs.Moving.{MovesOnly, OnlyBrings}
use Rattle.migrate_core.specs.Sharing.{IsOfTaken, SharesInTree}
use Rattle.migrate_core.specs.Sides.{IsAsked}
use Rattle.migrate_core.specs.Written.{MayWriteTree}
use Rattle.migrate_core.specs.declared.fault.MoveFault.{MoveFault}
use Rattle.migrate_core.specs.declared.fault.MoveFault.TheVariants.{Match as Matching}
use Rattle.migrate_core.specs.declared.placing.Done.{Done}
use Rattle.migration_sides.specs.Sides.{opened_in}
use Rattle.port_model.specs.Counts.{CountRose}
use Rattle.port_model.specs.Draws.{ByteStream}
use Rattle.tree_match.specs.declared.answer.MatchFault.TheVariants as match
use Rattle.vault_read.specs.Laws.{HaveOneAnswer}
use Rattle.vault_read.specs.OwnFolders.{HasOwnFolders}
use Rattle.vault_spec.specs.Opened.{OpenedVault}
use Rattle.vault_faults.specs.declared.fault.Limit.TheVariants as limit
use Rattle.vault_spec.specs.Vault.{IsVault}
use Rattle.demonstration.specs.Demo.{Chances, EndsSo, EndsWork, IsStatus, chances, chances_by}
use Rattle.command_answers.specs.declared.answer.Answer.{Answer}
use Rattle.demonstration.specs.DemoSteps.{CanCarry, HoldsWell, Sees, kind_from}
use Rattle.demonstration.specs.DemoTrees.{moving_folder, source_of, target_of}
use Rattle.demonstration.specs.declared.leading.Leg.{Leg}
use Rattle.demo_core.proofs.Shared.{goes_by}
use Rattle.demo_core.proofs.Standing.{same_vault}
use Rattle.demonstration.proofs.DemoDraws.{moving_zeros}
use Rattle.demonstration.proofs.DemonstratedTrees.{AreAlike, region_stays}
use Rattle.demonstration.proofs.Demonstrations.{IsPart, ends_more, so_more}
use Rattle.demonstration.proofs.GoodOrder.{own_of_good, well_alike}
use Rattle.demonstration.proofs.Legs.{apart_moving}
use Rattle.demonstration.proofs.SharedPlaces.{WalksStay, leg_shares}
use Rattle.demonstration.proofs.Movable.{AreMovable, PlansTell, are_opened, can_begin, is_asked, migration_of, small_contents}

abbrev pub SmallPass : Type 0
SmallPass = (from to : OpenedVault) (v : View) (at : Path) → HasOwnFolders from.vault (under from.root v) → HasSmallContents (tree_at from v) → ¬ PassesLimit Same from to v at

-- what `begin` says of the fault with which it stops, between these roots
pub record StopsAt (from to work : Path) (fault : MoveFault) (f f' r r' : ℕ) (s s' : Option ByteStream) (t t' : Option Told) : Type 0 where
  pub blamed : Blamed is_of_begin (CountRose f f') (CountRose r r') fault
  pub completes : (g : Migration) → IfSeen t (λ v. IsAsked g Same from to work → AreOpenedBy g phrase phrase v → CanBegin g v → IsOfChance fault)
  pub too_long : IsOfLimit (PassesInTree Same from to phrase phrase t t') fault
  pub written : IfSeen t (λ v. MayWriteTree {T = Done} (Err fault) Same from to work phrase phrase s s' t t')
  pub shared : IsOfTaken (SharesInTree Same from to work phrase phrase s s' t t') fault
  pub moves : MovesOnly work to t t'

abbrev pub Stops : Leg → MoveFault → (f f' r r' : ℕ) → Option ByteStream → Option ByteStream → Option Told → Option Told → Type 0
Stops leg = StopsAt (source_of leg) (target_of leg) moving_folder

pub stops_by : (leg : Leg) (from to work : Path) (fault : MoveFault) (f f' r r' : ℕ) (s s' : Option ByteStream) (t t' : Option Told) → from ≡ source_of leg → to ≡ target_of leg → work ≡ moving_folder
    → StopsAt from to work fault f f' r r' s s' t t' → Stops leg fault f f' r r' s s' t t'
stops_by leg from to work fault f f' r r' s s' t t' one other third stops =
    subst (λ p. StopsAt p (target_of leg) moving_folder fault f f' r r' s s' t t') one
    (subst (λ p. StopsAt from p moving_folder fault f f' r r' s s' t t') other (subst (λ p. StopsAt from to p fault f f' r r' s s' t t') third stops))

module _ (alike : AreAlike) (one : HaveOneAnswer) (laws : AreMovable) (plans : PlansTell) (walks : WalksStay) (passes : SmallPass) (leg : Leg) (fault : MoveFault) (f f' r r' : ℕ) (s s' : Option ByteStream) where
  -- no content passes the limit
  no_limit : (count : ℕ) (t t' : Option Told) → ((a : Told) → t ≡ Some a → IsSound a.state) → Stops leg fault f f' r r' s s' t t' → Sees (CanCarry leg) count t → (at : Path) → fault ≢ Matching (match.Limit (limit.Length at))
  no_limit count (Some a) (Some b) sound stops sees at is =
      passes (opened_in from tree.source) (opened_in (target_of leg) tree.target) (seen b.state) at
      (subst (λ x. HasOwnFolders x (under from (seen b.state))) vault (own_of_good there.items.vault from (seen b.state) there.good))
      (subst (λ x. HasSmallContents (tree_at (opened_in from x) (seen b.state))) vault (small_contents laws there.items.vault from sees.seed count (seen b.state) there.good there.items.items))
      (tree.passes (seen b.state) refl)
    where
      from : Path
      from = source_of leg

      can : CanCarry leg sees.seed count (seen a.state)
      can = subst (CanCarry leg sees.seed count) sees.seen sees.shown

      tree : PassesInTree Same from (target_of leg) phrase phrase (Some a) (Some b) at
      tree = subst (IsOfLimit (PassesInTree Same from (target_of leg) phrase phrase (Some a) (Some b))) is stops.too_long

      same : under from (seen b.state) ≡ under from (seen a.state)
      same = region_stays alike from (apart_from_both moving_folder (target_of leg)) (λ s e. OnlyBrings moving_folder (target_of leg) s e.call) a b (sound a refl) (apart_moving leg) stops.moves

      there : HoldsWell (kind_from leg) from sees.seed count (seen b.state)
      there = well_alike (kind_from leg) from sees.seed count (seen a.state) (seen b.state) same can.source

      vault : there.items.vault ≡ tree.source
      vault = same_vault one (under from (seen b.state)) there.items.vault tree.source there.items.opens (subst (λ u. IsVault u phrase tree.source) (sym same) (tree.opens_source (seen a.state) refl))
  no_limit count None t' sound stops sees at is = absurd sees.seen
  no_limit count (Some a) None sound stops sees at is = absurd stops.moves

  of_chance : (count : ℕ) (t t' : Option Told) → ((a : Told) → t ≡ Some a → IsSound a.state) → Stops leg fault f f' r r' s s' t t' → Sees (CanCarry leg) count t → IsOfChance fault
  of_chance count (Some a) t' sound stops sees =
      let can : CanCarry leg sees.seed count (seen a.state) = subst (CanCarry leg sees.seed count) sees.seen sees.shown in
      stops.completes (migration_of leg can.source.items.vault can.target.items.vault (seen a.state)) (seen a.state) refl (is_asked leg can.source.items.vault can.target.items.vault (seen a.state))
      (are_opened leg can.source.items.vault can.target.items.vault (seen a.state) can.source.items.opens can.target.items.opens)
      (can_begin laws leg sees.seed count a.state (sound a refl) sees.few can)
  of_chance count None t' sound stops sees = absurd sees.seen

  pub begun_ends : (count : ℕ) (t t' : Option Told) (status : ℕ) → ((a : Told) → t ≡ Some a → IsSound a.state) → Stops leg fault f f' r r' s s' t t' → EndsWork (chances_by fault) status
      → EndsWork (chances f f' r r' s s' t t' count (Sees (CanCarry leg) count t)) status
  begun_ends count t t' status sound stops ends = ends_more (chances_by fault) (chances f f' r r' s s' t t' count (Sees (CanCarry leg) count t)) (record {
    folder = stops.blamed.failed;
    random = stops.blamed.drawn;
    zeros = λ sees is. moving_zeros (source_of leg) (target_of leg) moving_folder phrase phrase s s' t t' sees.view sees.seen
        (subst (λ why. MayWriteTree {T = Done} (Err why) Same (source_of leg) (target_of leg) moving_folder phrase phrase s s' t t') is (stops.written sees.view sees.seen));
    shared = λ sees taken. (
      target_of leg,
      leg_shares one plans walks leg count s s' t t'
          (goes_by (λ s0 here. IsAsBefore (apart_from_both moving_folder (target_of leg)) s0 here) (λ s0 here e. OnlyBrings moving_folder (target_of leg) here e.call) t t' stops.moves)
          (subst (IsOfTaken (SharesInTree Same (source_of leg) (target_of leg) moving_folder phrase phrase s s' t t')) taken.1 stops.shared) sees,
    );
    known = λ sees. (of_chance count t t' sound stops sees, no_limit count t t' sound stops sees);
  }) status ends

-- ---- by the result

pub status_ends : (c c' : Chances) (result : Result ℕ Answer) → ((status : ℕ) → EndsWork c status → EndsWork c' status) → IfOk result (EndsWork c) → IfOk result (IsStatus c')
status_ends c c' (Ok status) more ends = λ stops. more status ends
status_ends c c' (Err answer) more ends = tt

pub status_more : (c c' : Chances) → IsPart c c' → (result : Result ℕ Answer) → IfOk result (IsStatus c) → IfOk result (IsStatus c')
status_more c c' part (Ok status) is = λ stops. ends_more c c' part status (is stops)
status_more c c' part (Err answer) is = tt

pub so_part : {T : Type 0} (c c' : Chances) → IsPart c c' → (result : Result T Answer) → IfErr result (EndsSo c) → IfErr result (EndsSo c')
so_part c c' part (Ok value) so = tt
so_part c c' part (Err answer) so = so_more c c' part answer so
