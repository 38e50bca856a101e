-- The stage is made ready, and perhaps a journal written, before items are placed: neither vault changes, and what the calls behind tell
-- holds of the whole.
use Rattle.std.proofs.Common.{◌≡◌, List, [], Option, Ok, IfErr, Contains, sym, subst}
use Rattle.folder_spec.specs.Event.{Told}
use Rattle.folder_spec.specs.Region.{apart_from_both}
use Rattle.folder_spec.specs.Path.{Path}
use Rattle.folder_spec.specs.Seen.{IsSeen, under}
use Rattle.folder_spec.specs.View.{View}
use Rattle.folder_spec.specs.Apart.{AreSeparate}
use Rattle.migration_spec.proofs.Tellings.{AreSound, seen_then}
use Rattle.plain_tree.specs.declared.name_map.NameMap.{NameMap}
use Rattle.port_model.specs.Draws.{ByteStream, Draws}
use Rattle.vault_spec.specs.Opened.{OpenedVault}
use Rattle.vault_spec.specs.Plan.{Planned}
use Rattle.vault_spec.specs.Staying.{LoadsAlike}
use Rattle.vault_spec.specs.Tidy.{StaysTidy}
use Rattle.vault_spec.specs.Vault.{format_of}
use Rattle.work_folder.specs.Looking as work
use Rattle.work_folder.specs.Changing.{ChangesAt}
use Rattle.work_folder.specs.Entering.{IsLeftOver, IsWorkOrStage}
use Rattle.move_journal.specs.Writing.{Writes}
use Rattle.move_journal.specs.declared.journal.Journal.{Journal}
use Rattle.migrate_core.proofs.Causing.{moves_pass}
use Rattle.migrate_core.proofs.Copyings.{copied_as}
use Rattle.migrate_core.proofs.Limits.{good_copies}
use Rattle.migrate_core.proofs.Movings.{mapped_walk, moves_to, source_stays, turned_over}
use Rattle.migrate_core.proofs.Stopping.{if_stops_before, seen_stops}
use Rattle.migrate_core.proofs.Sharing.{filled_as, shares_before}
use Rattle.migrate_core.proofs.WorkFolders.{begun_moves}
use Rattle.migrate_core.proofs.Writings.{Compose, Kept}
use Rattle.migrate_core.proofs.SourcePlaces.{kept_by, lacked_is, source_beside_at}
use Rattle.migrate_core.specs.Causes.{Answer, Moves, StopsSeen, Unless}
use Rattle.migrate_core.specs.Copying.{CopiesAll, HasCopied, BothHaveOwnFolders, MayBegin, StayGood}
use Rattle.migrate_core.specs.Moving.{MovesOnly}
use Rattle.migrate_core.specs.Sharing.{IsFilled, SharesFrom}
use Rattle.migrate_core.specs.Sides.{AreItemsToMove}
use Rattle.migrate_core.specs.Written.{lacked}

-- what is made ready moves nothing of either vault
pub record IsReadied (from to through : Path) (t u : Option Told) : Type 0 where
  pub separate : AreSeparate from to through
  pub sound : AreSound t
  pub moves : MovesOnly through to t u
  pub away : MovesOnly through from t u

-- the work folder is entered, and the journal written
pub begun_readied : (through from to : Path) (j : Journal) (t u w : Option Told) → AreSeparate from to through → AreSound t → ChangesAt through (IsWorkOrStage through) (IsLeftOver through) t u → Writes through j u w
    → IsReadied from to through t w
begun_readied through from to j t u w separate sound enters writes =
    record { separate = separate; sound = sound; moves = begun_moves through to j t u w separate.target enters writes; away = begun_moves through from j t u w separate.source enters writes }

module _ (rule : NameMap) (from to : OpenedVault) (through : Path) (own mapped there : List Planned) (t u : Option Told) (readied : IsReadied from.root to.root through t u) where
  pub source_is : (v w : View) → IsSeen t v → IsSeen u w → under from.root w ≡ under from.root v
  source_is = source_stays from.root to.root through t u readied.separate readied.sound readied.moves

  pub target_is : (v w : View) → IsSeen t v → IsSeen u w → under to.root w ≡ under to.root v
  target_is = source_stays to.root from.root through t u (turned_over from.root to.root through readied.separate) readied.sound readied.away

  -- what shares its place then does so from the start
  pub readied_shares : (w : Option Told) (s s' : Option ByteStream) → Compose → Draws s s [] → SharesFrom (IsFilled rule from to there) to through mapped s s' u w → SharesFrom (IsFilled rule from to there) to through mapped s s' t w
  readied_shares w s s' composed none =
      shares_before (IsFilled rule from to there) (IsFilled rule from to there) to through mapped mapped s s s' t u w (seen_then _ t u readied.moves)
      (λ v x is_v is_x. filled_as rule from to there v x (source_is v x is_v is_x) (target_is v x is_v is_x))
      (λ v x is_v is_x filled. (
        subst (LoadsAlike (under to.root v)) (sym (target_is v x is_v is_x)) (λ pass vault opens. opens),
        subst (StaysTidy (format_of to.vault) (under to.root v)) (sym (target_is v x is_v is_x)) (λ at is. is),
      )) (λ item among. among) composed (λ v is. ([], none))

  -- the files of some of the items stay
  pub items_kept : (items : List Planned) → ((item : Planned) → Contains items item → Contains mapped item) → AreItemsToMove rule t from own mapped → Kept items t u
  items_kept items are walked =
      kept_by (apart_from_both through to.root) from.root items t u readied.sound
      (λ item among. source_beside_at rule from to.root through mapped t item readied.separate (mapped_walk rule t from own mapped walked) (are item among)) (moves_to through (apart_from_both through to.root) to.root t u readied.moves)

  pub lacked_kept : AreItemsToMove rule t from own mapped → Kept (lacked there mapped) t u
  lacked_kept = items_kept (lacked there mapped) (lacked_is there mapped)

  -- the whole stops as they do
  pub readied_stops : {Y : Type 0} (readies : work.Looked → Type 0) (v : View) (answer : Answer Y) → AreItemsToMove rule t from own mapped → MayBegin rule from to there t → IsSeen t v → readies (Ok tt)
      → IfErr answer (StopsSeen (HasCopied rule from to there) u from mapped) → Unless answer (Moves readies from to v mapped answer)
  readied_stops readies v answer walked copying seen ready stops =
      moves_pass readies from to v mapped answer ready
      (seen_stops answer (BothHaveOwnFolders from to) from mapped t v seen (if_stops_before answer (HasCopied rule from to there) (BothHaveOwnFolders from to) from mapped t u (items_kept mapped (λ item among. among) walked)
      (λ x w is_x is_w own. copied_as rule from to there x w (source_is x w is_x is_w) (target_is x w is_x is_w) (copying x is_x own)) stops))

  -- and leaves both vaults in good order
  pub readied_good : (w : Option Told) → MayBegin rule from to there t → CopiesAll rule from to there mapped u w → StayGood from to t w
  readied_good w copying = good_copies rule from to there mapped t u w copying (seen_then _ t u readied.moves) source_is target_is
