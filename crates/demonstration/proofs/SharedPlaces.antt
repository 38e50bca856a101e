-- Where a migration of the demonstration stops at a taken place, one of its items has no place of its own.
use Rattle.std.proofs.Common.{◌≡◌, ◌≢◌, ◌<◌, ℕ, Bool, true, false, cond, List, Option, Some, None, IsTrue, refl, sym, ap, subst, ◌∙◌}
use Rattle.demo_core.specs.Demonstration.{content_of, is_directory, path_of}
use Rattle.demo_core.specs.Making.{phrase}
use Rattle.demo_core.specs.Sharing.{GoesOn, LacksOwnPlace, SharesPlace}
use Rattle.demo_core.specs.Tree.{HasItems, opens_as}
use Rattle.demo_core.proofs.Numbered.{number_at}
use Rattle.demo_core.proofs.Standing.{same_vault}
use Rattle.folder_spec.proofs.Moments.{went_nowhere}
use Rattle.folder_spec.specs.Event.{Told}
use Rattle.folder_spec.specs.Seen.{seen, under}
use Rattle.folder_spec.specs.View.{View}
use Rattle.migrate_core.specs.Sharing as moving
use Rattle.migrate_core.specs.Sharing.{IsMadeFor, OneOfSourceShares, SharesInTree}
use Rattle.migration_sides.specs.Sides.{opened_in}
use Rattle.plain_tree.specs.declared.NodeKind.{NodeKind}
use Rattle.plain_tree.specs.declared.NodeKind.TheVariants as node
use Rattle.plain_tree.specs.declared.name_map.NameMap.TheVariants.{Same}
use Rattle.port_model.specs.Draws.{ByteStream}
use Rattle.vault_spec.specs.PlanOf.{IsPlanOf, node_of}
use Rattle.tree_match.specs.Mapping.{IsMappedPlan}
use Rattle.tree_match.specs.Trees.{IsWalkOf, PlannedVault}
use Rattle.vault_read.specs.Laws.{HaveOneAnswer}
use Rattle.vault_read.specs.OwnFolders.{HasOwnFolders}
use Rattle.vault_spec.specs.Making.{NewItem, NewDirectory, NewFile}
use Rattle.vault_spec.specs.Opens as opens
use Rattle.vault_spec.specs.Opens.{Opened, NoItem, Tree, tree}
use Rattle.vault_spec.specs.Plan.{Planned}
use Rattle.vault_spec.specs.Tidy.{IsTidy}
use Rattle.vault_spec.specs.Vault.{IsVault, Vault, format_of}
use Rattle.demonstration.specs.DemoSteps.{CanCarry, Sees}
use Rattle.demonstration.specs.DemoTrees.{moving_folder, source_of, target_of}
use Rattle.demonstration.specs.declared.leading.Leg.{Leg}
use Rattle.demonstration.proofs.DemonstratedTrees.{no_root}
use Rattle.demonstration.proofs.GoodOrder.{own_of_good}
use Rattle.demonstration.proofs.Movable.{PlansTell}

-- by the rule that names stay, the mapped plan of a walk is that plan
abbrev pub WalksStay : Type 0
WalksStay = (v : View) (a : PlannedVault) (mapped : List Planned) → IsWalkOf v a → IsMappedPlan Same a.items mapped → mapped ≡ a.items

-- an item that the plan has opens, and as a directory where it is one
some_opens : (o : Opened) (kind : NodeKind) → node_of o ≡ Some kind → o ≢ NoItem
some_opens o kind is none = let never : None ≡ Some kind = ap node_of (sym none) ∙ is in cc never

directory_number : (seed number : ℕ) (o : Opened) → o ≡ opens_as seed number → node_of o ≡ Some node.Dir → IsTrue (is_directory number)
directory_number seed number o is dir = by (is_directory number) (ap node_of (sym is) ∙ dir)
  where
    by : (b : Bool) → node_of (cond b opens.Directory (opens.Content (content_of seed number))) ≡ Some node.Dir → IsTrue b
    by true same = refl
    by false same = cc same

made_directory : (kind : NodeKind) (item : NewItem) → IsMadeFor kind item → item ≡ NewDirectory → kind ≡ node.Dir
made_directory node.Dir item is same = refl
made_directory node.File item is same = let never : NewFile is.0 ≡ NewDirectory = sym is.1 ∙ same in cc never

module _ (one : HaveOneAnswer) (plans : PlansTell) (walks : WalksStay) (leg : Leg) (seed count : ℕ) (a : Told) (can : CanCarry leg seed count (seen a.state)) where
  lacks_place : (source target : Vault) → IsVault (under (source_of leg) (seen a.state)) phrase source → IsVault (under (target_of leg) (seen a.state)) phrase target → IsTidy (format_of target) (under (target_of leg) (seen a.state)) → (s s' : Option ByteStream) (t' : Option Told)
      → (x : OneOfSourceShares Same (opened_in (source_of leg) source) (opened_in (target_of leg) target) moving_folder s s' t' (seen a.state))
      → (number : ℕ) × (number < count) × LacksOwnPlace number (under (target_of leg) x.shares.moment) x.shares.drawn
  lacks_place source target opens_source opens_target tidy s s' t' x = (
    found.0,
    found.1,
    record {
      vault = target;
      opens = x.shares.loads phrase target opens_target;
      clean = shares.good.clean;
      tidy = λ at. shares.tidy at (tidy at);
      front = shares.front;
      name = shares.name;
      path = sym found.2 ∙ shares.is;
      dir = shares.dir;
      entered = shares.entered;
      free = shares.missing;
      item = shares.item;
      directory = λ is.
          directory_number seed found.0 (items_tree x.shares.item.path) (ap items_tree found.2 ∙ items.each found.0 found.1)
          (plan.nodes x.shares.item x.shares.among ∙ ap Some (made_directory x.shares.item.node shares.item shares.kind is));
      shared = shares.shares (tidy shares.place);
    },
  )
    where
      shares : moving.SharesPlace (opened_in (target_of leg) target) x.shares.item x.shares.drawn (seen a.state) x.shares.moment
      shares = x.shares.shares

      side : PlannedVault
      side = record { vault = source; root = source_of leg; items = x.items_are.own }

      items_tree : Tree
      items_tree = tree (format_of source) (under (source_of leg) (seen a.state))

      items : HasItems seed count (tree (format_of source) (under (source_of leg) (seen a.state)))
      items = subst (λ v. HasItems seed count (tree (format_of v) (under (source_of leg) (seen a.state))))
          (same_vault one (under (source_of leg) (seen a.state)) can.source.items.vault source can.source.items.opens opens_source) can.source.items.items

      plan : IsPlanOf (tree (format_of source) (under (source_of leg) (seen a.state))) x.items
      plan = subst (IsPlanOf items_tree) (sym (walks (seen a.state) side x.items x.items_are.are x.items_are.same)) (plans (seen a.state) side x.items_are.are)

      found : (number : ℕ) × (number < count) × (x.shares.item.path ≡ path_of number)
      found = number_at seed count (tree (format_of source) (under (source_of leg) (seen a.state))) items x.shares.item.path
          (λ root. no_root shares.front shares.name (sym shares.is ∙ root)) (some_opens (tree (format_of source) (under (source_of leg) (seen a.state)) x.shares.item.path) x.shares.item.node (plan.nodes x.shares.item x.shares.among))

  one_shares : (b : Told) → GoesOn (Some a) (Some b) → (s s' : Option ByteStream) → SharesInTree Same (source_of leg) (target_of leg) moving_folder phrase phrase s s' (Some a) (Some b) → SharesPlace (target_of leg) (Some a) (Some b) s s' count
  one_shares b goes s s' shares =
      let lacks = lacks_place shares.source shares.target (shares.opens_source (seen a.state) refl) (shares.opens_target (seen a.state) refl) tidy s s' (Some b) x in
      record {
        now = b;
        since = goes;
        until = went_nowhere (λ s. Unit {0}) (λ s e. Unit {0}) b tt;
        earlier = x.shares.earlier;
        drawn = x.shares.drawn;
        were_drawn = x.shares.were_drawn;
        number = lacks.0;
        first = lacks.1;
        lacks = subst (λ v. LacksOwnPlace lacks.0 (under (target_of leg) v) x.shares.drawn) x.shares.seen lacks.2;
      }
    where
      target_is : can.target.items.vault ≡ shares.target
      target_is = same_vault one (under (target_of leg) (seen a.state)) can.target.items.vault shares.target can.target.items.opens (shares.opens_target (seen a.state) refl)

      source_is : can.source.items.vault ≡ shares.source
      source_is = same_vault one (under (source_of leg) (seen a.state)) can.source.items.vault shares.source can.source.items.opens (shares.opens_source (seen a.state) refl)

      tidy : IsTidy (format_of shares.target) (under (target_of leg) (seen a.state))
      tidy = subst (λ v. IsTidy (format_of v) (under (target_of leg) (seen a.state))) target_is can.tidy

      x : OneOfSourceShares Same (opened_in (source_of leg) shares.source) (opened_in (target_of leg) shares.target) moving_folder s s' (Some b) (seen a.state)
      x = shares.shares (seen a.state) refl
          (record {
            source = subst (λ v. HasOwnFolders v (under (source_of leg) (seen a.state))) source_is (own_of_good can.source.items.vault (source_of leg) (seen a.state) can.source.good);
            target = subst (λ v. HasOwnFolders v (under (target_of leg) (seen a.state))) target_is (own_of_good can.target.items.vault (target_of leg) (seen a.state) can.target.good);
          })

pub leg_shares : HaveOneAnswer → PlansTell → WalksStay → (leg : Leg) (count : ℕ) (s s' : Option ByteStream) (t t' : Option Told) → GoesOn t t' → SharesInTree Same (source_of leg) (target_of leg) moving_folder phrase phrase s s' t t' → Sees (CanCarry leg) count t
    → SharesPlace (target_of leg) t t' s s' count
leg_shares one plans walks leg count s s' (Some a) (Some b) goes shares sees = one_shares one plans walks leg sees.seed count a (subst (CanCarry leg sees.seed count) sees.seen sees.shown) b goes s s' shares
leg_shares one plans walks leg count s s' None t' goes shares sees = absurd sees.seen
leg_shares one plans walks leg count s s' (Some a) None goes shares sees = absurd goes
