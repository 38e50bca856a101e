-- The tree of the demonstration goes from vault to vault.
use Rattle.std.proofs.Common.{◌≡◌, ◌≢◌, ◌↔◌, ◌++◌, ◌∷◌, [], ℕ, Bool, List, Option, sym, subst, ◌∙◌}
use Rattle.demo_core.proofs.Apart.{item_front, item_name, path_ends}
use Rattle.demo_core.proofs.Standing.{same_vault}
use Rattle.demo_core.specs.Demonstration.{is_directory, path_of}
use Rattle.demo_core.specs.Making.{HoldsItems, phrase}
use Rattle.demo_core.specs.Tree.{HasItems}
use Rattle.folder_spec.specs.Event.{Event, Told}
use Rattle.folder_spec.specs.Moments.{Went}
use Rattle.folder_spec.specs.Path.{Path}
use Rattle.folder_spec.specs.Region.{IsAsBefore, at_or_below}
use Rattle.folder_spec.specs.Seen.{IsSeen, seen, under}
use Rattle.folder_spec.specs.State.{IsSound, State}
use Rattle.folder_spec.specs.View.{AgreeIn, View}
use Rattle.folder_spec.proofs.Moments.{went_to}
use Rattle.folder_spec.proofs.Regions.{seen_as_before}
use Rattle.vault_spec.specs.Mapped.{IsMapped}
use Rattle.migrate_core.specs.Moved.{MovesTree}
use Rattle.migrate_core.specs.declared.placing.Done.{Done}
use Rattle.plain_tree.specs.Names as plain
use Rattle.plain_tree.specs.declared.name_map.NameMap.TheVariants.{Same}
use Rattle.vault_read.specs.Laws.{HaveOneAnswer}
use Rattle.vault_read.specs.OwnFolders.{HasOwnFolders}
use Rattle.vault_read.specs.Opened.{kind_of}
use Rattle.vault_read.specs.declared.vault.VaultKind.{VaultKind}
use Rattle.vault_spec.specs.Opens.{Tree, tree}
use Rattle.vault_spec.specs.Vault.{IsVault, format_of}
use Rattle.demonstration.specs.DemoTrees.{IsWithin}

pub no_root : (front : plain.Path) (name : List ℕ) → front ++ name ∷ [] ≢ []
no_root [] name same = cc
no_root (part ∷ front) name same = cc

not_root : (number : ℕ) → path_of number ≢ []
not_root number same = no_root (item_front (is_directory number) number) (item_name (is_directory number) number) (sym (path_ends number) ∙ same)

pub items_alike : (seed count : ℕ) (t t' : Tree) → ((path : plain.Path) → path ≢ [] → t' path ≡ t path) → HasItems seed count t → HasItems seed count t'
items_alike seed count t t' same items = record {
  each = λ number few. same (path_of number) (not_root number) ∙ items.each number few;
  others = λ path proper apart. same path proper ∙ items.others path proper apart;
}

-- what is seen as it was at a root and below it holds the items that it held
pub held_alike : (kind : VaultKind) (root : Path) (seed count : ℕ) (v w : View) → under root w ≡ under root v → HoldsItems kind root seed count v → HoldsItems kind root seed count w
held_alike kind root seed count v w same held = record {
  vault = held.vault;
  is = held.is;
  opens = subst (λ u. IsVault u phrase held.vault) (sym same) held.opens;
  items = subst (λ u. HasItems seed count (tree (format_of held.vault) u)) (sym same) held.items;
}

-- by the rule that names stay, a tree is the mapped tree of itself alone
abbrev pub TreesStay : Type 0
TreesStay = (m t : Tree) → IsMapped Same m t ↔ ((path : plain.Path) → t path ≡ m path)

-- A migration brings them to the target, which its passphrase opens still.
pub held_moved : HaveOneAnswer → TreesStay → (first second : VaultKind) (from to work : Path) (done : Done) (seed count : ℕ) (t u : Option Told) (v w : View) → (moves : MovesTree Same from to work phrase phrase done t u)
    → IsSeen t v → IsSeen u w → under from w ≡ under from v → HasOwnFolders moves.source (under from w) → HasOwnFolders moves.target (under to w)
    → kind_of moves.target ≡ second → HoldsItems first from seed count v → HoldsItems second to seed count w
held_moved one stay first second from to work done seed count t u v w moves before after same own_source own_target is held =
    let vault : held.vault ≡ moves.source = same_vault one (under from v) held.vault moves.source held.opens (moves.opens_source v before) in
    let items : HasItems seed count (tree (format_of moves.source) (under from w)) =
    subst (λ x. HasItems seed count (tree (format_of x) (under from w))) vault (subst (λ x. HasItems seed count (tree (format_of held.vault) x)) (sym same) held.items) in
    record {
      vault = moves.target;
      is = is;
      opens = moves.opens_still w after;
      items = items_alike seed count (tree (format_of moves.source) (under from w)) (tree (format_of moves.target) (under to w))
          (λ path proper. (stay (tree (format_of moves.source) (under from w)) (tree (format_of moves.target) (under to w))).0 ((moves.moved w after).trees own_source own_target) path) items;
    }

-- What is at a root and below it is an own view, which is the same where it is alike.
abbrev pub AreAlike : Type 0
AreAlike = (root : Path) (v w : View) → AgreeIn (at_or_below root) v w → under root v ≡ under root w

-- calls that leave a region as it was leave so what is there
pub region_stays : AreAlike → (root : Path) (region : Path → Bool) (Q : State → Event → Type 0) (a b : Told) → IsSound a.state → IsWithin root region → Went (IsAsBefore region a.state) Q a b
    → under root (seen b.state) ≡ under root (seen a.state)
region_stays alike root region Q a b sound within went =
    alike root (seen b.state) (seen a.state) (λ q there. seen_as_before region a.state b.state sound (went_to (IsAsBefore region a.state) Q a b went) q (within q there))
