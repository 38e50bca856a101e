-- In a clean and tidy vault the place of the next item is taken only where it shares it.
use Rattle.std.proofs.Common.{◌≡◌, ◌≢◌, ◌∙◌, ◌∷◌, ◌++◌, ◌<◌, ◌≤◌, ◌/◌, [], ℕ, append_assoc, Option, Some, Bool, true, false, List, Ok, IsTrue, arith, refl, sym, ap, subst}
use Rattle.folder_spec.proofs.Moments.{went_more, went_nowhere, went_on}
use Rattle.folder_spec.proofs.Tellings.{from_to_more, from_to_on, from_to_same}
use Rattle.folder_spec.specs.Event.{Event, Told}
use Rattle.folder_spec.specs.Moments.{Moments, Went}
use Rattle.folder_spec.specs.Path as folder
use Rattle.folder_spec.specs.Region.{IsAsBefore}
use Rattle.folder_spec.specs.State.{State}
use Rattle.folder_spec.specs.Seen.{ShowsFile}
use Rattle.folder_spec.specs.View.{View}
use Rattle.plain_tree.specs.Names as plain
use Rattle.plain_tree.specs.Names.{is_name}
use Rattle.port_model.specs.Draws.{ByteStream, Draws}
use Rattle.vault_spec.specs.Alike.{HasNoItem}
use Rattle.vault_spec.specs.Find.{enter}
use Rattle.vault_spec.specs.Findings.{IsClean}
use Rattle.vault_spec.specs.Format.{Directory, Format, file_bytes}
use Rattle.vault_spec.specs.Making.{NewItem, NewDirectory, taken}
use Rattle.vault_spec.specs.Opens as opens
use Rattle.vault_spec.specs.Opens.{NoItem, opened, opened_at, opened_file, tree}
use Rattle.vault_spec.specs.Reached.{Leads}
use Rattle.vault_spec.specs.Standing.{Absent, Dir, File, Standing, Strange, standing, standing_in}
use Rattle.vault_spec.specs.Tidy.{IsTidy, OwnPlacesAreFree}
use Rattle.vault_spec.specs.Vault.{IsVault, Vault, format_of}
use Rattle.demo_core.specs.Demonstration.{is_directory, path_of}
use Rattle.demo_core.specs.Making.{IsBeside, phrase}
use Rattle.demo_core.specs.Sharing.{GoesOn, LacksOwnPlace, SharesPlace}
use Rattle.demo_core.specs.Tree.{HasItems}
use Rattle.demo_core.proofs.Apart.{item_front, item_name, path_ends, paths_tell}
use Rattle.demo_core.proofs.Drawn.{Compose}
use Rattle.vault_walk.proofs.OpenDirectories.{EnteredLeads}
use Rattle.demo_core.proofs.Naming.{is_name-directory, is_name-file}
use Rattle.vault_walk.proofs.Walks.{StandBehind}
use Rattle.vault_spec.proofs.Endings.{content_opens}

abbrev pub HaveContents : Type 0
HaveContents = (vault : Vault) (v : View) (path : plain.Path) (at : folder.Path) → standing (format_of vault) v path ≡ File at → ShowsFile v at

named : (b : Bool) (number : ℕ) → IsTrue (is_name (item_name b number))
named true number = is_name-directory (number / 10)
named false number = is_name-file number

-- where nothing opens no item stands
no_item : (f : Format) (v : View) (s : Standing) → ((at : folder.Path) → s ≡ File at → ShowsFile v at) → opened_at f v s ≡ NoItem → HasNoItem s
no_item f v Absent has none = tt
no_item f v (Strange at) has none = tt
no_item f v (File at) has none =
    let there : ShowsFile v at = has at refl in
    absurd (content_opens f.content there.0 (ap (λ x. opened_file f.content (file_bytes x)) (sym there.1) ∙ none))
no_item f v (Dir at directory) has none = let never : opens.Directory ≡ NoItem = none in cc never

module _ (behind : StandBehind) (entered : EnteredLeads) (shows : HaveContents) (vault : Vault) (v : View) (seed number : ℕ) (few : number < 10000) where
  -- the next item isn't there yet
  next_opens : HasItems seed number (tree (format_of vault) v) → tree (format_of vault) v (path_of number) ≡ NoItem
  next_opens has =
      has.others (path_of number) (λ none. ends (item_front (is_directory number) number) (sym (path_ends number) ∙ none))
      (λ other less same. let is : number ≡ other = paths_tell number other few (omega (arith, less, few)) same in omega (arith, less, is))
    where
      ends : (front : plain.Path) → front ++ item_name (is_directory number) number ∷ [] ≢ []
      ends [] e = cc e
      ends (a ∷ front) e = cc e

  next_free : HasItems seed number (tree (format_of vault) v) → (dir : Directory) → Leads (format_of vault) v (item_front (is_directory number) number) dir
      → HasNoItem (standing_in (format_of vault) v dir (item_name (is_directory number) number))
  unfolding opened
  next_free has dir leads =
      subst HasNoItem (ap (standing (format_of vault) v) (path_ends number) ∙ behind (format_of vault) v (item_front (is_directory number) number) dir (item_name (is_directory number) number) leads)
      (no_item (format_of vault) v (standing (format_of vault) v (path_of number)) (shows vault v (path_of number)) (next_opens has))

  pub lacks_place_at : IsVault v phrase vault → IsClean (format_of vault) v → IsTidy (format_of vault) v → HasItems seed number (tree (format_of vault) v) → (item : NewItem) → (item ≡ NewDirectory → IsTrue (is_directory number)) → (drawn : List ℕ) (dir : Directory)
      (place : folder.Path) → enter (format_of vault) v (item_front (is_directory number) number) ≡ Ok dir → OwnPlacesAreFree (format_of vault)
      → taken (format_of vault) v dir (item_name (is_directory number) number) item drawn ≡ Some place → LacksOwnPlace number v drawn
  lacks_place_at opens clean tidy has item directory drawn dir place enters free is =
      let leads = (entered (format_of vault) v (item_front (is_directory number) number) dir).0 enters in
      let none = next_free has dir leads in
      record {
        vault = vault;
        opens = opens;
        clean = clean;
        tidy = tidy;
        front = item_front (is_directory number) number;
        name = item_name (is_directory number) number;
        path = path_ends number;
        dir = dir;
        entered = enters;
        free = none;
        item = item;
        directory = directory;
        shared = λ own. free v (item_front (is_directory number) number) dir (item_name (is_directory number) number) item drawn place clean leads (named (is_directory number) number) none own (tidy place) is;
      }

-- ---- a folder goes on

abbrev Any : State → Type 0
Any = λ s. Unit {0}

abbrev AnyEvent : State → Event → Type 0
AnyEvent = λ s e. Unit {0}

pub goes_nowhere : (t u : Option Told) → u ≡ t → GoesOn t u
goes_nowhere t u is = from_to_same (λ a b. Went Any AnyEvent a b) t u is (λ a. went_nowhere Any AnyEvent a tt)

pub goes_then : (t u w : Option Told) → GoesOn t u → GoesOn u w → GoesOn t w
goes_then t u w first later =
    let R : Told → Told → Type 0 = λ a b. Went Any AnyEvent a b in
    from_to_on R R R t u w (λ a b c one two. went_on Any AnyEvent a b c one two) first later

pub goes_by : (P : State → State → Type 0) (Q : State → State → Event → Type 0) (t u : Option Told) → Moments P Q t u → GoesOn t u
goes_by P Q t u moments =
    from_to_more (λ a b. Went (P a.state) (Q a.state) a b) (λ a b. Went Any AnyEvent a b) t u
    (λ a b is went. went_more (P a.state) Any (Q a.state) AnyEvent a b (λ s here. tt) (λ s e is. tt) went) moments

pub goes_beside : (region : folder.Path → Bool) (t u : Option Told) → IsBeside region t u → GoesOn t u
goes_beside region t u beside = goes_by (IsAsBefore region) (λ s0 s e. Unit {0}) t u beside

-- what is so after some calls is so of these and those
pub shares_since : Compose → (root : folder.Path) (t u w : Option Told) (x y z : Option ByteStream) (k count : ℕ) (earlier : List ℕ) → k ≤ count → GoesOn t u → Draws x y earlier → SharesPlace root u w y z k
    → SharesPlace root t w x z count
shares_since compose root t u w x y z k count earlier less goes drew shares = record {
  now = shares.now;
  since = goes_then t u (Some shares.now) goes shares.since;
  until = shares.until;
  earlier = earlier ++ shares.earlier;
  drawn = shares.drawn;
  were_drawn = subst (Draws x z) (sym (append_assoc earlier shares.earlier shares.drawn)) (compose x y z earlier (shares.earlier ++ shares.drawn) drew shares.were_drawn);
  number = shares.number;
  first = omega (arith, less, shares.first);
  lacks = shares.lacks;
}
