-- An item that is made in a vault comes to its tree.
use Rattle.std.proofs.Common.{◌≡◌, ◌≢◌, ◌∙◌, ◌∷◌, ◌++◌, ◌+◌, ◌<◌, [], ℕ, true, false, List, Option, Some, None, Result, Ok, Err, IfErr, IsTrue, OnOk, arith, refl, sym, ap, subst}
use Rattle.folder_spec.specs.Event.{FromTo, Told}
use Rattle.folder_spec.specs.Path.{Path, below}
use Rattle.folder_spec.specs.Region.{at_or_below}
use Rattle.folder_spec.specs.View.{View, ShowsAmong}
use Rattle.folder_spec.specs.Seen.{IfSeen, IsSeen, seen, under}
use Rattle.folder_spec.proofs.Tellings.{from_to_more, from_to_then}
use Rattle.plain_tree.specs.Names as plain
use Rattle.vault_spec.specs.Adding.{OpensWith}
use Rattle.vault_spec.specs.Alike.{IsOrderly}
use Rattle.vault_spec.specs.Findings.{IsClean}
use Rattle.work_folder.specs.Entering.{IsReady}
use Rattle.item_making.specs.Ending.{Ending, Whole}
use Rattle.item_making.specs.declared.fault.PutFault.{PutFault}
use Rattle.item_making.specs.declared.fault.PutFault.TheVariants as put
use Rattle.folder_spec.specs.State.{State}
use Rattle.vault_write.specs.Faults.{IsDirectoryFault, IsFileFault}
use Rattle.vault_read.specs.Contents.{IsOfPath}
use Rattle.vault_read.specs.Finding as finding
use Rattle.vault_spec.specs.Opened.{OpenedVault}
use Rattle.vault_read.specs.Opened.{kind_of}
use Rattle.vault_faults.specs.declared.fault.FindFault.{FindFault}
use Rattle.vault_faults.specs.declared.fault.FindFault.TheVariants as find
use Rattle.vault_read.specs.declared.vault.VaultKind.TheVariants as kind
use Rattle.port_model.specs.Draws.{ByteStream, Draws}
use Rattle.vault_spec.specs.Find.{enter}
use Rattle.vault_spec.specs.Format.{Directory, Format}
use Rattle.vault_spec.specs.Making.{Allows, NewDirectory, NewItem}
use Rattle.vault_spec.specs.Opens as opens
use Rattle.vault_spec.specs.Opens.{tree}
use Rattle.vault_spec.specs.Tidy.{IsTidy, OwnPlacesAreFree}
use Rattle.vault_spec.specs.Vault.{Cryptomator, Gocryptfs, IsVault, Vault, format_of}
use Rattle.vault_write.specs.Calls.{MakesAt, MakesOne, New, making_by}
use Rattle.item_making.specs.Making.{Placing, StagesOrPlaces, is_apart}
use Rattle.item_making.specs.Placing.{EndsAs, HasVault, IsMaking, ShowsNewTree, making_at}
use Rattle.vault_write.specs.Refusing.{Answers, HasTaken}
use Rattle.item_making.specs.Trees.{GainsItem, StaysGood}
use Rattle.item_making.specs.Trees as trees
use Rattle.demo_core.specs.Drawing.{HasZeroRun}
use Rattle.demo_core.specs.Demonstration.{bytes_from, content_of, is_directory, path_of, size_of}
use Rattle.demo_core.specs.Making.{HoldsAlone, IsBeside, IsItemFault, IsOfItem, IsPutOfChance, IsPutTaken, phrase}
use Rattle.demo_core.specs.Sharing.{GoesOn, LacksOwnPlace, SharesPlace}
use Rattle.demo_core.specs.Tree.{HasItems, opens_as}
use Rattle.demo_core.proofs.Apart.{item_front, item_name, items_more, path_ends}
use Rattle.demo_core.proofs.Beside.{beside_by}
use Rattle.demo_core.proofs.Drawn.{run_refused}
use Rattle.demo_core.proofs.Entered.{front_entered}
use Rattle.vault_walk.proofs.OpenDirectories.{EnteredLeads}
use Rattle.demo_core.proofs.Shared.{HaveContents, goes_beside, goes_nowhere, lacks_place_at}
use Rattle.demo_core.proofs.Standing.{not_staged, seen_alone}
use Rattle.vault_walk.proofs.Walks.{StandBehind, StandBelow}

-- ---- the item

abbrev placing : OpenedVault → Path → ℕ → NewItem → Placing
placing vault work number item = record { vault = vault; work = work; front = item_front (is_directory number) number; name = item_name (is_directory number) number; item = item }

-- a vault in good order stays so
abbrev StaysInOrder : Format → View → View → Type 0
StaysInOrder f v w = IsClean f v → IsOrderly f v → StaysGood f v w

adds : (vault : OpenedVault) (work : Path) (seed number : ℕ) (item : NewItem) (a b : Told) → number < 10000 → below work vault.root ≡ None → below vault.root work ≡ None
    → trees.opens_as item ≡ opens_as seed number → ShowsNewTree (placing vault work number item) a.state b.state
    → StaysInOrder (format_of vault.vault) (under vault.root (seen a.state)) (under vault.root (seen b.state)) → HoldsAlone vault seed number a.state → HoldsAlone vault seed (number + 1) b.state
adds vault work seed number item a b few one other opens tree stays holds =
    let f = format_of vault.vault in
    let region = at_or_below vault.root in
    let p = placing vault work number item in
    let has : HasVault p region = record { vault = λ q inside. inside; unstaged = λ q inside. not_staged work vault.root q one other inside } in
    let shown : (w : View) × ShowsAmong region b.state (w ∷ []) × GainsItem (format_of vault.vault) vault.root (item_front (is_directory number) number ++ item_name (is_directory number) number ∷ []) (trees.opens_as item) holds.view w =
    tree.tree region holds.view (record { has = has; alone = holds.alone; good = holds.good }) in
    let good : StaysGood f (under vault.root holds.view) (under vault.root (seen b.state)) =
    subst (λ u. StaysInOrder f u (under vault.root (seen b.state))) (seen_alone vault.root a.state holds.view holds.alone) stays holds.good.clean holds.good.orderly in
    let opens_with : OpensWith (format_of vault.vault) (under vault.root holds.view) (under vault.root shown.0) (path_of number) (opens_as seed number) =
    subst (λ path. OpensWith (format_of vault.vault) (under vault.root holds.view) (under vault.root shown.0) path (opens_as seed number)) (sym (path_ends number))
    (subst (λ opened. OpensWith (format_of vault.vault) (under vault.root holds.view) (under vault.root shown.0) (item_front (is_directory number) number ++ item_name (is_directory number) number ∷ []) opened) opens shown.2.opens) in
    record {
      view = shown.0;
      alone = shown.1;
      good = shown.2.vault.good;
      tidy = subst (IsTidy f) (seen_alone vault.root b.state shown.0 shown.1) (λ at. good.tidy at (holds.tidy at));
      opens = shown.2.vault.loads phrase vault.vault holds.opens;
      items = items_more seed number (format_of vault.vault) (under vault.root holds.view) (under vault.root shown.0) few holds.items opens_with;
    }

-- ---- what an item opens as

pub directory_opens : (seed number : ℕ) → is_directory number ≡ true → opens.Directory ≡ opens_as seed number
directory_opens seed number is = rw is refl

pub file_opens : (seed number s n g l : ℕ) (content : List ℕ) → is_directory number ≡ false → s ≡ seed → n ≡ number → g ≡ 0 → l ≡ size_of seed number → bytes_from s n g l ≡ content → opens.Content content ≡ opens_as seed number
file_opens seed number s n g l content is one two three four same =
    let whole : bytes_from s n g l ≡ content_of seed number =
    ap (λ x. bytes_from x n g l) one ∙ ap (λ x. bytes_from seed x g l) two ∙ ap (λ x. bytes_from seed number x l) three ∙ ap (λ x. bytes_from seed number 0 x) four in
    rw is (ap opens.Content (sym same ∙ whole))

-- ---- faults

pub if_err : (result : Result (Unit {0}) PutFault) (P : PutFault → Type 0) → ((fault : PutFault) → result ≡ Err fault → P fault) → IfErr result P
if_err (Ok done) P each = tt
if_err (Err fault) P each = each fault refl

pub at_err : (result : Result (Unit {0}) PutFault) (P : PutFault → Type 0) (fault : PutFault) → result ≡ Err fault → IfErr result P → P fault
at_err result P fault is holds = subst (λ r. IfErr r P) is holds

pub directory_own : (fault : PutFault) → IsDirectoryFault fault → IsItemFault fault
directory_own (put.Find fault) own = own
directory_own (put.NotAllowed path) own = tt
directory_own (put.Taken at) own = tt
directory_own (put.Damaged at fault) own = tt
directory_own (put.Limit limit) own = tt
directory_own put.ZeroRandom own = tt
directory_own put.Source own = own
directory_own put.Random own = tt
directory_own put.Failed own = tt
directory_own put.NoMemory own = tt

pub file_own : (reads : Option Path) (fault : PutFault) → IsFileFault reads fault → fault ≢ put.Source → IsItemFault fault
file_own reads (put.Find fault) own other = own
file_own reads (put.NotAllowed path) own other = tt
file_own reads (put.Taken at) own other = tt
file_own reads (put.Damaged at fault) own other = tt
file_own reads (put.Limit limit) own other = tt
file_own reads put.ZeroRandom own other = tt
file_own reads put.Source own other = absurd (other refl)
file_own reads put.Random own other = tt
file_own reads put.Failed own other = tt
file_own reads put.NoMemory own other = tt

pub chance_own : (fault : PutFault) → IsPutOfChance fault → IsItemFault fault
chance_own (put.Find fault) chance = absurd chance
chance_own (put.NotAllowed path) chance = tt
chance_own (put.Taken at) chance = tt
chance_own (put.Damaged at fault) chance = tt
chance_own (put.Limit limit) chance = tt
chance_own put.ZeroRandom chance = tt
chance_own put.Source chance = chance
chance_own put.Random chance = tt
chance_own put.Failed chance = tt
chance_own put.NoMemory chance = tt

-- in a gocryptfs vault each name is allowed
allows_all : (vault : Vault) (name : List ℕ) → kind_of vault ≡ kind.Gocryptfs → Allows (format_of vault) name
allows_all (Gocryptfs keys) name is = λ needs. cc needs
allows_all (Cryptomator cm) name is = cc is

-- an item is refused by chance alone or as its place is taken, where the directory above it is there
module _ (below_law : StandBelow) (entered : EnteredLeads) (vault : OpenedVault) (work : Path) (seed number : ℕ) (item : NewItem) (drawn : List ℕ) (s : State)
    (is_go : kind_of vault.vault ≡ kind.Gocryptfs) (holds : HoldsAlone vault seed number s) where
  front_there : (dir : Directory) × (enter (format_of vault.vault) (under vault.root (seen s)) (item_front (is_directory number) number) ≡ Ok dir)
  front_there = subst (λ u. (dir : Directory) × (enter (format_of vault.vault) u (item_front (is_directory number) number) ≡ Ok dir)) (sym (seen_alone vault.root s holds.view holds.alone))
      (front_entered below_law entered seed number (format_of vault.vault) (under vault.root holds.view) holds.good.orderly holds.items)

  not_refused : (fault : FindFault) → IsOfPath fault → ¬ finding.Refuses vault.root (enter (format_of vault.vault) (under vault.root (seen s)) (item_front (is_directory number) number)) fault
  not_refused (find.NotFound path) own refuses = let never : Ok front_there.0 ≡ Err _ = sym front_there.1 ∙ refuses in cc never
  not_refused (find.WrongKind path) own refuses = let never : Ok front_there.0 ≡ Err _ = sym front_there.1 ∙ refuses in cc never
  not_refused (find.NoDirKey path) own refuses = let never : Ok front_there.0 ≡ Err _ = sym front_there.1 ∙ refuses.2 in cc never
  not_refused (find.NoFolder path) own refuses = let never : Ok front_there.0 ≡ Err _ = sym front_there.1 ∙ refuses.2 in cc never
  not_refused find.Failed own refuses = own
  not_refused find.NoMemory own refuses = own

  pub item_refused : (fault : PutFault) → IsItemFault fault → Answers (placing vault work number item) drawn Whole (under vault.root (seen s)) (Err fault) → IsOfItem fault
  item_refused (put.Find fault) own answer = absurd (not_refused fault own answer.0)
  item_refused (put.NotAllowed path) own answer = absurd (answer.1.forbidden (allows_all vault.vault _ is_go))
  item_refused (put.Taken at) own answer = tt
  item_refused (put.Damaged at fault) own answer = cc (answer.1)
  item_refused (put.Limit limit) own answer = cc (answer.1)
  item_refused put.ZeroRandom own answer = tt
  item_refused put.Source own answer = own
  item_refused put.Random own answer = tt
  item_refused put.Failed own answer = tt
  item_refused put.NoMemory own answer = tt

-- where its place is taken, it shares it
lacks_place : StandBehind → EnteredLeads → HaveContents → (vault : OpenedVault) (work : Path) (seed number : ℕ) → number < 10000 → (item : NewItem) → (item ≡ NewDirectory → IsTrue (is_directory number))
    → (drawn : List ℕ) (ending : Ending) (s : State) → OwnPlacesAreFree (format_of vault.vault) → HoldsAlone vault seed number s → (fault : PutFault) → IsPutTaken fault
    → Answers (placing vault work number item) drawn ending (under vault.root (seen s)) (Err fault) → LacksOwnPlace number (under vault.root (seen s)) drawn
lacks_place behind entered shows vault work seed number few item directory drawn ending s free holds (put.Taken at) taken answer =
    let f = format_of vault.vault in
    let same : under vault.root holds.view ≡ under vault.root (seen s) = sym (seen_alone vault.root s holds.view holds.alone) in
    let has : HasTaken (placing vault work number item) drawn (under vault.root (seen s)) (Some answer.0) = answer.2 in
    lacks_place_at behind entered shows vault.vault (under vault.root (seen s)) seed number few (subst (λ u. IsVault u phrase vault.vault) same holds.opens)
    (subst (IsClean f) same holds.good.clean) (subst (IsTidy f) same holds.tidy) (subst (λ u. HasItems seed number (tree f u)) same holds.items)
    item directory drawn has.dir answer.0 has.there.entered free has.is
lacks_place behind entered shows vault work seed number few item directory drawn ending s free holds (put.Find fault) taken answer = absurd taken
lacks_place behind entered shows vault work seed number few item directory drawn ending s free holds (put.NotAllowed path) taken answer = absurd taken
lacks_place behind entered shows vault work seed number few item directory drawn ending s free holds (put.Damaged at fault) taken answer = absurd taken
lacks_place behind entered shows vault work seed number few item directory drawn ending s free holds (put.Limit limit) taken answer = absurd taken
lacks_place behind entered shows vault work seed number few item directory drawn ending s free holds put.ZeroRandom taken answer = absurd taken
lacks_place behind entered shows vault work seed number few item directory drawn ending s free holds put.Source taken answer = absurd taken
lacks_place behind entered shows vault work seed number few item directory drawn ending s free holds put.Random taken answer = absurd taken
lacks_place behind entered shows vault work seed number few item directory drawn ending s free holds put.Failed taken answer = absurd taken
lacks_place behind entered shows vault work seed number few item directory drawn ending s free holds put.NoMemory taken answer = absurd taken

-- ---- a call

seen_of : (t : Option Told) (a : Told) → t ≡ Some a → IsSeen t (seen a.state)
seen_of t a told = subst (λ x. IsSeen x (seen a.state)) (sym told) refl

-- a folder that tells its state shows a view
shown : (t : Option Told) → t ≢ None → (v : View) × IsSeen t v
shown None told = absurd (told refl)
shown (Some a) told = (seen a.state, refl)

module _ (vault : OpenedVault) (work : Path) (seed number : ℕ) (path : plain.Path) (item : NewItem) (ending : Ending) (drawn : List ℕ) (t u : Option Told) (result : Result (Unit {0}) PutFault)
    (is : path ≡ path_of number) (makes : MakesAt New vault work path item ending drawn t u result) where
  made : MakesOne New (placing vault work number item) ending drawn t u result
  made = makes.named (item_front (is_directory number) number) (item_name (is_directory number) number) (is ∙ path_ends number)

  pub item_ready : OnOk result (IfSeen u (λ v. IsReady v work))
  item_ready = made.makes.ready

  pub item_beside : IsBeside (is_apart work vault.root) t u
  item_beside = beside_by (is_apart work vault.root) (is_apart work vault.root)
      (λ s0 s. IsMaking (placing vault work number item) ending (making_at (placing vault work number item) (making_by New (placing vault work number item) drawn) s0) s0 s)
      (λ s0 s e. StagesOrPlaces work (making_at (placing vault work number item) (making_by New (placing vault work number item) drawn) s0) s e.call)
      t u (λ q inside. inside) (λ s0 s here. here.others) made.makes.moments

  pub item_adds : number < 10000 → below work vault.root ≡ None → below vault.root work ≡ None → trees.opens_as item ≡ opens_as seed number
      → OnOk result (FromTo (λ a b. HoldsAlone vault seed number a.state → HoldsAlone vault seed (number + 1) b.state) t u)
  item_adds few one other opens = by result made.makes.done made.makes.ends
    where
      by : (r : Result (Unit {0}) PutFault) → OnOk r (FromTo (λ a b. ShowsNewTree (placing vault work number item) a.state b.state) t u)
          → ((v w : View) → IsSeen t v → IsSeen u w → EndsAs (placing vault work number item) (under vault.root v) (under vault.root w) r)
          → OnOk r (FromTo (λ a b. HoldsAlone vault seed number a.state → HoldsAlone vault seed (number + 1) b.state) t u)
      by (Err fault) done ends = tt
      by (Ok one_made) done ends =
          from_to_more (λ a b. ShowsNewTree (placing vault work number item) a.state b.state × (u ≡ Some b)) (λ a b. HoldsAlone vault seed number a.state → HoldsAlone vault seed (number + 1) b.state) t u
          (λ a b told here. adds vault work seed number item a b few one other opens here.0 (ends (seen a.state) (seen b.state) (seen_of t a told) (seen_of u b here.1)).2)
          (from_to_then (λ a b. ShowsNewTree (placing vault work number item) a.state b.state) (λ b. u ≡ Some b) t u (λ b is. is) done)

  -- zeros that end it are sixteen in a row
  pub item_zeros : (t ≢ None) × (result ≡ Err put.ZeroRandom) → HasZeroRun drawn
  item_zeros why =
      let view = shown t why.0 in
      run_refused (format_of vault.vault).content drawn
      (subst (λ r. Answers (placing vault work number item) drawn ending (under vault.root view.0) r) why.1 (made.answer view.0 view.1)).1

  -- and what refuses it
  pub item_chance : StandBelow → EnteredLeads → ending ≡ Whole → IfErr result IsItemFault → IfErr result (λ fault. (a : Told) → t ≡ Some a → kind_of vault.vault ≡ kind.Gocryptfs → HoldsAlone vault seed number a.state → IsOfItem fault)
  item_chance below_law entered whole own = if_err result _
      (λ fault err a told is_go holds. item_refused below_law entered vault work seed number item drawn a.state is_go holds fault (at_err result IsItemFault fault err own)
      (subst (λ e. Answers (placing vault work number item) drawn e (under vault.root (seen a.state)) (Err fault)) whole
      (subst (λ r. Answers (placing vault work number item) drawn ending (under vault.root (seen a.state)) r) err
      (made.answer (seen a.state) (seen_of t a told)))))

  -- and where it shares a place
  pub item_shares : StandBehind → EnteredLeads → (shows : HaveContents) → OwnPlacesAreFree (format_of vault.vault) → number < 10000 → (item ≡ NewDirectory → IsTrue (is_directory number))
      → (x y : Option ByteStream) → Draws x y drawn
      → IfErr result (λ fault. IsPutTaken fault → (a : Told) → t ≡ Some a → HoldsAlone vault seed number a.state → SharesPlace vault.root t u x y (number + 1))
  item_shares behind entered shows free few directory x y drew = if_err result _
      (λ fault err taken a told holds. record {
        now = a;
        since = goes_nowhere t (Some a) (sym told);
        until = subst (λ o. GoesOn o u) told (goes_beside (is_apart work vault.root) t u item_beside);
        earlier = [];
        drawn = drawn;
        were_drawn = drew;
        number = number;
        first = omega arith;
        lacks = lacks_place behind entered shows vault work seed number few item directory drawn ending a.state free holds fault taken
            (subst (λ r. Answers (placing vault work number item) drawn ending (under vault.root (seen a.state)) r) err (made.answer (seen a.state) (seen_of t a told)));
      })
