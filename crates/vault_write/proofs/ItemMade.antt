-- What a call that made an item's edits promises of the vault's trees, and of what opens.
use Rattle.std.proofs.Common.{arith, Bool, ◌≡◌, ◌≢◌, ◌⊎◌, ℕ, ◌≤◌, List, [], ◌∷◌, ◌++◌, length, Option, Some, None, Result, Ok, Err, refl, sym, ap, ◌∙◌, inl, inr, subst, append-nil, IsTrue, is_some}
use Rattle.std.proofs.Math.Path.{fun_ext}
use Rattle.folder_spec.specs.declared.FolderFault.{FolderFault}
use Rattle.folder_spec.specs.Path.{Path, below}
use Rattle.folder_spec.specs.State.{State}
use Rattle.folder_spec.specs.Edit.{Edit, edited, edit_under, edits_under, view_after, PublishesIn, HasSettledIn}
use Rattle.folder_spec.specs.Event.{Told, FromTo}
use Rattle.folder_spec.specs.Moments.{Moments, Went}
use Rattle.folder_spec.specs.Region.{IsAsBefore, at_or_below}
use Rattle.folder_spec.specs.Seen.{IfSeen, seen, under}
use Rattle.folder_spec.specs.View.{View}
use Rattle.folder_spec.proofs.Paths.{below-append, child-injective, child-last, child-not_base}
use Rattle.folder_spec.proofs.Moments.{went_more, went_nowhere, went_to}
use Rattle.folder_spec.proofs.Regions.{as_before}
use Rattle.folder_spec.proofs.Tellings.{from_to_more, from_to_same}
use Rattle.plain_tree.specs.Names as plain
use Rattle.vault_spec.specs.Adding.{OpensAs, OpensWith, ComesAlone, StaysClean}
use Rattle.vault_spec.specs.Alike.{IsOrderly}
use Rattle.vault_spec.specs.Anywhere.{ComesAtLast, KeepsEntered}
use Rattle.vault_spec.specs.Format.{Format}
use Rattle.vault_spec.specs.Making.{NewItem, draws}
use Rattle.vault_spec.specs.Opened.{OpenedVault}
use Rattle.vault_spec.specs.Opens.{Opened, opened}
use Rattle.vault_spec.specs.Staying.{StaysVault}
use Rattle.vault_spec.specs.Tidy.{StaysTidy}
use Rattle.folder_spec.specs.declared.FolderFault.TheVariants as folder
use Rattle.item_making.specs.Faults.{of_folder}
use Rattle.item_making.specs.Ending.{Ending, Whole}
use Rattle.content_writing.specs.Writing.{Blames, DrewNoZeros, DrewZeros}
use Rattle.item_making.specs.declared.fault.PutFault.{PutFault}
use Rattle.item_making.specs.declared.fault.PutFault.TheVariants as puts
use Rattle.work_folder.specs.Entering.{IsReady}
use Rattle.vault_faults.specs.declared.fault.FindFault.TheVariants as finds
use Rattle.vault_write.specs.Calls.{AnswersBy, AnswersRoot, How, InPlace, IsOfMaking, IsUnpublished, MakesAt, MakesOne, New, making_by}
use Rattle.vault_write.specs.Editing.{IsEditing, SeesSome, Edits, HasFinished}
use Rattle.item_making.specs.Making.{Placing, Making, format, path_of, new_item, is_unstaged, is_elsewhere, StagesOrPlaces}
use Rattle.item_making.specs.Placing.{IsMaking, ShowsNewTree, making_at, EndsAs, OpensItem}
use Rattle.vault_write.specs.Refusing.{HasTaken, Answers}
use Rattle.vault_write.specs.Showing.{MakeItem, MakeItemAt, EditsShowTrees, SettledEditsShowTrees}
use Rattle.vault_write.specs.Slots.{placing}
use Rattle.item_making.specs.Trees.{StaysGood, opens_as}
use Rattle.vault_write.proofs.Exits.{unblamed}
use Rattle.vault_write.proofs.Seeing.{if_seen, seen_both, seen_then}
use Rattle.vault_write.proofs.Stages.{root_unstaged}
use Rattle.vault_write.proofs.TreesShown.{old_alone}

-- ---- what opens after some edits

-- until the last of some edits, what opens stays
pub fronts_keep : (f : Format) (v w : View) (done : List Edit) (next : Edit) (more : List Edit) (at : plain.Path) (item : Opened) → OpensAs f v w → ComesAtLast f v w (done ++ next ∷ more) at item → OpensAs f v (view_after w done)
fronts_keep f v w [] next more at item same comes = same
fronts_keep f v w (x ∷ []) next more at item same comes = comes.0
fronts_keep f v w (x ∷ y ∷ done) next more at item same comes = fronts_keep f v (edited w x) (y ∷ done) next more at item comes.0 comes.1

last_opens : (f : Format) (v w : View) (edits : List Edit) (at : plain.Path) (item : Opened) → ComesAtLast f v w edits at item → opened f (view_after w edits) at ≡ item
last_opens f v w [] at item comes = absurd comes
last_opens f v w (e ∷ []) at item comes = comes.0
last_opens f v w (e ∷ next ∷ edits) at item comes = last_opens f v (edited w e) (next ∷ edits) at item comes.1

last_entered : (f : Format) (v w : View) (edits : List Edit) (at : plain.Path) (item : Opened) → ComesAtLast f v w edits at item → KeepsEntered f v (view_after w edits)
last_entered f v w [] at item comes = absurd comes
last_entered f v w (e ∷ []) at item comes = comes.1
last_entered f v w (e ∷ next ∷ edits) at item comes = last_entered f v (edited w e) (next ∷ edits) at item comes.1

all_opens : (f : Format) (v w : View) (edits : List Edit) (at : plain.Path) (item : Opened) → ComesAlone f v w edits at item → OpensWith f v (view_after w edits) at item
all_opens f v w [] at item comes = absurd comes
all_opens f v w (e ∷ []) at item comes = comes
all_opens f v w (e ∷ next ∷ edits) at item comes = all_opens f v (edited w e) (next ∷ edits) at item comes.1

-- a vault in good order stays so
all_stay : (f : Format) (u w : View) (edits : List Edit) (at : plain.Path) (item : Opened) → ComesAlone f u w edits at item → StaysClean f w edits → StaysTidy f u (view_after w edits)
    → StaysVault f u w edits → StaysGood f u (view_after w edits)
all_stay f u w [] at item comes clean tidy vault = absurd comes
all_stay f u w (e ∷ []) at item comes clean tidy vault = record { clean = clean.0; tidy = tidy; orderly = vault.0.0; loads = vault.0.1 }
all_stay f u w (e ∷ next ∷ edits) at item comes clean tidy vault = all_stay f u (edited w e) (next ∷ edits) at item comes.1 clean.1 tidy vault.1

-- the first of some edits below a root are the first of these, below the root
pub record IsSplit (root : Path) (edits done more : List Edit) : Type 0 where
  pub first : List Edit
  pub rest : List Edit
  pub is : edits ≡ first ++ rest
  pub done_is : done ≡ edits_under root first

pub split : (root : Path) (edits done more : List Edit) → edits_under root edits ≡ done ++ more → IsSplit root edits done more
split root edits [] more e = record { first = []; rest = edits; is = refl; done_is = refl }
split root (x ∷ edits) (d ∷ done) more e =
    let heads : edit_under root x ≡ d = ap (head_or (edit_under root x)) e in
    let tails : edits_under root edits ≡ done ++ more = ap tail_of e in
    let further : IsSplit root edits done more = split root edits done more tails in
    record { first = x ∷ further.first; rest = further.rest; is = ap (λ es. x ∷ es) further.is; done_is = ap (λ es. d ∷ es) further.done_is ∙ ap (λ y. y ∷ edits_under root further.first) (sym heads) }
  where
    head_or : Edit → List Edit → Edit
    head_or y [] = y
    head_or y (z ∷ zs) = z

    tail_of : List Edit → List Edit
    tail_of [] = []
    tail_of (z ∷ zs) = zs
split root [] (d ∷ done) more e = cc

abbrev pub RootsShow : Type 0
RootsShow = (root : Path) (v : View) (edits : List Edit) → under root (view_after v (edits_under root edits)) ≡ view_after (under root v) edits

abbrev pub OldOrNewOpens : Placing → View → View → Type 0
OldOrNewOpens p u v = OpensAs (format p) u v ⊎ OpensItem p u v

-- a folder's fault comes once the making has begun, and is no word of zeros
pub folder_making : (fault : FolderFault) → IsOfMaking (of_folder fault)
folder_making folder.Failed = tt
folder_making folder.Refused = tt
folder_making folder.NoMemory = tt

pub folder_drew : (fault : FolderFault) → of_folder fault ≢ puts.ZeroRandom
folder_drew folder.Failed = λ same. cc same
folder_drew folder.Refused = λ same. cc same
folder_drew folder.NoMemory = λ same. cc same

folder_published : (fault : FolderFault) (region : Path → Bool) (t w : Option Told) → IsUnpublished region t w (Err (of_folder fault))
folder_published folder.Failed region t w = tt
folder_published folder.Refused region t w = tt
folder_published folder.NoMemory region t w = tt

unpublished_at : (fault : PutFault) (region : Path → Bool) (t w : Option Told) → FromTo (λ a b. IsAsBefore region a.state b.state) t w → IsUnpublished region t w (Err fault)
unpublished_at puts.Failed region t w same = tt
unpublished_at puts.NoMemory region t w same = tt
unpublished_at fault region t w same = same

abbrev failing : PutFault → Result (Unit {0}) PutFault
failing fault = Err fault

pub one_error : {a b : PutFault} → failing a ≡ failing b → a ≡ b
one_error same = cc same

-- after the folder failed
ends_failed_by : (p : Placing) (fault : FolderFault) (u v : View) → OldOrNewOpens p u v → EndsAs p u v (Err (of_folder fault))
ends_failed_by p folder.Failed u v opens = opens
ends_failed_by p folder.Refused u v opens = opens
ends_failed_by p folder.NoMemory u v opens = opens

-- where what opens stayed
pub ends_stopped : (p : Placing) (fault : PutFault) (u v : View) → OpensAs (format p) u v → EndsAs p u v (Err fault)
ends_stopped p puts.Failed u v same = inl same
ends_stopped p puts.NoMemory u v same = inl same
ends_stopped p fault u v same = same

-- ---- whether or not the folder tells its state

-- What a making of edits brings of an item, from one state to another.
pub record Brings (how : How) (p : Placing) (drawn : List ℕ) (m : Making) (a b : Told) : Type 0 where
  pub went : Edits p.work p.vault.root m a b → Went (IsMaking p Whole (making_at p (making_by how p drawn) a.state) a.state) (λ s e. StagesOrPlaces p.work (making_at p (making_by how p drawn) a.state) s e.call) a b
  pub tree : HasFinished p.work p.vault.root m a b → ShowsNewTree p a.state b.state
  pub opens : HasFinished p.work p.vault.root m a b → EndsAs p (under p.vault.root (seen a.state)) (under p.vault.root (seen b.state)) (Ok tt)
  pub old_or_new : Edits p.work p.vault.root m a b → OldOrNewOpens p (under p.vault.root (seen a.state)) (under p.vault.root (seen b.state))

module _ (how : How) (p : Placing) (drawn : List ℕ) (m : Making) (t w : Option Told) (brings : (a b : Told) → t ≡ Some a → Brings how p drawn m a b)
    (size : length drawn ≡ draws (format p) p.item) (went : FromTo (Edits p.work p.vault.root m) t w) where
  moments_of : Moments (λ s0 s. IsMaking p Whole (making_at p (making_by how p drawn) s0) s0 s) (λ s0 s e. StagesOrPlaces p.work (making_at p (making_by how p drawn) s0) s e.call) t w
  moments_of = from_to_more (Edits p.work p.vault.root m)
      (λ a b. Went (IsMaking p Whole (making_at p (making_by how p drawn) a.state) a.state) (λ s e. StagesOrPlaces p.work (making_at p (making_by how p drawn) a.state) s e.call) a b) t w
      (λ a b is k. (brings a b is).went k) went

  pub one_whole : DrewNoZeros (format p).content drawn → FromTo (HasFinished p.work p.vault.root m) t w → IfSeen t (λ v. AnswersBy how p drawn Whole (under p.vault.root v) (Ok tt)) → MakesOne how p Whole drawn t w (Ok tt)
  one_whole none finished answer = record {
    enough = omega (arith, size);
    makes = record {
      moments = moments_of;
      done = from_to_more (HasFinished p.work p.vault.root m) (λ a b. ShowsNewTree p a.state b.state) t w (λ a b is k. (brings a b is).tree k) finished;
      ready = seen_then (HasFinished p.work p.vault.root m) (λ v. IsReady v p.work) t w (λ a b is k. k.ready) finished;
      ends = seen_both (HasFinished p.work p.vault.root m) (λ u v. EndsAs p (under p.vault.root u) (under p.vault.root v) (Ok tt)) t w (λ a b is k. (brings a b is).opens k) finished;
    };
    answer = answer;
    tested = tt;
    unpublished = tt;
    zeros = λ clash. cc clash;
    accepted = λ other. none;
  }

  pub one_broken : (fault : FolderFault) → DrewNoZeros (format p).content drawn → IfSeen t (λ v. AnswersBy how p drawn Whole (under p.vault.root v) (Err (of_folder fault))) → MakesOne how p Whole drawn t w (Err (of_folder fault))
  one_broken fault none answer = record {
    enough = omega (arith, size);
    makes = record {
      moments = moments_of;
      done = tt;
      ready = tt;
      ends = seen_both (Edits p.work p.vault.root m) (λ u v. EndsAs p (under p.vault.root u) (under p.vault.root v) (Err (of_folder fault))) t w
          (λ a b is k. ends_failed_by p fault (under p.vault.root (seen a.state)) (under p.vault.root (seen b.state)) ((brings a b is).old_or_new k)) went;
    };
    answer = answer;
    tested = inl (folder_making fault);
    unpublished = folder_published fault (is_unstaged p.work) t w;
    zeros = λ same. absurd (folder_drew fault (one_error same));
    accepted = λ other. none;
  }

-- What is to be known of a fault, whether or not the folder tells its state: a test refused and nothing was changed, or the making had
-- begun; and zeros were drawn that are refused.
pub record MayRefuse (p : Placing) (drawn : List ℕ) (t w : Option Told) (fault : PutFault) : Type 0 where
  pub few : length drawn ≤ draws (format p) p.item
  pub tested : IsOfMaking fault ⊎ (w ≡ t)
  pub unpublished : FromTo (λ a b. IsAsBefore (is_unstaged p.work) a.state b.state) t w
  pub zeros : fault ≡ puts.ZeroRandom → DrewZeros (format p).content drawn
  pub accepted : fault ≢ puts.ZeroRandom → DrewNoZeros (format p).content drawn

-- where what opens stayed
pub one_stopped : (how : How) (p : Placing) (ending : Ending) (drawn : List ℕ) (R : Told → Told → Type 0) (t w : Option Told) (fault : PutFault) → MayRefuse p drawn t w fault
    → ((a b : Told) → t ≡ Some a → R a b → Went (IsMaking p ending (making_at p (making_by how p drawn) a.state) a.state) (λ s e. StagesOrPlaces p.work (making_at p (making_by how p drawn) a.state) s e.call) a b)
    → ((a b : Told) → t ≡ Some a → R a b → OpensAs (format p) (under p.vault.root (seen a.state)) (under p.vault.root (seen b.state)))
    → FromTo R t w → IfSeen t (λ v. AnswersBy how p drawn ending (under p.vault.root v) (Err fault)) → MakesOne how p ending drawn t w (Err fault)
one_stopped how p ending drawn R t w fault may went stays h answer = record {
  enough = may.few;
  makes = record {
    moments = from_to_more R
        (λ a b. Went (IsMaking p ending (making_at p (making_by how p drawn) a.state) a.state) (λ s e. StagesOrPlaces p.work (making_at p (making_by how p drawn) a.state) s e.call) a b) t w went h;
    done = tt;
    ready = tt;
    ends = seen_both R (λ u v. EndsAs p (under p.vault.root u) (under p.vault.root v) (Err fault)) t w
        (λ a b is k. ends_stopped p fault (under p.vault.root (seen a.state)) (under p.vault.root (seen b.state)) (stays a b is k)) h;
  };
  answer = answer;
  tested = may.tested;
  unpublished = unpublished_at fault (is_unstaged p.work) t w may.unpublished;
  zeros = λ same. may.zeros (one_error same);
  accepted = λ other. may.accepted (λ same. other (ap failing same));
}

-- where nothing was changed
pub one_refused : (how : How) (p : Placing) (ending : Ending) (drawn : List ℕ) (t : Option Told) (fault : PutFault) → length drawn ≤ draws (format p) p.item → (fault ≡ puts.ZeroRandom → DrewZeros (format p).content drawn) → (fault ≢ puts.ZeroRandom → DrewNoZeros (format p).content drawn)
    → IfSeen t (λ v. AnswersBy how p drawn ending (under p.vault.root v) (Err fault)) → MakesOne how p ending drawn t t (Err fault)
one_refused how p ending drawn t fault few zeros accepted answer =
    one_stopped how p ending drawn (λ a b. b ≡ a) t t fault (record {
      few = few;
      tested = inr refl;
      unpublished = from_to_same (λ a b. IsAsBefore (is_unstaged p.work) a.state b.state) t t refl (λ a. as_before (λ q. is_unstaged p.work q) a.state);
      zeros = zeros;
      accepted = accepted;
    }) (λ a b is same. subst (Makes a) (sym same) (nowhere a))
    (λ a b is same path. ap (λ (c : Told). opened (format p) (under p.vault.root (seen c.state)) path) same) (from_to_same (λ a b. b ≡ a) t t refl (λ a. refl)) answer
  where
    Makes : Told → Told → Type 0
    Makes a b = Went (IsMaking p ending (making_at p (making_by how p drawn) a.state) a.state) (λ s e. StagesOrPlaces p.work (making_at p (making_by how p drawn) a.state) s e.call) a b

    nowhere : (a : Told) → Makes a a
    nowhere a = went_nowhere (IsMaking p ending (making_at p (making_by how p drawn) a.state) a.state) (λ s e. StagesOrPlaces p.work (making_at p (making_by how p drawn) a.state) s e.call) a (record {
      others = as_before (λ q. is_elsewhere p q) a.state;
      trees = old_alone p ending a.state;
      fronts = λ n new made. absurd (omega (arith, new, made));
    })

-- ---- an item that is begun, as it was seen at first

pub record IsBegun (p : Placing) (drawn : List ℕ) (m : Making) (a : Told) : Type 0 where
  pub edits : List Edit
  pub making : making_at p (new_item p drawn) a.state ≡ m
  pub are : m.edits ≡ edits_under p.vault.root edits
  pub item : MakeItemAt p edits a.state
  pub last : ComesAtLast (format p) (under p.vault.root (seen a.state)) (under p.vault.root (seen a.state)) edits (path_of p) (opens_as p.item)
  pub alone : IsOrderly (format p) (under p.vault.root (seen a.state)) → ComesAlone (format p) (under p.vault.root (seen a.state)) (under p.vault.root (seen a.state)) edits (path_of p) (opens_as p.item)
  pub taken : HasTaken p drawn (under p.vault.root (seen a.state)) None
  pub apart : below p.work p.vault.root ≡ None
  pub beside : below p.vault.root p.work ≡ None

pub at_itself : (root rest : Path) → IsTrue (at_or_below root (root ++ rest))
at_itself root rest = ap is_some (below-append root rest)

module _ (shows : EditsShowTrees) (settles : SettledEditsShowTrees) (roots : RootsShow) (p : Placing) (drawn : List ℕ) (m : Making) (a b : Told) (begun : IsBegun p drawn m a) where
  is_making : (s : State) → IsEditing p.work p.vault.root m a.state s → IsMaking p Whole m a.state s
  is_making s k = record {
    others = k.others;
    trees = shows p begun.edits a.state s begun.item (subst (λ es. PublishesIn (is_unstaged p.work) es a.state s) begun.are k.publishes);
    fronts = k.fronts;
  }

  went_making : Edits p.work p.vault.root m a b → Went (IsMaking p Whole (making_at p (new_item p drawn) a.state) a.state) (λ s e. StagesOrPlaces p.work (making_at p (new_item p drawn) a.state) s e.call) a b
  went_making went = subst (λ n. Went (IsMaking p Whole n a.state) (λ s e. StagesOrPlaces p.work n s e.call) a b) (sym begun.making)
      (went_more (IsEditing p.work p.vault.root m a.state) (IsMaking p Whole m a.state) (λ s e. StagesOrPlaces p.work m s e.call) (λ s e. StagesOrPlaces p.work m s e.call) a b is_making (λ s e h. h) went)

  new_tree : HasFinished p.work p.vault.root m a b → ShowsNewTree p a.state b.state
  new_tree h = settles p begun.edits a.state b.state begun.item (subst (λ es. HasSettledIn (is_unstaged p.work) es a.state b.state) begun.are h.settled)

  root_seen : (done : List Edit) → ((q : Path) → IsTrue (is_unstaged p.work q) → seen b.state q ≡ view_after (seen a.state) done q) → under p.vault.root (seen b.state) ≡ under p.vault.root (view_after (seen a.state) done)
  root_seen done views = fun_ext (λ rest. views (p.vault.root ++ rest) (root_unstaged p.work p.vault.root (p.vault.root ++ rest) begun.apart begun.beside (at_itself p.vault.root rest)))

  first_seen : (first : List Edit) (done : List Edit) → done ≡ edits_under p.vault.root first → ((q : Path) → IsTrue (is_unstaged p.work q) → seen b.state q ≡ view_after (seen a.state) done q)
      → under p.vault.root (seen b.state) ≡ view_after (under p.vault.root (seen a.state)) first
  first_seen first done is views = root_seen done views ∙ ap (λ es. under p.vault.root (view_after (seen a.state) es)) is ∙ roots p.vault.root (seen a.state) first

  opens_item : under p.vault.root (seen b.state) ≡ view_after (under p.vault.root (seen a.state)) begun.edits → OpensItem p (under p.vault.root (seen a.state)) (under p.vault.root (seen b.state))
  opens_item now = (
    ap (λ w. opened (format p) w (path_of p)) now ∙ last_opens (format p) (under p.vault.root (seen a.state)) (under p.vault.root (seen a.state)) begun.edits (path_of p) (opens_as p.item) begun.last,
    λ orderly. subst (λ w. OpensWith (format p) (under p.vault.root (seen a.state)) w (path_of p) (opens_as p.item)) (sym now)
        (all_opens (format p) (under p.vault.root (seen a.state)) (under p.vault.root (seen a.state)) begun.edits (path_of p) (opens_as p.item) (begun.alone orderly)),
    λ clean orderly.
        let made : MakeItem (format p) (under p.vault.root (seen a.state)) (path_of p) (opens_as p.item) begun.edits = begun.item (record { clean = clean; orderly = orderly }) in
        subst (λ w. StaysGood (format p) (under p.vault.root (seen a.state)) w) (sym now)
        (all_stay (format p) (under p.vault.root (seen a.state)) (under p.vault.root (seen a.state)) begun.edits (path_of p) (opens_as p.item) made.alone made.clean made.tidy made.vault),
    subst (λ w. KeepsEntered (format p) (under p.vault.root (seen a.state)) w) (sym now)
        (last_entered (format p) (under p.vault.root (seen a.state)) (under p.vault.root (seen a.state)) begun.edits (path_of p) (opens_as p.item) begun.last),
  )

  ends_ok : HasFinished p.work p.vault.root m a b → EndsAs p (under p.vault.root (seen a.state)) (under p.vault.root (seen b.state)) (Ok tt)
  ends_ok h = opens_item (first_seen begun.edits m.edits begun.are h.views)

  -- after a failure some of the begun.edits are seen
  ends_failed : Edits p.work p.vault.root m a b → OldOrNewOpens p (under p.vault.root (seen a.state)) (under p.vault.root (seen b.state))
  ends_failed went =
      let now : SeesSome p.work m.edits a.state b.state = (went_to (IsEditing p.work p.vault.root m a.state) (λ s e. StagesOrPlaces p.work m s e.call) a b went).sees in
      let parts : IsSplit p.vault.root begun.edits now.done now.more = split p.vault.root begun.edits now.done now.more (sym begun.are ∙ now.is) in
      by_rest parts.first parts.rest parts.is (first_seen parts.first now.done parts.done_is now.views)
    where
      by_rest : (first rest : List Edit) → begun.edits ≡ first ++ rest → under p.vault.root (seen b.state) ≡ view_after (under p.vault.root (seen a.state)) first
          → OldOrNewOpens p (under p.vault.root (seen a.state)) (under p.vault.root (seen b.state))
      by_rest first [] is now = inr (opens_item (now ∙ ap (view_after (under p.vault.root (seen a.state))) (sym (is ∙ append-nil first))))
      by_rest first (next ∷ more) is now =
          inl (subst (λ w. OpensAs (format p) (under p.vault.root (seen a.state)) w) (sym now)
          (fronts_keep (format p) (under p.vault.root (seen a.state)) (under p.vault.root (seen a.state)) first next more (path_of p) (opens_as p.item) (λ path. refl)
          (subst (λ es. ComesAtLast (format p) (under p.vault.root (seen a.state)) (under p.vault.root (seen a.state)) es (path_of p) (opens_as p.item)) is begun.last)))

module _ (shows : EditsShowTrees) (settles : SettledEditsShowTrees) (roots : RootsShow) (p : Placing) (drawn : List ℕ) (m : Making) (t w : Option Told)
    (begun : (a : Told) → t ≡ Some a → IsBegun p drawn m a) (size : length drawn ≡ draws (format p) p.item) where
  brings : (a b : Told) → t ≡ Some a → Brings New p drawn m a b
  brings a b is = record {
    went = went_making shows settles roots p drawn m a b (begun a is);
    tree = new_tree shows settles roots p drawn m a b (begun a is);
    opens = ends_ok shows settles roots p drawn m a b (begun a is);
    old_or_new = ends_failed shows settles roots p drawn m a b (begun a is);
  }

  pub one_ok : DrewNoZeros (format p).content drawn → FromTo (Edits p.work p.vault.root m) t w → FromTo (HasFinished p.work p.vault.root m) t w → MakesOne New p Whole drawn t w (Ok tt)
  one_ok none went finished =
      one_whole New p drawn m t w brings size went none finished (λ v is. (if_seen (λ v. HasTaken p drawn (under p.vault.root v) None) t (λ a told. (begun a told).taken) v is, refl, size, none))

  pub one_failed : (fault : FolderFault) → DrewNoZeros (format p).content drawn → FromTo (Edits p.work p.vault.root m) t w → MakesOne New p Whole drawn t w (Err (of_folder fault))
  one_failed fault none went = one_broken New p drawn m t w brings size went fault none (λ v is. answer fault (under p.vault.root v))
    where
      answer : (fault : FolderFault) (u : View) → Answers p drawn Whole u (Err (of_folder fault))
      answer folder.Failed u = tt
      answer folder.Refused u = tt
      answer folder.NoMemory u = tt

-- ---- at a plain path

pub makes_named : (how : How) (vault : OpenedVault) (work : Path) (path front : plain.Path) (name : List ℕ) (item : NewItem) (ending : Ending) (drawn : List ℕ) (t u : Option Told) (result : Result (Unit {0}) PutFault)
    → path ≡ front ++ name ∷ [] → MakesOne how (placing vault work front name item) ending drawn t u result → MakesAt how vault work path item ending drawn t u result
makes_named how vault work path front name item ending drawn t u result is one = record {
  named = λ front' name' also.
      let up : front ≡ front' = child-injective front front' name name' (sym is ∙ also) in
      let last : name ≡ name' = child-last front name name' (sym is ∙ also ∙ ap (λ p. p ++ name' ∷ []) (sym up)) in
      subst (λ p. MakesOne how (placing vault work p name' item) ending drawn t u result) up
      (subst (λ n. MakesOne how (placing vault work front n item) ending drawn t u result) last one);
  root = λ none. absurd (child-not_base front name (sym is ∙ none));
}

-- what is answered at the root, but want of memory
abbrev pub root_fault : How → Path → PutFault
root_fault New root = puts.Taken root
root_fault InPlace root = puts.Find (finds.WrongKind [])

abbrev pub IsRootFault : How → Path → PutFault → Type 0
IsRootFault how root fault = (fault ≡ puts.NoMemory) ⊎ (fault ≡ root_fault how root)

-- what holds of both holds of it
pub by_root : (how : How) (root : Path) (fault : PutFault) (P : PutFault → Type 0) → P puts.NoMemory → P (root_fault how root) → IsRootFault how root fault → P fault
by_root how root fault P memory other (inl is) = subst P (sym is) memory
by_root how root fault P memory other (inr is) = subst P (sym is) other

-- no count of faults is blamed for it
abbrev IsCounted : PutFault → Type 0
IsCounted puts.Failed = Unit {0}
IsCounted puts.Source = Unit {0}
IsCounted puts.Random = Unit {0}
IsCounted fault = ⊥

uncounted : (how : How) (root : Path) → ¬ IsCounted (root_fault how root)
uncounted New root counted = counted
uncounted InPlace root counted = counted

pub root_blames : (how : How) (root : Path) (fault blamed : PutFault) {n : ℕ} → IsCounted blamed → IsRootFault how root fault → Blames {T = Unit {0}} (Err fault) blamed n n
root_blames how root fault blamed counted is =
    unblamed (Err fault) fault blamed refl
    (by_root how root fault (λ x. x ≢ blamed) (λ same. subst IsCounted (sym same) counted) (λ same. uncounted how root (subst IsCounted (sym same) counted)) is) (omega arith)

answers_memory : (how : How) (root : Path) → AnswersRoot how root (Err puts.NoMemory)
answers_memory New root = λ other. refl
answers_memory InPlace root = λ other. refl

answers_root : (how : How) (root : Path) → AnswersRoot how root (Err (root_fault how root))
answers_root New root = λ other. absurd (other refl)
answers_root InPlace root = λ other. absurd (other refl)

pub makes_root : (how : How) (vault : OpenedVault) (work : Path) (path : plain.Path) (item : NewItem) (ending : Ending) (t : Option Told) (fault : PutFault)
    → path ≡ [] → IsRootFault how vault.root fault → MakesAt how vault work path item ending [] t t (Err fault)
makes_root how vault work path item ending t fault none is = record {
  named = λ front name whole. absurd (child-not_base front name (sym whole ∙ none));
  root = λ base. (refl, refl, by_root how vault.root fault (λ x. AnswersRoot how vault.root (Err x)) (answers_memory how vault.root) (answers_root how vault.root) is);
}
