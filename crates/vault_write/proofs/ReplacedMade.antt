-- What a call promises that replaced the content of a file that stands.
use Rattle.std.proofs.Common.{arith, ◌≡◌, ◌≢◌, ℕ, ◌≤◌, List, [], ◌∷◌, ◌++◌, length, Option, Some, None, Result, Ok, Err, refl, sym, ap, ◌∙◌, inl, inr, subst, codes, IsTrue}
use Rattle.chunk_files.specs.Encrypt.{draws, encrypt}
use Rattle.chunk_files.specs.FileOf.{FilesAreWhatTheyGive, EncryptedFilesAreFiles}
use Rattle.chunk_files.specs.Keys as contents
use Rattle.chunk_files.specs.Keys.{Keys}
use Rattle.port_model.specs.Draws.{ByteStream}
use Rattle.folder_spec.specs.declared.FolderFault.{FolderFault}
use Rattle.folder_spec.specs.declared.FolderFault.TheVariants as folder
use Rattle.folder_spec.specs.Path.{Path, below}
use Rattle.folder_spec.specs.State.{State, IsSound}
use Rattle.folder_spec.specs.Edit.{Edit, edited, edits_under, file_edit, view_after, PublishesIn, HasSettledIn}
use Rattle.folder_spec.specs.Event.{Call, MakeDir, Create, Append, Sync, Settle, Rename, RemoveFile, RemoveDir, Told, FromTo}
use Rattle.folder_spec.specs.Moments.{Went}
use Rattle.folder_spec.specs.Seen.{IfSeen, seen, under}
use Rattle.folder_spec.specs.View.{View}
use Rattle.folder_spec.proofs.Moments.{went_more, went_to}
use Rattle.plain_tree.specs.Names as plain
use Rattle.vault_read.specs.Laws.{KeepsVaults}
use Rattle.vault_spec.specs.Opened.{OpenedVault}
use Rattle.vault_spec.specs.Adding.{OpensAs, OpensWith}
use Rattle.vault_spec.specs.Alike.{IsOrderly}
use Rattle.vault_spec.specs.Anywhere.{KeepsEntered}
use Rattle.vault_spec.specs.Making as making
use Rattle.vault_spec.specs.Making.{NewFile, Allows}
use Rattle.vault_spec.specs.Opens.{Opened, opened, opened_file}
use Rattle.vault_spec.specs.Standing as stands
use Rattle.vault_spec.specs.Standing.{standing}
use Rattle.vault_spec.specs.Vault.{format_of}
use Rattle.item_making.specs.Ending.{Ending, Whole}
use Rattle.content_writing.specs.Content.{Coming}
use Rattle.content_writing.specs.Writing.{DrewNoZeros}
use Rattle.item_making.specs.Faults.{of_folder}
use Rattle.item_making.specs.declared.fault.PutFault.{PutFault}
use Rattle.item_making.specs.declared.fault.PutFault.TheVariants as puts
use Rattle.vault_write.specs.Calls.{InPlace, MakesOne, Writing}
use Rattle.vault_write.specs.Editing.{Edits, HasFinished, IsEditing, SeesSome}
use Rattle.vault_write.specs.Filing.{DoesReplace, IsWhole, OnlyStages, PlacesBy, PlacesFile, ReplacesContent, StopsBy, replace_making}
use Rattle.item_making.specs.Making.{Placing, format, path_of, put_by, put_item, is_unstaged, StagesOrPlaces}
use Rattle.item_making.specs.Placing.{IsMaking, MayMake, ShowsNewTree, making_at, EndsAs, OpensItem}
use Rattle.vault_write.specs.Refusing.{AnswersOver, AnswersPut, AnswersPutBy}
use Rattle.vault_write.specs.Showing.{EditsShowTrees, EditsBeforeTheLastKeepTrees, MakeItem, MakesAlone, SettledEditsShowTrees}
use Rattle.vault_write.specs.Slots.{placing}
use Rattle.item_making.specs.Trees.{StaysGood, opens_as}
use Rattle.vault_write.proofs.Adding.{adds_staging}
use Rattle.vault_write.proofs.Begun.{folders_seen}
use Rattle.vault_write.proofs.FileBegun.{opens_whole}
use Rattle.vault_write.proofs.FileMade.{begins_at, first_shown, stopped_by, stopped_making}
use Rattle.vault_write.proofs.ItemMade.{Brings, MayRefuse, OldOrNewOpens, RootsShow, folder_drew, one_broken, one_error, one_stopped, one_whole}
use Rattle.vault_write.proofs.Seeing.{if_seen}

-- Where the edit is done, this opens there.
pub record IsReplaced (p : Placing) (opens : Opened) (drawn : List ℕ) (at : Path) (bytes : List ℕ) (a : Told) : Type 0 where
  pub place : Path
  pub at_is : at ≡ p.vault.root ++ place
  pub stands : standing (format p) (under p.vault.root (seen a.state)) (path_of p) ≡ stands.File place
  pub making : making_at p (put_item p drawn) a.state ≡ replace_making at bytes
  pub item : MakesAlone p opens (file_edit place bytes ∷ []) a.state
  pub anew : opened (format p) (edited (under p.vault.root (seen a.state)) (file_edit place bytes)) (path_of p) ≡ opens
  pub enters : KeepsEntered (format p) (under p.vault.root (seen a.state)) (edited (under p.vault.root (seen a.state)) (file_edit place bytes))
  pub alone : IsOrderly (format p) (under p.vault.root (seen a.state)) → OpensWith (format p) (under p.vault.root (seen a.state)) (edited (under p.vault.root (seen a.state)) (file_edit place bytes)) (path_of p) opens
  pub apart : below p.work p.vault.root ≡ None
  pub beside : below p.vault.root p.work ≡ None

pub is_replaced : (vault : OpenedVault) → KeepsVaults (format_of vault.vault) → (work : Path) (front : plain.Path) (name content drawn : List ℕ) (at place : Path) (a : Told) → IsSound a.state
    → at ≡ vault.root ++ place → standing (format_of vault.vault) (under vault.root (seen a.state)) (front ++ name ∷ []) ≡ stands.File place → below work vault.root ≡ None → below vault.root work ≡ None
    → IsReplaced (placing vault work front name (NewFile content)) (opened_file (format_of vault.vault).content (Some (encrypt (format_of vault.vault).content drawn content))) drawn at
    (encrypt (format_of vault.vault).content drawn content) a
is_replaced vault laws work front name content drawn at place a sound at_is there apart beside = record {
  place = place;
  at_is = at_is;
  stands = there;
  making = ap (put_by (placing vault work front name (NewFile content)) drawn (under vault.root (seen a.state))) there ∙ ap (λ q. replace_making q (encrypt (format_of vault.vault).content drawn content)) (sym at_is);
  item = λ good. record {
    alone = laws.replaced_alone (under vault.root (seen a.state)) (front ++ name ∷ []) place (encrypt (format_of vault.vault).content drawn content) good.orderly there;
    clean = (laws.replaced_clean (under vault.root (seen a.state)) (front ++ name ∷ []) place (encrypt (format_of vault.vault).content drawn content) good.orderly there good.clean, tt);
    tidy = laws.replaced_tidy (under vault.root (seen a.state)) (front ++ name ∷ []) place (encrypt (format_of vault.vault).content drawn content) good.orderly there;
    vault = (laws.replaced_stay (under vault.root (seen a.state)) (front ++ name ∷ []) place (encrypt (format_of vault.vault).content drawn content) good.orderly there, tt);
  };
  anew = (laws.replaced_anew (under vault.root (seen a.state)) (front ++ name ∷ []) place (encrypt (format_of vault.vault).content drawn content) (folders_seen vault.root a.state sound) there).there (front ++ name ∷ []) there;
  enters = (laws.replaced_anew (under vault.root (seen a.state)) (front ++ name ∷ []) place (encrypt (format_of vault.vault).content drawn content) (folders_seen vault.root a.state sound) there).enters;
  alone = λ orderly. laws.replaced_alone (under vault.root (seen a.state)) (front ++ name ∷ []) place (encrypt (format_of vault.vault).content drawn content) orderly there;
  apart = apart;
  beside = beside;
}

-- what is answered where a file stands
answers_over : (p : Placing) (opens : Opened) (drawn : List ℕ) (at : Path) (bytes : List ℕ) (t : Option Told) → ((a : Told) → t ≡ Some a → IsReplaced p opens drawn at bytes a)
    → (ending : Ending) (result : Result (Unit {0}) PutFault) → ((x : View) → AnswersOver p drawn ending x result) → IfSeen t (λ v. AnswersPut p drawn ending (under p.vault.root v) result)
answers_over p opens drawn at bytes t k ending result answers =
    if_seen (λ v. AnswersPut p drawn ending (under p.vault.root v) result) t
    (λ a told. subst (λ s. AnswersPutBy s p drawn ending (under p.vault.root (seen a.state)) result) (sym (k a told).stands) (answers (under p.vault.root (seen a.state))))

one_edit : (p : Placing) (at place : Path) (bytes : List ℕ) → at ≡ p.vault.root ++ place → file_edit at bytes ∷ [] ≡ edits_under p.vault.root (file_edit place bytes ∷ [])
one_edit p at place bytes is = ap (λ q. file_edit q bytes ∷ []) is

module _ (shows : EditsShowTrees) (settles : SettledEditsShowTrees) (roots : RootsShow) (p : Placing) (drawn : List ℕ) (at : Path) (bytes : List ℕ) where
  module _ (a b : Told) (k : IsReplaced p (opens_as p.item) drawn at bytes a) where
    abbrev u : View
    u = under p.vault.root (seen a.state)

    replacing_is : (s : State) → IsEditing p.work p.vault.root (replace_making at bytes) a.state s → IsMaking p Whole (replace_making at bytes) a.state s
    replacing_is s e = record {
      others = e.others;
      trees = shows p (file_edit k.place bytes ∷ []) a.state s k.item (subst (λ es. PublishesIn (is_unstaged p.work) es a.state s) (one_edit p at k.place bytes k.at_is) e.publishes);
      fronts = e.fronts;
    }

    went_replacing : Edits p.work p.vault.root (replace_making at bytes) a b → Went (IsMaking p Whole (making_at p (put_item p drawn) a.state) a.state) (λ s e. StagesOrPlaces p.work (making_at p (put_item p drawn) a.state) s e.call) a b
    went_replacing went = subst (λ n. Went (IsMaking p Whole n a.state) (λ s e. StagesOrPlaces p.work n s e.call) a b) (sym k.making)
        (went_more (IsEditing p.work p.vault.root (replace_making at bytes) a.state) (IsMaking p Whole (replace_making at bytes) a.state) (λ s e. StagesOrPlaces p.work (replace_making at bytes) s e.call)
        (λ s e. StagesOrPlaces p.work (replace_making at bytes) s e.call) a b replacing_is (λ s e h. h) went)

    replaced_tree : HasFinished p.work p.vault.root (replace_making at bytes) a b → ShowsNewTree p a.state b.state
    replaced_tree h = settles p (file_edit k.place bytes ∷ []) a.state b.state k.item (subst (λ es. HasSettledIn (is_unstaged p.work) es a.state b.state) (one_edit p at k.place bytes k.at_is) h.settled)

    all_seen : ((q : Path) → IsTrue (is_unstaged p.work q) → seen b.state q ≡ view_after (seen a.state) (file_edit at bytes ∷ []) q) → under p.vault.root (seen b.state) ≡ edited u (file_edit k.place bytes)
    all_seen views = first_shown roots p k.apart k.beside a b (file_edit k.place bytes ∷ []) (file_edit at bytes ∷ []) (one_edit p at k.place bytes k.at_is) views

    none_seen : ((q : Path) → IsTrue (is_unstaged p.work q) → seen b.state q ≡ seen a.state q) → under p.vault.root (seen b.state) ≡ u
    none_seen views = first_shown roots p k.apart k.beside a b [] [] refl views

    replaced_opens : under p.vault.root (seen b.state) ≡ edited u (file_edit k.place bytes) → OpensItem p u (under p.vault.root (seen b.state))
    replaced_opens now = (
      ap (λ w. opened (format p) w (path_of p)) now ∙ k.anew,
      λ orderly. subst (λ w. OpensWith (format p) u w (path_of p) (opens_as p.item)) (sym now) (k.alone orderly),
      λ clean orderly.
          let made : MakeItem (format p) u (path_of p) (opens_as p.item) (file_edit k.place bytes ∷ []) = k.item (record { clean = clean; orderly = orderly }) in
          subst (λ w. StaysGood (format p) u w) (sym now) (record { clean = made.clean.0; tidy = made.tidy; orderly = made.vault.0.0; loads = made.vault.0.1 }),
      subst (λ w. KeepsEntered (format p) u w) (sym now) k.enters,
    )

    replaced_ends : HasFinished p.work p.vault.root (replace_making at bytes) a b → EndsAs p u (under p.vault.root (seen b.state)) (Ok tt)
    replaced_ends h = replaced_opens (all_seen h.views)

    old_or_new_opens : Edits p.work p.vault.root (replace_making at bytes) a b → OldOrNewOpens p u (under p.vault.root (seen b.state))
    old_or_new_opens went =
        let now : SeesSome p.work (file_edit at bytes ∷ []) a.state b.state = (went_to (IsEditing p.work p.vault.root (replace_making at bytes) a.state) (λ s e. StagesOrPlaces p.work (replace_making at bytes) s e.call) a b went).sees in
        by_done now.done now.more now.is now.views
      where
        by_done : (done more : List Edit) → file_edit at bytes ∷ [] ≡ done ++ more → ((q : Path) → IsTrue (is_unstaged p.work q) → seen b.state q ≡ view_after (seen a.state) done q)
            → OldOrNewOpens p u (under p.vault.root (seen b.state))
        by_done [] more is views = inl (subst (λ w. OpensAs (format p) u w) (sym (none_seen views)) (λ path. refl))
        by_done (e ∷ []) more is views =
            let same : e ≡ file_edit at bytes = cc in
            inr (replaced_opens (all_seen (λ q unstaged. views q unstaged ∙ ap (λ x. edited (seen a.state) x q) same)))
        by_done (e ∷ next ∷ done) more is views = cc

  module _ (t w : Option Told) (k : (a : Told) → t ≡ Some a → IsReplaced p (opens_as p.item) drawn at bytes a) (allowed : Allows (format p) p.name) (size : length drawn ≡ making.draws (format p) p.item) where
    brings : (a b : Told) → t ≡ Some a → Brings InPlace p drawn (replace_making at bytes) a b
    brings a b is = record { went = went_replacing a b (k a is); tree = replaced_tree a b (k a is); opens = replaced_ends a b (k a is); old_or_new = old_or_new_opens a b (k a is) }

    pub replaced_ok : DrewNoZeros (format p).content drawn → FromTo (Edits p.work p.vault.root (replace_making at bytes)) t w → FromTo (HasFinished p.work p.vault.root (replace_making at bytes)) t w → MakesOne InPlace p Whole drawn t w (Ok tt)
    replaced_ok none went finished =
        one_whole InPlace p drawn (replace_making at bytes) t w brings size went none finished (answers_over p (opens_as p.item) drawn at bytes t k Whole (Ok tt) (λ x. (allowed, refl, size, none)))

    pub replaced_failed : (fault : FolderFault) → DrewNoZeros (format p).content drawn → FromTo (Edits p.work p.vault.root (replace_making at bytes)) t w → MakesOne InPlace p Whole drawn t w (Err (of_folder fault))
    replaced_failed fault none went =
        one_broken InPlace p drawn (replace_making at bytes) t w brings size went fault none (answers_over p (opens_as p.item) drawn at bytes t k Whole (Err (of_folder fault)) (answers fault))
      where
        answers : (fault : FolderFault) (x : View) → AnswersOver p drawn Whole x (Err (of_folder fault))
        answers folder.Failed x = tt
        answers folder.Refused x = tt
        answers folder.NoMemory x = tt

-- ---- where nothing but its stage was written

places_none : (work at : Path) (bytes : List ℕ) (some_files : List (List ℕ)) (s : State) (call : Call) → StagesOrPlaces work (stopped_making [] some_files) s call → StagesOrPlaces work (replace_making at bytes) s call
places_none work at bytes some_files s (MakeDir q) (inl staged) = inl staged
places_none work at bytes some_files s (MakeDir q) (inr place) = absurd (omega (arith, place.1.1))
places_none work at bytes some_files s (Create q) h = h
places_none work at bytes some_files s (Append q piece) h = h
places_none work at bytes some_files s (Sync q) h = h
places_none work at bytes some_files s Settle h = h
places_none work at bytes some_files s (Rename staged q) h = absurd (omega (arith, h.1.1.1))
places_none work at bytes some_files s (RemoveFile q) h = h
places_none work at bytes some_files s (RemoveDir q) h = h

module _ (keeps : EditsBeforeTheLastKeepTrees) (roots : RootsShow) (p : Placing) (opens : Opened) (drawn : List ℕ) (at : Path) (bytes : List ℕ) where
  module _ (ending : Ending) (a b : Told) (k : IsReplaced p opens drawn at bytes a) where
    only_staging_is : (s : State) → IsEditing p.work p.vault.root (stopped_making [] (bytes ∷ [])) a.state s → IsMaking p ending (replace_making at bytes) a.state s
    only_staging_is s e = record { others = e.others; trees = keeps p ending opens [] (file_edit k.place bytes) a.state s k.item e.publishes; fronts = e.fronts }

    went_only : Edits p.work p.vault.root (stopped_making [] (bytes ∷ [])) a b
        → Went (IsMaking p ending (making_at p (put_item p drawn) a.state) a.state) (λ s e. StagesOrPlaces p.work (making_at p (put_item p drawn) a.state) s e.call) a b
    went_only went = subst (λ n. Went (IsMaking p ending n a.state) (λ s e. StagesOrPlaces p.work n s e.call) a b) (sym k.making)
        (went_more (IsEditing p.work p.vault.root (stopped_making [] (bytes ∷ [])) a.state) (IsMaking p ending (replace_making at bytes) a.state)
        (λ s e. StagesOrPlaces p.work (stopped_making [] (bytes ∷ [])) s e.call) (λ s e. StagesOrPlaces p.work (replace_making at bytes) s e.call) a b only_staging_is
        (λ s e h. places_none p.work at bytes (bytes ∷ []) s e.call h) went)

  module _ (a b : Told) (k : IsReplaced p opens drawn at bytes a) where
    opens_yet : Edits p.work p.vault.root (stopped_making [] (bytes ∷ [])) a b → OpensAs (format p) (under p.vault.root (seen a.state)) (under p.vault.root (seen b.state))
    opens_yet went =
        let now : SeesSome p.work [] a.state b.state = (went_to (IsEditing p.work p.vault.root (stopped_making [] (bytes ∷ [])) a.state) (λ s e. StagesOrPlaces p.work (stopped_making [] (bytes ∷ [])) s e.call) a b went).sees in
        by_done now.done now.more now.is now.views
      where
        by_done : (done more : List Edit) → [] ≡ done ++ more → ((q : Path) → IsTrue (is_unstaged p.work q) → seen b.state q ≡ view_after (seen a.state) done q) → OpensAs (format p) (under p.vault.root (seen a.state)) (under p.vault.root (seen b.state))
        by_done [] more is views = subst (λ w. OpensAs (format p) (under p.vault.root (seen a.state)) w) (sym (first_shown roots p k.apart k.beside a b [] [] refl views)) (λ path. refl)
        by_done (e ∷ done) more is views = cc

  pub replaced_stopped : (t w : Option Told) → ((a : Told) → t ≡ Some a → IsReplaced p opens drawn at bytes a) → (ending : Ending) (fault : PutFault) → MayRefuse p drawn t w fault
      → FromTo (Edits p.work p.vault.root (stopped_making [] (bytes ∷ []))) t w → ((x : View) → AnswersOver p drawn ending x (Err fault)) → MakesOne InPlace p ending drawn t w (Err fault)
  replaced_stopped t w k ending fault may went answers =
      one_stopped InPlace p ending drawn (Edits p.work p.vault.root (stopped_making [] (bytes ∷ []))) t w fault may (λ a b is e. went_only ending a b (k a is) e) (λ a b is e. opens_yet a b (k a is) e) went
      (answers_over p opens drawn at bytes t k ending (Err fault) answers)

-- ---- by the answer

over_by : (p : Placing) (w : Writing) (u : View) (fault : PutFault) → Allows (format p) p.name → StopsBy (format p).content w fault → AnswersOver p w.drawn w.ending u (Err fault)
over_by p w u (puts.Damaged at fault) allowed stops = (allowed, stops)
over_by p w u (puts.Limit limit) allowed stops = (allowed, stops)
over_by p w u puts.ZeroRandom allowed stops = (allowed, stops)
over_by p w u puts.Source allowed stops = allowed
over_by p w u puts.Random allowed stops = allowed
over_by p w u puts.Failed allowed stops = tt
over_by p w u puts.NoMemory allowed stops = tt
over_by p w u (puts.Find fault) allowed stops = absurd stops
over_by p w u (puts.NotAllowed path) allowed stops = absurd stops
over_by p w u (puts.Taken at) allowed stops = absurd stops

module _ (shows : EditsShowTrees) (keeps : EditsBeforeTheLastKeepTrees) (settles : SettledEditsShowTrees) (roots : RootsShow) (gives : FilesAreWhatTheyGive) (are : EncryptedFilesAreFiles)
    (vault : OpenedVault) (work : Path) (front : plain.Path) (name : List ℕ) (allowed : Allows (format_of vault.vault) name) (at : Path) (t s : Option Told) (may : MayMake t work vault.root)
    (sound : (a : Told) → t ≡ Some a → IsSound a.state) where
  abbrev keys : Keys
  keys = (format_of vault.vault).content

  abbrev put_place : List ℕ → Placing
  put_place content = placing vault work front name (NewFile content)

  abbrev opens_so : List ℕ → List ℕ → Opened
  opens_so content drawn = opened_file keys (Some (encrypt keys drawn content))

  module _ (replaced : (content drawn : List ℕ) (a : Told) → t ≡ Some a → IsReplaced (put_place content) (opens_so content drawn) drawn at (encrypt keys drawn content) a) (w : Writing)
      (enough : length w.drawn ≤ draws (contents.format_of keys) w.content) where
    whole_at : IsWhole keys w → (a : Told) → t ≡ Some a → IsReplaced (put_place w.content) (opens_as (NewFile w.content)) w.drawn at (encrypt keys w.drawn w.content) a
    whole_at whole a is = subst (λ o. IsReplaced (put_place w.content) o w.drawn at (encrypt keys w.drawn w.content) a) (opens_whole gives are keys w.drawn w.content whole.encrypted) (replaced w.content w.drawn a is)

    replaced_one : (result : Result (Unit {0}) PutFault) → (result ≢ Err puts.ZeroRandom → DrewNoZeros keys w.drawn) → PlacesBy keys w (DoesReplace work vault.root at (encrypt keys w.drawn w.content) t s) (OnlyStages work (encrypt keys w.drawn w.content ∷ []) t s) result
        → MakesOne InPlace (put_place w.content) w.ending w.drawn t s result
    replaced_one (Ok value) accepted (whole, does) =
        subst (λ x. MakesOne InPlace (put_place w.content) x w.drawn t s (Ok tt)) (sym whole.whole)
        (replaced_ok shows settles roots (put_place w.content) w.drawn at (encrypt keys w.drawn w.content) t s (whole_at whole) allowed whole.encrypted.enough (accepted (λ clash. cc)) does.0 does.1)
    replaced_one (Err fault) accepted (stops, inl stages) =
        replaced_stopped keeps roots (put_place w.content) (opens_so w.content w.drawn) w.drawn at (encrypt keys w.drawn w.content) t s (replaced w.content w.drawn) w.ending fault (stopped_by (put_place w.content) w (encrypt keys w.drawn w.content ∷ []) t s fault enough stops (λ other. accepted (λ same. other (one_error same))) stages)
        (adds_staging None work (codes "f") [] (encrypt keys w.drawn w.content ∷ []) t s folder.NoMemory stages vault.root (stopped_making [] (encrypt keys w.drawn w.content ∷ [])) [] [] t (λ file among. among)
        (begins_at work vault.root (stopped_making [] (encrypt keys w.drawn w.content ∷ [])) t refl (λ a is. ([], refl)) may sound)).0
        (λ x. over_by (put_place w.content) w x fault allowed stops)
    replaced_one (Err fault) accepted (stops, inr (failed, is, whole, does)) =
        subst (λ x. MakesOne InPlace (put_place w.content) w.ending w.drawn t s (Err x)) (sym is)
        (subst (λ x. MakesOne InPlace (put_place w.content) x w.drawn t s (Err (of_folder failed))) (sym whole.whole)
        (replaced_failed shows settles roots (put_place w.content) w.drawn at (encrypt keys w.drawn w.content) t s (whole_at whole) allowed whole.encrypted.enough failed (accepted (λ same. folder_drew failed (sym is ∙ one_error same))) does.0))

  pub replaced_file : ((content drawn : List ℕ) (a : Told) → t ≡ Some a → IsReplaced (put_place content) (opens_so content drawn) drawn at (encrypt keys drawn content) a)
      → (coming left : Option Coming) (stream stream' : Option ByteStream) (result : Result (Unit {0}) PutFault) → ReplacesContent keys work vault.root at coming left stream stream' t s result
      → PlacesFile InPlace vault work front name coming left stream stream' t s result
  replaced_file replaced coming left stream stream' result k = record { writing = k.writing; takes = k.takes; one = replaced_one replaced k.writing k.enough result k.takes.accepted k.ends }
