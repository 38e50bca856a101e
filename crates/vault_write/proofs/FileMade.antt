-- What a call promises that made a file's edits, or some of them.
use Rattle.std.specs.Prelude.{Contains}
use Rattle.std.proofs.Common.{arith, false, Bool, ◌≡◌, ◌≢◌, ℕ, ◌≤◌, List, [], ◌∷◌, ◌++◌, length, Option, Some, None, Result, Ok, Err, IsErrAnd, refl, sym, ap, ◌∙◌, inl, inr, subst, append-nil, append_assoc, codes, IsTrue}
use Rattle.std.proofs.lemmas.List.Elements.{Contains-append_left, Contains-append_right}
use Rattle.std.proofs.Math.Path.{fun_ext}
use Rattle.chunk_files.specs.Encrypt.{draws, encrypt}
use Rattle.chunk_files.specs.FileOf.{FilesAreWhatTheyGive, EncryptedFilesAreFiles}
use Rattle.chunk_files.specs.Keys as contents
use Rattle.chunk_files.specs.Keys.{Keys}
use Rattle.port_model.specs.Draws.{ByteStream}
use Rattle.folder_spec.specs.declared.FolderFault.TheVariants as folder
use Rattle.folder_spec.specs.Path.{Path, below}
use Rattle.folder_spec.specs.State.{State, IsSound}
use Rattle.folder_spec.specs.Edit.{Edit, edits_under, view_after, PublishesIn}
use Rattle.folder_spec.specs.Event.{Call, MakeDir, Create, Append, Sync, Settle, Rename, RemoveFile, RemoveDir, Told, FromTo}
use Rattle.folder_spec.specs.Moments.{Went}
use Rattle.folder_spec.specs.Seen.{IfSeen, seen, under}
use Rattle.folder_spec.specs.View.{Found, View}
use Rattle.folder_spec.proofs.Moments.{went_more, went_to}
use Rattle.plain_tree.specs.Names as plain
use Rattle.plain_tree.specs.Names.{is_name}
use Rattle.vault_read.specs.Laws.{KeepsVaults}
use Rattle.vault_spec.specs.Opened.{OpenedVault}
use Rattle.vault_read.specs.Opened.{kind_of}
use Rattle.vault_read.specs.declared.vault.VaultKind.TheVariants as kind
use Rattle.vault_spec.specs.Adding.{OpensAs}
use Rattle.vault_spec.specs.Anywhere.{ComesAtLast}
use Rattle.vault_spec.specs.Format.{Format}
use Rattle.vault_spec.specs.Gocryptfs.{taken_unless}
use Rattle.vault_spec.specs.Making as making
use Rattle.vault_spec.specs.Making.{NewFile, full_texts}
use Rattle.vault_spec.specs.Opens.{Opened, opened_file}
use Rattle.vault_spec.specs.Vault.{format_of}
use Rattle.item_making.specs.Ending.{Ending}
use Rattle.content_writing.specs.Content.{Coming, still_coming}
use Rattle.item_making.specs.Faults.{of_folder}
use Rattle.content_writing.specs.Writing.{DrewNoZeros}
use Rattle.item_making.specs.declared.fault.PutFault.{PutFault}
use Rattle.item_making.specs.declared.fault.PutFault.TheVariants as puts
use Rattle.vault_write.specs.Calls.{AnswersBy, How, InPlace, IsOfMaking, MakesFile, MakesOne, New, Writing}
use Rattle.vault_write.specs.Editing.{DoesEdits, Edits, HasBegun, IsEditing, SeesSome, side_edits}
use Rattle.vault_write.specs.Faults.{IsFileFault}
use Rattle.vault_write.specs.Filing.{IsWhole, OnlyStages, PlacesEntry, PlacesBy, PlacesFile, StopsBy, entry_edit, entry_files, entry_making, file_of}
use Rattle.item_making.specs.Making.{Placing, Making, format, path_of, new_item, is_unstaged, StagesOrPlaces}
use Rattle.item_making.specs.Placing.{IsMaking, MayMake, making_at}
use Rattle.vault_write.specs.Refusing.{Answers, HasTaken, MayDraw}
use Rattle.vault_write.specs.Showing.{EditsShowTrees, EditsBeforeTheLastKeepTrees, SettledEditsShowTrees}
use Rattle.vault_write.specs.Slots.{placing, wants_text}
use Rattle.vault_write.proofs.Adding.{adds_staging}
use Rattle.vault_write.proofs.Begun.{all_are, all_below}
use Rattle.vault_write.proofs.Edited.{begun}
use Rattle.vault_write.proofs.Exits.{at_fault}
use Rattle.vault_write.proofs.FileBegun.{IsFiled, SlotAt, file_making, filed_in_cm, filed_in_go, is_begun, opens_whole}
use Rattle.vault_write.proofs.Filing.{no_zeros_in_none, only_staged, takes_none, untaken}
use Rattle.vault_write.proofs.Found.{Enters}
use Rattle.vault_write.proofs.ItemMade.{IsBegun, IsRootFault, IsSplit, MayRefuse, RootsShow, at_itself, by_root, folder_drew, fronts_keep, makes_named, makes_root, one_error, one_failed, one_ok, one_refused, one_stopped, root_fault, split}
use Rattle.vault_write.proofs.Seeing.{if_seen}
use Rattle.vault_write.proofs.Stages.{root_unstaged}

-- its edits but the last
abbrev pub stopped_making : List Edit → List (List ℕ) → Making
stopped_making firsts some_files = record { edits = firsts; files = some_files; replaces = false }

places_more : (work : Path) (firsts : List Edit) (e : Edit) (some_files : List (List ℕ)) (s : State) (call : Call) → StagesOrPlaces work (stopped_making firsts some_files) s call → StagesOrPlaces work (file_making firsts e some_files) s call
places_more work firsts e some_files s (MakeDir at) (inl staged) = inl staged
places_more work firsts e some_files s (MakeDir at) (inr place) = inr (place.0, Contains-append_left firsts (e ∷ []) place.0 place.1, place.2)
places_more work firsts e some_files s (Create at) h = h
places_more work firsts e some_files s (Append at piece) h = h
places_more work firsts e some_files s (Sync at) h = h
places_more work firsts e some_files s Settle h = h
places_more work firsts e some_files s (Rename staged at) h = (h.0, (h.1.0, Contains-append_left firsts (e ∷ []) h.1.0 h.1.1, h.1.2), h.2)
places_more work firsts e some_files s (RemoveFile at) h = h
places_more work firsts e some_files s (RemoveDir at) h = h

-- until the last of some edits, what opens stays
fronts_keep_all : (f : Format) (v w : View) (first rest : List Edit) (e : Edit) (at : plain.Path) (item : Opened) → OpensAs f v w → ComesAtLast f v w ((first ++ rest) ++ e ∷ []) at item → OpensAs f v (view_after w first)
fronts_keep_all f v w first [] e at item same comes = fronts_keep f v w first e [] at item same (subst (λ es. ComesAtLast f v w (es ++ e ∷ []) at item) (append-nil first) comes)
fronts_keep_all f v w first (next ∷ rest) e at item same comes =
    fronts_keep f v w first next (rest ++ e ∷ []) at item same (subst (λ es. ComesAtLast f v w es at item) (append_assoc first (next ∷ rest) (e ∷ [])) comes)

-- what is seen at the root after the first of some edits below it
pub first_shown : RootsShow → (p : Placing) → below p.work p.vault.root ≡ None → below p.vault.root p.work ≡ None → (a b : Told) (first done : List Edit) → done ≡ edits_under p.vault.root first
    → ((q : Path) → IsTrue (is_unstaged p.work q) → seen b.state q ≡ view_after (seen a.state) done q) → under p.vault.root (seen b.state) ≡ view_after (under p.vault.root (seen a.state)) first
first_shown roots p apart beside a b first done is views =
    fun_ext (λ rest. views (p.vault.root ++ rest) (root_unstaged p.work p.vault.root (p.vault.root ++ rest) apart beside (at_itself p.vault.root rest)))
    ∙ ap (λ es. under p.vault.root (view_after (seen a.state) es)) is ∙ roots p.vault.root (seen a.state) first

module _ (keeps : EditsBeforeTheLastKeepTrees) (roots : RootsShow) (p : Placing) (opens : Opened) (drawn : List ℕ) (firsts : List Edit) (e : Edit) (some_files : List (List ℕ)) where
  module _ (ending : Ending) (a b : Told) (filed : IsFiled p opens drawn firsts e some_files a) where
    stopped_is : (s : State) → IsEditing p.work p.vault.root (stopped_making firsts some_files) a.state s → IsMaking p ending (file_making firsts e some_files) a.state s
    stopped_is s k = record {
      others = k.others;
      trees = keeps p ending opens filed.before filed.at_last a.state s filed.item (subst (λ es. PublishesIn (is_unstaged p.work) es a.state s) filed.are k.publishes);
      fronts = k.fronts;
    }

    went_stopped : Edits p.work p.vault.root (stopped_making firsts some_files) a b
        → Went (IsMaking p ending (making_at p (new_item p drawn) a.state) a.state) (λ s k. StagesOrPlaces p.work (making_at p (new_item p drawn) a.state) s k.call) a b
    went_stopped went = subst (λ n. Went (IsMaking p ending n a.state) (λ s k. StagesOrPlaces p.work n s k.call) a b) (sym filed.making)
        (went_more (IsEditing p.work p.vault.root (stopped_making firsts some_files) a.state) (IsMaking p ending (file_making firsts e some_files) a.state)
        (λ s k. StagesOrPlaces p.work (stopped_making firsts some_files) s k.call) (λ s k. StagesOrPlaces p.work (file_making firsts e some_files) s k.call) a b stopped_is
        (λ s k h. places_more p.work firsts e some_files s k.call h) went)

  module _ (a b : Told) (filed : IsFiled p opens drawn firsts e some_files a) where
    opens_still : Edits p.work p.vault.root (stopped_making firsts some_files) a b → OpensAs (format p) (under p.vault.root (seen a.state)) (under p.vault.root (seen b.state))
    opens_still went =
        let now : SeesSome p.work firsts a.state b.state =
        (went_to (IsEditing p.work p.vault.root (stopped_making firsts some_files) a.state) (λ s k. StagesOrPlaces p.work (stopped_making firsts some_files) s k.call) a b went).sees in
        let parts : IsSplit p.vault.root filed.before now.done now.more = split p.vault.root filed.before now.done now.more (sym filed.are ∙ now.is) in
        subst (λ w. OpensAs (format p) (under p.vault.root (seen a.state)) w) (sym (first_shown roots p filed.apart filed.beside a b parts.first now.done parts.done_is now.views))
        (fronts_keep_all (format p) (under p.vault.root (seen a.state)) (under p.vault.root (seen a.state)) parts.first parts.rest filed.at_last (path_of p) opens (λ path. refl)
        (subst (λ es. ComesAtLast (format p) (under p.vault.root (seen a.state)) (under p.vault.root (seen a.state)) (es ++ filed.at_last ∷ []) (path_of p) opens) parts.is filed.last))

  pub filed_in_part : (t w : Option Told) → ((a : Told) → t ≡ Some a → IsFiled p opens drawn firsts e some_files a) → (ending : Ending) (fault : PutFault) → MayRefuse p drawn t w fault
      → FromTo (Edits p.work p.vault.root (stopped_making firsts some_files)) t w → IfSeen t (λ v. Answers p drawn ending (under p.vault.root v) (Err fault)) → MakesOne New p ending drawn t w (Err fault)
  filed_in_part t w filed ending fault may =
      one_stopped New p ending drawn (Edits p.work p.vault.root (stopped_making firsts some_files)) t w fault may (λ a b is k. went_stopped ending a b (filed a is) k) (λ a b is k. opens_still a b (filed a is) k)

-- ---- what is answered

answers_stopped : (p : Placing) (w : Writing) (u : View) (fault : PutFault) → MayDraw p u → HasTaken p w.drawn u None → StopsBy (format p).content w fault → Answers p w.drawn w.ending u (Err fault)
answers_stopped p w u (puts.Damaged at fault) may_draw free stops = (free, stops)
answers_stopped p w u (puts.Limit limit) may_draw free stops = (free, stops)
answers_stopped p w u puts.ZeroRandom may_draw free stops = (may_draw, stops)
answers_stopped p w u puts.Source may_draw free stops = may_draw
answers_stopped p w u puts.Random may_draw free stops = may_draw
answers_stopped p w u puts.Failed may_draw free stops = tt
answers_stopped p w u puts.NoMemory may_draw free stops = tt
answers_stopped p w u (puts.Find fault) may_draw free stops = absurd stops
answers_stopped p w u (puts.NotAllowed path) may_draw free stops = absurd stops
answers_stopped p w u (puts.Taken at) may_draw free stops = absurd stops

-- writing stops once the making has begun
pub stopped_by : (p : Placing) (w : Writing) (some_files : List (List ℕ)) (t s : Option Told) (fault : PutFault) → length w.drawn ≤ making.draws (format p) p.item → StopsBy (format p).content w fault → (fault ≢ puts.ZeroRandom → DrewNoZeros (format p).content w.drawn)
    → OnlyStages p.work some_files t s → MayRefuse p w.drawn t s fault
stopped_by p w some_files t s fault few stops accepted stages = record { few = few; tested = inl (goes_on fault stops); unpublished = only_staged p.work some_files t s stages; zeros = λ same. subst (StopsBy (format p).content w) same stops; accepted = accepted }
  where
    goes_on : (fault : PutFault) → StopsBy (format p).content w fault → IsOfMaking fault
    goes_on (puts.Find fault) stops = stops
    goes_on (puts.NotAllowed path) stops = stops
    goes_on (puts.Taken at) stops = stops
    goes_on fault stops = tt

-- ---- under a name

-- refused before anything was changed
pub file_refused : {vault : OpenedVault} {work : Path} {front : plain.Path} {name : List ℕ} {coming : Option Coming} {stream : Option ByteStream} {t u : Option Told} {result : Result (Unit {0}) PutFault} (how : How) (fault : PutFault)
    → IsErrAnd result (λ e. e ≡ fault) → fault ≢ puts.ZeroRandom → u ≡ t → ((content : List ℕ) (ending : Ending) → IfSeen t (λ v. AnswersBy how (placing vault work front name (NewFile content)) [] ending (under vault.root v) (Err fault)))
    → PlacesFile how vault work front name coming coming stream stream t u result
file_refused {vault} {work} {front} {name} {coming} {stream} {t} {u} {result} how fault by_fault some same answers =
    subst (λ o. PlacesFile how vault work front name coming coming stream stream t o result) (sym same)
    (at_fault (PlacesFile how vault work front name coming coming stream stream t t) result fault by_fault (record {
      writing = untaken coming;
      takes = takes_none (format_of vault.vault).content coming stream fault;
      one = one_refused how (placing vault work front name (NewFile (untaken coming).content)) (untaken coming).ending [] t fault (omega arith) (λ none. absurd (some none)) (λ other. no_zeros_in_none (format_of vault.vault).content) (answers (untaken coming).content (untaken coming).ending);
    }))

-- a making of edits at a root may begin
pub begins_at : (work root : Path) (m : Making) (t : Option Told) → m.replaces ≡ false → ((a : Told) → t ≡ Some a → (relative : List Edit) × (m.edits ≡ edits_under root relative)) → MayMake t work root
    → ((a : Told) → t ≡ Some a → IsSound a.state) → HasBegun work root m t
begins_at work root m None new relative may sound = tt
begins_at work root m (Some a) new relative may sound =
    begun work root m a (sound a refl) (may.ready (seen a.state) refl) may.apart may.beside
    (λ e among. all_below root (relative a refl).0 e (subst (λ es. Contains es e) (relative a refl).1 among)) new

module _ (shows : EditsShowTrees) (keeps : EditsBeforeTheLastKeepTrees) (settles : SettledEditsShowTrees) (roots : RootsShow) (gives : FilesAreWhatTheyGive) (are : EncryptedFilesAreFiles)
    (vault : OpenedVault) (work : Path) (front : plain.Path) (name : List ℕ) (at : Path) (inside full : Option (List ℕ)) (firsts : List Edit) where
  abbrev keys : Keys
  keys = (format_of vault.vault).content

  abbrev place : List ℕ → Placing
  place content = placing vault work front name (NewFile content)

  abbrev last_edit : List ℕ → List ℕ → Edit
  last_edit content drawn = entry_edit at inside (encrypt keys drawn content)

  abbrev all_files : List ℕ → List ℕ → List (List ℕ)
  all_files content drawn = full_texts full ++ encrypt keys drawn content ∷ []

  abbrev opens_so : List ℕ → List ℕ → Opened
  opens_so content drawn = opened_file keys (Some (encrypt keys drawn content))

  abbrev Filed : Option Told → Type 0
  Filed t = (content drawn : List ℕ) (a : Told) → t ≡ Some a → IsFiled (place content) (opens_so content drawn) drawn firsts (last_edit content drawn) (all_files content drawn) a

  module _ (t : Option Told) (may : MayMake t work vault.root) (sound : (a : Told) → t ≡ Some a → IsSound a.state) (filed : Filed t)
      (entry_within : (bytes file : List ℕ) → Contains (entry_files inside bytes) file → Contains (full_texts full ++ bytes ∷ []) file) where
    begins_some : (content drawn : List ℕ) → HasBegun work vault.root (stopped_making firsts (all_files content drawn)) t
    begins_some content drawn = begins_at work vault.root (stopped_making firsts (all_files content drawn)) t refl (λ a is. ((filed content drawn a is).before, (filed content drawn a is).are)) may sound

    pub begins_all : (content drawn : List ℕ) → HasBegun work vault.root (file_making firsts (last_edit content drawn) (all_files content drawn)) t
    begins_all content drawn = begins_at work vault.root (file_making firsts (last_edit content drawn) (all_files content drawn)) t refl
        (λ a is. (
          (filed content drawn a is).before ++ (filed content drawn a is).at_last ∷ [],
          all_are vault.root firsts (filed content drawn a is).before (last_edit content drawn) (filed content drawn a is).at_last (filed content drawn a is).are (filed content drawn a is).last_is,
        )) may sound

    -- nothing of it stood in the way
    free_at : (content drawn : List ℕ) → IfSeen t (λ v. HasTaken (place content) drawn (under vault.root v) None)
    free_at content drawn = if_seen (λ v. HasTaken (place content) drawn (under vault.root v) None) t (λ a told. (filed content drawn a told).taken)

    module _ (s : Option Told) (w : Writing) (enough : length w.drawn ≤ draws (contents.format_of keys) w.content) where
      begun_at : IsWhole keys w → (a : Told) → t ≡ Some a → IsBegun (place w.content) w.drawn (file_making firsts (last_edit w.content w.drawn) (all_files w.content w.drawn)) a
      begun_at whole a is = is_begun (place w.content) (opens_so w.content w.drawn) w.drawn firsts (last_edit w.content w.drawn) (all_files w.content w.drawn) a
          (opens_whole gives are keys w.drawn w.content whole.encrypted) (filed w.content w.drawn a is)

      -- it only was staged
      stopped_one : (fault : PutFault) → (fault ≢ puts.ZeroRandom → DrewNoZeros keys w.drawn) → StopsBy keys w fault → OnlyStages work (entry_files inside (encrypt keys w.drawn w.content)) t s → MakesOne New (place w.content) w.ending w.drawn t s (Err fault)
      stopped_one fault accepted stops stages =
          filed_in_part keeps roots (place w.content) (opens_so w.content w.drawn) w.drawn firsts (last_edit w.content w.drawn) (all_files w.content w.drawn) t s (filed w.content w.drawn) w.ending fault
          (stopped_by (place w.content) w (entry_files inside (encrypt keys w.drawn w.content)) t s fault enough stops accepted stages)
          (adds_staging None work (codes "f") [] (entry_files inside (encrypt keys w.drawn w.content)) t s folder.NoMemory stages vault.root (stopped_making firsts (all_files w.content w.drawn)) [] firsts t
          (entry_within (encrypt keys w.drawn w.content)) (begins_some w.content w.drawn)).0
          (λ v is. let free : HasTaken (place w.content) w.drawn (under vault.root v) None = free_at w.content w.drawn v is in
          answers_stopped (place w.content) w (under vault.root v) fault (record { dir = free.dir; there = free.there; free = free.is }) free stops)

      placed_one : (result : Result (Unit {0}) PutFault) → (result ≢ Err puts.ZeroRandom → DrewNoZeros keys w.drawn) → PlacesBy keys w (DoesEdits work vault.root (file_making firsts (last_edit w.content w.drawn) (all_files w.content w.drawn)) t s) (OnlyStages work (entry_files inside (encrypt keys w.drawn w.content)) t s) result
          → MakesOne New (place w.content) w.ending w.drawn t s result
      placed_one (Ok value) accepted (whole, does) =
          subst (λ x. MakesOne New (place w.content) x w.drawn t s (Ok tt)) (sym whole.whole)
          (one_ok shows settles roots (place w.content) w.drawn (file_making firsts (last_edit w.content w.drawn) (all_files w.content w.drawn)) t s (begun_at whole) whole.encrypted.enough (accepted (λ clash. cc)) does.0 does.1)
      placed_one (Err fault) accepted (stops, inl stages) = stopped_one fault (λ other. accepted (λ same. other (one_error same))) stops stages
      placed_one (Err fault) accepted (stops, inr (failed, is, whole, does)) =
          subst (λ x. MakesOne New (place w.content) w.ending w.drawn t s (Err x)) (sym is)
          (subst (λ x. MakesOne New (place w.content) x w.drawn t s (Err (of_folder failed))) (sym whole.whole)
          (one_failed shows settles roots (place w.content) w.drawn (file_making firsts (last_edit w.content w.drawn) (all_files w.content w.drawn)) t s (begun_at whole) whole.encrypted.enough failed (accepted (λ same. folder_drew failed (sym is ∙ one_error same)))
          does.0))

    pub file_placed : (coming left : Option Coming) (stream stream' : Option ByteStream) (s : Option Told) (result : Result (Unit {0}) PutFault)
        → PlacesEntry keys work vault.root inside (λ bytes. file_making firsts (entry_edit at inside bytes) (full_texts full ++ bytes ∷ [])) coming left stream stream' t s result → PlacesFile New vault work front name coming left stream stream' t s result
    file_placed coming left stream stream' s result k = record { writing = k.writing; takes = k.takes; one = placed_one s k.writing k.enough result k.takes.accepted k.ends }

-- ---- the calls by format

module _ (shows : EditsShowTrees) (keeps : EditsBeforeTheLastKeepTrees) (settles : SettledEditsShowTrees) (roots : RootsShow) (gives : FilesAreWhatTheyGive) (are : EncryptedFilesAreFiles)
    (enters : Enters) (vault : OpenedVault) (laws : KeepsVaults (format_of vault.vault)) (work : Path) (front : plain.Path) (name : List ℕ) (named : IsTrue (is_name name))
    (at side : Path) (full : Option (List ℕ)) (t : Option Told) (sound : (a : Told) → t ≡ Some a → IsSound a.state) (may : MayMake t work vault.root) (slot : SlotAt vault.root vault.vault front name t at side full) where
  abbrev file_keys : Keys
  file_keys = (format_of vault.vault).content

  module _ (is : kind_of vault.vault ≡ kind.Cryptomator) where
    cm_filed_at : Filed shows keeps settles roots gives are vault work front name at full full [] t
    cm_filed_at = filed_in_cm enters vault.root vault.vault is laws work front name named t sound may at side full slot

    pub cm_begins : (w : Writing) → HasBegun work vault.root (entry_making false side at None full (file_of file_keys w)) t
    cm_begins w = begins_all shows keeps settles roots gives are vault work front name at full full [] t may sound cm_filed_at (λ bytes file among. among) w.content w.drawn

    pub cm_placed : (coming left : Option Coming) (stream stream' : Option ByteStream) (s : Option Told) (result : Result (Unit {0}) PutFault)
        → PlacesEntry file_keys work vault.root full (entry_making false side at None full) coming left stream stream' t s result → PlacesFile New vault work front name coming left stream stream' t s result
    cm_placed coming left stream stream' s result k =
        file_placed shows keeps settles roots gives are vault work front name at full full [] t may sound cm_filed_at (λ bytes file among. among) coming left stream stream' s result k

  module _ (is : kind_of vault.vault ≡ kind.Gocryptfs) (wants : Bool) (side_is : IfSeen t (λ v. (wants ≡ wants_text (v side) full) × (taken_unless side (v side) full ≡ None))) where
    go_filed_at : Filed shows keeps settles roots gives are vault work front name at None full (side_edits wants side full) t
    go_filed_at = filed_in_go enters vault.root vault.vault is laws work front name named t sound may at side full wants slot side_is

    entry_last : (bytes file : List ℕ) → Contains (bytes ∷ []) file → Contains (full_texts full ++ bytes ∷ []) file
    entry_last bytes file among = Contains-append_right (full_texts full) (bytes ∷ []) file among

    pub go_begins : (w : Writing) → HasBegun work vault.root (entry_making wants side at full None (file_of file_keys w)) t
    go_begins w = begins_all shows keeps settles roots gives are vault work front name at None full (side_edits wants side full) t may sound go_filed_at entry_last w.content w.drawn

    pub go_placed : (coming left : Option Coming) (stream stream' : Option ByteStream) (s : Option Told) (result : Result (Unit {0}) PutFault)
        → PlacesEntry file_keys work vault.root None (entry_making wants side at full None) coming left stream stream' t s result → PlacesFile New vault work front name coming left stream stream' t s result
    go_placed coming left stream stream' s result k =
        file_placed shows keeps settles roots gives are vault work front name at None full (side_edits wants side full) t may sound go_filed_at entry_last coming left stream stream' s result k

-- ---- at a plain path

pub placed_at : {how : How} {vault : OpenedVault} {work : Path} {front : plain.Path} {name : List ℕ} {stream stream' : Option ByteStream} {t t' u : Option Told} {result : Result (Unit {0}) PutFault}
    → (reads : Option Path) (f f' : Found → Option Coming) → t' ≡ t → PlacesFile how vault work front name (still_coming reads t' f) (still_coming reads t' f') stream stream' t' u result
    → PlacesFile how vault work front name (still_coming reads t f) (still_coming reads t f') stream stream' t u result
placed_at {how} {vault} {work} {front} {name} {stream} {stream'} {t} {t'} {u} {result} reads f f' same k =
    subst (λ o. PlacesFile how vault work front name (still_coming reads o f) (still_coming reads o f') stream stream' o u result) same k

pub named_file : {how : How} {vault : OpenedVault} {work : Path} {path front : plain.Path} {name : List ℕ} {coming left : Option Coming} {stream stream' : Option ByteStream} {t u : Option Told} {result : Result (Unit {0}) PutFault}
    → path ≡ front ++ name ∷ [] → PlacesFile how vault work front name coming left stream stream' t u result → MakesFile how vault work path coming left stream stream' t u result
named_file {how} {vault} {work} {path} {front} {name} {t = t} {u = u} {result = result} is k = record {
  writing = k.writing;
  takes = k.takes;
  makes = makes_named how vault work path front name (NewFile k.writing.content) k.writing.ending k.writing.drawn t u result is k.one;
}

pub root_file : {vault : OpenedVault} {work : Path} {path : plain.Path} {coming : Option Coming} {stream : Option ByteStream} {t : Option Told} {fault : PutFault} (how : How) → path ≡ [] → IsRootFault how vault.root fault
    → MakesFile how vault work path coming coming stream stream t t (Err fault)
root_file {vault} {work} {path} {coming} {stream} {t} {fault} how none is = record {
  writing = untaken coming;
  takes = takes_none (format_of vault.vault).content coming stream fault;
  makes = makes_root how vault work path (NewFile (untaken coming).content) (untaken coming).ending t fault none is;
}

fits_root : (reads : Option Path) (how : How) (root : Path) → IsFileFault reads (root_fault how root)
fits_root reads New root = tt
fits_root reads InPlace root = tt

pub root_fits : (reads : Option Path) (how : How) (root : Path) (fault : PutFault) → IsRootFault how root fault → IsFileFault reads fault
root_fits reads how root fault = by_root how root fault (IsFileFault reads) tt (fits_root reads how root)
