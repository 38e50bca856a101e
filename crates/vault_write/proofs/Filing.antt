-- The entry of a content is staged whole, renamed, and settled.
use Rattle.std.specs.Prelude.{Contains}
use Rattle.std.proofs.Common.{arith, true, Bool, suc, ◌≡◌, ◌≢◌, ℕ, ◌≤◌, List, [], ◌∷◌, ◌++◌, length, Option, Some, None, Result, Ok, Err, IsErrAnd, OnOk, refl, sym, ap, ◌∙◌, inl, inr, subst, append-nil, codes, ◌*◌}
use Rattle.std.proofs.lemmas.List.Elements.{Contains-append_left, Contains-append_right}
use Rattle.chunk_files.specs.Encrypt.{encrypt}
use Rattle.chunk_files.specs.Keys.{Keys}
use Rattle.port_model.specs.Draws.{ByteStream}
use Rattle.folder_spec.specs.declared.FolderFault.{FolderFault}
use Rattle.folder_spec.specs.declared.FolderFault.TheVariants as folder
use Rattle.folder_spec.specs.Path.{Part, Path, below, child, parent}
use Rattle.folder_spec.specs.State.{present, IsSound}
use Rattle.folder_spec.specs.Edit.{Edit, file_view, IsStagedView}
use Rattle.folder_spec.specs.Event.{Allowed, Settle, Rename, Told, Changes, FromTo}
use Rattle.folder_spec.specs.Region.{IsAsBefore, StagesAt, apart_from}
use Rattle.folder_spec.specs.Replace.{IsNewFile}
use Rattle.folder_spec.specs.Seen.{IfSeen, ShowsFree, seen}
use Rattle.folder_spec.specs.View.{Found, NoEntry, View}
use Rattle.folder_spec.proofs.Moments.{went_nowhere, went_to}
use Rattle.folder_spec.proofs.Paths.{below-parent, below-sibling}
use Rattle.folder_spec.proofs.Replaces.{apart-from_below}
use Rattle.folder_spec.proofs.Stages.{Staging}
use Rattle.folder_spec.proofs.Tellings.{from_to_more, from_to_same}
use Rattle.folder_spec.proofs.Seen.{seen_of}
use Rattle.folder_spec.proofs.Written.{fronts_of_none}
use Rattle.folder_spec.proofs.Regions.{as_before, as_before_within, seen_as_before}
use Rattle.port_model.proofs.Draws.{Draws-nil}
use Rattle.folder_staging.specs.Folders.{BeginsFolder, IsStagingFolder, StagesFolder, IsStagedFolder}
use Rattle.folder_staging.specs.Pieces.{Stages}
use Rattle.work_folder.specs.Entries.{stage_path}
use Rattle.vault_spec.specs.Cryptomator.{content_file, full_file}
use Rattle.vault_spec.specs.Making.{full_texts}
use Rattle.item_making.specs.Ending.{Whole}
use Rattle.content_writing.specs.Content.{Coming, Gave, IsReady, ends, still_coming}
use Rattle.item_making.specs.Faults.{of_folder}
use Rattle.content_writing.specs.Writing.{DrewNoZeros, EndsBy, ReadsApart, WritesContent}
use Rattle.content_writing.proofs.Sixteens.{drawn_so_far}
use Rattle.content_writing.proofs.Standing.{IsStill, ready_now, still_same}
use Rattle.item_making.specs.declared.fault.PutFault.{PutFault}
use Rattle.item_making.specs.declared.fault.PutFault.TheVariants as puts
use Rattle.vault_write.specs.Calls.{ReadsElsewhere, TakesContent, Writing}
use Rattle.vault_write.specs.Editing.{AddsEdits, AddsName, DoesEdits, Edits, GoPlaces, HasBegun, HasEdited, MayBeBeside, entry_stage, side_edits}
use Rattle.vault_write.specs.Filing.{IsWhole, OnlyStages, PlacesEntry, PublishesEntry, StagesEntry, StopsBy, entry_edit, entry_files, entry_making, entry_view, file_of}
use Rattle.item_making.specs.Making.{Making, is_unstaged}
use Rattle.vault_write.proofs.Adding.{adds_entry, entry_renamed, file_staged, file_staging, finishes, held_allowed, IsStagedWhole, may_beside, staged_below}
use Rattle.vault_write.proofs.Directories.{Are, AreSeen, Gain, gains, name_place, whole_staged}
use Rattle.vault_write.proofs.Edited.{StagingAt}
use Rattle.vault_write.proofs.Exits.{at_fault}
use Rattle.vault_write.proofs.Placed.{entry_free}
use Rattle.vault_write.proofs.Seeing.{seen_then}
use Rattle.vault_write.proofs.Stages.{unstaged_apart}

-- ---- nothing was drawn or given

abbrev or_whole : Option Coming → Coming
or_whole None = ends Whole
or_whole (Some c) = c

-- a content of which nothing was taken
abbrev pub untaken : Option Coming → Writing
untaken coming = record { drawn = []; content = (or_whole coming).bytes; given = []; ending = (or_whole coming).ending }

none_given : (coming : Option Coming) → Gave [] coming coming
none_given None = tt
none_given (Some c) = refl

pub no_zeros_in_none : (keys : Keys) → DrewNoZeros keys []
no_zeros_in_none keys number has = let long : 16 * suc number ≤ length {A = ℕ} [] = drawn_so_far number [] has.zeros in absurd (omega (arith, long))

told_so : (coming : Option Coming) (c : Coming) → coming ≡ Some c → c ≡ record { bytes = (untaken coming).content; ending = (untaken coming).ending }
told_so None c is = cc
told_so (Some d) c is = let same : d ≡ c = cc in sym same

pub takes_none : (keys : Keys) (coming : Option Coming) (stream : Option ByteStream) (fault : PutFault) → TakesContent keys (untaken coming) coming coming stream stream (Err fault)
takes_none keys coming stream fault = record {
  were_drawn = Draws-nil stream;
  accepted = λ other. no_zeros_in_none keys;
  told = told_so coming;
  gave = none_given coming;
  ended = tt;
}

-- where another call failed afterwards
pub takes_then : (keys : Keys) (w : Writing) (coming left : Option Coming) (stream stream' : Option ByteStream) (fault : PutFault)
    → TakesContent keys w coming left stream stream' (Ok tt) → TakesContent keys w coming left stream stream' (Err fault)
takes_then keys w coming left stream stream' fault k = record {
  were_drawn = k.were_drawn;
  accepted = λ other. k.accepted (λ clash. cc);
  told = k.told;
  gave = k.gave;
  ended = tt;
}

pub stops_folder : (keys : Keys) (w : Writing) (fault : FolderFault) → StopsBy keys w (of_folder fault)
stops_folder keys w folder.Failed = tt
stops_folder keys w folder.Refused = tt
stops_folder keys w folder.NoMemory = tt

-- ---- what a content reads is as it was

-- while something is staged elsewhere
pub staging_still : (reads : Option Path) (staged : Path) (files : List (List ℕ)) (t u : Option Told) → ((a : Told) → t ≡ Some a → IsSound a.state) → ReadsApart reads staged → StagesFolder files staged t u → IsStill reads t u
staging_still None staged files t u sound apart stages = tt
staging_still (Some q) staged files t u sound apart stages =
    from_to_more (StagingAt files staged) (λ a b. seen b.state q ≡ seen a.state q) t u
    (λ a b is k. seen_as_before (apart_from staged) a.state b.state (sound a is)
    (went_to (IsStagingFolder files staged a.state) _ a b k).others q (apart-from_below staged q apart)) stages

pub reads_apart : (reads : Option Path) (work staged : Path) (x : Part) → staged ≡ child (stage_path work) x → ReadsApart reads work → ReadsApart reads staged
reads_apart None work staged x is apart = tt
reads_apart (Some q) work staged x is apart = ap (λ p. below p q) is ∙ staged_below (stage_path work) x q (staged_below work (codes "stage") q apart)

pub reads_apart_in : (reads : Option Path) (staged file : Path) (x : Part) → file ≡ child staged x → ReadsApart reads staged → ReadsApart reads file
reads_apart_in None staged file x is apart = tt
reads_apart_in (Some q) staged file x is apart = ap (λ p. below p q) is ∙ staged_below staged x q apart

pub reads_outside : (reads : Option Path) (work root : Path) → ReadsElsewhere reads work root → ReadsApart reads work
reads_outside None work root apart = tt
reads_outside (Some q) work root apart = apart.0

-- ---- a content was written

stops_by : (keys : Keys) (at : Path) (w : Writing) (coming left : Option Coming) (t u : Option Told) (fault : PutFault) → EndsBy keys at w.drawn w.content w.ending coming left t u (Err fault) → StopsBy keys w fault
stops_by keys at w coming left t u (puts.Damaged path fault) ends = ends.0
stops_by keys at w coming left t u (puts.Limit limit) ends = ends.0
stops_by keys at w coming left t u puts.ZeroRandom ends = ends
stops_by keys at w coming left t u puts.Source ends = tt
stops_by keys at w coming left t u puts.Random ends = tt
stops_by keys at w coming left t u puts.Failed ends = tt
stops_by keys at w coming left t u puts.NoMemory ends = tt
stops_by keys at w coming left t u (puts.Find fault) ends = absurd ends
stops_by keys at w coming left t u (puts.NotAllowed path) ends = absurd ends
stops_by keys at w coming left t u (puts.Taken place) ends = absurd ends

abbrev pub writing_of : (keys : Keys) (at : Path) (coming left : Option Coming) (stream stream' : Option ByteStream) (t u : Option Told) (result : Result (Unit {0}) PutFault)
    → WritesContent keys at coming left stream stream' t u result → Writing
writing_of keys at coming left stream stream' t u result k = record { drawn = k.drawn; content = k.content; given = k.given; ending = k.ending }

-- what is told where the folder told something else meanwhile
pub writes_still : (keys : Keys) (at : Path) (coming coming' left left' : Option Coming) (stream stream' : Option ByteStream) (t u : Option Told) (result : Result (Unit {0}) PutFault)
    → coming ≡ coming' → left ≡ left' → WritesContent keys at coming left stream stream' t u result → WritesContent keys at coming' left' stream stream' t u result
writes_still keys at coming coming' left left' stream stream' t u result same same_left k =
    subst (λ c. WritesContent keys at c left' stream stream' t u result) same (subst (λ l. WritesContent keys at coming l stream stream' t u result) same_left k)

module _ (keys : Keys) (at : Path) (coming left : Option Coming) (stream stream' : Option ByteStream) (t u : Option Told) where
  pub takes_of : (result : Result (Unit {0}) PutFault) (k : WritesContent keys at coming left stream stream' t u result)
      → TakesContent keys (writing_of keys at coming left stream stream' t u result k) coming left stream stream' result
  takes_of (Ok value) k = record { were_drawn = k.were_drawn; accepted = k.accepted; told = k.told; gave = k.gave; ended = k.ends.ended }
  takes_of (Err fault) k = record { were_drawn = k.were_drawn; accepted = k.accepted; told = k.told; gave = k.gave; ended = tt }

  pub whole_of : (k : WritesContent keys at coming left stream stream' t u (Ok tt)) → IsWhole keys (writing_of keys at coming left stream stream' t u (Ok tt) k)
  whole_of k = record { whole = k.ends.whole; encrypted = k.ends.encrypted }

  -- as a file
  stages_of : (file : List ℕ) → Stages (file ∷ []) at t u → StagesFolder (file ∷ []) at t u
  stages_of file stages = from_to_more (Staging (file ∷ []) at) (StagingAt (file ∷ []) at) t u (λ a b is k. file_staging (file ∷ []) at a b k) stages

  pub stages_alone : (result : Result (Unit {0}) PutFault) → ((a : Told) → u ≡ Some a → IsSound a.state) → WritesContent keys at coming left stream stream' t u result
      → StagesEntry keys None at coming left stream stream' t u result
  stages_alone (Err fault) sound k = record {
    writing = writing_of keys at coming left stream stream' t u (Err fault) k;
    enough = k.enough;
    takes = takes_of (Err fault) k;
    stages = stages_of (encrypt keys k.drawn k.content) k.stages;
    ends = stops_by keys at (writing_of keys at coming left stream stream' t u (Err fault) k) coming left t u fault k.ends;
  }
  stages_alone (Ok value) sound k = record {
    writing = writing_of keys at coming left stream stream' t u (Ok tt) k;
    enough = k.enough;
    takes = takes_of (Ok tt) k;
    stages = stages_of (encrypt keys k.drawn k.content) k.stages;
    ends = (
      whole_of k,
      record {
        stages = stages_of (encrypt keys k.drawn k.content) k.stages;
        whole = from_to_more (IsStagedWhole (encrypt keys k.drawn k.content ∷ []) at (file_view (encrypt keys k.drawn k.content))) (λ a b. IsStagedView b.state (present b.state) at (file_view (encrypt keys k.drawn k.content))) t u
            (λ a b is whole. whole.1) (file_staged (encrypt keys k.drawn k.content ∷ []) at (encrypt keys k.drawn k.content) t u sound k.stages k.ends.file);
      },
    );
  }

-- ---- in a folder with the text of a long name

-- where it was begun, or not even that
pub stages_none : (keys : Keys) (inside : Option (List ℕ)) (staged : Path) (coming : Option Coming) (stream : Option ByteStream) (t u : Option Told) (fault : PutFault) → StopsBy keys (untaken coming) fault
    → ((files : List (List ℕ)) → StagesFolder files staged t u) → StagesEntry keys inside staged coming coming stream stream t u (Err fault)
stages_none keys inside staged coming stream t u fault stops stages = record {
  writing = untaken coming;
  enough = omega arith;
  takes = takes_none keys coming stream fault;
  stages = stages (entry_files inside (file_of keys (untaken coming)));
  ends = stops;
}

module _ (are : Are) (gain : Gain) (keys : Keys) (text : List ℕ) (staged file : Path) (coming left : Option Coming) (stream stream' : Option ByteStream) (t s u : Option Told)
    (is : file ≡ child staged content_file) (sound : (a : Told) → s ≡ Some a → IsSound a.state) (sound_then : (a : Told) → u ≡ Some a → IsSound a.state) where
  abbrev files_of : List ℕ → List (List ℕ)
  files_of bytes = text ∷ bytes ∷ []

  -- the content is staged in it
  in_folder : (bytes : List ℕ) (result : Result (Unit {0}) FolderFault) → IsStagedFolder (files_of bytes) staged [] t s → Stages (bytes ∷ []) file s u → OnOk result (FromTo (λ a b. IsNewFile bytes a.state b.state (present b.state file)) s u)
      → StagesFolder (files_of bytes) staged t u × OnOk result (IsStagedFolder (files_of bytes) staged ((content_file, bytes) ∷ []) t u)
  in_folder bytes result begun stages new = gains are gain staged file content_file bytes (files_of bytes) [] t s u result is sound sound_then (1, omega arith, refl) begun stages new

  pub folder_stopped : (fault : PutFault) → ((files : List (List ℕ)) → IsStagedFolder files staged [] t s) → WritesContent keys file coming left stream stream' s u (Err fault)
      → StagesEntry keys (Some text) staged coming left stream stream' t u (Err fault)
  folder_stopped fault begun k = record {
    writing = writing_of keys file coming left stream stream' s u (Err fault) k;
    enough = k.enough;
    takes = takes_of keys file coming left stream stream' s u (Err fault) k;
    stages = (in_folder (encrypt keys k.drawn k.content) (Err folder.NoMemory) (begun (files_of (encrypt keys k.drawn k.content))) k.stages tt).0;
    ends = stops_by keys file (writing_of keys file coming left stream stream' s u (Err fault) k) coming left s u fault k.ends;
  }

  module _ (begun : (files : List (List ℕ)) → IsStagedFolder files staged [] t s) (k : WritesContent keys file coming left stream stream' s u (Ok tt)) where
    abbrev bytes : List ℕ
    bytes = encrypt keys k.drawn k.content

    pub content_staged : IsStagedFolder (files_of bytes) staged ((content_file, bytes) ∷ []) t u
    content_staged = (in_folder bytes (Ok tt) (begun (files_of bytes)) k.stages k.ends.file).1

    named : (w : Option Told) (result : Result (Unit {0}) FolderFault) → AddsName staged (Some text) u w result
        → StagesFolder (files_of bytes) staged t w × OnOk result (IsStagedFolder (files_of bytes) staged ((full_file, text) ∷ (content_file, bytes) ∷ []) t w)
    named w result adds = adds t (files_of bytes) ((content_file, bytes) ∷ []) (λ x same. (let one : text ≡ x = cc in subst (Contains (files_of bytes)) one (0, omega arith, refl))) content_staged

    pub folder_failed : (w : Option Told) (fault : FolderFault) → AddsName staged (Some text) u w (Err fault) → StagesEntry keys (Some text) staged coming left stream stream' t w (Err (of_folder fault))
    folder_failed w fault adds = record {
      writing = writing_of keys file coming left stream stream' s u (Ok tt) k;
      enough = k.enough;
      takes = takes_then keys (writing_of keys file coming left stream stream' s u (Ok tt) k) coming left stream stream' (of_folder fault) (takes_of keys file coming left stream stream' s u (Ok tt) k);
      stages = (named w (Err fault) adds).0;
      ends = stops_folder keys (writing_of keys file coming left stream stream' s u (Ok tt) k) fault;
    }

    pub folder_staged : (w : Option Told) → AddsName staged (Some text) u w (Ok tt) → StagesEntry keys (Some text) staged coming left stream stream' t w (Ok tt)
    folder_staged w adds = record {
      writing = writing_of keys file coming left stream stream' s u (Ok tt) k;
      enough = k.enough;
      takes = takes_of keys file coming left stream stream' s u (Ok tt) k;
      stages = (named w (Ok tt) adds).0;
      ends = (whole_of keys file coming left stream stream' s u k, (named w (Ok tt) adds).1);
    }

-- ---- and put in its place

-- it only was staged, or not even that
pub staged_nothing : (work : Path) (files : List (List ℕ)) (t : Option Told) → OnlyStages work files t t
staged_nothing work files t = from_to_same (StagingAt files (entry_stage work)) t t refl
    (λ a. went_nowhere (IsStagingFolder files (entry_stage work) a.state) (λ s k. StagesAt (entry_stage work) a.state s k.call) a (record { others = as_before (apart_from (entry_stage work)) a.state; fronts = fronts_of_none files a.state }))

pub only_stages : (work staged : Path) (files : List (List ℕ)) (t u : Option Told) → staged ≡ entry_stage work → StagesFolder files staged t u → OnlyStages work files t u
only_stages work staged files t u is stages = subst (λ p. StagesFolder files p t u) is stages

-- so all else is as it was
pub only_staged : (work : Path) (files : List (List ℕ)) (t u : Option Told) → OnlyStages work files t u → FromTo (λ a b. IsAsBefore (is_unstaged work) a.state b.state) t u
only_staged work files t u stages =
    from_to_more (StagingAt files (entry_stage work)) (λ a b. IsAsBefore (is_unstaged work) a.state b.state) t u
    (λ a b is k. as_before_within (is_unstaged work) (apart_from (entry_stage work)) a.state b.state (unstaged_apart work (codes "f"))
    (went_to (IsStagingFolder files (entry_stage work) a.state) (λ s e. StagesAt (entry_stage work) a.state s e.call) a b k).others) stages

-- the text of a long name may still come beside it
pub beside_still : (work side staged : Path) (files : List (List ℕ)) (wants : Bool) (at : Path) (t u : Option Told) → staged ≡ entry_stage work → ((a : Told) → t ≡ Some a → IsSound a.state) → StagesFolder files staged t u
    → IfSeen t (λ v. GoPlaces v work wants side at) → IfSeen u (λ v. wants ≡ true → MayBeBeside v work side)
beside_still work side staged files wants at t u is sound stages places =
    seen_then (StagingAt files (entry_stage work)) (λ v. wants ≡ true → MayBeBeside v work side) t u
    (λ a b told k is_wanted. still a b (sound a told) k (may_beside ((places (seen a.state) (seen_of t a told)).side_comes is_wanted))) (only_stages work staged files t u is stages)
  where
    still : (a b : Told) → IsSound a.state → StagingAt files (entry_stage work) a b → MayBeBeside (seen a.state) work side → MayBeBeside (seen b.state) work side
    still a b sound_at k may = record {
      staged = (
        same (child (stage_path work) (codes "n")) (below-sibling (stage_path work) (codes "f") (codes "n") refl) ∙ may.staged.0,
        same (parent (child (stage_path work) (codes "n"))) (below-parent (entry_stage work) (child (stage_path work) (codes "n")) (below-sibling (stage_path work) (codes "f") (codes "n") refl)) ∙ may.staged.1,
      );
      free = (
        same side (staged_below (stage_path work) (codes "f") side may.apart) ∙ may.free.0,
        same (parent side) (below-parent (entry_stage work) side (staged_below (stage_path work) (codes "f") side may.apart)) ∙ may.free.1,
      );
      apart = may.apart;
    }
      where
        same : (q : Path) → below (entry_stage work) q ≡ None → seen b.state q ≡ seen a.state q
        same q none = seen_as_before (apart_from (entry_stage work)) a.state b.state sound_at
            (went_to (IsStagingFolder files (entry_stage work) a.state) (λ s e. StagesAt (entry_stage work) a.state s e.call) a b k).others q (apart-from_below (entry_stage work) q none)

-- the entry that the stage has is renamed, as the last edit, and settled
module _ (work root : Path) (staged at : Path) (made : View) (m : Making) (done : List Edit) (before t : Option Told) (is : staged ≡ entry_stage work) (free : IfSeen t (λ v. ShowsFree v at))
    (h : FromTo (HasEdited (Some made) work root m done (record { at = at; made = made } ∷ [])) before t) where
  renamed_so : (u : Option Told) (result : Result (Unit {0}) FolderFault) → Changes (Rename staged at) t u result
      → FromTo (Edits work root m) before u × OnOk result (FromTo (HasEdited None work root m (done ++ record { at = at; made = made } ∷ []) []) before u)
  renamed_so u result changes = entry_renamed work root m done [] (record { at = at; made = made }) before t u result h free (subst (λ p. Changes (Rename p at) t u result) is changes)

  pub rename_failed : (u : Option Told) (fault : FolderFault) → Changes (Rename staged at) t u (Err fault) → FromTo (Edits work root m) before u
  rename_failed u fault changes = (renamed_so u (Err fault) changes).0

  pub renamed_last : (u w : Option Told) (result : Result (Unit {0}) FolderFault) → Changes (Rename staged at) t u (Ok tt) → Changes Settle u w result → DoesEdits work root m before w result
  renamed_last u w result changes settles =
      finishes work root m before u w result
      (from_to_more (HasEdited None work root m (done ++ record { at = at; made = made } ∷ []) []) (HasEdited None work root m m.edits []) before u
      (λ a b told k. subst (λ edits. HasEdited None work root m edits [] a b) (sym (k.is ∙ append-nil (done ++ record { at = at; made = made } ∷ []))) k)
      (renamed_so u (Ok tt) changes).1) settles

-- an entry is something
something : (inside : Option (List ℕ)) (bytes : List ℕ) → entry_view inside bytes [] ≢ NoEntry
something None bytes none = cc
something (Some text) bytes none = cc

-- nothing was staged
pub entry_none : {keys : Keys} {work root : Path} {inside : Option (List ℕ)} {making : List ℕ → Making} {coming : Option Coming} {stream : Option ByteStream} {t : Option Told} {result : Result (Unit {0}) PutFault} (fault : PutFault)
    → IsErrAnd result (λ e. e ≡ fault) → StopsBy keys (untaken coming) fault → PlacesEntry keys work root inside making coming coming stream stream t t result
entry_none {keys} {work} {root} {inside} {making} {coming} {stream} {t} {result} fault by_fault stops =
    at_fault (PlacesEntry keys work root inside making coming coming stream stream t t) result fault by_fault (record {
      writing = untaken coming;
      enough = omega arith;
      takes = takes_none keys coming stream fault;
      ends = (stops, inl (staged_nothing work (entry_files inside (file_of keys (untaken coming))) t));
    })

-- it only was staged, or not whole
pub entry_stopped : {keys : Keys} {work root staged : Path} {inside : Option (List ℕ)} {making : List ℕ → Making} {coming left : Option Coming} {stream stream' : Option ByteStream} {t u : Option Told} {result : Result (Unit {0}) PutFault} (fault : PutFault)
    → IsErrAnd result (λ e. e ≡ fault) → staged ≡ entry_stage work → StagesEntry keys inside staged coming left stream stream' t u (Err fault) → PlacesEntry keys work root inside making coming left stream stream' t u result
entry_stopped {keys} {work} {root} {staged} {inside} {making} {coming} {left} {stream} {stream'} {t} {u} {result} fault by_fault is k =
    at_fault (PlacesEntry keys work root inside making coming left stream stream' t u) result fault by_fault (record {
      writing = k.writing;
      enough = k.enough;
      takes = k.takes;
      ends = (k.ends, inl (only_stages work staged (entry_files inside (file_of keys k.writing)) t u is k.stages));
    })

-- under the keys of a vault
pub staged_by : {one keys : Keys} {inside : Option (List ℕ)} {staged : Path} {coming left : Option Coming} {stream stream' : Option ByteStream} {t u : Option Told} {result : Result (Unit {0}) PutFault}
    → one ≡ keys → StagesEntry one inside staged coming left stream stream' t u result → StagesEntry keys inside staged coming left stream stream' t u result
staged_by {one} {keys} {inside} {staged} {coming} {left} {stream} {stream'} {t} {u} {result} same k = subst (λ x. StagesEntry x inside staged coming left stream stream' t u result) same k

module _ (work root at side : Path) (beside : Option (List ℕ)) (wants : Bool) {keys : Keys} {staged : Path} {inside : Option (List ℕ)} {coming left : Option Coming} {stream stream' : Option ByteStream} {t u : Option Told}
    (is : staged ≡ entry_stage work) (sound : (a : Told) → u ≡ Some a → IsSound a.state) (places : IfSeen t (λ v. GoPlaces v work wants side at))
    (begins : (w : Writing) → HasBegun work root (entry_making wants side at beside inside (file_of keys w)) t) (k : StagesEntry keys inside staged coming left stream stream' t u (Ok tt)) where
  abbrev made : View
  made = entry_view inside (file_of keys k.writing)

  abbrev making : Making
  making = entry_making wants side at beside inside (file_of keys k.writing)

  abbrev Placed : Option Told → Result (Unit {0}) PutFault → Type 0
  Placed w result = PlacesEntry keys work root inside (entry_making wants side at beside inside) coming left stream stream' t w result

  held : FromTo (HasEdited (Some made) work root making [] (side_edits wants side beside ++ entry_edit at inside (file_of keys k.writing) ∷ [])) t u
  held = adds_entry work root making [] (side_edits wants side beside ++ entry_edit at inside (file_of keys k.writing) ∷ []) made (entry_files inside (file_of keys k.writing)) t t u
      (λ file among. Contains-append_right (full_texts beside) (entry_files inside (file_of keys k.writing)) file among) (begins k.writing)
      (subst (λ p. FromTo (IsStagedWhole (entry_files inside (file_of keys k.writing)) p made) t u) is (whole_staged (entry_files inside (file_of keys k.writing)) staged made t u sound k.ends.1))

  abbrev AddsSide : Option Told → Result (Unit {0}) FolderFault → Type 0
  AddsSide v result = AddsEdits (Some made) work (side_edits wants side beside) (full_texts beside) u v result

  sides : (v : Option Told) (result : Result (Unit {0}) FolderFault) → AddsSide v result
      → FromTo (Edits work root making) t v × OnOk result (FromTo (HasEdited (Some made) work root making (side_edits wants side beside) (entry_edit at inside (file_of keys k.writing) ∷ [])) t v)
  sides v result adds = adds root making [] (entry_edit at inside (file_of keys k.writing) ∷ []) t (λ file among. Contains-append_left (full_texts beside) (entry_files inside (file_of keys k.writing)) file among) held

  fails : (w : Option Told) (fault : FolderFault) (result : Result (Unit {0}) PutFault) → IsErrAnd result (λ e. e ≡ of_folder fault) → FromTo (Edits work root making) t w → Placed w result
  fails w fault result by_fault went =
      at_fault (Placed w) result (of_folder fault) by_fault (record {
        writing = k.writing;
        enough = k.enough;
        takes = takes_then keys k.writing coming left stream stream' (of_folder fault) k.takes;
        ends = (stops_folder keys k.writing fault, inr (fault, refl, k.ends.0, (went, tt)));
      })

  pub side_failed : (v : Option Told) (fault : FolderFault) (result : Result (Unit {0}) PutFault) → IsErrAnd result (λ e. e ≡ of_folder fault) → AddsSide v (Err fault) → Placed v result
  side_failed v fault result by_fault adds = fails v fault result by_fault (sides v (Err fault) adds).0

  module _ (v : Option Told) (adds : AddsSide v (Ok tt)) where
    free_yet : IfSeen v (λ w. ShowsFree w at)
    free_yet = entry_free (Some made) work root making wants side at beside (entry_edit at inside (file_of keys k.writing) ∷ []) t v (sides v (Ok tt) adds).1 places

    pub entry_allowed : (b : Told) → v ≡ Some b → Allowed b.state (Rename staged at)
    entry_allowed b there = subst (λ p. Allowed b.state (Rename p at)) (sym is)
        (held_allowed work root making (side_edits wants side beside) (entry_edit at inside (file_of keys k.writing)) t v (something inside (file_of keys k.writing)) (sides v (Ok tt) adds).1
        (λ w seen_so. free_yet w seen_so) (λ x seen_so. (places x seen_so).entry.apart) b there)

    published_so : (w : Option Told) (result : Result (Unit {0}) FolderFault) → PublishesEntry staged at v w result → DoesEdits work root making t w result
    published_so w result publishes = publishes work root made making (side_edits wants side beside) t is free_yet (sides v (Ok tt) adds).1

    pub entry_failed : (w : Option Told) (fault : FolderFault) (result : Result (Unit {0}) PutFault) → IsErrAnd result (λ e. e ≡ of_folder fault) → PublishesEntry staged at v w (Err fault) → Placed w result
    entry_failed w fault result by_fault publishes = fails w fault result by_fault (published_so w (Err fault) publishes).0

    pub entry_placed : (w : Option Told) → PublishesEntry staged at v w (Ok tt) → Placed w (Ok tt)
    entry_placed w publishes = record { writing = k.writing; enough = k.enough; takes = k.takes; ends = (k.ends.0, published_so w (Ok tt) publishes) }

pub still_ready : (reads : Option Path) (staged : Path) (f : Found → Option Coming) (t s : Option Told) → ((a : Told) → t ≡ Some a → IsSound a.state) → ReadsApart reads staged → StagesFolder [] staged t s
    → IsReady reads t f → IsReady reads s f
still_ready reads staged f t s sound apart stages ready = ready_now reads t s (staging_still reads staged [] t s sound apart stages) f ready

content_not_full : content_file ≢ full_file
content_not_full same = cc

module _ (are : Are) (gain : Gain) (law : AreSeen) (keys : Keys) (full : Option (List ℕ)) (text : List ℕ) (long : full ≡ Some text) (reads : Option Path) (staged file : Path) (f f' : Found → Option Coming)
    (stream stream' : Option ByteStream) (t s u : Option Told) (is : file ≡ child staged content_file) (sound : (a : Told) → t ≡ Some a → IsSound a.state) (sound_mid : (a : Told) → s ≡ Some a → IsSound a.state)
    (sound_then : (a : Told) → u ≡ Some a → IsSound a.state) (apart : ReadsApart reads staged) (begins : BeginsFolder staged t s (Ok tt)) where
  still : IsStill reads t s
  still = staging_still reads staged [] t s sound apart (begins []).0

  written_at : (result : Result (Unit {0}) PutFault) → WritesContent keys file (still_coming reads s f) (still_coming reads s f') stream stream' s u result
      → WritesContent keys file (still_coming reads t f) (still_coming reads t f') stream stream' s u result
  written_at result k = writes_still keys file (still_coming reads s f) (still_coming reads t f) (still_coming reads s f') (still_coming reads t f') stream stream' s u result
      (still_same reads t s still f) (still_same reads t s still f') k

  pub inner_stopped : (fault : PutFault) → WritesContent keys file (still_coming reads s f) (still_coming reads s f') stream stream' s u (Err fault)
      → StagesEntry keys full staged (still_coming reads t f) (still_coming reads t f') stream stream' t u (Err fault)
  inner_stopped fault k = subst (λ o. StagesEntry keys o staged (still_coming reads t f) (still_coming reads t f') stream stream' t u (Err fault)) (sym long)
      (folder_stopped are gain keys text staged file (still_coming reads t f) (still_coming reads t f') stream stream' t s u is sound_mid sound_then fault (λ files. (begins files).1) (written_at (Err fault) k))

  module _ (k : WritesContent keys file (still_coming reads s f) (still_coming reads s f') stream stream' s u (Ok tt)) where
    pub name_in_place : IfSeen u (λ v. ShowsFree v (child staged full_file))
    name_in_place = name_place law staged (text ∷ encrypt keys k.drawn k.content ∷ []) content_file (encrypt keys k.drawn k.content) t u content_not_full
        (content_staged are gain keys text staged file (still_coming reads s f) (still_coming reads s f') stream stream' t s u is sound_mid sound_then (λ files. (begins files).1) k)

    pub inner_failed : (w : Option Told) (fault : FolderFault) → AddsName staged full u w (Err fault) → StagesEntry keys full staged (still_coming reads t f) (still_coming reads t f') stream stream' t w (Err (of_folder fault))
    inner_failed w fault adds = subst (λ o. StagesEntry keys o staged (still_coming reads t f) (still_coming reads t f') stream stream' t w (Err (of_folder fault))) (sym long)
        (folder_failed are gain keys text staged file (still_coming reads t f) (still_coming reads t f') stream stream' t s u is sound_mid sound_then (λ files. (begins files).1) (written_at (Ok tt) k) w fault
        (subst (λ o. AddsName staged o u w (Err fault)) long adds))

    pub inner_staged : (w : Option Told) → AddsName staged full u w (Ok tt) → StagesEntry keys full staged (still_coming reads t f) (still_coming reads t f') stream stream' t w (Ok tt)
    inner_staged w adds = subst (λ o. StagesEntry keys o staged (still_coming reads t f) (still_coming reads t f') stream stream' t w (Ok tt)) (sym long)
        (folder_staged are gain keys text staged file (still_coming reads t f) (still_coming reads t f') stream stream' t s u is sound_mid sound_then (λ files. (begins files).1) (written_at (Ok tt) k) w
        (subst (λ o. AddsName staged o u w (Ok tt)) long adds))
