-- Where a journal is written, and what putting a file in the place of another says of it.
use Rattle.std.proofs.Common.{◌≡◌, ◌<◌, ℕ, Bool, List, Option, Some, None, is_none, Result, Ok, Err, OnOk, refl, sym, ap, ◌∙◌, subst, inl, inr, arith, IsTrue}
use Rattle.folder_spec.specs.Path.{Part, Path, below, child}
use Rattle.folder_spec.specs.State.{Node, State, present, IsSound}
use Rattle.folder_spec.specs.declared.FolderFault.{FolderFault}
use Rattle.folder_spec.specs.Event.{Call, Told, FromTo, Append, Create, MakeDir, RemoveDir, RemoveFile, Rename, Settle, Sync}
use Rattle.folder_spec.specs.View.{Folder, FileOf, View, found, view_of}
use Rattle.folder_spec.specs.Seen.{IfSeen, ShowsFilePlace, ShowsNothingOrFile, seen}
use Rattle.folder_spec.specs.Region.{SparesOld, StagesOrPuts, apart_from}
use Rattle.folder_spec.specs.Image.{Image, IsImage}
use Rattle.folder_spec.specs.Replace.{IsNewFile, IsReplacing, HasReplaced, IsOldOrNew, IsReplaced, ShowsOldOrNew, IsCleanAt}
use Rattle.folder_spec.proofs.Paths.{parent-child, child-not_base, below-sibling}
use Rattle.folder_spec.proofs.Moments.{went_more}
use Rattle.folder_spec.proofs.Tellings.{from_to_more}
use Rattle.folder_spec.proofs.Stages.{Replacing, puts_spare, replacing_none, stages_spare}
use Rattle.folder_spec.proofs.Tables.{present_is_table}
use Rattle.folder_spec.specs.declared.Spot.TheVariants.{FileNode}
use Rattle.folder_staging.specs.Places.{MayPublish}
use Rattle.move_journal.specs.declared.journal.Journal.{Journal}
use Rattle.move_journal.specs.Journal.{journal_text}
use Rattle.move_journal.specs.Reading.{journal_bytes, file_bytes}
use Rattle.work_folder.specs.Entries.{journal_path, new_journal_path}
use Rattle.move_journal.specs.Writing.{IsWorkFolder, IsWriting, IsWritten, PutsOnce, Writes, WritesOnce, HasWritten, elsewhere}

apart : (work : Path) → below (new_journal_path work) (journal_path work) ≡ None
apart work = below-sibling work _ _ refl

apart_itself : (work : Path) → IsTrue (apart_from (new_journal_path work) (journal_path work))
apart_itself work = ap is_none (apart work)

-- the law of folder_spec on files that are put in the place of others
pub record ReplacedFiles : Type 0 where
  pub images : (region : Path → Bool) (at : Path) (bytes : List ℕ) (s0 s : State) (image : Image) → IsSound s0 → IsOldOrNew region at bytes s0 s → IsImage s image
      → ShowsOldOrNew region at bytes s0 image
  pub settled : (region : Path → Bool) (at : Path) (bytes : List ℕ) (s0 s : State) (image : Image) → IsReplaced region at bytes s0 s → IsImage s image
      → view_of image at ≡ FileOf bytes
  pub clean : (region : Path → Bool) (at : Path) (bytes : List ℕ) (s0 s : State) → IsSound s0 → IsCleanAt at s0 → IsOldOrNew region at bytes s0 s → IsCleanAt at s

is_writing : (law : ReplacedFiles) (work : Path) (text : List ℕ) (s0 s : State) → IsSound s0 → IsReplacing (new_journal_path work) (journal_path work) text s0 s → IsWriting work text s0 s
is_writing law work text s0 s sound h = record {
  journal = h.change;
  publishes = h.publishes;
  new_journal = h.place;
  fronts = h.fronts;
  clean = λ clean. law.clean (elsewhere work) (journal_path work) text s0 s sound clean h.change;
  images = λ image is_image. law.images (elsewhere work) (journal_path work) text s0 s image sound h.change is_image;
}

new_file_read : (bytes : List ℕ) (s0 s : State) (work : Path) → IsNewFile bytes s0 s (present s (journal_path work)) → journal_bytes (seen s) work ≡ Some bytes
new_file_read bytes s0 s work new = ap (λ x. file_bytes (found (λ n. (s.nodes n).now) x)) new.is ∙ ap (λ (node : Node). Some node.now) new.holds

is_written : (law : ReplacedFiles) (work : Path) (text : List ℕ) (s0 s : State) → HasReplaced (new_journal_path work) (journal_path work) text s0 s → IsWritten work text s0 s
is_written law work text s0 s h = record {
  replaced = h.replaced;
  published = h.published;
  new_journal = h.gone;
  shown = λ image is_image. law.settled (elsewhere work) (journal_path work) text s0 s image h.replaced is_image;
  read = new_file_read text s0 s work h.replaced.new;
}

writes_from : (law : ReplacedFiles) (work : Path) (journal : Journal) (t u : Option Told) → ((a : Told) → t ≡ Some a → IsSound a.state)
    → FromTo (Replacing (new_journal_path work) (journal_path work) (journal_text journal)) t u → Writes work journal t u
writes_from law work journal t u sound moments =
    from_to_more (Replacing (new_journal_path work) (journal_path work) (journal_text journal)) _ t u
    (λ a b is went. went_more (IsReplacing (new_journal_path work) (journal_path work) (journal_text journal) a.state) (IsWriting work (journal_text journal) a.state)
    (λ s e. StagesOrPuts (new_journal_path work) (journal_path work) a.state s e.call) (λ s e. SparesOld (elsewhere work) a.state s e.call) a b
    (λ s h. is_writing law work (journal_text journal) a.state s (sound a is) h) (λ s e h. puts_spare (new_journal_path work) (journal_path work) a.state s e.call h) went) moments

-- a file is put in its place while what stood there at first does, and else only staged
puts_once : (work : Path) (s0 s : State) (call : Call) → IsSound s0 → StagesOrPuts (new_journal_path work) (journal_path work) s0 s call → PutsOnce work s0 s call
puts_once work s0 s (Rename old new) sound h n there made =
    let before : present s0 (journal_path work) ≡ FileNode n = sym (h.2.seen (journal_path work) (apart_itself work)) ∙ there in
    let few : n < s0.made = (sound.tables (present s0) (present_is_table s0)).is_made (journal_path work) n before in
    absurd (omega (arith, few, made))
puts_once work s0 s Settle sound h n there made = tt
puts_once work s0 s (MakeDir p) sound h n there made = (stages_spare (new_journal_path work) s0 s (MakeDir p) h).0
puts_once work s0 s (Create p) sound h n there made = (stages_spare (new_journal_path work) s0 s (Create p) h).0
puts_once work s0 s (Append p piece) sound h n there made = (stages_spare (new_journal_path work) s0 s (Append p piece) h).0
puts_once work s0 s (Sync p) sound h n there made = (stages_spare (new_journal_path work) s0 s (Sync p) h).0
puts_once work s0 s (RemoveFile p) sound h n there made = (stages_spare (new_journal_path work) s0 s (RemoveFile p) h).0
puts_once work s0 s (RemoveDir p) sound h n there made = (stages_spare (new_journal_path work) s0 s (RemoveDir p) h).0

once_from : (law : ReplacedFiles) (work : Path) (journal : Journal) (t u : Option Told) → ((a : Told) → t ≡ Some a → IsSound a.state)
    → FromTo (Replacing (new_journal_path work) (journal_path work) (journal_text journal)) t u → WritesOnce work journal t u
once_from law work journal t u sound moments =
    from_to_more (Replacing (new_journal_path work) (journal_path work) (journal_text journal)) _ t u
    (λ a b is went. went_more (IsReplacing (new_journal_path work) (journal_path work) (journal_text journal) a.state) (IsWriting work (journal_text journal) a.state)
    (λ s e. StagesOrPuts (new_journal_path work) (journal_path work) a.state s e.call) (λ s e. PutsOnce work a.state s e.call) a b
    (λ s h. is_writing law work (journal_text journal) a.state s (sound a is) h) (λ s e h. puts_once work a.state s e.call (sound a is) h) went) moments

pub once_none : (law : ReplacedFiles) (work : Path) (journal : Journal) (t : Option Told) → ((a : Told) → t ≡ Some a → IsSound a.state) → WritesOnce work journal t t
once_none law work journal t sound =
    once_from law work journal t t sound (replacing_none (new_journal_path work) (journal_path work) (journal_text journal) (apart work) t sound)

-- no call yet
pub writes_none : (law : ReplacedFiles) (work : Path) (journal : Journal) (t : Option Told) → ((a : Told) → t ≡ Some a → IsSound a.state) → Writes work journal t t
writes_none law work journal t sound =
    writes_from law work journal t t sound (replacing_none (new_journal_path work) (journal_path work) (journal_text journal) (apart work) t sound)

-- what replacing a file says, at the paths and the text of a journal
module _ (law : ReplacedFiles) (t u : Option Told) (work new at : Path) (bytes : List ℕ) (journal : Journal) (is_new : new ≡ new_journal_path work) (is_at : at ≡ journal_path work)
    (is_text : bytes ≡ journal_text journal) where
  at_these : (X : Path → Path → List ℕ → Type 0) → X new at bytes → X (new_journal_path work) (journal_path work) (journal_text journal)
  at_these X x = subst (X (new_journal_path work) (journal_path work)) is_text (subst (λ p. X (new_journal_path work) p bytes) is_at (subst (λ p. X p at bytes) is_new x))

  pub writes_at : ((a : Told) → t ≡ Some a → IsSound a.state) → FromTo (Replacing new at bytes) t u → Writes work journal t u
  writes_at sound h = writes_from law work journal t u sound (at_these (λ p q b. FromTo (Replacing p q b) t u) h)

  pub once_at : ((a : Told) → t ≡ Some a → IsSound a.state) → FromTo (Replacing new at bytes) t u → WritesOnce work journal t u
  once_at sound h = once_from law work journal t u sound (at_these (λ p q b. FromTo (Replacing p q b) t u) h)

  pub written_at : (result : Result (Unit {0}) FolderFault) → OnOk result (FromTo (λ a b. HasReplaced new at bytes a.state b.state) t u)
      → OnOk result (HasWritten work journal t u)
  written_at (Err fault) h = tt
  written_at (Ok done) h =
      from_to_more (λ a b. HasReplaced (new_journal_path work) (journal_path work) (journal_text journal) a.state b.state) _ t u
      (λ a b is. is_written law work (journal_text journal) a.state b.state) (at_these (λ p q bs. FromTo (λ a b. HasReplaced p q bs a.state b.state) t u) h)

place_of : (v : View) (work : Path) (a : Part) → v work ≡ Folder → ShowsNothingOrFile v (child work a) → ShowsFilePlace v (child work a)
place_of v work a folder here = elim here as (λ _. ShowsFilePlace v (child work a)) [
  | inl none ↦ inl (none, ap v (parent-child work a) ∙ folder)
  | inr file ↦ inr file
]

pub may_publish : (t : Option Told) (work : Path) → IfSeen t (λ v. IsWorkFolder v work) → MayPublish t (new_journal_path work) (journal_path work)
may_publish t work folder = record {
  stage = record { below_base = child-not_base work _; place = λ v is. place_of v work _ (folder v is).folder (folder v is).new_journal };
  place = λ v is. place_of v work _ (folder v is).folder (folder v is).journal;
  apart = record { apart = below-sibling work _ _ refl; beside = below-sibling work _ _ refl };
}
