-- How output and answer follow from what a command shows.
use Rattle.std.proofs.Common.{◌≡◌, ℕ, zero, List, [], Option, inl, inr, refl, sym, ap, ◌∙◌, subst}
use Rattle.std.specs.Prelude.{◌⊎◌, IsTrue}
use Rattle.std.proofs.lemmas.Bool.{or_left}
use Rattle.std.specs.Io.KnownBytes.{Appends, Keeps}
use Rattle.std.proofs.KnownBytes.{Appends-nil, Appends-kept, Keeps-refl}
use Rattle.folder_spec.specs.Event.{Told}
use Rattle.folder_spec.specs.View.{View}
use Rattle.folder_spec.specs.Seen.{IfSeen}
use Rattle.command_answers.specs.declared.answer.Answer.{Answer}
use Rattle.command_answers.specs.declared.answer.Answer.TheVariants.{OutOfMemory, FolderFault, OutputFault}
use Rattle.open_for_reading.specs.Refusing.{Unless}
use Rattle.open_for_reading.specs.Shown.{Shown, refused, TakesAll, Follows, IsCutShort, Reads, is_of_end, is_of_reading, is_refusal}

-- two things that are shown are one
abbrev pub IsOne : (Shown → Type 0) → Type 0
IsOne Shows = (a b : Shown) → Shows a → Shows b → a ≡ b

-- nothing written is no bytes added
nothing : (taken taken' : Option (List ℕ)) → Keeps taken taken' → Appends taken taken' []
nothing taken taken' keeps = Appends-kept taken taken taken' [] (Appends-nil taken) keeps

-- a refusal, with nothing written
follows_refused : (Shows : Shown → Type 0) (answer : Answer) (taken taken' : Option (List ℕ)) → Keeps taken taken' → Shows (refused answer) → Follows Shows answer taken taken'
follows_refused Shows FolderFault taken taken' keeps shows = inl keeps
follows_refused Shows OutOfMemory taken taken' keeps shows = inl keeps
follows_refused Shows OutputFault taken taken' keeps shows = (refused OutputFault, shows, (zero, nothing taken taken' keeps))
follows_refused Shows answer taken taken' keeps shows = (refused answer, shows, refl, nothing taken taken' keeps)

pub follows_unless : (Shows : Shown → Type 0) (answer : Answer) (taken taken' : Option (List ℕ)) → Keeps taken taken' → Unless answer (Shows (refused answer)) → Follows Shows answer taken taken'
follows_unless Shows answer taken taken' keeps (inl failed) = subst (λ a. Follows Shows a taken taken') (sym failed) (inl keeps)
follows_unless Shows answer taken taken' keeps (inr (inl memory)) = subst (λ a. Follows Shows a taken taken') (sym memory) (inl keeps)
follows_unless Shows answer taken taken' keeps (inr (inr shows)) = follows_refused Shows answer taken taken' keeps shows

-- the output took all that is shown, unless the command is cut short
pub all_or_cut : (Shows : Shown → Type 0) (answer : Answer) (taken taken' : Option (List ℕ)) → Follows Shows answer taken taken' → TakesAll Shows answer taken taken' ⊎ IsCutShort answer
all_or_cut Shows FolderFault taken taken' follows = inr (inl refl)
all_or_cut Shows OutOfMemory taken taken' follows = inr (inr (inr refl))
all_or_cut Shows OutputFault taken taken' follows = inr (inr (inl refl))
all_or_cut Shows answer taken taken' follows = inl follows

-- the answer is what is shown, unless it is cut short
exactly : (Shows : Shown → Type 0) (answer : Answer) (taken taken' : Option (List ℕ)) (shown : Shown) → IsOne Shows → Shows shown → Follows Shows answer taken taken' → (answer ≡ shown.answer) ⊎ IsCutShort answer
exactly Shows answer taken taken' shown one shows follows = elim (all_or_cut Shows answer taken taken' follows) [
  | inl all ↦ inl (all.2 ∙ ap (λ s. s.answer) (one all.0 shown all.1 shows))
  | inr cut ↦ inr cut
]

-- a command whose output and answer follow from what it shows
pub reads_by : (Shows : View → Shown → Type 0) (answer : Answer) (told told' : Option Told) (taken taken' : Option (List ℕ)) → ((v : View) → IsOne (Shows v))
    → told' ≡ told → IsTrue (is_of_reading answer) → IfSeen told (λ v. Follows (Shows v) answer taken taken') → Reads Shows answer told told' taken taken'
reads_by Shows answer told told' taken taken' one same own follows = record {
  unchanged = same;
  own = own;
  follows = follows;
  exactly = λ v shown is shows. exactly (Shows v) answer taken taken' shown (one v) shows (follows v is);
}

-- a command that was refused before it wrote anything
pub reads_refused : (Shows : View → Shown → Type 0) (answer : Answer) (told told' : Option Told) (taken : Option (List ℕ)) → ((v : View) → IsOne (Shows v))
    → told' ≡ told → IsTrue (is_refusal answer) → IfSeen told (λ v. Unless answer (Shows v (refused answer))) → Reads Shows answer told told' taken taken
reads_refused Shows answer told told' taken one same own shows =
    reads_by Shows answer told told' taken taken one same (or_left (is_refusal answer) (is_of_end answer) own) (λ v is. follows_unless (Shows v) answer taken taken (Keeps-refl taken) (shows v is))
