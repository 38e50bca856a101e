-- The input is stored as a file of a vault.
use Rattle.std.proofs.Common.{◌≡◌, ◌+◌, ℕ, Bool, true, false, List, [], length, take, Option, Some, None, Result, Ok, Err, OnOk, IfErr, refl, sym, ap, ◌∙◌, subst, nat_le, if◌then◌else◌, IsTrue}
use Rattle.std.specs.Io.KnownBytes.{Keeps}
use Rattle.chunk_files.specs.Keys.{Keys}
use Rattle.item_making.specs.Ending.{Whole, TooLong}
use Rattle.content_writing.specs.Content.{Coming, FitsContent, Gave, HasEnded, TakesUpTo, coming_from, ends, within}
use Rattle.vault_faults.specs.Limits.{content_limit}
use Rattle.item_making.specs.declared.fault.PutFault.{PutFault}
use Rattle.item_making.specs.declared.fault.PutFault.TheVariants as puts
use Rattle.folder_spec.specs.Path.{Path}
use Rattle.folder_spec.specs.State.{IsSound}
use Rattle.folder_spec.specs.Event.{Told}
use Rattle.folder_spec.specs.Seen.{IfSeen}
use Rattle.port_model.specs.Draws.{ByteStream}
use Rattle.vault_spec.specs.Opened.{OpenedVault}
use Rattle.vault_faults.specs.declared.fault.FindFault.TheVariants as finds
use Rattle.vault_faults.specs.declared.fault.Limit.TheVariants.{Input}
use Rattle.vault_spec.specs.Making.{NewFile}
use Rattle.vault_spec.specs.Vault.{Vault}
use Rattle.vault_write.specs.Calls.{InPlace, MakesAt, MakesFile, TakesContent, Writing, most_by}
use Rattle.vault_write.specs.Faults.{IsFileFault}
use Rattle.work_folder.specs.Entering.{EntersAs, IsFresh}
use Rattle.open_for_changing.proofs.Beginnings.{Alike, Outside}
use Rattle.open_for_changing.specs.Staying.{Leaves}
use Rattle.writing_commands.proofs.MadeItems.{item_made, making_fresh, making_leaves, vault_changed}
use Rattle.writing_commands.proofs.Makings.{all_done}
use Rattle.open_for_changing.specs.Beginning.{ChangesWork}
use Rattle.writing_commands.specs.Faults.{answer_to_making}
use Rattle.writing_commands.specs.Items.{MakesIn}
use Rattle.open_for_reading.specs.Opening.{Opens}
use Rattle.open_for_reading.specs.Places.{overlap}
use Rattle.writing_commands.specs.Put.{StoresFile, StoresIn, TakesInput, is_of_file}
use Rattle.open_for_reading.specs.World.{World}
use Rattle.command_answers.specs.declared.answer.Answer.{Answer}
use Rattle.command_answers.specs.declared.answer.Answer.TheVariants.{Done}
use Rattle.command_words.specs.declared.commands.Change.{Change}

-- ---- the input

-- the content that bytes are, by whether there is room for them
abbrev content_by : List ℕ → ℕ → Bool → Coming
content_by bytes room b = if b then record { bytes = bytes; ending = Whole } else record { bytes = take room bytes; ending = TooLong Input }

-- a source that has given all has nothing left
nothing_left : (room : ℕ) (bytes : List ℕ) → within room bytes ≡ ends Whole → bytes ≡ []
nothing_left room bytes is = by (nat_le (length bytes) room) is
  where
    by : (b : Bool) → content_by bytes room b ≡ ends Whole → bytes ≡ []
    by true is = ap (λ (c : Coming). c.bytes) is
    by false is = let no : TooLong Input ≡ Whole = ap (λ (c : Coming). c.ending) is in cc

same_coming : (x y : Coming) → Some x ≡ Some y → x ≡ y
same_coming x y same = cc

all_given : (room : ℕ) (passed : Bool) (left : Option (List ℕ)) → coming_from room passed left ≡ Some (ends Whole) → left ≡ Some []
all_given room passed None is = cc
all_given room true (Some bytes) is = let no : TooLong Input ≡ Whole = ap (λ (c : Coming). c.ending) (same_coming (ends (TooLong Input)) (ends Whole) is) in cc
all_given room false (Some bytes) is = ap Some (nothing_left room bytes (same_coming (within room bytes) (ends Whole) is))

-- where the limit isn't passed, a content is all bytes
all_bytes : (room : ℕ) (bytes : List ℕ) → (within room bytes).ending ≡ Whole → (within room bytes).bytes ≡ bytes
all_bytes room bytes is = by (nat_le (length bytes) room) is
  where
    by : (b : Bool) → (content_by bytes room b).ending ≡ Whole → (content_by bytes room b).bytes ≡ bytes
    by true is = refl
    by false is = cc

-- what was given ended as what is left does
ends_alike : (given : List ℕ) (before : Coming) (left : Option Coming) → Gave given (Some before) left → left ≡ Some (ends Whole) → before.ending ≡ Whole
ends_alike given before left gave is = ap (λ (c : Coming). c.ending) (subst (λ l. Gave given (Some before) l) is gave)

own : (result : Result (Unit {0}) PutFault) → IsTrue (is_of_file (answer_to_making result))
own (Ok done) = refl
own (Err (puts.Find finds.Failed)) = refl
own (Err (puts.Find fault)) = refl
own (Err fault) = refl

-- ---- what was taken

input_taken : (keys : Keys) (w : Writing) (answer : Answer) (room room' : ℕ) (passed passed' : Bool) (left left' : Option (List ℕ)) (stream stream' : Option ByteStream) (result : Result (Unit {0}) PutFault)
    → room ≡ content_limit → passed ≡ false → answer ≡ answer_to_making result → TakesContent keys w (coming_from room passed left) (coming_from room' passed' left') stream stream' result → TakesInput w.content w.ending answer left left'
input_taken keys w answer room room' passed passed' left left' stream stream' result fresh unpassed is_answer takes = record {
  told = λ bytes is. takes.told (within content_limit bytes) (begun bytes is);
  whole = λ done. by_answer result (sym is_answer ∙ done) takes.ended;
}
  where
    begun : (bytes : List ℕ) → left ≡ Some bytes → coming_from room passed left ≡ Some (within content_limit bytes)
    begun bytes is = ap (coming_from room passed) is ∙ ap (λ (k : ℕ). coming_from k passed (Some bytes)) fresh ∙ ap (λ b. coming_from content_limit b (Some bytes)) unpassed

    all : HasEnded Whole (coming_from room passed left) (coming_from room' passed' left') → (bytes : List ℕ) → left ≡ Some bytes → (w.content ≡ bytes) × (left' ≡ Some [])
    all ended bytes is =
        let none : coming_from room' passed' left' ≡ Some (ends Whole) = subst (λ coming. HasEnded Whole coming (coming_from room' passed' left')) (begun bytes is) ended in
        let whole : (within content_limit bytes).ending ≡ Whole = ends_alike w.given (within content_limit bytes) (coming_from room' passed' left') (subst (λ coming. Gave w.given coming (coming_from room' passed' left')) (begun bytes is) takes.gave) none in
        (sym (ap (λ (c : Coming). c.bytes) (takes.told (within content_limit bytes) (begun bytes is))) ∙ all_bytes content_limit bytes whole, all_given room' passed' left' none)

    by_answer : (r : Result (Unit {0}) PutFault) → answer_to_making r ≡ Done → OnOk r (HasEnded Whole (coming_from room passed left) (coming_from room' passed' left')) → (bytes : List ℕ) → left ≡ Some bytes → (w.content ≡ bytes) × (left' ≡ Some [])
    by_answer (Ok done) is ended = all ended
    by_answer (Err fault) is ended = let no = all_done (Err fault) is in cc

-- ---- the file

blamed_as_input : (result : Result (Unit {0}) PutFault) → IfErr result (λ fault. IsFileFault None fault) → IfErr result (λ fault. FitsContent None fault)
blamed_as_input (Ok value) fits = tt
blamed_as_input (Err (puts.Find fault)) fits = tt
blamed_as_input (Err (puts.Damaged at fault)) fits = fits
blamed_as_input (Err (puts.Limit limit)) fits = fits
blamed_as_input (Err puts.Source) fits = fits
blamed_as_input (Err fault) fits = tt

module _ (change : Change) where
  abbrev pub StoresIt : Answer → World → World → Vault → Type 0
  StoresIt answer before after vault = StoresIn change vault answer before.told after.told before.random after.random before.left after.left

  pub file_made : Outside → Alike → (vault : OpenedVault) (work : Path) (answer : Answer) (result : Result (Unit {0}) PutFault) (u : Option Told) (before after : World) (room room' : ℕ) (passed passed' : Bool)
      → ((a : Told) → before.told ≡ Some a → IsSound a.state) → overlap change.target.vault change.work ≡ false → vault.root ≡ change.target.vault → work ≡ change.work → ChangesWork change.work before.told u
      → ((a : Told) → u ≡ Some a → IsSound a.state) → Leaves change.work before.told u → IfSeen u (λ v. IsFresh v change.work)
      → IfSeen before.told (λ v. Opens v change.target.vault change.target.pass vault.vault) → IfSeen before.told (λ v. EntersAs v change.work (Ok tt))
      → answer ≡ answer_to_making result → room ≡ content_limit → passed ≡ false
      → MakesFile InPlace vault work change.target.path (coming_from room passed before.left) (coming_from room' passed' after.left) before.random after.random u after.told result
      → IfErr result (λ fault. IsFileFault None fault) → TakesUpTo (most_by result (room + 1)) before.left after.left → Keeps before.taken after.taken → StoresFile change answer before after
  file_made outside alike vault work answer result u before after room room' passed passed' sound apart is_root is_work begins sound_then leaves fresh opens entered is full unpassed makes fits few unwritten =
      let writing : Writing = makes.writing in
      let there : OpenedVault = record { root = change.target.vault; vault = vault.vault } in
      let at_root : MakesAt InPlace there work change.target.path (NewFile writing.content) writing.ending writing.drawn u after.told result =
      subst (λ root. MakesAt InPlace (record { root = root; vault = vault.vault }) work change.target.path (NewFile writing.content) writing.ending writing.drawn u after.told result) is_root makes.makes in
      let at_work : MakesAt InPlace there change.work change.target.path (NewFile writing.content) writing.ending writing.drawn u after.told result =
      subst (λ place. MakesAt InPlace there place change.target.path (NewFile writing.content) writing.ending writing.drawn u after.told result) is_work at_root in
      let made : MakesIn InPlace change (NewFile writing.content) writing.ending vault.vault answer before.told after.told before.random after.random = record {
        result = result;
        is = is;
        drawn = writing.drawn;
        were_drawn = makes.takes.were_drawn;
        makes = item_made outside alike InPlace there change.work change.target.path (NewFile writing.content) writing.ending writing.drawn before.told u after.told result sound apart begins at_work;
        fresh = making_fresh InPlace there change.work change.target.path (NewFile writing.content) writing.ending writing.drawn u after.told result at_work apart sound_then fresh;
      } in
      vault_changed is_of_file change (StoresIt answer before after) answer before after vault.vault apart opens entered (subst (λ a. IsTrue (is_of_file a)) (sym is) (own result)) (record {
        content = writing.content;
        ending = writing.ending;
        makes = made;
        takes = input_taken _ writing answer room room' passed passed' before.left after.left before.random after.random result full unpassed is makes.takes;
        fits = blamed_as_input result fits;
        few = subst (λ (most : ℕ). TakesUpTo (most_by result (most + 1)) before.left after.left) full few;
      }) (making_leaves InPlace there change.work change.target.path (NewFile writing.content) writing.ending writing.drawn u after.told result at_work apart before.told leaves entered) unwritten
