-- What `cat` shows, and how its output and answer follow.
use Rattle.std.proofs.Common.{◌≡◌, ℕ, List, ◌++◌, Option, Some, None, Result, Ok, Err, inl, inr, refl, sym, ap, ◌∙◌, subst}
use Rattle.std.specs.Prelude.{◌⊎◌, MatchResult, IsTrue}
use Rattle.chunk_files.specs.Keys.{Keys}
use Rattle.chunk_files.specs.Reading.{Reading}
use Rattle.folder_spec.specs.Event.{Told}
use Rattle.std.specs.Io.KnownBytes.{Keeps}
use Rattle.folder_spec.specs.Path.{Path}
use Rattle.folder_spec.specs.View.{View}
use Rattle.plain_tree.specs.Names as plain
use Rattle.vault_read.specs.Contents.{file_found, content_at, limited_reading, IsContent, WritesContent, Cats}
use Rattle.vault_read.specs.Finding.{Refuses}
use Rattle.vault_read.specs.Laws.{HaveOneAnswer}
use Rattle.vault_faults.specs.declared.fault.CatFault.{CatFault}
use Rattle.vault_faults.specs.declared.fault.CatFault.TheVariants as cat
use Rattle.vault_faults.specs.declared.fault.FindFault.{FindFault}
use Rattle.vault_faults.specs.declared.fault.FindFault.TheVariants as find
use Rattle.vault_faults.specs.declared.fault.Limit.TheVariants as limited
use Rattle.vault_spec.specs.Find.{Refusal}
use Rattle.vault_spec.specs.Find as spec
use Rattle.folder_spec.specs.Seen.{IfSeen, IsSeen, under}
use Rattle.vault_spec.specs.Format.{Format, file_bytes}
use Rattle.vault_spec.specs.Standing.{File, standing}
use Rattle.vault_spec.specs.Vault.{Vault, format_of}
use Rattle.vault_spec.specs.declared.Lack.TheVariants as lacks
use Rattle.reading_commands.specs.Cat.{OpensFile, ShowsContent, ShowsContentFile, answer_to_ending, is_of_finding, shown_reading}
use Rattle.reading_commands.specs.Faults.{of_cat}
use Rattle.open_for_reading.specs.Faults.{of_find}
use Rattle.reading_commands.specs.Finding.{answer_to_finding}
use Rattle.open_for_reading.specs.Opening.{Opens}
use Rattle.open_for_reading.specs.Refusing.{Unless}
use Rattle.open_for_reading.specs.Shown.{Shown, refused, Follows, IsCutShort, Reads, is_of_reading}
use Rattle.command_answers.specs.declared.answer.Answer.{Answer}
use Rattle.command_answers.specs.declared.answer.Answer.TheVariants.{Done, FolderFault, OutputFault, Damaged, Limit}
use Rattle.command_answers.specs.declared.answer.Damage.TheVariants as damage
use Rattle.command_answers.specs.declared.answer.Limit.TheVariants as limit
use Rattle.command_words.specs.declared.commands.Target.{Target}
use Rattle.open_for_reading.proofs.Refusals.{opened_gives, opened_is, opened_one}
use Rattle.open_for_reading.proofs.Showing.{IsOne, all_or_cut, follows_unless, reads_by}

-- a refusal to find, as it is answered
pub find_refused : {T : Type 0} (root : Path) (found : Result T Refusal) (fault : FindFault) → Refuses root found fault
    → Unless (of_find fault) ((refusal : Refusal) × (found ≡ Err refusal) × (of_find fault ≡ answer_to_finding root refusal))
find_refused root found (find.NotFound path) refuses = inr (inr (spec.NotFound path, refuses, refl))
find_refused root found (find.WrongKind path) refuses = inr (inr (spec.WrongKind path, refuses, refl))
find_refused root found (find.NoDirKey at) refuses = inr (inr (spec.Locked refuses.0 lacks.NoDirKey, refuses.2, ap (λ p. Damaged p damage.NoDirKey) refuses.1))
find_refused root found (find.NoFolder at) refuses = inr (inr (spec.Locked refuses.0 lacks.NoFolder, refuses.2, ap (λ p. Damaged p damage.NoFolder) refuses.1))
find_refused root found find.Failed refuses = inl refl
find_refused root found find.NoMemory refuses = inr (inl refl)

by_bytes : (keys : Keys) (at : Path) (bytes : Option (List ℕ)) (a b : Shown) → ShowsContentFile keys at bytes a → ShowsContentFile keys at bytes b → a ≡ b
by_bytes keys at None a b x y = absurd x
by_bytes keys at (Some bytes) a b x y = x ∙ sym y

-- what `cat` shows is one
pub content_is_one : HaveOneAnswer → (target : Target) (v : View) → IsOne (ShowsContent target v)
content_is_one law target v a b =
    opened_one law v target.vault target.pass a b (follows a) (follows b) (λ vault. by_found vault (content_at (format_of vault) target.vault v target.path))
  where
    follows : Shown → Vault → Type 0
    follows shown vault =
        MatchResult (content_at (format_of vault) target.vault v target.path)
        (λ at. ShowsContentFile (format_of vault).content (target.vault ++ at) (file_bytes (v (target.vault ++ at))) shown)
        (λ refusal. shown ≡ refused (answer_to_finding target.vault refusal))

    by_found : (vault : Vault) (found : Result Path Refusal)
        → MatchResult found (λ at. ShowsContentFile (format_of vault).content (target.vault ++ at) (file_bytes (v (target.vault ++ at))) a) (λ refusal. a ≡ refused (answer_to_finding target.vault refusal))
        → MatchResult found (λ at. ShowsContentFile (format_of vault).content (target.vault ++ at) (file_bytes (v (target.vault ++ at))) b) (λ refusal. b ≡ refused (answer_to_finding target.vault refusal))
        → a ≡ b
    by_found vault (Ok at) x y = by_bytes (format_of vault).content (target.vault ++ at) (file_bytes (v (target.vault ++ at))) a b x y
    by_found vault (Err refusal) x y = x ∙ sym y

-- a file that stands is found
abbrev pub FilesAreFound : Type 0
FilesAreFound = (f : Format) (v : View) (path : plain.Path) (at : Path) → standing f v path ≡ File at → spec.find f v path ≡ Ok (File at)

-- a content that is found is shown
shows_content : FilesAreFound → (target : Target) (v : View) (vault : Vault) (at : Path) (reading : Reading) → Opens v target.vault target.pass vault
    → IsContent (format_of vault) target.vault v target.path at reading → ShowsContent target v (shown_reading at reading)
shows_content files target v vault at reading opens is =
    opened_gives v target.vault target.pass (shown_reading at reading)
    (λ vault. MatchResult (content_at (format_of vault) target.vault v target.path)
    (λ p. ShowsContentFile (format_of vault).content (target.vault ++ p) (file_bytes (v (target.vault ++ p))) (shown_reading at reading))
    (λ refusal. shown_reading at reading ≡ refused (answer_to_finding target.vault refusal)))
    vault opens
    (subst (λ r. MatchResult r (λ p. ShowsContentFile (format_of vault).content (target.vault ++ p) (file_bytes (v (target.vault ++ p))) (shown_reading at reading))
    (λ refusal. shown_reading at reading ≡ refused (answer_to_finding target.vault refusal))) (sym (ap (file_found target.path) (files (format_of vault) (under target.vault v) target.path is.rest is.stands)))
    (subst (λ p. ShowsContentFile (format_of vault).content p (file_bytes (v p)) (shown_reading at reading)) is.place
    (subst (λ x. ShowsContentFile (format_of vault).content at (file_bytes x) (shown_reading at reading)) (sym is.file) (ap (shown_reading at) is.gives))))

-- a content that isn't found
refuses_content : (target : Target) (v : View) (vault : Vault) (fault : FindFault) → Opens v target.vault target.pass vault
    → Refuses target.vault (content_at (format_of vault) target.vault v target.path) fault → Unless (of_find fault) (ShowsContent target v (refused (of_find fault)))
refuses_content target v vault fault opens refuses =
    shown_by (find_refused target.vault (content_at (format_of vault) target.vault v target.path) fault refuses)
  where
    shown_by : Unless (of_find fault) ((refusal : Refusal) × (content_at (format_of vault) target.vault v target.path ≡ Err refusal) × (of_find fault ≡ answer_to_finding target.vault refusal))
        → Unless (of_find fault) (ShowsContent target v (refused (of_find fault)))
    shown_by (inl failed) = inl failed
    shown_by (inr (inl memory)) = inr (inl memory)
    shown_by (inr (inr is)) =
        inr (inr (opened_gives v target.vault target.pass (refused (of_find fault))
        (λ vault. MatchResult (content_at (format_of vault) target.vault v target.path)
        (λ p. ShowsContentFile (format_of vault).content (target.vault ++ p) (file_bytes (v (target.vault ++ p))) (refused (of_find fault)))
        (λ refusal. refused (of_find fault) ≡ refused (answer_to_finding target.vault refusal)))
        vault opens
        (subst (λ r. MatchResult r (λ p. ShowsContentFile (format_of vault).content (target.vault ++ p) (file_bytes (v (target.vault ++ p))) (refused (of_find fault)))
        (λ refusal. refused (of_find fault) ≡ refused (answer_to_finding target.vault refusal))) (sym is.1) (ap refused is.2))))

-- the answer to how reading and writing a content ended
abbrev pub answer_to_cat : Result ℕ CatFault → Answer
answer_to_cat (Ok n) = Done
answer_to_cat (Err fault) = of_cat fault

written : FilesAreFound → (target : Target) (v : View) (vault : Vault) (result : Result ℕ CatFault) (taken taken' : Option (List ℕ)) → Opens v target.vault target.pass vault
    → WritesContent (format_of vault) target.vault v target.path result taken taken' → Follows (ShowsContent target v) (answer_to_cat result) taken taken'
written files target v vault (Ok n) taken taken' opens (at, reading, is, wrote) =
    (shown_reading at reading, shows_content files target v vault at reading opens is, ap (answer_to_ending at) (sym wrote.0), wrote.2)
written files target v vault (Err (cat.Damaged path fault)) taken taken' opens (at, reading, is, wrote) = (
  shown_reading at reading,
  shows_content files target v vault at reading opens is,
  ap (λ p. Damaged p (damage.Content fault)) wrote.0 ∙ ap (answer_to_ending at) (sym wrote.1),
  wrote.2,
)
written files target v vault (Err (cat.Limit (limited.Length path))) taken taken' opens (at, reading, is, wrote) = (
  shown_reading at reading,
  shows_content files target v vault at reading opens is,
  ap (λ p. Limit (limit.Length p)) wrote.0 ∙ ap (answer_to_ending at) (sym wrote.1),
  wrote.2,
)
written files target v vault (Err (cat.Limit limited.Depth)) taken taken' opens (at, reading, is, wrote) = absurd wrote
written files target v vault (Err (cat.Limit limited.Items)) taken taken' opens (at, reading, is, wrote) = absurd wrote
written files target v vault (Err (cat.Limit limited.Input)) taken taken' opens (at, reading, is, wrote) = absurd wrote
written files target v vault (Err cat.Sink) taken taken' opens (at, reading, is, wrote) =
    (shown_reading at reading, shows_content files target v vault at reading opens is, wrote)
written files target v vault (Err cat.Failed) taken taken' opens (at, reading, is, wrote) =
    inr (shown_reading at reading, shows_content files target v vault at reading opens is, wrote.0, wrote.1)
written files target v vault (Err cat.NoMemory) taken taken' opens (at, reading, is, wrote) =
    inr (shown_reading at reading, shows_content files target v vault at reading opens is, wrote.0, wrote.1)
written files target v vault (Err (cat.Find fault)) taken taken' opens (at, reading, is, wrote) = absurd wrote

pub cat_follows : FilesAreFound → (target : Target) (v : View) (vault : Vault) (result : Result ℕ CatFault) (taken taken' : Option (List ℕ)) → Opens v target.vault target.pass vault
    → Cats (format_of vault) target.vault v target.path result taken taken' → Follows (ShowsContent target v) (answer_to_cat result) taken taken'
cat_follows files target v vault (Ok n) taken taken' opens cats = written files target v vault (Ok n) taken taken' opens cats
cat_follows files target v vault (Err (cat.Damaged path fault)) taken taken' opens cats = written files target v vault (Err (cat.Damaged path fault)) taken taken' opens cats
cat_follows files target v vault (Err (cat.Limit which)) taken taken' opens cats = written files target v vault (Err (cat.Limit which)) taken taken' opens cats
cat_follows files target v vault (Err cat.Sink) taken taken' opens cats = written files target v vault (Err cat.Sink) taken taken' opens cats
cat_follows files target v vault (Err cat.Failed) taken taken' opens (inl keeps) = inl keeps
cat_follows files target v vault (Err cat.Failed) taken taken' opens (inr wrote) = written files target v vault (Err cat.Failed) taken taken' opens wrote
cat_follows files target v vault (Err cat.NoMemory) taken taken' opens (inl keeps) = inl keeps
cat_follows files target v vault (Err cat.NoMemory) taken taken' opens (inr wrote) = written files target v vault (Err cat.NoMemory) taken taken' opens wrote
cat_follows files target v vault (Err (cat.Find fault)) taken taken' opens cats =
    follows_unless (ShowsContent target v) (of_find fault) taken taken' cats.1 (refuses_content target v vault fault opens cats.0)

own_cat : (result : Result ℕ CatFault) → IsTrue (is_of_reading (answer_to_cat result))
own_cat (Ok n) = refl
own_cat (Err (cat.Find find.Failed)) = refl
own_cat (Err (cat.Find fault)) = refl
own_cat (Err fault) = refl

-- `cat` reads what its definition shows
pub cat_reads : HaveOneAnswer → FilesAreFound → (target : Target) (root : Path) (vault : Vault) (result : Result ℕ CatFault) (told told1 told' : Option Told) (taken taken' : Option (List ℕ))
    → root ≡ target.vault → told1 ≡ told → told' ≡ told1
    → IfSeen told (λ v. Opens v target.vault target.pass vault) → IfSeen told1 (λ v. Cats (format_of vault) root v target.path result taken taken')
    → Reads (ShowsContent target) (answer_to_cat result) told told' taken taken'
cat_reads law files target root vault result told told1 told' taken taken' at same same' opens cats =
    reads_by (ShowsContent target) (answer_to_cat result) told told' taken taken' (content_is_one law target) (same' ∙ same) (own_cat result)
    (λ v is. cat_follows files target v vault result taken taken' (opens v is)
    (subst (λ p. Cats (format_of vault) p v target.path result taken taken') at (cats v (subst (λ t. IsSeen t v) (sym same) is))))

-- the folder is named where it failed
pub cat_fails : (fault : CatFault) → of_cat fault ≡ FolderFault → (fault ≡ cat.Failed) ⊎ (fault ≡ cat.Find find.Failed)
cat_fails cat.Failed is = inl refl
cat_fails (cat.Find find.Failed) is = inr refl
cat_fails (cat.Find fault) is = cc
cat_fails fault is = cc

pub cat_unwritten : (fault : CatFault) → of_cat fault ≡ OutputFault → fault ≡ cat.Sink
cat_unwritten cat.Sink is = refl
cat_unwritten (cat.Find find.Failed) is = cc
cat_unwritten (cat.Find fault) is = cc
cat_unwritten fault is = cc

-- a file that isn't found is the one fault that is answered so, and nothing is written then
pub quiet_fault : (fault : CatFault) (taken taken' : Option (List ℕ)) → ((found : FindFault) → fault ≡ cat.Find found → Keeps taken taken')
    → IsTrue (is_of_finding (of_cat fault)) → Keeps taken taken'
quiet_fault (cat.Find found) taken taken' keeps finding = keeps found refl
quiet_fault (cat.Damaged at fault) taken taken' keeps finding = cc
quiet_fault (cat.Limit which) taken taken' keeps finding = cc
quiet_fault cat.Sink taken taken' keeps finding = cc
quiet_fault cat.Failed taken taken' keeps finding = cc
quiet_fault cat.NoMemory taken taken' keeps finding = cc

-- a whole file is written, unless the command is cut short
pub written_or_cut : HaveOneAnswer → (target : Target) (answer : Answer) (told told' : Option Told) (taken taken' : Option (List ℕ)) → Reads (ShowsContent target) answer told told' taken taken'
    → (v : View) → IsSeen told v → OpensFile target v → (answer ≡ Done) ⊎ IsCutShort answer
written_or_cut law target answer told told' taken taken' reads v is opens = elim (all_or_cut (ShowsContent target v) answer taken taken' (reads.follows v is)) [
  | inl all ↦ inl (all.2 ∙ ap (λ (s : Shown). s.answer) (shown_whole all.0 all.1) ∙ ap (answer_to_ending (target.vault ++ opens.at)) opens.whole)
  | inr cut ↦ inr cut
]
  where
    by_found : Shown → Vault → Result Path Refusal → Type 0
    by_found shown vault found =
        MatchResult found (λ at. ShowsContentFile (format_of vault).content (target.vault ++ at) (file_bytes (v (target.vault ++ at))) shown)
        (λ refusal. shown ≡ refused (answer_to_finding target.vault refusal))

    shown_whole : (shown : Shown) → ShowsContent target v shown → shown ≡ shown_reading (target.vault ++ opens.at) (limited_reading (format_of opens.vault).content opens.bytes)
    shown_whole shown shows =
        subst (λ bytes. ShowsContentFile (format_of opens.vault).content (target.vault ++ opens.at) bytes shown) opens.stored
        (subst (by_found shown opens.vault) opens.found
        (opened_is law v target.vault target.pass shown (λ vault. by_found shown vault (content_at (format_of vault) target.vault v target.path)) opens.vault opens.opens shows))
