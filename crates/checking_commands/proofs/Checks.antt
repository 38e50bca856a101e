-- What `fsck` shows: its lines, and how its answer follows from them.
use Rattle.std.proofs.Common.{◌≡◌, ◌∷◌, ◌++◌, ℕ, zero, List, [], length, map, Option, inl, inr, refl, sym, ap, ◌∙◌, subst, append-nil, arith}
use Rattle.std.specs.Prelude.{◌≢◌, ◌⊎◌, ◌↔◌, Contains, IsTrue}
use Rattle.std.specs.Fmt.{decimal}
use Rattle.std.specs.List.{flat_map}
use Rattle.std.specs.Io.KnownBytes.{Appends, Keeps}
use Rattle.folder_spec.specs.Path.{Path}
use Rattle.folder_spec.specs.Seen.{IfSeen, under}
use Rattle.folder_spec.specs.View.{View}
use Rattle.plain_tree.specs.Shown.{shown_path}
use Rattle.vault_read.specs.Laws.{HaveOneAnswer}
use Rattle.vault_faults.specs.declared.fault.Limit.TheVariants as limited
use Rattle.vault_spec.specs.Findings.{number_of}
use Rattle.vault_spec.specs.Format.{Format}
use Rattle.vault_spec.specs.Vault.{Vault, format_of}
use Rattle.vault_spec.specs.declared.Finding.{Finding}
use Rattle.vault_spec.specs.declared.Finding.TheVariants as is
use Rattle.vault_walk.specs.Survey.{HasTooMany}
use Rattle.vault_walk.specs.Surveyed.{IsOnlyTooDeep, IsWithin}
use Rattle.vault_walk.specs.declared.fault.Finding as walk
use Rattle.vault_check.specs.Answers.{IsCheckFault}
use Rattle.vault_check.specs.Checking.{Reported, IsReported, AreReported, IsReport, IsTooLong, NamesTooLong, told}
use Rattle.vault_check.specs.declared.checking.Report.{Report}
use Rattle.vault_check.specs.declared.fault.CheckFault.{CheckFault}
use Rattle.vault_check.specs.declared.fault.CheckFault.TheVariants as check
use Rattle.command_answers.specs.Answers.{status_of}
use Rattle.checking_commands.specs.Faults.{of_check}
use Rattle.checking_commands.specs.Fsck.{IsReportOf, ShowsVault, Whole, TooMany, TooDeep, TooLong, ShowsReport, OpensWithin, ChecksVault, fault_part, finding_line, finding_name, is_of_checking, note_line, report_text}
use Rattle.command_answers.specs.Messages.{name_numbered}
use Rattle.checking_commands.specs.Lines.{answer_to_found, found_line, noted_line, told_text}
use Rattle.open_for_reading.specs.Opening.{Opens}
use Rattle.open_for_reading.specs.Refusing.{Unless}
use Rattle.open_for_reading.specs.Shown.{Shown, Follows, refused}
use Rattle.open_for_reading.specs.World.{World}
use Rattle.command_answers.specs.declared.answer.Answer.{Answer}
use Rattle.command_answers.specs.declared.answer.Answer.TheVariants.{Done, Findings, FolderFault, OutputFault}
use Rattle.command_words.specs.declared.commands.Checking.{Checking}
use Rattle.open_for_reading.proofs.Refusals.{opened_alike, opened_gives, opened_is}
use Rattle.open_for_reading.proofs.Showing.{all_or_cut}

-- ---- lines

name_is : (finding : Finding) → name_numbered (number_of finding) ≡ finding_name finding
name_is is.BadStoredName = refl
name_is is.NoDirKey = refl
name_is is.LongNameLost = refl
name_is is.OrphanLongName = refl
name_is is.DirIdTwice = refl
name_is is.NoFolder = refl
name_is is.OrphanFolder = refl
name_is is.SymlinkFound = refl
name_is is.WrongKind = refl
name_is is.ExtraEntry = refl
name_is is.TwoKinds = refl
name_is is.HeaderDamaged = refl
name_is is.ChunkDamaged = refl
name_is is.EmptyOrphan = refl

found_is : (root : Path) (x : Reported) → found_line (told root x) ≡ finding_line root x
found_is root x =
    ap (λ name. decimal (number_of x.found.finding) ++ 32 ∷ name ++ 32 ∷ shown_path (root ++ x.found.at) ++ fault_part x.fault ++ 10 ∷ []) (name_is x.found.finding)

findings_are : (root : Path) (all : List Reported) → flat_map found_line (map (told root) all) ≡ flat_map (finding_line root) all
findings_are root [] = refl
findings_are root (x ∷ all) = ap (λ l. l ++ flat_map found_line (map (told root) all)) (found_is root x) ∙ ap (λ t. finding_line root x ++ t) (findings_are root all)

notes_are : (root : Path) (notes : List Path) → flat_map noted_line (map (λ (at : Path). root ++ at) notes) ≡ flat_map (note_line root) notes
notes_are root [] = refl
notes_are root (at ∷ notes) = ap (λ t. note_line root at ++ t) (notes_are root notes)

text_is : (root : Path) (report : Report) (all : List Reported) (notes : List Path) → report.findings.items ≡ map (told root) all → report.notes.items ≡ map (λ (at : Path). root ++ at) notes
    → told_text report ≡ report_text root all notes
text_is root report all notes found noted =
    ap (λ l. flat_map found_line l ++ flat_map noted_line report.notes.items) found ∙ ap (λ t. t ++ flat_map noted_line report.notes.items) (findings_are root all)
    ∙ ap (λ l. flat_map (finding_line root) all ++ flat_map noted_line l) noted ∙ ap (λ t. flat_map (finding_line root) all ++ t) (notes_are root notes)

-- ---- a report

one_of : (found : List walk.Finding) → (answer_to_found found ≡ Done) ⊎ (answer_to_found found ≡ Findings)
one_of [] = inl refl
one_of (x ∷ found) = inr refl

none_within : (x : Reported) → ¬ Contains [] x
none_within x there = omega (arith, there.1)

first_within : (x : Reported) (all : List Reported) → Contains (x ∷ all) x
first_within x all = (zero, omega arith, refl)

exactly_found : (root : Path) (f : Format) (v : View) (all : List Reported) → AreReported f v all → (answer_to_found (map (told root) all) ≡ Findings) ↔ ((x : Reported) × IsReported f v x)
exactly_found root f v [] are = (λ same. cc, λ some. absurd (none_within some.0 ((are.each some.0).1 some.1)))
exactly_found root f v (x ∷ all) are = (λ same. (x, (are.each x).0 (first_within x all)), λ some. refl)

pub report_shown : (root : Path) (f : Format) (v : View) (report : Report) → IsReport root f v report → IsWithin f v → ((at : Path) → ¬ IsTooLong f v at)
    → ShowsVault root f v (record { pieces = told_text report ∷ []; answer = answer_to_found report.findings.items })
report_shown root f v report r within short = Whole (record {
  all = r.all;
  notes = r.notes;
  are = r.are;
  notes_are = r.notes_are;
  text = ap (λ t. t ∷ []) (text_is root report r.all r.notes r.findings_told r.notes_told);
  answers = one_of report.findings.items;
  found = subst (λ l. (answer_to_found l ≡ Findings) ↔ ((x : Reported) × IsReported f v x)) (sym r.findings_told) (exactly_found root f v r.all r.are);
  within = within;
  short = short;
})

pub report_told : (target : Checking) (root : Path) (vault : Vault) (v : View) (report : Report) → root ≡ target.vault → Opens v target.vault target.pass vault
    → IsReport root (format_of vault) (under root v) report → IsWithin (format_of vault) (under root v) → ((at : Path) → ¬ IsTooLong (format_of vault) (under root v) at)
    → ShowsReport target v (record { pieces = told_text report ∷ []; answer = answer_to_found report.findings.items })
report_told target root vault v report same opens r within short =
    opened_gives v target.vault target.pass shown (λ w. ShowsVault target.vault (format_of w) (under target.vault v) shown) vault opens
    (subst (λ p. ShowsVault p (format_of vault) (under p v) shown) same (report_shown root (format_of vault) (under root v) report r within short))
  where
    shown : Shown
    shown = record { pieces = told_text report ∷ []; answer = answer_to_found report.findings.items }

-- a limit, or the folder, or memory
pub check_refused : (target : Checking) (root : Path) (vault : Vault) (v : View) (fault : CheckFault) → root ≡ target.vault → Opens v target.vault target.pass vault → IsCheckFault fault
    → (fault ≡ check.Limit limited.Items → HasTooMany (format_of vault) (under root v)) → (fault ≡ check.Limit limited.Depth → IsOnlyTooDeep (format_of vault) (under root v))
    → ((at : Path) → fault ≡ check.Limit (limited.Length at) → NamesTooLong root (format_of vault) (under root v) at × IsWithin (format_of vault) (under root v))
    → Unless (of_check fault) (ShowsReport target v (refused (of_check fault)))
check_refused target root vault v fault same opens is items depth length = by fault is items depth length
  where
    shows : (answer : Answer) → ShowsVault root (format_of vault) (under root v) (refused answer) → ShowsReport target v (refused answer)
    shows answer s =
        opened_gives v target.vault target.pass (refused answer) (λ w. ShowsVault target.vault (format_of w) (under target.vault v) (refused answer)) vault opens
        (subst (λ p. ShowsVault p (format_of vault) (under p v) (refused answer)) same s)

    by : (fault : CheckFault) → IsCheckFault fault
        → (fault ≡ check.Limit limited.Items → HasTooMany (format_of vault) (under root v)) → (fault ≡ check.Limit limited.Depth → IsOnlyTooDeep (format_of vault) (under root v))
        → ((at : Path) → fault ≡ check.Limit (limited.Length at) → NamesTooLong root (format_of vault) (under root v) at × IsWithin (format_of vault) (under root v))
        → Unless (of_check fault) (ShowsReport target v (refused (of_check fault)))
    by (check.Limit limited.Items) is items depth length = inr (inr (shows _ (TooMany (items refl) refl)))
    by (check.Limit limited.Depth) is items depth length = inr (inr (shows _ (TooDeep (depth refl) refl)))
    by (check.Limit (limited.Length at)) is items depth length = inr (inr (shows _ (TooLong at (length at refl).0 (length at refl).1 refl)))
    by (check.Limit limited.Input) is items depth length = absurd is
    by check.Failed is items depth length = inl refl
    by check.NoMemory is items depth length = inr (inl refl)

-- ---- the answer

pub of_report : (found : List walk.Finding) → IsTrue (is_of_checking (answer_to_found found)) × (answer_to_found found ≢ FolderFault) × (answer_to_found found ≢ OutputFault)
of_report [] = (refl, λ is. cc, λ is. cc)
of_report (x ∷ found) = (refl, λ is. cc, λ is. cc)

-- what a report is written as follows from what is shown
pub follows_report : (Shows : Shown → Type 0) (text : List ℕ) (found : List walk.Finding) (taken taken' : Option (List ℕ)) → Shows (record { pieces = text ∷ []; answer = answer_to_found found })
    → Appends taken taken' text → Follows Shows (answer_to_found found) taken taken'
follows_report Shows text found taken taken' shows wrote = by found shows
  where
    whole : text ≡ text ++ []
    whole = sym (append-nil text)

    by : (found : List walk.Finding) → Shows (record { pieces = text ∷ []; answer = answer_to_found found }) → Follows Shows (answer_to_found found) taken taken'
    by [] shows = (record { pieces = text ∷ []; answer = Done }, shows, refl, subst (Appends taken taken') whole wrote)
    by (x ∷ found) shows = (record { pieces = text ∷ []; answer = Findings }, shows, refl, subst (Appends taken taken') whole wrote)

-- a limit is passed, which no report has
abbrev IsPast : Format → View → Shown → Type 0
IsPast f v shown = (status_of shown.answer ≡ 23) × (IsWithin f v → ((at : Path) → ¬ IsTooLong f v at) → ⊥)

whole_or_past : (root : Path) (f : Format) (v : View) (shown : Shown) → ShowsVault root f v shown → IsReportOf root f v shown ⊎ IsPast f v shown
whole_or_past root f v shown (Whole report) = inl report
whole_or_past root f v shown (TooMany items is) = inr (ap (λ s. status_of s.answer) is, λ within short. within.items items)
whole_or_past root f v shown (TooDeep deep is) = inr (ap (λ s. status_of s.answer) is, λ within short. within.depth deep.deep)
whole_or_past root f v shown (TooLong at long inside is) = inr (ap (λ s. status_of s.answer) is, λ within short. short long.at long.is)

both_found : (root : Path) (f : Format) (v : View) (a b : Shown) → IsReportOf root f v a → IsReportOf root f v b → status_of a.answer ≡ status_of b.answer
both_found root f v a b x y = elim x.answers [
  | inl done ↦ elim y.answers [
    | inl clean ↦ ap status_of (done ∙ sym clean)
    | inr found ↦ ap status_of (x.found.1 (y.found.0 found) ∙ sym found)
  ]
  | inr found ↦ ap status_of (found ∙ sym (y.found.1 (x.found.0 found)))
]

vault_alike : (root : Path) (f : Format) (v : View) (a b : Shown) → ShowsVault root f v a → ShowsVault root f v b → status_of a.answer ≡ status_of b.answer
vault_alike root f v a b x y = elim (whole_or_past root f v a x) [
  | inl one ↦ elim (whole_or_past root f v b y) [
    | inl other ↦ both_found root f v a b one other
    | inr past ↦ absurd (past.1 one.within one.short)
  ]
  | inr past ↦ elim (whole_or_past root f v b y) [
    | inl other ↦ absurd (past.1 other.within other.short)
    | inr both ↦ past.0 ∙ sym both.0
  ]
]

status_alike : HaveOneAnswer → (target : Checking) (v : View) (a b : Shown) → ShowsReport target v a → ShowsReport target v b → status_of a.answer ≡ status_of b.answer
status_alike law target v a b =
    opened_alike (λ a b. status_of a.answer ≡ status_of b.answer) (λ a b is. ap (λ s. status_of s.answer) is) law v target.vault target.pass a b
    (λ vault. ShowsVault target.vault (format_of vault) (under target.vault v) a) (λ vault. ShowsVault target.vault (format_of vault) (under target.vault v) b)
    (λ vault. vault_alike target.vault (format_of vault) (under target.vault v) a b)

within_found : HaveOneAnswer → (target : Checking) (v : View) (vault : Vault) (shown : Shown) → OpensWithin target v vault → ShowsReport target v shown → (shown.answer ≡ Done) ⊎ (shown.answer ≡ Findings)
within_found law target v vault shown opens shows =
    elim (whole_or_past target.vault (format_of vault) (under target.vault v) shown
    (opened_is law v target.vault target.pass shown (λ w. ShowsVault target.vault (format_of w) (under target.vault v) shown) vault opens.opens shows)) [
      | inl report ↦ report.answers
      | inr past ↦ absurd (past.1 opens.within opens.short)
    ]

pub checks : HaveOneAnswer → (target : Checking) (answer : Answer) (before after : World) → after.told ≡ before.told → IsTrue (is_of_checking answer)
    → IfSeen before.told (λ v. Follows (ShowsReport target v) answer before.taken after.taken) → (answer ≡ FolderFault → Keeps before.taken after.taken)
    → Keeps before.left after.left → after.random ≡ before.random → ChecksVault target answer before after
checks law target answer before after same own follows quiet untouched undrawn = record {
  unchanged = same;
  own = own;
  follows = follows;
  exactly = λ v shown is shows. elim (all_or_cut (ShowsReport target v) answer before.taken after.taken (follows v is)) [
    | inl all ↦ inl (ap status_of all.2 ∙ status_alike law target v all.0 shown all.1 shows)
    | inr cut ↦ inr cut
  ];
  complete = λ v vault is opens. elim (all_or_cut (ShowsReport target v) answer before.taken after.taken (follows v is)) [
    | inl all ↦ inl (elim (within_found law target v vault all.0 opens all.1) [ inl done ↦ inl (all.2 ∙ done) | inr found ↦ inr (all.2 ∙ found) ])
    | inr cut ↦ inr cut
  ];
  quiet = quiet;
  untouched = untouched;
  undrawn = undrawn;
}
