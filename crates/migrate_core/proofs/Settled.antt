-- What a call finds of a settled migration: the vaults that it opens are its sides, and how far it has come.
use Rattle.std.proofs.Common.{◌≡◌, ◌≢◌, ◌⊎◌, ℕ, List, Bool, true, false, Option, Some, None, Ok, refl, sym, ap, ◌∙◌, subst, inl, inr, append-nil, codes}
use Rattle.folder_spec.specs.Event.{Told, Changes, Settle, Done, changed, told_after}
use Rattle.folder_spec.specs.Path.{Path, parent}
use Rattle.folder_spec.specs.Seen.{IfSeen, IsSeen, seen, under}
use Rattle.folder_spec.specs.State.{State, IsSound}
use Rattle.folder_spec.specs.View.{Found, NoEntry, Folder, FileOf, Special, View, kind_found}
use Rattle.move_journal.specs.Journal.{IsJournal}
use Rattle.move_journal.specs.Reading.{ReadsAs, journal_bytes, StandsIn}
use Rattle.work_folder.specs.Entries.{journal_path, new_journal_path, is_foreign, stage_path}
use Rattle.move_journal.specs.declared.journal.Journal.{Journal}
use Rattle.move_journal.specs.declared.journal.Phase.{Phase}
use Rattle.move_journal.specs.declared.journal.Phase.TheVariants as phase
use Rattle.move_journal.proofs.Standing.{HaveOneJournal, not_missing, read_stands}
use Rattle.migration_spec.specs.Alone.{Progress, Unbegun, Begun, Finished, IsIn, IsAlone, KeepsGuarded}
use Rattle.migration_spec.specs.Guard as guard
use Rattle.migration_spec.specs.Guard.{AreOpenedBy, Migration, Guarded, IsGuarded, IsThere, Tells, HasJournal, Case, NotBegun, Building, Retired, LastJournal, Stands, Gone}
use Rattle.plain_tree.specs.declared.name_map.NameMap.{NameMap}
use Rattle.vault_read.specs.Laws.{HaveOneAnswer}
use Rattle.vault_spec.specs.Opened.{OpenedVault}
use Rattle.vault_spec.specs.Vault.{Vault, LoadsFrom, IsVault}
use Rattle.work_folder.specs.Looking.{Tests, TestsEntries, TestsJournal, TestsKind, TestsParent}
use Rattle.migration_spec.proofs.Entries.{entries_pass}
use Rattle.migration_spec.proofs.Settling.{SettlesGuarded, settle_then, still_guarded}
use Rattle.migration_spec.proofs.Tellings.{AreSound, folders_in, folders_of}
use Rattle.migrate_core.specs.Leading.{Guards, IsSettled, KeepsSettled, progress_of}
use Rattle.migrate_core.specs.Moving.{MovesBeside}
use Rattle.migrate_core.specs.Sides.{AreSides, IsAsked, IsInUse}

-- ---- laws that are cited

-- a reader finds one of the four cases
abbrev pub AreSeen : Type 0
AreSeen = (g : Migration) (s : State) → IsSound s → Guarded g s → IsGuarded g (seen s)

-- behind a settle nothing is pending of what counts
abbrev pub SettlesAlone : Type 0
SettlesAlone = (g : Migration) (p : Progress) (s : State) → IsSound s → Guarded g s → IsIn g p (seen s) → IsAlone g p (changed s Settle)

-- ---- the vaults

-- a call opened this vault at a root, by a passphrase
pub record IsLoaded (v : View) (opened : OpenedVault) (root : Path) (pass : List ℕ) : Type 0 where
  pub stands : opened.root ≡ root
  pub loads : IsVault (under root v) pass opened.vault

-- something stands at the root of what opens
pub root_stands : (v : View) (root : Path) (pass : List ℕ) (vault : Vault) → IsVault (under root v) pass vault → v root ≢ NoEntry
root_stands v root pass vault loads none = cc (subst (λ (x : Found). LoadsFrom x (under root v) pass (Ok vault)) (ap v (append-nil root) ∙ none) loads)

pub one_side : HaveOneAnswer → (a : OpenedVault) (v : View) (opened : OpenedVault) (root : Path) (pass : List ℕ) → IsLoaded v opened root pass → a.root ≡ root → IsVault (under a.root v) pass a.vault → opened ≡ a
one_side one a v opened root pass loaded at there = λ i. record { root = (loaded.stands ∙ sym at) i; vault = same i }
  where
    same : opened.vault ≡ a.vault
    same = let e = one (under a.root v) pass (Ok opened.vault) (Ok a.vault) (subst (λ r. IsVault (under r v) pass opened.vault) (sym at) loaded.loads) there in cc e

-- ---- a migration that is to begin

-- no journal stands where the tests of a work folder pass
no_journal : (s : State) (work : Path) (text : List ℕ) → IsSound s → Tests (seen s) work (Ok tt) → seen s (journal_path work) ≢ FileOf text
no_journal s work text sound tests stands =
    by_journal (seen s (journal_path work)) stands (by_kind (seen s work) (folders_in s sound work (codes "journal") (λ none. file (sym stands ∙ none))) (by_parent (seen s (parent work)) tests))
  where
    file : FileOf text ≡ NoEntry → ⊥
    file e = cc e

    by_parent : (x : Found) → TestsParent x (seen s) work (Ok tt) → TestsKind (seen s work) (seen s) work (Ok tt)
    by_parent Folder h = h
    by_parent NoEntry h = absurd (cc h)
    by_parent (FileOf bytes) h = absurd (cc h)
    by_parent Special h = absurd (cc h)

    by_kind : (x : Found) → x ≡ Folder → TestsKind x (seen s) work (Ok tt) → TestsJournal (seen s (journal_path work)) (seen s) work (Ok tt)
    by_kind Folder e h = h
    by_kind NoEntry e h = absurd (cc e)
    by_kind (FileOf bytes) e h = absurd (cc h)
    by_kind Special e h = absurd (cc h)

    by_journal : (x : Found) → x ≡ FileOf text → TestsJournal x (seen s) work (Ok tt) → ⊥
    by_journal (FileOf bytes) e h = cc h
    by_journal NoEntry e h = cc e
    by_journal Folder e h = cc e
    by_journal Special e h = cc e

-- what leads a settled migration on
pub record IsFound (g : Migration) (p : Progress) (s : State) (rule : NameMap) (from to : OpenedVault) (through : Path) : Type 0 where
  pub sides : AreSides g rule from to through
  pub alone : IsAlone g p s

pub begins : HaveOneAnswer → AreSeen → (g : Migration) (s : State) (rule : NameMap) (from to : OpenedVault) (source target through : Path) (from_pass to_pass : List ℕ)
    → IsAsked g rule source target through → AreOpenedBy g from_pass to_pass (seen s) → IsSettled g s → Tests (seen s) through (Ok tt)
    → IsLoaded (seen s) from source from_pass → IsLoaded (seen s) to target to_pass → IsFound g Unbegun s rule from to through
begins one are_seen g s rule from to source target through from_pass to_pass asked opened settled tests loaded other = by_case (are_seen g s settled.sound settled.guarded).case
  where
    none_there : (text : List ℕ) → seen s (journal_path g.work) ≢ FileOf text
    none_there text = subst (λ w. seen s (journal_path w) ≢ FileOf text) (sym asked.work) (no_journal s through text settled.sound tests)

    by_case : Case g (seen s) → IsFound g Unbegun s rule from to through
    by_case (NotBegun is) = record {
      sides = record {
        source = one_side one g.source (seen s) from source from_pass loaded asked.source (opened.source is.source.there);
        target = one_side one g.target (seen s) to target to_pass other asked.target (opened.target is.target);
        names = sym asked.names;
        work = sym asked.work;
      };
      alone = settled.alone Unbegun is;
    }
    by_case (Building is) = absurd (none_there is.journal.stands.text is.journal.stands.file)
    by_case (guard.Done is) = absurd (none_there is.journal.stands.text is.journal.stands.file)
    by_case (Retired is) = absurd (root_stands (seen s) source from_pass from.vault loaded.loads (ap (seen s) (sym asked.source) ∙ is.gone))

-- ---- a migration that is resumed

pub record IsFoundAgain (g : Migration) (s : State) (from to : OpenedVault) (through : Path) (journal : Journal) : Type 0 where
  pub found : IsFound g (progress_of journal.phase) s journal.names from to through
  pub tells : Tells g journal

pub resumes : HaveOneAnswer → AreSeen → HaveOneJournal → (g : Migration) (s : State) (from to : OpenedVault) (through : Path) (journal : Journal) (from_pass to_pass : List ℕ)
    → g.work ≡ through → AreOpenedBy g from_pass to_pass (seen s) → IsJournal journal → IsSettled g s → IsInUse (seen s) through journal
    → IsLoaded (seen s) from journal.source from_pass → IsLoaded (seen s) to journal.target to_pass → IsFoundAgain g s from to through journal
resumes one are_seen one_journal g s from to through journal from_pass to_pass resumed opened is_journal settled used loaded other = by_case (are_seen g s settled.sound settled.guarded).case
  where
    stands : StandsIn g.work journal (seen s)
    stands = subst (λ w. StandsIn w journal (seen s)) (sym resumed) used.stands

    is_told : (p : Phase) (has : HasJournal g p (seen s)) → has.journal ≡ journal
    is_told p has = one_journal g.work (seen s) has.journal journal has.is is_journal has.stands stands

    in_phase : (p : Phase) (has : HasJournal g p (seen s)) → journal.phase ≡ p
    in_phase p has = ap (λ (j : Journal). j.phase) (sym (is_told p has)) ∙ has.in_phase

    its_tells : (p : Phase) (has : HasJournal g p (seen s)) → Tells g journal
    its_tells p has = subst (Tells g) (is_told p has) has.tells

    found_by : (p : Phase) → HasJournal g p (seen s) → IsThere g.source (seen s) → IsThere g.target (seen s) → IsAlone g (progress_of p) s → IsFoundAgain g s from to through journal
    found_by p has source target alone =
        let tells = its_tells p has in
        record {
          found = record {
            sides = record {
              source = one_side one g.source (seen s) from journal.source from_pass loaded (sym tells.source) (opened.source source);
              target = one_side one g.target (seen s) to journal.target to_pass other (sym tells.target) (opened.target target);
              names = tells.names;
              work = sym resumed;
            };
            alone = subst (λ q. IsAlone g (progress_of q) s) (sym (in_phase p has)) alone;
          };
          tells = tells;
        }

    retired : seen s g.source.root ≡ NoEntry → LastJournal g (seen s) → ⊥
    retired gone (Stands has) = root_stands (seen s) journal.source from_pass from.vault loaded.loads (ap (seen s) (its_tells phase.Done has).source ∙ gone)
    retired gone (Gone none) = not_missing g.work journal (seen s) stands none

    by_case : Case g (seen s) → IsFoundAgain g s from to through journal
    by_case (NotBegun is) = absurd (not_missing g.work journal (seen s) stands is.journal)
    by_case (Building is) = found_by phase.Building is.journal is.source.there is.target (settled.alone Begun is)
    by_case (guard.Done is) = found_by phase.Done is.journal is.source.there is.target.there (settled.alone Finished is)
    by_case (Retired is) = absurd (retired is.gone is.journal)

-- ---- calls that go on with a settled migration

-- nothing has changed
pub still_settled : (g : Migration) (t u : Option Told) → u ≡ t → KeepsSettled g t u
still_settled g t u = still_guarded (IsSettled g) g t u (λ s settled. settled.guarded)

-- what is found of it leads it on
pub settled_by : (work : Path) (region : Path → Bool) (root : Path) (g : Migration) (p : Progress) (t u : Option Told) → MovesBeside region work root t u
    → ((a : Told) → t ≡ Some a → IsSettled g a.state → IsAlone g p a.state × Guards g p t u) → KeepsSettled g t u
settled_by work region root g p None None went known = tt
settled_by work region root g p (Some a) (Some b) went known = λ settled. let found = known a refl settled in found.1 found.0
settled_by work region root g p None (Some b) went known = absurd went
settled_by work region root g p (Some a) None went known = absurd went

-- ---- a settle

-- after one that was done it is settled
pub settled_at : SettlesGuarded → SettlesAlone → (g : Migration) (a b : Told) → IsSound a.state → IsSound b.state → Guarded g a.state → b ≡ told_after a Settle Done → IsSettled g b.state
settled_at settles alone g a b sound sound_after guarded is = record {
  sound = sound_after;
  guarded = subst (λ (c : Told). Guarded g c.state) (sym is) (settles g a.state guarded);
  alone = subst (λ (c : Told). (p : Progress) → IsIn g p (seen c.state) → IsAlone g p c.state) (sym is) (λ p is_in. alone g p a.state sound guarded is_in);
}

pub settle_goes : SettlesGuarded → SettlesAlone → (g : Migration) (t u w : Option Told) (value : Unit {0}) → AreSound t → AreSound u → Changes Settle t u (Ok value) → KeepsSettled g u w → KeepsGuarded g t w
settle_goes settles alone g t u w value sound sound_after =
    settle_then settles (IsSettled g) g t u w value (λ a b is is_then guarded. settled_at settles alone g a b (sound a is) (sound_after b is_then) guarded)

-- ---- a work folder that is in use

pub journal_folder : (t : Option Told) → AreSound t → IfSeen t (λ v. (work : Path) (journal : Journal) → ReadsAs (journal_bytes v work) (Ok journal) → v work ≡ Folder)
journal_folder t sound v is work journal read = folders_of t sound v is work (codes "journal") (λ none. not_missing work journal v (read_stands work v journal read) none)

new_place : (old : Bool) (x : Found) → ¬ (is_foreign old (codes "journal.new") (kind_found x) ≡ true) → (x ≡ NoEntry) ⊎ ((bytes : List ℕ) × (x ≡ FileOf bytes))
new_place old NoEntry none = inl refl
new_place old (FileOf bytes) none = inr (bytes, refl)
new_place true Folder none = absurd (none refl)
new_place false Folder none = absurd (none refl)
new_place old Special none = absurd (none refl)

stage_place : (old : Bool) (x : Found) → ¬ (is_foreign old (codes "stage") (kind_found x) ≡ true) → (x ≡ NoEntry) ⊎ (x ≡ Folder)
stage_place old NoEntry none = inl refl
stage_place old Folder none = inr refl
stage_place old (FileOf bytes) none = absurd (none refl)
stage_place old Special none = absurd (none refl)

pub in_use : (t : Option Told) → AreSound t → (v : View) → IsSeen t v → (work : Path) (journal : Journal) (old : Bool) → ReadsAs (journal_bytes v work) (Ok journal) → TestsEntries old v work (Ok tt)
    → IsInUse v work journal
in_use t sound v is work journal old read tests =
    let none = entries_pass old v work tests in
    let stands = read_stands work v journal read in
    record {
      folder = record {
        folder = journal_folder t sound v is work journal read;
        journal = inr (stands.text, stands.file);
        new_journal = new_place old (v (new_journal_path work)) (none (codes "journal.new"));
      };
      stands = stands;
      stage = stage_place old (v (stage_path work)) (none (codes "stage"));
    }
