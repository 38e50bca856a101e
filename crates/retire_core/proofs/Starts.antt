-- What a run finds of a migration at rest: whether its source is there, and that the journal names it.
use Rattle.std.proofs.Common.{◌≡◌, ◌≢◌, OnOk, Option, Some, None, Result, Ok, Err, refl, sym, ap, ◌∙◌, subst}
use Rattle.folder_spec.specs.declared.Kind.{Kind}
use Rattle.folder_spec.specs.declared.Kind.TheVariants as kind
use Rattle.folder_spec.specs.Event.{Told, FromTo}
use Rattle.folder_spec.specs.Path.{Path}
use Rattle.folder_spec.specs.Seen.{IfSeen, seen}
use Rattle.folder_spec.specs.State.{State}
use Rattle.folder_spec.specs.View.{FileOf, Folder, Found, NoEntry, Special, kind_found}
use Rattle.folder_model.specs.Answers.{Answers}
use Rattle.move_journal.specs.Journal.{IsJournal}
use Rattle.move_journal.specs.declared.journal.Journal.{Journal}
use Rattle.move_journal.specs.declared.journal.Phase.{Phase}
use Rattle.move_journal.specs.declared.journal.Phase.TheVariants as phase
use Rattle.move_journal.specs.Reading.{StandsIn}
use Rattle.move_journal.proofs.Standing.{HaveOneJournal, not_missing}
use Rattle.migration_spec.specs.Guard as guard
use Rattle.migration_spec.specs.Guard.{Migration, Building, Case, Gone, HasJournal, LastJournal, NotBegun, Retired, Stands}
use Rattle.retire_core.proofs.RetiredTables.{rest_done, rest_retired, rest_seen}
use Rattle.retire_core.specs.Clearing.{MovesHeldOnly}
use Rattle.retire_core.specs.Guarding.{ComesFromDone, ComesToRetiring, IsAtRest, IsDoneAtRest, KeepsDone, KeepsFromRest, IsRetiring}
use Rattle.retire_core.specs.Retiring.{Retiring}
use Rattle.migration_spec.specs.Alone.{StaysGuarded}

-- a kind that is Missing is of nothing, and another isn't
pub missing_none : (x : Found) → kind_found x ≡ kind.Missing → x ≡ NoEntry
missing_none NoEntry e = refl
missing_none Folder e = cc e
missing_none (FileOf bytes) e = cc e
missing_none Special e = cc e

-- ---- the journal names the source

module _ (one_journal : HaveOneJournal) (g : Migration) (s : State) (journal : Journal) (at : IsAtRest g s) (is_journal : IsJournal journal) (stands : StandsIn g.work journal (seen s)) where
  named : (p : Phase) → HasJournal g p (seen s) → journal.source ≡ g.source.root
  named p has =
      let same : has.journal ≡ journal = one_journal g.work (seen s) has.journal journal has.is is_journal has.stands stands in
      ap (λ (j : Journal). j.source) (sym same) ∙ has.tells.source

  by_last : LastJournal g (seen s) → journal.source ≡ g.source.root
  by_last (Stands has) = named phase.Done has
  by_last (Gone none) = absurd (not_missing g.work journal (seen s) stands none)

  by_case : Case g (seen s) → journal.source ≡ g.source.root
  by_case (NotBegun is) = absurd (not_missing g.work journal (seen s) stands is.journal)
  by_case (Building is) = named phase.Building is.journal
  by_case (guard.Done is) = named phase.Done is.journal
  by_case (Retired is) = by_last is.journal

  pub names_source : journal.source ≡ g.source.root
  names_source = by_case (rest_seen g s at).case

-- ---- by what a folder tells

-- what a run knows of a journal
pub record IsKnown (g : Migration) (journal : Journal) (t : Option Told) : Type 0 where
  pub one_journal : HaveOneJournal
  pub is : IsJournal journal
  pub done : journal.phase ≡ phase.Done
  pub stands : IfSeen t (λ v. StandsIn g.work journal v)

source_is : (g : Migration) (journal : Journal) (a : Told) → IsKnown g journal (Some a) → IsAtRest g a.state → journal.source ≡ g.source.root
source_is g journal a known at = names_source known.one_journal g a.state journal at known.is (known.stands (seen a.state) refl)

-- where the source isn't there, it is retired
pub comes_missing : (g : Migration) (journal : Journal) (t u : Option Told) → IsKnown g journal t → u ≡ t → IfSeen t (λ v. v journal.source ≡ NoEntry) → ComesToRetiring g t u
comes_missing g journal t u known same none = subst (λ w. ComesToRetiring g t w) (sym same) (at_same t known none)
  where
    at_same : (o : Option Told) → IsKnown g journal o → IfSeen o (λ v. v journal.source ≡ NoEntry) → ComesToRetiring g o o
    at_same None known none = tt
    at_same (Some a) known none = λ at. rest_retired g a.state at (ap (seen a.state) (sym (source_is g journal a known at)) ∙ none (seen a.state) refl)

-- where it is there, the migration is done
done_at : (g : Migration) (journal : Journal) (a : Told) → IsKnown g journal (Some a) → IfSeen (Some a) (λ v. v journal.source ≢ NoEntry) → IsAtRest g a.state → IsDoneAtRest g a.state
done_at g journal a known there at = record {
  rest = at;
  done = rest_done known.one_journal g a.state journal at (subst (λ p. seen a.state p ≢ NoEntry) (source_is g journal a known at) (there (seen a.state) refl)) known.is known.done (known.stands (seen a.state) refl);
}

-- so what goes on from that goes on from a migration at rest
by_done : (Goes : Told → Told → Type 0) (g : Migration) (journal : Journal) (r : Retiring) (t u : Option Told) → IsKnown g journal t → IfSeen t (λ v. v journal.source ≢ NoEntry) → MovesHeldOnly r t u
    → (g.source.root ≡ journal.source → FromTo (λ a b. IsDoneAtRest g a.state → Goes a b) t u) → FromTo (λ a b. IsAtRest g a.state → Goes a b) t u
by_done Goes g journal r (Some a) (Some b) known there shape goes = λ at. goes (sym (source_is g journal a known at)) (done_at g journal a known there at)
by_done Goes g journal r None None known there shape goes = tt
by_done Goes g journal r None (Some b) known there shape goes = absurd shape
by_done Goes g journal r (Some a) None known there shape goes = absurd shape

pub rest_by_done : (g : Migration) (journal : Journal) (r : Retiring) (t u : Option Told) → IsKnown g journal t → IfSeen t (λ v. v journal.source ≢ NoEntry) → MovesHeldOnly r t u
    → (g.source.root ≡ journal.source → KeepsDone g t u) → KeepsFromRest g t u
rest_by_done g = by_done (StaysGuarded g) g

pub comes_by_done : (g : Migration) (journal : Journal) (r : Retiring) (t u : Option Told) → IsKnown g journal t → IfSeen t (λ v. v journal.source ≢ NoEntry) → MovesHeldOnly r t u
    → (g.source.root ≡ journal.source → ComesFromDone g t u) → ComesToRetiring g t u
comes_by_done g = by_done (λ a b. IsRetiring g b.state) g

-- ---- a kind that was asked for

pub there_by_kind : (t : Option Told) (at : Path) (k : Kind) → Answers t (λ v. Unit {0}) (λ v kind. kind ≡ kind_found (v at)) (Ok k) → k ≢ kind.Missing → IfSeen t (λ v. v at ≢ NoEntry)
there_by_kind t at k answer isnt v is none = isnt ((answer v is).1 ∙ ap kind_found none)

pub missing_by_kind : (t : Option Told) (at : Path) (k : Kind) → Answers t (λ v. Unit {0}) (λ v kind. kind ≡ kind_found (v at)) (Ok k) → k ≡ kind.Missing → IfSeen t (λ v. v at ≡ NoEntry)
missing_by_kind t at k answer is v shown = missing_none (v at) (sym (answer v shown).1 ∙ is)

-- ---- answers

pub on_ok_more : {T E : Type 0} (P Q : Type 0) (result : Result T E) → (P → Q) → OnOk result P → OnOk result Q
on_ok_more P Q (Ok value) more h = more h
on_ok_more P Q (Err fault) more h = tt
