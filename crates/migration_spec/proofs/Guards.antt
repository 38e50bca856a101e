-- A case of a migration follows from what stands in both vaults and at the journal; and each case is safe.
use Rattle.std.proofs.Common.{◌≡◌, ◌≢◌, ◌⊎◌, ℕ, Bool, true, false, ◌||◌, List, refl, sym, ap, ◌∙◌, inl, inr, subst, IsTrue}
use Rattle.std.proofs.Math.Path.{fun_ext}
use Rattle.folder_spec.proofs.Paths.{path_eq-same}
use Rattle.folder_spec.specs.Path.{Path, path_eq}
use Rattle.folder_spec.specs.declared.Spot.{Spot}
use Rattle.folder_spec.specs.declared.Spot.TheVariants.{Nothing, Directory, FileNode, Odd}
use Rattle.folder_spec.specs.State.{Table, State, IsTableOf, kind_of}
use Rattle.folder_spec.specs.Image.{Image, IsImage, state_of}
use Rattle.folder_spec.specs.Region.{at_or_below}
use Rattle.folder_spec.specs.Seen.{under}
use Rattle.folder_spec.specs.View.{View, AgreeIn, Shows, found, kind_found, view_of}
use Rattle.folder_spec.specs.declared.Kind.{Kind}
use Rattle.vault_spec.specs.Mapped.{IsMapped, IsPartOfMapped}
use Rattle.move_journal.proofs.Standing.{stands_alike}
use Rattle.move_journal.specs.declared.journal.Phase.{Phase}
use Rattle.move_journal.specs.declared.journal.Phase.TheVariants as phase
use Rattle.plain_tree.specs.Names as plain
use Rattle.migration_spec.specs.Alone.{Progress, Unbegun, Begun, Finished, IsIn}
use Rattle.migration_spec.specs.Guard.{Migration, IsSeparate, IsThere, HoldsAll, HoldsSource, HoldsTarget, HasJournal, Case, NotBegun, Building, Done, Retired, LastJournal, Stands, Gone, has_old, has_old_by, IsWork, kinds_in, IsGuarded, is_kept, Guarded, IsSafe, tree_at}
use Rattle.vault_spec.specs.Alike.{IsOrderly}
use Rattle.vault_spec.specs.Findings.{IsClean}
use Rattle.vault_spec.specs.Opened.{OpenedVault}
use Rattle.vault_spec.specs.Opens.{Content, NoItem, tree}
use Rattle.vault_spec.specs.Vault.{IsVault, format_of}
use Rattle.work_folder.specs.Entries.{journal_path}
use Rattle.folder_spec.proofs.Stages.{at_itself}

pub or_left : (a b : Bool) → a ≡ true → (a || b) ≡ true
or_left true b is = refl
or_left false b is = cc

pub or_right : (a b : Bool) → b ≡ true → (a || b) ≡ true
or_right true b is = refl
or_right false b is = is

pub or_cases : (a b : Bool) → (a || b) ≡ true → (a ≡ true) ⊎ (b ≡ true)
or_cases true b is = inl refl
or_cases false b is = inr is

pub in_source : (g : Migration) (q : Path) → IsTrue (at_or_below g.source.root q) → IsTrue (is_kept g q)
in_source g q is = or_left (at_or_below g.source.root q) (at_or_below g.target.root q || path_eq (journal_path g.work) q) is

pub in_target : (g : Migration) (q : Path) → IsTrue (at_or_below g.target.root q) → IsTrue (is_kept g q)
in_target g q is =
    or_right (at_or_below g.source.root q) (at_or_below g.target.root q || path_eq (journal_path g.work) q)
    (or_left (at_or_below g.target.root q) (path_eq (journal_path g.work) q) is)

pub at_journal : (g : Migration) → IsTrue (is_kept g (journal_path g.work))
at_journal g =
    let q : Path = journal_path g.work in
    or_right (at_or_below g.source.root q) (at_or_below g.target.root q || path_eq q q) (or_right (at_or_below g.target.root q) (path_eq q q) (path_eq-same q))

-- ---- a case follows

abbrev pub RootsAreAlike : Type 0
RootsAreAlike = (root : Path) (v w : View) → AgreeIn (at_or_below root) v w → under root v ≡ under root w

pub there_alike : (a : OpenedVault) (v w : View) → under a.root w ≡ under a.root v → IsThere a w → IsThere a v
there_alike a v w same is = record {
  pass = is.pass;
  loads = subst (λ u. IsVault u is.pass a.vault) same is.loads;
  good = record {
    clean = subst (IsClean (format_of a.vault)) same is.good.clean;
    orderly = subst (IsOrderly (format_of a.vault)) same is.good.orderly;
  };
}

tree_alike : (a : OpenedVault) (v w : View) → under a.root w ≡ under a.root v → (path : plain.Path) → tree_at a v path ≡ tree_at a w path
tree_alike a v w same path = ap (λ u. tree (format_of a.vault) u path) (sym same)

pub source_alike : (g : Migration) (v w : View) → under g.source.root w ≡ under g.source.root v → HoldsSource g w → HoldsSource g v
source_alike g v w same is = record { there = there_alike g.source v w same is.there; held = λ path. tree_alike g.source v w same path ∙ is.held path }

pub holds_alike : (g : Migration) (v w : View) → under g.target.root w ≡ under g.target.root v → HoldsAll g w → HoldsAll g v
holds_alike g v w same is = record { held = subst (λ u. IsMapped g.names g.held (tree (format_of g.target.vault) u)) same is.held; apart = is.apart; whole = is.whole }

pub target_alike : (g : Migration) (v w : View) → under g.target.root w ≡ under g.target.root v → HoldsTarget g w → HoldsTarget g v
target_alike g v w same is = record {
  there = there_alike g.target v w same is.there;
  all = holds_alike g v w same is.all;
}

pub journal_alike : (g : Migration) (phase : Phase) (v w : View) → v (journal_path g.work) ≡ w (journal_path g.work) → HasJournal g phase w → HasJournal g phase v
journal_alike g phase v w same h = record { journal = h.journal; is = h.is; in_phase = h.in_phase; tells = h.tells; stands = stands_alike g.work h.journal v w same h.stands }

abbrev pub SameCase : (g : Migration) (v w : View) → Case g w → Type 0
SameCase g v w c = (d : Case g v) × (has_old g v d ≡ has_old g w c)

-- what stands in both vaults and at the journal of two views
record AreAlike (g : Migration) (v w : View) : Type 0 where
  pub source : under g.source.root w ≡ under g.source.root v
  pub target : under g.target.root w ≡ under g.target.root v
  pub journal : v (journal_path g.work) ≡ w (journal_path g.work)

are_alike : RootsAreAlike → (g : Migration) (v w : View) → AgreeIn (is_kept g) v w → AreAlike g v w
are_alike alike g v w agree = record {
  source = sym (alike g.source.root v w (λ q is. agree q (in_source g q is)));
  target = sym (alike g.target.root v w (λ q is. agree q (in_target g q is)));
  journal = agree (journal_path g.work) (at_journal g);
}

-- how far a migration has come follows
pub in_alike : RootsAreAlike → (g : Migration) (p : Progress) (v w : View) → AgreeIn (is_kept g) v w → IsIn g p w → IsIn g p v
in_alike alike g Unbegun v w agree is = let x = are_alike alike g v w agree in record {
  source = source_alike g v w x.source is.source;
  journal = x.journal ∙ is.journal;
  target = there_alike g.target v w x.target is.target;
  empty = λ path named. tree_alike g.target v w x.target path ∙ is.empty path named;
}
in_alike alike g Begun v w agree is = let x = are_alike alike g v w agree in record {
  source = source_alike g v w x.source is.source;
  journal = journal_alike g _ v w x.journal is.journal;
  target = there_alike g.target v w x.target is.target;
  apart = is.apart;
  part = subst (λ u. IsPartOfMapped g.names (tree (format_of g.target.vault) u) g.held) x.target is.part;
  allowed = is.allowed;
}
in_alike alike g Finished v w agree is = let x = are_alike alike g v w agree in record {
  source = source_alike g v w x.source is.source;
  journal = journal_alike g _ v w x.journal is.journal;
  target = target_alike g v w x.target is.target;
  allowed = is.allowed;
}

last_journal_alike : (g : Migration) (v w : View) → v (journal_path g.work) ≡ w (journal_path g.work) → (j : LastJournal g w) → (k : LastJournal g v) × (has_old_by g v k ≡ has_old_by g w j)
last_journal_alike g v w same (Stands h) = (Stands (journal_alike g phase.Done v w same h), refl)
last_journal_alike g v w same (Gone none) = (Gone (same ∙ none), refl)

case_alike : RootsAreAlike → (g : Migration) (v w : View) → AgreeIn (is_kept g) v w → (c : Case g w) → SameCase g v w c
case_alike alike g v w agree (NotBegun is) = (NotBegun (in_alike alike g Unbegun v w agree is), refl)
case_alike alike g v w agree (Building is) = (Building (in_alike alike g Begun v w agree is), refl)
case_alike alike g v w agree (Done is) = (Done (in_alike alike g Finished v w agree is), refl)
case_alike alike g v w agree (Retired is) =
    let x = are_alike alike g v w agree in
    let same : (k : LastJournal g v) × (has_old_by g v k ≡ has_old_by g w is.journal) = last_journal_alike g v w x.journal is.journal in (
      Retired (record {
        gone = agree g.source.root (in_source g g.source.root (at_itself g.source.root)) ∙ is.gone;
        journal = same.0;
        target = target_alike g v w x.target is.target;
      }),
      same.1,
    )

-- ---- guarded by what tables show

pub kind_of_found : (bytes : ℕ → List ℕ) (x : Spot) → kind_found (found bytes x) ≡ kind_of x
kind_of_found bytes Nothing = refl
kind_of_found bytes Directory = refl
kind_of_found bytes (FileNode n) = refl
kind_of_found bytes Odd = refl

abbrev pub kinds_of : Table → Path → Kind
kinds_of t q = kind_of (t q)

pub kinds_of_image : (image : Image) → kinds_in (view_of image) ≡ kinds_of image.table
kinds_of_image image = fun_ext (λ q. kind_of_found image.bytes (image.table q))

-- where a table shows one of the cases, its images do
abbrev pub ImagesShow : Type 0
ImagesShow = (region : Path → Bool) (s : State) (image : Image) (v : View) → IsImage s image → Shows region s image.table v → AgreeIn region (view_of image) v

pub record ShowsCase (g : Migration) (s : State) (t : Table) : Type 0 where
  pub view : View
  pub shows : Shows (is_kept g) s t view
  pub case : Case g view
  pub work : IsWork (has_old g view case) (kinds_of t) g.work

pub guarded_by : RootsAreAlike → ImagesShow → (g : Migration) (s : State) → IsSeparate g → ((t : Table) → IsTableOf s t → ShowsCase g s t) → Guarded g s
guarded_by alike shown g s separate h = record {
  separate = separate;
  clean = λ t q n is kept at. (h t is).shows.clean q n kept at;
  images = λ image is. guarded image is (h image.table is.table);
}
  where
    guarded : (image : Image) → IsImage s image → ShowsCase g s image.table → IsGuarded g (view_of image)
    guarded image is x =
        let same : SameCase g (view_of image) x.view x.case = case_alike alike g (view_of image) x.view (shown (is_kept g) s image x.view is x.shows) x.case in
        record {
          case = same.0;
          work = subst (λ old. IsWork old (kinds_in (view_of image)) g.work) (sym same.1)
              (subst (λ k. IsWork (has_old g x.view x.case) k g.work) (sym (kinds_of_image image)) x.work);
        }

-- ---- images, and what is safe

pub image_is_guarded : ((s : State) (image second : Image) → IsImage s image → IsImage (state_of image) second → IsImage s second)
    → (g : Migration) (s : State) (image : Image) → Guarded g s → IsImage s image → Guarded g (state_of image)
image_is_guarded again g s image h is = record {
  separate = h.separate;
  clean = λ t q n is_table kept at. refl;
  images = λ second more. h.images second (again s image second is more);
}

safe_by_case : (g : Migration) (v : View) → Case g v → IsSafe g v
safe_by_case g v (NotBegun is) path content held = inl (is.source.held path ∙ held)
safe_by_case g v (Building is) path content held = inl (is.source.held path ∙ held)
safe_by_case g v (Done is) path content held = inl (is.source.held path ∙ held)
safe_by_case g v (Retired is) path content held = inr (is.target.all.held.each path item ∙ held)
  where
    item : g.held path ≢ NoItem
    item none = let never : Content content ≡ NoItem = sym held ∙ none in cc never

pub guarded_is_safe : (g : Migration) (s : State) (image : Image) → Guarded g s → IsImage s image → IsSafe g (view_of image)
guarded_is_safe g s image h is = safe_by_case g (view_of image) (h.images image is).case
