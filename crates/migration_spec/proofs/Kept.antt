-- What is shown while one view alone is shown, and the work folder of each table.
use Rattle.std.specs.Prelude.{Contains}
use Rattle.std.proofs.Common.{◌≡◌, ◌≢◌, ◌⊎◌, ℕ, zero, suc, Bool, true, false, ◌||◌, [], ◌∷◌, ◌++◌, Some, None, refl, sym, ap, ◌∙◌, inl, inr, subst, arith, append_assoc, append-nil, codes, bytes_eq, if◌then◌else◌, IsTrue, ◌&&◌, Option, is_none}
use Rattle.folder_spec.proofs.Paths.{one_or_not, below-append, begins_or_not, below-both, below-apart}
use Rattle.folder_spec.specs.Path.{Part, Path, path_eq, below, child}
use Rattle.folder_spec.specs.declared.Spot.{Spot}
use Rattle.folder_spec.specs.declared.Spot.TheVariants.{Nothing, Directory, FileNode, Odd}
use Rattle.folder_spec.specs.State.{Table, State, IsTableOf, IsSound, IsSoundTable, kind_of}
use Rattle.folder_spec.specs.Image.{Image, IsImage}
use Rattle.folder_spec.specs.Region.{apart_from_both, at_or_below}
use Rattle.folder_spec.specs.View.{View, Folder, NoEntry, Shows, ShowsAmong, view_in, view_of}
use Rattle.folder_spec.specs.declared.Kind.TheVariants as kind
use Rattle.migration_spec.proofs.Guards.{or_cases, in_source, RootsAreAlike, ImagesShow, guarded_by, kinds_of, kinds_of_image}
use Rattle.migration_spec.specs.Alone.{Progress, Unbegun, Begun, Finished, IsIn, IsAlone}
use Rattle.migration_spec.specs.Guard.{Migration, IsSeparate, HoldsSource, Case, NotBegun, Building, Done, Retired, has_old, IsWork, kinds_in, IsGuarded, Guarded, is_kept}
use Rattle.folder_spec.specs.Apart.{AreApart}
use Rattle.item_making.specs.Making.{is_inside, is_staged}
use Rattle.work_folder.specs.Entries.{journal_path, is_foreign}
use Rattle.folder_spec.proofs.Stages.{at_itself}

-- ---- paths

pub is_below : (root q : Path) → IsTrue (at_or_below root q) → (rest : Path) × (q ≡ root ++ rest)
is_below root q is = elim (begins_or_not root q) [
  | inl there ↦ there
  | inr none ↦ absurd (cc (is, none))
]

-- what is below one of two paths that are apart isn't below the other
pub apart_below : (p q at : Path) → AreApart p q → IsTrue (at_or_below p at) → below q at ≡ None
apart_below p q at apart is =
    let there : (rest : Path) × (at ≡ p ++ rest) = is_below p at is in
    ap (below q) there.1 ∙ below-apart q p there.0 apart.other apart.one

-- what isn't below a path isn't below one behind it
pub behind_none : (w more q : Path) → below w q ≡ None → below (w ++ more) q ≡ None
behind_none w more q none = elim (begins_or_not (w ++ more) q) [
  | inl there ↦ absurd (clash (sym none ∙ ap (below w) (there.1 ∙ append_assoc w more there.0) ∙ below-append w (more ++ there.0)))
  | inr apart ↦ apart
]
  where
    clash : {x : Path} → None ≡ Some x → ⊥
    clash e = cc e

pub turned : {p q : Path} → AreApart p q → AreApart q p
turned apart = record { one = apart.other; other = apart.one }

-- what begins with neither of two paths
pub beside_both : (p q at : Path) → IsTrue (apart_from_both p q at) → (below p at ≡ None) × (below q at ≡ None)
beside_both p q at is = by (below p at) (below q at) is
  where
    by : (x y : Option Path) → IsTrue (is_none x && is_none y) → (x ≡ None) × (y ≡ None)
    by None None is = (refl, refl)
    by None (Some rest) is = absurd (cc is)
    by (Some rest) y is = absurd (cc is)

pub beside_of : (p q at : Path) → below p at ≡ None → below q at ≡ None → IsTrue (apart_from_both p q at)
beside_of p q at one other = rw (one, other) refl

-- ---- the region of both vaults and the journal

-- in the work folder: staged or not by what comes behind it, and apart from a vault beside it
pub staged_in : (work rest : Path) → is_staged work (work ++ rest) ≡ is_inside (below (codes "stage" ∷ []) rest)
staged_in work rest = ap is_inside (below-both work (codes "stage" ∷ []) rest)

pub not_staged : (work q : Path) → below work q ≡ None → is_staged work q ≡ false
not_staged work q none = ap is_inside (behind_none work (codes "stage" ∷ []) q none)

pub entry_inside : (name : Part) → is_inside (below (codes "stage" ∷ []) (name ∷ [])) ≡ false
entry_inside name = by_test (bytes_eq (codes "stage") name)
  where
    by_test : (b : Bool) → is_inside (if b then Some [] else None) ≡ false
    by_test true = refl
    by_test false = refl

pub other_is_odd : (y : Spot) → kind_of y ≡ kind.Other → y ≡ Odd
other_is_odd Nothing e = absurd (cc e)
other_is_odd Directory e = absurd (cc e)
other_is_odd (FileNode n) e = absurd (cc e)
other_is_odd Odd e = refl

-- each table's own image is of the guarded migration
pub table_image : (s : State) (t : Table) → IsSound s → IsTableOf s t → IsImage s (record { table = t; bytes = λ n. (s.nodes n).now; made = s.made })
table_image s t sound is = record { table = is; bytes = λ n. record { begins = sound.nodes n; whole = λ clean. refl }; made = refl }

pub only_shown : (region : Path → Bool) (s : State) (v : View) → ShowsAmong region s (v ∷ []) → (t : Table) → IsTableOf s t → Shows region s t v
only_shown region s v alone t is =
    let there : (w : View) × Contains (v ∷ []) w × Shows region s t w = alone t is in
    subst (Shows region s t) (the_one there.0 there.1) there.2
  where
    the_one : (w : View) → Contains (v ∷ []) w → w ≡ v
    the_one w (zero, lt, at) = sym at
    the_one w (suc k, lt, at) = absurd (omega (arith, lt))

-- ---- how far it has come

pub source_in : (g : Migration) (p : Progress) (v : View) → IsIn g p v → HoldsSource g v
source_in g Unbegun v is = is.source
source_in g Begun v is = is.source
source_in g Finished v is = is.source

pub case_in : (g : Migration) (p : Progress) (v : View) → IsIn g p v → (c : Case g v) × (has_old g v c ≡ false)
case_in g Unbegun v is = (NotBegun is, refl)
case_in g Begun v is = (Building is, refl)
case_in g Finished v is = (Done is, refl)

-- where the source stands in a table, the table doesn't have it retired
pub source_work : (g : Migration) (s : State) (t : Table) → IsSound s → Guarded g s → IsTableOf s t → view_in s t g.source.root ≡ Folder → IsWork false (kinds_of t) g.work
source_work g s t sound h is there = by_case guarded.case guarded.work
  where
    image : Image
    image = record { table = t; bytes = λ n. (s.nodes n).now; made = s.made }

    guarded : IsGuarded g (view_of image)
    guarded = h.images image (table_image s t sound is)

    by_case : (c : Case g (view_of image)) → IsWork (has_old g (view_of image) c) (kinds_in (view_of image)) g.work → IsWork false (kinds_of t) g.work
    by_case (NotBegun is) work = subst (λ k. IsWork false k g.work) (kinds_of_image image) work
    by_case (Building is) work = subst (λ k. IsWork false k g.work) (kinds_of_image image) work
    by_case (Done is) work = subst (λ k. IsWork false k g.work) (kinds_of_image image) work
    by_case (Retired is) work = absurd (clash (sym there ∙ is.gone))
      where
        clash : Folder ≡ NoEntry → ⊥
        clash e = cc e

pub source_there : (g : Migration) (p : Progress) (v : View) → IsIn g p v → v g.source.root ≡ Folder
source_there g p v is = ap v (sym (append-nil g.source.root)) ∙ (source_in g p v is).there.good.orderly.root_there

-- so none does while the source is there
pub table_work : (g : Migration) (p : Progress) (s : State) → IsAlone g p s → (t : Table) → IsTableOf s t → IsWork false (kinds_of t) g.work
table_work g p s b t is = source_work g s t b.sound b.guarded is
    ((only_shown (is_kept g) s b.view b.alone t is).agrees g.source.root (in_source g g.source.root (at_itself g.source.root)) ∙ source_there g p b.view b.holds)

-- what is kept is the journal, or isn't in the work folder
pub kept_is : (g : Migration) → IsSeparate g → (q : Path) → IsTrue (is_kept g q) → (journal_path g.work ≡ q) ⊎ (below g.work q ≡ None)
kept_is g separate q kept = elim (or_cases (at_or_below g.source.root q) (at_or_below g.target.root q || path_eq (journal_path g.work) q) kept) [
  | inl source ↦ inr (apart_below g.source.root g.work q separate.source source)
  | inr rest ↦ elim (or_cases (at_or_below g.target.root q) (path_eq (journal_path g.work) q) rest) [
    | inl target ↦ inr (apart_below g.target.root g.work q separate.target target)
    | inr journal ↦ inl (same_path journal)
  ]
]
  where
    same_path : IsTrue (path_eq (journal_path g.work) q) → journal_path g.work ≡ q
    same_path is = elim (one_or_not (journal_path g.work) q) [ inl e ↦ e | inr other ↦ absurd (clash other.1 is) ]
      where
        clash : {b : Bool} → b ≡ false → b ≡ true → ⊥
        clash isnt is = cc (isnt, is)

-- tables that show the view, with a work folder as it is to be, show the migration as it is
pub alone_by : RootsAreAlike → ImagesShow → (g : Migration) (p : Progress) (s : State) (v : View) → IsSound s → IsSeparate g → IsIn g p v
    → ((t : Table) → IsTableOf s t → Shows (is_kept g) s t v × IsWork false (kinds_of t) g.work) → IsAlone g p s
alone_by alike shown g p s v sound separate is tables = record {
  sound = sound;
  guarded = guarded_by alike shown g s separate (λ t among. record {
    view = v;
    shows = (tables t among).0;
    case = (case_in g p v is).0;
    work = subst (λ old. IsWork old (kinds_of t) g.work) (sym (case_in g p v is).1) (tables t among).1;
  });
  view = v;
  alone = λ t among. (v, (zero, omega arith, refl), (tables t among).0);
  holds = is;
}

-- no entry of a work folder is foreign, also where it is Missing
pub none_foreign : (work : Path) (made : ℕ) (u : Table) → IsSoundTable made u → IsWork false (kinds_of u) work → (name : Part) → ¬ IsTrue (is_foreign false name (kinds_of u (child work name)))
none_foreign work made u sound is name = elim is.folder [
  | inl missing ↦ λ foreign. nothing_below missing foreign
  | inr there ↦ there.1 name
]
  where
    nothing : (y : Spot) → kind_of y ≡ kind.Missing → y ≢ Directory
    nothing Nothing e = λ is. cc is
    nothing Directory e = absurd (cc e)
    nothing (FileNode n) e = absurd (cc e)
    nothing Odd e = absurd (cc e)

    by_spot : (y : Spot) → (y ≢ Nothing → ⊥) → IsTrue (is_foreign false name (kind_of y)) → ⊥
    by_spot Nothing none foreign = cc foreign
    by_spot Directory none foreign = none (λ e. cc e)
    by_spot (FileNode n) none foreign = none (λ e. cc e)
    by_spot Odd none foreign = none (λ e. cc e)

    nothing_below : kinds_of u work ≡ kind.Missing → IsTrue (is_foreign false name (kinds_of u (child work name))) → ⊥
    nothing_below missing foreign = by_spot (u (child work name)) (λ stands. nothing (u work) missing (sound.parents work name stands)) foreign
