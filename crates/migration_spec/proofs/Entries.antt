-- What stands in the work folder of a migration.
use Rattle.std.specs.Str.{bytes_eq}
use Rattle.std.proofs.Common.{◌≡◌, ◌≢◌, ◌&&◌, ◌||◌, not, inl, inr, codes, Bool, true, false, IsTrue, Ok, refl, sym, ap, ◌∙◌}
use Rattle.folder_spec.specs.Path.{Path, child}
use Rattle.folder_spec.specs.View.{FileOf, Folder, Found, NoEntry, Special, View, kind_found}
use Rattle.folder_spec.specs.declared.Kind.{Kind}
use Rattle.folder_spec.specs.declared.Kind.TheVariants as kind
use Rattle.migration_spec.specs.Guard.{IsWork, kinds_in, old_path}
use Rattle.vault_spec.specs.Alike.{HasFolders}
use Rattle.work_folder.specs.Entries.{HasNoForeign, is_foreign, journal_path}
use Rattle.work_folder.specs.Looking.{TestsEntries}

-- no entry is foreign where the tests of the entries pass
pub entries_pass : (old : Bool) (v : View) (work : Path) → TestsEntries old v work (Ok tt) → HasNoForeign old v work
entries_pass old v work tests = elim tests [ inl passed ↦ passed.0 | inr failed ↦ absurd (cc (failed.2)) ]

-- where a journal stands nothing foreign does
pub none_foreign : (old : Bool) (v : View) (work : Path) → HasFolders v → IsWork old (kinds_in v) work → v (journal_path work) ≢ NoEntry → HasNoForeign old v work
none_foreign old v work folders is stands = elim is.folder [
  | inl missing ↦ (let clash : kind.Dir ≡ kind.Missing = sym (ap kind_found (folders work (codes "journal") stands)) ∙ missing in cc clash)
  | inr there ↦ there.1
]

-- what isn't foreign without `old` isn't with it
pub with_old : (v : View) (work : Path) → HasNoForeign false v work → HasNoForeign true v work
with_old v work none name = by_kind (kind_found (v (child work name))) (none name)
  where
    by_kind : (k : Kind) → ¬ IsTrue (is_foreign false name k) → ¬ IsTrue (is_foreign true name k)
    by_kind kind.Missing isnt foreign = isnt foreign
    by_kind kind.File isnt foreign = isnt foreign
    by_kind kind.Other isnt foreign = isnt foreign
    by_kind kind.Dir isnt foreign = by_name (bytes_eq name (codes "stage")) (bytes_eq name (codes "old")) isnt foreign
      where
        by_name : (stage old : Bool) → ¬ IsTrue (not (stage || (false && old))) → ¬ IsTrue (not (stage || (true && old)))
        by_name true old isnt foreign = isnt foreign
        by_name false old isnt foreign = isnt refl

-- `old` is foreign without it
pub old_free : (v : View) (work : Path) → HasNoForeign false v work → v (old_path work) ≡ NoEntry
old_free v work none = by_found (v (old_path work)) refl
  where
    by_found : (x : Found) → v (old_path work) ≡ x → v (old_path work) ≡ NoEntry
    by_found NoEntry e = e
    by_found Folder e = absurd (none (codes "old") (ap (λ x. is_foreign false (codes "old") (kind_found x)) e))
    by_found (FileOf bytes) e = absurd (none (codes "old") (ap (λ x. is_foreign false (codes "old") (kind_found x)) e))
    by_found Special e = absurd (none (codes "old") (ap (λ x. is_foreign false (codes "old") (kind_found x)) e))
