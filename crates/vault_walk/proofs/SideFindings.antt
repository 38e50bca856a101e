-- What is found of an entry is what is found of it and below it, and what is found of it as a long-name file.
use Rattle.std.proofs.Common.{◌≡◌, ◌≢◌, ◌⊎◌, ◌++◌, [], true, Option, Some, None, inl, inr, refl, sym, ap, ◌∙◌, subst, append-nil, append_assoc}
use Rattle.std.specs.Prelude.{Contains}
use Rattle.std.proofs.lemmas.List.Elements.{Contains-append_left, Contains-append_right, Contains-append_cases}
use Rattle.folder_spec.specs.Listing as folder
use Rattle.folder_spec.specs.Path.{Part, Path, child}
use Rattle.folder_spec.specs.View.{View}
use Rattle.vault_spec.specs.Findings.{number_of}
use Rattle.vault_spec.specs.Format.{Format, Directory}
use Rattle.vault_spec.specs.declared.Finding.{Finding}
use Rattle.vault_spec.specs.declared.Finding.TheVariants as is
use Rattle.vault_walk.specs.Here.{IsFindingHere, IsIdleHere, IsOrphanHere}
use Rattle.vault_walk.specs.Report.{Addition, HasAdded, IsBelow, IsFoundHere, IsMainFound, IsMainOf, IsReportOf, IsSideOf, found_by, is_main, is_told}
use Rattle.vault_walk.specs.declared.found.Found.{Found}
use Rattle.vault_walk.specs.declared.report.Report.{Report}
use Rattle.vault_walk.proofs.EntryReports.{by_back, by_on}
use Rattle.vault_walk.proofs.Flats.{none_within}
use Rattle.vault_walk.proofs.Places.{one_below}

-- what is looked for is of the entry itself, or of a long-name file
data IsOf (finding : Finding) : Type 0 where
  OfEntry : is_main finding ≡ true → IsOf finding
  OfOrphan : finding ≡ is.OrphanLongName → IsOf finding
  OfIdle : finding ≡ is.EmptyOrphan → IsOf finding

of_one : (finding : Finding) → is_told finding ≡ true → IsOf finding
of_one is.BadStoredName told = OfEntry refl
of_one is.NoDirKey told = OfEntry refl
of_one is.LongNameLost told = OfEntry refl
of_one is.OrphanLongName told = OfOrphan refl
of_one is.DirIdTwice told = OfEntry refl
of_one is.NoFolder told = OfEntry refl
of_one is.OrphanFolder told = OfEntry refl
of_one is.SymlinkFound told = OfEntry refl
of_one is.WrongKind told = OfEntry refl
of_one is.ExtraEntry told = OfEntry refl
of_one is.TwoKinds told = OfEntry refl
of_one is.HeaderDamaged told = cc
of_one is.ChunkDamaged told = cc
of_one is.EmptyOrphan told = OfIdle refl

main_told : (finding : Finding) → is_main finding ≡ true → is_told finding ≡ true
main_told is.BadStoredName main = refl
main_told is.NoDirKey main = refl
main_told is.LongNameLost main = refl
main_told is.OrphanLongName main = cc
main_told is.DirIdTwice main = refl
main_told is.NoFolder main = refl
main_told is.OrphanFolder main = refl
main_told is.SymlinkFound main = refl
main_told is.WrongKind main = refl
main_told is.ExtraEntry main = refl
main_told is.TwoKinds main = refl
main_told is.HeaderDamaged main = cc
main_told is.ChunkDamaged main = cc
main_told is.EmptyOrphan main = refl

orphan_or_not : (finding : Finding) → (finding ≡ is.OrphanLongName) ⊎ (finding ≢ is.OrphanLongName)
orphan_or_not is.OrphanLongName = inl refl
orphan_or_not is.BadStoredName = inr (λ e. cc e)
orphan_or_not is.NoDirKey = inr (λ e. cc e)
orphan_or_not is.LongNameLost = inr (λ e. cc e)
orphan_or_not is.DirIdTwice = inr (λ e. cc e)
orphan_or_not is.NoFolder = inr (λ e. cc e)
orphan_or_not is.OrphanFolder = inr (λ e. cc e)
orphan_or_not is.SymlinkFound = inr (λ e. cc e)
orphan_or_not is.WrongKind = inr (λ e. cc e)
orphan_or_not is.ExtraEntry = inr (λ e. cc e)
orphan_or_not is.TwoKinds = inr (λ e. cc e)
orphan_or_not is.HeaderDamaged = inr (λ e. cc e)
orphan_or_not is.ChunkDamaged = inr (λ e. cc e)
orphan_or_not is.EmptyOrphan = inr (λ e. cc e)

module _ (f : Format) (v : View) (dir : Directory) (entry : folder.Item) (at : Path) (place : at ≡ child dir.folder entry.name) where
  here_at : (x : Found) (finding : Finding) → x.at ≡ at → x.number ≡ number_of finding → is_told finding ≡ true → IsFindingHere f v dir finding (child dir.folder entry.name)
      → IsFoundHere f v dir x × IsBelow (child dir.folder entry.name) x.at
  here_at x finding x_at number told here = (
    record { finding = finding; number = number; told = told; here = subst (IsFindingHere f v dir finding) (sym (x_at ∙ place)) here },
    ([], x_at ∙ place ∙ sym (append-nil (child dir.folder entry.name))),
  )

  side_on : (side : Option Finding) → IsSideOf f v dir entry side → (x : Found) → Contains (found_by at side) x → IsFoundHere f v dir x × IsBelow (child dir.folder entry.name) x.at
  side_on None s x there = absurd (none_within x there)
  side_on (Some finding) s x there = by_finding (orphan_or_not finding)
    where
      one : (x.at ≡ at) × (x.number ≡ number_of finding)
      one = by_on at finding x there

      by_finding : (finding ≡ is.OrphanLongName) ⊎ (finding ≢ is.OrphanLongName) → IsFoundHere f v dir x × IsBelow (child dir.folder entry.name) x.at
      by_finding (inl same) = here_at x is.OrphanLongName one.0 (one.1 ∙ ap number_of same) refl (s.orphan.0 (ap Some same))
      by_finding (inr other) =
          let same : finding ≡ is.EmptyOrphan = s.no_other finding refl other in
          here_at x is.EmptyOrphan one.0 (one.1 ∙ ap number_of same) refl (s.idle.0 (ap Some same))

  same_place : (x : Path) (file : Part) → x ≡ child dir.folder file → IsBelow (child dir.folder entry.name) x → x ≡ child dir.folder entry.name
  same_place x file x_at below = x_at ∙ ap (child dir.folder) (one_below dir.folder file entry.name below.0 (sym x_at ∙ below.1))

  side_found : (side : Option Finding) (finding : Finding) (x : Found) → side ≡ Some finding → x.number ≡ number_of finding → x.at ≡ child dir.folder entry.name → Contains (found_by at side) x
  side_found side finding x e number x_at = subst (λ s. Contains (found_by at s) x) (sym e) (by_back at finding x (x_at ∙ sym place) number)

  -- as a long-name file
  orphan_back : (side : Option Finding) → IsSideOf f v dir entry side → (x : Found) → x.number ≡ number_of is.OrphanLongName → IsOrphanHere f v dir x.at → IsBelow (child dir.folder entry.name) x.at → Contains (found_by at side) x
  orphan_back side s x number o below =
      let x_at = same_place x.at o.file o.place below in
      side_found side is.OrphanLongName x (s.orphan.1 (subst (IsOrphanHere f v dir) x_at o)) number x_at

  idle_back : (side : Option Finding) → IsSideOf f v dir entry side → (x : Found) → x.number ≡ number_of is.EmptyOrphan → IsIdleHere f v dir x.at → IsBelow (child dir.folder entry.name) x.at → Contains (found_by at side) x
  idle_back side s x number o below =
      let x_at = same_place x.at o.file o.place below in
      side_found side is.EmptyOrphan x (s.idle.1 (subst (IsIdleHere f v dir) x_at o)) number x_at

  with_side : (main : Addition) (side : Option Finding) → IsMainOf f v dir entry.name main → IsSideOf f v dir entry side
      → IsReportOf f v dir entry.name (record { members = main.members; found = found_by at side ++ main.found })
  with_side main side m s = record {
    sound = m.sound;
    complete = m.complete;
    apart = m.apart;
    found = λ x. (
      λ there. on x (Contains-append_cases (found_by at side) main.found x there),
      λ is_found. back x is_found.0.finding is_found.0.number is_found.0.here is_found.1 (of_one is_found.0.finding is_found.0.told),
    );
  }
    where
      on : (x : Found) → Contains (found_by at side) x ⊎ Contains main.found x → IsFoundHere f v dir x × IsBelow (child dir.folder entry.name) x.at
      on x (inl there) = side_on side s x there
      on x (inr there) =
          let of : IsMainFound f v dir entry.name x = (m.found x).0 there in
          (record { finding = of.finding; number = of.number; told = main_told of.finding of.main; here = of.here }, of.below)

      back : (x : Found) (finding : Finding) → x.number ≡ number_of finding → IsFindingHere f v dir finding x.at → IsBelow (child dir.folder entry.name) x.at → IsOf finding
          → Contains (found_by at side ++ main.found) x
      back x finding number here below (OfEntry is_of) =
          Contains-append_right (found_by at side) main.found x ((m.found x).1 (record { finding = finding; number = number; main = is_of; here = here; below = below }))
      back x finding number here below (OfOrphan same) =
          Contains-append_left (found_by at side) main.found x
          (orphan_back side s x (number ∙ ap number_of same) (subst (λ k. IsFindingHere f v dir k x.at) same here) below)
      back x finding number here below (OfIdle same) =
          Contains-append_left (found_by at side) main.found x
          (idle_back side s x (number ∙ ap number_of same) (subst (λ k. IsFindingHere f v dir k x.at) same here) below)

  -- what is added as of a long-name file, and then as of the entry itself
  pub both_added : (before middle after : Report) (side : Option Finding) → IsSideOf f v dir entry side → middle.members.items ≡ before.members.items
      → middle.found.items ≡ before.found.items ++ found_by at side → HasAdded (IsMainOf f v dir entry.name) middle after → HasAdded (IsReportOf f v dir entry.name) before after
  both_added before middle after side s same found main = record {
    more = record { members = main.more.members; found = found_by at side ++ main.more.found };
    right = with_side main.more side main.right s;
    members = main.members ∙ ap (λ ms. ms ++ main.more.members) same;
    found = main.found ∙ ap (λ xs. xs ++ main.more.found) found ∙ append_assoc before.found.items (found_by at side) main.more.found;
  }
