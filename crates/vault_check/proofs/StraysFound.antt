-- The strays of a vault, by the findings of a survey.
use Rattle.std.proofs.Common.{◌≡◌, inl, inr, List, [], ◌∷◌, ◌++◌, map, IsTrue, Contains, AllPairs, refl, sym, ap, ◌∙◌, subst, append_assoc, append-nil}
use Rattle.std.specs.Cmp.Lexicographic.{nat_list_cmp_total}
use Rattle.std.specs.Ordering.{ordering_then}
use Rattle.std.specs.declared.cmp.Ordering.TheVariants.{Less}
use Rattle.std.proofs.lemmas.Cmp.{tied_itself}
use Rattle.folder_model.specs.Order.{path_cmp}
use Rattle.folder_spec.specs.Path.{Path}
use Rattle.folder_spec.specs.View.{View}
use Rattle.folder_spec.proofs.Paths.{append-cancel}
use Rattle.vault_spec.specs.Findings.{IsFinding, is_fault_of_structure, number_of}
use Rattle.vault_spec.specs.Format.{Format}
use Rattle.vault_spec.specs.Moving.{IsStray, is_moved}
use Rattle.vault_spec.specs.declared.Finding as spec
use Rattle.vault_spec.specs.declared.Finding.TheVariants as is
use Rattle.vault_walk.specs.Survey.{FoundAt, Precedes, ByPath, ByNumber, AreFindings}
use Rattle.vault_walk.specs.Surveyed.{told}
use Rattle.vault_walk.specs.declared.fault.Finding.{Finding}
use Rattle.vault_check.specs.Repairing.{AreStraysBehind}
use Rattle.vault_check.specs.Strays.{AreOuterStrays, IsOuterStray, moves_number, strays_after}
use Rattle.vault_check.proofs.Contained.{pairs_from_mapped, preimages}
use Rattle.vault_spec.proofs.Mapped.{all_pairs_mapped, contains_mapped, mapped_from}
use Rattle.vault_check.proofs.StraysGathered.{Gathered, IsMovedFinding, IsUpTo, gathered_all}

pub path_cmp-behind : (root p q : Path) → path_cmp (root ++ p) (root ++ q) ≡ path_cmp p q
path_cmp-behind [] p q = refl
path_cmp-behind (a ∷ root) p q = ap (λ o. ordering_then o (path_cmp (root ++ p) (root ++ q))) (tied_itself nat_list_cmp_total a) ∙ path_cmp-behind root p q

moved_number : (finding : spec.Finding) → moves_number (number_of finding) ≡ is_moved finding
moved_number is.BadStoredName = refl
moved_number is.NoDirKey = refl
moved_number is.LongNameLost = refl
moved_number is.OrphanLongName = refl
moved_number is.DirIdTwice = refl
moved_number is.NoFolder = refl
moved_number is.OrphanFolder = refl
moved_number is.SymlinkFound = refl
moved_number is.WrongKind = refl
moved_number is.ExtraEntry = refl
moved_number is.TwoKinds = refl
moved_number is.HeaderDamaged = refl
moved_number is.ChunkDamaged = refl
moved_number is.EmptyOrphan = refl

moved_is_of_structure : (finding : spec.Finding) → IsTrue (is_moved finding) → IsTrue (is_fault_of_structure finding)
moved_is_of_structure is.BadStoredName moved = refl
moved_is_of_structure is.NoDirKey moved = refl
moved_is_of_structure is.LongNameLost moved = refl
moved_is_of_structure is.OrphanLongName moved = refl
moved_is_of_structure is.DirIdTwice moved = refl
moved_is_of_structure is.NoFolder moved = refl
moved_is_of_structure is.OrphanFolder moved = refl
moved_is_of_structure is.SymlinkFound moved = refl
moved_is_of_structure is.WrongKind moved = refl
moved_is_of_structure is.ExtraEntry moved = refl
moved_is_of_structure is.TwoKinds moved = refl
moved_is_of_structure is.HeaderDamaged moved = cc
moved_is_of_structure is.ChunkDamaged moved = cc
moved_is_of_structure is.EmptyOrphan moved = cc

up_to : (root : Path) (x y : FoundAt) → Precedes x y → IsUpTo (root ++ x.at) (root ++ y.at)
up_to root x y (ByPath less) = inr (path_cmp-behind root x.at y.at ∙ less)
up_to root x y (ByNumber same less) = inl (ap (λ p. root ++ p) same)

module _ (root : Path) (f : Format) (v : View) (found : List FoundAt) (are : AreFindings f v found) where
  items : List Finding
  items = map (told root) found

  gathered : Gathered (map (told root) found) (strays_after [] (map (told root) found))
  gathered =
      gathered_all (map (told root) found)
      (all_pairs_mapped (λ (x y : Finding). IsUpTo x.at y.at) (told root) found (λ i j d below less. up_to root _ _ (are.ordered i j d below less)))

  -- what is a stray is among the findings
  among : (at : Path) → IsStray f v at → (x : Finding) × Contains (map (told root) found) x × IsMovedFinding x × (x.at ≡ root ++ at)
  among at stray =
      let x : FoundAt = record { at = at; finding = stray.finding } in
      (told root x, contains_mapped (told root) found x ((are.findings x).1 (moved_is_of_structure stray.finding stray.moved, stray.found)), moved_number stray.finding ∙ stray.moved, refl)

  stray_of : (at : Path) (x : Finding) → Contains (map (told root) found) x → IsMovedFinding x → x.at ≡ root ++ at → IsStray f v at
  stray_of at x there moved place =
      let from = mapped_from (told root) found x there in
      let y : FoundAt = from.0 in
      let same : y.at ≡ at = append-cancel root y.at at (ap (λ (z : Finding). z.at) from.2 ∙ place) in
      let number : moves_number (number_of y.finding) ≡ moves_number x.number = ap (λ (z : Finding). moves_number z.number) from.2 in
      record {
        finding = y.finding;
        moved = sym (moved_number y.finding) ∙ number ∙ moved;
        found = subst (λ p. IsFinding f v y.finding p) same ((are.findings y).0 from.1).1;
      }

  module _ (strays : List Path) (behind_root : map (λ (p : Path). root ++ p) strays ≡ strays_after [] (map (told root) found)) where
    behind_in : (at : Path) → Contains strays at → Contains (strays_after [] (map (told root) found)) (root ++ at)
    behind_in at there = subst (λ ss. Contains ss (root ++ at)) behind_root (contains_mapped (λ (p : Path). root ++ p) strays at there)

    is_stray : (at : Path) → Contains strays at → IsStray f v at
    is_stray at there = let source = gathered.from (root ++ at) (behind_in at there) in stray_of at source.0 source.1 source.2 source.3

    is_outer : (at : Path) → Contains strays at → IsOuterStray f v at
    is_outer at there = record {
      stray = is_stray at there;
      outer = λ front a rest place above.
          let x = among front above in
          gathered.outer (root ++ at) (behind_in at there) x.0 x.1 x.2 a rest
          (ap (λ p. root ++ p) place ∙ sym (append_assoc root front (a ∷ rest)) ∙ ap (λ p. p ++ a ∷ rest) (sym x.3));
    }

    is_there : (at : Path) → IsOuterStray f v at → Contains strays at
    is_there at outer =
        let x = among at outer.stray in
        let k = gathered.covers x.0 x.1 x.2 in
        let from = mapped_from (λ (p : Path). root ++ p) strays k.0 (subst (λ ss. Contains ss k.0) (sym behind_root) k.2) in
        let place : at ≡ from.0 ++ k.1 =
        append-cancel root at (from.0 ++ k.1) (sym x.3 ∙ k.3 ∙ ap (λ p. p ++ k.1) (sym from.2) ∙ append_assoc root from.0 k.1) in
        by_rest (k.1) from.0 from.1 place
      where
        by_rest : (rest p : Path) → Contains strays p → at ≡ p ++ rest → Contains strays at
        by_rest [] p there place = subst (Contains strays) (sym (append-nil p) ∙ sym place) there
        by_rest (a ∷ rest) p there place = absurd (outer.outer p a rest place (is_stray p there))

    are_outer : AreOuterStrays f v strays
    are_outer = record {
      ordered = λ i j d below less.
          sym (path_cmp-behind root _ _)
          ∙ pairs_from_mapped (λ (p q : Path). path_cmp p q ≡ Less) (λ (p : Path). root ++ p) strays
          (subst (AllPairs (λ (p q : Path). path_cmp p q ≡ Less)) (sym behind_root) gathered.ordered) i j d below less;
      each = λ at. (is_outer at, is_there at);
    }

  pub strays_found : (paths : List Finding) → paths ≡ map (told root) found → (strays : List Path) → strays ≡ strays_after [] paths → AreStraysBehind root f v strays
  strays_found paths are_told strays is =
      let all : strays ≡ strays_after [] (map (told root) found) = is ∙ ap (strays_after []) are_told in
      let rel = preimages (λ (p : Path). root ++ p) (strays_after [] (map (told root) found)) each in
      record { strays = rel.0; are = are_outer rel.0 rel.1; behind_root = all ∙ sym rel.1 }
    where
      each : (q : Path) → Contains (strays_after [] (map (told root) found)) q → (p : Path) × (root ++ p ≡ q)
      each q there =
          let source = gathered.from q there in
          let from = mapped_from (told root) found source.0 source.1 in
          let y : FoundAt = from.0 in
          (y.at, ap (λ (z : Finding). z.at) from.2 ∙ source.3)
