-- A survey tells all that is found in a vault, and each item once.
use Rattle.std.proofs.Common.{◌≡◌, ◌≢◌, ◌⊎◌, ◌↔◌, inl, inr, ℕ, suc, ◌<◌, Bool, true, false, cond, nat_le, nat_eq, nat_lt, List, [], ◌∷◌, ◌++◌, map, None, Err, refl, sym, ap, ◌∙◌, subst, arith, length, get_or, ⊎_elim}
use Rattle.std.specs.Prelude.{IsTrue, AllPairs, Contains}
use Rattle.std.specs.BTreeSet.{BTreeSet, contains}
use Rattle.std.specs.List.{filter}
use Rattle.std.specs.List.Sorted.{IsStrictlySortedBy}
use Rattle.std.specs.Ordering.{nat_cmp, ordering_then}
use Rattle.std.specs.declared.cmp.Ordering.{Ordering}
use Rattle.std.specs.declared.cmp.Ordering.TheVariants.{Less, Equal, Greater}
use Rattle.std.proofs.lemmas.Bool.Decides.{nat_tests}
use Rattle.std.proofs.lemmas.List.Elements.{All-from_recursion, Contains-append_left, Contains-append_right, Contains-append_cases, Contains-push, Contains-get_or}
use Rattle.std.proofs.lemmas.List.Kept.{AllPairs-cons, IsStrictlySortedBy-filter}
use Rattle.std.proofs.lemmas.List.Sorted.{Contains-permutation, IsPermutation-sym, length_permutation}
use Rattle.folder_model.specs.Order.{path_cmp}
use Rattle.folder_spec.specs.Path.{Path}
use Rattle.folder_spec.specs.View.{View}
use Rattle.vault_spec.specs.Findings.{IsFinding, is_fault_of_structure, number_of}
use Rattle.vault_spec.specs.Format.{Format, Directory}
use Rattle.vault_spec.specs.Plan.{Planned}
use Rattle.vault_spec.specs.Standing.{Dir, root_of, standing_in}
use Rattle.vault_spec.specs.declared.Finding.{Finding}
use Rattle.vault_spec.specs.declared.Finding.TheVariants as is
use Rattle.vault_spec.specs.declared.Lack.{Lack}
use Rattle.vault_spec.specs.declared.Lack.TheVariants as lacks
use Rattle.vault_walk.specs.Apart.{is_apart, AreFoundApart, AreReachedFolders, AreTargets, AreTwice, IsFoundApart, IsTarget}
use Rattle.vault_walk.proofs.Numbers.{numbered, by_number, number_less}
use Rattle.vault_walk.specs.Found.{found_cmp}
use Rattle.vault_walk.specs.Here.{IsFindingApart}
use Rattle.vault_walk.specs.Levels.{finding_of, HasEnded, IsMet, IsTargetAmong}
use Rattle.vault_walk.specs.Report.{is_told}
use Rattle.vault_walk.specs.Survey.{depth_limit, AreFindings, AreNotes, FoundAt, HasEachOnce, Precedes, ByPath, ByNumber}
use Rattle.vault_walk.specs.Surveyed.{finding_behind, findings_behind, is_note, is_structural, notes_behind, placed, told, AreInOrder, ArePlaced, AreTold, AreVisits, HaveMet, IsSurveyed, IsTold}
use Rattle.vault_walk.specs.Walking.{Way, AreGathered, IsFoundAmong}
use Rattle.vault_walk.specs.declared.fault.Finding as answer
use Rattle.vault_walk.specs.declared.levels.Walk.{Walk}
use Rattle.std.proofs.lemmas.List.{length-map}
use Rattle.vault_walk.specs.declared.found.Found.{Found}
use Rattle.vault_walk.specs.declared.surveying.Surveyed.{Surveyed}
use Rattle.vault_walk.specs.declared.twice.Target.{Target}
use Rattle.vault_walk.proofs.Depths.{found_among, visited_is_reached}
use Rattle.vault_walk.proofs.Flats.{none_within, only_one}
use Rattle.vault_walk.proofs.Gathered.{each_once}
use Rattle.vault_spec.proofs.Mapped.{contains_mapped, mapped_from, all_pairs_mapped}
use Rattle.vault_walk.proofs.NodeOrders.{exact_paths, path_tied}
use Rattle.vault_walk.proofs.Walks.{StandBehind, LeadThrough}

-- what is filtered
pub filtered_on : {X : Type 0} (p : X → Bool) (xs : List X) (x : X) → Contains (filter p xs) x → Contains xs x × (p x ≡ true)
filtered_on p [] x there = absurd (none_within x there)
filtered_on {X} p (y ∷ xs) x there = by_test (p y) refl there (filtered_on p xs x)
  where
    later : Contains xs x → Contains (y ∷ xs) x
    later found = Contains-append_right (y ∷ []) xs x found

    by_test : (b : Bool) → p y ≡ b → Contains (cond b (y ∷ filter p xs) (filter p xs)) x → (Contains (filter p xs) x → Contains xs x × (p x ≡ true)) → Contains (y ∷ xs) x × (p x ≡ true)
    by_test true e found rest =
        ⊎_elim
        (λ first. let same = only_one y x first in (Contains-append_left (y ∷ []) xs x first, ap p (sym same) ∙ e))
        (λ last. let one = rest last in (later one.0, one.1))
        (Contains-append_cases (y ∷ []) (filter p xs) x found)
    by_test false e found rest = let one = rest found in (later one.0, one.1)

pub filtered_back : {X : Type 0} (p : X → Bool) (xs : List X) (x : X) → Contains xs x → p x ≡ true → Contains (filter p xs) x
filtered_back p [] x there passes = absurd (none_within x there)
filtered_back {X} p (y ∷ xs) x there passes = ⊎_elim first (λ more. by_test (p y) (filtered_back p xs x more passes)) (Contains-append_cases (y ∷ []) xs x there)
  where
    first : Contains (y ∷ []) x → Contains (filter p (y ∷ xs)) x
    first one =
        let same = only_one y x one in
        subst (λ b. Contains (cond b (y ∷ filter p xs) (filter p xs)) x) (sym (ap p same ∙ passes)) (Contains-append_left (y ∷ []) (filter p xs) x one)

    by_test : (b : Bool) → Contains (filter p xs) x → Contains (cond b (y ∷ filter p xs) (filter p xs)) x
    by_test true found = Contains-append_right (y ∷ []) (filter p xs) x found
    by_test false found = found

-- what is mapped in two ways
pub maps_agree : {X Y : Type 0} (g h : X → Y) (xs : List X) → ((x : X) → Contains xs x → g x ≡ h x) → map g xs ≡ map h xs
maps_agree g h [] same = refl
maps_agree {Y = Y} g h (x ∷ xs) same =
    ap (λ (y : Y). y ∷ map g xs) (same x (Contains-append_left (x ∷ []) xs x (Contains-push [] x)))
    ∙ ap (λ ys. h x ∷ ys) (maps_agree g h xs (λ z there. same z (Contains-append_right (x ∷ []) xs z there)))

pub map_twice : {X Y Z : Type 0} (g : Y → Z) (h : X → Y) (xs : List X) → map (λ x. g (h x)) xs ≡ map g (map h xs)
map_twice g h [] = refl
map_twice g h (x ∷ xs) = ap (λ ys. g (h x) ∷ ys) (map_twice g h xs)

pub strict_pairs : {X : Type 0} (c : X → X → Ordering) (xs : List X) → IsStrictlySortedBy c xs → AllPairs (λ x y. c x y ≡ Less) xs
unfolding IsStrictlySortedBy
strict_pairs c [] up = λ i j d below less. absurd (omega (arith, less))
strict_pairs c (x ∷ xs) up = AllPairs-cons (λ y z. c y z ≡ Less) x xs (All-from_recursion (λ y. c x y ≡ Less) xs up.0) (strict_pairs c xs up.1)

structural : (finding : Finding) → nat_le (number_of finding) 11 ≡ is_fault_of_structure finding
structural is.BadStoredName = refl
structural is.NoDirKey = refl
structural is.LongNameLost = refl
structural is.OrphanLongName = refl
structural is.DirIdTwice = refl
structural is.NoFolder = refl
structural is.OrphanFolder = refl
structural is.SymlinkFound = refl
structural is.WrongKind = refl
structural is.ExtraEntry = refl
structural is.TwoKinds = refl
structural is.HeaderDamaged = refl
structural is.ChunkDamaged = refl
structural is.EmptyOrphan = refl

structure_is_told : (finding : Finding) → IsTrue (is_fault_of_structure finding) → IsTrue (is_told finding)
structure_is_told is.BadStoredName e = refl
structure_is_told is.NoDirKey e = refl
structure_is_told is.LongNameLost e = refl
structure_is_told is.OrphanLongName e = refl
structure_is_told is.DirIdTwice e = refl
structure_is_told is.NoFolder e = refl
structure_is_told is.OrphanFolder e = refl
structure_is_told is.SymlinkFound e = refl
structure_is_told is.WrongKind e = refl
structure_is_told is.ExtraEntry e = refl
structure_is_told is.TwoKinds e = refl
structure_is_told is.HeaderDamaged e = e
structure_is_told is.ChunkDamaged e = e
structure_is_told is.EmptyOrphan e = refl

apart_is_told : (finding : Finding) → IsTrue (is_apart finding) → IsTrue (is_told finding)
apart_is_told is.BadStoredName e = refl
apart_is_told is.NoDirKey e = refl
apart_is_told is.LongNameLost e = refl
apart_is_told is.OrphanLongName e = refl
apart_is_told is.DirIdTwice e = refl
apart_is_told is.NoFolder e = refl
apart_is_told is.OrphanFolder e = refl
apart_is_told is.SymlinkFound e = refl
apart_is_told is.WrongKind e = refl
apart_is_told is.ExtraEntry e = refl
apart_is_told is.TwoKinds e = refl
apart_is_told is.HeaderDamaged e = e
apart_is_told is.ChunkDamaged e = e
apart_is_told is.EmptyOrphan e = refl

module _ (behind : StandBehind) (through : LeadThrough) (f : Format) (v : View) (visits : List Way) where
  -- the directory items with a key that were met are those of the vault
  pub targets_are : (targets : List Target) → AreVisits f v visits → ((t : Target) → Contains targets t ↔ IsTargetAmong f v visits t) → AreTargets f v targets
  targets_are targets walked are t = (λ there. on ((are t).0 there), λ one. (are t).1 (back one))
    where
      on : IsTargetAmong f v visits t → IsTarget f v t
      on one = record {
        directory = one.2.directory;
        item = record { dir = one.0.dir; name = one.2.name; reached = (visited_is_reached behind through f v (suc depth_limit) visits walked one.0.dir).1 (one.0, one.1, refl); stands = one.2.stands };
        key = one.2.key;
        folder = one.2.folder;
      }

      back : IsTarget f v t → IsTargetAmong f v visits t
      back one =
          let among = (visited_is_reached behind through f v (suc depth_limit) visits walked one.item.dir).0 one.item.reached in (
            among.0,
            among.1,
            record {
              name = one.item.name;
              directory = one.directory;
              stands = ap (λ d. standing_in f v d one.item.name) among.2 ∙ one.item.stands;
              key = one.key;
              folder = one.folder;
            },
          )

  -- the folders of what was visited are those of what is reached
  pub folders_are : (folders : BTreeSet Path) → AreVisits f v visits → ((at : Path) → IsTrue (contains path_cmp folders at) ↔ ((way : Way) × Contains visits way × (way.dir.folder ≡ at))) → AreReachedFolders f v folders
  folders_are folders walked are at = (
    λ has. let one = (are at).0 has in (one.0.dir, (visited_is_reached behind through f v (suc depth_limit) visits walked one.0.dir).1 (one.0, one.1, refl), one.2),
    λ reached. let among = (visited_is_reached behind through f v (suc depth_limit) visits walked reached.0).0 reached.1 in (are at).1 (among.0, among.1, ap (λ (d : Directory). d.folder) among.2 ∙ reached.2),
  )

  module _ (found apart twice : List Found) (targets : List Target) (met : HaveMet f v visits found targets) (apart_are : AreFoundApart f v apart) (twice_are : AreTwice f v twice) (x : Found) where
    where_found : (finding : Finding) (at : Path) → IsFinding f v finding at ↔ (IsFoundAmong f v visits finding at ⊎ IsFindingApart f v finding at)
    where_found finding at = found_among behind through f v (suc depth_limit) visits met.visits_are finding at

    in_found : Contains found x → Contains ((found ++ apart) ++ twice) x
    in_found there = Contains-append_left (found ++ apart) twice x (Contains-append_left found apart x there)

    in_apart : Contains apart x → Contains ((found ++ apart) ++ twice) x
    in_apart there = Contains-append_left (found ++ apart) twice x (Contains-append_right found apart x there)

    in_twice : Contains twice x → Contains ((found ++ apart) ++ twice) x
    in_twice there = Contains-append_right (found ++ apart) twice x there

    lack_told : (lack : Lack) → x.number ≡ number_of (finding_of lack) → root_of f v ≡ Dir x.at (Err lack) → IsTold f v x
    lack_told lacks.NoDirKey number root = record { finding = is.NoDirKey; number = number; told = refl; is = (where_found is.NoDirKey x.at).1 (inr root) }
    lack_told lacks.NoFolder number root = record { finding = is.NoFolder; number = number; told = refl; is = (where_found is.NoFolder x.at).1 (inr root) }

    met_told : IsMet f v visits x → IsTold f v x
    met_told (inl root) = lack_told root.lack root.number root.root
    met_told (inr one) = record { finding = one.2.finding; number = one.2.number; told = one.2.told; is = (where_found one.2.finding x.at).1 (inl (one.0, one.1, one.2.here)) }

    apart_told : IsFoundApart f v x → IsTold f v x
    apart_told one = record { finding = one.finding; number = one.number; told = apart_is_told one.finding one.outside; is = (where_found one.finding x.at).1 (inr one.apart) }

    root_lacks : (lack : Lack) → x.number ≡ number_of (finding_of lack) → root_of f v ≡ Dir x.at (Err lack) → Contains ((found ++ apart) ++ twice) x
    root_lacks lack number root = in_found ((met.found_are x).1 (inl (record { lack = lack; number = number; root = root })))

    found_apart : (finding : Finding) → x.number ≡ number_of finding → IsTrue (is_apart finding) → IsFindingApart f v finding x.at → Contains ((found ++ apart) ++ twice) x
    found_apart finding number outside a = in_apart ((apart_are x).1 (record { finding = finding; number = number; outside = outside; apart = a }))

    apart_back : (finding : Finding) → x.number ≡ number_of finding → IsFindingApart f v finding x.at → Contains ((found ++ apart) ++ twice) x
    apart_back is.BadStoredName number a = absurd a
    apart_back is.NoDirKey number a = root_lacks lacks.NoDirKey number a
    apart_back is.LongNameLost number a = absurd a
    apart_back is.OrphanLongName number a = absurd a
    apart_back is.DirIdTwice number a = in_twice ((twice_are x).1 (number, a))
    apart_back is.NoFolder number a = root_lacks lacks.NoFolder number a
    apart_back is.OrphanFolder number a = found_apart is.OrphanFolder number refl a
    apart_back is.SymlinkFound number a = absurd a
    apart_back is.WrongKind number a = absurd a
    apart_back is.ExtraEntry number a = found_apart is.ExtraEntry number refl a
    apart_back is.TwoKinds number a = absurd a
    apart_back is.HeaderDamaged number a = absurd a
    apart_back is.ChunkDamaged number a = absurd a
    apart_back is.EmptyOrphan number a = found_apart is.EmptyOrphan number refl a

    told_back : IsTold f v x → Contains ((found ++ apart) ++ twice) x
    told_back t = ⊎_elim
        (λ among. in_found ((met.found_are x).1 (inr (among.0, among.1, record { finding = t.finding; number = t.number; told = t.told; here = among.2 }))))
        (λ a. apart_back t.finding t.number a)
        ((where_found t.finding x.at).0 t.is)

    -- what the walk met, what is found apart and what is found twice is all that is found
    pub all_told : Contains ((found ++ apart) ++ twice) x ↔ IsTold f v x
    all_told = (
      λ there. ⊎_elim
          (λ first. ⊎_elim (λ one. met_told ((met.found_are x).0 one)) (λ two. apart_told ((apart_are x).0 two)) (Contains-append_cases found apart x first))
          (λ last.
          let both = (twice_are x).0 last in record { finding = is.DirIdTwice; number = both.0; told = refl; is = both.1 })
          (Contains-append_cases (found ++ apart) twice x there),
      told_back,
    )

abbrev found_at : Found → FoundAt
found_at x = record { at = x.at; finding = numbered x.number }

pair_less : (a b : Ordering) → ordering_then a b ≡ Less → (a ≡ Less) ⊎ ((a ≡ Equal) × (b ≡ Less))
pair_less Less b e = inl refl
pair_less Equal b e = inr (refl, e)
pair_less Greater b e = cc

same_number : (n : ℕ) → nat_cmp n n ≡ Equal
same_number n = by_test (nat_lt n n) refl (nat_eq n n) refl
  where
    by_test : (a : Bool) → nat_lt n n ≡ a → (b : Bool) → nat_eq n n ≡ b → nat_cmp n n ≡ Equal
    by_test true less b same = absurd (let clash : n < n = grind (arith, nat_tests) in omega (arith, clash))
    by_test false less true same = ap (λ a. cond a Less (cond (nat_eq n n) Equal Greater)) less ∙ ap (λ b. cond false Less (cond b Equal Greater)) same
    by_test false less false same = absurd (let clash : n ≢ n = grind (arith, nat_tests) in clash refl)

abbrev found_of : Path → ℕ → Found
found_of at number = record { at = at; number = number }

abbrev placed_at : Path → Finding → FoundAt
placed_at at finding = record { at = at; finding = finding }

module _ (f : Format) (v : View) (found : List Found) (ordered : IsStrictlySortedBy found_cmp found) (are : AreTold f v found) where
  right_number : (x : Found) → Contains found x → number_of (numbered x.number) ≡ x.number
  right_number x there =
      let t = (are x).0 there in ap (λ n. number_of (numbered n)) t.number ∙ ap number_of (by_number t.finding) ∙ sym t.number

  precede : (x y : Found) → Contains found x → Contains found y → found_cmp x y ≡ Less → Precedes (found_at x) (found_at y)
  precede x y one two less = ⊎_elim
      (λ paths. ByPath paths)
      (λ both.
      let numbers : x.number < y.number = number_less x.number y.number both.1 in
      ByNumber (exact_paths x.at y.at both.0) (subst (λ m. m < number_of (numbered y.number)) (sym (right_number x one)) (subst (λ n. x.number < n) (sym (right_number y two)) numbers)))
      (pair_less (path_cmp x.at y.at) (nat_cmp x.number y.number) less)

  structure : List Found
  structure = filter is_structural found

  in_pairs : (p : Found → Bool) → AllPairs (λ (x y : Found). Contains found x × Contains found y × (p x ≡ true) × (p y ≡ true) × (found_cmp x y ≡ Less)) (filter p found)
  in_pairs p i j d below less =
      let first : i < length (filter p found) = omega (arith, below, less) in
      let one = filtered_on p found (get_or (filter p found) i d) (Contains-get_or (filter p found) i d first) in
      let two = filtered_on p found (get_or (filter p found) j d) (Contains-get_or (filter p found) j d less) in
      (one.0, two.0, one.1, two.1, strict_pairs found_cmp (filter p found) (IsStrictlySortedBy-filter found_cmp p found ordered) i j d below less)

  pub findings_told : AreFindings f v (map found_at (filter is_structural found))
  findings_told = record {
    ordered = all_pairs_mapped Precedes found_at (filter is_structural found)
        (λ i j d below less. let p = in_pairs is_structural i j d below less in precede (get_or (filter is_structural found) i d) (get_or (filter is_structural found) j d) p.0 p.1 p.4);
    findings = λ y. (on y, back y);
  }
    where
      on : (y : FoundAt) → Contains (map found_at (filter is_structural found)) y → IsTrue (is_fault_of_structure y.finding) × IsFinding f v y.finding y.at
      on y there =
          let from = mapped_from found_at (filter is_structural found) y there in
          let both = filtered_on is_structural found from.0 from.1 in
          let t = (are from.0).0 both.0 in
          let finding_is : t.finding ≡ y.finding = sym (by_number t.finding) ∙ ap numbered (sym t.number) ∙ ap (λ (z : FoundAt). z.finding) from.2 in
          let fault : IsTrue (is_fault_of_structure t.finding) = sym (structural t.finding) ∙ ap (λ n. nat_le n 11) (sym t.number) ∙ both.1 in (
            subst (λ x. IsTrue (is_fault_of_structure x)) finding_is fault,
            subst (λ x. IsFinding f v x y.at) finding_is (subst (IsFinding f v t.finding) (ap (λ (z : FoundAt). z.at) from.2) t.is),
          )

      back : (y : FoundAt) → IsTrue (is_fault_of_structure y.finding) × IsFinding f v y.finding y.at → Contains (map found_at (filter is_structural found)) y
      back y both =
          let x : Found = found_of y.at (number_of y.finding) in
          let there : Contains found x = (are x).1 (record { finding = y.finding; number = refl; told = structure_is_told y.finding both.0; is = both.1 }) in
          subst (Contains (map found_at (filter is_structural found))) (ap (placed_at y.at) (by_number y.finding))
          (contains_mapped found_at (filter is_structural found) x (filtered_back is_structural found x there (structural y.finding ∙ both.0)))

  note_path : Found → Path
  note_path x = x.at

  pub notes_told : AreNotes f v (map (λ (x : Found). x.at) (filter is_note found))
  notes_told = record {
    ordered = all_pairs_mapped (λ (x y : Path). path_cmp x y ≡ Less) (λ (x : Found). x.at) (filter is_note found)
        (λ i j d below less.
        let p = in_pairs is_note i j d below less in
        let x = get_or (filter is_note found) i d in
        let y = get_or (filter is_note found) j d in
        ⊎_elim
        (λ paths. paths)
        (λ both.
        let one : x.number ≡ 14 = note_number x.number p.2 in
        let two : y.number ≡ 14 = note_number y.number p.3 in
        let clash : Equal ≡ Less = sym (same_number 14) ∙ ap (λ n. nat_cmp n 14) (sym one) ∙ ap (nat_cmp x.number) (sym two) ∙ both.1 in
        absurd (not_less clash))
        (pair_less (path_cmp x.at y.at) (nat_cmp x.number y.number) p.4));
    paths = λ at. (on at, back at);
  }
    where
      not_less : Equal ≡ Less → ⊥
      not_less e = cc

      note_number : (n : ℕ) → nat_eq n 14 ≡ true → n ≡ 14
      note_number n e = grind (arith, nat_tests)

      on : (at : Path) → Contains (map (λ (x : Found). x.at) (filter is_note found)) at → IsFinding f v is.EmptyOrphan at
      on at there =
          let from = mapped_from (λ (x : Found). x.at) (filter is_note found) at there in
          let both = filtered_on is_note found from.0 from.1 in
          let t = (are from.0).0 both.0 in
          let finding_is : t.finding ≡ is.EmptyOrphan = sym (by_number t.finding) ∙ ap numbered (sym t.number ∙ note_number from.0.number both.1) in
          subst (λ x. IsFinding f v x at) finding_is (subst (IsFinding f v t.finding) from.2 t.is)

      back : (at : Path) → IsFinding f v is.EmptyOrphan at → Contains (map (λ (x : Found). x.at) (filter is_note found)) at
      back at one =
          let x : Found = found_of at 14 in
          contains_mapped (λ (y : Found). y.at) (filter is_note found) x
          (filtered_back is_note found x ((are x).1 (record { finding = is.EmptyOrphan; number = refl; told = refl; is = one })) refl)

  findings_agree : (root : Path) → findings_behind root found ≡ map (told root) (map found_at (filter is_structural found))
  findings_agree root =
      maps_agree (finding_behind root) (λ x. told root (found_at x)) (filter is_structural found)
      (λ x there. ap (λ n. finding_with (root ++ x.at) n) (sym (right_number x (filtered_on is_structural found x there).0)))
      ∙ map_twice (told root) found_at (filter is_structural found)
    where
      finding_with : Path → ℕ → answer.Finding
      finding_with at number = record { at = at; number = number; fault = None }

  -- the items in order of their paths are each item once
  once_in_order : StandBehind → LeadThrough → (visits : List Way) (items sorted : List Planned) → AreVisits f v visits → AreGathered f v visits items → AreInOrder items sorted → HasEachOnce f v sorted
  once_in_order behind through visits items sorted walked gathered order = each_once behind through f v (suc depth_limit) visits sorted walked (record {
    sound = λ item there. gathered.sound item (Contains-permutation sorted items item (IsPermutation-sym items sorted order.same) there);
    complete = λ way item there of. Contains-permutation items sorted item order.same (gathered.complete way item there of);
    apart = λ i j d below less same. not_less (get_or sorted i d).path (get_or sorted j d).path same (order.ordered gathered.apart i j d below less);
  })
    where
      not_less : (p q : List (List ℕ)) → p ≡ q → path_cmp p q ≡ Less → ⊥
      not_less p q same less = let clash : Equal ≡ Less = sym (path_tied q) ∙ ap (λ z. path_cmp z q) (sym same) ∙ less in cc

  -- the answer of a survey
  pub surveyed_is : StandBehind → LeadThrough → (root : Path) (visits : List Way) (items : List Planned) (surveyed : Surveyed) → AreVisits f v visits → AreGathered f v visits items → ArePlaced root items surveyed.plan.items
      → surveyed.findings.items ≡ findings_behind root found → surveyed.notes.items ≡ notes_behind root found → IsSurveyed root f v surveyed
  surveyed_is behind through root visits items surveyed walked gathered places findings notes = record {
    plan = places.sorted;
    found = map found_at (filter is_structural found);
    notes = map (λ (x : Found). x.at) (filter is_note found);
    is = record {
      once = once_in_order behind through visits items places.sorted walked gathered places.in_order;
      ordered = places.in_order.ordered gathered.apart;
      findings = findings_told;
      notes_are = notes_told;
    };
    items_are = places.placed_are;
    findings_are = findings ∙ findings_agree root;
    notes_are = notes ∙ map_twice (λ (at : Path). root ++ at) (λ (x : Found). x.at) (filter is_note found);
  }

-- what a walk that has ended met
pub met_by : (f : Format) (v : View) (walk : Walk) (visits : List Way) (found : List Found) (targets : List Target) → visits ≡ walk.visits.items → found ≡ walk.found.items → targets ≡ walk.targets.items → HasEnded f v walk
    → HaveMet f v visits found targets
met_by f v walk visits found targets one two three ended = record {
  visits_are = subst (AreVisits f v) (sym one) ended.walked;
  found_are = λ x. subst (λ ws. Contains found x ↔ IsMet f v ws x) (sym one) (subst (λ fs. Contains fs x ↔ IsMet f v walk.visits.items x) (sym two) (ended.tells.found x));
  targets_are = λ t. subst (λ ws. Contains targets t ↔ IsTargetAmong f v ws t) (sym one) (subst (λ ts. Contains ts t ↔ IsTargetAmong f v walk.visits.items t) (sym three) (ended.tells.targets t));
}

pub placed_size : (root : Path) (items plan : List Planned) → ArePlaced root items plan → length plan ≡ length items
placed_size root items plan p = ap (λ (xs : List Planned). length xs) p.placed_are ∙ length-map p.sorted (placed root) ∙ (length_permutation items p.sorted p.in_order.same)
