-- The report of a check: what a survey found, and the contents that are damaged, in order.
use Rattle.std.proofs.Common.{◌≡◌, inl, inr, ◌<◌, true, false, List, [], ◌∷◌, ◌++◌, map, length, get_or, Option, Some, None, AllPairs, Contains, refl, sym, ap, ◌∙◌, subst, subst₂, arith, length-append}
use Rattle.std.proofs.lemmas.List.{get_or_append_left, get_or_push}
use Rattle.std.proofs.lemmas.List.Elements.{Contains-append_left, Contains-append_right, Contains-append_cases, Contains-push}
use Rattle.std.proofs.lemmas.List.Sorted.{Contains-permutation, IsPermutation-sym}
use Rattle.std.specs.List.Sorted.{IsPermutation}
use Rattle.std.specs.Ordering.{nat_cmp, ordering_then}
use Rattle.std.specs.declared.cmp.Ordering.{Ordering}
use Rattle.std.specs.declared.cmp.Ordering.TheVariants.{Less, Equal, Greater}
use Rattle.chunk_files.specs.Contents.{readable}
use Rattle.chunk_files.specs.Reading.{Faulty}
use Rattle.chunk_files.specs.declared.fault.ChunkFault.{ChunkFault}
use Rattle.chunk_files.specs.declared.fault.ChunkFault.TheVariants as chunk
use Rattle.folder_model.specs.Order.{path_cmp}
use Rattle.folder_spec.proofs.Paths.{append-cancel}
use Rattle.folder_spec.specs.Path.{Path}
use Rattle.folder_spec.specs.Seen.{under}
use Rattle.folder_spec.specs.View.{View, FileOf}
use Rattle.vault_read.specs.Contents.{limited_reading}
use Rattle.vault_spec.specs.Findings.{IsDamaged, finding_of, is_fault_of_structure, number_of}
use Rattle.vault_spec.specs.Format.{Format}
use Rattle.vault_spec.specs.declared.Finding as spec
use Rattle.vault_spec.proofs.Mapped.{all_pairs_mapped, contains_mapped, mapped_from, pairs_append}
use Rattle.vault_walk.proofs.NodeOrders.{exact_paths, path_tied}
use Rattle.vault_walk.proofs.Numbers.{number_less, one_number}
use Rattle.vault_walk.specs.Survey.{FoundAt, Precedes, ByPath, ByNumber, AreFindings}
use Rattle.vault_walk.specs.Surveyed as walk
use Rattle.vault_walk.specs.declared.fault.Finding.{Finding}
use Rattle.vault_check.specs.Checking.{AreReported, IsReported, IsReportedWith, Reported, told}
use Rattle.vault_check.specs.Contents.{EndsAs, TellsDamage, NoContent, Content, ending_of, told_damage}
use Rattle.vault_check.specs.Orders.{AreDifferent, AreInOrder, finding_cmp}
use Rattle.vault_check.proofs.Contained.{none_within, only_one, pairs_from_mapped, preimages}
use Rattle.vault_check.proofs.Damages.{each_told, not_wanting}
use Rattle.vault_check.proofs.Planned.{IsContentIn}
use Rattle.vault_check.proofs.ReadFronts.{limited_is_whole}
use Rattle.vault_check.proofs.StraysFound.{path_cmp-behind}

of_contents : (fault : ChunkFault) → is_fault_of_structure (finding_of fault) ≡ false
of_contents chunk.NoHeader = refl
of_contents (chunk.HeaderVersion version) = refl
of_contents chunk.ZeroId = refl
of_contents chunk.HeaderTag = refl
of_contents (chunk.ShortChunk number) = refl
of_contents (chunk.ZeroNonce number) = refl
of_contents (chunk.ChunkTag number) = refl

-- ---- pairs of a list with a last element

front_pairs : {X : Type 0} (R : X → X → Type 0) (xs : List X) (y : X) → AllPairs R (xs ++ y ∷ []) → AllPairs R xs
front_pairs R xs y pairs i j d below less =
    let both : i < j = below in
    let end : j < length xs = less in
    subst₂ R (get_or_append_left xs (y ∷ []) d i (omega (arith, both, end))) (get_or_append_left xs (y ∷ []) d j end)
    (pairs i j d below (omega (arith, end, length-append xs (y ∷ []))))

last_pairs : {X : Type 0} (R : X → X → Type 0) (xs : List X) (y x : X) → AllPairs R (xs ++ y ∷ []) → Contains xs x → R x y
last_pairs R xs y x pairs there =
    let less : there.0 < length xs = there.1 in
    subst₂ R (get_or_append_left xs (y ∷ []) x there.0 less ∙ there.2) (get_or_push xs y x (length xs) refl)
    (pairs there.0 (length xs) x less (omega (arith, length-append xs (y ∷ []))))

one_pair : {X : Type 0} (R : X → X → Type 0) (x : X) → AllPairs R (x ∷ [])
one_pair R x i j d below less = let both : i < j = below in let end : j < 1 = less in absurd (omega (arith, both, end))

no_pair : {X : Type 0} (R : X → X → Type 0) → AllPairs R []
no_pair R i j d below less = let end : j < 0 = less in absurd (omega (arith, end))

-- ---- what is told

abbrev AreUnlike : Finding → Finding → Type 0
AreUnlike x y = x.at ≡ y.at → x.number ≡ y.number → ⊥

abbrev damage : Path → ChunkFault → Finding
damage at fault = record { at = at; number = number_of (finding_of fault); fault = Some fault }

abbrev reported : Path → spec.Finding → Option ChunkFault → Reported
reported at finding fault = record { found = record { at = at; finding = finding }; fault = fault }

-- what is told is of one finding
told_once : (root : Path) (x y : Reported) → told root x ≡ told root y → x ≡ y
told_once root x y e =
    let place : x.found.at ≡ y.found.at = append-cancel root x.found.at y.found.at (ap (λ (z : Finding). z.at) e) in
    let finding : x.found.finding ≡ y.found.finding = one_number x.found.finding y.found.finding (ap (λ (z : Finding). z.number) e) in
    let fault : x.fault ≡ y.fault = ap (λ (z : Finding). z.fault) e in
    ap (λ at. reported at x.found.finding x.fault) place ∙ ap (λ kind. reported y.found.at kind x.fault) finding ∙ ap (reported y.found.at y.found.finding) fault

record IsDamage (f : Format) (v : View) (contents : List Path) (z : Finding) : Type 0 where
  pub at : Path
  pub fault : ChunkFault
  pub there : Contains contents at
  pub ends : EndsAs f v at (Faulty fault)
  pub is : z ≡ damage at fault

more_damage : (f : Format) (v : View) (contents : List Path) (last : Path) (z : Finding) → IsDamage f v contents z → IsDamage f v (contents ++ last ∷ []) z
more_damage f v contents last z d = record { at = d.at; fault = d.fault; there = Contains-append_left contents (last ∷ []) d.at d.there; ends = d.ends; is = d.is }

last_damage : (f : Format) (v : View) (contents : List Path) (last : Path) (fault : Option ChunkFault) (z : Finding) → EndsAs f v last (ending_of fault) → Contains (told_damage last fault) z
    → IsDamage f v (contents ++ last ∷ []) z
last_damage f v contents last None z ends there = absurd (none_within z there)
last_damage f v contents last (Some fault) z ends there =
    record { at = last; fault = fault; there = Contains-push contents last; ends = ends; is = sym (only_one (damage last fault) z there) }

-- each is of a content with a fault
damage_from : (f : Format) (v : View) (contents : List Path) (found : List Finding) → TellsDamage f v contents found → (z : Finding) → Contains found z → IsDamage f v contents z
damage_from f v _ _ NoContent z there = absurd (none_within z there)
damage_from f v _ _ (Content last contents fault found before ends) z there = elim (Contains-append_cases found (told_damage last fault) z there) as (λ _. IsDamage f v (contents ++ last ∷ []) z) [
  | inl old ↦ more_damage f v contents last z (damage_from f v contents found before z old)
  | inr new ↦ last_damage f v contents last fault z ends new
]

damage_pairs : (at : Path) (fault : Option ChunkFault) → AllPairs AreUnlike (told_damage at fault)
damage_pairs at None = no_pair AreUnlike
damage_pairs at (Some fault) = one_pair AreUnlike (damage at fault)

damage_place : (at : Path) (fault : Option ChunkFault) (z : Finding) → Contains (told_damage at fault) z → z.at ≡ at
damage_place at None z there = absurd (none_within z there)
damage_place at (Some fault) z there = sym (ap (λ (y : Finding). y.at) (only_one (damage at fault) z there))

-- of different contents
damages_differ : (f : Format) (v : View) (contents : List Path) (found : List Finding) → TellsDamage f v contents found → AllPairs (λ (x y : Path). path_cmp x y ≡ Less) contents → AllPairs AreUnlike found
damages_differ f v _ _ NoContent ordered = no_pair AreUnlike
damages_differ f v _ _ (Content last contents fault found before ends) ordered =
    pairs_append AreUnlike found (told_damage last fault)
    (damages_differ f v contents found before (front_pairs (λ (x y : Path). path_cmp x y ≡ Less) contents last ordered))
    (damage_pairs last fault)
    (λ x y one two at number.
    let d = damage_from f v contents found before x one in
    let same : d.at ≡ last = sym (ap (λ (z : Finding). z.at) d.is) ∙ at ∙ damage_place last fault y two in
    let less : path_cmp d.at last ≡ Less = last_pairs (λ (x y : Path). path_cmp x y ≡ Less) contents last d.at ordered d.there in
    let clash : Equal ≡ Less = sym (path_tied last) ∙ ap (λ p. path_cmp p last) (sym same) ∙ less in cc)

-- ---- both together

unlike_behind : (root : Path) (x y : FoundAt) → Precedes x y → AreUnlike (walk.told root x) (walk.told root y)
unlike_behind root x y (ByPath less) = λ at number.
    let same : x.at ≡ y.at = append-cancel root x.at y.at at in
    let clash : Equal ≡ Less = sym (path_tied y.at) ∙ ap (λ p. path_cmp p y.at) (sym same) ∙ less in cc
unlike_behind root x y (ByNumber same less) = λ at number. omega (arith, less, number)

precedes_by : (root : Path) (x y : Reported) → finding_cmp (told root x) (told root y) ≡ Less → Precedes x.found y.found
precedes_by root x y less = by_order (path_cmp x.found.at y.found.at) refl
  where
    whole : ordering_then (path_cmp x.found.at y.found.at) (nat_cmp (number_of x.found.finding) (number_of y.found.finding)) ≡ Less
    whole = ap (λ o. ordering_then o (nat_cmp (number_of x.found.finding) (number_of y.found.finding))) (sym (path_cmp-behind root x.found.at y.found.at)) ∙ less

    by_order : (o : Ordering) → path_cmp x.found.at y.found.at ≡ o → Precedes x.found y.found
    by_order Less e = ByPath e
    by_order Equal e =
        ByNumber (exact_paths x.found.at y.found.at e)
        (number_less (number_of x.found.finding) (number_of y.found.finding)
        (ap (λ o. ordering_then o (nat_cmp (number_of x.found.finding) (number_of y.found.finding))) (sym e) ∙ whole))
    by_order Greater e = absurd (let clash : Greater ≡ Less = ap (λ o. ordering_then o (nat_cmp (number_of x.found.finding) (number_of y.found.finding))) (sym e) ∙ whole in cc)

fault_is : (fault : Option ChunkFault) (other : ChunkFault) → ending_of fault ≡ Faulty other → fault ≡ Some other
fault_is None other e = cc
fault_is (Some fault) other e = let same : fault ≡ other = cc in ap Some same

module _ (root : Path) (f : Format) (v : View) (found : List FoundAt) (are : AreFindings f (under root v) found)
    (contents : List Path) (damaged : List Finding) (tells : TellsDamage f v contents damaged)
    (from_content : (q : Path) → Contains contents q → (at : Path) × IsContentIn f (under root v) at × (q ≡ root ++ at))
    (to_content : (at : Path) → IsContentIn f (under root v) at → Contains contents (root ++ at)) where
  pub all_differ : AllPairs (λ (x y : Path). path_cmp x y ≡ Less) contents → AreDifferent (map (walk.told root) found ++ damaged)
  all_differ ordered =
      pairs_append AreUnlike (map (walk.told root) found) damaged
      (all_pairs_mapped AreUnlike (walk.told root) found (λ i j d below less. unlike_behind root (get_or found i d) (get_or found j d) (are.ordered i j d below less)))
      (damages_differ f v contents damaged tells ordered)
      (λ x y one two at number.
      let from = mapped_from (walk.told root) found x one in
      let d = damage_from f v contents damaged tells y two in
      let same : from.0.finding ≡ finding_of d.fault =
      one_number from.0.finding (finding_of d.fault) (ap (λ (z : Finding). z.number) from.2 ∙ number ∙ ap (λ (z : Finding). z.number) d.is) in
      let of_structure : is_fault_of_structure from.0.finding ≡ true = ((are.findings from.0).0 from.1).0 in
      let clash : true ≡ false = sym of_structure ∙ ap is_fault_of_structure same ∙ of_contents d.fault in cc)

  abbrev IsTellingOf : Finding → Type 0
  IsTellingOf z = (x : Reported) × (told root x ≡ z) × IsReported f (under root v) x

  surveyed_told : (z : Finding) → Contains (map (walk.told root) found) z → IsTellingOf z
  surveyed_told z there =
      let from = mapped_from (walk.told root) found z there in
      (reported from.0.at from.0.finding None, from.2, (are.findings from.0).0 from.1)

  damage_told : (z : Finding) → Contains damaged z → IsTellingOf z
  damage_told z there =
      let d = damage_from f v contents damaged tells z there in
      let place = from_content d.at d.there in
      let content = place.1 in
      let ends = d.ends in (
        reported place.0 (finding_of d.fault) (Some d.fault),
        ap (λ at. damage at d.fault) (sym place.2) ∙ sym d.is,
        (
          refl,
          record {
            dir = content.dir;
            name = content.name;
            reached = content.reached;
            stands = content.stands;
            bytes = ends.0;
            there = ap v (sym place.2) ∙ ends.1;
            faulty = sym (limited_is_whole f.content ends.0 (λ wanting. not_wanting (Some d.fault) (sym ends.2 ∙ wanting))) ∙ ends.2;
          },
        ),
      )

  telling_of : (z : Finding) → Contains (map (walk.told root) found ++ damaged) z → IsTellingOf z
  telling_of z there = elim (Contains-append_cases (map (walk.told root) found) damaged z there) as (λ _. IsTellingOf z) [
    | inl survey ↦ surveyed_told z survey
    | inr damage ↦ damage_told z damage
  ]

  damage_there : (at : Path) (finding : spec.Finding) (fault : ChunkFault) → finding ≡ finding_of fault → IsDamaged f (under root v) at fault → Contains damaged (told root (reported at finding (Some fault)))
  damage_there at finding fault kind is =
      let t = each_told f v contents damaged tells (root ++ at)
      (to_content at (record { dir = is.dir; name = is.name; reached = is.reached; stands = is.stands })) in
      let ends = t.ends in
      let same : FileOf ends.0 ≡ FileOf is.bytes = sym ends.1 ∙ is.there in
      let bytes : ends.0 ≡ is.bytes = cc in
      let whole : (limited_reading f.content ends.0).ending ≡ (readable f.content ends.0).ending =
      limited_is_whole f.content ends.0 (λ wanting. not_wanting t.fault (sym ends.2 ∙ wanting)) in
      let told_fault : t.fault ≡ Some fault =
      fault_is t.fault fault (sym ends.2 ∙ whole ∙ ap (λ b. (readable f.content b).ending) bytes ∙ is.faulty) in
      subst (Contains damaged) (ap (λ kind. told root (reported at kind (Some fault))) (sym kind))
      (t.told (damage (root ++ at) fault) (subst (λ o. Contains (told_damage (root ++ at) o) (damage (root ++ at) fault)) (sym told_fault) (0, omega arith, refl)))

  reported_there : (one : FoundAt) (fault : Option ChunkFault) → IsReportedWith f (under root v) one fault
      → Contains (map (walk.told root) found ++ damaged) (told root (record { found = one; fault = fault }))
  reported_there one None is = Contains-append_left (map (walk.told root) found) damaged (walk.told root one) (contains_mapped (walk.told root) found one ((are.findings one).1 is))
  reported_there one (Some fault) is =
      Contains-append_right (map (walk.told root) found) damaged (told root (record { found = one; fault = Some fault })) (damage_there one.at one.finding fault is.0 is.1)

  pub all_reported : (items : List Finding) → IsPermutation (map (walk.told root) found ++ damaged) items → AreInOrder items
      → (all : List Reported) × AreReported f (under root v) all × (items ≡ map (told root) all)
  all_reported items same ordered =
      (all, record { ordered = in_order; each = λ x. (λ there. reported_in x there, λ is. back x is) }, sym are_told)
    where
      from_items : (z : Finding) → Contains items z → IsTellingOf z
      from_items z there = telling_of z (Contains-permutation items (map (walk.told root) found ++ damaged) z (IsPermutation-sym (map (walk.told root) found ++ damaged) items same) there)

      telling : (all : List Reported) × (map (told root) all ≡ items)
      telling = preimages (told root) items (λ z there. let one = from_items z there in (one.0, one.1))

      all : List Reported
      all = telling.0

      are_told : map (told root) telling.0 ≡ items
      are_told = telling.1

      in_order : AllPairs (λ (x y : Reported). Precedes x.found y.found) telling.0
      in_order = λ i j d below less.
          precedes_by root (get_or telling.0 i d) (get_or telling.0 j d)
          (pairs_from_mapped (λ (x y : Finding). finding_cmp x y ≡ Less) (told root) telling.0 (subst AreInOrder (sym are_told) ordered) i j d below less)

      reported_in : (x : Reported) → Contains telling.0 x → IsReported f (under root v) x
      reported_in x there =
          let one = from_items (told root x) (subst (λ zs. Contains zs (told root x)) are_told (contains_mapped (told root) telling.0 x there)) in
          subst (IsReported f (under root v)) (told_once root one.0 x one.1) one.2

      back : (x : Reported) → IsReported f (under root v) x → Contains telling.0 x
      back x is =
          let there : Contains items (told root x) =
          Contains-permutation (map (walk.told root) found ++ damaged) items (told root x) same (reported_there x.found x.fault is) in
          let from = mapped_from (told root) telling.0 (told root x) (subst (λ zs. Contains zs (told root x)) (sym are_told) there) in
          subst (Contains telling.0) (told_once root from.0 x from.2) from.1
