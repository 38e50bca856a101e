-- What reading the contents of a vault tells of it.
use Rattle.std.proofs.Common.{◌≡◌, ◌≢◌, ◌⊎◌, inl, inr, ℕ, ◌<◌, length, take, get_or, get_or-take, AllPairs, List, [], ◌∷◌, ◌++◌, map, Option, Some, None, Contains, sym, ap, ◌∙◌, subst, arith}
use Rattle.std.specs.List.{filter_map}
use Rattle.std.specs.Ordering.{ordering_reverse}
use Rattle.std.specs.Cmp.Lexicographic.{lists_total, nat_list_cmp_total}
use Rattle.std.specs.declared.cmp.Ordering.TheVariants.{Less, Equal, Greater}
use Rattle.std.proofs.lemmas.Bool.{cases_order}
use Rattle.std.proofs.lemmas.Cmp.{tied_itself}
use Rattle.std.proofs.lemmas.List.{get_or_default, length-take-le}
use Rattle.std.proofs.lemmas.List.Elements.{Contains-append_left, Contains-append_right, Contains-push_cases}
use Rattle.chunk_files.specs.declared.fault.ChunkFault.{ChunkFault}
use Rattle.chunk_files.specs.Reading.{Wanting}
use Rattle.folder_model.specs.Order.{path_cmp}
use Rattle.folder_spec.specs.Path.{Path}
use Rattle.folder_spec.specs.Seen.{ShowsFile, under}
use Rattle.folder_spec.specs.View.{View, FileOf}
use Rattle.plain_tree.specs.Names as plain
use Rattle.vault_spec.specs.Format.{Format, Directory}
use Rattle.vault_spec.specs.Plan.{Planned, StandsBelow}
use Rattle.vault_spec.specs.Reached.{Leads}
use Rattle.vault_spec.specs.Standing.{File, standing, standing_in}
use Rattle.vault_walk.specs.Survey.{HasEachOnce}
use Rattle.vault_walk.specs.Surveyed.{placed}
use Rattle.vault_read.specs.Contents.{limited_reading}
use Rattle.vault_walk.specs.declared.fault.Finding.{Finding}
use Rattle.vault_check.specs.Checking.{IsTooLong, NamesTooLong}
use Rattle.vault_check.specs.Contents.{AreContentsOf, EndsAs, EndsFirst, TellsDamage, NoContent, Content, content_of, ending_of, told_damage}
use Rattle.vault_check.proofs.Contained.{none_within}
use Rattle.vault_check.proofs.Planned.{content_stands, content_within, content_listed}
use Rattle.vault_check.proofs.ReadFronts.{wanting_longer}
use Rattle.std.proofs.lemmas.Bool.Decides.{nat_tests}

-- each content was read to its end or its fault, which is told
pub record IsTold (f : Format) (v : View) (found : List Finding) (at : Path) : Type 0 where
  pub fault : Option ChunkFault
  pub ends : EndsAs f v at (ending_of fault)
  pub told : (z : Finding) → Contains (told_damage at fault) z → Contains found z

more_told : (f : Format) (v : View) (found new : List Finding) (at : Path) → IsTold f v found at → IsTold f v (found ++ new) at
more_told f v found new at t = record { fault = t.fault; ends = t.ends; told = λ z there. Contains-append_left found new z (t.told z there) }

pub each_told : (f : Format) (v : View) (contents : List Path) (found : List Finding) → TellsDamage f v contents found → (at : Path) → Contains contents at → IsTold f v found at
each_told f v _ _ NoContent at there = absurd (none_within at there)
each_told f v _ _ (Content last contents fault found before ends) at there = elim (Contains-push_cases contents last at there) as (λ _. IsTold f v (found ++ told_damage last fault) at) [
  | inl old ↦ more_told f v found (told_damage last fault) at (each_told f v contents found before at old)
  | inr same ↦ subst (IsTold f v (found ++ told_damage last fault)) same (record { fault = fault; ends = ends; told = λ z new. Contains-append_right found (told_damage last fault) z new })
]

pub not_wanting : (fault : Option ChunkFault) → ending_of fault ≢ Wanting
not_wanting None e = cc
not_wanting (Some fault) e = cc

-- of two contents in order the lesser one comes before the other
comes_before : (contents : List Path) → AllPairs (λ (x y : Path). path_cmp x y ≡ Less) contents → (k : ℕ) (at other : Path) → k < length contents → at ≡ get_or contents k at
    → Contains contents other → path_cmp other at ≡ Less → Contains (take k contents) other
comes_before contents ordered k at other inside is there less = by (cases_order there.0 k)
  where
    within : there.0 < length contents
    within = there.1

    at_j : other ≡ get_or contents there.0 at
    at_j = sym there.2 ∙ get_or_default contents there.0 other at within

    never : Less ≢ Equal
    never e = cc e

    never_turned : Less ≢ Greater
    never_turned e = cc e

    by : (there.0 ≡ k) ⊎ ((there.0 < k) ⊎ (k < there.0)) → Contains (take k contents) other
    by (inl same) =
        let one : other ≡ at = at_j ∙ ap (λ n. get_or contents n at) same ∙ sym is in
        absurd (never (sym less ∙ ap (path_cmp other) (sym one) ∙ tied_itself (lists_total nat_list_cmp_total) other))
    by (inr (inl lower)) =
        let size : length (take k contents) ≡ k = length-take-le k contents (omega (arith, inside)) in
        (there.0, omega (arith, lower, size), get_or-take k contents there.0 other lower ∙ there.2)
    by (inr (inr higher)) =
        let later : path_cmp at other ≡ Less = ap (λ p. path_cmp p other) is ∙ ap (path_cmp (get_or contents k at)) at_j ∙ ordered k there.0 at higher within in
        absurd (never_turned (sym less ∙ (lists_total nat_list_cmp_total).antisymm other at ∙ ap ordering_reverse later))

-- reading none of them ended at the limit
pub ended_otherwise : (f : Format) (v : View) (contents : List Path) (found : List Finding) → TellsDamage f v contents found → (at : Path) → Contains contents at → ¬ EndsAs f v at Wanting
ended_otherwise f v contents found tells at there wanting =
    let told = each_told f v contents found tells at there in
    let ends = told.ends in
    let same : FileOf ends.0 ≡ FileOf wanting.0 = sym ends.1 ∙ wanting.1 in
    let bytes : ends.0 ≡ wanting.0 = cc in
    not_wanting told.fault (sym ends.2 ∙ ap (λ b. (limited_reading f.content b).ending) bytes ∙ wanting.2)

module _ (root : Path) (f : Format) (v : View) (plan : List Planned) (items : List Planned) (once : HasEachOnce f (under root v) plan) (are : items ≡ map (placed root) plan)
    (contents : List Path) (of_items : AreContentsOf items contents) where
  in_plan : (q : Path) → Contains contents q → Contains (filter_map content_of (map (placed root) plan)) q
  in_plan q there = subst (λ xs. Contains (filter_map content_of xs) q) are ((of_items.each q).0 there)

  pub contents_there : ((path : plain.Path) (at : Path) → standing f (under root v) path ≡ File at → ShowsFile (under root v) at) → (q : Path) → Contains contents q → ShowsFile v q
  contents_there law q there =
      let k = content_stands root f (under root v) plan once q (in_plan q there) in
      subst (ShowsFile v) (sym k.4) (law k.0 k.1 k.3)

  long_listed : ((front : plain.Path) (dir : Directory) (name : List ℕ) → Leads f (under root v) front dir → standing f (under root v) (front ++ name ∷ []) ≡ standing_in f (under root v) dir name)
      → (at : Path) → IsTooLong f (under root v) at → Contains contents (root ++ at)
  long_listed law at long =
      (of_items.each (root ++ at)).1 (subst (λ xs. Contains (filter_map content_of xs) (root ++ at)) (sym are)
      (content_listed root f (under root v) plan once at (record { dir = long.dir; name = long.name; reached = long.reached; stands = long.stands }) law))

  pub none_too_long : ((front : plain.Path) (dir : Directory) (name : List ℕ) → Leads f (under root v) front dir → standing f (under root v) (front ++ name ∷ []) ≡ standing_in f (under root v) dir name)
      → (found : List Finding) → TellsDamage f v contents found → (at : Path) → ¬ IsTooLong f (under root v) at
  none_too_long law found tells at long = ended_otherwise f v contents found tells (root ++ at) (long_listed law at long) (long.bytes, long.there, long.faultless)

  pub too_long : ((path : plain.Path) → path ≢ [] → (at : Path) → standing f (under root v) path ≡ File at → StandsBelow f (under root v) path)
      → ((front : plain.Path) (dir : Directory) (name : List ℕ) → Leads f (under root v) front dir → standing f (under root v) (front ++ name ∷ []) ≡ standing_in f (under root v) dir name)
      → (q : Path) → EndsFirst f v contents q → NamesTooLong root f (under root v) q
  too_long law listed q e =
      let ends = e.ends in
      let k = content_within root f (under root v) plan once law q (in_plan q (e.place, e.inside, sym e.is)) in
      record {
        at = k.0;
        place = k.2;
        is = record {
          dir = k.1.dir;
          name = k.1.name;
          reached = k.1.reached;
          stands = k.1.stands;
          bytes = ends.0;
          there = ap v (sym k.2) ∙ ends.1;
          longer = (let test = wanting_longer f.content ends.0 ends.2 in grind (arith, nat_tests));
          faultless = ends.2;
        };
        first = λ other long less.
            e.before (root ++ other) (comes_before contents of_items.ordered e.place q (root ++ other) e.inside e.is (long_listed listed other long) less) (long.bytes, long.there, long.faultless);
      }
