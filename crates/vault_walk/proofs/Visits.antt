-- What a walk has gathered, with one directory more.
use Rattle.std.proofs.Common.{◌≡◌, ◌≢◌, ◌⊎◌, ◌↔◌, inl, inr, ℕ, ◌+◌, ◌<◌, List, [], ◌∷◌, ◌++◌, map, Option, Some, None, Result, Ok, Err, refl, sym, ap, ◌∙◌, subst, arith, length, length-append, get_or, ⊎_elim}
use Rattle.std.specs.Prelude.{AllPairs, Contains}
use Rattle.std.specs.List.{flat_map}
use Rattle.std.specs.Option.{option_map}
use Rattle.std.proofs.lemmas.List.Elements.{Contains-append_left, Contains-append_right, Contains-append_cases, Contains-push, Contains-push_cases}
use Rattle.std.proofs.lemmas.List.{get_or_append_left}
use Rattle.std.proofs.Math.Seq.{get_or-append_seam}
use Rattle.folder_spec.specs.Path.{Path}
use Rattle.folder_spec.specs.Seen.{under}
use Rattle.folder_spec.specs.View.{View}
use Rattle.folder_spec.proofs.Paths.{child-injective, child-last}
use Rattle.plain_tree.specs.Names as plain
use Rattle.plain_tree.specs.declared.NodeKind.{NodeKind}
use Rattle.plain_tree.specs.declared.NodeKind.TheVariants as node
use Rattle.vault_spec.specs.Alike.{place_of}
use Rattle.vault_spec.specs.Format.{Format, Directory, key_of}
use Rattle.vault_spec.specs.Listing.{node_of}
use Rattle.vault_spec.specs.Plan.{Planned}
use Rattle.vault_spec.specs.Reached.{Leads}
use Rattle.vault_spec.specs.Standing.{Dir, standing_in}
use Rattle.vault_spec.specs.declared.Lack.{Lack}
use Rattle.vault_spec.specs.declared.Lack.TheVariants as lacks
use Rattle.vault_walk.specs.Levels.{item_by, kind_by, target_at, targets_by, targets_of, targets_to, IsMet, IsTargetAmong, IsTargetIn}
use Rattle.vault_walk.specs.Report.{lead_of, target_of, standing_by, IsFoundHere, IsLeadOf, IsMember, IsReport, LeadsRight}
use Rattle.vault_walk.specs.Walking.{Way, AreApart, AreGathered, IsItemOf}
use Rattle.vault_walk.specs.declared.found.Found.{Found}
use Rattle.vault_walk.specs.declared.report.Lead.{Lead}
use Rattle.vault_walk.specs.declared.report.Lead.TheVariants as lead
use Rattle.vault_walk.specs.declared.report.Member.{Member}
use Rattle.vault_walk.specs.declared.report.Report.{Report}
use Rattle.vault_walk.specs.declared.report.What.{What}
use Rattle.vault_walk.specs.declared.report.What.TheVariants as what
use Rattle.vault_walk.specs.declared.twice.Target.{Target}
use Rattle.vault_walk.proofs.Flats.{flat_on, flat_back, none_within, only_one}
use Rattle.vault_walk.proofs.Gathered.{one_directory}
use Rattle.vault_spec.proofs.Mapped.{contains_mapped, mapped_from, all_pairs_mapped, pairs_append}

pub kind_of_member : (at : Path) (w : What) → node_of (standing_by at w) ≡ Some (kind_by w)
kind_of_member at what.File = refl
kind_of_member at (what.Dir lead) = refl

place_of_member : (at : Path) (w : What) → place_of (standing_by at w) ≡ Some at
place_of_member at what.File = refl
place_of_member at (what.Dir lead) = refl

planned : plain.Path → NodeKind → Path → Planned
planned path kind at = record { path = path; node = kind; at = at }

some_same : {X : Type 0} (x y : X) → Some x ≡ Some y → x ≡ y
some_same x y e = cc

-- what comes last is of another directory
pushed_apart : (visits : List Way) (way : Way) → AreApart (visits ++ way ∷ []) → (w : Way) → Contains visits w → w.dir ≡ way.dir → ⊥
pushed_apart visits way apart w there same =
    let less : there.0 < length visits = there.1 in
    let sizes : length (visits ++ way ∷ []) ≡ length visits + 1 = length-append visits (way ∷ []) in
    let first : get_or (visits ++ way ∷ []) there.0 w ≡ w = get_or_append_left visits (way ∷ []) w there.0 there.1 ∙ there.2 in
    let last : get_or (visits ++ way ∷ []) (length visits) w ≡ way = get_or-append_seam visits way [] w in
    apart there.0 (length visits) w there.1 (omega (arith, sizes)) (ap (λ (x : Way). x.dir) first ∙ same ∙ ap (λ (x : Way). x.dir) (sym last))

abbrev dir_with : Path → List ℕ → Directory
dir_with folder key = record { folder = folder; key = key }

module _ (f : Format) (v : View) (way : Way) (report : Report) (is : IsReport f v way.dir report) where
  members : List Member
  members = report.members.items

  member_is_item : (member : Member) → IsMember f v way.dir member → IsItemOf f v way (item_by way.path member)
  member_is_item member m = record {
    name = member.name;
    path = refl;
    node = ap node_of m.stands ∙ kind_of_member member.at member.what;
    place = ap place_of m.stands ∙ place_of_member member.at member.what;
  }

  item_is_member : (item : Planned) → IsItemOf f v way item → (member : Member) × Contains report.members.items member × (item_by way.path member ≡ item)
  unfolding planned
  item_is_member item i =
      let found : (member : Member) × Contains report.members.items member × (member.name ≡ i.name) = is.complete i.name item.node i.node in
      let m : IsMember f v way.dir found.0 = is.sound found.0 found.1 in
      let stands : standing_in f v way.dir i.name ≡ standing_by found.0.at found.0.what = ap (standing_in f v way.dir) (sym found.2) ∙ m.stands in
      let kind : kind_by found.0.what ≡ item.node = some_same (kind_by found.0.what) item.node (sym (kind_of_member found.0.at found.0.what) ∙ ap node_of (sym stands) ∙ i.node) in
      let place : found.0.at ≡ item.at = some_same found.0.at item.at (sym (place_of_member found.0.at found.0.what) ∙ ap place_of (sym stands) ∙ i.place) in
      let path : way.path ++ found.0.name ∷ [] ≡ item.path = ap (λ n. way.path ++ n ∷ []) found.2 ∙ sym i.path in (
        found.0,
        found.1,
        ap (λ p. planned p (kind_by found.0.what) found.0.at) path ∙ ap (λ k. planned item.path k found.0.at) kind ∙ ap (planned item.path item.node) place,
      )

  -- the items of the directory
  pub items_more : (visits : List Way) (items : List Planned) → ((w : Way) → Contains (visits ++ way ∷ []) w → Leads f v w.path w.dir) → AreApart (visits ++ way ∷ [])
      → AreGathered f v visits items → AreGathered f v (visits ++ way ∷ []) (items ++ map (item_by way.path) report.members.items)
  items_more visits items leads apart old = record { sound = sound; complete = complete; apart = pairs_append (λ (x y : Planned). x.path ≢ y.path) items (map (item_by way.path) report.members.items) old.apart own cross }
    where
      sound : (item : Planned) → Contains (items ++ map (item_by way.path) report.members.items) item → (w : Way) × Contains (visits ++ way ∷ []) w × IsItemOf f v w item
      sound item there = ⊎_elim
          (λ first. let from = old.sound item first in (from.0, Contains-append_left visits (way ∷ []) from.0 from.1, from.2))
          (λ last.
          let from = mapped_from (item_by way.path) report.members.items item last in
          (way, Contains-push visits way, subst (IsItemOf f v way) from.2 (member_is_item from.0 (is.sound from.0 from.1))))
          (Contains-append_cases items (map (item_by way.path) report.members.items) item there)

      complete : (w : Way) (item : Planned) → Contains (visits ++ way ∷ []) w → IsItemOf f v w item → Contains (items ++ map (item_by way.path) report.members.items) item
      complete w item there of = by_place (Contains-push_cases visits way w there)
        where
          by_place : Contains visits w ⊎ (way ≡ w) → Contains (items ++ map (item_by way.path) report.members.items) item
          by_place (inl first) = Contains-append_left items (map (item_by way.path) report.members.items) item (old.complete w item first of)
          by_place (inr same) =
              let from = item_is_member item (subst (λ x. IsItemOf f v x item) (sym same) of) in
              Contains-append_right items (map (item_by way.path) report.members.items) item
              (subst (Contains (map (item_by way.path) report.members.items)) from.2 (contains_mapped (item_by way.path) report.members.items from.0 from.1))

      own : AllPairs (λ (x y : Planned). x.path ≢ y.path) (map (item_by way.path) report.members.items)
      own = all_pairs_mapped (λ (x y : Planned). x.path ≢ y.path) (item_by way.path) report.members.items
          (λ i j d below less same. is.apart i j d below less (child-last way.path (get_or report.members.items i d).name (get_or report.members.items j d).name same))

      cross : (x y : Planned) → Contains items x → Contains (map (item_by way.path) report.members.items) y → x.path ≢ y.path
      cross x y one two same =
          let from = old.sound x one in
          let member = mapped_from (item_by way.path) report.members.items y two in
          let paths : from.0.path ++ from.2.name ∷ [] ≡ way.path ++ member.0.name ∷ [] = sym from.2.path ∙ same ∙ ap (λ (p : Planned). p.path) (sym member.2) in
          let fronts : from.0.path ≡ way.path = child-injective from.0.path way.path from.2.name member.0.name paths in
          let dirs : from.0.dir ≡ way.dir
          = one_directory f v from.0.path from.0.dir way.dir (leads from.0 (Contains-append_left visits (way ∷ []) from.0 from.1))
          (subst (λ p. Leads f v p way.dir) (sym fronts) (leads way (Contains-push visits way))) in
          pushed_apart visits way apart from.0 from.1 dirs

  -- what is found in the directory
  pub found_more : (visits : List Way) (found : List Found) → ((x : Found) → Contains found x ↔ IsMet f v visits x) → (x : Found) → Contains (found ++ report.found.items) x ↔ IsMet f v (visits ++ way ∷ []) x
  found_more visits found old x = (
    λ there. ⊎_elim (λ first. longer ((old x).0 first)) (λ last. inr (way, Contains-push visits way, (is.found x).0 last)) (Contains-append_cases found report.found.items x there),
    back,
  )
    where
      longer : IsMet f v visits x → IsMet f v (visits ++ way ∷ []) x
      longer (inl root) = inl root
      longer (inr one) = inr (one.0, Contains-append_left visits (way ∷ []) one.0 one.1, one.2)

      by_place : (w : Way) → IsFoundHere f v w.dir x → Contains visits w ⊎ (way ≡ w) → Contains (found ++ report.found.items) x
      by_place w here (inl first) = Contains-append_left found report.found.items x ((old x).1 (inr (w, first, here)))
      by_place w here (inr same) = Contains-append_right found report.found.items x ((is.found x).1 (subst (λ (y : Way). IsFoundHere f v y.dir x) (sym same) here))

      back : IsMet f v (visits ++ way ∷ []) x → Contains (found ++ report.found.items) x
      back (inl root) = Contains-append_left found report.found.items x ((old x).1 (inl root))
      back (inr one) = by_place one.0 one.2 (Contains-push_cases visits way one.0 one.1)

  key_known : (k : Option (List ℕ)) (at : Path) (dir : Directory) → option_map (λ (key : List ℕ). dir_with (f.folder_of at key) key) k ≡ Some dir → (k ≡ Some dir.key) × (f.folder_of at dir.key ≡ dir.folder)
  key_known None at dir e = cc
  key_known (Some key) at dir e =
      let same : dir_with (f.folder_of at key) key ≡ dir = some_same (dir_with (f.folder_of at key) key) dir e in
      let keys : key ≡ dir.key = ap (λ (d : Directory). d.key) same in
      (ap (λ k. Some k) keys, ap (f.folder_of at) (sym keys) ∙ ap (λ (d : Directory). d.folder) same)

  targeted : (name : List ℕ) (at : Path) (directory : Result Directory Lack) (dir : Directory) → standing_in f v way.dir name ≡ Dir at directory
      → (key_of f (under at v) ≡ Some dir.key) × (f.folder_of at dir.key ≡ dir.folder) → IsTargetIn f v way.dir (target_at at dir)
  targeted name at directory dir stands both = record { name = name; directory = directory; stands = stands; key = both.0; folder = both.1 }

  -- a directory item's directory, by where the item leads
  target_is_in : (name : List ℕ) (at : Path) (l : Lead) (target : Target) → standing_in f v way.dir name ≡ Dir at (lead_of l) → IsLeadOf f v at l → Contains (targets_to at l) target → IsTargetIn f v way.dir target
  target_is_in name at lead.NoKey target stands leads there = absurd (none_within target there)
  target_is_in name at (lead.NoFolder dir) target stands leads there =
      let same : target_at at dir ≡ target = only_one (target_at at dir) target there in
      subst (IsTargetIn f v way.dir) same (targeted name at (Err lacks.NoFolder) dir stands (key_known (key_of f (under at v)) at dir leads.target))
  target_is_in name at (lead.To dir) target stands leads there =
      let same : target_at at dir ≡ target = only_one (target_at at dir) target there in
      subst (IsTargetIn f v way.dir) same (targeted name at (Ok dir) dir stands (key_known (key_of f (under at v)) at dir leads.target))

  targets_are_in : (member : Member) (target : Target) → IsMember f v way.dir member → Contains (targets_by member) target → IsTargetIn f v way.dir target
  targets_are_in member target m there = by_what member.at member.what m.stands m.leads there
    where
      by_what : (at : Path) (w : What) → standing_in f v way.dir member.name ≡ standing_by at w → LeadsRight f v at w → Contains (targets_of at w) target → IsTargetIn f v way.dir target
      by_what at what.File stands leads among = absurd (none_within target among)
      by_what at (what.Dir l) stands leads among = target_is_in member.name at l target stands leads among

  one_place : (at place : Path) (one other : Result Directory Lack) → Dir at one ≡ Dir place other → at ≡ place
  one_place at place one other e = cc

  same_target : (at : Path) (dir : Directory) (target : Target) → at ≡ target.at → dir_with (f.folder_of at target.node.key) target.node.key ≡ dir → f.folder_of target.at target.node.key ≡ target.node.folder
      → target_at at dir ≡ target
  same_target at dir target same is folder =
      ap (target_at at) (sym is ∙ ap (λ p. dir_with (f.folder_of p target.node.key) target.node.key) same ∙ ap (λ p. dir_with p target.node.key) folder)
      ∙ ap (λ p. target_at p (dir_with target.node.folder target.node.key)) same

  target_by_lead : (at : Path) (l : Lead) (target : Target) → at ≡ target.at → IsLeadOf f v at l → key_of f (under target.at v) ≡ Some target.node.key → f.folder_of target.at target.node.key ≡ target.node.folder
      → Contains (targets_to at l) target
  target_by_lead at l target same leads key folder = by_lead l (ap (λ p. option_map (λ (k : List ℕ). dir_with (f.folder_of at k) k) (key_of f (under p v))) same) leads.target
    where
      known : option_map (λ (k : List ℕ). dir_with (f.folder_of at k) k) (key_of f (under target.at v)) ≡ Some (dir_with (f.folder_of at target.node.key) target.node.key)
      known = ap (option_map (λ (k : List ℕ). dir_with (f.folder_of at k) k)) key

      there : (dir : Directory) → target_at at dir ≡ target → Contains (target_at at dir ∷ []) target
      there dir is = (0, omega arith, is)

      by_lead : (x : Lead) → option_map (λ (k : List ℕ). dir_with (f.folder_of at k) k) (key_of f (under at v)) ≡ option_map (λ (k : List ℕ). dir_with (f.folder_of at k) k) (key_of f (under target.at v))
          → option_map (λ (k : List ℕ). dir_with (f.folder_of at k) k) (key_of f (under at v)) ≡ target_of x → Contains (targets_to at x) target
      by_lead lead.NoKey here e = let clash : None ≡ Some (dir_with (f.folder_of at target.node.key) target.node.key) = sym e ∙ here ∙ known in cc
      by_lead (lead.NoFolder dir) here e =
          there dir (same_target at dir target same (some_same (dir_with (f.folder_of at target.node.key) target.node.key) dir (sym known ∙ sym here ∙ e)) folder)
      by_lead (lead.To dir) here e = there dir (same_target at dir target same (some_same (dir_with (f.folder_of at target.node.key) target.node.key) dir (sym known ∙ sym here ∙ e)) folder)

  target_back : (target : Target) → IsTargetIn f v way.dir target → Contains (flat_map targets_by report.members.items) target
  target_back target t =
      let found : (member : Member) × Contains report.members.items member × (member.name ≡ t.name) = is.complete t.name node.Dir (ap node_of t.stands) in
      let m : IsMember f v way.dir found.0 = is.sound found.0 found.1 in
      flat_back targets_by report.members.items found.0 target found.1
      (by_what found.0.at found.0.what (sym m.stands ∙ ap (standing_in f v way.dir) found.2 ∙ t.stands) m.leads)
    where
      by_what : (at : Path) (w : What) → standing_by at w ≡ Dir target.at t.directory → LeadsRight f v at w → Contains (targets_of at w) target
      by_what at what.File e leads = cc
      by_what at (what.Dir l) e leads = target_by_lead at l target (one_place at target.at (lead_of l) t.directory e) leads t.key t.folder

  -- the directory items with a key
  pub targets_more : (visits : List Way) (targets : List Target) → ((t : Target) → Contains targets t ↔ IsTargetAmong f v visits t) → (target : Target)
      → Contains (targets ++ flat_map targets_by report.members.items) target ↔ IsTargetAmong f v (visits ++ way ∷ []) target
  targets_more visits targets old target = (
    λ there. ⊎_elim
        (λ first. let one = (old target).0 first in (one.0, Contains-append_left visits (way ∷ []) one.0 one.1, one.2))
        (λ last. let from = flat_on targets_by report.members.items target last in (way, Contains-push visits way, targets_are_in from.0 target (is.sound from.0 from.1) from.2))
        (Contains-append_cases targets (flat_map targets_by report.members.items) target there),
    λ among. by_place among.0 among.2 (Contains-push_cases visits way among.0 among.1),
  )
    where
      by_place : (w : Way) → IsTargetIn f v w.dir target → Contains visits w ⊎ (way ≡ w) → Contains (targets ++ flat_map targets_by report.members.items) target
      by_place w t (inl first) = Contains-append_left targets (flat_map targets_by report.members.items) target ((old target).1 (w, first, t))
      by_place w t (inr same) = Contains-append_right targets (flat_map targets_by report.members.items) target (target_back target (subst (λ (x : Way). IsTargetIn f v x.dir target) (sym same) t))
