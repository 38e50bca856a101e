-- A walk through one level.
use Rattle.std.proofs.Common.{◌≡◌, true, false, nat_eq, nat_le, vec_len, ◌≢◌, ◌⊎◌, ◌↔◌, inl, inr, ℕ, suc, ◌+◌, ◌<◌, ◌≤◌, List, [], ◌∷◌, ◌++◌, map, Ok, refl, sym, ap, ◌∙◌, subst, arith, append-nil, append_assoc, length, length-append, get_or, ⊎_elim}
use Rattle.std.specs.Prelude.{Contains}
use Rattle.std.specs.List.{flat_map}
use Rattle.std.proofs.lemmas.List.{length-map, get_or_append_left, get_or-append-add, get_or_default}
use Rattle.std.proofs.lemmas.List.Elements.{Contains-append_left, Contains-append_right, Contains-append_cases, Contains-push}
use Rattle.std.proofs.lemmas.Bool.Decides.{nat_tests}
use Rattle.folder_spec.specs.Path.{Path}
use Rattle.folder_spec.specs.View.{View}
use Rattle.plain_tree.specs.Names as plain
use Rattle.plain_tree.specs.declared.NodeKind.TheVariants as node
use Rattle.vault_spec.specs.Format.{Format, Directory}
use Rattle.vault_spec.specs.Listing.{node_of}
use Rattle.vault_spec.specs.Reached.{Leads}
use Rattle.vault_spec.specs.Standing.{Dir, standing_in}
use Rattle.vault_spec.specs.Vault.{Vault}
use Rattle.vault_read.specs.Opened.{FitsKey}
use Rattle.vault_walk.specs.Levels.{item_by, ways_by, ways_of, kind_by, Knows, HasGainedMembers, HasJoined, HasSettled, HasVisited, HasGathered, HasWalked, IsAtLevel, IsMet, IsPastLimit, IsTargetAmong, WaysFit}
use Rattle.vault_walk.specs.Report.{standing_by, FitMembers, FitsWhat, IsMember, IsReport}
use Rattle.vault_walk.specs.Survey.{depth_limit, item_limit, HasTooMany}
use Rattle.vault_walk.specs.Walking.{Way, AreApart, AreGathered, HasGrown, HoldsItem, IsAmong, IsLeast, IsWalked}
use Rattle.vault_walk.specs.declared.levels.Walk.{Walk}
use Rattle.vault_walk.specs.declared.report.Lead.TheVariants as lead
use Rattle.vault_walk.specs.declared.report.Member.{Member}
use Rattle.vault_walk.specs.declared.report.Report.{Report}
use Rattle.vault_walk.specs.declared.report.What.{What}
use Rattle.vault_walk.specs.declared.report.What.TheVariants as what
use Rattle.vault_walk.proofs.Counting.{past_limit}
use Rattle.vault_walk.proofs.Flats.{flat_on, flat_back, none_within, only_one}
use Rattle.vault_walk.proofs.Gains.{gained_nothing, none_joined}
use Rattle.vault_walk.proofs.Growing.{growth_begins, growth_visits}
use Rattle.vault_walk.proofs.Visits.{kind_of_member, items_more, found_more, targets_more}
use Rattle.vault_walk.proofs.Walks.{StandBehind, LeadThrough, leads_on, level_walked}

-- a front of what is apart is apart
front_apart : (xs ys : List Way) → AreApart (xs ++ ys) → AreApart xs
front_apart xs ys apart i j d below less =
    let later : i < length xs = omega (arith, below, less) in
    let sizes : length (xs ++ ys) ≡ length xs + length ys = length-append xs ys in
    subst (λ (x : Way). x.dir ≢ (get_or xs j d).dir) (get_or_append_left xs ys d i later)
    (subst (λ (y : Way). (get_or (xs ++ ys) i d).dir ≢ y.dir) (get_or_append_left xs ys d j less) (apart i j d below (omega (arith, less, sizes))))

-- of two parts that are apart none is in both
parts_apart : (xs ys : List Way) → AreApart (xs ++ ys) → (way : Way) → Contains ys way → ¬ IsAmong xs way.dir
parts_apart xs ys apart way there among =
    let sizes : length (xs ++ ys) ≡ length xs + length ys = length-append xs ys in
    let one : among.1.0 < length xs = among.1.1 in
    let two : there.0 < length ys = there.1 in
    let first : get_or (xs ++ ys) among.1.0 way ≡ among.0 = get_or_append_left xs ys way among.1.0 one ∙ get_or_default xs among.1.0 way among.0 one ∙ among.1.2 in
    let last : get_or (xs ++ ys) (length xs + there.0) way ≡ way = get_or-append-add xs ys there.0 way ∙ there.2 in
    apart among.1.0 (length xs + there.0) way (omega (arith, one)) (omega (arith, sizes, two))
    (ap (λ (x : Way). x.dir) first ∙ among.2 ∙ ap (λ (x : Way). x.dir) (sym last))

longer_among : (known next extra later : List Way) (dir : Directory) → later ≡ next ++ extra → IsAmong (known ++ next) dir → IsAmong (known ++ later) dir
longer_among known next extra later dir is a =
    subst (λ ways. IsAmong ways dir) (append_assoc known next extra ∙ ap (λ ws. known ++ ws) (sym is)) (a.0, Contains-append_left (known ++ next) extra a.0 a.1, a.2)

abbrev way_at : plain.Path → Directory → Way
way_at path dir = record { path = path; dir = dir }

-- what a way is that an item gives
way_on : (path : plain.Path) (w : What) (other : Way) → Contains (ways_of path w) other → (other.path ≡ path) × (w ≡ what.Dir (lead.To other.dir))
way_on path what.File other there = absurd (none_within other there)
way_on path (what.Dir lead.NoKey) other there = absurd (none_within other there)
way_on path (what.Dir (lead.NoFolder dir)) other there = absurd (none_within other there)
way_on path (what.Dir (lead.To dir)) other there =
    let same : way_at path dir ≡ other = only_one (way_at path dir) other there in
    (ap (λ (x : Way). x.path) (sym same), ap (λ (x : Way). what.Dir (lead.To x.dir)) same)

-- the keys of what waits now fit
pub fits_more : (vault : Vault) (path : plain.Path) (members : List Member) (walk after : Walk) (next later : List Way) → FitMembers vault members → HasGainedMembers walk after path members next later
    → WaysFit vault next → WaysFit vault later
fits_more vault path members walk after next later fit gained old way there =
    ⊎_elim (old way) new (Contains-append_cases next gained.extra way (subst (λ ws. Contains ws way) gained.later_is there))
  where
    new : Contains gained.extra way → FitsKey vault way.dir.key
    new extra =
        let from : (member : Member) × Contains members member × Contains (ways_by path member) way = flat_on (ways_by path) members way (gained.from way extra) in
        subst (FitsWhat vault) (way_on (path ++ from.0.name ∷ []) from.0.what way from.2).1 (fit from.0 from.1)

module _ (f : Format) (v : View) (way : Way) (report : Report) (is : IsReport f v way.dir report) where
  -- what an item gives that is a directory
  leads_to : StandBehind → Leads f v way.path way.dir → (other : Way) → Contains (flat_map (ways_by way.path) report.members.items) other → Leads f v other.path other.dir × (length other.path ≡ length way.path + 1)
  leads_to behind leads other there =
      let from : (member : Member) × Contains report.members.items member × Contains (ways_by way.path member) other = flat_on (ways_by way.path) report.members.items other there in
      let m : IsMember f v way.dir from.0 = is.sound from.0 from.1 in
      let both = way_on (way.path ++ from.0.name ∷ []) from.0.what other from.2 in
      let stands : standing_in f v way.dir from.0.name ≡ Dir from.0.at (Ok other.dir) = m.stands ∙ ap (standing_by from.0.at) both.1 in (
        subst (λ p. Leads f v p other.dir) (sym both.0) (leads_on behind f v way.path way.dir other.dir from.0.name from.0.at leads stands),
        ap length both.0 ∙ length-append way.path (from.0.name ∷ []),
      )

  -- and all that stand there are given
  all_led : (name : List ℕ) (at : Path) (dir : Directory) → standing_in f v way.dir name ≡ Dir at (Ok dir) → IsAmong (flat_map (ways_by way.path) report.members.items) dir
  all_led name at dir stands =
      let found : (member : Member) × Contains report.members.items member × (member.name ≡ name) = is.complete name node.Dir (ap node_of stands) in
      let m : IsMember f v way.dir found.0 = is.sound found.0 found.1 in
      let path = way.path ++ found.0.name ∷ [] in (
        way_at path dir,
        flat_back (ways_by way.path) report.members.items found.0 (way_at path dir) found.1
            (by_what path found.0.at found.0.what (sym m.stands ∙ ap (standing_in f v way.dir) found.2 ∙ stands)),
        refl,
      )
    where
      by_what : (path : plain.Path) (place : Path) (w : What) → standing_by place w ≡ Dir at (Ok dir) → Contains (ways_of path w) (way_at path dir)
      by_what path place what.File e = cc
      by_what path place (what.Dir lead.NoKey) e = cc
      by_what path place (what.Dir (lead.NoFolder other)) e = cc
      by_what path place (what.Dir (lead.To other)) e = let same : other ≡ dir = cc in (0, omega arith, ap (way_at path) same)

  module _ (steps : ℕ) (before level visited rest : List Way) (walk : Walk) (next : List Way) (split : level ≡ visited ++ way ∷ rest) (at : IsAtLevel f v steps before level visited walk next) where
    whole : (walk.visits.items ++ way ∷ []) ++ rest ≡ before ++ level
    whole =
        ap (λ ws. (ws ++ way ∷ []) ++ rest) at.visits ∙ append_assoc (before ++ visited) (way ∷ []) rest ∙ append_assoc before visited (way ∷ rest)
        ∙ ap (λ ws. before ++ ws) (sym split)

    in_level : (w : Way) → Contains (walk.visits.items ++ way ∷ []) w → Contains (before ++ level) w
    in_level w there = subst (λ ws. Contains ws w) whole (Contains-append_left (walk.visits.items ++ way ∷ []) rest w there)

    all_lead : (w : Way) → Contains (walk.visits.items ++ way ∷ []) w → Leads f v w.path w.dir
    all_lead w there = at.begun.leads w (in_level w there)

    all_apart : AreApart (walk.visits.items ++ way ∷ [])
    all_apart = front_apart (walk.visits.items ++ way ∷ []) rest (subst AreApart (sym whole) at.begun.apart)

    way_waits : Contains level way
    way_waits = subst (λ ws. Contains ws way) (append_assoc visited (way ∷ []) rest ∙ sym split) (Contains-append_left (visited ++ way ∷ []) rest way (Contains-push visited way))

    way_leads : Leads f v way.path way.dir
    way_leads = at.begun.leads way (Contains-append_right before level way way_waits)

    gathered : AreGathered f v (walk.visits.items ++ way ∷ []) (walk.items.items ++ map (item_by way.path) report.members.items)
    gathered = items_more f v way report is walk.visits.items walk.items.items all_lead all_apart at.tells.items

    -- more items than a vault may have
    pub level_past : steps < depth_limit → IsPastLimit walk report → HasTooMany f v
    level_past below past =
        let sizes : length (walk.items.items ++ map (item_by way.path) report.members.items) ≡ length walk.items.items + length (map (item_by way.path) report.members.items)
        = length-append walk.items.items (map (item_by way.path) report.members.items) in
        let each : length (map (item_by way.path) report.members.items) ≡ length report.members.items = length-map report.members.items (item_by way.path) in
        let more : item_limit < length walk.items.items + length report.members.items = past in
        past_limit f v (walk.visits.items ++ way ∷ []) (walk.items.items ++ map (item_by way.path) report.members.items)
        (record { leads = all_lead; apart = all_apart; sound = gathered.sound; paths = gathered.apart }) near (subst (λ n. item_limit < n) (sym (sizes ∙ ap (λ n. length walk.items.items + n) each)) more)
      where
        near : (w : Way) → Contains (walk.visits.items ++ way ∷ []) w → IsLeast f v w × (length w.path < depth_limit)
        near w there = (
          at.begun.least w (in_level w there),
          ⊎_elim
              (λ old. let less : length w.path < steps = at.begun.before w old in let bound : steps < depth_limit = below in omega (arith, less, bound))
              (λ here. subst (λ n. n < depth_limit) (sym (at.begun.level w here)) below)
              (Contains-append_cases before level w (in_level w there)),
        )

    module _ (behind : StandBehind) (after : Walk) (later : List Way) (v' : HasVisited walk after way report next later) where
      joined : HasJoined v'.between.seen (before ++ level) next (flat_map (ways_by way.path) report.members.items) later
      joined = v'.gained.joins (before ++ level) at.knows

      later_apart : AreApart ((before ++ level) ++ later)
      later_apart = joined.apart at.grown.apart

      old_or_new : (w : Way) → Contains later w → Contains next w ⊎ Contains (flat_map (ways_by way.path) report.members.items) w
      old_or_new w there = ⊎_elim
          (λ old. inl old)
          (λ new. inr (v'.gained.from w new))
          (Contains-append_cases next v'.gained.extra w (subst (λ ws. Contains ws w) v'.gained.later_is there))

      grown : HasGrown f v steps (before ++ level) visited later
      grown = record {
        leads = λ w there. ⊎_elim (at.grown.leads w) (λ new. (leads_to behind way_leads w new).0) (old_or_new w there);
        level = λ w there. ⊎_elim
            (at.grown.level w)
            (λ new. let one : length w.path ≡ length way.path + 1 = (leads_to behind way_leads w new).1 in
            let here : length way.path ≡ steps = at.begun.level way way_waits in
            let size : length w.path ≡ suc steps = omega (arith, one, here) in size)
            (old_or_new w there);
        fresh = λ w there among. parts_apart (before ++ level) later later_apart w there among;
        apart = later_apart;
        covers = λ w there name place dir stands. longer_among (before ++ level) next v'.gained.extra later dir v'.gained.later_is (at.grown.covers w there name place dir stands);
      }

      all_known : (name : List ℕ) (place : Path) (dir : Directory) → standing_in f v way.dir name ≡ Dir place (Ok dir) → IsAmong ((before ++ level) ++ later) dir
      all_known name place dir stands =
          let led : IsAmong (flat_map (ways_by way.path) report.members.items) dir = all_led name place dir stands in
          subst (IsAmong ((before ++ level) ++ later)) led.2 (joined.covers led.0 led.1)

      visits_are : after.visits.items ≡ walk.visits.items ++ way ∷ []
      visits_are = v'.settled.visits_are ∙ ap (λ ws. ws ++ way ∷ []) v'.gained.visits_stay

      tells : HasGathered f v after
      tells = record {
        items = subst (λ ws. AreGathered f v ws after.items.items) (sym visits_are)
            (subst (AreGathered f v (walk.visits.items ++ way ∷ [])) (sym (v'.settled.items_stay ∙ v'.gained.items_are)) gathered);
        found = λ x. subst (λ ws. Contains after.found.items x ↔ IsMet f v ws x) (sym visits_are)
            (subst (λ fs. Contains fs x ↔ IsMet f v (walk.visits.items ++ way ∷ []) x) (sym (v'.settled.found_are ∙ ap (λ fs. fs ++ report.found.items) v'.gained.found_stay))
            (found_more f v way report is walk.visits.items walk.found.items at.tells.found x));
        targets = λ t. subst (λ ws. Contains after.targets.items t ↔ IsTargetAmong f v ws t) (sym visits_are)
            (subst (λ ts. Contains ts t ↔ IsTargetAmong f v (walk.visits.items ++ way ∷ []) t) (sym (v'.settled.targets_stay ∙ v'.gained.targets_are))
            (targets_more f v way report is walk.visits.items walk.targets.items at.tells.targets t));
      }

      -- one directory of the level more was visited
      pub level_visited : IsAtLevel f v steps before level (visited ++ way ∷ []) after later
      level_visited = record {
        begun = at.begun;
        visits = visits_are ∙ ap (λ ws. ws ++ way ∷ []) at.visits ∙ append_assoc before visited (way ∷ []);
        grown = growth_visits f v steps (before ++ level) visited later way grown all_known;
        knows = (none_joined v'.between.seen after.seen (before ++ level) later v'.settled.seen_stays joined.knows).knows;
        tells = tells;
      }

-- a level begins
pub level_begins : (f : Format) (v : View) (steps : ℕ) (walk : Walk) (waiting : List Way) → HasWalked f v steps walk waiting → IsAtLevel f v steps walk.visits.items waiting [] walk []
level_begins f v steps walk waiting h = record {
  begun = h.walked;
  visits = sym (append-nil walk.visits.items);
  grown = growth_begins f v steps (walk.visits.items ++ waiting) h.walked.apart;
  knows = subst (Knows walk.seen) (sym (append-nil (walk.visits.items ++ waiting))) h.knows;
  tells = h.tells;
}

-- and ends, where all of it were visited
pub level_ends : StandBehind → LeadThrough → (f : Format) (v : View) (steps : ℕ) (before level : List Way) (walk : Walk) (next : List Way) → IsAtLevel f v steps before level level walk next → HasWalked f v (suc steps) walk next
level_ends behind through f v steps before level walk next at = record {
  walked = subst (λ vs. IsWalked f v (suc steps) vs next) (sym at.visits) (level_walked behind through f v steps before level next at.begun at.grown);
  knows = subst (λ vs. Knows walk.seen (vs ++ next)) (sym at.visits) at.knows;
  tells = at.tells;
}

-- a directory without items was visited
pub settled_visited : (walk after : Walk) (way : Way) (report : Report) (next : List Way) → HasSettled walk after way report.found.items → report.members.items ≡ [] → HasVisited walk after way report next next
settled_visited walk after way report next settled none = record {
  between = walk;
  gained = subst (λ ms. HasGainedMembers walk walk way.path ms next next) (sym none) (gained_nothing walk next);
  settled = settled;
}

-- what comes next is one of all
pub split_among : (level visited rest : List Way) (way : Way) → level ≡ visited ++ way ∷ rest → Contains level way
split_among level visited rest way split =
    subst (λ ws. Contains ws way) (append_assoc visited (way ∷ []) rest ∙ sym split) (Contains-append_left (visited ++ way ∷ []) rest way (Contains-push visited way))

pub no_members : (report : Report) → nat_eq (vec_len report.members) 0 ≡ true → report.members.items ≡ []
no_members report e = by_list report.members.items (sym report.members.ok.0 ∙ same (vec_len report.members) e)
  where
    same : (n : ℕ) → nat_eq n 0 ≡ true → n ≡ 0
    same n is = grind (arith, nat_tests)

    by_list : (ms : List Member) → length ms ≡ 0 → ms ≡ []
    by_list [] none = refl
    by_list (m ∷ ms) none = absurd (let some : suc (length ms) ≡ 0 = none in omega (arith, some))

pub some_members : (report : Report) → nat_eq (vec_len report.members) 0 ≡ false → 0 < length report.members.items
some_members report e = subst (λ n. 0 < n) report.members.ok.0 (more (vec_len report.members) e)
  where
    more : (n : ℕ) → nat_eq n 0 ≡ false → 0 < n
    more n is = grind (arith, nat_tests)

-- a directory without members holds no item
pub holds_none : (f : Format) (v : View) (way : Way) (report : Report) → IsReport f v way.dir report → report.members.items ≡ [] → ¬ HoldsItem f v way
holds_none f v way report is none holds =
    let found = is.complete holds.0 holds.1 holds.2 in none_within found.0 (subst (λ ms. Contains ms found.0) none found.1)

pub holds_some : (f : Format) (v : View) (way : Way) (report : Report) → IsReport f v way.dir report → 0 < length report.members.items → HoldsItem f v way
holds_some f v way report is some = by_list report.members.items refl some
  where
    held : (member : Member) → IsMember f v way.dir member → HoldsItem f v way
    held member m = (member.name, kind_by member.what, ap node_of m.stands ∙ kind_of_member member.at member.what)

    by_list : (ms : List Member) → report.members.items ≡ ms → 0 < length ms → HoldsItem f v way
    by_list [] same none = absurd (omega (arith, none))
    by_list (m ∷ ms) same more = held m (is.sound m (subst (λ xs. Contains xs m) (sym same) (0, omega arith, refl)))

-- where there is no room, there would be more items than a vault may have
pub past_room : (walk : Walk) (report : Report) (more : ℕ) → nat_le (length walk.items.items + more) item_limit ≡ false → more ≡ vec_len report.members → IsPastLimit walk report
past_room walk report more none size =
    let sizes : more ≡ length report.members.items = size ∙ report.members.ok.0 in
    let past : item_limit < length walk.items.items + more = over (length walk.items.items + more) item_limit none in
    subst (λ n. item_limit < length walk.items.items + n) sizes past
  where
    over : (n m : ℕ) → nat_le n m ≡ false → m < n
    over n m e = grind (arith, nat_tests)

-- and where it is not past it, the items are few enough after the visit
pub within_room : (walk after : Walk) (way : Way) (report : Report) (next later : List Way) (more : ℕ) → HasVisited walk after way report next later → nat_le (length walk.items.items + more) item_limit ≡ true
    → more ≡ vec_len report.members → length after.items.items ≤ item_limit
within_room walk after way report next later more visited some size =
    let sizes : more ≡ length report.members.items = size ∙ report.members.ok.0 in
    let room : length walk.items.items + more ≤ item_limit = within (length walk.items.items + more) item_limit some in
    let are : after.items.items ≡ walk.items.items ++ map (item_by way.path) report.members.items = visited.settled.items_stay ∙ visited.gained.items_are in
    let whole : length after.items.items ≡ length walk.items.items + length report.members.items
    = ap length are ∙ length-append walk.items.items (map (item_by way.path) report.members.items) ∙ ap (λ n. length walk.items.items + n) (length-map report.members.items (item_by way.path)) in
    subst (λ n. n ≤ item_limit) (sym (whole ∙ ap (λ n. length walk.items.items + n) (sym sizes))) room
  where
    within : (n m : ℕ) → nat_le n m ≡ true → n ≤ m
    within n m e = grind (arith, nat_tests)
