-- A walk by levels goes through each directory once, by a shortest way.
use Rattle.std.proofs.Common.{◌≡◌, ◌≢◌, ◌⊎◌, ◌<◌, ◌≤◌, ◌+◌, ℕ, zero, suc, List, [], ◌∷◌, ◌++◌, Ok, Err, refl, sym, ap, ◌∙◌, Some, inl, inr, subst, length, length-append, arith, append-nil, Contains, ⊎_elim}
use Rattle.std.proofs.lemmas.List.Elements.{Contains-append_left, Contains-append_cases}
use Rattle.folder_spec.specs.Path.{Path, child}
use Rattle.folder_spec.specs.View.{View}
use Rattle.folder_spec.proofs.Paths.{base_or_child, child-not_base, child-injective, child-last}
use Rattle.plain_tree.specs.Names as plain
use Rattle.vault_spec.specs.Format.{Format, Directory}
use Rattle.vault_spec.specs.Alike.{place_of}
use Rattle.vault_spec.specs.Plan.{StandsBelow}
use Rattle.vault_spec.specs.Reached.{Leads, IsReachedIn}
use Rattle.vault_spec.specs.Standing.{Dir, root_of, standing, standing_in}
use Rattle.vault_spec.specs.declared.Lack.{Lack}
use Rattle.vault_walk.specs.Walking.{Way, IsAmong, IsLeast, IsWalked, HasGrown}

-- what stands in a directory stands behind the path to it; and a path of one name more leads through a directory
abbrev pub StandBehind : Type 0
StandBehind = (f : Format) (v : View) (front : plain.Path) (dir : Directory) (name : List ℕ) → Leads f v front dir → standing f v (front ++ name ∷ []) ≡ standing_in f v dir name

abbrev pub StandBelow : Type 0
StandBelow = (f : Format) (v : View) (path : plain.Path) (at : Path) → path ≢ [] → place_of (standing f v path) ≡ Some at → StandsBelow f v path

pub record LeadsThrough (f : Format) (v : View) (front : plain.Path) (name : List ℕ) (dir : Directory) : Type 0 where
  pub parent : Directory
  pub at : Path
  pub leads : Leads f v front parent
  pub stands : standing_in f v parent name ≡ Dir at (Ok dir)

abbrev pub LeadThrough : Type 0
LeadThrough = (f : Format) (v : View) (front : plain.Path) (name : List ℕ) (dir : Directory) → Leads f v (front ++ name ∷ []) dir → LeadsThrough f v front name dir

-- what is among the first is among all
among_first : (xs ys : List Way) (dir : Directory) → IsAmong xs dir → IsAmong (xs ++ ys) dir
among_first xs ys dir a = (a.0, Contains-append_left xs ys a.0 a.1, a.2)

none_among : (dir : Directory) → IsAmong [] dir → ⊥
none_among dir a = let none : a.1.0 < 0 = a.1.1 in omega (arith, none)

none_contained : (way : Way) → Contains [] way → ⊥
none_contained way a = let none : a.0 < 0 = a.1 in omega (arith, none)

-- a directory leads on
pub leads_on : StandBehind → (f : Format) (v : View) (path : plain.Path) (parent dir : Directory) (name : List ℕ) (at : Path) → Leads f v path parent → standing_in f v parent name ≡ Dir at (Ok dir) → Leads f v (path ++ name ∷ []) dir
leads_on behind f v path parent dir name at leads stands = record { at = at; stands = behind f v path parent name leads ∙ stands }

one_more : (path : plain.Path) (name : List ℕ) → length (path ++ name ∷ []) ≡ length path + 1
one_more path name = length-append path (name ∷ [])

-- what leads on leads through a directory
pub lead_through : StandBelow → LeadThrough
lead_through below f v front name dir leads =
    let up : StandsBelow f v (front ++ name ∷ []) = below f v (front ++ name ∷ []) leads.at (child-not_base front name) (ap place_of leads.stands) in
    let both : (front ≡ up.front) × (name ≡ up.name) = (child-injective front up.front name up.name up.is, child-last up.front name up.name (ap (λ p. child p name) (sym (child-injective front up.front name up.name up.is)) ∙ up.is)) in
    record {
      parent = up.dir;
      at = leads.at;
      leads = subst (λ p. Leads f v p up.dir) (sym both.0) up.leads;
      stands = ap (standing_in f v up.dir) both.1 ∙ up.stands ∙ leads.stands;
    }

-- at first the root waits alone, where it is entered
no_names : (path : plain.Path) → length path ≤ 0 → path ≡ []
no_names [] short = refl
no_names (name ∷ path) short = let less : suc (length path) ≤ 0 = short in absurd (omega (arith, less))

one_alone : (way x : Way) → Contains (way ∷ []) x → way ≡ x
one_alone way x (zero, less, is) = is
one_alone way x (suc k, less, is) = let none : suc k < suc 0 = less in absurd (omega (arith, none))

pub walk_begins : (f : Format) (v : View) (top : Directory) → root_of f v ≡ Dir [] (Ok top) → IsWalked f v zero [] (record { path = []; dir = top } ∷ [])
walk_begins f v top root = record {
  leads = λ way found. subst (λ w. Leads f v w.path w.dir) (one_alone (record { path = []; dir = top }) way found) (record { at = []; stands = root });
  before = λ way found. absurd (none_contained way found);
  level = λ way found. ap (λ (w : Way). length w.path) (sym (one_alone (record { path = []; dir = top }) way found));
  least = λ way found other leads less.
      let size : length way.path ≡ 0 = ap (λ (w : Way). length w.path) (sym (one_alone (record { path = []; dir = top }) way found)) in
      let shorter : length other < length way.path = less in
      omega (arith, size, shorter);
  apart = λ i j d below less. let both : i < j = below in let end : j < 1 = less in absurd (omega (arith, both, end));
  near = λ path dir leads short. (record { path = []; dir = top }, (0, omega arith, refl), the_top dir leads.at (sym root ∙ ap (standing f v) (sym (no_names path short)) ∙ leads.stands));
}
  where
    the_top : (dir : Directory) (at : Path) → Dir [] (Ok top) ≡ Dir at (Ok dir) → top ≡ dir
    the_top dir at e = cc

-- and nobody waits where it isn't
pub walk_never_begins : (f : Format) (v : View) (lack : Lack) → root_of f v ≡ Dir [] (Err lack) → IsWalked f v zero [] []
walk_never_begins f v lack root = record {
  leads = λ way found. absurd (none_contained way found);
  before = λ way found. absurd (none_contained way found);
  level = λ way found. absurd (none_contained way found);
  least = λ way found. absurd (none_contained way found);
  apart = λ i j d below less. let end : j < 0 = less in absurd (omega (arith, end));
  near = λ path dir leads short. absurd (never dir leads.at (sym root ∙ ap (standing f v) (sym (no_names path short)) ∙ leads.stands));
}
  where
    never : (dir : Directory) (at : Path) → Dir [] (Err lack) ≡ Dir at (Ok dir) → ⊥
    never dir at e = cc

-- the end of a path
abbrev ByEnd : plain.Path → Type 0
ByEnd path = (path ≡ []) ⊎ ((front : Path) × (name : List ℕ) × (path ≡ child front name))

-- the next level
pub level_walked : StandBehind → LeadThrough → (f : Format) (v : View) (steps : ℕ) (visits waiting next : List Way) → IsWalked f v steps visits waiting → HasGrown f v steps (visits ++ waiting) waiting next
    → IsWalked f v (suc steps) (visits ++ waiting) next
level_walked behind through f v steps visits waiting next walked grown = record {
  leads = λ way found. ⊎_elim (λ old. walked.leads way old) (λ new. grown.leads way new) (Contains-append_cases (visits ++ waiting) next way found);
  before = λ way found. ⊎_elim (λ old. below_old way old) (λ new. below_new way new) (Contains-append_cases visits waiting way found);
  level = grown.level;
  least = λ way found. ⊎_elim (λ old. walked.least way old) (λ new. least_new way new) (Contains-append_cases (visits ++ waiting) next way found);
  apart = grown.apart;
  near = λ path dir leads short. near path dir leads short (base_or_child path);
}
  where
    below_old : (way : Way) → Contains visits way → length way.path < suc steps
    below_old way old = let less : length way.path < steps = walked.before way old in omega (arith, less)

    below_new : (way : Way) → Contains waiting way → length way.path < suc steps
    below_new way new = let same : length way.path ≡ steps = walked.level way new in omega (arith, same)

    least_new : (way : Way) → Contains next way → IsLeast f v way
    least_new way new other leads less =
        let size : length way.path ≡ suc steps = grown.level way new in
        let short : length other < length way.path = less in
        grown.fresh way new (walked.near other way.dir leads (omega (arith, size, short)))

    near : (path : plain.Path) (dir : Directory) → Leads f v path dir → length path ≤ suc steps → ByEnd path → IsAmong ((visits ++ waiting) ++ next) dir
    near path dir leads short (inl none) =
        let size : length path ≡ 0 = ap length none in
        among_first (visits ++ waiting) next dir (walked.near path dir leads (omega (arith, size)))
    near path dir leads short (inr last) =
        let up : LeadsThrough f v last.0 last.1 dir = through f v last.0 last.1 dir (subst (λ p. Leads f v p dir) last.2 leads) in
        let size : length path ≡ length last.0 + 1 = ap length last.2 ∙ one_more last.0 last.1 in
        let parent : IsAmong (visits ++ waiting) up.parent = walked.near last.0 up.parent up.leads (omega (arith, size, short)) in
        by_parent up.parent last.1 up.at up.stands parent
      where
        by_parent : (up : Directory) (name : List ℕ) (at : Path) → standing_in f v up name ≡ Dir at (Ok dir) → IsAmong (visits ++ waiting) up → IsAmong ((visits ++ waiting) ++ next) dir
        by_parent up name at stands among = ⊎_elim
            (λ old. among_first (visits ++ waiting) next dir (seen_before among.0 (walked.leads among.0 among.1) old (here among.0 among.2)))
            (λ new. grown.covers among.0 new name at dir (here among.0 among.2))
            (Contains-append_cases visits waiting among.0 among.1)
          where
            here : (way : Way) → way.dir ≡ up → standing_in f v way.dir name ≡ Dir at (Ok dir)
            here way same = ap (λ d. standing_in f v d name) same ∙ stands

            seen_before : (way : Way) → Leads f v way.path way.dir → Contains visits way → standing_in f v way.dir name ≡ Dir at (Ok dir) → IsAmong (visits ++ waiting) dir
            seen_before way leads_to old stands_there =
                let less : length way.path < steps = walked.before way old in
                let size : length (way.path ++ name ∷ []) ≡ length way.path + 1 = one_more way.path name in
                walked.near (way.path ++ name ∷ []) dir (leads_on behind f v way.path way.dir dir name at leads_to stands_there) (omega (arith, less, size))

-- where nobody waits, all were visited
abbrev AllVisited : Format → View → List Way → ℕ → Type 0
AllVisited f v visits n = (path : plain.Path) (dir : Directory) → length path ≡ n → Leads f v path dir → IsAmong visits dir

none_waits : (visits : List Way) (dir : Directory) → IsAmong (visits ++ []) dir → IsAmong visits dir
none_waits visits dir = subst (λ ways. IsAmong ways dir) (append-nil visits)

visited_more : StandBehind → LeadThrough → (f : Format) (v : View) (steps : ℕ) (visits : List Way) → IsWalked f v steps visits [] → (n : ℕ) → AllVisited f v visits n → AllVisited f v visits (suc n)
visited_more behind through f v steps visits walked n shorter path dir size leads = by_end (base_or_child path)
  where
    by_way : (up : Directory) (name : List ℕ) (at : Path) → standing_in f v up name ≡ Dir at (Ok dir) → IsAmong visits up → IsAmong visits dir
    by_way up name at stands among =
        let less : length among.0.path < steps = walked.before among.0 among.1 in
        let more : length (among.0.path ++ name ∷ []) ≡ length among.0.path + 1 = one_more among.0.path name in
        none_waits visits dir (walked.near (among.0.path ++ name ∷ []) dir
        (leads_on behind f v among.0.path among.0.dir dir name at (walked.leads among.0 (Contains-append_left visits [] among.0 among.1)) (ap (λ d. standing_in f v d name) among.2 ∙ stands))
        (omega (arith, less, more)))

    by_end : ByEnd path → IsAmong visits dir
    by_end (inl none) = let clash : 0 ≡ suc n = ap length (sym none) ∙ size in absurd (omega (arith, clash))
    by_end (inr last) =
        let up : LeadsThrough f v last.0 last.1 dir = through f v last.0 last.1 dir (subst (λ p. Leads f v p dir) last.2 leads) in
        let sizes : length last.0 + 1 ≡ suc n = sym (one_more last.0 last.1) ∙ ap length (sym last.2) ∙ size in
        by_way up.parent last.1 up.at up.stands (shorter last.0 up.parent (omega (arith, sizes)) up.leads)

root_visited : (f : Format) (v : View) (steps : ℕ) (visits : List Way) → IsWalked f v steps visits [] → AllVisited f v visits zero
root_visited f v steps visits walked path dir size leads = none_waits visits dir (walked.near path dir leads (omega (arith, size)))

all_visited : StandBehind → LeadThrough → (f : Format) (v : View) (steps : ℕ) (visits : List Way) → IsWalked f v steps visits [] → (n : ℕ) → AllVisited f v visits n
all_visited behind through f v steps visits walked zero = root_visited f v steps visits walked
all_visited behind through f v steps visits walked (suc n) = visited_more behind through f v steps visits walked n (all_visited behind through f v steps visits walked n)

pub ended_walk : StandBehind → LeadThrough → (f : Format) (v : View) (steps : ℕ) (visits : List Way) → IsWalked f v steps visits [] → (path : plain.Path) (dir : Directory) → Leads f v path dir → IsAmong visits dir
ended_walk behind through f v steps visits walked path dir leads = all_visited behind through f v steps visits walked (length path) path dir refl leads

-- each way is of the least number of steps
pub way_reached : (f : Format) (v : View) (steps : ℕ) (visits waiting : List Way) → IsWalked f v steps visits waiting → (way : Way) → Contains (visits ++ waiting) way → IsReachedIn f v (length way.path) way.dir
way_reached f v steps visits waiting walked way found = record { path = way.path; leads = walked.leads way found; size = refl; least = walked.least way found }
