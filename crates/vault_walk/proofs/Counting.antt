-- A vault has more items than it may where more were gathered in time, and only there.
use Rattle.std.proofs.Common.{◌≡◌, ◌<◌, ◌≤◌, ◌+◌, ℕ, zero, suc, Bool, true, false, List, [], ◌∷◌, ◌++◌, Some, refl, sym, ap, ◌∙◌, subst, length, arith, nat_lt, remove, Contains, AllPairs, get_or, ⊎_elim}
use Rattle.std.proofs.lemmas.List.{get_or_default}
use Rattle.std.proofs.lemmas.List.Edits.{get_or-remove_below, get_or-remove_above, length-remove}
use Rattle.std.proofs.lemmas.List.Elements.{Contains-append_left, Contains-append_cases}
use Rattle.std.proofs.lemmas.Bool.Decides.{nat_tests}
use Rattle.folder_spec.specs.Path.{Path}
use Rattle.folder_spec.specs.View.{View}
use Rattle.folder_spec.proofs.Paths.{child-injective, child-last}
use Rattle.vault_spec.specs.Alike.{place_of}
use Rattle.vault_spec.specs.Format.{Format, Directory}
use Rattle.vault_spec.specs.Listing.{node_of}
use Rattle.vault_spec.specs.Plan.{Planned}
use Rattle.vault_spec.specs.Reached.{Leads}
use Rattle.vault_spec.specs.Standing.{standing_in}
use Rattle.vault_walk.specs.Survey.{Spot, IsPathOf, AreDifferent, IsNear, HasTooMany, depth_limit, item_limit}
use Rattle.vault_walk.specs.Walking.{Way, IsAmong, IsLeast, IsItemOf, AreItemsOf, IsWalked, AreGathered}
use Rattle.vault_walk.proofs.Gathered.{different, one_directory, has_place}

-- what stands at another place of a list stays where one is taken out
other_stays : {Y : Type 0} (ys : List Y) (i k : ℕ) (d : Y) → i < length ys → k < length ys → (k ≡ i → ⊥) → (j : ℕ) × (j < length (remove ys i)) × (get_or (remove ys i) j d ≡ get_or ys k d)
other_stays {Y} ys i k d at_i at_k apart = by_order (nat_lt k i) refl
  where
    sizes : length (remove ys i) + 1 ≡ length ys
    sizes = length-remove ys i at_i

    by_order : (b : Bool) → nat_lt k i ≡ b → (j : ℕ) × (j < length (remove ys i)) × (get_or (remove ys i) j d ≡ get_or ys k d)
    by_order true less = let below : k < i = grind (arith, nat_tests) in (k, omega (arith, sizes, below, at_i), get_or-remove_below ys i d k below at_i)
    by_order false less = above k refl
      where
        above : (n : ℕ) → k ≡ n → (j : ℕ) × (j < length (remove ys i)) × (get_or (remove ys i) j d ≡ get_or ys k d)
        above zero same = let clash : k ≡ i = grind (arith, nat_tests) in absurd (apart clash)
        above (suc j) same =
            let beyond : i ≤ j = grind (arith, nat_tests) in
            (j, omega (arith, sizes, same, at_k), get_or-remove_above ys i d j beyond at_i ∙ ap (λ n. get_or ys n d) (let next : j + 1 ≡ k = omega (arith, same) in next))

-- A list whose elements go with different elements of another isn't longer.
abbrev GoesWith : {X Y : Type 0} → (X → Y → Type 0) → List X → List Y → Type 0
GoesWith {X} {Y} S xs ys = (x : X) → Contains xs x → (y : Y) × Contains ys y × S x y

abbrev AreTold : {X Y : Type 0} → (X → Y → Type 0) → List X → Type 0
AreTold {X} {Y} S xs = AllPairs (λ (x z : X). (y : Y) → S x y → ¬ S z y) xs

further : {X : Type 0} (x : X) (xs : List X) (z : X) → Contains xs z → Contains (x ∷ xs) z
further x xs z found = (suc found.0, (let less : found.0 < length xs = found.1 in omega (arith, less)), found.2)

rest_told : {X Y : Type 0} (S : X → Y → Type 0) (x : X) (xs : List X) → AreTold S (x ∷ xs) → AreTold S xs
rest_told S x xs told i j d below less =
    let both : i < j = below in
    let end : j < length xs = less in
    told (suc i) (suc j) d (omega (arith, both)) (omega (arith, end))

no_longer : {X Y : Type 0} (S : X → Y → Type 0) (xs : List X) (ys : List Y) → GoesWith S xs ys → AreTold S xs → length xs ≤ length ys
no_longer S [] ys goes told = omega arith
no_longer {X} {Y} S (x ∷ xs) ys goes told =
    let shorter : length xs ≤ length (remove ys first.1.0) = no_longer S xs (remove ys first.1.0) rest (rest_told S x xs told) in
    let sizes : length (remove ys first.1.0) + 1 ≡ length ys = length-remove ys first.1.0 first.1.1 in
    omega (arith, shorter, sizes)
  where
    first : (y : Y) × Contains ys y × S x y
    first = goes x (0, omega arith, refl)

    rest : GoesWith S xs (remove ys first.1.0)
    rest z found =
        let its : (y : Y) × Contains ys y × S z y = goes z (further x xs z found) in
        let there : its.1.0 < length ys = its.1.1 in
        let less : found.0 < length xs = found.1 in
        let apart : (its.1.0 ≡ first.1.0 → ⊥) = λ same.
        told zero (suc found.0) z (omega arith) (omega (arith, less)) first.0 first.2
        (subst (λ w. S w first.0) (sym found.2) (subst (S z) (sym its.1.2 ∙ ap (λ k. get_or ys k its.0) same ∙ get_or_default ys first.1.0 its.0 first.0 first.1.1 ∙ first.1.2) its.2)) in
        let stays : (j : ℕ) × (j < length (remove ys first.1.0)) × (get_or (remove ys first.1.0) j its.0 ≡ get_or ys its.1.0 its.0)
        = other_stays ys first.1.0 its.1.0 its.0 first.1.1 there apart in
        (its.0, (stays.0, stays.1, stays.2 ∙ its.1.2), its.2)

-- two paths are of one item
record IsOne (f : Format) (v : View) (x y : Planned) : Type 0 where
  spot : Spot
  one : IsPathOf f v spot x.path
  two : IsPathOf f v spot y.path

the_spot : Directory → List ℕ → Spot
the_spot dir name = record { dir = dir; name = name }

-- a path is of one item
one_spot : (f : Format) (v : View) (a b : Spot) (y : Planned) → IsPathOf f v a y.path → IsPathOf f v b y.path → a ≡ b
unfolding the_spot
one_spot f v a b y one two = ap (λ d. the_spot d a.name) dirs ∙ ap (the_spot b.dir) names
  where
    paths : one.front ++ a.name ∷ [] ≡ two.front ++ b.name ∷ []
    paths = sym one.is ∙ two.is

    fronts : one.front ≡ two.front
    fronts = child-injective one.front two.front a.name b.name paths

    names : a.name ≡ b.name
    names = child-last two.front a.name b.name (ap (λ p. p ++ a.name ∷ []) (sym fronts) ∙ paths)

    dirs : a.dir ≡ b.dir
    dirs = one_directory f v two.front a.dir b.dir (subst (λ p. Leads f v p a.dir) fronts one.leads) two.leads

are_told : (f : Format) (v : View) (items : List Planned) → AreDifferent f v items → AreTold (IsOne f v) items
are_told f v items apart i j d below less y one two =
    let same : two.spot ≡ one.spot = one_spot f v two.spot one.spot y two.two one.two in
    apart i j d below less one.spot one.one (subst (λ s. IsPathOf f v s (get_or items j d).path) same two.one)

-- where no more were gathered of what is reached in fewer steps, there are no more
pub within_limit : (f : Format) (v : View) (visits waiting : List Way) (plan : List Planned) → IsWalked f v depth_limit visits waiting → AreGathered f v visits plan → length plan ≤ item_limit → ¬ HasTooMany f v
within_limit f v visits waiting plan walked gathered short many =
    let longer : item_limit < length many.items = many.more in
    let no_more : length many.items ≤ length plan = no_longer (IsOne f v) many.items plan goes (are_told f v many.items many.once) in
    let few : length plan ≤ item_limit = short in
    omega (arith, longer, no_more, few)
  where
    visited : (item : Planned) → (is : IsNear f v item) → (way : Way) × Contains visits way × (way.dir ≡ is.spot.dir)
    visited item is =
        let size : length is.reached.path ≡ is.steps = is.reached.size in
        let near : is.steps < depth_limit = is.near in
        let among : IsAmong (visits ++ waiting) is.spot.dir = walked.near is.reached.path is.spot.dir is.reached.leads (omega (arith, size, near)) in
        ⊎_elim
        (λ old. (among.0, old, among.2))
        (λ new.
        let level : length among.0.path ≡ depth_limit = walked.level among.0 new in
        absurd (walked.least among.0 among.1 is.reached.path (subst (Leads f v is.reached.path) (sym among.2) is.reached.leads) (omega (arith, size, near, level))))
        (Contains-append_cases visits waiting among.0 among.1)

    goes : GoesWith (IsOne f v) many.items plan
    goes item found =
        let is : IsNear f v item = many.near item found in
        let way : (way : Way) × Contains visits way × (way.dir ≡ is.spot.dir) = visited item is in
        let stands : node_of (standing_in f v way.0.dir is.spot.name) ≡ Some is.is.node = ap (λ d. node_of (standing_in f v d is.spot.name)) way.2 ∙ is.is.stands in
        let place : (at : Path) × (place_of (standing_in f v way.0.dir is.spot.name) ≡ Some at) = has_place (standing_in f v way.0.dir is.spot.name) is.is.node stands in (
          record { path = way.0.path ++ is.spot.name ∷ []; node = is.is.node; at = place.0 },
          gathered.complete way.0 (record { path = way.0.path ++ is.spot.name ∷ []; node = is.is.node; at = place.0 }) way.1
              (record { name = is.spot.name; path = refl; node = stands; place = place.1 }),
          record {
            spot = is.spot;
            one = is.path;
            two = record { front = way.0.path; is = refl; leads = subst (Leads f v way.0.path) way.2 (walked.leads way.0 (Contains-append_left visits waiting way.0 way.1)) };
          },
        )

-- where more were gathered of what is reached in fewer steps, there are more
pub past_limit : (f : Format) (v : View) (ways : List Way) (items : List Planned) → AreItemsOf f v ways items → ((way : Way) → Contains ways way → IsLeast f v way × (length way.path < depth_limit))
    → item_limit < length items → HasTooMany f v
past_limit f v ways items are near more = record { items = items; near = is_near; once = different f v ways items are; more = more }
  where
    is_near : (item : Planned) → Contains items item → IsNear f v item
    is_near item found =
        let from : (way : Way) × Contains ways way × IsItemOf f v way item = are.sound item found in
        let leads : Leads f v from.0.path from.0.dir = are.leads from.0 from.1 in
        record {
          spot = record { dir = from.0.dir; name = from.2.name };
          is = record { reached = (from.0.path, leads); node = item.node; stands = from.2.node };
          path = record { front = from.0.path; is = from.2.path; leads = leads };
          steps = length from.0.path;
          near = (near from.0 from.1).1;
          reached = record { path = from.0.path; leads = leads; size = refl; least = (near from.0 from.1).0 };
        }
