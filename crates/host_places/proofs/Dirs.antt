-- Directories that are noted, step by step.
use Rattle.std.proofs.Common.{◌≡◌, ◌≢◌, Bool, true, false, ℕ, ◌-◌, ◌<◌, List, [], ◌∷◌, ◌++◌, length, length-append, slice_index_or, Option, Some, None, is_some, ◌||◌, cond, inl, inr, refl, sym, ap, ◌∙◌, subst, arith, IsTrue}
use Rattle.std.specs.Prelude.{◌⊎◌, IsFalse}
use Rattle.std.specs.List.{All}
use Rattle.std.specs.Ordering.{is_eq, ordering_then}
use Rattle.std.proofs.lemmas.Cmp.{nat_list_cmp_total, tied_itself}
use Rattle.folder_spec.proofs.Paths.{below_is, parent-child}
use Rattle.folder_model.specs.Order.{path_cmp}
use Rattle.folder_spec.specs.Path.{Part, Path, below, parent}
use Rattle.host_places.specs.Noted.{Dirs, HasMore, IsJust, Sees, SeesBut, has, is_noted, same}

-- what was known stays so, or came to be noted, through two steps
then_noted : (x y z w : Bool) → (IsTrue y → IsTrue x ⊎ IsTrue w) → IsTrue y ⊎ IsTrue z → (IsTrue w → IsTrue z) → IsTrue x ⊎ IsTrue z
then_noted x y z w first (inr noted) stays = inr noted
then_noted x y z w first (inl known) stays = carried x z w (first known) stays
  where
    carried : (x z w : Bool) → IsTrue x ⊎ IsTrue w → (IsTrue w → IsTrue z) → IsTrue x ⊎ IsTrue z
    carried x z w (inl before) stays = inl before
    carried x z w (inr noted) stays = inr (stays noted)

pub sees_same : (a : Dirs) → Sees a a
sees_same a = record { stays = λ at noted. noted; first = λ at known. inl known }

pub sees_from : {a before after : Dirs} → a ≡ before → Sees before after → Sees a after
sees_from {a} {before} {after} is sees = subst (λ x. Sees x after) (sym is) sees

pub sees_but_from : {gone : Path} {a before after : Dirs} → a ≡ before → SeesBut gone before after → SeesBut gone a after
sees_but_from {gone} {a} {before} {after} is sees = subst (λ x. SeesBut gone x after) (sym is) sees

pub sees_after : {a b c : Dirs} → Sees a b → Sees b c → Sees a c
sees_after {a} {b} {c} x y = record {
  stays = λ at noted. y.stays at (x.stays at noted);
  first = λ at known. then_noted (has a.known at) (has b.known at) (is_noted c at) (is_noted b at) (x.first at) (y.first at known) (y.stays at);
}

pub sees_but : (gone : Path) {a b : Dirs} → Sees a b → SeesBut gone a b
sees_but gone x = record { stays = λ at other. x.stays at; first = λ at other. x.first at }

pub sees_but_after : {gone : Path} {a b c : Dirs} → Sees a b → SeesBut gone b c → SeesBut gone a c
sees_but_after {gone} {a} {b} {c} x y = record {
  stays = λ at other noted. y.stays at other (x.stays at noted);
  first = λ at other known. then_noted (has a.known at) (has b.known at) (is_noted c at) (is_noted b at) (x.first at) (y.first at other known) (y.stays at other);
}

-- ---- a list of directories with one more

more_stays : (b old new : Bool) → new ≡ cond b true old → IsTrue old → IsTrue new
more_stays true old new e is = e
more_stays false old new e is = e ∙ is

more_is : (b old new : Bool) → new ≡ cond b true old → IsTrue new → IsTrue old ⊎ IsTrue b
more_is true old new e is = inr refl
more_is false old new e is = inl (sym e ∙ is)

more_here : (b old new : Bool) → new ≡ cond b true old → IsTrue b → IsTrue new
more_here true old new e is = e
more_here false old new e is = cc

or_first : (x y z : Bool) → (IsTrue x → IsTrue z) → IsTrue (x || y) → IsTrue (z || y)
or_first true y z more is = (let there : z ≡ true = more refl in ap (λ b. b || y) there)
or_first false true true more is = refl
or_first false true false more is = refl
or_first false false z more is = cc

or_second : (x y z : Bool) → (IsTrue y → IsTrue z) → IsTrue (x || y) → IsTrue (x || z)
or_second true y z more is = refl
or_second false y z more is = more is

or_is : (x y : Bool) → IsTrue x → IsTrue (x || y)
or_is true y is = refl
or_is false y is = cc

was_or_is_noted : (b before seen changed : Bool) → IsTrue before ⊎ IsTrue b → (IsTrue b → IsTrue seen) → IsTrue before ⊎ IsTrue (seen || changed)
was_or_is_noted b before seen changed (inl was) noted = inl was
was_or_is_noted b before seen changed (inr here) noted = inr (or_is seen changed (noted here))

or_is_second : (x y : Bool) → IsTrue y → IsTrue (x || y)
or_is_second true y is = refl
or_is_second false y is = is

was_or_is_second : (b before seen changed : Bool) → IsTrue before ⊎ IsTrue b → (IsTrue b → IsTrue changed) → IsTrue before ⊎ IsTrue (seen || changed)
was_or_is_second b before seen changed (inl was) noted = inl was
was_or_is_second b before seen changed (inr here) noted = inr (or_is_second seen changed (noted here))

pub has_more_stays : (old new : List Path) (dir : Path) → HasMore old new dir → (at : Path) → IsTrue (has old at) → IsTrue (has new at)
has_more_stays old new dir more at is = more_stays (same dir at) (has old at) (has new at) (more at) is

pub sees_one_seen : (a : Dirs) (seen : List Path) (dir : Path) → HasMore a.seen seen dir → Sees a (record { known = a.known; seen = seen; changed = a.changed })
sees_one_seen a seen dir more = record {
  stays = λ at. or_first (has a.seen at) (has a.changed at) (has seen at) (more_stays (same dir at) (has a.seen at) (has seen at) (more at));
  first = λ at known. inl known;
}

pub sees_one : (a : Dirs) (seen known : List Path) (dir : Path) → HasMore a.seen seen dir → HasMore a.known known dir → Sees a (record { known = known; seen = seen; changed = a.changed })
sees_one a seen known dir more_seen more_known = record {
  stays = λ at. or_first (has a.seen at) (has a.changed at) (has seen at) (more_stays (same dir at) (has a.seen at) (has seen at) (more_seen at));
  first = λ at is. was_or_is_noted (same dir at) (has a.known at) (has seen at) (has a.changed at) (more_is (same dir at) (has a.known at) (has known at) (more_known at) is) (more_here (same dir at) (has a.seen at) (has seen at) (more_seen at));
}

pub sees_change : (a : Dirs) (changed : List Path) (dir : Path) → HasMore a.changed changed dir → Sees a (record { known = a.known; seen = a.seen; changed = changed })
sees_change a changed dir more = record {
  stays = λ at. or_second (has a.seen at) (has a.changed at) (has changed at) (more_stays (same dir at) (has a.changed at) (has changed at) (more at));
  first = λ at known. inl known;
}

pub sees_made : (a : Dirs) (changed known : List Path) (dir : Path) → HasMore a.changed changed dir → HasMore a.known known dir → Sees a (record { known = known; seen = a.seen; changed = changed })
sees_made a changed known dir more_changed more_known = record {
  stays = λ at. or_second (has a.seen at) (has a.changed at) (has changed at) (more_stays (same dir at) (has a.changed at) (has changed at) (more_changed at));
  first = λ at is. was_or_is_second (same dir at) (has a.known at) (has a.seen at) (has changed at) (more_is (same dir at) (has a.known at) (has known at) (more_known at) is) (more_here (same dir at) (has a.changed at) (has changed at) (more_changed at));
}

pub just_more : (old new : List Path) (dir : Path) → HasMore old new dir → (at : Path) → IsTrue (has new at) → IsTrue (has old at) ⊎ IsTrue (same dir at)
just_more old new dir more at is = more_is (same dir at) (has old at) (has new at) (more at) is

-- ---- a list with fewer directories

-- the one list has what the other has but one directory
abbrev pub HasLess : List Path → List Path → Path → Type 0
HasLess old new dir = (at : Path) → has new at ≡ cond (same dir at) false (has old at)

less_was : (b old new : Bool) → new ≡ cond b false old → IsTrue new → IsTrue old
less_was true old new e is = cc
less_was false old new e is = sym e ∙ is

less_stays : (b old new : Bool) → new ≡ cond b false old → b ≡ false → IsTrue old → IsTrue new
less_stays true old new e apart is = cc
less_stays false old new e apart is = e ∙ is

or_both : (x y z w : Bool) → (IsTrue x → IsTrue z) → (IsTrue y → IsTrue w) → IsTrue (x || y) → IsTrue (z || w)
or_both true y z w one other is = or_is z w (one refl)
or_both false y z w one other is = or_last z w (other is)
  where
    or_last : (z w : Bool) → IsTrue w → IsTrue (z || w)
    or_last true w is = refl
    or_last false w is = is

pub sees_forgotten : (a : Dirs) (known seen changed : List Path) (dir : Path) → HasLess a.known known dir → HasLess a.seen seen dir → HasLess a.changed changed dir → SeesBut dir a (record { known = known; seen = seen; changed = changed })
sees_forgotten a known seen changed dir less_known less_seen less_changed = record {
  stays = λ at other. or_both (has a.seen at) (has a.changed at) (has seen at) (has changed at) (less_stays (same dir at) (has a.seen at) (has seen at) (less_seen at) other) (less_stays (same dir at) (has a.changed at) (has changed at) (less_changed at) other);
  first = λ at other is. inl (less_was (same dir at) (has a.known at) (has known at) (less_known at) is);
}

pub sees_unknown : (a : Dirs) (known : List Path) (dir : Path) → HasLess a.known known dir → Sees a (record { known = known; seen = a.seen; changed = a.changed })
sees_unknown a known dir less = record {
  stays = λ at noted. noted;
  first = λ at is. inl (less_was (same dir at) (has a.known at) (has known at) (less at) is);
}

-- ---- nothing but two directories

or_unless : (x y : Bool) → x ≡ false → IsTrue (x || y) → IsTrue y
or_unless true y apart is = cc
or_unless false y apart is = is

pub just_two : {dirs : Dirs} (middle : List Path) (one other : Path) → dirs.seen ≡ [] → ((at : Path) → IsTrue (has middle at) → IsTrue (same one at)) → ((at : Path) → IsTrue (has dirs.changed at) → IsTrue (has middle at) ⊎ IsTrue (same other at)) → IsJust dirs one other
just_two {dirs} middle one other none first second = record { just = λ at is. of at (second at (or_unless (has dirs.seen at) (has dirs.changed at) (ap (λ seen. has seen at) none) is)) }
  where
    of : (at : Path) → IsTrue (has middle at) ⊎ IsTrue (same other at) → IsTrue (same one at) ⊎ IsTrue (same other at)
    of at (inl here) = inl (first at here)
    of at (inr there) = inr there

pub has_less_stays : (old new : List Path) (dir : Path) → HasLess old new dir → (at : Path) → IsFalse (same dir at) → IsTrue (has old at) → IsTrue (has new at)
has_less_stays old new dir less at other is = less_stays (same dir at) (has old at) (has new at) (less at) other is

-- ---- a path isn't the one above it

apart_parent : (part : Part) (rest : Path) → IsFalse (same (part ∷ rest) (parent (part ∷ rest)))
apart_parent part [] = refl
apart_parent part (next ∷ rest) = ap (λ order. is_eq (ordering_then order (path_cmp (next ∷ rest) (parent (next ∷ rest))))) (tied_itself nat_list_cmp_total part) ∙ apart_parent next rest

pub below_apart : (at : Path) → length at ≢ 0 → IsFalse (same at (parent at))
below_apart [] some = absurd (some refl)
below_apart (part ∷ rest) some = apart_parent part rest

-- ---- directories that are compared first

-- the one at a place is as all are
pub among : (P : Path → Type 0) (some listed : List Path) (k : ℕ) (dir at : Path) → listed ≡ some → k < length listed → dir ≡ slice_index_or listed k dir → dir ≡ at → All P some → P at
among P some listed k dir at same within there is are =
    let each : All P listed = subst (λ l. All P l) (sym same) are in
    subst P (sym there ∙ is) (each k dir within)

-- a path that begins with a directory one part shorter has it above
above_is : (dir at rest : Path) → at ≡ dir ++ rest → length at - 1 ≡ length dir → parent at ≡ dir
above_is [] at [] is deep = ap parent is
above_is (first ∷ dir) at [] is deep = absurd (omega (arith, deep, ap length is, length-append (first ∷ dir) []))
above_is dir at (part ∷ []) is deep = ap parent is ∙ parent-child dir part
above_is dir at (part ∷ next ∷ rest) is deep = absurd (omega (arith, deep, ap length is, length-append dir (part ∷ next ∷ rest)))

pub above_begins : (dir at : Path) → is_some (below dir at) ≡ true → length at - 1 ≡ length dir → parent at ≡ dir
above_begins dir at begins deep = of (below dir at) refl begins
  where
    of : (found : Option Path) → below dir at ≡ found → is_some found ≡ true → parent at ≡ dir
    of None e some = cc
    of (Some rest) e some = above_is dir at rest (below_is dir at rest e) deep
