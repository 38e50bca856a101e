-- Directory items that share a directory.
use Rattle.std.proofs.Common.{◌≡◌, ◌≢◌, ◌⊎◌, ◌↔◌, ◌++◌, ◌∷◌, [], ◌&&◌, ◌||◌, ℕ, Bool, true, false, List, IsTrue, inl, inr, refl, sym, ap, ◌∙◌, subst, get_or}
use Rattle.std.specs.BTreeMap.{is_at}
use Rattle.std.specs.BTreeSet.{BTreeSet, contains}
use Rattle.std.specs.Cmp.Lexicographic.{nat_list_cmp_total}
use Rattle.std.specs.List.{flat_map, list_any}
use Rattle.std.specs.List.Sorted.{IsStrictlySortedBy}
use Rattle.std.specs.Ordering.{is_eq, ordering_then}
use Rattle.std.specs.Prelude.{AllPairs, Contains}
use Rattle.std.specs.declared.cmp.Ordering.TheVariants.{Less, Equal}
use Rattle.std.proofs.lemmas.Cmp.{tied_itself}
use Rattle.std.proofs.lemmas.List.Elements.{Contains-append_left, Contains-append_right, Contains-append_cases, Contains-push, Contains-push_cases}
use Rattle.std.proofs.lemmas.Map.Keys.{Less-from_sorted}
use Rattle.folder_model.specs.Order.{path_cmp}
use Rattle.folder_spec.specs.Path.{Path, path_eq}
use Rattle.folder_spec.specs.View.{View}
use Rattle.folder_spec.proofs.Paths.{one_or_not, path_eq-Decides}
use Rattle.plain_tree.specs.Order.{name_cmp, name_eq}
use Rattle.std.proofs.lemmas.Slice.Eq.{bytes_eq-Decides}
use Rattle.vault_spec.specs.Findings.{IsTwice, number_of}
use Rattle.vault_spec.specs.Format.{Directory, Format}
use Rattle.vault_spec.specs.declared.Finding.TheVariants as is
use Rattle.vault_walk.specs.Apart.{AreShared, AreTargets, AreTwice, IsMet, IsMetAgain, IsSharedAmong, IsTarget, shared_at, shared_in}
use Rattle.vault_walk.specs.Nodes.{node_cmp, node_of}
use Rattle.vault_walk.specs.declared.found.Found.{Found}
use Rattle.vault_walk.specs.declared.key.Node.{Node}
use Rattle.vault_walk.specs.declared.twice.Target.{Target}
use Rattle.vault_walk.proofs.NodeOrders.{one_node, path_tied}
use Rattle.vault_walk.proofs.Flats.{flat_back, flat_on, none_within, only_one}
use Rattle.vault_walk.proofs.Pairs.{head_pairs, tail_pairs}

node_at : Path → List ℕ → Node
node_at folder key = record { folder = folder; key = key }

directory_at : Node → Directory
directory_at x = record { folder = x.folder; key = x.key }

-- nodes that compare as equal are one
same_nodes : (x y : Node) → is_eq (node_cmp x y) ≡ true → x ≡ y
unfolding directory_at
same_nodes x y e = ap node_of (one_node (directory_at x) (directory_at y) e)

node_tied : (x : Node) → node_cmp x x ≡ Equal
node_tied x = ap (λ o. ordering_then o (name_cmp x.key x.key)) (path_tied x.folder) ∙ tied_itself nat_list_cmp_total x.key

target_tied : (x : Target) → ordering_then (node_cmp x.node x.node) (path_cmp x.at x.at) ≡ Equal
target_tied x = ap (λ o. ordering_then o (path_cmp x.at x.at)) (node_tied x.node) ∙ path_tied x.at

target_at : Node → Path → Target
target_at node at = record { node = node; at = at }

and_true : (a b : Bool) → (a && b) ≡ true → (a ≡ true) × (b ≡ true)
and_true true b e = (refl, e)
and_true false b e = cc

-- items that are equal are one
pub one_target : (x y : Target) → (path_eq x.node.folder y.node.folder && name_eq x.node.key y.node.key && path_eq x.at y.at) ≡ true → x ≡ y
unfolding node_at target_at
one_target x y e =
    let both = and_true (path_eq x.node.folder y.node.folder && name_eq x.node.key y.node.key) (path_eq x.at y.at) e in
    let nodes = and_true (path_eq x.node.folder y.node.folder) (name_eq x.node.key y.node.key) both.0 in
    let folders : x.node.folder ≡ y.node.folder = (path_eq-Decides x.node.folder y.node.folder).0 nodes.0 in
    let keys : x.node.key ≡ y.node.key = (bytes_eq-Decides x.node.key y.node.key).0 nodes.1 in
    let places : x.at ≡ y.at = (path_eq-Decides x.at y.at).0 both.1 in
    ap (λ p. target_at (node_at p x.node.key) x.at) folders ∙ ap (λ k. target_at (node_at y.node.folder k) x.at) keys ∙ ap (target_at y.node) places

-- items in order are different
pub sorted_apart : (targets : List Target) → IsStrictlySortedBy (λ (x y : Target). ordering_then (node_cmp x.node y.node) (path_cmp x.at y.at)) targets → AllPairs (λ (x y : Target). x ≢ y) targets
sorted_apart targets sorted i j d less within same =
    let first : Target = get_or targets i d in
    let clash : Less ≡ Equal
    = sym (Less-from_sorted (λ (x y : Target). ordering_then (node_cmp x.node y.node) (path_cmp x.at y.at)) targets i j d sorted less within) ∙ ap (λ (y : Target). ordering_then (node_cmp first.node y.node) (path_cmp first.at y.at)) (sym same) ∙ target_tied first in
    cc clash

-- a list with one item more
met_on : (xs : List Target) (t : Target) (node : Node) → IsMet (xs ++ t ∷ []) node → IsMet xs node ⊎ (t.node ≡ node)
met_on xs t node m = by_place (Contains-push_cases xs t m.0 m.1)
  where
    by_place : Contains xs m.0 ⊎ (t ≡ m.0) → IsMet xs node ⊎ (t.node ≡ node)
    by_place (inl there) = inl (m.0, there, m.2)
    by_place (inr same) = inr (ap (λ (x : Target). x.node) same ∙ m.2)

met_left : (xs : List Target) (t : Target) (node : Node) → IsMet xs node → IsMet (xs ++ t ∷ []) node
met_left xs t node m = (m.0, Contains-append_left xs (t ∷ []) m.0 m.1, m.2)

met_last : (xs : List Target) (t : Target) (node : Node) → t.node ≡ node → IsMet (xs ++ t ∷ []) node
met_last xs t node e = (t, Contains-push xs t, e)

met_behind : (x : Target) (xs : List Target) (node : Node) → IsMet xs node → IsMet (x ∷ xs) node
met_behind x xs node m = (m.0, Contains-append_right (x ∷ []) xs m.0 m.1, m.2)

none_met : (node : Node) → IsMet [] node → ⊥
none_met node m = none_within m.0 m.1

again_on : (xs : List Target) (t : Target) (node : Node) → IsMetAgain (xs ++ t ∷ []) node → IsMetAgain xs node ⊎ (IsMet xs node × (t.node ≡ node))
again_on [] t node (inl both) = absurd (none_met node both.1)
again_on [] t node (inr none) = absurd none
again_on (x ∷ xs) t node (inl both) = by_last (met_on xs t node both.1)
  where
    by_last : IsMet xs node ⊎ (t.node ≡ node) → IsMetAgain (x ∷ xs) node ⊎ (IsMet (x ∷ xs) node × (t.node ≡ node))
    by_last (inl old) = inl (inl (both.0, old))
    by_last (inr last) = inr ((x, Contains-append_left (x ∷ []) xs x (Contains-push [] x), both.0), last)
again_on (x ∷ xs) t node (inr later) = by_rest (again_on xs t node later)
  where
    by_rest : IsMetAgain xs node ⊎ (IsMet xs node × (t.node ≡ node)) → IsMetAgain (x ∷ xs) node ⊎ (IsMet (x ∷ xs) node × (t.node ≡ node))
    by_rest (inl old) = inl (inr old)
    by_rest (inr both) = inr (met_behind x xs node both.0, both.1)

again_back : (xs : List Target) (t : Target) (node : Node) → IsMetAgain xs node ⊎ (IsMet xs node × (t.node ≡ node)) → IsMetAgain (xs ++ t ∷ []) node
again_back [] t node (inl none) = absurd none
again_back [] t node (inr both) = absurd (none_met node both.0)
again_back (x ∷ xs) t node (inl (inl both)) = inl (both.0, met_left xs t node both.1)
again_back (x ∷ xs) t node (inl (inr later)) = inr (again_back xs t node (inl later))
again_back (x ∷ xs) t node (inr both) = by_first (λ there. again_back xs t node (inr ((both.0.0, there, both.0.2), both.1))) (Contains-append_cases (x ∷ []) xs both.0.0 both.0.1)
  where
    by_first : (Contains xs both.0.0 → IsMetAgain (xs ++ t ∷ []) node) → Contains (x ∷ []) both.0.0 ⊎ Contains xs both.0.0 → IsMetAgain (x ∷ (xs ++ t ∷ [])) node
    by_first later (inl here) = inl (ap (λ (y : Target). y.node) (only_one x both.0.0 here) ∙ both.0.2, met_last xs t node both.1)
    by_first later (inr there) = inr (later there)

-- sets of what was met
abbrev pub Holds : BTreeSet Node → (Node → Type 0) → Type 0
Holds set P = (node : Node) → IsTrue (contains node_cmp set node) ↔ P node

or_left : (a b : Bool) → (a || b) ≡ true → (a ≡ true) ⊎ (b ≡ true)
or_left true b e = inl refl
or_left false b e = inr e

or_true : (a b : Bool) → (a ≡ true) ⊎ (b ≡ true) → (a || b) ≡ true
or_true true b either = refl
or_true false b (inl e) = cc
or_true false b (inr e) = e

same_node : (x y : Node) → x ≡ y → is_eq (node_cmp x y) ≡ true
same_node x y e = ap (λ z. is_eq (node_cmp x z)) (sym e) ∙ ap is_eq (node_tied x)

pub none_hold : (set : BTreeSet Node) → set.keys ≡ [] → (P : Node → Type 0) → ((node : Node) → ¬ P node) → Holds set P
none_hold set e P none node = (
  λ there. let clash : false ≡ true = sym (ap (λ (ks : List Node). list_any (is_at (node_cmp node)) ks) e) ∙ there in cc clash,
  λ p. absurd (none node p),
)

pub more_met : (xs : List Target) (t : Target) (old new : BTreeSet Node) → Holds old (IsMet xs)
    → ((other : Node) → contains node_cmp new other ≡ (is_eq (node_cmp t.node other) || contains node_cmp old other)) → Holds new (IsMet (xs ++ t ∷ []))
more_met xs t old new holds is node = (on, back)
  where
    on : IsTrue (contains node_cmp new node) → IsMet (xs ++ t ∷ []) node
    on there = by_test (or_left (is_eq (node_cmp t.node node)) (contains node_cmp old node) (sym (is node) ∙ there))
      where
        by_test : (is_eq (node_cmp t.node node) ≡ true) ⊎ (contains node_cmp old node ≡ true) → IsMet (xs ++ t ∷ []) node
        by_test (inl same) = met_last xs t node (same_nodes t.node node same)
        by_test (inr before) = met_left xs t node ((holds node).0 before)

    back : IsMet (xs ++ t ∷ []) node → IsTrue (contains node_cmp new node)
    back m = is node ∙ or_true (is_eq (node_cmp t.node node)) (contains node_cmp old node) (by_place (met_on xs t node m))
      where
        by_place : IsMet xs node ⊎ (t.node ≡ node) → (is_eq (node_cmp t.node node) ≡ true) ⊎ (contains node_cmp old node ≡ true)
        by_place (inl before) = inr ((holds node).1 before)
        by_place (inr same) = inl (same_node t.node node same)

pub more_again : (xs : List Target) (t : Target) (once old new : BTreeSet Node) → Holds once (IsMet xs) → Holds old (IsMetAgain xs)
    → ((other : Node) → contains node_cmp new other ≡ (is_eq (node_cmp t.node other) && contains node_cmp once t.node || contains node_cmp old other)) → Holds new (IsMetAgain (xs ++ t ∷ []))
more_again xs t once old new met holds is node = (on, back)
  where
    on : IsTrue (contains node_cmp new node) → IsMetAgain (xs ++ t ∷ []) node
    on there = again_back xs t node (by_test (or_left (is_eq (node_cmp t.node node) && contains node_cmp once t.node) (contains node_cmp old node) (sym (is node) ∙ there)))
      where
        by_test : ((is_eq (node_cmp t.node node) && contains node_cmp once t.node) ≡ true) ⊎ (contains node_cmp old node ≡ true) → IsMetAgain xs node ⊎ (IsMet xs node × (t.node ≡ node))
        by_test (inl both) =
            let two = and_true (is_eq (node_cmp t.node node)) (contains node_cmp once t.node) both in
            let same = same_nodes t.node node two.0 in
            inr (subst (IsMet xs) same ((met t.node).0 two.1), same)
        by_test (inr before) = inl ((holds node).0 before)

    back : IsMetAgain (xs ++ t ∷ []) node → IsTrue (contains node_cmp new node)
    back m = is node ∙ or_true (is_eq (node_cmp t.node node) && contains node_cmp once t.node) (contains node_cmp old node) (by_place (again_on xs t node m))
      where
        by_place : IsMetAgain xs node ⊎ (IsMet xs node × (t.node ≡ node)) → ((is_eq (node_cmp t.node node) && contains node_cmp once t.node) ≡ true) ⊎ (contains node_cmp old node ≡ true)
        by_place (inl before) = inr ((holds node).1 before)
        by_place (inr both) =
            inl (ap (λ b. b && contains node_cmp once t.node) (same_node t.node node both.1) ∙ (met t.node).1 (subst (IsMet xs) (sym both.1) both.0))

-- two of the items have the directory
record AreTwo (xs : List Target) (node : Node) : Type 0 where
  one : Target
  two : Target
  has_one : Contains xs one
  has_two : Contains xs two
  apart : one ≢ two
  one_node : one.node ≡ node
  two_node : two.node ≡ node

two_of : (xs : List Target) (node : Node) → AllPairs (λ (x y : Target). x ≢ y) xs → IsMetAgain xs node → AreTwo xs node
two_of [] node own none = absurd none
two_of (x ∷ xs) node own (inl both) = record {
  one = x;
  two = both.1.0;
  has_one = Contains-append_left (x ∷ []) xs x (Contains-push [] x);
  has_two = Contains-append_right (x ∷ []) xs both.1.0 both.1.1;
  apart = head_pairs (λ (x y : Target). x ≢ y) x xs own both.1.0 both.1.1;
  one_node = both.0;
  two_node = both.1.2;
}
two_of (x ∷ xs) node own (inr later) =
    let r : AreTwo xs node = two_of xs node (tail_pairs (λ (x y : Target). x ≢ y) x xs own) later in
    record {
      one = r.one;
      two = r.two;
      has_one = Contains-append_right (x ∷ []) xs r.one r.has_one;
      has_two = Contains-append_right (x ∷ []) xs r.two r.has_two;
      apart = r.apart;
      one_node = r.one_node;
      two_node = r.two_node;
    }

met_two : (xs : List Target) (node : Node) (one two : Target) → Contains xs one → Contains xs two → one ≢ two → one.node ≡ node → two.node ≡ node → IsMetAgain xs node
met_two [] node one two has_one has_two apart one_is two_is = absurd (none_within one has_one)
met_two (x ∷ xs) node one two has_one has_two apart one_is two_is =
    by_place (λ one_later two_later. met_two xs node one two one_later two_later apart one_is two_is) (Contains-append_cases (x ∷ []) xs one has_one) (Contains-append_cases (x ∷ []) xs two has_two)
  where
    by_place : (Contains xs one → Contains xs two → IsMetAgain xs node) → Contains (x ∷ []) one ⊎ Contains xs one → Contains (x ∷ []) two ⊎ Contains xs two → IsMetAgain (x ∷ xs) node
    by_place both (inl here) (inl also) = absurd (apart (sym (only_one x one here) ∙ only_one x two also))
    by_place both (inl here) (inr later) = inl (ap (λ (y : Target). y.node) (only_one x one here) ∙ one_is, (two, later, two_is))
    by_place both (inr later) (inl here) = inl (ap (λ (y : Target). y.node) (only_one x two here) ∙ two_is, (one, later, one_is))
    by_place both (inr one_later) (inr two_later) = inr (both one_later two_later)

found_one : Path → ℕ → Found
found_one at number = record { at = at; number = number }

shared_is : (shares : Bool) (at : Path) (x : Found) → Contains (shared_at shares at) x → (shares ≡ true) × (x.at ≡ at) × (x.number ≡ number_of is.DirIdTwice)
unfolding found_one
shared_is true at x there =
    let same = only_one (found_one at (number_of is.DirIdTwice)) x there in
    (refl, sym (ap (λ (y : Found). y.at) same), sym (ap (λ (y : Found). y.number) same))
shared_is false at x there = absurd (none_within x there)

is_shared : (shares : Bool) (at : Path) (x : Found) → shares ≡ true → x.at ≡ at → x.number ≡ number_of is.DirIdTwice → Contains (shared_at shares at) x
unfolding found_one
is_shared false at x e place number = cc
is_shared true at x e place number =
    let same : found_one at (number_of is.DirIdTwice) ≡ x = ap (λ p. found_one p (number_of is.DirIdTwice)) (sym place) ∙ ap (found_one x.at) (sym number) in
    subst (Contains (shared_at true at)) same (Contains-push [] (found_one at (number_of is.DirIdTwice)))

module _ (targets sorted : List Target) (same : (t : Target) → Contains sorted t ↔ Contains targets t) (own : AllPairs (λ (x y : Target). x ≢ y) sorted) where
  -- another of the items
  other_of : (t : Target) → Contains sorted t → AreTwo sorted t.node → IsSharedAmong targets t.at
  unfolding target_at
  other_of t there two = by_place (one_or_not t.at two.one.at)
    where
      shared_with : (u : Target) → Contains sorted u → u.node ≡ t.node → t.at ≢ u.at → IsSharedAmong targets t.at
      shared_with u among node apart = record {
        node = t.node;
        other = u.at;
        apart = apart;
        one = (same t).0 there;
        two = subst (Contains targets) (ap (λ n. target_at n u.at) node) ((same u).0 among);
      }

      both_at : t.at ≡ two.one.at → t.at ≡ two.two.at → two.one ≡ two.two
      both_at one also = ap (λ n. target_at n two.one.at) (two.one_node ∙ sym two.two_node) ∙ ap (target_at two.two.node) (sym one ∙ also)

      by_place : (t.at ≡ two.one.at) ⊎ ((t.at ≢ two.one.at) × (path_eq t.at two.one.at ≡ false)) → IsSharedAmong targets t.at
      by_place (inl here) = shared_with two.two two.has_two two.two_node (λ also. two.apart (both_at here also))
      by_place (inr other) = shared_with two.one two.has_one two.one_node other.0

  pub are_shared : (again : BTreeSet Node) → Holds again (IsMetAgain sorted) → AreShared targets (flat_map (shared_in again) sorted)
  unfolding target_at
  are_shared again holds x = (on, back)
    where
      on : Contains (flat_map (shared_in again) sorted) x → (x.number ≡ number_of is.DirIdTwice) × IsSharedAmong targets x.at
      on there =
          let from = flat_on (shared_in again) sorted x there in
          let is_one = shared_is (contains node_cmp again from.0.node) from.0.at x from.2 in
          (is_one.2, subst (IsSharedAmong targets) (sym is_one.1) (other_of from.0 from.1 (two_of sorted from.0.node own ((holds from.0.node).0 is_one.0))))

      back : (x.number ≡ number_of is.DirIdTwice) × IsSharedAmong targets x.at → Contains (flat_map (shared_in again) sorted) x
      back (number, s) =
          let one : Contains sorted (target_at s.node x.at) = (same (target_at s.node x.at)).1 s.one in
          let two : Contains sorted (target_at s.node s.other) = (same (target_at s.node s.other)).1 s.two in
          let again_is : IsMetAgain sorted s.node
          = met_two sorted s.node (target_at s.node x.at) (target_at s.node s.other) one two (λ e. s.apart (ap (λ (t : Target). t.at) e)) refl refl in
          flat_back (shared_in again) sorted (target_at s.node x.at) x one (is_shared (contains node_cmp again s.node) x.at x ((holds s.node).1 again_is) refl number)

-- of a vault's directory items these are the ones with one key and one folder
pub are_twice : (f : Format) (v : View) (targets : List Target) (found : List Found) → AreTargets f v targets → AreShared targets found → AreTwice f v found
unfolding target_at
are_twice f v targets found are shared x = (on, back)
  where
    on : Contains found x → (x.number ≡ number_of is.DirIdTwice) × IsTwice f v x.at
    on there =
        let s : (x.number ≡ number_of is.DirIdTwice) × IsSharedAmong targets x.at = (shared x).0 there in
        let one : IsTarget f v (target_at s.1.node x.at) = to_one s.1 in
        let two : IsTarget f v (target_at s.1.node s.1.other) = to_two s.1 in
        (s.0, twice_of s.1 one two)
      where
        to_one : (s : IsSharedAmong targets x.at) → IsTarget f v (target_at s.node x.at)
        to_one s = (are (target_at s.node x.at)).0 s.one

        to_two : (s : IsSharedAmong targets x.at) → IsTarget f v (target_at s.node s.other)
        to_two s = (are (target_at s.node s.other)).0 s.two

        twice_of : (s : IsSharedAmong targets x.at) → IsTarget f v (target_at s.node x.at) → IsTarget f v (target_at s.node s.other) → IsTwice f v x.at
        twice_of s one two = record {
          other = s.other;
          apart = s.apart;
          one = one.directory;
          two = two.directory;
          item = one.item;
          again = two.item;
          key = s.node.key;
          its = one.key;
          same = two.key;
          folder = one.folder ∙ sym two.folder;
        }

    back : (x.number ≡ number_of is.DirIdTwice) × IsTwice f v x.at → Contains found x
    back (number, t) = (shared x).1 (
      number,
      record {
        node = record { folder = f.folder_of x.at t.key; key = t.key };
        other = t.other;
        apart = t.apart;
        one = (are (record { node = record { folder = f.folder_of x.at t.key; key = t.key }; at = x.at })).1 (record { directory = t.one; item = t.item; key = t.its; folder = refl });
        two = (are (record { node = record { folder = f.folder_of x.at t.key; key = t.key }; at = t.other })).1
            (record { directory = t.two; item = t.again; key = t.same; folder = sym t.folder });
      },
    )
