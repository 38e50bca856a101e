-- What a walk gains, one thing after the other.
use Rattle.std.proofs.Common.{◌≡◌, ◌≢◌, ◌⊎◌, inl, inr, Bool, true, false, cond, not, List, [], ◌∷◌, ◌++◌, map, refl, sym, ap, ◌∙◌, subst, append-nil, append_assoc, get_or, ⊎_elim}
use Rattle.std.specs.Prelude.{IsTrue, Contains}
use Rattle.std.specs.BTreeSet.{BTreeSet, contains}
use Rattle.std.specs.BTreeMap.{is_at}
use Rattle.std.specs.List.{flat_map}
use Rattle.std.specs.Result.{OnOk}
use Rattle.std.specs.declared.result.Result.{Result}
use Rattle.std.specs.declared.result.Result.TheVariants.{Ok, Err}
use Rattle.std.proofs.lemmas.Grind.{flat_map-append}
use Rattle.std.proofs.lemmas.List.{map-append}
use Rattle.std.proofs.lemmas.List.Elements.{Contains-append_left, Contains-append_right, Contains-append_cases, Contains-push, Contains-push_cases, Contains-get_or}
use Rattle.std.proofs.lemmas.List.Quantifiers.{all_pairs_push}
use Rattle.plain_tree.specs.Names as plain
use Rattle.vault_spec.specs.Format.{Directory}
use Rattle.vault_spec.specs.Plan.{Planned}
use Rattle.vault_walk.specs.Levels.{item_by, targets_by, ways_by, HasGainedMembers, Knows, HasGained, HasJoined}
use Rattle.vault_walk.specs.Nodes.{node_cmp, node_of}
use Rattle.vault_walk.specs.Walking.{Way, AreApart, IsAmong}
use Rattle.vault_walk.specs.declared.key.Node.{Node}
use Rattle.vault_walk.specs.declared.levels.Walk.{Walk}
use Rattle.vault_walk.specs.declared.report.Member.{Member}
use Rattle.vault_walk.specs.declared.twice.Target.{Target}
use Rattle.vault_walk.proofs.Flats.{none_within, only_one}
use Rattle.vault_walk.proofs.NodeOrders.{one_node, node_tied}

pub not_is_true : (b : Bool) → not b ≡ true → b ≡ false
not_is_true true e = cc
not_is_true false e = refl

pub not_is_false : (b : Bool) → not b ≡ false → b ≡ true
not_is_false true e = refl
not_is_false false e = cc

-- what is among a list is among a longer one
pub among_front : (xs ys : List Way) (dir : Directory) → IsAmong xs dir → IsAmong (xs ++ ys) dir
among_front xs ys dir a = (a.0, Contains-append_left xs ys a.0 a.1, a.2)

among_longer : (known next extra later : List Way) (dir : Directory) → later ≡ next ++ extra → IsAmong (known ++ next) dir → IsAmong (known ++ later) dir
among_longer known next extra later dir is a =
    subst (λ ways. IsAmong ways dir) (append_assoc known next extra ∙ ap (λ ws. known ++ ws) (sym is)) (among_front (known ++ next) extra dir a)

-- nothing joins of no ways
pub none_joined : (seen after : BTreeSet Node) (known next : List Way) → after.keys ≡ seen.keys → Knows seen (known ++ next) → HasJoined after known next [] next
none_joined seen after known next same knows = record {
  knows = λ dir. (
    λ has. (knows dir).0 (ap (λ (ks : List Node). contains node_cmp (record { keys = ks }) (node_of dir)) (sym same) ∙ has),
    λ among. ap (λ (ks : List Node). contains node_cmp (record { keys = ks }) (node_of dir)) same ∙ (knows dir).1 among,
  );
  apart = λ apart. apart;
  covers = λ way there. absurd (none_within way there);
}

-- the way to a directory that is known already
pub known_joined : (seen after : BTreeSet Node) (known next : List Way) (way : Way) → after.keys ≡ seen.keys → IsTrue (contains node_cmp seen (node_of way.dir)) → Knows seen (known ++ next)
    → HasJoined after known next (way ∷ []) next
known_joined seen after known next way same has knows = record {
  knows = (none_joined seen after known next same knows).knows;
  apart = λ apart. apart;
  covers = λ w there. subst (λ (x : Way). IsAmong (known ++ next) x.dir) (only_one way w there) ((knows way.dir).0 has);
}

-- and to one that is new
pub new_joined : (seen after : BTreeSet Node) (known next : List Way) (way : Way) → contains node_cmp seen (node_of way.dir) ≡ false
    → ((q : Node) → contains node_cmp after q ≡ cond (is_at (node_cmp (node_of way.dir)) q) true (contains node_cmp seen q)) → Knows seen (known ++ next)
    → HasJoined after known next (way ∷ []) (next ++ way ∷ [])
new_joined seen after known next way new updates knows = record {
  knows = λ dir. (has_on dir (is_at (node_cmp (node_of way.dir)) (node_of dir)) refl, among_back dir (is_at (node_cmp (node_of way.dir)) (node_of dir)) refl);
  apart = λ apart. subst AreApart (append_assoc known next (way ∷ []))
      (all_pairs_push (λ (x y : Way). x.dir ≢ y.dir) (known ++ next) way apart (λ k d less same. old_is_not (get_or (known ++ next) k d, Contains-get_or (known ++ next) k d less, same)));
  covers = λ w there. subst (λ (x : Way). IsAmong (known ++ (next ++ way ∷ [])) x.dir) (only_one way w there) itself;
}
  where
    old_is_not : IsAmong (known ++ next) way.dir → ⊥
    old_is_not among = let clash : true ≡ false = sym ((knows way.dir).1 among) ∙ new in cc

    itself : IsAmong (known ++ (next ++ way ∷ [])) way.dir
    itself = (way, Contains-append_right known (next ++ way ∷ []) way (Contains-push next way), refl)

    all : List Way
    all = known ++ (next ++ way ∷ [])

    longer : (dir : Directory) → IsAmong (known ++ next) dir → IsAmong (known ++ (next ++ way ∷ [])) dir
    longer dir a = among_longer known next (way ∷ []) (next ++ way ∷ []) dir refl a

    has_on : (dir : Directory) (b : Bool) → is_at (node_cmp (node_of way.dir)) (node_of dir) ≡ b → IsTrue (contains node_cmp after (node_of dir)) → IsAmong (known ++ (next ++ way ∷ [])) dir
    has_on dir true at has = subst (IsAmong (known ++ (next ++ way ∷ []))) (one_node way.dir dir at) itself
    has_on dir false at has =
        longer dir ((knows dir).0 (ap (λ b. cond b true (contains node_cmp seen (node_of dir))) (sym at) ∙ sym (updates (node_of dir)) ∙ has))

    among_back : (dir : Directory) (b : Bool) → is_at (node_cmp (node_of way.dir)) (node_of dir) ≡ b → IsAmong (known ++ (next ++ way ∷ [])) dir → IsTrue (contains node_cmp after (node_of dir))
    among_back dir true at among = updates (node_of dir) ∙ ap (λ b. cond b true (contains node_cmp seen (node_of dir))) at
    among_back dir false at among =
        updates (node_of dir) ∙ ap (λ b. cond b true (contains node_cmp seen (node_of dir))) at
        ∙ by_place (Contains-push_cases (known ++ next) way among.0 (subst (λ ways. Contains ways among.0) (sym (append_assoc known next (way ∷ []))) among.1))
      where
        by_place : Contains (known ++ next) among.0 ⊎ (way ≡ among.0) → IsTrue (contains node_cmp seen (node_of dir))
        by_place (inl old) = (knows dir).1 (among.0, old, among.2)
        by_place (inr same) =
            let its : way.dir ≡ dir = ap (λ (w : Way). w.dir) same ∙ among.2 in
            let clash : false ≡ true = sym at ∙ ap (λ d. is_at (node_cmp (node_of way.dir)) (node_of d)) (sym its) ∙ node_tied way.dir in cc

-- one gain after the other
pub gained_more : (a b c : Walk) (next mid later : List Way) (items items' : List Planned) (targets targets' : List Target) (ways ways' : List Way) → HasGained a b next items targets ways mid
    → HasGained b c mid items' targets' ways' later → HasGained a c next (items ++ items') (targets ++ targets') (ways ++ ways') later
gained_more a b c next mid later items items' targets targets' ways ways' one two = record {
  visits_stay = two.visits_stay ∙ one.visits_stay;
  found_stay = two.found_stay ∙ one.found_stay;
  items_are = two.items_are ∙ ap (λ xs. xs ++ items') one.items_are ∙ append_assoc a.items.items items items';
  targets_are = two.targets_are ∙ ap (λ xs. xs ++ targets') one.targets_are ∙ append_assoc a.targets.items targets targets';
  extra = one.extra ++ two.extra;
  later_is = two.later_is ∙ ap (λ xs. xs ++ two.extra) one.later_is ∙ append_assoc next one.extra two.extra;
  from = λ way there. ⊎_elim
      (λ first. Contains-append_left ways ways' way (one.from way first))
      (λ last. Contains-append_right ways ways' way (two.from way last))
      (Contains-append_cases one.extra two.extra way there);
  joins = λ known knows.
      let first : HasJoined b.seen known next ways mid = one.joins known knows in
      let last : HasJoined c.seen known mid ways' later = two.joins known first.knows in
      record {
        knows = last.knows;
        apart = λ apart. last.apart (first.apart apart);
        covers = λ way there. ⊎_elim
            (λ front. among_longer known mid two.extra later way.dir two.later_is (first.covers way front))
            (λ back. last.covers way back)
            (Contains-append_cases ways ways' way there);
      };
}

-- nothing gained
pub gained_nothing : (walk : Walk) (next : List Way) → HasGained walk walk next [] [] [] next
gained_nothing walk next = record {
  visits_stay = refl;
  found_stay = refl;
  items_are = sym (append-nil walk.items.items);
  targets_are = sym (append-nil walk.targets.items);
  extra = [];
  later_is = sym (append-nil next);
  from = λ way there. there;
  joins = λ known knows. none_joined walk.seen walk.seen known next refl knows;
}

-- an item or a directory item gained
pub gained_list : (walk after : Walk) (next : List Way) (items : List Planned) (targets : List Target) → after.visits.items ≡ walk.visits.items → after.found.items ≡ walk.found.items
    → after.items.items ≡ walk.items.items ++ items → after.targets.items ≡ walk.targets.items ++ targets → after.seen.keys ≡ walk.seen.keys → HasGained walk after next items targets [] next
gained_list walk after next items targets visits found more_items more_targets seen = record {
  visits_stay = visits;
  found_stay = found;
  items_are = more_items;
  targets_are = more_targets;
  extra = [];
  later_is = sym (append-nil next);
  from = λ way there. there;
  joins = λ known knows. none_joined walk.seen after.seen known next seen knows;
}

-- a directory item gained, and then its item
pub gained_item : (a b c : Walk) (next later : List Way) (item : Planned) (targets : List Target) (ways : List Way) → HasGained a b next [] targets ways later
    → HasGained b c later (item ∷ []) [] [] later → HasGained a c next (item ∷ []) targets ways later
gained_item a b c next later item targets ways one two =
    subst (λ ts. HasGained a c next (item ∷ []) ts ways later) (append-nil targets)
    (subst (λ ws. HasGained a c next (item ∷ []) (targets ++ []) ws later) (append-nil ways) (gained_more a b c next later later [] (item ∷ []) targets [] ways [] one two))

flat_push : {X Y : Type 0} (f : X → List Y) (xs : List X) (x : X) → flat_map f xs ++ f x ≡ flat_map f (xs ++ x ∷ [])
flat_push f xs x = ap (λ ys. flat_map f xs ++ ys) (sym (append-nil (f x))) ∙ sym (flat_map-append f xs (x ∷ []))

-- what one item more tells
pub members_more : (walk mid after : Walk) (path : plain.Path) (members : List Member) (member : Member) (next n later : List Way) → HasGainedMembers walk mid path members next n
    → HasGained mid after n (item_by path member ∷ []) (targets_by member) (ways_by path member) later → HasGainedMembers walk after path (members ++ member ∷ []) next later
members_more walk mid after path members member next n later one two =
    subst (λ items. HasGained walk after next items (flat_map targets_by (members ++ member ∷ [])) (flat_map (ways_by path) (members ++ member ∷ [])) later)
    (sym (map-append (item_by path) members (member ∷ [])))
    (subst (λ targets. HasGained walk after next (map (item_by path) members ++ item_by path member ∷ []) targets (flat_map (ways_by path) (members ++ member ∷ [])) later)
    (flat_push targets_by members member)
    (subst (λ ways. HasGained walk after next (map (item_by path) members ++ item_by path member ∷ []) (flat_map targets_by members ++ targets_by member) ways later)
    (flat_push (ways_by path) members member)
    (gained_more walk mid after next n later (map (item_by path) members) (item_by path member ∷ []) (flat_map targets_by members) (targets_by member)
    (flat_map (ways_by path) members) (ways_by path member) one two)))

-- a fact of an answer, and what follows
pub on_more : {T E : Type 0} (r : Result T E) {P Q : Type 0} → (P → Q) → OnOk r P → OnOk r Q
on_more (Ok value) more p = more p
on_more (Err fault) more p = p
