-- How a walk begins.
use Rattle.std.proofs.Common.{◌≡◌, ◌↔◌, inl, inr, ℕ, List, [], ◌∷◌, ◌++◌, Result, Ok, Err, sym, ap, ◌∙◌, subst, arith, append-nil}
use Rattle.std.specs.Prelude.{Contains}
use Rattle.std.specs.BTreeSet.{BTreeSet, contains}
use Rattle.folder_spec.specs.Path.{Path}
use Rattle.folder_spec.specs.View.{View}
use Rattle.vault_spec.specs.Findings.{number_of}
use Rattle.vault_spec.specs.Format.{Format, Directory}
use Rattle.vault_spec.specs.Standing.{Dir, root_of}
use Rattle.vault_spec.specs.declared.Lack.{Lack}
use Rattle.vault_walk.specs.Levels.{finding_of, Knows, HasGained, HasGathered, HasJoined, HasStayed, HasWalked, IsMet, IsRootLack, IsTargetAmong}
use Rattle.vault_walk.specs.Nodes.{node_cmp, node_of}
use Rattle.vault_walk.specs.Walking.{Way, AreGathered, IsAmong, IsWalked}
use Rattle.vault_walk.specs.declared.found.Found.{Found}
use Rattle.vault_walk.specs.declared.key.Node.{Node}
use Rattle.vault_walk.specs.declared.levels.Walk.{Walk}
use Rattle.vault_walk.proofs.Flats.{none_within, only_one}
use Rattle.vault_walk.proofs.Walks.{walk_begins, walk_never_begins}

none_known : (seen : BTreeSet Node) → seen.keys ≡ [] → Knows seen []
none_known seen none dir = (
  λ has. let clash = ap (λ (ks : List Node). contains node_cmp (record { keys = ks }) (node_of dir)) (sym none) ∙ has in cc,
  λ among. absurd (none_within among.0 among.1),
)

none_gathered : (f : Format) (v : View) → AreGathered f v [] []
none_gathered f v = record {
  sound = λ item there. absurd (none_within item there);
  complete = λ way item there is. absurd (none_within way there);
  apart = λ i j d below less. absurd (omega (arith, less));
}

begun_gathered : (f : Format) (v : View) (walk : Walk) → walk.visits.items ≡ [] → walk.items.items ≡ [] → walk.targets.items ≡ [] → ((x : Found) → Contains walk.found.items x ↔ IsRootLack f v x) → HasGathered f v walk
begun_gathered f v walk visits items targets found = record {
  items = subst (λ ws. AreGathered f v ws walk.items.items) (sym visits) (subst (AreGathered f v []) (sym items) (none_gathered f v));
  found = λ x. subst (λ ws. Contains walk.found.items x ↔ IsMet f v ws x) (sym visits) ((λ there. inl ((found x).0 there)), met x);
  targets = λ t. subst (λ ws. Contains walk.targets.items t ↔ IsTargetAmong f v ws t) (sym visits)
      ((λ there. absurd (none_within t (subst (λ ts. Contains ts t) targets there))), λ among. absurd (none_within among.0 among.1));
}
  where
    met : (x : Found) → IsMet f v [] x → Contains walk.found.items x
    met x (inl root) = (found x).1 root
    met x (inr among) = absurd (none_within among.0 among.1)

abbrev found_of : Path → ℕ → Found
found_of at number = record { at = at; number = number }

one_place : (at place : Path) (one other : Result Directory Lack) → Dir at one ≡ Dir place other → at ≡ place
one_place at place one other e = cc

no_lack : (at place : Path) (dir : Directory) (lack : Lack) → Dir at (Ok dir) ≡ Dir place (Err lack) → ⊥
no_lack at place dir lack e = cc

one_lack : (at place : Path) (lack other : Lack) → Dir at (Err lack) ≡ Dir place (Err other) → lack ≡ other
one_lack at place lack other e = cc

abbrev way_to : Directory → List (List ℕ) → Way
way_to dir path = record { path = path; dir = dir }

-- the root waits
pub root_waits : (f : Format) (v : View) (walk after : Walk) (at : Path) (way : Way) (waiting : List Way) → walk.visits.items ≡ [] → walk.items.items ≡ [] → walk.found.items ≡ [] → walk.targets.items ≡ []
    → walk.seen.keys ≡ [] → way.path ≡ [] → HasGained walk after [] [] [] (way ∷ []) waiting → root_of f v ≡ Dir at (Ok way.dir) → HasWalked f v 0 after waiting
root_waits f v walk after at way waiting visits items found targets seen top gained root = record {
  walked = subst (λ ws. IsWalked f v 0 ws waiting) (sym no_visits) walked;
  knows = subst (λ ws. Knows after.seen (ws ++ waiting)) (sym no_visits) joined.knows;
  tells = begun_gathered f v after no_visits (gained.items_are ∙ append-nil walk.items.items ∙ items) (gained.targets_are ∙ append-nil walk.targets.items ∙ targets)
      (λ x. (
        λ there. absurd (none_within x (subst (λ xs. Contains xs x) (gained.found_stay ∙ found) there)),
        λ lack. absurd (no_lack at x.at way.dir lack.lack (sym root ∙ lack.root)),
      ));
}
  where
    no_visits : after.visits.items ≡ []
    no_visits = gained.visits_stay ∙ visits

    joined : HasJoined after.seen [] [] (way ∷ []) waiting
    joined = gained.joins [] (none_known walk.seen seen)

    begins : IsWalked f v 0 [] (way ∷ [])
    begins = subst (λ (w : Way). IsWalked f v 0 [] (w ∷ [])) (ap (way_to way.dir) (sym top))
        (walk_begins f v way.dir (root ∙ ap (λ p. Dir p (Ok way.dir)) (sym (one_place [] at _ (Ok way.dir) root))))

    on : (w : Way) → Contains waiting w → Contains (way ∷ []) w
    on w there = gained.from w (subst (λ ws. Contains ws w) gained.later_is there)

    walked : IsWalked f v 0 [] waiting
    walked = record {
      leads = λ w there. begins.leads w (on w there);
      before = λ w there. absurd (none_within w there);
      level = λ w there. begins.level w (on w there);
      least = λ w there. begins.least w (on w there);
      apart = joined.apart (λ i j d below less. absurd (omega (arith, less)));
      near = λ path dir leads size.
          let among = begins.near path dir leads size in
          subst (IsAmong waiting) among.2 (joined.covers among.0 among.1);
    }

-- or lacks its key or its folder
pub root_lacks : (f : Format) (v : View) (walk after : Walk) (at : Path) (lack : Lack) → walk.visits.items ≡ [] → walk.items.items ≡ [] → walk.found.items ≡ [] → walk.targets.items ≡ []
    → walk.seen.keys ≡ [] → HasStayed walk after → after.found.items ≡ walk.found.items ++ (record { at = at; number = number_of (finding_of lack) }) ∷ [] → root_of f v ≡ Dir at (Err lack) → HasWalked f v 0 after []
root_lacks f v walk after at lack visits items found targets seen stayed more root = record {
  walked = subst (λ ws. IsWalked f v 0 ws []) (sym no_visits) (walk_never_begins f v lack (root ∙ ap (λ p. Dir p (Err lack)) (sym (one_place [] at _ (Err lack) root))));
  knows = subst (λ ws. Knows after.seen (ws ++ [])) (sym no_visits) (none_known after.seen (stayed.seen_stays ∙ seen));
  tells = begun_gathered f v after no_visits (stayed.items_stay ∙ items) (stayed.targets_stay ∙ targets)
      (λ x. (
        λ there. let same : found_of at (number_of (finding_of lack)) ≡ x = only_one (found_of at (number_of (finding_of lack))) x (subst (λ xs. Contains xs x) is there) in lacking x same,
        λ r. subst (λ xs. Contains xs x) (sym is) (0, omega arith, same_found x r),
      ));
}
  where
    no_visits : after.visits.items ≡ []
    no_visits = stayed.visits_stay ∙ visits

    is : after.found.items ≡ found_of at (number_of (finding_of lack)) ∷ []
    is = more ∙ ap (λ xs. xs ++ found_of at (number_of (finding_of lack)) ∷ []) found

    lacking : (x : Found) → found_of at (number_of (finding_of lack)) ≡ x → IsRootLack f v x
    lacking x same = record { lack = lack; number = ap (λ (y : Found). y.number) (sym same); root = root ∙ ap (λ (y : Found). Dir y.at (Err lack)) same }

    same_found : (x : Found) → IsRootLack f v x → found_of at (number_of (finding_of lack)) ≡ x
    same_found x r =
        let place : at ≡ x.at = one_place at x.at (Err lack) (Err r.lack) (sym root ∙ r.root) in
        let lacks : lack ≡ r.lack = one_lack at x.at lack r.lack (sym root ∙ r.root) in
        ap (λ p. found_of p (number_of (finding_of lack))) place ∙ ap (λ l. found_of x.at (number_of (finding_of l))) lacks ∙ ap (found_of x.at) (sym r.number)
