-- Plans that nothing but chance keeps from being mapped and compared.
use Rattle.chunk_files.specs.Reading as reading
use Rattle.std.proofs.Common.{◌≡◌, ◌&&◌, inl, inr, List, [], ◌∷◌, ◌++◌, ℕ, Bool, true, false, Some, Result, Ok, Err, MatchResult, Contains, IsTrue, IsFalse, refl, sym, ap, ◌∙◌, subst, arith, zero, suc, map}
use Rattle.std.proofs.lemmas.List.Elements.{Contains-append_right}
use Rattle.std.proofs.lemmas.List.Sorted.{Contains-permutation, IsPermutation-sym}
use Rattle.std.specs.List.{list_all}
use Rattle.folder_spec.specs.Path.{Path}
use Rattle.folder_spec.specs.Seen.{under}
use Rattle.folder_spec.specs.View.{View}
use Rattle.vault_spec.specs.PlanOf.{IsPlanOf}
use Rattle.vault_spec.specs.Mapped.{AllowsTree, StaysApart}
use Rattle.plain_tree.specs.Mapped.{mapped_name, mapped_path}
use Rattle.plain_tree.specs.Names as plain
use Rattle.plain_tree.specs.declared.NodeKind.{NodeKind}
use Rattle.plain_tree.specs.declared.NodeKind.TheVariants.{Dir, File}
use Rattle.plain_tree.specs.declared.name_map.NameMap.{NameMap}
use Rattle.tree_match.proofs.HeldTrees.{IsNoDifference, planned}
use Rattle.tree_match.specs.Comparing.{Answers, Is, Outcome, Stops, content_at}
use Rattle.tree_match.specs.Mapping.{AreFirstToMeet, IsMappedPlan, MapsTo, is_named, mapped_item}
use Rattle.tree_match.specs.Trees.{AndFurther, AsSame, HoldsAllBy, HoldsAllOrTooLong, HoldsOr, IsMappedWalkOf, IsWalkOf, PlannedVault, side_of, tree_of}
use Rattle.tree_match.specs.declared.answer.How.{How}
use Rattle.tree_match.specs.declared.answer.MapFault.{MapFault}
use Rattle.tree_match.specs.declared.answer.MapFault.TheVariants as map_
use Rattle.tree_match.specs.declared.answer.Match.{Match}
use Rattle.tree_match.specs.declared.answer.Match.TheVariants.{Contained, Differs, Same}
use Rattle.tree_match.specs.declared.answer.MatchFault.{MatchFault}
use Rattle.tree_match.specs.declared.answer.MatchFault.TheVariants as match
use Rattle.vault_faults.specs.declared.fault.Limit.TheVariants as limit
use Rattle.vault_spec.proofs.Mapped.{contains_mapped, mapped_from}
use Rattle.vault_spec.specs.Alike.{place_of}
use Rattle.vault_spec.specs.Format.{Format}
use Rattle.vault_spec.specs.Listing.{node_of}
use Rattle.vault_spec.specs.Opened.{OpenedVault}
use Rattle.vault_spec.specs.Opens.{Tree}
use Rattle.vault_spec.specs.Plan.{Planned}
use Rattle.vault_spec.specs.Standing as stood
use Rattle.vault_spec.specs.Vault.{format_of}
use Rattle.vault_walk.specs.declared.plan.Plan.{Plan}

-- ---- laws that are cited

-- a walk tells the tree
abbrev pub TellsTree : Type 0
TellsTree = (v : View) (a : PlannedVault) → IsWalkOf v a → IsPlanOf (tree_of v a) a.items

-- no two items come to one path where a walk at mapped paths is one
abbrev pub MappedStayApart : Type 0
MappedStayApart = (v : View) (names : NameMap) (a : PlannedVault) → IsMappedWalkOf names v a → StaysApart names (tree_of v a)

-- of a tree of which no two items come to one path none meet
abbrev pub NoneMeet : Type 0
NoneMeet = (v : View) (names : NameMap) (a : PlannedVault) (one other : plain.Path) → IsWalkOf v a → StaysApart names (tree_of v a) → ¬ AreFirstToMeet names a.items one other

-- ---- mapping

-- each name of a path is a name once it is mapped
all_named : (names : NameMap) (path : plain.Path) → ((name : List ℕ) → Contains path name → IsTrue (plain.is_name (mapped_name names name))) → IsTrue (list_all plain.is_name (mapped_path names path))
all_named names [] each = refl
all_named names (name ∷ path) each =
    both (plain.is_name (mapped_name names name)) (list_all plain.is_name (mapped_path names path)) (each name (zero, omega arith, refl)) (all_named names path (λ other among. each other (suc among.0, omega (arith, among.1), among.2)))
  where
    both : (a b : Bool) → IsTrue a → IsTrue b → IsTrue (a && b)
    both true b one other = other
    both false b one other = cc one

-- so it is of each item of a tree whose mapped names are allowed
pub each_named : (names : NameMap) (f : Format) (t : Tree) (items : List Planned) → IsPlanOf t items → AllowsTree names f t → (item : Planned) → Contains items item → IsTrue (is_named names item)
each_named names f t items plan allowed item among =
    all_named names item.path (λ name part. (allowed item.path name ((plan.items.items item.path).0 (contains_mapped (λ (x : Planned). x.path) items item among)).1 part).named)

pub map_met : (Chance : MapFault → Type 0) → Chance map_.NoMemory → (names : NameMap) (items : List Planned) → ((item : Planned) → Contains items item → IsTrue (is_named names item))
    → ((one other : plain.Path) → ¬ AreFirstToMeet names items one other) → (t : Result Plan MapFault) → MapsTo names items t → MatchResult t (λ plan. IsMappedPlan names items plan.items) Chance
map_met Chance memory names items named apart (Ok plan) maps = maps.1
map_met Chance memory names items named apart (Err (map_.NotAName path)) maps =
    let among : Contains items maps.item = subst (λ (xs : List Planned). Contains xs maps.item) (sym maps.parts) (Contains-append_right maps.front (maps.item ∷ maps.behind) maps.item (zero, omega arith, refl)) in
    absurd (true_or_false (is_named names maps.item) (named maps.item among) maps.unnamed)
  where
    true_or_false : (b : Bool) → IsTrue b → IsFalse b → ⊥
    true_or_false true one other = cc other
    true_or_false false one other = cc one
map_met Chance memory names items named apart (Err (map_.Meet one other)) maps = absurd (apart one other maps.1)
map_met Chance memory names items named apart (Err map_.NoMemory) maps = memory

-- so a walk is mapped of a tree whose mapped names are allowed, and of which no two items come to one path
pub walk_maps : TellsTree → NoneMeet → (Chance : MapFault → Type 0) → Chance map_.NoMemory → (names : NameMap) (f : Format) (v : View) (a : PlannedVault) → IsWalkOf v a → AllowsTree names f (tree_of v a)
    → StaysApart names (tree_of v a) → (t : Result Plan MapFault) → MapsTo names a.items t → MatchResult t (λ plan. IsMappedPlan names a.items plan.items) Chance
walk_maps tells meet Chance memory names f v a walk allowed apart =
    map_met Chance memory names a.items (each_named names f (tree_of v a) a.items (tells v a walk) allowed) (λ one other. meet v names a one other walk apart)

-- ---- the files of a plan

-- a file of the plan stands where it says
is_file : (s : stood.Standing) (n : NodeKind) (at : Path) → n ≡ File → node_of s ≡ Some n → place_of s ≡ Some at → s ≡ stood.File at
is_file (stood.File there) n at is node place = let same : there ≡ at = cc place in ap stood.File same
is_file (stood.Dir there directory) n at is node place = let clash : Some Dir ≡ Some File = node ∙ ap Some is in cc clash
is_file stood.Absent n at is node place = cc node
is_file (stood.Strange there) n at is node place = cc node

-- what is so of the end of each content of a vault
module _ (Ends : reading.Ending → Type 0) (a : OpenedVault) (v : View)
    (ends : (path : plain.Path) (at : Path) → stood.standing (format_of a.vault) (under a.root v) path ≡ stood.File at → Ends (content_at (format_of a.vault).content v (a.root ++ at)).ending)
    (items : List Planned) (walk : IsWalkOf v (side_of a items)) where
  -- is so of that of each file of its plan
  pub each_file : (x : Planned) → Contains items x → x.node ≡ File → Ends (content_at (format_of a.vault).content v x.at).ending
  each_file x among is =
      let p = planned v (side_of a items) walk x among in
      subst (λ (z : Planned). z.node ≡ File → Ends (content_at (format_of a.vault).content v z.at).ending) p.1
      (λ file. ends p.0.path p.0.at (is_file (stood.standing (format_of a.vault) (under a.root v) p.0.path) p.0.node p.0.at file p.2.node p.2.place)) is

  -- also at the mapped paths
  pub each_mapped_file : (names : NameMap) (mapped : List Planned) → IsMappedPlan names items mapped → (x : Planned) → Contains mapped x → x.node ≡ File → Ends (content_at (format_of a.vault).content v x.at).ending
  each_mapped_file names mapped same x among =
      let f = mapped_item names in
      let own = mapped_from f items x (Contains-permutation mapped (map f items) x (IsPermutation-sym (map f items) mapped same.same) among) in
      subst (λ (z : Planned). z.node ≡ File → Ends (content_at (format_of a.vault).content v z.at).ending) own.2 (each_file own.0 own.1)

-- ---- comparing

-- vaults of which one holds all of the other, unless a content passes the limit
pub compares_met : (Chance : MatchFault → Type 0) → Chance match.Failed → Chance match.NoMemory → (o : Outcome Match) → HoldsAllOrTooLong o → ((at : Path) → o ≡ Stops at reading.Wanting → Chance (match.Limit (limit.Length at)))
    → (t : Result Match MatchFault) → Answers o t → MatchResult t IsNoDifference Chance
compares_met Chance failed memory o all long (Ok m) answers = by (subst HoldsAllOrTooLong answers all)
  where
    held : (o : Outcome Match) → o ≡ Is m → HoldsAllBy o → IsNoDifference m
    held _ e AsSame = let same : Same ≡ m = cc e in subst IsNoDifference same tt
    held _ e (AndFurther path) = let same : Contained path ≡ m = cc e in subst IsNoDifference same tt

    by : HoldsAllOrTooLong (Is m) → IsNoDifference m
    by (inl h) = held (Is m) refl h
    by (inr cut) = absurd (cc (cut.1))
compares_met Chance failed memory o all long (Err (match.Damaged at fault)) answers = absurd (by (subst HoldsAllOrTooLong answers all))
  where
    held : (o : Outcome Match) → o ≡ Stops at (reading.Faulty fault) → HoldsAllBy o → ⊥
    held _ e AsSame = cc e
    held _ e (AndFurther path) = cc e

    by : HoldsAllOrTooLong (Stops at (reading.Faulty fault)) → ⊥
    by (inl h) = held (Stops at (reading.Faulty fault)) refl h
    by (inr cut) = absurd (cc (cut.1))
compares_met Chance failed memory o all long (Err (match.Limit (limit.Length at))) answers = long at answers
compares_met Chance failed memory o all long (Err (match.Limit limit.Items)) answers = absurd answers
compares_met Chance failed memory o all long (Err (match.Limit limit.Depth)) answers = absurd answers
compares_met Chance failed memory o all long (Err (match.Limit limit.Input)) answers = absurd answers
compares_met Chance failed memory o all long (Err match.Failed) answers = failed
compares_met Chance failed memory o all long (Err match.NoMemory) answers = memory

-- where no item differs, that is told
pub holds_met : {G : Type 0} (Chance : G → Type 0) (differs : plain.Path → How → G) (m : Match) (answer : Result (Unit {0}) G) → IsNoDifference m → HoldsOr differs m answer → MatchResult answer (λ _. Unit {0}) Chance
holds_met {G = G} Chance differs Same answer none is = subst (λ (x : Result (Unit {0}) G). MatchResult x (λ _. Unit {0}) Chance) (sym is) tt
holds_met {G = G} Chance differs (Contained path) answer none is = subst (λ (x : Result (Unit {0}) G). MatchResult x (λ _. Unit {0}) Chance) (sym is) tt
holds_met Chance differs (Differs path how) answer none is = absurd none
