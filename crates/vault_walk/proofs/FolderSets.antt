-- The set of the folders of directories.
use Rattle.std.proofs.Common.{◌≡◌, ◌⊎◌, ◌↔◌, inl, inr, Bool, true, false, cond, List, [], ◌∷◌, ◌++◌, refl, sym, ap, ◌∙◌}
use Rattle.std.specs.Prelude.{IsTrue, Contains}
use Rattle.std.specs.BTreeMap.{is_at}
use Rattle.std.specs.BTreeSet.{BTreeSet, contains}
use Rattle.std.specs.Ordering.{is_eq}
use Rattle.std.proofs.lemmas.List.Elements.{Contains-append_left, Contains-push, Contains-push_cases}
use Rattle.folder_model.specs.Order.{path_cmp}
use Rattle.folder_spec.specs.Path.{Path}
use Rattle.vault_walk.specs.Walking.{Way}
use Rattle.vault_walk.proofs.NodeOrders.{one_path, path_tied}

abbrev pub AreFoldersOf : BTreeSet Path → List Way → Type 0
AreFoldersOf folders ways = (at : Path) → IsTrue (contains path_cmp folders at) ↔ ((way : Way) × Contains ways way × (way.dir.folder ≡ at))

-- the folder of one directory more
pub one_folder_more : (folders after : BTreeSet Path) (ways : List Way) (way : Way) (key : Path) → key ≡ way.dir.folder
    → ((q : Path) → contains path_cmp after q ≡ cond (is_at (path_cmp key) q) true (contains path_cmp folders q)) → AreFoldersOf folders ways → AreFoldersOf after (ways ++ way ∷ [])
one_folder_more folders after ways way key is updates old at = (
  λ has. on (is_at (path_cmp key) at) refl (sym (updates at) ∙ has),
  λ one. updates at ∙ by_place one.0 one.2 (Contains-push_cases ways way one.0 one.1),
)
  where
    on : (b : Bool) → is_at (path_cmp key) at ≡ b → cond b true (contains path_cmp folders at) ≡ true → (w : Way) × Contains (ways ++ way ∷ []) w × (w.dir.folder ≡ at)
    on true same has = (way, Contains-push ways way, sym is ∙ one_path key at same)
    on false same has = let one = (old at).0 has in (one.0, Contains-append_left ways (way ∷ []) one.0 one.1, one.2)

    either : (b c : Bool) → c ≡ true → cond b true c ≡ true
    either true c e = refl
    either false c e = e

    by_place : (w : Way) → w.dir.folder ≡ at → Contains ways w ⊎ (way ≡ w) → cond (is_at (path_cmp key) at) true (contains path_cmp folders at) ≡ true
    by_place w folder (inl first) = either (is_at (path_cmp key) at) (contains path_cmp folders at) ((old at).1 (w, first, folder))
    by_place w folder (inr same) =
        let its : key ≡ at = is ∙ ap (λ (x : Way). x.dir.folder) same ∙ folder in
        ap (λ b. cond b true (contains path_cmp folders at)) (ap (λ k. is_eq (path_cmp k at)) its ∙ ap is_eq (path_tied at))
