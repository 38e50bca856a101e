-- The next level of a walk, found one directory after the other.
use Rattle.std.proofs.Common.{◌≡◌, ◌≢◌, ◌<◌, ℕ, zero, suc, List, [], ◌∷◌, ◌++◌, Ok, sym, ap, ◌∙◌, subst, length, arith, append-nil, append_assoc, Contains, get_or, ⊎_elim}
use Rattle.std.proofs.lemmas.List.Elements.{Contains-append_left, Contains-append_cases, Contains-get_or}
use Rattle.std.proofs.lemmas.List.Quantifiers.{all_pairs_push}
use Rattle.folder_spec.specs.Path.{Path}
use Rattle.folder_spec.specs.View.{View}
use Rattle.vault_spec.specs.Format.{Format, Directory}
use Rattle.vault_spec.specs.Reached.{Leads}
use Rattle.vault_spec.specs.Standing.{Dir, standing_in}
use Rattle.vault_walk.specs.Walking.{Way, IsAmong, AreApart, HasGrown}

none_contained : (way : Way) → Contains [] way → ⊥
none_contained way a = let none : a.0 < 0 = a.1 in omega (arith, none)

last_is : (way x : Way) → Contains (way ∷ []) x → way ≡ x
last_is way x (zero, less, is) = is
last_is way x (suc k, less, is) = let none : suc k < suc 0 = less in absurd (omega (arith, none))

-- at first none was visited
pub growth_begins : (f : Format) (v : View) (steps : ℕ) (seen : List Way) → AreApart seen → HasGrown f v steps seen [] []
growth_begins f v steps seen apart = record {
  leads = λ way found. absurd (none_contained way found);
  level = λ way found. absurd (none_contained way found);
  fresh = λ way found. absurd (none_contained way found);
  apart = subst AreApart (sym (append-nil seen)) apart;
  covers = λ way found name at dir stands. absurd (none_contained way found);
}

-- what is among a list is among a longer one
among_more : (seen next : List Way) (way : Way) (dir : Directory) → IsAmong (seen ++ next) dir → IsAmong (seen ++ (next ++ way ∷ [])) dir
among_more seen next way dir a = subst (λ ways. IsAmong ways dir) (append_assoc seen next (way ∷ [])) (a.0, Contains-append_left (seen ++ next) (way ∷ []) a.0 a.1, a.2)

-- a way to a new directory comes to it
pub growth_gains : (f : Format) (v : View) (steps : ℕ) (seen visited next : List Way) (way : Way) → HasGrown f v steps seen visited next → Leads f v way.path way.dir → length way.path ≡ suc steps
    → ¬ IsAmong (seen ++ next) way.dir → HasGrown f v steps seen visited (next ++ way ∷ [])
growth_gains f v steps seen visited next way grown leads size new = record {
  leads = λ w found. ⊎_elim (λ old. grown.leads w old) (λ last. subst (λ x. Leads f v x.path x.dir) (last_is way w last) leads) (Contains-append_cases next (way ∷ []) w found);
  level = λ w found. ⊎_elim (λ old. grown.level w old) (λ last. ap (λ (x : Way). length x.path) (sym (last_is way w last)) ∙ size) (Contains-append_cases next (way ∷ []) w found);
  fresh = λ w found among. ⊎_elim (λ old. grown.fresh w old among) (λ last. new_here w (last_is way w last) among) (Contains-append_cases next (way ∷ []) w found);
  apart = subst AreApart (append_assoc seen next (way ∷ []))
      (all_pairs_push (λ (x y : Way). x.dir ≢ y.dir) (seen ++ next) way grown.apart (λ k d less same. new (get_or (seen ++ next) k d, Contains-get_or (seen ++ next) k d less, same)));
  covers = λ w found name at dir stands. among_more seen next way dir (grown.covers w found name at dir stands);
}
  where
    new_here : (w : Way) → way ≡ w → IsAmong seen w.dir → ⊥
    new_here w same among = new (among.0, Contains-append_left seen next among.0 among.1, among.2 ∙ ap (λ (x : Way). x.dir) (sym same))

-- one more of the level was visited, whose directories are all there
pub growth_visits : (f : Format) (v : View) (steps : ℕ) (seen visited next : List Way) (way : Way) → HasGrown f v steps seen visited next
    → ((name : List ℕ) (at : Path) (dir : Directory) → standing_in f v way.dir name ≡ Dir at (Ok dir) → IsAmong (seen ++ next) dir) → HasGrown f v steps seen (visited ++ way ∷ []) next
growth_visits f v steps seen visited next way grown all = record {
  leads = grown.leads;
  level = grown.level;
  fresh = grown.fresh;
  apart = grown.apart;
  covers = λ w found name at dir stands. ⊎_elim
      (λ old. grown.covers w old name at dir stands)
      (λ last. all name at dir (ap (λ (x : Way). standing_in f v x.dir name) (last_is way w last) ∙ stands))
      (Contains-append_cases visited (way ∷ []) w found);
}
