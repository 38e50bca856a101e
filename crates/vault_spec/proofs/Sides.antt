-- An edit beside an item leaves what opens, in any vault. In one that isn't orderly a directory that couldn't be entered may be entered
-- once its folder comes; but nothing stands in that.
use Rattle.std.proofs.Common.{◌≡◌, ◌≢◌, ◌⊎◌, ℕ, Bool, true, false, List, [], ◌∷◌, ◌++◌, Ok, Err, Result, cond, refl, sym, ap, ◌∙◌, inl, inr, subst, append_assoc, Some, Option}
use Rattle.folder_spec.specs.Path.{Path, child}
use Rattle.folder_spec.specs.View.{NoEntry, Folder, View}
use Rattle.folder_spec.specs.Seen.{under}
use Rattle.folder_spec.specs.Edit.{Edit, edited}
use Rattle.folder_spec.proofs.Edits.{off_edit}
use Rattle.folder_spec.proofs.Paths.{begins_or_not}
use Rattle.plain_tree.specs.Names as plain
use Rattle.plain_tree.specs.Names.{is_name}
use Rattle.vault_spec.specs.declared.Lack.{Lack}
use Rattle.vault_spec.specs.declared.Lack.TheVariants.{NoFolder}
use Rattle.vault_spec.specs.Format.{Format, Directory, is_folder, key_of}
use Rattle.vault_spec.specs.Standing.{Standing, Absent, Strange, File, Dir, root_of, directory_with, entry_at, item_at, standing_of, standing_in, standing_from, standing}
use Rattle.vault_spec.specs.Opens.{opened, opened_at}
use Rattle.vault_spec.specs.Adding.{OpensAs}
use Rattle.vault_spec.specs.Reached.{Leads}
use Rattle.vault_spec.specs.Alike.{HasNoItem, AreAlike, IsEmptyIn}
use Rattle.vault_spec.proofs.Lawful.{IsLawful}
use Rattle.vault_spec.proofs.Steps.{along, behind_no_item, opens_alike}
use Rattle.vault_spec.proofs.Grafts.{reached_right, edited_adds, edited_entry, none_stands, standing_named, standing_unnamed, EntryStays, entry_stays, IsEntered, is_entered, stands_on}
use Rattle.vault_spec.proofs.Clean.{StandsAs, stands_as}
use Rattle.vault_spec.proofs.Places.{none_or_there, brought, root_stays, IsSide}

-- a directory that couldn't be entered is a directory still, and no item stands in it
pub record IsStillADirectory (f : Format) (w : View) (one other : Standing) : Type 0 where
  pub at : Path
  pub lack : Lack
  pub directory : Result Directory Lack
  pub was : one ≡ Dir at (Err lack)
  pub now : other ≡ Dir at directory
  pub empty : IsEmptyIn f w directory

abbrev pub OpenAlike : Format → View → View → Standing → Standing → Type 0
OpenAlike f v w one other = AreAlike v w one other ⊎ IsStillADirectory f w one other

opens_there : (f : Format) (v w : View) (one other : Standing) → OpenAlike f v w one other → opened_at f v one ≡ opened_at f w other
opens_there f v w one other (inl alike) = opens_alike f v w one other alike
opens_there f v w one other (inr still) = ap (opened_at f v) still.was ∙ sym (ap (opened_at f w) still.now)

-- behind it is nothing in either
behind_still : (f : Format) (v w : View) (one other : Standing) (rest : plain.Path) → IsStillADirectory f w one other → OpenAlike f v w (standing_from f v one rest) (standing_from f w other rest)
behind_still f v w one other [] still = inr still
behind_still f v w one other (n ∷ rest) still = inl (inr (
  subst (λ s. HasNoItem (standing_from f v s (n ∷ rest))) (sym still.was) (record {}),
  subst (λ s. HasNoItem (standing_from f w s (n ∷ rest))) (sym still.now) (in_it still.directory still.empty),
))
  where
    in_it : (directory : Result Directory Lack) → IsEmptyIn f w directory → HasNoItem (standing_from f w (Dir still.at directory) (n ∷ rest))
    in_it (Ok dir) empty = behind_no_item f w (standing_in f w dir n) rest (empty n)
    in_it (Err lack) empty = record {}

open_alike_from : (f : Format) (v w : View) (front : plain.Path) (here : Standing) (rest : plain.Path) → standing f v front ≡ here
    → ((path : plain.Path) (dir : Directory) (name : List ℕ) → Leads f v path dir → OpenAlike f v w (standing_in f v dir name) (standing_in f w dir name))
    → ((at : Path) → here ≡ File at → v at ≡ w at)
    → OpenAlike f v w (standing_from f v here rest) (standing_from f w here rest)
open_alike_from f v w front here [] is steps bytes = inl (inl (record { stands = refl; bytes = bytes }))
open_alike_from f v w front Absent (n ∷ rest) is steps bytes = inl (inr (record {}, record {}))
open_alike_from f v w front (Strange at) (n ∷ rest) is steps bytes = inl (inr (record {}, record {}))
open_alike_from f v w front (File at) (n ∷ rest) is steps bytes = inl (inr (record {}, record {}))
open_alike_from f v w front (Dir at (Err e)) (n ∷ rest) is steps bytes = inl (inr (record {}, record {}))
open_alike_from f v w front (Dir at (Ok dir)) (n ∷ rest) is steps bytes = elim (steps front dir n (record { at = at; stands = is })) [
  | inl alike ↦ elim alike [
    | inl same ↦ subst (λ t. OpenAlike f v w (standing_from f v (standing_in f v dir n) rest) (standing_from f w t rest)) same.stands
        (open_alike_from f v w (front ++ n ∷ []) (standing_in f v dir n) rest (along f v (root_of f v) dir at front n is) steps same.bytes)
    | inr none ↦ inl (inr (behind_no_item f v (standing_in f v dir n) rest none.0, behind_no_item f w (standing_in f w dir n) rest none.1))
  ]
  | inr still ↦ behind_still f v w (standing_in f v dir n) (standing_in f w dir n) rest still
]

-- whether it is a directory that can't be entered
locked_or_not : (s : Standing) → ((at : Path) × (lack : Lack) × (s ≡ Dir at (Err lack))) ⊎ ((at : Path) (lack : Lack) → s ≢ Dir at (Err lack))
locked_or_not Absent = inr (λ at lack e. cc)
locked_or_not (Strange place) = inr (λ at lack e. cc)
locked_or_not (File place) = inr (λ at lack e. cc)
locked_or_not (Dir place (Ok dir)) = inr (λ at lack e. cc)
locked_or_not (Dir place (Err lack)) = inl (place, lack, refl)

empty_in : (f : Format) (w : View) (directory : Result Directory Lack) → ((dir : Directory) → directory ≡ Ok dir → (name : List ℕ) → HasNoItem (standing_in f w dir name)) → IsEmptyIn f w directory
empty_in f w (Ok dir) empty = empty dir refl
empty_in f w (Err lack) empty = record {}

-- a folder that stands is the directory's
entered_there : (f : Format) (v : View) (at : Path) (dir : Directory) (lack : Lack) → dir.folder ≡ f.folder_of at dir.key → v dir.folder ≡ Folder → directory_with f v at (Some dir.key) ≢ Err lack
entered_there f v at dir lack form there locked =
    let entered : directory_with f v at (Some dir.key) ≡ Ok (record { folder = f.folder_of at dir.key; key = dir.key })
    = ap (λ x. cond {A = Result Directory Lack} (is_folder x) (Ok (record { folder = f.folder_of at dir.key; key = dir.key })) (Err NoFolder)) (ap v (sym form) ∙ there) in
    let clash : ◌≡◌ {A = Result Directory Lack} (Ok (record { folder = f.folder_of at dir.key; key = dir.key })) (Err lack) = sym entered ∙ locked in
    cc

-- a folder that comes is empty
folder_empty : (f : Format) (lawful : IsLawful f) (v : View) (e : Edit) → IsSide f lawful v e → (at : Path) (key : Option (List ℕ)) (lack : Lack) (dir : Directory)
    → directory_with f v at key ≡ Err lack → directory_with f (edited v e) at key ≡ Ok dir → (name : List ℕ) → HasNoItem (standing_in f (edited v e) dir name)
folder_empty f lawful v e side at key lack dir locked now name =
    none_stands f lawful (edited v e) dir name (elim (none_or_there (v dir.folder)) [
      | inr there ↦ absurd (was_not (sym (edited_adds v e side.rooted.folders side.free dir.folder there) ∙ entered.there))
      | inl none ↦ elim (begins_or_not e.at dir.folder) [
        | inr apart ↦ let clash : Folder ≡ NoEntry = sym entered.there ∙ off_edit v e dir.folder apart ∙ none in cc
        | inl k ↦ ap (λ p. edited v e (child p (f.stored dir.key name).name)) k.1
            ∙ ap (edited v e) (append_assoc e.at k.0 ((f.stored dir.key name).name ∷ [])) ∙ brought v e (child k.0 (f.stored dir.key name).name) ∙ side.alone k.0 (f.stored dir.key name).name
      ]
    ])
  where
    entered : IsEntered f (edited v e) at key dir
    entered = is_entered f (edited v e) at key dir now

    was_not : v dir.folder ≡ Folder → ⊥
    was_not there = entered_there f v at dir lack entered.form there (ap (directory_with f v at) (sym entered.its_key) ∙ locked)

side_step : (f : Format) (lawful : IsLawful f) (v : View) (e : Edit) → IsSide f lawful v e → (path : plain.Path) (dir : Directory) (name : List ℕ) → Leads f v path dir
    → OpenAlike f v (edited v e) (standing_in f v dir name) (standing_in f (edited v e) dir name)
side_step f lawful v e side path dir name leads = by_name (is_name name) refl
  where
    still : is_name name ≡ true → v (entry_at f dir name) ≢ NoEntry → (at : Path) (lack : Lack) → standing_in f v dir name ≡ Dir at (Err lack)
        → IsStillADirectory f (edited v e) (standing_in f v dir name) (standing_in f (edited v e) dir name)
    still named there at lack locked =
        let how : StandsAs f v dir name at (Err lack) = stands_as f v dir name at (Err lack) locked in
        let as_was : EntryStays f v (edited v e) dir (f.stored dir.key name) = entry_stays f lawful v e path dir name side.rooted.folders side.free leads there (side.spares.entries path dir name leads named there) in
        record {
          at = entry_at f dir name;
          lack = lack;
          directory = directory_with f (edited v e) (entry_at f dir name) (key_of f (under (entry_at f dir name) (edited v e)));
          was = locked ∙ ap (λ p. Dir p (Err lack)) how.place;
          now = standing_named f (edited v e) dir name named
              ∙ ap (λ b. standing_of f (edited v e) (entry_at f dir name) b (item_at f (edited v e) dir (f.stored dir.key name))) (sym as_was.full ∙ how.held)
              ∙ ap (standing_of f (edited v e) (entry_at f dir name) true) (sym as_was.item ∙ how.item);
          empty = empty_in f (edited v e) (directory_with f (edited v e) (entry_at f dir name) (key_of f (under (entry_at f dir name) (edited v e))))
              (λ d now. folder_empty f lawful v e side (entry_at f dir name) (key_of f (under (entry_at f dir name) (edited v e))) lack d
              (ap (directory_with f v (entry_at f dir name)) (sym as_was.key) ∙ how.entered) now);
        }

    by_name : (b : Bool) → is_name name ≡ b → OpenAlike f v (edited v e) (standing_in f v dir name) (standing_in f (edited v e) dir name)
    by_name false is = inl (inr (subst HasNoItem (sym (standing_unnamed f v dir name is)) (record {}), subst HasNoItem (sym (standing_unnamed f (edited v e) dir name is)) (record {})))
    by_name true is = elim (none_or_there (v (entry_at f dir name))) [
      | inl none ↦ inl (inr (
        none_stands f lawful v dir name none,
        none_stands f lawful (edited v e) dir name
            (edited_entry v e side.rooted.folders side.free dir.folder (f.stored dir.key name).name (λ z. let folder : v dir.folder ≡ Folder = (reached_right f lawful v path dir leads).there in cc)
            (side.no_entry path dir name leads is) ∙ none),
      ))
      | inr there ↦ elim (locked_or_not (standing_in f v dir name)) [
        | inl locked ↦ inr (still is there locked.0 locked.1 locked.2)
        | inr entered ↦ inl (inl (stands_on f lawful v e path dir name side.rooted.folders entered side.free leads there (side.spares.entries path dir name leads is there)))
      ]
    ]

-- all opens as it opened
pub side_opens : (f : Format) (lawful : IsLawful f) (v w : View) (e : Edit) → OpensAs f w v → IsSide f lawful v e → OpensAs f w (edited v e)
unfolding opened
side_opens f lawful v w e as_before side path =
    sym (opens_there f v (edited v e) (standing f v path) (standing f (edited v e) path)
    (subst (λ r. OpenAlike f v (edited v e) (standing f v path) (standing_from f (edited v e) r path)) (root_stays f lawful v e side.rooted side.free side.spares)
    (open_alike_from f v (edited v e) [] (root_of f v) path refl (side_step f lawful v e side) (λ at is. cc))))
    ∙ as_before path
