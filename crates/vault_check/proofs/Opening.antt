-- What opens while strays are moved out of a vault.
use Rattle.std.proofs.Common.{◌≡◌, ◌≢◌, ◌⊎◌, inl, inr, ℕ, Bool, true, false, ◌||◌, cond, List, [], ◌∷◌, ◌++◌, take, None, is_some, IsTrue, Contains, refl, sym, ap, ◌∙◌, subst, append_assoc, append-nil, arith}
use mathlib.Core.Path.{fun_ext}
use Rattle.folder_spec.specs.declared.Spot.{Spot}
use Rattle.folder_spec.specs.declared.Spot.TheVariants.{Nothing, Directory, FileNode, Odd}
use Rattle.folder_spec.specs.Event.{Told}
use Rattle.folder_spec.specs.Image.{Image, IsImage}
use Rattle.folder_spec.specs.Path.{Path, below, child}
use Rattle.folder_spec.specs.Seen.{seen, under}
use Rattle.folder_spec.specs.State.{HasNothingPending, IsAmong, IsClean, IsSound, Node, State, Table, last_of, present, IsTableOf}
use Rattle.folder_spec.specs.View.{NoEntry, View, found, view_of}
use Rattle.folder_spec.proofs.Paths.{begins_or_not, below-append, below-apart, below-both}
use Rattle.folder_spec.proofs.Tables.{present_is_table}
use Rattle.vault_spec.specs.Adding.{OpensAs}
use Rattle.vault_spec.specs.Alike.{HasFolders}
use Rattle.vault_spec.specs.Format.{Format}
use Rattle.vault_spec.specs.Moving.{IsStray, StraysGoAlone, AreStrays, HasSoundFolders, cut}
use Rattle.vault_spec.specs.Reached.{HaveOwnFolders}
use Rattle.vault_values.specs.declared.keys.GoKeys.{GoKeys}
use Rattle.vault_spec.specs.Gocryptfs.{go_format}
use Rattle.vault_spec.specs.Vault.{Vault, Gocryptfs, Cryptomator, format_of}
use Rattle.vault_read.specs.OwnFolders as read
use Rattle.vault_check.specs.Repairing.{AreMoved, AreStraysBehind, HasMoved, HasMovedSome, IsRepairing, Unchanged, Moving, behind, is_gone}
use Rattle.folder_spec.specs.Apart.{AreApart}
use Rattle.vault_check.proofs.Contained.{first_or_later, further, none_within}
use Rattle.vault_check.proofs.MovedTables.{apart_by}

-- ---- the strays that are gone

gone_from : (gone : List Path) (q : Path) → is_gone gone q ≡ true → (at : Path) × (rest : Path) × Contains gone at × (q ≡ at ++ rest)
gone_from [] q went = cc
gone_from (g ∷ gone) q went = by_first (begins_or_not g q) (λ later. gone_from gone q later)
  where
    by_first : ((rest : Path) × (q ≡ g ++ rest)) ⊎ (below g q ≡ None) → (is_gone gone q ≡ true → (at : Path) × (rest : Path) × Contains gone at × (q ≡ at ++ rest))
        → (at : Path) × (rest : Path) × Contains (g ∷ gone) at × (q ≡ at ++ rest)
    by_first (inl (rest, is)) more = (g, rest, (0, omega arith, refl), is)
    by_first (inr none) more =
        let k = more (sym (ap (λ o. is_some o || is_gone gone q) none) ∙ went) in (k.0, k.1, further g gone k.0 k.2, k.3)

or_yes : (b c : Bool) → c ≡ true → (b || c) ≡ true
or_yes true c e = refl
or_yes false c e = e

gone_by : (gone : List Path) (at rest : Path) → Contains gone at → is_gone gone (at ++ rest) ≡ true
gone_by [] at rest there = absurd (none_within at there)
gone_by (g ∷ gone) at rest there = elim (first_or_later g gone at there) as (λ _. is_gone (g ∷ gone) (at ++ rest) ≡ true) [
  | inl same ↦ ap (λ o. is_some o || is_gone gone (at ++ rest)) (ap (λ p. below p (at ++ rest)) same ∙ below-append at rest)
  | inr later ↦ or_yes (is_some (below g (at ++ rest))) (is_gone gone (at ++ rest)) (gone_by gone at rest later)
]

gone_behind : (root : Path) (gone : List Path) (q : Path) → is_gone (behind root gone) (root ++ q) ≡ is_gone gone q
gone_behind root [] q = refl
gone_behind root (g ∷ gone) q =
    ap (λ o. is_some o || is_gone (behind root gone) (root ++ q)) (below-both root g q) ∙ ap (λ b. is_some (below g q) || b) (gone_behind root gone q)

take_behind : (root : Path) (n : ℕ) (gone : List Path) → take n (behind root gone) ≡ behind root (take n gone)
take_behind root ℕ.zero gone = refl
take_behind root (ℕ.suc n) [] = refl
take_behind root (ℕ.suc n) (g ∷ gone) = ap (λ ps. (root ++ g) ∷ ps) (take_behind root n gone)

in_taken : (n : ℕ) (xs : List Path) (x : Path) → Contains (take n xs) x → Contains xs x
in_taken ℕ.zero xs x there = absurd (none_within x there)
in_taken (ℕ.suc n) [] x there = absurd (none_within x there)
in_taken (ℕ.suc n) (y ∷ xs) x there = elim (first_or_later y (take n xs) x there) as (λ _. Contains (y ∷ xs) x) [
  | inl same ↦ (0, omega arith, same)
  | inr later ↦ further y xs x (in_taken n xs x later)
]

are_gone : (f : Format) (v : View) (gone : List Path) → ((at : Path) → Contains gone at → IsStray f v at) → AreStrays f v (is_gone gone)
are_gone f v gone stray = record {
  strays = λ q went.
      let k = gone_from gone q went in
      record { at = k.0; rest = k.1; place = k.3; stray = stray k.0 k.2; went = subst (λ p. IsTrue (is_gone gone p)) (append-nil k.0) (gone_by gone k.0 [] k.2) };
  whole = λ at rest went.
      let k = gone_from gone at went in
      subst (λ p. IsTrue (is_gone gone p)) (sym (append_assoc k.0 k.1 rest) ∙ ap (λ p. p ++ rest) (sym k.3)) (gone_by gone k.0 (k.1 ++ rest) k.2);
}

-- ---- views

-- where each file shows the bytes that it had
abbrev AsThen : State → (ℕ → List ℕ) → Type 0
AsThen s0 bytes = (n : ℕ) → bytes n ≡ (s0.nodes n).now

found_as_then : (s0 : State) (bytes : ℕ → List ℕ) → AsThen s0 bytes → (x : Spot) → found bytes x ≡ found (λ n. (s0.nodes n).now) x
found_as_then s0 bytes same Nothing = refl
found_as_then s0 bytes same Directory = refl
found_as_then s0 bytes same Odd = refl
found_as_then s0 bytes same (FileNode n) = ap (λ b. found (λ _. b) (FileNode n)) (same n)

module _ (root lost : Path) (apart : AreApart root lost) (f : Format) (alone : StraysGoAlone f) (s0 : State) (own : HasSoundFolders f (under root (seen s0))) (bytes : ℕ → List ℕ) (same : AsThen s0 bytes) where
  -- the view of a table in the vault
  abbrev pub view_at : Table → View
  view_at t = λ rest. found bytes (t (root ++ rest))

  cut_by : (t : Table) (gone : List Path) → HasMoved lost (behind root gone) t (present s0) → view_at t ≡ cut (is_gone gone) (under root (seen s0))
  cut_by t gone h = fun_ext (λ rest.
      let here : t (root ++ rest) ≡ cond (is_gone gone rest) Nothing (present s0 (root ++ rest)) =
      h.others (root ++ rest) (apart_by lost (root ++ rest) (below-apart lost root rest apart.other apart.one))
      ∙ ap (λ b. cond b Nothing (present s0 (root ++ rest))) (gone_behind root gone rest) in
      ap (found bytes) here ∙ by_gone (is_gone gone rest) (present s0 (root ++ rest)))
    where
      by_gone : (b : Bool) (x : Spot) → found bytes (cond b Nothing x) ≡ cond b NoEntry (found (λ n. (s0.nodes n).now) x)
      by_gone true x = refl
      by_gone false x = found_as_then s0 bytes same x

  pub opens_cut : (paths : List Path) → AreStraysBehind root f (under root (seen s0)) paths → (t : Table) → HasMovedSome lost paths t (present s0) → OpensAs f (under root (seen s0)) (view_at t)
  opens_cut paths are t h =
      let gone : List Path = take h.count are.strays in
      let is : take h.count paths ≡ behind root gone = ap (take h.count) are.behind_root ∙ take_behind root h.count are.strays in
      subst (OpensAs f (under root (seen s0))) (sym (cut_by t gone (subst (λ ps. HasMoved lost ps t (present s0)) is h.moved)))
      (alone.opens (under root (seen s0)) (is_gone gone) own (are_gone f (under root (seen s0)) gone (λ at there. ((are.are.each at).0 (in_taken h.count are.strays at there)).stray)))

  pub opens_same : (t : Table) → ((p : Path) → t p ≡ present s0 p) → OpensAs f (under root (seen s0)) (view_at t)
  opens_same t alike = subst (OpensAs f (under root (seen s0))) (fun_ext (λ rest. sym (ap (found bytes) (alike (root ++ rest)) ∙ found_as_then s0 bytes same (present s0 (root ++ rest))))) (λ path. refl)

-- ---- images

vault_folders : (root : Path) (s : State) → IsSound s → HasFolders (under root (seen s))
vault_folders root s sound p a there =
    let t : Table = present s in
    let place : child (root ++ p) a ≡ root ++ child p a = append_assoc root p (a ∷ []) in
    let stands : present s (child (root ++ p) a) ≢ Nothing = λ none. there (ap (found (λ n. (s.nodes n).now)) (ap (present s) (sym place) ∙ none)) in
    ap (found (λ n. (s.nodes n).now)) ((sound.tables (present s) (present_is_table s)).parents (root ++ p) a stands)

own_folders : (vault : Vault) → ((keys : GoKeys) (v : View) → HaveOwnFolders (go_format keys) v) → (v : View) → HasFolders v → read.HasOwnFolders vault v → HasSoundFolders (format_of vault) v
own_folders (Gocryptfs keys) law v folders own = record { folders = folders; own = law keys v }
own_folders (Cryptomator cm) law v folders own = record { folders = folders; own = own }

pub images_open : (vault : Vault) (root lost : Path) (s0 s : State) (image : Image) → StraysGoAlone (format_of vault) → ((keys : GoKeys) (v : View) → HaveOwnFolders (go_format keys) v)
    → IsSound s0 → HasNothingPending s0 → AreApart root lost → read.HasOwnFolders vault (under root (seen s0)) → IsRepairing root (format_of vault) lost s0 s → IsImage s image
    → OpensAs (format_of vault) (under root (seen s0)) (under root (view_of image))
images_open vault root lost s0 s image alone law sound settled apart own repairing shown = by_case repairing
  where
    owned : HasSoundFolders (format_of vault) (under root (seen s0))
    owned = own_folders vault law (under root (seen s0)) (vault_folders root s0 sound) own

    as_then : s.nodes ≡ s0.nodes → AsThen s0 image.bytes
    as_then same n =
        let node : s.nodes n ≡ s0.nodes n = ap (λ nodes. nodes n) same in
        (shown.bytes n).whole (subst IsClean (sym node) (settled.clean n)) ∙ ap (λ (x : Node). x.now) node

    only_table : (t : Table) → IsTableOf s0 t → (p : Path) → t p ≡ present s0 p
    only_table t (inl kept) p = ap (λ u. u p) kept ∙ ap (λ us. last_of s0.kept us p) (sym settled.settled)
    only_table t (inr later) p = absurd (subst (IsAmong t) settled.settled later)

    by_case : IsRepairing root (format_of vault) lost s0 s → OpensAs (format_of vault) (under root (seen s0)) (under root (view_of image))
    by_case (Unchanged same) =
        opens_same root lost apart (format_of vault) alone s0 owned image.bytes (as_then (ap (λ (x : State). x.nodes) same)) image.table
        (only_table image.table (subst (λ x. IsTableOf x image.table) same shown.table))
    by_case (Moving paths are moving) = by_table (moving.tables image.table shown.table)
      where
        by_table : IsTableOf s0 image.table ⊎ HasMovedSome lost paths image.table (present s0) → OpensAs (format_of vault) (under root (seen s0)) (under root (view_of image))
        by_table (inl before) =
            opens_same root lost apart (format_of vault) alone s0 owned image.bytes (as_then moving.nodes) image.table (only_table image.table before)
        by_table (inr some) = opens_cut root lost apart (format_of vault) alone s0 owned image.bytes (as_then moving.nodes) paths are image.table some

-- ---- when all are moved

nothing_behind : (root : Path) (strays : List Path) → behind root strays ≡ [] → strays ≡ []
nothing_behind root [] e = refl
nothing_behind root (s ∷ strays) e = cc

pub repaired_opens : (vault : Vault) (root lost : Path) (moved : List Path) (a b : Told) → StraysGoAlone (format_of vault) → ((keys : GoKeys) (v : View) → HaveOwnFolders (go_format keys) v)
    → IsSound a.state → AreApart root lost → read.HasOwnFolders vault (under root (seen a.state)) → AreMoved root (format_of vault) lost moved a b
    → OpensAs (format_of vault) (under root (seen a.state)) (under root (seen b.state)) × ((at : Path) → ¬ IsStray (format_of vault) (under root (seen b.state)) at)
repaired_opens vault root lost moved a b alone law sound apart own h = by_moved moved refl
  where
    owned : HasSoundFolders (format_of vault) (under root (seen a.state))
    owned = own_folders vault law (under root (seen a.state)) (vault_folders root a.state sound) own

    -- with folders of their own no stray is below another
    is_among : (at : Path) → IsStray (format_of vault) (under root (seen a.state)) at → Contains h.are.strays at
    is_among at stray = (h.are.are.each at).1 (record {
      stray = stray;
      outer = λ front x rest place above. alone.apart (under root (seen a.state)) front x rest owned above (subst (IsStray (format_of vault) (under root (seen a.state))) place stray);
    })

    by_moved : (paths : List Path) → moved ≡ paths → OpensAs (format_of vault) (under root (seen a.state)) (under root (seen b.state)) × ((at : Path) → ¬ IsStray (format_of vault) (under root (seen b.state)) at)
    by_moved [] none =
        let same : b.state ≡ a.state = h.repaired.nothing none in
        let no_strays : h.are.strays ≡ [] = nothing_behind root h.are.strays (sym h.are.behind_root ∙ none) in
        subst (λ s. OpensAs (format_of vault) (under root (seen a.state)) (under root (seen s)) × ((at : Path) → ¬ IsStray (format_of vault) (under root (seen s)) at)) (sym same)
        (λ path. refl, λ at stray. none_within at (subst (λ xs. Contains xs at) no_strays (is_among at stray)))
    by_moved (m ∷ more) some =
        let there : moved ≢ [] = λ none. (let clash : m ∷ more ≡ [] = sym some ∙ none in cc) in
        let as_then : AsThen a.state (λ n. (b.state.nodes n).now) = λ n. ap (λ nodes. (nodes n).now) h.unwritten in
        let gone = are_gone (format_of vault) (under root (seen a.state)) h.are.strays (λ at found. ((h.are.are.each at).0 found).stray) in
        let is : view_at root lost apart (format_of vault) alone a.state owned (λ n. (b.state.nodes n).now) as_then (present b.state) ≡ cut (is_gone h.are.strays) (under root (seen a.state)) =
        cut_by root lost apart (format_of vault) alone a.state owned (λ n. (b.state.nodes n).now) as_then (present b.state) h.are.strays
        (subst (λ ps. HasMoved lost ps (present b.state) (present a.state)) h.are.behind_root (h.repaired.moves there)) in
        subst (λ v. OpensAs (format_of vault) (under root (seen a.state)) v × ((at : Path) → ¬ IsStray (format_of vault) v at)) (sym is) (
          alone.opens (under root (seen a.state)) (is_gone h.are.strays) owned gone,
          alone.none (under root (seen a.state)) (is_gone h.are.strays) owned gone
              (λ at stray. subst (λ p. IsTrue (is_gone h.are.strays p)) (append-nil at) (gone_by h.are.strays at [] (is_among at stray))),
        )
