-- A region of paths that calls leave as it was, and one path there that gets a new file.
use Rattle.std.proofs.Common.{◌≡◌, ◌≢◌, ◌⊎◌, ℕ, ◌<◌, ◌≤◌, Bool, true, false, IsTrue, List, None, refl, sym, ap, ◌∙◌, subst, inl, inr, arith, cond, ne_eqb, nat_lt, ltb-true, lt-ltb}
use Rattle.folder_spec.specs.Path.{Path, below}
use Rattle.folder_spec.specs.State.{Spot, Nothing, Directory, FileNode, Odd, Table, Node, State, present, IsTableOf, IsNothingOrFile, put, moved, put_node, IsSoundTable, IsSound}
use Rattle.folder_spec.specs.Event.{Call, MakeDir, Create, Append, Sync, Settle, Rename, RemoveFile, RemoveDir, with_table, with_file, grown, synced, empty_node, changed}
use Rattle.folder_spec.specs.Image.{Image, IsLeftOf, IsImage}
use Rattle.folder_spec.specs.View.{FileOf, found, view_of, AgreeIn}
use Rattle.folder_spec.specs.Seen.{seen}
use Rattle.folder_spec.specs.Region.{Spares, AlikeIn, IsAsBefore, WritesOnlyNew, HasOldOrFile, PutsOnlyFiles}
use Rattle.folder_spec.proofs.Paths.{one_or_not, begins_or_not}
use Rattle.folder_spec.proofs.Tables.{put-same, put-other, moved-old, moved-other, present_is_table, among-push, last_of-push}

-- what a call leaves at all paths that it spares: each table afterwards has there what a table before had
pub spared_tables : (region : Path → Bool) (s : State) (call : Call) → Spares region call → (t : Table) → IsTableOf (changed s call) t
    → (u : Table) × IsTableOf s u × AlikeIn region t u
spared_tables region s call spares t is_table = by_call call spares is_table
  where
    same : IsTableOf s t → (u : Table) × IsTableOf s u × AlikeIn region t u
    same h = (t, h, λ q inside. refl)

    new_table : (v : Table) → AlikeIn region v (present s) → IsTableOf (with_table s v) t → (u : Table) × IsTableOf s u × AlikeIn region t u
    new_table v alike h = elim h as (λ _. (u : Table) × IsTableOf s u × AlikeIn region t u) [
      | inl e ↦ same (inl e)
      | inr more ↦ elim (among-push t v s.later more) as (λ _. (u : Table) × IsTableOf s u × AlikeIn region t u) [
        | inl old ↦ same (inr old)
        | inr e ↦ (present s, present_is_table s, λ q inside. ap (λ w. w q) e ∙ alike q inside)
      ]
    ]

    file_changed : (x : Spot) (change : Node → Node) → IsTableOf (with_file s x change) t → (u : Table) × IsTableOf s u × AlikeIn region t u
    file_changed Nothing change h = same h
    file_changed Directory change h = same h
    file_changed Odd change h = same h
    file_changed (FileNode n) change h = same h

    by_call : (call : Call) → Spares region call → IsTableOf (changed s call) t → (u : Table) × IsTableOf s u × AlikeIn region t u
    by_call (MakeDir p) apart h = new_table (put (present s) p Directory) (λ q inside. put-other (present s) p Directory q (apart q inside)) h
    by_call (Create p) apart h = new_table (put (present s) p (FileNode s.made)) (λ q inside. put-other (present s) p (FileNode s.made) q (apart q inside)) h
    by_call (Append p piece) apart h = file_changed (present s p) (grown piece) h
    by_call (Sync p) apart h = file_changed (present s p) synced h
    by_call Settle apart h = elim h as (λ _. (u : Table) × IsTableOf s u × AlikeIn region t u) [
      | inl e ↦ (present s, present_is_table s, λ q inside. ap (λ w. w q) e)
      | inr none ↦ absurd none
    ]
    by_call (Rename old new) apart h =
        new_table (moved (present s) old new) (λ q inside. moved-other (present s) old new q (apart q inside).0 (apart q inside).1) h
    by_call (RemoveFile p) apart h = new_table (put (present s) p Nothing) (λ q inside. put-other (present s) p Nothing q (apart q inside)) h
    by_call (RemoveDir p) apart h = new_table (put (present s) p Nothing) (λ q inside. put-other (present s) p Nothing q (apart q inside)) h

-- and the present table has there what was present
pub spared_present : (region : Path → Bool) (s : State) (call : Call) → Spares region call → AlikeIn region (present (changed s call)) (present s)
spared_present region s call spares q inside = by_call call spares
  where
    file_changed : (x : Spot) (change : Node → Node) → present (with_file s x change) q ≡ present s q
    file_changed Nothing change = refl
    file_changed Directory change = refl
    file_changed Odd change = refl
    file_changed (FileNode n) change = refl

    new_table : (v : Table) → v q ≡ present s q → present (with_table s v) q ≡ present s q
    new_table v e = ap (λ w. w q) (last_of-push s.kept s.later v) ∙ e

    by_call : (call : Call) → Spares region call → present (changed s call) q ≡ present s q
    by_call (MakeDir p) apart = new_table (put (present s) p Directory) (put-other (present s) p Directory q (apart q inside))
    by_call (Create p) apart = new_table (put (present s) p (FileNode s.made)) (put-other (present s) p (FileNode s.made) q (apart q inside))
    by_call (Append p piece) apart = file_changed (present s p) (grown piece)
    by_call (Sync p) apart = file_changed (present s p) synced
    by_call Settle apart = refl
    by_call (Rename old new) apart =
        new_table (moved (present s) old new) (moved-other (present s) old new q (apart q inside).0 (apart q inside).1)
    by_call (RemoveFile p) apart = new_table (put (present s) p Nothing) (put-other (present s) p Nothing q (apart q inside))
    by_call (RemoveDir p) apart = new_table (put (present s) p Nothing) (put-other (present s) p Nothing q (apart q inside))

pub as_before : (region : Path → Bool) (s : State) → IsAsBefore region s s
as_before region s =
    record { tables = λ t h. (t, h, λ q inside. refl); seen = λ q inside. refl; nodes = λ n h. refl; made = omega arith }

-- what was as before in a larger region, and then in a smaller one
pub as_before_then : (region within : Path → Bool) (s0 s1 s : State) → ((q : Path) → IsTrue (region q) → IsTrue (within q)) → IsAsBefore region s0 s1 → IsAsBefore within s1 s
    → IsAsBefore region s0 s
as_before_then region within s0 s1 s more first second = record {
  tables = λ t is_table.
      let mid : (u : Table) × IsTableOf s1 u × AlikeIn within t u = second.tables t is_table in
      let old : (w : Table) × IsTableOf s0 w × AlikeIn region mid.0 w = first.tables (mid.0) mid.1 in
      (old.0, old.1, λ q inside. mid.2 q (more q inside) ∙ old.2 q inside);
  seen = λ q inside. second.seen q (more q inside) ∙ first.seen q inside;
  nodes = λ n less. (let made : s0.made ≤ s1.made = first.made in second.nodes n (omega (arith, less, made)) ∙ first.nodes n less);
  made = (let one : s0.made ≤ s1.made = first.made in let two : s1.made ≤ s.made = second.made in omega (arith, one, two));
}

pub as_before_within : (region within : Path → Bool) (s0 s : State) → ((q : Path) → IsTrue (region q) → IsTrue (within q)) → IsAsBefore within s0 s → IsAsBefore region s0 s
as_before_within region within s0 s more h = record {
  tables = λ t is_table. let old : (u : Table) × IsTableOf s0 u × AlikeIn within t u = h.tables t is_table in (old.0, old.1, λ q inside. old.2 q (more q inside));
  seen = λ q inside. h.seen q (more q inside);
  nodes = h.nodes;
  made = h.made;
}

-- the same is seen there
pub seen_as_before : (region : Path → Bool) (s0 s : State) → IsSound s0 → IsAsBefore region s0 s → (q : Path) → IsTrue (region q) → seen s q ≡ seen s0 q
seen_as_before region s0 s sound h q inside =
    ap (found (λ n. (s.nodes n).now)) (h.seen q inside) ∙ same (present s0 q) (λ n here. (sound.tables (present s0) (present_is_table s0)).is_made q n here)
  where
    same : (x : Spot) → ((n : ℕ) → x ≡ FileNode n → n < s0.made) → found (λ n. (s.nodes n).now) x ≡ found (λ n. (s0.nodes n).now) x
    same Nothing made = refl
    same Directory made = refl
    same Odd made = refl
    same (FileNode n) made = ap (λ (node : Node). FileOf node.now) (h.nodes n (made n refl))

pub put_node-other : (nodes : ℕ → Node) (n : ℕ) (node : Node) (k : ℕ) → n ≢ k → put_node nodes n node k ≡ nodes k
put_node-other nodes n node k apart = rw (ne_eqb n k apart) refl

file_stays : (s : State) (made : ℕ) (x : Spot) (change : Node → Node) → ((n : ℕ) → x ≡ FileNode n → made ≤ n)
    → (n : ℕ) → n < made → (with_file s x change).nodes n ≡ s.nodes n
file_stays s made Nothing change new n old = refl
file_stays s made Directory change new n old = refl
file_stays s made Odd change new n old = refl
file_stays s made (FileNode k) change new n old =
    put_node-other s.nodes k (change (s.nodes k)) n (λ e. let le : made ≤ k = new k refl in omega (arith, e, old, le))

file_made : (s : State) (x : Spot) (change : Node → Node) → s.made ≤ (with_file s x change).made
file_made s Nothing change = omega arith
file_made s Directory change = omega arith
file_made s Odd change = omega arith
file_made s (FileNode n) change = omega arith

made_grows : (s : State) (call : Call) → s.made ≤ (changed s call).made
made_grows s (MakeDir p) = omega arith
made_grows s (Create p) = omega arith
made_grows s (Append p piece) = file_made s (present s p) (grown piece)
made_grows s (Sync p) = file_made s (present s p) synced
made_grows s Settle = omega arith
made_grows s (Rename old new) = omega arith
made_grows s (RemoveFile p) = omega arith
made_grows s (RemoveDir p) = omega arith

-- the files of then stay
pub old_nodes_stay : (s : State) (call : Call) (made : ℕ) → made ≤ s.made → WritesOnlyNew made s call → (n : ℕ) → n < made → (changed s call).nodes n ≡ s.nodes n
old_nodes_stay s (MakeDir p) made le new n old = refl
old_nodes_stay s (Create p) made le new n old = put_node-other s.nodes s.made empty_node n (λ e. omega (arith, e, old, le))
old_nodes_stay s (Append p piece) made le new n old = file_stays s made (present s p) (grown piece) new n old
old_nodes_stay s (Sync p) made le new n old = file_stays s made (present s p) synced new n old
old_nodes_stay s Settle made le new n old = refl
old_nodes_stay s (Rename a b) made le new n old = refl
old_nodes_stay s (RemoveFile p) made le new n old = refl
old_nodes_stay s (RemoveDir p) made le new n old = refl

-- a call that spares the region, and writes new files alone, leaves it as it was
pub as_before_on : (region : Path → Bool) (s0 s : State) (call : Call) → Spares region call → WritesOnlyNew s0.made s call → IsAsBefore region s0 s
    → IsAsBefore region s0 (changed s call)
as_before_on region s0 s call spares new so_far = record {
  tables = λ t is_table.
      let mid : (u : Table) × IsTableOf s u × AlikeIn region t u = spared_tables region s call spares t is_table in
      let first : (v : Table) × IsTableOf s0 v × AlikeIn region mid.0 v = so_far.tables mid.0 mid.1 in
      (first.0, first.1, λ q inside. mid.2 q inside ∙ first.2 q inside);
  seen = λ q inside. spared_present region s call spares q inside ∙ so_far.seen q inside;
  nodes = λ n old. old_nodes_stay s call s0.made so_far.made new n old ∙ so_far.nodes n old;
  made = omega (arith, so_far.made, made_grows s call);
}

-- the image of s0 with this table and, of the files of then, these bytes
abbrev pub image_before : State → Table → (ℕ → List ℕ) → Image
image_before s0 u bytes = record { table = u; bytes = λ n. cond (nat_lt n s0.made) (bytes n) (s0.nodes n).now; made = s0.made }

pub image_before_is : (s0 s : State) (u : Table) (image : Image) → IsSound s0 → IsTableOf s0 u → ((n : ℕ) → n < s0.made → s.nodes n ≡ s0.nodes n)
    → IsImage s image → IsImage s0 (image_before s0 u image.bytes)
image_before_is s0 s u image sound is_table stay is_image = record {
  table = is_table;
  bytes = λ n. elim (nat_lt n s0.made) as (λ b. nat_lt n s0.made ≡ b → IsLeftOf (s0.nodes n) (cond b (image.bytes n) (s0.nodes n).now)) [
    | true ↦ λ e. subst (λ node. IsLeftOf node (image.bytes n)) (stay n (ltb-true n s0.made e)) (is_image.bytes n)
    | false ↦ λ e. record { begins = sound.nodes n; whole = λ _. refl }
  ] refl;
  made = refl;
}

-- it shows there what the image shows
pub image_before_shows : (s0 : State) (u : Table) (image : Image) (q : Path) → IsSoundTable s0.made u → image.table q ≡ u q
    → view_of image q ≡ view_of (image_before s0 u image.bytes) q
image_before_shows s0 u image q sound same = ap (found image.bytes) same ∙ found_same (u q) refl
  where
    found_same : (x : Spot) → u q ≡ x → found image.bytes x ≡ found (image_before s0 u image.bytes).bytes x
    found_same Nothing e = refl
    found_same Directory e = refl
    found_same Odd e = refl
    found_same (FileNode n) e = rw (lt-ltb n s0.made (sound.is_made q n e)) refl

-- so each image shows there what some image of s0 showed
pub as_before_images : (region : Path → Bool) (s0 s : State) → IsSound s0 → IsAsBefore region s0 s → (image : Image) → IsImage s image
    → (old : Image) × IsImage s0 old × AgreeIn region (view_of image) (view_of old)
as_before_images region s0 s sound as_was image is_image =
    let there : (u : Table) × IsTableOf s0 u × AlikeIn region image.table u = as_was.tables image.table is_image.table in (
      image_before s0 there.0 image.bytes,
      image_before_is s0 s there.0 image sound there.1 as_was.nodes is_image,
      λ q inside. image_before_shows s0 there.0 image q (sound.tables there.0 there.1) (there.2 q inside),
    )

-- A path at which calls put nothing but new files.
module _ (at : Path) (s0 s : State) (so_far : HasOldOrFile at s0 s) where
  abbrev OldOrFile : Table → Type 0
  OldOrFile t = IsNothingOrFile t at ⊎ ((u : Table) × IsTableOf s0 u × (t at ≡ u at))

  -- the table that a call makes has there what was there, or nothing, or a file
  abbrev Leaves : Table → Type 0
  Leaves v = (v at ≡ present s at) ⊎ IsNothingOrFile v at

  at_present : (v : Table) → v at ≡ present s at → OldOrFile v
  at_present v same = elim (so_far (present s) (present_is_table s)) as (λ _. OldOrFile v) [
    | inl free ↦ elim free as (λ _. OldOrFile v) [
      | inl none ↦ inl (inl (same ∙ none))
      | inr file ↦ inl (inr (file.0, same ∙ file.1))
    ]
    | inr old ↦ inr (old.0, old.1, same ∙ old.2)
  ]

  new_table_has : (v : Table) → Leaves v → (t : Table) → IsTableOf (with_table s v) t → OldOrFile t
  new_table_has v leaves t is_table = elim is_table as (λ _. OldOrFile t) [
    | inl e ↦ so_far t (inl e)
    | inr more ↦ elim (among-push t v s.later more) as (λ _. OldOrFile t) [
      | inl old ↦ so_far t (inr old)
      | inr e ↦ subst OldOrFile (sym e) (elim leaves as (λ _. OldOrFile v) [ inl same ↦ at_present v same | inr free ↦ inl free ])
    ]
  ]

  put_leaves : (p : Path) (x : Spot) → IsNothingOrFile (put (present s) p x) p → Leaves (put (present s) p x)
  put_leaves p x here = elim (one_or_not p at) as (λ _. Leaves (put (present s) p x)) [
    | inl e ↦ inr (subst (IsNothingOrFile (put (present s) p x)) e here)
    | inr k ↦ inl (put-other (present s) p x at k.0)
  ]

  moved_leaves : (old new : Path) → below new at ≡ None → Leaves (moved (present s) old new)
  moved_leaves old new none = elim (begins_or_not old at) as (λ _. Leaves (moved (present s) old new)) [
    | inl k ↦ inr (inl (ap (moved (present s) old new) k.1 ∙ moved-old (present s) old new k.0 (ap (below new) (sym k.1) ∙ none)))
    | inr not_old ↦ inl (moved-other (present s) old new at none not_old)
  ]

  file_changed_has : (x : Spot) (change : Node → Node) (t : Table) → IsTableOf (with_file s x change) t → OldOrFile t
  file_changed_has Nothing change t h = so_far t h
  file_changed_has Directory change t h = so_far t h
  file_changed_has Odd change t h = so_far t h
  file_changed_has (FileNode n) change t h = so_far t h

  pub old_or_file_on : (call : Call) → PutsOnlyFiles at call → HasOldOrFile at s0 (changed s call)
  old_or_file_on (MakeDir p) apart = new_table_has (put (present s) p Directory) (inl (put-other (present s) p Directory at apart))
  old_or_file_on (Create p) puts =
      new_table_has (put (present s) p (FileNode s.made)) (put_leaves p (FileNode s.made) (inr (s.made, put-same (present s) p (FileNode s.made))))
  old_or_file_on (Append p piece) puts = file_changed_has (present s p) (grown piece)
  old_or_file_on (Sync p) puts = file_changed_has (present s p) synced
  old_or_file_on Settle puts = λ t is_table. elim is_table as (λ _. OldOrFile t) [
    | inl e ↦ at_present t (ap (λ w. w at) e)
    | inr none ↦ absurd none
  ]
  old_or_file_on (Rename old new) none = new_table_has (moved (present s) old new) (moved_leaves old new none)
  old_or_file_on (RemoveFile p) puts = new_table_has (put (present s) p Nothing) (put_leaves p Nothing (inl (put-same (present s) p Nothing)))
  old_or_file_on (RemoveDir p) puts = new_table_has (put (present s) p Nothing) (put_leaves p Nothing (inl (put-same (present s) p Nothing)))

pub old_or_file_at_first : (at : Path) (s : State) → HasOldOrFile at s s
old_or_file_at_first at s t is_table = inr (t, is_table, refl)
