-- A change that is allowed keeps a state sound.
use Rattle.std.proofs.Common.{◌≡◌, ◌≢◌, ℕ, suc, ◌<◌, ◌⊎◌, true, false, List, [], ◌∷◌, ◌++◌, Some, None, Result, Ok, Err, refl, sym, ap, ◌∙◌, subst, inl, inr, append_assoc, append-nil, length-append, length, arith, take, nat_eq, cond}
use Rattle.folder_spec.specs.declared.FolderFault.{FolderFault}
use Rattle.folder_spec.specs.declared.FolderFault.TheVariants.{Failed, Refused, NoMemory}
use Rattle.folder_spec.specs.Path.{Part, Path, below, parent, child}
use Rattle.folder_spec.specs.State.{Spot, Nothing, Directory, FileNode, Odd, Table, Node, State, present, put, moved, HasFile, BeginsWith, IsSoundTable, IsSound}
use Rattle.folder_spec.specs.Event.{Call, MakeDir, Create, Append, Sync, Settle, Rename, RemoveFile, RemoveDir, IsFree, Allowed, with_table, with_file, grown, synced, empty_node, changed, fallen, Told, Steps}
use Rattle.folder_spec.proofs.Paths.{one_or_not, begins_or_not, not_below, parent-child, child-apart, below-above, child_begins, below-append}
use Rattle.folder_spec.proofs.Tables.{put-same, put-other, moved-new, moved-old, moved-other, present_is_table, among-push}

node-injective : (m n : ℕ) → FileNode m ≡ FileNode n → m ≡ n
node-injective m n e = cc

-- a new directory or file in a free place
module _ (made : ℕ) (t : Table) (p : Path) (sound : IsSoundTable made t) (free : IsFree t p) where
  free_not_base : p ≢ []
  free_not_base e = let base : t [] ≡ Directory = sound.base in let there : t [] ≡ Nothing = subst (λ q. t q ≡ Nothing) e free.0 in cc

  put_base : (x : Spot) → put t p x [] ≡ Directory
  put_base x = put-other t p x [] free_not_base ∙ sound.base

  nothing_below : (a : Part) → t (child p a) ≢ Nothing → ⊥
  nothing_below a stands = let above : t p ≡ Directory = sound.parents p a stands in let none : t p ≡ Nothing = free.0 in cc

  put_parents : (x : Spot) (q : Path) (a : Part) → put t p x (child q a) ≢ Nothing → put t p x q ≡ Directory
  put_parents x q a stands = elim (one_or_not p (child q a)) as (λ _. put t p x q ≡ Directory) [
    | inl at_new ↦
        let above : parent p ≡ q = ap parent at_new ∙ parent-child q a in
        put-other t p x q (λ e. child-apart q a (sym at_new ∙ e)) ∙ subst (λ r. t r ≡ Directory) above free.1
    | inr k ↦
        let stood : t (child q a) ≢ Nothing = λ e. stands (put-other t p x (child q a) k.0 ∙ e) in
        elim (one_or_not p q) as (λ _. put t p x q ≡ Directory) [
          | inl e ↦ absurd (nothing_below a (subst (λ r. t (child r a) ≢ Nothing) (sym e) stood))
          | inr j ↦ put-other t p x q j.0 ∙ sound.parents q a stood
        ]
  ]

  pub new_dir_sound : IsSoundTable made (put t p Directory)
  new_dir_sound = record {
    base = put_base Directory;
    parents = put_parents Directory;
    alone = λ q r n at_q at_r. sound.alone q r n (as_before q n at_q) (as_before r n at_r);
    is_made = λ q n at_q. sound.is_made q n (as_before q n at_q);
  }
    where
      as_before : (q : Path) (n : ℕ) → put t p Directory q ≡ FileNode n → t q ≡ FileNode n
      as_before q n at_q = elim (one_or_not p q) as (λ _. t q ≡ FileNode n) [
        | inl e ↦ let new : put t p Directory q ≡ Directory = subst (λ r. put t p Directory r ≡ Directory) e (put-same t p Directory) in cc
        | inr k ↦ sym (put-other t p Directory q k.0) ∙ at_q
      ]

  pub new_file_sound : IsSoundTable (suc made) (put t p (FileNode made))
  new_file_sound = record {
    base = put_base (FileNode made);
    parents = put_parents (FileNode made);
    alone = λ q r n at_q at_r. elim (which q n at_q) as (λ _. q ≡ r) [
      | inl new_q ↦ elim (which r n at_r) as (λ _. q ≡ r) [
        | inl new_r ↦ sym new_q.0 ∙ new_r.0
        | inr old_r ↦ absurd (let below_made : n < made = sound.is_made r n old_r in omega (arith, below_made, new_q.1))
      ]
      | inr old_q ↦ elim (which r n at_r) as (λ _. q ≡ r) [
        | inl new_r ↦ absurd (let below_made : n < made = sound.is_made q n old_q in omega (arith, below_made, new_r.1))
        | inr old_r ↦ sound.alone q r n old_q old_r
      ]
    ];
    is_made = λ q n at_q. elim (which q n at_q) as (λ _. n < suc made) [
      | inl new ↦ omega (arith, new.1)
      | inr old ↦ omega (arith, sound.is_made q n old)
    ];
  }
    where
      which : (q : Path) (n : ℕ) → put t p (FileNode made) q ≡ FileNode n → ((p ≡ q) × (n ≡ made)) ⊎ (t q ≡ FileNode n)
      which q n at_q = elim (one_or_not p q) as (λ _. ((p ≡ q) × (n ≡ made)) ⊎ (t q ≡ FileNode n)) [
        | inl e ↦ inl (e, node-injective n made (sym at_q ∙ subst (λ r. put t p (FileNode made) r ≡ FileNode made) e (put-same t p (FileNode made))))
        | inr k ↦ inr (sym (put-other t p (FileNode made) q k.0) ∙ at_q)
      ]

-- what stood in a place that has nothing below it is gone
pub removed_sound : (made : ℕ) (t : Table) (p : Path) → IsSoundTable made t → p ≢ [] → ((a : Part) → t (child p a) ≡ Nothing) → IsSoundTable made (put t p Nothing)
removed_sound made t p sound not_base leaf = record {
  base = put-other t p Nothing [] not_base ∙ sound.base;
  parents = λ q a stands.
      let stood : t (child q a) ≢ Nothing = λ e. elim (one_or_not p (child q a)) as (λ _. ⊥) [
        | inl here ↦ stands (subst (λ r. put t p Nothing r ≡ Nothing) here (put-same t p Nothing))
        | inr k ↦ stands (put-other t p Nothing (child q a) k.0 ∙ e)
      ] in
      elim (one_or_not p q) as (λ _. put t p Nothing q ≡ Directory) [
        | inl e ↦ absurd (stood (subst (λ r. t (child r a) ≡ Nothing) e (leaf a)))
        | inr k ↦ put-other t p Nothing q k.0 ∙ sound.parents q a stood
      ];
  alone = λ q r n at_q at_r. sound.alone q r n (as_before q n at_q) (as_before r n at_r);
  is_made = λ q n at_q. sound.is_made q n (as_before q n at_q);
}
  where
    as_before : (q : Path) (n : ℕ) → put t p Nothing q ≡ FileNode n → t q ≡ FileNode n
    as_before q n at_q = elim (one_or_not p q) as (λ _. t q ≡ FileNode n) [
      | inl e ↦ let gone : put t p Nothing q ≡ Nothing = subst (λ r. put t p Nothing r ≡ Nothing) e (put-same t p Nothing) in cc
      | inr k ↦ sym (put-other t p Nothing q k.0) ∙ at_q
    ]

-- all above what stands are directories
pub above_is_directory : (made : ℕ) (t : Table) → IsSoundTable made t → (w : Path) (b : Part) (rest : Path) → t (w ++ b ∷ rest) ≢ Nothing → t w ≡ Directory
above_is_directory made t sound w b [] stands = sound.parents w b stands
above_is_directory made t sound w b (c ∷ rest) stands = sound.parents w b (λ none.
    let directory : t (child w b) ≡ Directory =
    above_is_directory made t sound (child w b) c rest (λ e. stands (ap t (sym (append_assoc w (b ∷ []) (c ∷ rest))) ∙ e)) in
    cc)

-- what stands at old and below it goes to new, which is free or a file as old is
module _ (made : ℕ) (t : Table) (old new : Path) (sound : IsSoundTable made t) (not_base : old ≢ []) (apart : below old new ≡ None)
    (place : IsFree t new ⊎ (HasFile t old × HasFile t new)) where
  new_not_base : new ≢ []
  new_not_base e =
      let base : t new ≡ Directory = ap t e ∙ sound.base in
      elim place [
        | inl free ↦ let none : t new ≡ Nothing = free.0 in cc
        | inr both ↦ let file : t new ≡ FileNode (both.1.0) = both.1.1 in cc
      ]

  above_new : (q : Path) (a : Part) → child q a ≡ new → t q ≡ Directory
  above_new q a e = elim place as (λ _. t q ≡ Directory) [
    | inl free ↦ subst (λ r. t r ≡ Directory) (ap parent (sym e) ∙ parent-child q a) free.1
    | inr both ↦ sound.parents q a (λ none. let there : t new ≡ Nothing = subst (λ r. t r ≡ Nothing) e none in let file : t new ≡ FileNode (both.1.0) = both.1.1 in cc)
  ]

  none_of_base : (w : Path) → w ≢ [] → below w [] ≡ None
  none_of_base [] some = absurd (some refl)
  none_of_base (a ∷ w) some = refl

  -- where a file is afterwards, it was before, there or at old
  came_from : (q : Path) (n : ℕ) → moved t old new q ≡ FileNode n
      → ((rest : Path) × (q ≡ new ++ rest) × (t (old ++ rest) ≡ FileNode n)) ⊎ ((below old q ≡ None) × (t q ≡ FileNode n))
  came_from q n at_q = elim (begins_or_not new q) as (λ _. ((rest : Path) × (q ≡ new ++ rest) × (t (old ++ rest) ≡ FileNode n)) ⊎ ((below old q ≡ None) × (t q ≡ FileNode n))) [
    | inl k ↦ inl (k.0, k.1, sym (moved-new t old new k.0) ∙ subst (λ r. moved t old new r ≡ FileNode n) k.1 at_q)
    | inr not_new ↦ elim (begins_or_not old q) as (λ _. ((rest : Path) × (q ≡ new ++ rest) × (t (old ++ rest) ≡ FileNode n)) ⊎ ((below old q ≡ None) × (t q ≡ FileNode n))) [
      | inl k ↦ absurd (let gone : moved t old new q ≡ Nothing = ap (moved t old new) k.1 ∙ moved-old t old new k.0 (subst (λ r. below new r ≡ None) k.1 not_new) in cc)
      | inr not_old ↦ inr (not_old, sym (moved-other t old new q not_new not_old) ∙ at_q)
    ]
  ]

  from_both : (q r : Path) (n : ℕ) (rest : Path) → t (old ++ rest) ≡ FileNode n → below old r ≡ None → t r ≡ FileNode n → ⊥
  from_both q r n rest at_old not_old at_r =
      not_below old rest (subst (λ p. below old p ≡ None) (sound.alone r (old ++ rest) n at_r at_old) not_old)

  pub moved_sound : IsSoundTable made (moved t old new)
  moved_sound = record {
    base = moved-other t old new [] (none_of_base new new_not_base) (none_of_base old not_base) ∙ sound.base;
    parents = λ q a stands. elim (begins_or_not new (child q a)) as (λ _. moved t old new q ≡ Directory) [
      | inl k ↦ elim (child_begins new q a k.0 k.1) as (λ _. moved t old new q ≡ Directory) [
        | inl is_new ↦
            moved-other t old new q (above_not_new q a is_new) (above_not_old q a is_new) ∙ above_new q a is_new
        | inr up ↦
            let whole : child q a ≡ new ++ child up.0 a = k.1 ∙ ap (λ r. new ++ r) up.2 in
            let stood : t (child (old ++ up.0) a) ≢ Nothing =
            λ none. stands (ap (moved t old new) whole ∙ moved-new t old new (child up.0 a) ∙ ap t (sym (append_assoc old up.0 (a ∷ []))) ∙ none) in
            ap (moved t old new) up.1 ∙ moved-new t old new up.0 ∙ sound.parents (old ++ up.0) a stood
      ]
      | inr not_new ↦ elim (begins_or_not old (child q a)) as (λ _. moved t old new q ≡ Directory) [
        | inl k ↦ absurd (stands (ap (moved t old new) k.1 ∙ moved-old t old new k.0 (subst (λ r. below new r ≡ None) k.1 not_new)))
        | inr not_old ↦
            moved-other t old new q (below-above new q a not_new) (below-above old q a not_old)
            ∙ sound.parents q a (λ none. stands (moved-other t old new (child q a) not_new not_old ∙ none))
      ]
    ];
    alone = λ q r n at_q at_r. elim (came_from q n at_q) as (λ _. q ≡ r) [
      | inl kq ↦ elim (came_from r n at_r) as (λ _. q ≡ r) [
        | inl kr ↦
            let one : old ++ kq.0 ≡ old ++ kr.0 = sound.alone (old ++ kq.0) (old ++ kr.0) n kq.2 kr.2 in
            kq.1 ∙ ap (λ rest. new ++ rest) (same_rest kq.0 kr.0 one) ∙ sym kr.1
        | inr kr ↦ absurd (from_both q r n kq.0 kq.2 kr.0 kr.1)
      ]
      | inr kq ↦ elim (came_from r n at_r) as (λ _. q ≡ r) [
        | inl kr ↦ absurd (from_both r q n kr.0 kr.2 kq.0 kq.1)
        | inr kr ↦ sound.alone q r n kq.1 kr.1
      ]
    ];
    is_made = λ q n at_q. elim (came_from q n at_q) as (λ _. n < made) [
      | inl k ↦ sound.is_made (old ++ k.0) n k.2
      | inr k ↦ sound.is_made q n k.1
    ];
  }
    where
      above_not_new : (q : Path) (a : Part) → child q a ≡ new → below new q ≡ None
      above_not_new q a e = elim (begins_or_not new q) as (λ _. below new q ≡ None) [
        | inl k ↦ absurd (
            let longer : length (child q a) ≡ length new = ap length e in
            let shorter : length q ≡ length (new ++ k.0) = ap length k.1 in
            omega (arith, longer, shorter, length-append q (a ∷ []), length-append new k.0))
        | inr none ↦ none
      ]

      above_not_old : (q : Path) (a : Part) → child q a ≡ new → below old q ≡ None
      above_not_old q a e = elim (begins_or_not old q) as (λ _. below old q ≡ None) [
        | inl k ↦ absurd (not_below old (k.0 ++ a ∷ [])
            (subst (λ r. below old r ≡ None) (sym e ∙ ap (λ r. child r a) k.1 ∙ append_assoc old k.0 (a ∷ [])) apart))
        | inr none ↦ none
      ]

      same_rest : (x y : Path) → old ++ x ≡ old ++ y → x ≡ y
      same_rest x y e =
          let left : below old (old ++ x) ≡ Some x = below-append old x in
          let right : below old (old ++ y) ≡ Some y = below-append old y in
          let both : below old (old ++ x) ≡ below old (old ++ y) = ap (below old) e in
          cc

-- a state's tables after a directory change
pub with_table_sound : (s : State) (u : Table) → IsSound s → IsSoundTable s.made u → IsSound (with_table s u)
with_table_sound s u sound new = record {
  tables = λ t is_table. elim is_table as (λ _. IsSoundTable s.made t) [
    | inl e ↦ sound.tables t (inl e)
    | inr more ↦ elim (among-push t u s.later more) as (λ _. IsSoundTable s.made t) [
      | inl old ↦ sound.tables t (inr old)
      | inr e ↦ subst (IsSoundTable s.made) (sym e) new
    ]
  ];
  nodes = sound.nodes;
}

-- a change of one file that keeps what is kept a beginning
pub with_file_sound : (s : State) (x : Spot) (change : Node → Node)
    → ((node : Node) → BeginsWith node.now node.kept → BeginsWith (change node).now (change node).kept) → IsSound s → IsSound (with_file s x change)
with_file_sound s Nothing change keeps sound = sound
with_file_sound s Directory change keeps sound = sound
with_file_sound s Odd change keeps sound = sound
with_file_sound s (FileNode n) change keeps sound = record {
  tables = sound.tables;
  nodes = λ k. elim (nat_eq n k) as (λ b. BeginsWith (cond b (change (s.nodes n)) (s.nodes k)).now (cond b (change (s.nodes n)) (s.nodes k)).kept) [
    | true ↦ keeps (s.nodes n) (sound.nodes n)
    | false ↦ sound.nodes k
  ];
}

grown_begins : (piece : List ℕ) (node : Node) → BeginsWith node.now node.kept → BeginsWith (grown piece node).now (grown piece node).kept
grown_begins piece node begins = (begins.0 ++ piece, ap (λ bytes. bytes ++ piece) begins.1 ∙ append_assoc node.kept begins.0 piece)

synced_begins : (node : Node) → BeginsWith node.now node.kept → BeginsWith (synced node).now (synced node).kept
synced_begins node begins = ([], sym (append-nil node.now))

more_made : (made : ℕ) (t : Table) → IsSoundTable made t → IsSoundTable (suc made) t
more_made made t sound = record {
  base = sound.base;
  parents = sound.parents;
  alone = sound.alone;
  is_made = λ p n at_p. omega (arith, sound.is_made p n at_p);
}

create_sound : (s : State) (p : Path) → IsSound s → IsFree (present s) p → IsSound (changed s (Create p))
create_sound s p sound free = record {
  tables = λ t is_table. elim is_table as (λ _. IsSoundTable (suc s.made) t) [
    | inl e ↦ more_made s.made t (sound.tables t (inl e))
    | inr more ↦ elim (among-push t (put (present s) p (FileNode s.made)) s.later more) as (λ _. IsSoundTable (suc s.made) t) [
      | inl old ↦ more_made s.made t (sound.tables t (inr old))
      | inr e ↦ subst (IsSoundTable (suc s.made)) (sym e) (new_file_sound s.made (present s) p (sound.tables (present s) (present_is_table s)) free)
    ]
  ];
  nodes = λ k. elim (nat_eq s.made k) as (λ b. BeginsWith (cond b empty_node (s.nodes k)).now (cond b empty_node (s.nodes k)).kept) [
    | true ↦ ([], refl)
    | false ↦ sound.nodes k
  ];
}

-- the law: a call that is allowed keeps the state sound
pub changed_sound : (s : State) (call : Call) → IsSound s → Allowed s call → IsSound (changed s call)
changed_sound s (MakeDir p) sound free =
    with_table_sound s _ sound (new_dir_sound s.made (present s) p (sound.tables (present s) (present_is_table s)) free)
changed_sound s (Create p) sound free = create_sound s p sound free
changed_sound s (Append p piece) sound file = with_file_sound s (present s p) (grown piece) (grown_begins piece) sound
changed_sound s (Sync p) sound file = with_file_sound s (present s p) synced synced_begins sound
changed_sound s Settle sound allowed = record {
  tables = λ t is_table. elim is_table as (λ _. IsSoundTable s.made t) [
    | inl e ↦ subst (IsSoundTable s.made) (sym e) (sound.tables (present s) (present_is_table s))
    | inr none ↦ absurd none
  ];
  nodes = sound.nodes;
}
changed_sound s (Rename old new) sound allowed =
    with_table_sound s _ sound
    (moved_sound s.made (present s) old new (sound.tables (present s) (present_is_table s)) allowed.0 allowed.2 allowed.3)
changed_sound s (RemoveFile p) sound file =
    let here : IsSoundTable s.made (present s) = sound.tables (present s) (present_is_table s) in
    with_table_sound s _ sound (removed_sound s.made (present s) p here
    (λ e. let base : present s p ≡ Directory = ap (present s) e ∙ here.base in let is : present s p ≡ FileNode (file.0) = file.1 in cc)
    (file_is_leaf s p file here))
  where
    file_is_leaf : (s : State) (p : Path) → HasFile (present s) p → IsSoundTable s.made (present s) → (a : Part) → present s (child p a) ≡ Nothing
    file_is_leaf s p file here a = elim (present s (child p a)) as (λ x. present s (child p a) ≡ x → x ≡ Nothing) [
      | Nothing ↦ λ e. refl
      | Directory ↦ λ e. absurd (not_above (λ none. cc))
      | FileNode n ↦ λ e. absurd (not_above (λ none. cc))
      | Odd ↦ λ e. absurd (not_above (λ none. cc))
    ] refl
      where
        not_above : present s (child p a) ≢ Nothing → ⊥
        not_above stands = let directory : present s p ≡ Directory = here.parents p a stands in let is : present s p ≡ FileNode (file.0) = file.1 in cc
changed_sound s (RemoveDir p) sound allowed =
    with_table_sound s _ sound
    (removed_sound s.made (present s) p (sound.tables (present s) (present_is_table s)) allowed.0 allowed.1.1)

-- so does one that failed
pub fallen_sound : (s : State) (call : Call) (added : ℕ) → IsSound s → Allowed s call → IsSound (fallen s call added)
fallen_sound s (Append p piece) added sound file = changed_sound s (Append p (take added piece)) sound file
fallen_sound s (MakeDir p) added sound allowed = sound
fallen_sound s (Create p) added sound allowed = sound
fallen_sound s (Sync p) added sound allowed = sound
fallen_sound s Settle added sound allowed = sound
fallen_sound s (Rename old new) added sound allowed = sound
fallen_sound s (RemoveFile p) added sound allowed = sound
fallen_sound s (RemoveDir p) added sound allowed = sound

-- and so what a folder tells after a call, whatever it answered
pub steps_sound : (call : Call) (a b : Told) (result : Result (Unit {0}) FolderFault) → IsSound a.state → Steps call a b result → IsSound b.state
steps_sound call a b (Ok _) sound h = subst (λ (c : Told). IsSound c.state) (sym h.1) (changed_sound a.state call sound h.0)
steps_sound call a b (Err Failed) sound h = subst (λ (c : Told). IsSound c.state) (sym h.1.2) (fallen_sound a.state call h.1.0 sound h.0)
steps_sound call a b (Err Refused) sound h = subst (λ (c : Told). IsSound c.state) (sym h.1) sound
steps_sound call a b (Err NoMemory) sound h = subst (λ (c : Told). IsSound c.state) (sym h) sound
