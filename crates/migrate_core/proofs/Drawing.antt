-- What a migration draws until it ends, and that zeros were drawn last where they are why.
use Rattle.std.proofs.Common.{◌≡◌, ◌≢◌, ◌⊎◌, ◌∙◌, ℕ, zero, suc, ◌*◌, List, [], ◌++◌, length, take, drop, replicate, Option, Result, Ok, Err, IfErr, IsErrAnd, inl, inr, refl, sym, ap, subst, arith, append_assoc}
use Rattle.std.proofs.lemmas.List.{length-drop, take-append-drop, take_all}
use Rattle.item_making.specs.Ending.{Ending}
use Rattle.content_writing.specs.Writing.{sixteen}
use Rattle.item_making.specs.declared.fault.PutFault.{PutFault}
use Rattle.item_making.specs.declared.fault.PutFault.TheVariants as put
use Rattle.folder_spec.proofs.Paths.{base_or_child}
use Rattle.folder_spec.specs.Event.{Told}
use Rattle.folder_spec.specs.Path.{Path}
use Rattle.folder_spec.specs.Seen.{IfSeen, IsSeen}
use Rattle.folder_spec.specs.View.{View}
use Rattle.plain_tree.specs.Names as plain
use Rattle.port_model.specs.Draws.{ByteStream, Draws}
use Rattle.vault_spec.specs.Making.{NewItem}
use Rattle.vault_spec.specs.Opened.{OpenedVault}
use Rattle.vault_write.specs.Calls.{MakesAt, New}
use Rattle.vault_write.specs.Refusing.{TakesRoot}
use Rattle.migration_sides.proofs.Chains.{refused_as}
use Rattle.migrate_core.specs.Drawing.{Drew, DrewBy, EndsInZeros}
use Rattle.migrate_core.specs.Faults.{IsOfTest, of_put}
use Rattle.migrate_core.specs.declared.fault.MoveFault.{MoveFault}
use Rattle.migrate_core.specs.declared.fault.MoveFault.TheVariants.{Place}

-- ---- sixteen zeros at the end

ends_behind : (xs ys : List ℕ) → EndsInZeros ys → EndsInZeros (xs ++ ys)
ends_behind xs ys ends = record { front = xs ++ ends.front; is = ap (λ l. xs ++ l) ends.is ∙ sym (append_assoc xs ends.front (replicate 16 0)) }

ends_sixteen : (number : ℕ) (bytes : List ℕ) → sixteen number bytes ≡ replicate 16 0 → length bytes ≡ 16 * suc number → EndsInZeros bytes
ends_sixteen zero bytes zeros size = record { front = []; is = sym (take_all 16 bytes (omega arith)) ∙ zeros }
ends_sixteen (suc number) bytes zeros size =
    subst EndsInZeros (take-append-drop 16 bytes) (ends_behind (take 16 bytes) (drop 16 bytes) (ends_sixteen number (drop 16 bytes) zeros (simp length-drop (omega arith))))

-- ---- an item that was placed, or not

not_at_root : (root : Path) (why : PutFault) → TakesRoot root (Err why) → why ≢ put.ZeroRandom
not_at_root root why answers zeros =
    let is_not : why ≢ put.Taken root = λ taken. cc in
    let memory = answers (λ same. is_not (let is : why ≡ put.Taken root = cc same in is)) in
    let is : why ≡ put.NoMemory = cc memory in
    cc

placed_at_zeros : (to : OpenedVault) (work : Path) (path : plain.Path) (item : NewItem) (ending : Ending) (drawn : List ℕ) (t u : Option Told) (why : PutFault) → MakesAt New to work path item ending drawn t u (Err why)
    → why ≡ put.ZeroRandom → EndsInZeros drawn
placed_at_zeros to work path item ending drawn t u why made zeros = elim (base_or_child path) [
  | inl root ↦ absurd (not_at_root to.root why (made.root root).2 zeros)
  | inr named ↦
      let drew = (made.named named.0 named.1 named.2).zeros (ap Err zeros) in
      ends_sixteen drew.0 drawn drew.1.zeros drew.2
]

of_zeros : (why : PutFault) → of_put why ≡ Place put.ZeroRandom → why ≡ put.ZeroRandom
of_zeros put.ZeroRandom same = refl
of_zeros put.Failed same = cc same
of_zeros put.NoMemory same = cc same
of_zeros why same = cc same

-- nothing is drawn, or what is so of all that was seen then is so of all that is seen at first
pub undrawn_on : {A : Type 0} (P Q : View → Type 0) (t u : Option Told) → IfSeen t (λ v. IsSeen u v) → ((v : View) → IsSeen t v → P v → Q v) → A ⊎ IfSeen u P → A ⊎ IfSeen t Q
undrawn_on P Q t u known more (inl none) = inl none
undrawn_on P Q t u known more (inr passed) = inr (λ v is. more v is (passed v (known v is)))

-- ---- a call that ends so

abbrev Compose : Type 0
Compose = (first second third : Option ByteStream) (xs ys : List ℕ) → Draws first second xs → Draws second third ys → Draws first third (xs ++ ys)

abbrev DrawsNone : Type 0
DrawsNone = (stream : Option ByteStream) → Draws stream stream []

abbrev stopped : (T : Type 0) → MoveFault → Result T MoveFault
stopped T why = Err why

err_is : (T : Type 0) (why : MoveFault) → stopped T why ≡ Err (Place put.ZeroRandom) → why ≡ Place put.ZeroRandom
err_is T why same = cc same

not_tested : {T : Type 0} (result : Result T MoveFault) → IfErr result IsOfTest → result ≢ Err (Place put.ZeroRandom)
not_tested (Ok value) tested same = cc same
not_tested {T = T} (Err why) tested same = subst IsOfTest (err_is T why same) tested

-- for another reason
pub drew_for : (whole part : Type 0) (s t : Option ByteStream) → (whole → part) → Drew part s t → Drew whole s t
drew_for whole part s t reason drew = record { drawn = drew.drawn; were_drawn = drew.were_drawn; ends = λ zeros. drew.ends (reason zeros) }

-- nothing is drawn so far
pub drew_none : DrawsNone → (s : Option ByteStream) → Drew ⊥ s s
drew_none none s = record { drawn = []; were_drawn = none s; ends = λ no. absurd no }

-- a call that ends well, or at a test, behind what was drawn
pub drew_tested : {T : Type 0} (result : Result T MoveFault) (s t : Option ByteStream) → IfErr result IsOfTest → Drew ⊥ s t → DrewBy result s t
drew_tested result s t tested = drew_for (result ≡ Err (Place put.ZeroRandom)) ⊥ s t (not_tested result tested)

pub drew_refused : {T : Type 0} → DrawsNone → (s : Option ByteStream) (result : Result T MoveFault) (why : MoveFault) → IsErrAnd result (λ fault. fault ≡ why) → IsOfTest why → DrewBy result s s
drew_refused none s result why is tested = drew_tested result s s (refused_as (λ answer. IfErr answer IsOfTest) result is tested) (drew_none none s)

-- so an exit answers that passes on a fault
pub drew_failed : {T : Type 0} {why : MoveFault} (s t : Option ByteStream) (result : Result T MoveFault) → IsErrAnd result (λ fault. fault ≡ why) → Drew (why ≡ Place put.ZeroRandom) s t → DrewBy result s t
drew_failed {T = T} {why = why} s t result is drew = refused_as (λ answer. DrewBy answer s t) result is (drew_for (stopped T why ≡ Err (Place put.ZeroRandom)) (why ≡ Place put.ZeroRandom) s t (err_is T why) drew)

pub drew_err : (T : Type 0) (why : MoveFault) (s t : Option ByteStream) → DrewBy (stopped T why) s t → Drew (why ≡ Place put.ZeroRandom) s t
drew_err T why s t = drew_for (why ≡ Place put.ZeroRandom) (stopped T why ≡ Err (Place put.ZeroRandom)) s t (ap (stopped T))

pub drew_ok : {T : Type 0} (value : T) (s t : Option ByteStream) → DrewBy (Ok value) s t → Drew ⊥ s t
drew_ok value s t = drew_for ⊥ (Ok value ≡ Err (Place put.ZeroRandom)) s t (λ no. absurd no)

pub drew_then : Compose → (zeros : Type 0) (s t u : Option ByteStream) → Drew ⊥ s t → Drew zeros t u → Drew zeros s u
drew_then compose zeros s t u one other = record {
  drawn = one.drawn ++ other.drawn;
  were_drawn = compose s t u one.drawn other.drawn one.were_drawn other.were_drawn;
  ends = λ is. ends_behind one.drawn other.drawn (other.ends is);
}

-- an item that was placed
pub drew_all : {T : Type 0} (value : T) (s t : Option ByteStream) (drawn : List ℕ) → Draws s t drawn → DrewBy (Ok value) s t
drew_all value s t drawn drew = record { drawn = drawn; were_drawn = drew; ends = λ is. cc is }

-- or not
pub drew_placing : (to : OpenedVault) (work : Path) (path : plain.Path) (item : NewItem) (ending : Ending) (drawn : List ℕ) (told told' : Option Told) (s t : Option ByteStream) (why : PutFault) → Draws s t drawn
    → MakesAt New to work path item ending drawn told told' (Err why) → Drew (of_put why ≡ Place put.ZeroRandom) s t
drew_placing to work path item ending drawn told told' s t why drew made = record {
  drawn = drawn;
  were_drawn = drew;
  ends = λ is. placed_at_zeros to work path item ending drawn told told' why made (of_zeros why is);
}
