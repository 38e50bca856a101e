use Rattle.std.proofs.Common.{◌≡◌, ◌≤◌, ◌-◌, ℕ, List, length, min, Some, IfErr, Err, Ok, sym, ap, ◌∙◌, subst, arith}
use Rattle.std.proofs.Math.Nat.{min-le_left, min-le_right}
use Rattle.std.proofs.lemmas.Result.{err_from_is_err_and}
use Rattle.folder_spec.specs.View.{Found, FileOf, View}
use Rattle.folder_spec.specs.Seen.{IsSeen}
use Rattle.vault_read.specs.Contents.{Reader, Suits, still}
use Rattle.content_writing.specs.Content.{Gives, IsContentFault, IsTold}
use Rattle.item_making.specs.declared.fault.PutFault.TheVariants as puts
use Rattle.vault_write.proofs.Exits.{at_fault}
use Rattle.vault_write.specs.ContentsComing.{coming_read, held_before, held_in}
use Rattle.vault_write.specs.HeldChunks.{Refills}
use Rattle.vault_write.proofs.Refills.{GivesPiece, told_suits, read_suits, gives_told, piece_given, piece_failed}
use Rattle.vault_write.proofs.vault_content.VaultContentContent.piece.Goals as goal

pub refill-filled-requires : goal.refill-filled-requires
refill-filled-requires g c = λ v seen.
    let reader : c.take_held.new.self.reader ≡ c.args.self.now.reader = c.in_ok-held.ensures.reader in
    subst (λ (r : Reader). (bytes : List ℕ) × (v r.at ≡ FileOf bytes) × Suits r.decoding bytes) (sym reader)
    (told_suits c.args.self.now.reader c.args.self.now.room (held_in c.args.self.now.held) (v c.args.self.now.reader.at) (c.requires.ready v seen))

pub returns-in_err-filled-clause-ready : goal.returns-in_err-filled-clause-ready
returns-in_err-filled-clause-ready g c = λ v' seen'.
    let v : View = v' in
    let seen : IsSeen (g.F.Folder.told c.args.folder.now) v = subst (λ t. IsSeen t v') c.in_err-filled.ensures.told seen' in
    let e0 = c.in_ok-held.ensures in
    let e1 = c.in_err-filled.ensures in
    let reader = c.args.self.now.reader in
    let reader' = c.refill-filled.new.reader in
    let room : ℕ = c.args.self.now.room in
    let held : List ℕ = held_in c.args.self.now.held in
    let held1 : List ℕ = c.refill-filled.new.self in
    let count : ℕ = c.give-count.result in
    let most : c.min-most.result ≡ min c.args.most room = c.min-most.ensures ∙ ap (min c.args.most) e0.room in
    let few : count ≤ room = omega (arith, c.give-count.ensures.count, most, min-le_left c.min-most.result (length held1), min-le_right c.args.most room) in
    let same_room : c.take_held.new.self.room ≡ room = e0.room in
    let p : GivesPiece reader reader' room (c.take_held.new.self.room - count) c.args.most count held held1 c.give-count.new.self c.give-count.new.out = record {
      at = e1.at ∙ ap (λ (r : Reader). r.at) e0.reader;
      some = c.requires.some;
      count_is = c.give-count.ensures.count ∙ ap (λ (m : ℕ). min m (length held1)) most;
      given = c.give-count.ensures.given;
      left = c.give-count.ensures.left;
      room_is = omega (arith, same_room, few);
    } in
    let there = told_suits reader room held (v reader.at) (c.requires.ready v seen) in
    let file : v c.take_held.new.self.reader.at ≡ FileOf there.0 = ap (λ (r : Reader). v r.at) e0.reader ∙ there.1 in
    let suit = read_suits v reader.at reader'.at reader'.decoding there.0 p.at there.1 (e1.suits v seen) in
    let refills : Refills held1 (held_before reader.at held (still reader.decoding there.0)) (held_before reader.at held1 (still reader'.decoding there.0)) (Err c.in_err-filled.field-0.0) =
    subst (λ (h : List ℕ). Refills held1 (held_before reader.at h (still reader.decoding there.0)) (held_before reader.at held1 (still reader'.decoding there.0)) (Err c.in_err-filled.field-0.0)) e0.held
    (subst (λ (r : Reader). Refills held1 (held_before r.at c.in_ok-held.held (still r.decoding there.0)) (held_before r.at held1 (still reader'.decoding there.0)) (Err c.in_err-filled.field-0.0)) e0.reader
    (e1.refills v seen there.0 file)) in
    let given : Gives (Err c.in_err-filled.field-0.0) c.give-count.new.out (coming_read reader room held (FileOf there.0)) (coming_read reader' (c.take_held.new.self.room - count) c.give-count.new.self (FileOf there.0)) =
    piece_failed reader reader' room (c.take_held.new.self.room - count) c.args.most count held held1 c.give-count.new.self c.give-count.new.out p there.0 suit c.in_err-filled.field-0.0 e1.none refills in
    let was : IsTold (coming_read reader room held (FileOf there.0)) = subst (λ (x : Found). IsTold (coming_read reader room held x)) there.1 (c.requires.ready v seen) in
    subst (λ (x : Found). IsTold (coming_read reader' (c.take_held.new.self.room - count) c.give-count.new.self x)) (sym (ap v p.at ∙ there.1))
    (gives_told (Err c.in_err-filled.field-0.0) c.give-count.new.out (coming_read reader room held (FileOf there.0)) (coming_read reader' (c.take_held.new.self.room - count) c.give-count.new.self (FileOf there.0)) given was)

pub returns-in_err-filled-clause-gives : goal.returns-in_err-filled-clause-gives
returns-in_err-filled-clause-gives g c =
    let p1 = err_from_is_err_and c.from_residual-in_err-filled.result c.from_residual-in_err-filled.ensures.1 in
    rw (p1.1, p1.2)
    (λ found stands.
    let v : View = stands.0 in
    let seen : IsSeen (g.F.Folder.told c.args.folder.now) v = stands.1 in
    let e0 = c.in_ok-held.ensures in
    let e1 = c.in_err-filled.ensures in
    let reader = c.args.self.now.reader in
    let reader' = c.refill-filled.new.reader in
    let room : ℕ = c.args.self.now.room in
    let held : List ℕ = held_in c.args.self.now.held in
    let held1 : List ℕ = c.refill-filled.new.self in
    let count : ℕ = c.give-count.result in
    let most : c.min-most.result ≡ min c.args.most room = c.min-most.ensures ∙ ap (min c.args.most) e0.room in
    let few : count ≤ room = omega (arith, c.give-count.ensures.count, most, min-le_left c.min-most.result (length held1), min-le_right c.args.most room) in
    let same_room : c.take_held.new.self.room ≡ room = e0.room in
    let p : GivesPiece reader reader' room (c.take_held.new.self.room - count) c.args.most count held held1 c.give-count.new.self c.give-count.new.out = record {
      at = e1.at ∙ ap (λ (r : Reader). r.at) e0.reader;
      some = c.requires.some;
      count_is = c.give-count.ensures.count ∙ ap (λ (m : ℕ). min m (length held1)) most;
      given = c.give-count.ensures.given;
      left = c.give-count.ensures.left;
      room_is = omega (arith, same_room, few);
    } in
    let there = told_suits reader room held (v reader.at) (c.requires.ready v seen) in
    let file : v c.take_held.new.self.reader.at ≡ FileOf there.0 = ap (λ (r : Reader). v r.at) e0.reader ∙ there.1 in
    let suit = read_suits v reader.at reader'.at reader'.decoding there.0 p.at there.1 (e1.suits v seen) in
    let refills : Refills held1 (held_before reader.at held (still reader.decoding there.0)) (held_before reader.at held1 (still reader'.decoding there.0)) (Err c.in_err-filled.field-0.0) =
    subst (λ (h : List ℕ). Refills held1 (held_before reader.at h (still reader.decoding there.0)) (held_before reader.at held1 (still reader'.decoding there.0)) (Err c.in_err-filled.field-0.0)) e0.held
    (subst (λ (r : Reader). Refills held1 (held_before r.at c.in_ok-held.held (still r.decoding there.0)) (held_before r.at held1 (still reader'.decoding there.0)) (Err c.in_err-filled.field-0.0)) e0.reader
    (e1.refills v seen there.0 file)) in
    subst (λ (x : Found). Gives (Err c.in_err-filled.field-0.0) c.give-count.new.out (coming_read reader room held x) (coming_read reader' (c.take_held.new.self.room - count) c.give-count.new.self x))
    (sym (stands.2 ∙ there.1))
    (piece_failed reader reader' room (c.take_held.new.self.room - count) c.args.most count held held1 c.give-count.new.self c.give-count.new.out p there.0 suit c.in_err-filled.field-0.0 e1.none refills))

pub returns-clause-ready : goal.returns-clause-ready
returns-clause-ready g c = λ v' seen'.
    let v : View = v' in
    let seen : IsSeen (g.F.Folder.told c.args.folder.now) v = subst (λ t. IsSeen t v') c.in_ok-filled.ensures.told seen' in
    let e0 = c.in_ok-held.ensures in
    let e1 = c.in_ok-filled.ensures in
    let reader = c.args.self.now.reader in
    let reader' = c.refill-filled.new.reader in
    let room : ℕ = c.args.self.now.room in
    let held : List ℕ = held_in c.args.self.now.held in
    let held1 : List ℕ = c.refill-filled.new.self in
    let count : ℕ = c.give-count.result in
    let most : c.min-most.result ≡ min c.args.most room = c.min-most.ensures ∙ ap (min c.args.most) e0.room in
    let few : count ≤ room = omega (arith, c.give-count.ensures.count, most, min-le_left c.min-most.result (length held1), min-le_right c.args.most room) in
    let same_room : c.take_held.new.self.room ≡ room = e0.room in
    let p : GivesPiece reader reader' room (c.take_held.new.self.room - count) c.args.most count held held1 c.give-count.new.self c.give-count.new.out = record {
      at = e1.at ∙ ap (λ (r : Reader). r.at) e0.reader;
      some = c.requires.some;
      count_is = c.give-count.ensures.count ∙ ap (λ (m : ℕ). min m (length held1)) most;
      given = c.give-count.ensures.given;
      left = c.give-count.ensures.left;
      room_is = omega (arith, same_room, few);
    } in
    let there = told_suits reader room held (v reader.at) (c.requires.ready v seen) in
    let file : v c.take_held.new.self.reader.at ≡ FileOf there.0 = ap (λ (r : Reader). v r.at) e0.reader ∙ there.1 in
    let suit = read_suits v reader.at reader'.at reader'.decoding there.0 p.at there.1 (e1.suits v seen) in
    let refills : Refills held1 (held_before reader.at held (still reader.decoding there.0)) (held_before reader.at held1 (still reader'.decoding there.0)) (Ok c.in_ok-filled.field-0) =
    subst (λ (h : List ℕ). Refills held1 (held_before reader.at h (still reader.decoding there.0)) (held_before reader.at held1 (still reader'.decoding there.0)) (Ok c.in_ok-filled.field-0)) e0.held
    (subst (λ (r : Reader). Refills held1 (held_before r.at c.in_ok-held.held (still r.decoding there.0)) (held_before r.at held1 (still reader'.decoding there.0)) (Ok c.in_ok-filled.field-0)) e0.reader
    (e1.refills v seen there.0 file)) in
    let given : Gives (Ok c.give-count.result) c.give-count.new.out (coming_read reader room held (FileOf there.0)) (coming_read reader' (c.take_held.new.self.room - count) c.give-count.new.self (FileOf there.0)) =
    piece_given reader reader' room (c.take_held.new.self.room - count) c.args.most count held held1 c.give-count.new.self c.give-count.new.out p there.0 suit refills in
    let was : IsTold (coming_read reader room held (FileOf there.0)) = subst (λ (x : Found). IsTold (coming_read reader room held x)) there.1 (c.requires.ready v seen) in
    subst (λ (x : Found). IsTold (coming_read reader' (c.take_held.new.self.room - count) c.give-count.new.self x)) (sym (ap v p.at ∙ there.1))
    (gives_told (Ok c.give-count.result) c.give-count.new.out (coming_read reader room held (FileOf there.0)) (coming_read reader' (c.take_held.new.self.room - count) c.give-count.new.self (FileOf there.0)) given was)

pub returns-clause-gives : goal.returns-clause-gives
returns-clause-gives g c =
    λ found stands.
    let v : View = stands.0 in
    let seen : IsSeen (g.F.Folder.told c.args.folder.now) v = stands.1 in
    let e0 = c.in_ok-held.ensures in
    let e1 = c.in_ok-filled.ensures in
    let reader = c.args.self.now.reader in
    let reader' = c.refill-filled.new.reader in
    let room : ℕ = c.args.self.now.room in
    let held : List ℕ = held_in c.args.self.now.held in
    let held1 : List ℕ = c.refill-filled.new.self in
    let count : ℕ = c.give-count.result in
    let most : c.min-most.result ≡ min c.args.most room = c.min-most.ensures ∙ ap (min c.args.most) e0.room in
    let few : count ≤ room = omega (arith, c.give-count.ensures.count, most, min-le_left c.min-most.result (length held1), min-le_right c.args.most room) in
    let same_room : c.take_held.new.self.room ≡ room = e0.room in
    let p : GivesPiece reader reader' room (c.take_held.new.self.room - count) c.args.most count held held1 c.give-count.new.self c.give-count.new.out = record {
      at = e1.at ∙ ap (λ (r : Reader). r.at) e0.reader;
      some = c.requires.some;
      count_is = c.give-count.ensures.count ∙ ap (λ (m : ℕ). min m (length held1)) most;
      given = c.give-count.ensures.given;
      left = c.give-count.ensures.left;
      room_is = omega (arith, same_room, few);
    } in
    let there = told_suits reader room held (v reader.at) (c.requires.ready v seen) in
    let file : v c.take_held.new.self.reader.at ≡ FileOf there.0 = ap (λ (r : Reader). v r.at) e0.reader ∙ there.1 in
    let suit = read_suits v reader.at reader'.at reader'.decoding there.0 p.at there.1 (e1.suits v seen) in
    let refills : Refills held1 (held_before reader.at held (still reader.decoding there.0)) (held_before reader.at held1 (still reader'.decoding there.0)) (Ok c.in_ok-filled.field-0) =
    subst (λ (h : List ℕ). Refills held1 (held_before reader.at h (still reader.decoding there.0)) (held_before reader.at held1 (still reader'.decoding there.0)) (Ok c.in_ok-filled.field-0)) e0.held
    (subst (λ (r : Reader). Refills held1 (held_before r.at c.in_ok-held.held (still r.decoding there.0)) (held_before r.at held1 (still reader'.decoding there.0)) (Ok c.in_ok-filled.field-0)) e0.reader
    (e1.refills v seen there.0 file)) in
    subst (λ (x : Found). Gives (Ok c.give-count.result) c.give-count.new.out (coming_read reader room held x) (coming_read reader' (c.take_held.new.self.room - count) c.give-count.new.self x))
    (sym (stands.2 ∙ there.1))
    (piece_given reader reader' room (c.take_held.new.self.room - count) c.args.most count held held1 c.give-count.new.self c.give-count.new.out p there.0 suit refills)

pub returns-in_err-held-clause-fault : goal.returns-in_err-held-clause-fault
returns-in_err-held-clause-fault g c =
    at_fault (λ r. IfErr r (λ fault. IsContentFault (Some c.args.self.now.reader.at) fault)) c.from_residual.result puts.NoMemory c.from_residual.ensures.1 (λ none. cc none)

pub returns-in_err-filled-clause-fault : goal.returns-in_err-filled-clause-fault
returns-in_err-filled-clause-fault g c =
    at_fault (λ r. IfErr r (λ fault. IsContentFault (Some c.args.self.now.reader.at) fault)) c.from_residual-in_err-filled.result c.in_err-filled.field-0.0 c.from_residual-in_err-filled.ensures.1
    (subst (λ (r : Reader). IsContentFault (Some r.at) c.in_err-filled.field-0.0) c.in_ok-held.ensures.reader c.in_err-filled.ensures.fault)
