-- A call that ended by one fault.
use Rattle.std.proofs.Common.{◌≡◌, ◌≢◌, ◌≤◌, ℕ, Result, Ok, Err, IsErrAnd, sym, subst}
use Rattle.folder_model.proofs.ByFault.{one_fault}
use Rattle.content_writing.specs.Writing.{Blames}
use Rattle.item_making.specs.declared.fault.PutFault.{PutFault}
use Rattle.item_making.specs.declared.fault.PutFault.TheVariants as puts
use Rattle.vault_write.specs.Faults.{IsPlaceFault}

-- what is promised at the fault is promised of the answer
pub at_fault : {T E : Type 0} (P : Result T E → Type 0) (result : Result T E) (fault : E) → IsErrAnd result (λ e. e ≡ fault) → P (Err fault) → P result
at_fault P (Err e) fault by_fault holds = subst (λ x. P (Err x)) (sym by_fault) holds
at_fault P (Ok value) fault by_fault holds = absurd by_fault

-- looking for a place tells nothing of zeros
pub place_drew : {A : Type 0} (fault : PutFault) → IsPlaceFault fault → fault ≡ puts.ZeroRandom → A
place_drew fault place same = absurd (subst IsPlaceFault same place)

-- no other fault is blamed
pub unblamed : {T : Type 0} (result : Result T PutFault) (fault blamed : PutFault) {old new : ℕ} → IsErrAnd result (λ e. e ≡ fault) → fault ≢ blamed → old ≤ new → Blames result blamed old new
unblamed result fault blamed by_fault apart grew = (grew, λ same. absurd (apart (one_fault result fault blamed by_fault same)))
