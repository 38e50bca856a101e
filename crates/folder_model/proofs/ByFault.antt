-- What holds of a call that ended by a fault.
use Rattle.std.proofs.Common.{◌≡◌, ◌∙◌, Result, Ok, Err, IfErr, IfOk, OnOk, IsErrAnd, sym, subst}

pub never_ok : {T E : Type 0} (result : Result T E) (Q : E → Type 0) (P : T → Type 0) → IsErrAnd result Q → IfOk result P
never_ok (Ok value) Q P by_fault = absurd by_fault
never_ok (Err fault) Q P by_fault = tt

pub never_done : {T E : Type 0} (result : Result T E) (Q : E → Type 0) (P : Type 0) → IsErrAnd result Q → OnOk result P
never_done (Ok value) Q P by_fault = absurd by_fault
never_done (Err fault) Q P by_fault = tt

pub at_fault : {T E : Type 0} (result : Result T E) (P : E → Type 0) (fault : E) → IsErrAnd result (λ e. e ≡ fault) → P fault → IfErr result P
at_fault (Ok value) P fault by_fault holds = absurd by_fault
at_fault (Err e) P fault by_fault holds = subst P (sym by_fault) holds

pub one_fault : {T E : Type 0} (result : Result T E) (fault other : E) → IsErrAnd result (λ e. e ≡ fault) → result ≡ Err other → fault ≡ other
one_fault (Ok value) fault other by_fault same = absurd by_fault
one_fault (Err e) fault other by_fault same = sym by_fault ∙ (let is : e ≡ other = cc same in is)
