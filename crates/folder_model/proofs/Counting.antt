-- How the count of faults goes on from call to call.
use Rattle.std.proofs.Common.{◌≡◌, ℕ, ◌≤◌, Option, Some, None, Result, Ok, Err, refl, inl, inr, arith}
use Rattle.port_model.specs.Counts.{CountRose}
use Rattle.folder_spec.specs.declared.FolderFault.{FolderFault}
use Rattle.folder_spec.specs.declared.FolderFault.TheVariants.{Failed, Refused, NoMemory}
use Rattle.folder_spec.specs.Event.{Call, Allowed, Told, Changes}
use Rattle.folder_spec.specs.View.{View}
use Rattle.folder_spec.specs.Seen.{IfSeen, seen}
use Rattle.folder_model.specs.Answers.{Answers, Counts, CountsAbove}

pub never_falls : {T : Type 0} (told : Option Told) (before after : ℕ) (result : Result T FolderFault) → Counts told before after result → before ≤ after
never_falls None before after (Ok value) h = h.grows
never_falls (Some a) before after (Ok value) h = omega (arith, h)
never_falls told before after (Err Failed) h = h.0.grows
never_falls None before after (Err Refused) h = h.0.grows
never_falls (Some a) before after (Err Refused) h = omega (arith, h)
never_falls None before after (Err NoMemory) h = h.grows
never_falls (Some a) before after (Err NoMemory) h = omega (arith, h)

pub rose_since : (before mid after : ℕ) → before ≤ mid → CountRose mid after → CountRose before after
rose_since before mid after le h = elim h as (λ _. CountRose before after) [ inl more ↦ inl (omega arith) | inr at_end ↦ inr at_end ]

-- a call whose condition holds, if the folder tells its state
pub counts_above : (T U : Type 0) (told : Option Told) (before after : ℕ) (fault : FolderFault) → ((a : Told) → told ≡ Some a → fault ≡ Refused → ⊥)
    → Counts {T = T} told before after (Err fault) → CountsAbove {T = U} before after (Err fault)
counts_above T U told before after Failed none h = (h.0.grows, h.1)
counts_above T U None before after Refused none h = (h.0.grows, h.1)
counts_above T U (Some a) before after Refused none h = absurd (none a refl refl)
counts_above T U told before after NoMemory none h = never_falls {T = T} told before after (Err NoMemory) h

-- after other calls
pub counts_on : {T : Type 0} (before mid after : ℕ) (result : Result T FolderFault) → before ≤ mid → CountsAbove mid after result → CountsAbove before after result
counts_on before mid after (Ok value) le h = omega arith
counts_on before mid after (Err Failed) le h = (omega (arith, h.0), rose_since before mid after le h.1)
counts_on before mid after (Err Refused) le h = (omega (arith, h.0), rose_since before mid after le h.1)
counts_on before mid after (Err NoMemory) le h = omega arith

-- a changing call whose condition holds is not refused
pub not_refused : (call : Call) (t u : Option Told) → ((a : Told) → t ≡ Some a → Allowed a.state call) → (fault : FolderFault) → Changes call t u (Err fault)
    → (a : Told) → t ≡ Some a → fault ≡ Refused → ⊥
not_refused call (Some a) (Some b) allowed Refused h c is same = h.0 (allowed a refl)
not_refused call (Some a) (Some b) allowed Failed h c is same = cc same
not_refused call (Some a) (Some b) allowed NoMemory h c is same = cc same
not_refused call (Some a) None allowed fault h c is same = absurd h
not_refused call None u allowed fault h c is same = cc is

-- a last call that is allowed, by its answer
pub counts_after : (call : Call) (t u : Option Told) (n0 n1 n2 : ℕ) (result : Result (Unit {0}) FolderFault) → n0 ≤ n1 → ((a : Told) → t ≡ Some a → Allowed a.state call)
    → Changes call t u result → Counts t n1 n2 result → CountsAbove {T = Unit {0}} n0 n2 result
counts_after call t u n0 n1 n2 (Ok done) le allowed changes counts = let more : n1 ≤ n2 = never_falls {T = Unit {0}} t n1 n2 (Ok done) counts in omega (arith, le, more)
counts_after call t u n0 n1 n2 (Err fault) le allowed changes counts =
    counts_on {T = Unit {0}} n0 n1 n2 (Err fault) le (counts_above (Unit {0}) (Unit {0}) t n1 n2 fault (not_refused call t u allowed fault changes) counts)

-- a call that changes nothing is not refused where its condition holds
pub answer_not_refused : {T : Type 0} (t : Option Told) (Condition : View → Type 0) (IsRight : View → T → Type 0) (fault : FolderFault)
    → IfSeen t (λ v. Condition v) → Answers {T = T} t Condition IsRight (Err fault) → (a : Told) → t ≡ Some a → fault ≡ Refused → ⊥
answer_not_refused (Some b) Condition IsRight Refused holds answers a is same = answers (seen b.state) refl (holds (seen b.state) refl)
answer_not_refused (Some b) Condition IsRight Failed holds answers a is same = cc same
answer_not_refused (Some b) Condition IsRight NoMemory holds answers a is same = cc same
answer_not_refused None Condition IsRight fault holds answers a is same = cc is

-- so at such an exit
pub counts_at_fault : (T U : Type 0) (t : Option Told) (n0 n1 n2 : ℕ) (Condition : View → Type 0) (IsRight : View → T → Type 0) (fault : FolderFault) → n0 ≤ n1
    → IfSeen t (λ v. Condition v) → Answers {T = T} t Condition IsRight (Err fault) → Counts {T = T} t n1 n2 (Err fault)
    → CountsAbove {T = U} n0 n2 (Err fault)
counts_at_fault T U t n0 n1 n2 Condition IsRight fault le holds answers counts =
    counts_on {T = U} n0 n1 n2 (Err fault) le (counts_above T U t n1 n2 fault (answer_not_refused {T = T} t Condition IsRight fault holds answers) counts)
