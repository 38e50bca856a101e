-- Which answers commands may give, what is reported of them, and what a status tells of its answer.
use Rattle.std.proofs.Common.{◌≡◌, ◌≢◌, ◌≤◌, ◌⊎◌, ◌||◌, ◌∙◌, ℕ, Bool, true, false, IsNone, IsTrue, Option, None, Some, inl, inr, refl, ap, subst, sym, nat_eq, arith}
use Rattle.std.specs.Prelude.{if◌then◌else◌}
use Rattle.std.proofs.lemmas.Bool.{or_left}
use Rattle.std.proofs.lemmas.Bool.Decides.{nat_tests}
use Rattle.command_answers.specs.Answers.{status_of}
use Rattle.command_answers.specs.Messages.{IsReported}
use Rattle.command_answers.specs.Rows.{contradicted_of, is_among, may_end, may_end_told}
use Rattle.command_answers.specs.declared.answer.Answer.{Answer}
use Rattle.command_answers.specs.declared.answer.Answer.TheVariants.{Done, Findings, BadCommandLine, OutOfMemory, FolderFault, InputFault, OutputFault, RandomFault, Refused, WrongPass, NotFound, WrongKind, DamagedInput, Damaged, NotAllowed, NotClean, Overlap, NotEmpty, Begun, Unusable, Changed, Differ, ZeroRandom, Taken, Limit, Retired, Meet}
use Rattle.command_words.specs.declared.commands.Command.{Command}
use Rattle.command_words.specs.declared.commands.Command.TheVariants.{Demo}

-- memory may be refused to each command
pub always_memory : (command : Option Command) → IsTrue (may_end_told command 3)
always_memory None = refl
always_memory (Some command) = refl

pub memory_or_told : (command : Option Command) → IsTrue (may_end command 3)
memory_or_told command = or_left (may_end_told command 3) (is_among (contradicted_of command) 3) (always_memory command)

-- what holds of the status of an answer and of 3 holds of what is reported
by_report : (p : ℕ → Bool) (answer reported : Answer) → IsTrue (p 3) → IsReported answer reported → IsTrue (p (status_of answer)) → IsTrue (p (status_of reported))
by_report p answer reported memory (inl same) may = subst (λ it. IsTrue (p (status_of it))) (sym same) may
by_report p answer reported memory (inr lost) may = subst (λ it. IsTrue (p (status_of it))) (sym lost.0) memory

pub reported_any : (command : Option Command) (answer reported : Answer) → IsReported answer reported → IsTrue (may_end command (status_of answer)) → IsTrue (may_end command (status_of reported))
reported_any command answer reported = by_report (may_end command) answer reported (memory_or_told command)

pub reported_told : (command : Option Command) (answer reported : Answer) → IsReported answer reported → IsTrue (may_end_told command (status_of answer)) → IsTrue (may_end_told command (status_of reported))
reported_told command answer reported = by_report (may_end_told command) answer reported (always_memory command)

-- no row of a command has 2: the first clause takes one, and the last each of the others
not_bad : (command : Command) → ¬ IsTrue (may_end (Some command) 2)
not_bad (Demo demonstration) may = cc
not_bad other may = cc

pub bad_is_none : (command : Option Command) → IsTrue (may_end command 2) → IsNone command
bad_is_none None may = refl
bad_is_none (Some command) may = absurd (not_bad command may)

-- and words that make none end with 2 or 3
pub none_is_bad : (status : ℕ) → IsTrue (may_end None status) → (status ≡ 2) ⊎ (status ≡ 3)
none_is_bad status may = by_test (nat_eq 2 status) (nat_eq 3 status) refl refl may
  where
    by_test : (two three : Bool) → nat_eq 2 status ≡ two → nat_eq 3 status ≡ three → IsTrue ((two || (three || false)) || false) → (status ≡ 2) ⊎ (status ≡ 3)
    by_test true three is other may = inl (grind (arith, nat_tests, is))
    by_test false true is other may = inr (grind (arith, nat_tests, other))
    by_test false false is other may = cc

-- ---- what a status tells of its answer

-- a report changes an answer to no other than want of memory
pub reported_as : (answer result other : Answer) → IsReported answer result → result ≡ other → other ≢ OutOfMemory → answer ≡ other
reported_as answer result other (inl same) is known = sym same ∙ is
reported_as answer result other (inr memory) is known = absurd (known (sym is ∙ memory.0))

-- the answer of a status up to 7
abbrev pub answer_of : ℕ → Answer
answer_of n =
    if nat_eq n 1 then Findings else if nat_eq n 2 then BadCommandLine else if nat_eq n 3 then OutOfMemory else if nat_eq n 4 then FolderFault
    else if nat_eq n 5 then InputFault else if nat_eq n 6 then OutputFault else if nat_eq n 7 then RandomFault else Done

is_answer_of : (answer : Answer) → status_of answer ≤ 7 → answer ≡ answer_of (status_of answer)
is_answer_of Done few = refl
is_answer_of Findings few = refl
is_answer_of BadCommandLine few = refl
is_answer_of OutOfMemory few = refl
is_answer_of FolderFault few = refl
is_answer_of InputFault few = refl
is_answer_of OutputFault few = refl
is_answer_of RandomFault few = refl
is_answer_of (Refused at why) few = absurd (omega (arith, few))
is_answer_of (WrongPass root) few = absurd (omega (arith, few))
is_answer_of (NotFound what) few = absurd (omega (arith, few))
is_answer_of (WrongKind what) few = absurd (omega (arith, few))
is_answer_of (DamagedInput fault) few = absurd (omega (arith, few))
is_answer_of (Damaged at how) few = absurd (omega (arith, few))
is_answer_of (NotAllowed path) few = absurd (omega (arith, few))
is_answer_of (Overlap first second) few = absurd (omega (arith, few))
is_answer_of (NotEmpty at) few = absurd (omega (arith, few))
is_answer_of (Begun work) few = absurd (omega (arith, few))
is_answer_of ZeroRandom few = absurd (omega (arith, few))
is_answer_of (Taken at) few = absurd (omega (arith, few))
is_answer_of (NotClean at number) few = absurd (omega (arith, few))
is_answer_of (Unusable work why) few = absurd (omega (arith, few))
is_answer_of (Changed plan items plan' items') few = absurd (omega (arith, few))
is_answer_of (Differ path how) few = absurd (omega (arith, few))
is_answer_of (Retired work) few = absurd (omega (arith, few))
is_answer_of (Limit which) few = absurd (omega (arith, few))
is_answer_of (Meet one other) few = absurd (omega (arith, few))

pub with_status : (answer : Answer) (status : ℕ) → status ≤ 7 → status_of answer ≡ status → answer ≡ answer_of status
with_status answer status few is = is_answer_of answer (omega (arith, few, is)) ∙ ap answer_of is
