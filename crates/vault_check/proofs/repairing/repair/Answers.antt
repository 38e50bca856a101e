use Rattle.std.proofs.Common.{◌≡◌, ◌∙◌, [], inl, inr, sym, subst}
use Rattle.folder_spec.specs.Event.{FromTo}
use Rattle.folder_spec.specs.Seen.{IfSeen, IsSeen, under}
use Rattle.vault_spec.specs.Vault.{format_of}
use Rattle.vault_check.specs.Repairing.{AreMoved, AreStraysBehind, HasMadeAll, RepairsAt, repair_calls}
use Rattle.folder_model.proofs.ByFault.{one_fault}
use Rattle.vault_check.specs.Answers.{of_folder}
use Rattle.vault_check.specs.declared.fault.CheckFault.TheVariants as check
use Rattle.vault_check.proofs.Faults.{no_limit}
use Rattle.vault_check.proofs.MadeCalls.{at_err}
use Rattle.vault_check.proofs.Repaired.{none_behind, repairs_none, stops_by}
use Rattle.vault_check.proofs.repairing.repair.Goals as goal

pub move_strays-requires : goal.move_strays-requires
move_strays-requires g c =
    let root = c.args.vault.now.root in
    let f = format_of c.args.vault.now.vault in
    let same = c.in_ok-strays.ensures.looks.told in
    record {
      place = λ v seen. c.requires v (subst (λ t. IsSeen t v) same seen);
      strays = λ v seen. subst (AreStraysBehind root f (under root v)) (sym c.as_slice.ensures.value) (c.in_ok-strays.ensures.strays v (subst (λ t. IsSeen t v) same seen));
    }

pub returns-in_err-strays-clause-moments : goal.returns-in_err-strays-clause-moments
returns-in_err-strays-clause-moments g c =
    repairs_none c.args.vault.now.root c.args.lost.now (format_of c.args.vault.now.vault) (g.F.Folder.told c.args.folder.now) (g.F.Folder.told c.strays_of.new.folder) c.strays_of.ensures.looks.told

pub returns-in_err-strays-clause-stops : goal.returns-in_err-strays-clause-stops
returns-in_err-strays-clause-stops g c = at_err c.from_residual.result _ (inl c.strays_of.ensures.looks.told)

pub returns-in_err-move_strays-clause-moments : goal.returns-in_err-move_strays-clause-moments
returns-in_err-move_strays-clause-moments g c =
    subst (λ t. RepairsAt c.args.vault.now.root (format_of c.args.vault.now.vault) c.args.lost.now t (g.F.Folder.told c.move_strays.new.folder)) c.in_ok-strays.ensures.looks.told c.move_strays.ensures.moments

pub returns-in_err-move_strays-clause-stops : goal.returns-in_err-move_strays-clause-stops
returns-in_err-move_strays-clause-stops g c =
    let root = c.args.vault.now.root in
    let f = format_of c.args.vault.now.vault in
    at_err c.from_residual-in_err-move_strays.result _ (inr
    (stops_by root c.args.lost.now f c.as_slice.result.now (g.F.Folder.told c.args.folder.now)
    (λ v seen. subst (AreStraysBehind root f (under root v)) (sym c.as_slice.ensures.value) (c.in_ok-strays.ensures.strays v seen))
    (g.F.Folder.told c.strays_of.new.folder) (g.F.Folder.told c.move_strays.new.folder) c.in_ok-strays.ensures.looks.told c.in_err-move_strays.ensures.stops))

pub returns-in_err-move_strays-clause-bare : goal.returns-in_err-move_strays-clause-bare
returns-in_err-move_strays-clause-bare g c v seen none =
    let root = c.args.vault.now.root in
    let f = format_of c.args.vault.now.vault in
    c.move_strays.ensures.nothing
    (none_behind root f (under root v) c.as_slice.result.now (subst (AreStraysBehind root f (under root v)) (sym c.as_slice.ensures.value) (c.in_ok-strays.ensures.strays v seen)) none)
    ∙ c.in_ok-strays.ensures.looks.told

pub returns-in_err-move_strays-clause-limits : goal.returns-in_err-move_strays-clause-limits
returns-in_err-move_strays-clause-limits g c limit same =
    let fault = c.in_err-move_strays.field-0.0 in
    absurd (no_limit fault limit (one_fault c.from_residual-in_err-move_strays.result (of_folder fault) (check.Limit limit) c.from_residual-in_err-move_strays.ensures.1 same))

pub returns-clause-moments : goal.returns-clause-moments
returns-clause-moments g c =
    subst (λ t. RepairsAt c.args.vault.now.root (format_of c.args.vault.now.vault) c.args.lost.now t (g.F.Folder.told c.move_strays.new.folder)) c.in_ok-strays.ensures.looks.told c.move_strays.ensures.moments

pub returns-clause-moved : goal.returns-clause-moved
returns-clause-moved g c =
    let root = c.args.vault.now.root in
    let lost = c.args.lost.now in
    let f = format_of c.args.vault.now.vault in
    let t0 = g.F.Folder.told c.args.folder.now in
    let u = g.F.Folder.told c.move_strays.new.folder in
    subst (λ paths. FromTo (λ a b. AreMoved root f lost paths a b) t0 u) c.as_slice.ensures.value
    (subst (λ t. FromTo (λ a b. AreMoved root f lost c.as_slice.result.now a b) t u) c.in_ok-strays.ensures.looks.told c.in_ok-move_strays.ensures.moved)

pub returns-clause-all : goal.returns-clause-all
returns-clause-all g c =
    let t0 = g.F.Folder.told c.args.folder.now in
    let u = g.F.Folder.told c.move_strays.new.folder in
    subst (λ paths. FromTo (HasMadeAll (repair_calls c.args.lost.now paths)) t0 u) c.as_slice.ensures.value
    (subst (λ t. FromTo (HasMadeAll (repair_calls c.args.lost.now c.as_slice.result.now)) t u) c.in_ok-strays.ensures.looks.told c.in_ok-move_strays.ensures.all)

pub returns-clause-nothing : goal.returns-clause-nothing
returns-clause-nothing g c none = c.move_strays.ensures.nothing (c.as_slice.ensures.value ∙ none) ∙ c.in_ok-strays.ensures.looks.told

pub returns-clause-bare : goal.returns-clause-bare
returns-clause-bare g c v seen none =
    let root = c.args.vault.now.root in
    let f = format_of c.args.vault.now.vault in
    c.move_strays.ensures.nothing
    (none_behind root f (under root v) c.as_slice.result.now (subst (AreStraysBehind root f (under root v)) (sym c.as_slice.ensures.value) (c.in_ok-strays.ensures.strays v seen)) none)
    ∙ c.in_ok-strays.ensures.looks.told
