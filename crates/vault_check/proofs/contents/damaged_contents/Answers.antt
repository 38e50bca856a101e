use Rattle.std.proofs.Common.{◌≡◌, Err, Contains, [], ◌∙◌, take, refl, sym, ap, subst, subst₂, arith}
use Rattle.std.proofs.lemmas.Result.{err_from_is_err_and}
use Rattle.folder_spec.specs.Seen.{IsSeen}
use Rattle.vault_spec.specs.Vault.{format_of}
use Rattle.vault_faults.specs.declared.fault.Limit.TheVariants as limit
use Rattle.vault_check.specs.Contents.{EndsFirst, TellsDamage, NoContent, Content}
use Rattle.vault_check.specs.declared.fault.CheckFault.TheVariants as check
use Rattle.vault_check.proofs.Contained.{front_more}
use Rattle.vault_check.proofs.Damages.{ended_otherwise}
use Rattle.vault_check.proofs.contents.damaged_contents.Goals as goal

pub loop-at-init : goal.loop-at-init
loop-at-init g c = record {
  told = refl;
  read = λ v seen. subst (λ found. TellsDamage (format_of c.args.vault.now.vault) v [] found) (sym c.new-damaged.ensures.items) NoContent;
  grows = omega arith;
}

pub fault_of-requires : goal.fault_of-requires
fault_of-requires g c = λ v seen. c.requires v (subst (λ t. IsSeen t v) c.loop-at.invariant.told seen) c.at-item.result (c.loop-at.at-index, c.loop-at-test.true, sym c.at-item.is)

pub loop-at-preserved : goal.loop-at-preserved
loop-at-preserved g c =
    let i = c.loop-at.invariant in
    let f = format_of c.args.vault.now.vault in
    let contents = c.args.contents.now in
    let k = c.loop-at.at-index in
    let at = c.at-item.result in
    record {
      told = c.in_ok-fault.ensures.looks.told ∙ i.told;
      read = λ v seen.
          subst₂ (λ some found. TellsDamage f v some found) (sym (front_more contents k at c.loop-at-test.true c.at-item.is)) (sym c.in_ok-add_damage.ensures)
          (Content at (take k contents) c.in_ok-fault.fault c.loop-at.damaged.items (i.read v seen)
          (c.in_ok-fault.ensures.ending v (subst (λ t. IsSeen t v) (sym i.told) seen)));
      grows = omega (arith, i.grows, c.in_ok-fault.ensures.looks.blames.grows);
    }

pub returns-in_err-fault-clause-length : goal.returns-in_err-fault-clause-length
returns-in_err-fault-clause-length g c = λ named is.
    let p = err_from_is_err_and c.from_residual-in_err-fault.result c.from_residual-in_err-fault.ensures.1 in
    let same : p.0 ≡ check.Limit (limit.Length named) = (let whole = sym p.1 ∙ is in cc) in
    let told = c.in_err-fault.ensures.length named (ap Err (sym p.2 ∙ same)) in
    let f = format_of c.args.vault.now.vault in
    let k = c.loop-at.at-index in
    let contents = c.args.contents.now in
    λ v seen. subst (EndsFirst f v contents) (sym told.0) (record {
      place = k;
      inside = c.loop-at-test.true;
      is = c.at-item.is;
      ends = told.1 v (subst (λ t. IsSeen t v) (sym c.loop-at.invariant.told) seen);
      before = λ other there. ended_otherwise f v (take k contents) c.loop-at.damaged.items (c.loop-at.invariant.read v seen) other there;
    })
