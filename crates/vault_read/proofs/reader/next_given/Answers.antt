use Rattle.std.proofs.Common.{◌≡◌, ◌≤◌, ◌∙◌, Ok, sym, ap, subst, arith}
use Rattle.chunk_files.specs.declared.step.Step.TheVariants.{More, Chunk}
use Rattle.chunk_files.specs.Decoding.{GivesNext}
use Rattle.folder_spec.specs.Seen.{IsSeen}
use Rattle.vault_faults.specs.Limits.{content_limit}
use Rattle.vault_read.proofs.StillToCome.{over_left, over_empty, over_chunk, over_end, over_fault, over_limit, over_fed}
use Rattle.vault_read.proofs.reader.next_given.Goals as goal

pub steps-preserved-in-Ok-Chunk-eq0 : goal.steps-preserved-in-Ok-Chunk-eq0
steps-preserved-in-Ok-Chunk-eq0 g c =
    let i = c.steps.invariant in
    let e = c.in-Ok-Chunk-eq0.ensures in
    let gives : GivesNext c.steps.decoder (Ok (Chunk 0)) c.next.new.self c.next.new.out =
    subst (λ (step : _). GivesNext c.steps.decoder (Ok step) c.next.new.self c.next.new.out) (c.in-Ok-Chunk-eq0.field-0-is ∙ ap Chunk c.in-Ok-Chunk-eq0.field-0-0-test) e.gives in
    let within : c.steps.decoder.taken ≤ content_limit = omega (arith, i.in_step.same, i.in_step.within) in
    record {
      told = i.told;
      in_step = record { same = i.in_step.same ∙ sym e.taken; within = i.in_step.within };
      keys = e.keys ∙ i.keys;
      number = omega (arith, i.number, e.number);
      grows = i.grows;
      passes = λ v seen bytes file s.
          over_empty bytes c.args.decoder.now c.steps.decoder c.next.new.self (i.passes v seen bytes file s) within e.taken e.end c.next.new.out gives;
    }

pub returns-in-Ok-Chunk-clause-gives : goal.returns-in-Ok-Chunk-clause-gives
returns-in-Ok-Chunk-clause-gives g c = λ v seen bytes file s.
    let i = c.steps.invariant in
    let e = c.in-Ok-Chunk.ensures in
    let within : c.steps.decoder.taken ≤ content_limit = omega (arith, i.in_step.same, i.in_step.within) in
    over_chunk bytes c.args.decoder.now c.steps.decoder c.next.new.self (i.passes v seen bytes file s) within e.taken e.end c.in-Ok-Chunk.count c.next.new.out (rw c.in-Ok-Chunk.field-0-is at e.gives)

pub returns-then-not-branch-clause-gives : goal.returns-then-not-branch-clause-gives
returns-then-not-branch-clause-gives g c = λ v seen bytes file s.
    let i = c.steps.invariant in
    let e = c.in-Ok-More.ensures in
    let within : c.steps.decoder.taken ≤ content_limit = omega (arith, i.in_step.same, i.in_step.within) in
    let past = c.in_ok-read_on-in-Ok-More.ensures.past (ap Ok c.if-not-branch.true) in
    let all : c.steps.decoder.taken ≡ content_limit = sym e.taken ∙ past.1 in
    let longer = past.2 v (subst (λ t. IsSeen t v) (sym i.told) seen) bytes file in
    rw past.0
    (over_limit bytes c.args.decoder.now c.steps.decoder c.next.new.self (i.passes v seen bytes file s) within e.taken e.end c.next.new.out (rw c.in-Ok-More.field-0-is at e.gives) all longer)

pub steps-preserved : goal.steps-preserved
steps-preserved g c =
    let i = c.steps.invariant in
    let e = c.in-Ok-More.ensures in
    let r = c.in_ok-read_on-in-Ok-More.ensures in
    let within : c.steps.decoder.taken ≤ content_limit = omega (arith, i.in_step.same, i.in_step.within) in
    let gives : GivesNext c.steps.decoder (Ok More) c.next.new.self c.next.new.out = rw c.in-Ok-More.field-0-is at e.gives in
    record {
      told = r.told ∙ i.told;
      in_step = r.in_step;
      keys = r.keys ∙ e.keys ∙ i.keys;
      number = omega (arith, i.number, e.number, r.number);
      grows = omega (arith, i.grows, r.counts);
      passes = λ v seen bytes file s.
          let p = over_left bytes c.args.decoder.now c.steps.decoder c.next.new.self (i.passes v seen bytes file s) within e.taken e.end gives.2 in
          over_fed bytes c.args.decoder.now c.next.new.self c.read_on.new.decoder p (r.reads v (subst (λ t. IsSeen t v) (sym i.told) seen) bytes file p.suits);
    }

pub returns-in-Ok-End-clause-gives : goal.returns-in-Ok-End-clause-gives
returns-in-Ok-End-clause-gives g c = λ v seen bytes file s.
    let i = c.steps.invariant in
    let e = c.in-Ok-End.ensures in
    let within : c.steps.decoder.taken ≤ content_limit = omega (arith, i.in_step.same, i.in_step.within) in
    over_end bytes c.args.decoder.now c.steps.decoder c.next.new.self (i.passes v seen bytes file s) within e.taken e.end c.next.new.out (rw c.in-Ok-End.field-0-is at e.gives)

pub returns-in-Err-clause-gives : goal.returns-in-Err-clause-gives
returns-in-Err-clause-gives g c = λ v seen bytes file s.
    let i = c.steps.invariant in
    let e = c.in-Err.ensures in
    let within : c.steps.decoder.taken ≤ content_limit = omega (arith, i.in_step.same, i.in_step.within) in
    over_fault bytes c.args.decoder.now c.steps.decoder c.next.new.self (i.passes v seen bytes file s) within e.taken e.end c.in-Err.fault c.next.new.out e.gives
