use Rattle.std.proofs.Common.{◌≡◌, ◌∙◌, Err, refl, sym, ap, subst, arith}
use Rattle.folder_model.proofs.Counting.{rose_since}
use Rattle.folder_spec.specs.Seen.{IsSeen}
use Rattle.vault_read.specs.Contents.{IsReaderFault, still}
use Rattle.vault_faults.specs.declared.fault.CatFault.TheVariants as cat
use Rattle.vault_faults.specs.declared.fault.Limit.TheVariants.{Length}
use Rattle.vault_check.proofs.Endings.{answers_damage, answers_failed, answers_fault, answers_length, ends_later, ends_whole, ends_faulty, ends_wanting}
use Rattle.vault_check.proofs.contents.first_fault.Goals as goal

pub chunks-init : goal.chunks-init
chunks-init g c = record {
  told = refl;
  at = refl;
  file = c.requires;
  ending = λ v seen bytes file. refl;
  grows = omega arith;
}

pub next-requires : goal.next-requires
next-requires g c = λ v seen. c.chunks.invariant.file v (subst (λ t. IsSeen t v) c.chunks.invariant.told seen)

-- what the last step gave of the content
pub returns-in-Ok-eq0-clause-ending : goal.returns-in-Ok-eq0-clause-ending
returns-in-Ok-eq0-clause-ending g c = λ v seen.
    let i = c.chunks.invariant in
    let file = c.requires v seen in
    let gives = c.in-Ok-eq0.ensures.gives v (subst (λ t. IsSeen t v) (sym i.told) seen) file.0 (ap v i.at ∙ file.1) in (
      file.0,
      file.1,
      i.ending v seen file.0 file.1
          ∙ ends_whole c.in-Ok-eq0.field-0 c.next.new.out (still c.chunks.reader.decoding file.0) (still c.next.new.self.decoding file.0) c.in-Ok-eq0.field-0-test gives,
    )

pub returns-in-Err : goal.returns-in-Err
returns-in-Err g c =
    let i = c.chunks.invariant in
    let e = c.in-Err.ensures in
    let fault = c.in-Err.fault in
    let is = c.ended_by.ensures in
    let at = c.chunks.reader.at in
    let out = c.next.new.out in
    record {
      looks = record {
        told = e.looks.told ∙ i.told;
        blames = record {
          grows = omega (arith, i.grows, e.looks.blames.grows);
          rose = λ same. rose_since _ _ _ i.grows (e.looks.blames.rose (ap Err (answers_failed fault c.ended_by.result is same)));
        };
      };
      ending = answers_damage fault c.ended_by.result _ is (λ path found damaged v seen.
          let file = c.requires v seen in
          let before = still c.chunks.reader.decoding file.0 in
          let after = still c.next.new.self.decoding file.0 in
          let gives = e.gives v (subst (λ t. IsSeen t v) (sym i.told) seen) file.0 (ap v i.at ∙ file.1) in
          (file.0, file.1, i.ending v seen file.0 file.1 ∙ ends_faulty at path found fault out before after damaged gives));
      length = λ named same.
          let limit = answers_length fault named c.ended_by.result is same in
          let named_at : named ≡ c.args.reader.now.at = (let here : IsReaderFault at (cat.Limit (Length named)) = subst (IsReaderFault at) limit e.fault in here) ∙ i.at in (
            named_at,
            λ v seen.
                let file = c.requires v seen in
                let before = still c.chunks.reader.decoding file.0 in
                let after = still c.next.new.self.decoding file.0 in
                let gives = e.gives v (subst (λ t. IsSeen t v) (sym i.told) seen) file.0 (ap v i.at ∙ file.1) in
                (file.0, file.1, i.ending v seen file.0 file.1 ∙ (ends_wanting at named (Length named) fault out before after limit gives refl).1),
          );
      fault = answers_fault fault at c.ended_by.result is e.fault;
    }

pub chunks-preserved : goal.chunks-preserved
chunks-preserved g c =
    let i = c.chunks.invariant in
    let e = c.in-Ok.ensures in
    record {
      told = e.looks.told ∙ i.told;
      at = e.at ∙ i.at;
      file = λ v seen. e.suits v (subst (λ t. IsSeen t v) (sym i.told) seen);
      ending = λ v seen bytes file.
          let gives = e.gives v (subst (λ t. IsSeen t v) (sym i.told) seen) bytes (ap v i.at ∙ file) in
          i.ending v seen bytes file
          ∙ ends_later c.in-Ok.field-0 c.next.new.out (still c.chunks.reader.decoding bytes) (still c.next.new.self.decoding bytes) (λ none. omega (arith, none, c.in-Ok.field-0-test)) gives;
      grows = omega (arith, i.grows, e.looks.blames.grows);
    }
