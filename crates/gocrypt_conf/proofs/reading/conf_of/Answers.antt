use Rattle.std.proofs.Common.{Some, None, inr, refl, rules}
use Rattle.json_fields.specs.Views.{texts_view}
use Rattle.gocrypt_conf.proofs.Checked.{named, wrong_version, unknown_refused, missing_refused, flag_refused, no_cost, wrong_sealed, wrong_key_len, all_passed}
use Rattle.gocrypt_conf.proofs.reading.conf_of.Goals as goal

pub returns-then-fields-ne2-clause-fault : goal.returns-then-fields-ne2-clause-fault
returns-then-fields-ne2-clause-fault c = inr (wrong_version _ c.if-fields-ne2.true)

pub returns-in-Some-clause-fault : goal.returns-in-Some-clause-fault
returns-in-Some-clause-fault c =
    named _ _ _ c.flag_fault.ensures
    (flag_refused _ _ c.if-fields-ne2.false (unknown_refused (texts_view c.args.fields.flags.items) _ (rw c.deref.ensures.value at c.in-Some.ensures)))

pub returns-in-Some-first_outside-clause-fault : goal.returns-in-Some-first_outside-clause-fault
returns-in-Some-first_outside-clause-fault c =
    named _ _ _ c.flag_fault-in-Some-first_outside.ensures
    (flag_refused _ _ c.if-fields-ne2.false
    (missing_refused (texts_view c.args.fields.flags.items) (Some c.in-Some-first_outside.missing.now) (rw c.deref.ensures.value at c.in_default.ensures) (rw c.deref-2.ensures.value at c.in-Some-first_outside.ensures)))

pub returns-in_default-new-clause-fault : goal.returns-in_default-new-clause-fault
returns-in_default-new-clause-fault c =
    let flags = missing_refused (texts_view c.args.fields.flags.items) None (rw c.deref.ensures.value at c.in_default.ensures) (rw c.deref-2.ensures.value at c.in_default-first_outside.ensures) in
    inr (no_cost _ c.if-fields-ne2.false flags (λ cost. let ok = c.in_default-new.ensures.exactly.1 cost in cc))

pub returns-then-len-ne64-clause-fault : goal.returns-then-len-ne64-clause-fault
returns-then-len-ne64-clause-fault c =
    let flags = missing_refused (texts_view c.args.fields.flags.items) None (rw c.deref.ensures.value at c.in_default.ensures) (rw c.deref-2.ensures.value at c.in_default-first_outside.ensures) in
    named _ _ _ c.length_fault.ensures (wrong_sealed _ c.if-fields-ne2.false flags (c.in-Ok.ensures.exactly.0 refl) (search rules))

pub returns-then-fields-ne32-clause-fault : goal.returns-then-fields-ne32-clause-fault
returns-then-fields-ne32-clause-fault c =
    let flags = missing_refused (texts_view c.args.fields.flags.items) None (rw c.deref.ensures.value at c.in_default.ensures) (rw c.deref-2.ensures.value at c.in_default-first_outside.ensures) in
    named _ _ _ c.length_fault-then-fields-ne32.ensures
    (wrong_key_len _ c.if-fields-ne2.false flags (c.in-Ok.ensures.exactly.0 refl) (search rules) c.if-fields-ne32.true)

pub returns-clause-conf : goal.returns-clause-conf
returns-clause-conf c =
    let flags = missing_refused (texts_view c.args.fields.flags.items) None (rw c.deref.ensures.value at c.in_default.ensures) (rw c.deref-2.ensures.value at c.in_default-first_outside.ensures) in
    rw (c.new-2.ensures, c.in-Ok.ensures.numbers, c.copy_from_slice.ensures.after, c.as_slice.ensures.value)
    (all_passed _ c.if-fields-ne2.false flags (c.in-Ok.ensures.exactly.0 refl) (search rules) c.if-fields-ne32.false)
