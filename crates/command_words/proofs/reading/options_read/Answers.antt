use Rattle.std.proofs.Common.{◌≡◌, ◌+◌, ◌<◌, ℕ, List, [], Option, ap, drop, get_or, length, map, option_and_then, subst, sym, ◌∙◌}
use Rattle.std.proofs.lemmas.List.{at_drop_all, at_drop_more}
use Rattle.command_words.specs.Rows.{option_of_code}
use Rattle.command_words.specs.Values.{joined, option_values, value_by, value_named}
use Rattle.command_words.specs.Words.{Choice}
use Rattle.command_words.specs.declared.rows.Kind.{Kind}
use Rattle.command_words.specs.declared.rows.Kind.TheVariants as kind
use Rattle.command_words.specs.declared.rows.Valued as code
use Rattle.command_words.specs.declared.values.Value.{Value}
use Rattle.command_words.proofs.OptionsRead.{all_read, one_without}
use Rattle.command_words.proofs.ValuesRead.{one_more}
use Rattle.command_words.proofs.WrittenValues.{Leads, leads_all, leads_more}
use Rattle.command_words.proofs.reading.options_read.Goals as goal

-- what an option writes
abbrev value_at : List Choice → code.Valued → Option Value
value_at choices valued = option_and_then (value_by valued.value.kind) (value_named valued.name.now choices)

abbrev kinds : List code.Valued → List Kind
kinds options = map (λ valued. valued.kind) (map option_of_code options)

abbrev nothing : code.Valued
nothing = record {
  name = record { ref_ptr = (0, 0); now = [] };
  value = record { shown = record { ref_ptr = (0, 0); now = [] }; kind = kind.FolderPath };
  line = record { ref_ptr = (0, 0); now = [] };
}

next : (choices : List Choice) (options : List code.Valued) (k : ℕ) → k < length options
    → option_values choices (map option_of_code (drop k options))
    ≡ joined (value_at choices (get_or options k nothing)) (option_values choices (map option_of_code (drop (k + 1) options)))
next choices options k few = at_drop_more (λ left. option_values choices (map option_of_code left)) options k nothing few

pub loop-valued-preserved : goal.loop-valued-preserved
loop-valued-preserved c =
    let choices = c.args.choices.now in
    let options = c.args.options.now in
    let k = c.loop-valued.valued-index in
    let valued = get_or options k nothing in
    record {
      all = one_more (value_at choices valued) c.in-Some-2.value c.loop-valued.values.items c.push.new.self.items _ _ _ c.in_ok-push.ensures.items
          (ap (option_and_then (value_by valued.value.kind)) (sym c.in-Some.ensures) ∙ sym c.in_ok-value.ensures.is ∙ c.in-Some-2.is)
          (next choices options k c.loop-valued-test.true) c.loop-valued.invariant.all;
      written = leads_more valued.value.kind c.in-Some-2.value (kinds options) _ c.loop-valued.values.items _ c.in_ok-push.ensures.items (rw c.in-Some-2.is at c.in_ok-value.ensures.written)
          (subst (λ it. Leads (kinds options) it c.loop-valued.values.items) (at_drop_more kinds options k nothing c.loop-valued-test.true) c.loop-valued.invariant.written);
    }

pub returns-in_default-clause-is : goal.returns-in_default-clause-is
returns-in_default-clause-is c =
    let choices = c.args.choices.now in
    let options = c.args.options.now in
    let k = c.loop-valued.valued-index in
    let valued = get_or options k nothing in
    one_without (value_at choices valued) c.loop-valued.values.items _ _ _ (ap (option_and_then (value_by valued.value.kind)) (sym c.in_default.ensures))
    (next choices options k c.loop-valued-test.true) c.loop-valued.invariant.all

pub returns-in_default-2-clause-is : goal.returns-in_default-2-clause-is
returns-in_default-2-clause-is c =
    let choices = c.args.choices.now in
    let options = c.args.options.now in
    let k = c.loop-valued.valued-index in
    let valued = get_or options k nothing in
    one_without (value_at choices valued) c.loop-valued.values.items _ _ _
    (ap (option_and_then (value_by valued.value.kind)) (sym c.in-Some.ensures) ∙ sym c.in_ok-value.ensures.is ∙ c.in_default-2.is)
    (next choices options k c.loop-valued-test.true) c.loop-valued.invariant.all

pub returns-clause-is : goal.returns-clause-is
returns-clause-is c =
    let choices = c.args.choices.now in
    all_read c.loop-valued.values.items _ _ (at_drop_all (λ left. option_values choices (map option_of_code left)) c.args.options.now c.loop-valued.valued-index c.loop-valued-test.false)
    c.loop-valued.invariant.all

pub returns-clause-written : goal.returns-clause-written
returns-clause-written c =
    let options = c.args.options.now in
    let done = at_drop_all kinds options c.loop-valued.valued-index c.loop-valued-test.false in
    leads_all (kinds options) c.loop-valued.values.items (subst (λ it. Leads (kinds options) it c.loop-valued.values.items) done c.loop-valued.invariant.written)
