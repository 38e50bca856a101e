use Rattle.std.proofs.Common.{◌≡◌, ◌≤◌, List, ℕ, ◌++◌, [], ◌∷◌, length, nat_eq, true, ap, refl, ◌∙◌, arith, lit<}
use Rattle.folder_model.specs.Text.{IsParsed}
use Rattle.move_journal.specs.Journal.{from_line, to_line, items_line}
use Rattle.move_journal.specs.declared.journal.Form.{Form}
use Rattle.move_journal.specs.Lines.{AtFirst, BeginsWithNoLine}
use Rattle.move_journal.specs.Parsing.{in_form}
use Rattle.std.proofs.lemmas.List.{nil_from_length}
use Rattle.move_journal.proofs.Lines.{after_title, after_names, after_source, after_target, after_items, after_plan, two_lines, bad_line, bad_third, bad_behind, bad_end, whole_text}
use Rattle.move_journal.proofs.parse.parse.Goals as goal

pub returns-in_default : goal.returns-in_default
returns-in_default c =
    AtFirst refl c.in_default.ensures

pub returns-in_default-take_phase : goal.returns-in_default-take_phase
returns-in_default-take_phase c =
    bad_line c.in-Some.form 1 c.args.text.now c.in-Some.after_title.now (lit< tt) (two_lines c.in-Some.form) (after_title c.in-Some.form c.args.text.now c.in-Some.after_title.now c.in-Some.ensures) (c.in_default-take_phase.ensures c.in-Some.form)

pub returns-in_default-take_names : goal.returns-in_default-take_names
returns-in_default-take_names c =
    bad_third c.in-Some.form c.in-Some-take_phase.phase c.args.text.now c.in-Some.after_title.now c.in-Some-take_phase.after_phase.now c.in-Some.ensures c.in-Some-take_phase.ensures c.in_default-take_names.ensures.0 c.in_default-take_names.ensures.1

pub returns-in_default-2 : goal.returns-in_default-2
returns-in_default-2 c =
    let names = after_names c.in-Some.form c.in-Some-take_names.names c.in-Some-take_phase.phase c.args.text.now c.in-Some.after_title.now c.in-Some-take_phase.after_phase.now c.in-Some-take_names.after_names.now c.in-Some.ensures c.in-Some-take_phase.ensures c.in-Some-take_names.ensures in
    let none : (form : Form) → BeginsWithNoLine form (in_form form 2) c.in-Some-take_names.after_names.now = rw c.in_default-2.is at c.in_ok-source.ensures in
    bad_behind c.in-Some.form 2 c.number_in.result c.args.text.now c.in-Some-take_names.after_names.now c.number_in.ensures (lit< tt) (lit< tt) names (none c.in-Some.form)

pub returns-in_default-3 : goal.returns-in_default-3
returns-in_default-3 c =
    let names = after_names c.in-Some.form c.in-Some-take_names.names c.in-Some-take_phase.phase c.args.text.now c.in-Some.after_title.now c.in-Some-take_phase.after_phase.now c.in-Some-take_names.after_names.now c.in-Some.ensures c.in-Some-take_phase.ensures c.in-Some-take_names.ensures in
    let from_ : IsParsed c.in-Some-2.source × (c.in-Some-take_names.after_names.now ≡ from_line c.in-Some-2.source ++ 10 ∷ c.in-Some-2.after_source.now) = rw c.in-Some-2.is at c.in_ok-source.ensures in
    let source = after_source c.in-Some.form c.in-Some-2.source c.args.text.now c.in-Some-take_names.after_names.now c.in-Some-2.after_source.now names from_ in
    let none : (form : Form) → BeginsWithNoLine form (in_form form 3) c.in-Some-2.after_source.now = rw c.in_default-3.is at c.in_ok-target.ensures in
    bad_behind c.in-Some.form 3 c.number_in-in_default-3.result c.args.text.now c.in-Some-2.after_source.now c.number_in-in_default-3.ensures (lit< tt) (lit< tt) source (none c.in-Some.form)

pub returns-in_default-4 : goal.returns-in_default-4
returns-in_default-4 c =
    let names = after_names c.in-Some.form c.in-Some-take_names.names c.in-Some-take_phase.phase c.args.text.now c.in-Some.after_title.now c.in-Some-take_phase.after_phase.now c.in-Some-take_names.after_names.now c.in-Some.ensures c.in-Some-take_phase.ensures c.in-Some-take_names.ensures in
    let from_ : IsParsed c.in-Some-2.source × (c.in-Some-take_names.after_names.now ≡ from_line c.in-Some-2.source ++ 10 ∷ c.in-Some-2.after_source.now) = rw c.in-Some-2.is at c.in_ok-source.ensures in
    let source = after_source c.in-Some.form c.in-Some-2.source c.args.text.now c.in-Some-take_names.after_names.now c.in-Some-2.after_source.now names from_ in
    let to_ : IsParsed c.in-Some-3.target × (c.in-Some-2.after_source.now ≡ to_line c.in-Some-3.target ++ 10 ∷ c.in-Some-3.after_target.now) = rw c.in-Some-3.is at c.in_ok-target.ensures in
    let target = after_target c.in-Some.form c.in-Some-3.target c.args.text.now c.in-Some-2.after_source.now c.in-Some-3.after_target.now source to_ in
    let none : (form : Form) → BeginsWithNoLine form (in_form form 4) c.in-Some-3.after_target.now = rw c.in_default-4.is at c.in_ok-items.ensures in
    bad_behind c.in-Some.form 4 c.number_in-in_default-4.result c.args.text.now c.in-Some-3.after_target.now c.number_in-in_default-4.ensures (lit< tt) (lit< tt) target (none c.in-Some.form)

pub returns-in_default-take_plan : goal.returns-in_default-take_plan
returns-in_default-take_plan c =
    let names = after_names c.in-Some.form c.in-Some-take_names.names c.in-Some-take_phase.phase c.args.text.now c.in-Some.after_title.now c.in-Some-take_phase.after_phase.now c.in-Some-take_names.after_names.now c.in-Some.ensures c.in-Some-take_phase.ensures c.in-Some-take_names.ensures in
    let from_ : IsParsed c.in-Some-2.source × (c.in-Some-take_names.after_names.now ≡ from_line c.in-Some-2.source ++ 10 ∷ c.in-Some-2.after_source.now) = rw c.in-Some-2.is at c.in_ok-source.ensures in
    let source = after_source c.in-Some.form c.in-Some-2.source c.args.text.now c.in-Some-take_names.after_names.now c.in-Some-2.after_source.now names from_ in
    let to_ : IsParsed c.in-Some-3.target × (c.in-Some-2.after_source.now ≡ to_line c.in-Some-3.target ++ 10 ∷ c.in-Some-3.after_target.now) = rw c.in-Some-3.is at c.in_ok-target.ensures in
    let target = after_target c.in-Some.form c.in-Some-3.target c.args.text.now c.in-Some-2.after_source.now c.in-Some-3.after_target.now source to_ in
    let items_ : (c.in-Some-4.items ≤ 200000) × (c.in-Some-3.after_target.now ≡ items_line c.in-Some-4.items ++ 10 ∷ c.in-Some-4.after_items.now) = rw c.in-Some-4.is at c.in_ok-items.ensures in
    let items = after_items c.in-Some.form c.in-Some-4.items c.args.text.now c.in-Some-3.after_target.now c.in-Some-4.after_items.now target items_ in
    bad_behind c.in-Some.form 5 c.number_in-in_default-take_plan.result c.args.text.now c.in-Some-4.after_items.now c.number_in-in_default-take_plan.ensures (lit< tt) (lit< tt) items (c.in_default-take_plan.ensures c.in-Some.form)

pub returns-then-not-is_empty : goal.returns-then-not-is_empty
returns-then-not-is_empty c =
    let names = after_names c.in-Some.form c.in-Some-take_names.names c.in-Some-take_phase.phase c.args.text.now c.in-Some.after_title.now c.in-Some-take_phase.after_phase.now c.in-Some-take_names.after_names.now c.in-Some.ensures c.in-Some-take_phase.ensures c.in-Some-take_names.ensures in
    let from_ : IsParsed c.in-Some-2.source × (c.in-Some-take_names.after_names.now ≡ from_line c.in-Some-2.source ++ 10 ∷ c.in-Some-2.after_source.now) = rw c.in-Some-2.is at c.in_ok-source.ensures in
    let source = after_source c.in-Some.form c.in-Some-2.source c.args.text.now c.in-Some-take_names.after_names.now c.in-Some-2.after_source.now names from_ in
    let to_ : IsParsed c.in-Some-3.target × (c.in-Some-2.after_source.now ≡ to_line c.in-Some-3.target ++ 10 ∷ c.in-Some-3.after_target.now) = rw c.in-Some-3.is at c.in_ok-target.ensures in
    let target = after_target c.in-Some.form c.in-Some-3.target c.args.text.now c.in-Some-2.after_source.now c.in-Some-3.after_target.now source to_ in
    let items_ : (c.in-Some-4.items ≤ 200000) × (c.in-Some-3.after_target.now ≡ items_line c.in-Some-4.items ++ 10 ∷ c.in-Some-4.after_items.now) = rw c.in-Some-4.is at c.in_ok-items.ensures in
    let items = after_items c.in-Some.form c.in-Some-4.items c.args.text.now c.in-Some-3.after_target.now c.in-Some-4.after_items.now target items_ in
    let plan = after_plan c.in-Some.form c.in-Some-take_plan.last.0 c.args.text.now c.in-Some-4.after_items.now c.in-Some-take_plan.last.1.now items c.in-Some-take_plan.ensures in
    bad_end c.in-Some.form c.number_in-then-not-is_empty.result c.args.text.now c.in-Some-take_plan.last.1.now c.number_in-then-not-is_empty.ensures plan
    (λ e. let empty : c.is_empty.result ≡ true = c.is_empty.ensures ∙ ap (λ (l : List ℕ). nat_eq (length l) 0) e in first_of (cc, grind arith))

pub returns : goal.returns
returns c =
    let from_ : IsParsed c.in-Some-2.source × (c.in-Some-take_names.after_names.now ≡ from_line c.in-Some-2.source ++ 10 ∷ c.in-Some-2.after_source.now) = rw c.in-Some-2.is at c.in_ok-source.ensures in
    let to_ : IsParsed c.in-Some-3.target × (c.in-Some-2.after_source.now ≡ to_line c.in-Some-3.target ++ 10 ∷ c.in-Some-3.after_target.now) = rw c.in-Some-3.is at c.in_ok-target.ensures in
    let items_ : (c.in-Some-4.items ≤ 200000) × (c.in-Some-3.after_target.now ≡ items_line c.in-Some-4.items ++ 10 ∷ c.in-Some-4.after_items.now) = rw c.in-Some-4.is at c.in_ok-items.ensures in
    let plan_ = c.in-Some-take_plan.ensures in
    let end_ : c.in-Some-take_plan.last.1.now ≡ [] = nil_from_length c.in-Some-take_plan.last.1.now (first_of (cc, grind arith)) in (
      record { source = from_.0; target = to_.0; items = items_.0; plan = plan_.0 },
      whole_text c.in-Some.form _ c.args.text.now c.in-Some.after_title.now c.in-Some-take_phase.after_phase.now c.in-Some-take_names.after_names.now c.in-Some-2.after_source.now c.in-Some-3.after_target.now
          c.in-Some-4.after_items.now c.in-Some-take_plan.last.1.now c.in-Some.ensures c.in-Some-take_phase.ensures c.in-Some-take_names.ensures from_.1 to_.1 items_.1 plan_.1 end_,
    )
