-- An append that is to add nothing adds nothing.
use Rattle.std.proofs.Common.{◌≡◌, ℕ, ◌∙◌, Result, Ok, Err, OnErr, ap, arith, length, min}
use Rattle.folder_spec.specs.declared.FolderFault.{FolderFault}
use Rattle.folder_spec.specs.declared.FolderFault.TheVariants.{Failed, Refused, NoMemory}
use Rattle.folder_spec.specs.Event.{Append, Call, Told, Steps, piece_of, fallen}
use Rattle.folder_model.specs.Memory.{FellBy}
use Rattle.folder_model.proofs.States.{fallen_zero}
use Rattle.folder_model.specs.Memory.{told_of, plan_of}
use Rattle.folder_model.specs.Plan.{added_next}
use Rattle.folder_model.proofs.mem.answers.MemFolderFolder.append.Goals as goal

whole : (call : Call) (added : ℕ) (a b : Told) (result : Result (Unit {0}) FolderFault) → Steps call a b result → FellBy added call a b result → added ≡ 0
    → OnErr result (b.state ≡ a.state)
whole call added a b (Ok done) steps fell none = tt
whole call added a b (Err Failed) steps fell none =
    let nothing : min added (length (piece_of call)) ≡ 0 = omega (arith, none) in
    ap (λ (t : Told). t.state) fell ∙ ap (λ n. fallen a.state call n) nothing ∙ fallen_zero a.state call
whole call added a b (Err Refused) steps fell none = ap (λ (t : Told). t.state) steps.1
whole call added a b (Err NoMemory) steps fell none = ap (λ (t : Told). t.state) steps

pub returns-clause-whole : goal.returns-clause-whole
returns-clause-whole c =
    λ none. whole (Append c.in-Ok.at c.in-Ok-from_slice.piece.items) (added_next (plan_of c.args.self.now)) (told_of c.args.self.now) (told_of c.run.new.self) c.run.result c.run.ensures.changes c.run.ensures.added none
