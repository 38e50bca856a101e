-- What `ls` shows is one, and a directory that is entered is shown.
use Rattle.std.proofs.Common.{◌≡◌, ℕ, List, [], ◌∷◌, Option, Result, Ok, Err, inl, inr, ap, subst, sym, ◌∙◌}
use Rattle.std.specs.Prelude.{◌⊎◌, MatchResult}
use Rattle.folder_spec.specs.Event.{Told}
use Rattle.folder_spec.specs.Seen.{IsSeen, under}
use Rattle.folder_spec.specs.View.{View}
use Rattle.vault_read.specs.Laws.{HaveOneAnswer}
use Rattle.vault_spec.specs.Find.{Refusal, enter}
use Rattle.vault_spec.specs.Format.{Format, Directory}
use Rattle.vault_spec.specs.Listing.{Listed, AreListed}
use Rattle.vault_spec.specs.Vault.{Vault, format_of}
use Rattle.reading_commands.specs.Finding.{answer_to_finding}
use Rattle.reading_commands.specs.Ls.{OpensDirectory, ShowsItems, ls_text}
use Rattle.open_for_reading.specs.Shown.{IsCutShort, Reads, Shown, refused}
use Rattle.command_answers.specs.declared.answer.Answer.{Answer}
use Rattle.command_answers.specs.declared.answer.Answer.TheVariants.{Done}
use Rattle.command_words.specs.declared.commands.Target.{Target}
use Rattle.open_for_reading.proofs.Refusals.{opened_is, opened_one}
use Rattle.open_for_reading.proofs.Showing.{IsOne, all_or_cut}

-- a directory has one list of its items
abbrev pub HaveOneList : Type 0
HaveOneList = (f : Format) (v : View) (dir : Directory) (items other : List Listed) → AreListed f v dir items → AreListed f v dir other → items ≡ other

-- what `ls` shows of a directory that is entered, or isn't
abbrev pub ShowsEntered : Target → View → Shown → Vault → Result Directory Refusal → Type 0
ShowsEntered target v shown vault entered =
    MatchResult entered
    (λ dir. (items : List Listed) × AreListed (format_of vault) (under target.vault v) dir items × (shown ≡ record { pieces = ls_text items ∷ []; answer = Done }))
    (λ refusal. shown ≡ refused (answer_to_finding target.vault refusal))

pub items_are_one : HaveOneAnswer → HaveOneList → (target : Target) (v : View) → IsOne (ShowsItems target v)
items_are_one law lists target v a b =
    opened_one law v target.vault target.pass a b
    (λ vault. ShowsEntered target v a vault (enter (format_of vault) (under target.vault v) target.path))
    (λ vault. ShowsEntered target v b vault (enter (format_of vault) (under target.vault v) target.path))
    (λ vault. by_entered vault (enter (format_of vault) (under target.vault v) target.path))
  where
    by_entered : (vault : Vault) (entered : Result Directory Refusal) → ShowsEntered target v a vault entered → ShowsEntered target v b vault entered → a ≡ b
    by_entered vault (Ok dir) x y =
        x.2 ∙ ap (λ items. record { pieces = ls_text items ∷ []; answer = Done }) (lists (format_of vault) (under target.vault v) dir x.0 y.0 x.1 y.1) ∙ sym y.2
    by_entered vault (Err refusal) x y = x ∙ sym y

-- a directory that is entered is listed, unless the command is cut short
pub listed_or_cut : HaveOneAnswer → (target : Target) (answer : Answer) (told told' : Option Told) (taken taken' : Option (List ℕ)) → Reads (ShowsItems target) answer told told' taken taken'
    → (v : View) → IsSeen told v → OpensDirectory target v → (answer ≡ Done) ⊎ IsCutShort answer
listed_or_cut law target answer told told' taken taken' reads v is opens = elim (all_or_cut (ShowsItems target v) answer taken taken' (reads.follows v is)) [
  | inl all ↦ inl (all.2 ∙ ap (λ (s : Shown). s.answer) (listed all.0 all.1).2)
  | inr cut ↦ inr cut
]
  where
    listed : (shown : Shown) → ShowsItems target v shown → ShowsEntered target v shown opens.vault (Ok opens.directory)
    listed shown shows =
        subst (ShowsEntered target v shown opens.vault) opens.entered
        (opened_is law v target.vault target.pass shown (λ vault. ShowsEntered target v shown vault (enter (format_of vault) (under target.vault v) target.path)) opens.vault opens.opens shows)
