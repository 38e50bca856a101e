-- Values that are written by their kinds, one after the other.
use Rattle.std.proofs.Common.{◌≡◌, ◌++◌, List, [], ◌∷◌, append-nil, append_assoc, subst, sym}
use Rattle.command_words.specs.Written.{AllWritten, EachWritten, IsWritten}
use Rattle.command_words.specs.declared.rows.Kind.{Kind}
use Rattle.command_words.specs.declared.values.Value.{Value}

-- those so far, before the others
abbrev pub Leads : List Kind → List Kind → List Value → Type 0
Leads whole kinds values = (more : List Value) → EachWritten kinds more → EachWritten whole (values ++ more)

pub leads_more : (kind : Kind) (value : Value) (whole kinds : List Kind) (before now : List Value) → now ≡ before ++ value ∷ [] → IsWritten kind value
    → Leads whole (kind ∷ kinds) before → Leads whole kinds now
leads_more kind value whole kinds before now is one leads more others =
    subst (λ items. EachWritten whole (items ++ more)) (sym is) (subst (EachWritten whole) (sym (append_assoc before (value ∷ []) more)) (leads (value ∷ more) (one, others)))

pub leads_all : (whole : List Kind) (values : List Value) → Leads whole [] values → EachWritten whole values
leads_all whole values leads = subst (EachWritten whole) (append-nil values) (leads [] tt)

fronts : (kinds : List Kind) (values flags : List Value) → EachWritten kinds values → AllWritten kinds (values ++ flags)
fronts [] [] flags each = tt
fronts [] (value ∷ values) flags each = absurd each
fronts (kind ∷ kinds) [] flags each = absurd each
fronts (kind ∷ kinds) (value ∷ values) flags each = (each.0, fronts kinds values flags each.1)

-- words and options, with the flags behind them
pub all_written : (kinds more : List Kind) (values options flags : List Value) → EachWritten kinds values → EachWritten more options → AllWritten (kinds ++ more) (values ++ options ++ flags)
all_written [] more [] options flags each others = fronts more options flags others
all_written [] more (value ∷ values) options flags each others = absurd each
all_written (kind ∷ kinds) more [] options flags each others = absurd each
all_written (kind ∷ kinds) more (value ∷ values) options flags each others = (each.0, all_written kinds more values options flags each.1 others)
