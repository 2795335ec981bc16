-- Where forms that are no listing are refused.
use Rattle.std.specs.Prelude.{◌≡◌, ℕ, List, [], ◌∷◌, ◌++◌, Some}
use Rattle.bx_terms.specs.declared.faults.Fault.{Fault}
use Rattle.bx_terms.specs.declared.faults.Fault.TheVariants as faults
use Rattle.bx_text.specs.Tree.{Tree}
use Rattle.bx_listing.specs.Reading.{Table}
use Rattle.bx_listing.specs.Forms.{Forms, ends, broken, form}
use Rattle.bx_listing.specs.ListedCode.{ListedModule}
use Rattle.bx_listing.specs.Listed.{IsListing}

-- forms, each with its line, and those behind them
abbrev pub followed : List (ℕ × Tree) → Forms → Forms
followed [] rest = rest
followed (f ∷ fs) rest = form f.0 f.1 (followed fs rest)

-- the forms begin a listing: there are forms that make one behind them
abbrev pub Begins : Table → List (ℕ × Tree) → Type 0
Begins before fs = (rest : Forms) × (code : ListedModule) × (behind : Table) × IsListing before (followed fs rest) code behind

-- a fault of the form that begins on that line
abbrev pub OnLine : ℕ → Fault → Type 0
OnLine line (faults.TooManyAtoms at) = at ≡ Some line
OnLine line (faults.AtomTooLong at) = at ≡ Some line
OnLine line (faults.BadForm at) = at ≡ line
OnLine line (faults.Unsupported at name) = at ≡ line
OnLine line (faults.BadOperand at) = at ≡ line
OnLine line (faults.LiteralRange at) = at ≡ line
OnLine line fault = ⊥

-- what is wrong behind the first forms: a form is missing; or the text of one is refused; or with the next one they begin no
-- listing
abbrev pub IsWrong : Table → ℕ → List (ℕ × Tree) → Forms → Fault → Type 0
IsWrong before last fs ends fault = fault ≡ faults.BadForm last
IsWrong before last fs (broken refusal) fault = fault ≡ refusal
IsWrong before last fs (form line t rest) fault = OnLine line fault × (Begins before (fs ++ (line, t) ∷ []) → ⊥)

-- the forms before it begin a listing
abbrev pub IsFirstFault : Table → ℕ → Forms → Fault → Type 0
IsFirstFault before last all fault =
    (fs : List (ℕ × Tree)) × (rest : Forms) × (all ≡ followed fs rest) × Begins before fs × IsWrong before last fs rest fault
