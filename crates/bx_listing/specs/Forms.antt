-- A listing is a row of forms: terms, each ended by a full stop. Reading them ends where only blanks follow, or at the
-- first fault of the text.
use Rattle.std.specs.Prelude.{ℕ, zero, suc, ◌+◌, nat_lt, List, length, Option, Some, None, Result, Ok, Err, if◌then◌else◌}
use Rattle.bx_terms.specs.Outcomes.{◌>>=◌}
use Rattle.bx_terms.specs.declared.faults.Fault.{Fault}
use Rattle.bx_text.specs.Tree.{Tree, span_of}
use Rattle.bx_text.specs.Place.{Place, feeds}
use Rattle.bx_text.specs.Forms.{form_at}

-- A form takes bytes of the text: so the row of forms has an end.
abbrev pub moved : Place → Option (Tree × Place) → Option (Tree × Place)
moved p (Some x) = if nat_lt (length x.1.rest) (length p.rest) then Some x else None
moved p None = None

-- the next form and the place behind it
unfoldable pub next_form : Place → Result (Option (Tree × Place)) Fault
next_form p = form_at p >>= λ o. Ok (moved p o)

-- each form with the line on which it begins
pub data Forms : Type 0 where
  ends : Forms
  broken : Fault → Forms
  form : ℕ → Tree → Forms → Forms

abbrev pub forms_on : Result (Option (Tree × Place)) Fault → (Place → Forms) → Forms
forms_on (Ok None) more = ends
forms_on (Ok (Some x)) more = form (span_of x.0).line x.0 (more x.1)
forms_on (Err fault) more = broken fault

-- at most so many forms
abbrev pub some_forms : ℕ → Place → Forms
some_forms zero p = ends
some_forms (suc k) p = forms_on (next_form p) (some_forms k)

-- all forms from a place on
unfoldable pub forms : Place → Forms
forms p = some_forms (length p.rest + 1) p

-- the line in which a text ends
abbrev pub last_line : List ℕ → ℕ
last_line text = 1 + feeds text
