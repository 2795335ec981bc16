-- The forms of a text, by cases: terms of the grammar, each with its full stop, up to where only space and comments follow, or
-- up to the first fault of the text.
use Rattle.std.specs.Prelude.{◌≡◌, Err}
use Rattle.bx_terms.specs.declared.faults.Fault.{Fault}
use Rattle.bx_text.specs.Tree.{Tree, span_of}
use Rattle.bx_text.specs.Place.{Place}
use Rattle.bx_text.specs.Forms.{form_at}
use Rattle.bx_text.specs.Grammar.{Form, OnlyBlank}
use Rattle.bx_listing.specs.Forms.{Forms, ends, broken, form}

pub data AreForms : Place → Forms → Type 0 where
  none_follows : {p : Place} → OnlyBlank p → AreForms p ends
  one_follows : {p q : Place} {t : Tree} {rest : Forms} → Form 256 p t q → AreForms q rest → AreForms p (form (span_of t).line t rest)
  is_refused : {p : Place} {fault : Fault} → form_at p ≡ Err fault → AreForms p (broken fault)
