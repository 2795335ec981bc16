-- A token that is held: where it begins, and the place behind it.
use Rattle.std.specs.Prelude.{Result, Ok}
use Rattle.bx_terms.specs.Outcomes.{◌>>=◌}
use Rattle.bx_terms.specs.declared.faults.Fault.{Fault}
use Rattle.bx_text.specs.Place.{Place}
use Rattle.bx_text.specs.Token.{Token, Lexeme}

-- the token x.0, which begins at p, where x.1 is the place behind it
abbrev pub held : Place → Token × Place → Lexeme
held p x = record { token = x.0; from = p.at; line = p.line; begin = p.rest; after = x.1 }

abbrev pub holding : Place → Result (Token × Place) Fault → Result Lexeme Fault
holding p read = read >>= λ x. Ok (held p x)
