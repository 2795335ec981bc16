-- Terms that are passed over: where they end, or their first fault.
use Rattle.std.specs.Prelude.{if◌then◌else◌, Result, Ok}
use Rattle.bx_terms.specs.Outcomes.{◌>>=◌}
use Rattle.bx_terms.specs.declared.faults.Fault.{Fault}
use Rattle.bx_text.specs.Place.{Place}
use Rattle.bx_text.specs.Token.{Lexeme}
use Rattle.bx_text.specs.Lexing.{lexeme_at}
use Rattle.bx_text.specs.Terms.{Reading, Follow, closed, closes_tuple, closes_list, is_bar, follow_at, want, passed, parts_at}

-- an element, and what follows it
abbrev pub element_passed : Reading → Lexeme → Result Follow Fault
element_passed term l = passed (term l) >>= follow_at

abbrev pub tuple_passed_on : Reading → Lexeme → Result Place Fault
tuple_passed_on term m =
    if closes_tuple m.token then Ok m.after
    else (parts_at (element_passed term) m >>= closed closes_tuple)

abbrev pub tuple_passed : Reading → Lexeme → Result Place Fault
tuple_passed term l = lexeme_at l.after >>= tuple_passed_on term

-- a tail behind the bar m, and the closing mark
abbrev pub tail_passed : Reading → Lexeme → Result Place Fault
tail_passed term m = passed (lexeme_at m.after >>= term) >>= want closes_list

-- what follows a list's elements
abbrev pub end_passed : Reading → Lexeme → Result Place Fault
end_passed term m = if is_bar m.token then tail_passed term m else closed closes_list m

abbrev pub list_passed_on : Reading → Lexeme → Result Place Fault
list_passed_on term m =
    if closes_list m.token then Ok m.after
    else (parts_at (element_passed term) m >>= end_passed term)

abbrev pub list_passed : Reading → Lexeme → Result Place Fault
list_passed term l = lexeme_at l.after >>= list_passed_on term
