use Rattle.std.proofs.Common.{◌≡◌, ◌-◌}
use Rattle.bx_text.specs.Place.{place}
use Rattle.bx_text.specs.Token.{lexeme_of}
use Rattle.bx_text.specs.Terms.{texts, strings_at, passed}
use Rattle.bx_text.proofs.strings.pass_strings.Given as goal

abbrev pub invariant-loop-turn : goal.invariant-loop-turn
invariant-loop-turn l = passed (texts (l._turn-end - l._turn) (place l.l.after)) ≡ passed (strings_at (lexeme_of l.fn.l))
