use Rattle.std.proofs.Common.{◌≡◌, ◌-◌, ◌<◌, IsOkAnd, IsSome}
use Rattle.bx_text.specs.Place.{place}
use Rattle.bx_text.specs.Token.{lexeme_of}
use Rattle.bx_text.specs.Terms.{texts, text_next, strings_at}
use Rattle.bx_text.specs.Rows.{prefixed}
use Rattle.bx_text.proofs.strings.strings.Given as goal

abbrev pub invariant-loop-turn : goal.invariant-loop-turn
invariant-loop-turn l = record {
  reads : prefixed l.found (texts (l._turn-end - l._turn) (place l.l.after)) ≡ prefixed l.fn.found (strings_at (lexeme_of l.fn.l));
  starts : l._turn ≡ 0 → place l.l.after ≡ place l.fn.l.after;
  goes : 0 < l._turn → IsOkAnd (text_next (place l.fn.l.after)) IsSome;
}
