-- A form that is a pair of a word and a term: where it ends, token by token, and that it is read as one.
use Rattle.std.specs.Prelude.{◌≡◌, ℕ, Bool, false, List, Option, Some, None, Result, Ok, Err, bytes_eq}
use Rattle.bx_terms.specs.Outcomes.{◌>>=◌}
use Rattle.bx_terms.specs.declared.faults.Fault.{Fault}
use Rattle.bx_text.specs.declared.node.Span.{Span}
use Rattle.bx_text.specs.Place.{Place}
use Rattle.bx_text.specs.Token as token
use Rattle.bx_text.specs.Token.{Token}
use Rattle.bx_text.specs.Tree.{Tree, atom, tuple, nil, cons}
use Rattle.bx_text.specs.Terms.{opens_tuple, closes_tuple, is_comma, is_stop, want, value_at, term_at}
use Rattle.bx_text.specs.Forms.{form_at}

-- the word, without escapes
abbrev pub is_word : List ℕ → Token → Bool
is_word word (token.atom (token.plain w)) = bytes_eq w word
is_word word t = false

-- `{`, the word, a comma, a term in which brackets nest at most d deep, `}` and a full stop
abbrev pub pair_end : ℕ → List ℕ → Place → Result Place Fault
pair_end d word p = want opens_tuple p >>= want (is_word word) >>= want is_comma >>= value_at (term_at d) >>= want closes_tuple >>= want is_stop

abbrev pub good : {A : Type 0} → Result A Fault → Option A
good (Ok x) = Some x
good (Err fault) = None

-- the form at p is read as a pair of that word and some term, and ends at q
abbrev pub IsPairForm : List ℕ → Place → Place → Type 0
IsPairForm word p q = (s : Span) × (r : Span) × (t : Tree) × (form_at p ≡ Ok (Some (tuple s (cons (atom r word) (cons t nil)), q)))
