-- A form: a term and its full stop.
use Rattle.std.specs.Prelude.{ℕ, if◌then◌else◌, List, [], ◌∷◌, Option, Some, None, option_map, Result, Ok, Err, IsOkAnd}
use Rattle.bx_terms.specs.Outcomes.{◌>>=◌}
use Rattle.bx_terms.specs.declared.faults.Fault.{Fault, TheVariants.BadTerm}
use Rattle.bx_text.specs.Place.{Place, place_in}
use Rattle.bx_text.specs.Blank.{skip}
use Rattle.bx_text.specs.Token.{spelled, Lexeme}
use Rattle.bx_text.specs.Lexing.{lexeme_from, lexeme_at, name_at}
use Rattle.bx_text.specs.Tree.{Tree}
use Rattle.bx_text.specs.Terms.{is_stop, term_at, keeps}

abbrev pub stopped : Tree → Lexeme → Result (Option (Tree × Place)) Fault
stopped t m = if is_stop m.token then Ok (Some (t, m.after)) else Err (BadTerm m.line)

abbrev pub form_by : ℕ → Lexeme → Result (Option (Tree × Place)) Fault
form_by d l = term_at d l >>= λ x. lexeme_at x.1 >>= stopped x.0

abbrev pub form_on : ℕ → List ℕ → Place → Result (Option (Tree × Place)) Fault
form_on d [] q = Ok None
form_on d (b ∷ bs) q = lexeme_from q >>= form_by d

-- the next term, where brackets may nest d deep, and the place behind its full stop; none where only space and comments follow
abbrev pub form_within : ℕ → Place → Result (Option (Tree × Place)) Fault
form_within d p = skip p >>= λ q. form_on d q.rest q

abbrev pub form_at : Place → Result (Option (Tree × Place)) Fault
form_at p = form_within 256 p

-- memory is taken where the form's first token is good and the term that begins with it keeps something
abbrev pub takes_within : ℕ → Place → Type 0
takes_within d p = IsOkAnd (lexeme_at p) (keeps d)

abbrev pub takes_memory : Place → Type 0
takes_memory p = takes_within 256 p

-- the same at a place of a whole text, and where it ends there
abbrev pub term_in : List ℕ → ℕ → Result (Option (Tree × ℕ)) Fault
term_in text at = form_at (place_in text at) >>= λ o. Ok (option_map (λ x. (x.0, x.1.at)) o)

-- an atom's text at a place of a whole text, and where it ends there
abbrev pub atom_in : List ℕ → ℕ → Result (Option (List ℕ × ℕ)) Fault
atom_in text at = name_at (place_in text at) >>= λ o. Ok (option_map (λ x. (spelled x.0, x.1.at)) o)
