-- Elements that were read, put behind those found before.
use Rattle.std.specs.Prelude.{List, [], ◌∷◌, ◌++◌, Result, Ok}
use Rattle.bx_terms.specs.Outcomes.{◌>>=◌}
use Rattle.bx_terms.specs.declared.faults.Fault.{Fault}
use Rattle.bx_text.specs.Place.{Place}
use Rattle.bx_text.specs.Token as token
use Rattle.bx_text.specs.Token.{Token, Lexeme}
use Rattle.bx_text.specs.Tree.{Tree, nil, chain}
use Rattle.bx_text.specs.Lexing.{lexeme_at}
use Rattle.bx_text.specs.Terms.{Reading, closed, closes_list, tail_at, rest_at, strings_at}

abbrev pub prefixed : {Q : Type 0} → List Tree → Result (List Tree × Q) Fault → Result (List Tree × Q) Fault
prefixed xs read = read >>= λ x. Ok (xs ++ x.0, x.1)

abbrev pub chained : {Q : Type 0} → List Tree → Result (Tree × Q) Fault → Result (Tree × Q) Fault
chained xs read = read >>= λ x. Ok (chain xs x.0, x.1)

abbrev pub joined : {Q : Type 0} → List Tree → Result (Tree × Q) Fault → Result (List Tree × Q) Fault
joined xs read = read >>= λ x. Ok (xs ++ x.0 ∷ [], x.1)

-- a tail behind the bar m, and the closing mark
abbrev pub closing : List Tree → Reading → Lexeme → Result (Tree × Place) Fault
closing xs term m = lexeme_at m.after >>= λ l. chained xs (tail_at term l) >>= λ x. lexeme_at x.1 >>= closed closes_list >>= λ q. Ok (x.0, q)

-- a list as a tail
abbrev pub splicing : List Tree → Reading → Lexeme → Token → Result (Tree × Place) Fault
splicing xs term l token.open_list = chained xs (rest_at term l.after)
splicing xs term l t = prefixed xs (strings_at l) >>= λ x. Ok (chain x.0 nil, x.1)

-- any other term as a tail
abbrev pub ending : List Tree → Result (Tree × Place) Fault → Result (Tree × Place) Fault
ending xs read = read >>= λ x. Ok (chain xs x.0, x.1)
