-- Which form is refused, with which fault: token by token, by what is wanted where a token stands.
-- Source: Erlang Reference Manual, "Data Types" and "Bit Syntax Expressions". The form is that of a table for predictive
-- parsing (Aho, Lam, Sethi and Ullman, "Compilers", 4.4).
use Rattle.std.specs.Prelude.{◌≡◌, ◌⊎◌, ℕ, ℤ, zero, suc, List, [], ◌∷◌, ◌++◌, codes}
use Rattle.bx_terms.specs.declared.faults.Fault.{Fault, TheVariants.BadTerm, TheVariants.TooDeep}
use Rattle.bx_text.specs.Place.{Place}
use Rattle.bx_text.specs.Named as named
use Rattle.bx_text.specs.Token as token
use Rattle.bx_text.specs.Token.{Body, Token, Lexeme}
use Rattle.bx_text_laws.specs.Lexemes.{NextFails}
use Rattle.bx_text_laws.specs.Terms.{Stood, OnlyBlanks}

-- brackets, by what they hold
pub data Bracket : Type 0 where
  a_tuple : Bracket
  a_list : Bracket
  a_map : Bracket
  a_binary : Bracket

abbrev pub opening : Bracket → Token
opening a_tuple = token.open_tuple
opening a_list = token.open_list
opening a_map = token.open_map
opening a_binary = token.open_binary

abbrev pub closing : Bracket → Token
closing a_tuple = named.close_tuple
closing a_list = named.close_list
closing a_map = named.close_tuple
closing a_binary = named.close_binary

-- what is wanted next; a number says how deep brackets may nest from there on
pub data Wanted : Type 0 where
  a_term : ℕ → Wanted
  -- behind a string: more of them, or none
  more_strings : Wanted
  -- behind the opening mark: the first part, or the closing mark
  first_in : Bracket → ℕ → Wanted
  -- behind a part: a comma and a further part, or the closing mark; in a list also its tail
  more_in : Bracket → ℕ → Wanted
  -- a binary's segment: an integer or strings, a size or none, and an encoding or none
  a_value : ℕ → Wanted
  a_size : Wanted
  an_encoding : Wanted
  a_name : Wanted
  a_number : Wanted
  -- this very token
  the : Token → Wanted

abbrev pub part : Bracket → ℕ → List Wanted
part a_tuple d = a_term d ∷ []
part a_list d = a_term d ∷ []
part a_map d = a_term d ∷ the named.arrow ∷ a_term d ∷ []
part a_binary d = a_value d ∷ a_size ∷ an_encoding ∷ []

-- a part, and what stands behind it
abbrev pub parts : Bracket → ℕ → List Wanted
parts k d = part k d ++ more_in k d ∷ []

-- what a token does where something is wanted
pub data Move : Type 0 where
  -- it may not stand there
  misplaced : Move
  -- brackets would nest too deep
  too_deep : Move
  -- it is taken, and these are wanted behind it, one after the other
  taken : List Wanted → Move
  -- these are wanted in place of it, and it is looked at again
  instead : List Wanted → Move

-- what is wanted one bracket deeper
abbrev pub inside : ℕ → (ℕ → Wanted) → Move
inside zero w = too_deep
inside (suc d) w = taken (w d ∷ [])

-- the tokens that meet what is wanted; a string counts as a bracket
pub data Meets : Wanted → Token → Move → Type 0 where
  an_integer : {d : ℕ} {n : ℤ} → Meets (a_term d) (token.integer n) (taken [])
  a_float : {d : ℕ} → Meets (a_term d) token.float (taken [])
  an_atom : {d : ℕ} {b : Body} → Meets (a_term d) (token.atom b) (taken [])
  a_fun : {d : ℕ} → Meets (a_term d) named.the_word_fun
      (taken (a_name ∷ the named.colon ∷ a_name ∷ the named.slash ∷ a_number ∷ []))
  a_string : {d : ℕ} {b : Body} → Meets (a_term d) (token.text b) (inside d (λ e. more_strings))
  a_bracket : (k : Bracket) {d : ℕ} {t : Token} → t ≡ opening k
      → Meets (a_term d) t (inside d (first_in k))
  another_string : {b : Body} → Meets more_strings (token.text b) (taken (more_strings ∷ []))
  at_once : {k : Bracket} {d : ℕ} {t : Token} → t ≡ closing k → Meets (first_in k d) t (taken [])
  at_last : {k : Bracket} {d : ℕ} {t : Token} → t ≡ closing k → Meets (more_in k d) t (taken [])
  a_comma : {k : Bracket} {d : ℕ} → Meets (more_in k d) named.comma (taken (parts k d))
  a_bar : {d : ℕ} → Meets (more_in a_list d) named.bar
      (taken (a_term d ∷ the named.close_list ∷ []))
  a_number_held : {d : ℕ} {n : ℤ} → Meets (a_value d) (token.integer n) (taken [])
  a_string_held : {d : ℕ} {b : Body}
      → Meets (a_value d) (token.text b) (inside d (λ e. more_strings))
  a_colon : Meets a_size named.colon (taken (a_number ∷ []))
  a_slash : Meets an_encoding named.slash
      (taken (the (token.atom (token.plain (codes "utf8"))) ∷ []))
  its_name : {b : Body} → Meets a_name (token.atom b) (taken [])
  its_number : {n : ℤ} → Meets a_number (token.integer n) (taken [])
  it : {v t : Token} → t ≡ v → Meets (the v) t (taken [])

-- what every other token does there
abbrev pub otherwise : Wanted → Move
otherwise more_strings = instead []
otherwise (first_in k d) = instead (parts k d)
otherwise a_size = instead []
otherwise an_encoding = instead []
otherwise w = misplaced

abbrev pub Does : Wanted → Token → Move → Type 0
Does w t m = Meets w t m ⊎ (((n : Move) → Meets w t n → ⊥) × (m ≡ otherwise w))

-- from p on, where these are wanted one after the other, f is the first fault: there is no next token, also because the text
-- ends, and the fault is what the bytes there have; or it may not stand there, or would nest brackets too deep, and the fault
-- has its line; or it is taken, and the first fault is one behind it
pub data Refused : List Wanted → Place → Fault → Type 0 where
  no_token : {w : Wanted} {ws : List Wanted} {p : Place} {f : Fault} → NextFails p f
      → Refused (w ∷ ws) p f
  bad_term : {w : Wanted} {ws : List Wanted} {p : Place} {l : Lexeme} → Stood p l
      → Does w l.token misplaced → Refused (w ∷ ws) p (BadTerm l.line)
  nested : {w : Wanted} {ws : List Wanted} {p : Place} {l : Lexeme} → Stood p l
      → Does w l.token too_deep → Refused (w ∷ ws) p (TooDeep l.line)
  behind : {w : Wanted} {vs ws : List Wanted} {p : Place} {l : Lexeme} {f : Fault} → Stood p l
      → Does w l.token (taken vs) → Refused (vs ++ ws) l.after f → Refused (w ∷ ws) p f
  again : {w : Wanted} {vs ws : List Wanted} {p : Place} {l : Lexeme} {f : Fault} → Stood p l
      → Does w l.token (instead vs) → Refused (vs ++ ws) p f → Refused (w ∷ ws) p f

-- more than spaces and comments follow p, and the first fault of a term and its full stop, where brackets nest at most 256
-- deep, is f
abbrev pub FormFails : Place → Fault → Type 0
FormFails p f = (OnlyBlanks p → ⊥) × Refused (a_term 256 ∷ the named.full_stop ∷ []) p f
