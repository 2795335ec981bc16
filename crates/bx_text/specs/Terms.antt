-- Which term begins at a token, or the first fault (Erlang Reference Manual, "Data Types").
use Rattle.std.specs.Prelude.{ℕ, zero, suc, ◌+◌, ◌-◌, ◌<◌, ◌⊎◌, ◌==◌, Bool, true, false, if◌then◌else◌, pos, List, [], ◌∷◌, ◌++◌, map, length, take, codes, Option, Some, None, Result, Ok, Err, IsOk, IsOkAnd, IsSome}
use Rattle.std.specs.Str.{chars, bytes_eq}
use Rattle.std.specs.Str.Lossy.{utf8_valid_len}
use Rattle.bx_terms.specs.Outcomes.{◌>>=◌}
use Rattle.bx_terms.specs.declared.faults.Fault.{Fault, TheVariants.BadTerm, TheVariants.TooDeep, TheVariants.Truncated, TheVariants.NotUtf8}
use Rattle.bx_text.specs.declared.node.Span.{Span}
use Rattle.bx_text.specs.declared.tokens.Mark.TheVariants.{CloseTuple, CloseList, CloseBinary, Comma, Bar, Arrow, Colon, Slash, Stop, Fun}
use Rattle.bx_text.specs.declared.node.Sort.{Sort}
use Rattle.bx_text.specs.declared.node.Sort.TheVariants as sort
use Rattle.bx_text.specs.declared.wanted.Wanted.{Wanted}
use Rattle.bx_text.specs.declared.wanted.Wanted.TheVariants as wanted
use Rattle.bx_text.specs.Bytes.{begins}
use Rattle.bx_text.specs.Place.{Place}
use Rattle.bx_text.specs.Blank.{skip}
use Rattle.bx_text.specs.Token as token
use Rattle.bx_text.specs.Token.{Body, spelled, IsEscaped, Token, Lexeme}
use Rattle.bx_text.specs.Lexing.{lexeme_from, lexeme_at}
use Rattle.bx_text.specs.Tree.{Tree, integer, atom, tuple, list, other, nil, chain}

abbrev pub opens_tuple : Token → Bool
opens_tuple token.open_tuple = true
opens_tuple t = false

abbrev pub closes_tuple : Token → Bool
closes_tuple (token.mark CloseTuple) = true
closes_tuple t = false

abbrev pub closes_list : Token → Bool
closes_list (token.mark CloseList) = true
closes_list t = false

abbrev pub is_comma : Token → Bool
is_comma (token.mark Comma) = true
is_comma t = false

abbrev pub is_bar : Token → Bool
is_bar (token.mark Bar) = true
is_bar t = false

abbrev pub is_stop : Token → Bool
is_stop (token.mark Stop) = true
is_stop t = false

abbrev pub closes_binary : Token → Bool
closes_binary (token.mark CloseBinary) = true
closes_binary t = false

abbrev pub is_arrow : Token → Bool
is_arrow (token.mark Arrow) = true
is_arrow t = false

abbrev pub is_colon : Token → Bool
is_colon (token.mark Colon) = true
is_colon t = false

abbrev pub is_slash : Token → Bool
is_slash (token.mark Slash) = true
is_slash t = false

abbrev pub is_atom : Token → Bool
is_atom (token.atom b) = true
is_atom t = false

abbrev pub is_integer : Token → Bool
is_integer (token.integer n) = true
is_integer t = false

-- the atom `utf8`
abbrev pub is_utf8_name : Token → Bool
is_utf8_name (token.atom b) = bytes_eq (spelled b) (codes "utf8")
is_utf8_name t = false

abbrev pub passes : Wanted → Token → Bool
passes wanted.Atom t = is_atom t
passes wanted.Integer t = is_integer t
passes wanted.Colon t = is_colon t
passes wanted.Slash t = is_slash t
passes wanted.Arrow t = is_arrow t
passes wanted.Utf8 t = is_utf8_name t
passes wanted.OpenTuple t = opens_tuple t
passes wanted.CloseTuple t = closes_tuple t
passes wanted.Comma t = is_comma t
passes wanted.Stop t = is_stop t

abbrev pub spells_list : Token → Bool
spells_list (token.text w) = true
spells_list token.open_list = true
spells_list t = false

-- from the first byte of a token to a place
abbrev pub span : Lexeme → Place → Span
span l q = record { from = l.from; to = q.at; line = l.line }

-- the place behind a token that closes, as the test says
abbrev pub closed : (Token → Bool) → Lexeme → Result Place Fault
closed closes m = if closes m.token then Ok m.after else Err (BadTerm m.line)

-- A string is the list of its characters' codes; each has the span of its string.
abbrev pub letters : Span → List ℕ → List Tree
letters s bytes = map (λ c. integer s (pos c)) (chars bytes)

abbrev pub letters_of : Lexeme → Token → List Tree
letters_of l (token.text b) = letters (span l l.after) (spelled b)
letters_of l t = []

abbrev pub HasBody : Body → Type 0
HasBody (token.plain w) = 0 < length w
HasBody (token.escaped raw) = Unit {0}

abbrev pub HasLetters : Token → Type 0
HasLetters (token.text b) = HasBody b
HasLetters t = ⊥

abbrev pub is_quote : ℕ → Bool
is_quote b = b == 34

-- a token, where there is one
abbrev pub next_text : Bool → Lexeme → Option Lexeme
next_text more l = if more then Some l else None

-- the next token, where it is a string
abbrev pub text_next : Place → Result (Option Lexeme) Fault
text_next p = skip p >>= λ q. if begins is_quote q.rest then (lexeme_from q >>= λ l. Ok (Some l)) else Ok None

-- Strings in a row are one. Each takes a byte at least, so k strings are enough where k bytes are left.
abbrev pub texts_on : (Place → Result (List Tree × Place) Fault) → Place → Option Lexeme → Result (List Tree × Place) Fault
texts_on more p None = Ok ([], p)
texts_on more p (Some l) = more l.after >>= λ x. Ok (letters_of l l.token ++ x.0, x.1)

abbrev pub texts : ℕ → Place → Result (List Tree × Place) Fault
texts zero p = Err (Truncated p.line)
texts (suc k) p = text_next p >>= texts_on (texts k) p

abbrev pub strings_at : Lexeme → Result (List Tree × Place) Fault
strings_at l = texts (length l.after.rest + 1) l.after >>= λ x. Ok (letters_of l l.token ++ x.0, x.1)

-- a reader of terms
abbrev pub Reading : Type 0
Reading = Lexeme → Result (Tree × Place) Fault

-- what follows an element: behind a comma the first token of another one, or the token that is no comma
pub data Follow : Type 0 where
  next : Lexeme → Follow
  end : Lexeme → Follow

abbrev pub follow_by : Bool → Lexeme → Follow
follow_by true m = next m
follow_by false m = end m

abbrev pub behind_token : Lexeme → Result Follow Fault
behind_token m = if is_comma m.token then (lexeme_at m.after >>= λ n. Ok (next n)) else Ok (end m)

abbrev pub follow_at : Place → Result Follow Fault
follow_at p = lexeme_at p >>= behind_token

abbrev pub element_at : Reading → Lexeme → Result (Tree × Follow) Fault
element_at term l = term l >>= λ x. follow_at x.1 >>= λ f. Ok (x.0, f)

-- Elements, and the first token behind them that is no comma. An element takes a byte at least.
abbrev pub go_on : (Lexeme → Result (List Tree × Lexeme) Fault) → Tree → Follow → Result (List Tree × Lexeme) Fault
go_on more t (next n) = more n >>= λ x. Ok (t ∷ x.0, x.1)
go_on more t (end m) = Ok (t ∷ [], m)

abbrev pub many : Reading → ℕ → Lexeme → Result (List Tree × Lexeme) Fault
many term zero l = Err (Truncated l.line)
many term (suc k) l = element_at term l >>= λ x. go_on (many term k) x.0 x.1

abbrev pub elements_at : Reading → Lexeme → Result (List Tree × Lexeme) Fault
elements_at term l = many term (length l.after.rest + 1) l

abbrev pub tuple_on : Reading → Lexeme → Lexeme → Result (Tree × Place) Fault
tuple_on term l m =
    if closes_tuple m.token then Ok (tuple (span l m.after) nil, m.after)
    else (elements_at term m >>= λ x. closed closes_tuple x.1 >>= λ q. Ok (tuple (span l q) (chain x.0 nil), q))

abbrev pub tuple_at : Reading → Lexeme → Result (Tree × Place) Fault
tuple_at term l = lexeme_at l.after >>= tuple_on term l

-- a list that stands as a tail goes on with its own elements and tail
abbrev pub tail_of : Tree → Tree
tail_of (list s t) = t
tail_of t = t

abbrev pub tail_at : Reading → Lexeme → Result (Tree × Place) Fault
tail_at term l = term l >>= λ x. Ok (tail_of x.0, x.1)

-- what follows a list's elements, from the first token behind them on
abbrev pub end_at : Reading → Lexeme → Result (Tree × Place) Fault
end_at term m =
    if is_bar m.token then (lexeme_at m.after >>= tail_at term >>= λ x. lexeme_at x.1 >>= closed closes_list >>= λ q. Ok (x.0, q))
    else (closed closes_list m >>= λ q. Ok (nil, q))

abbrev pub rest_on : Reading → Lexeme → Result (Tree × Place) Fault
rest_on term m =
    if closes_list m.token then Ok (nil, m.after)
    else (elements_at term m >>= λ x. end_at term x.1 >>= λ y. Ok (chain x.0 y.0, y.1))

-- what follows a list's opening mark: its elements and tail
abbrev pub rest_at : Reading → Place → Result (Tree × Place) Fault
rest_at term p = lexeme_at p >>= rest_on term

abbrev pub list_at : Reading → Reading
list_at term l = rest_at term l.after >>= λ x. Ok (list (span l x.1) x.0, x.1)

abbrev pub string_at : Reading
string_at l = strings_at l >>= λ x. Ok (list (span l x.1) (chain x.0 nil), x.1)

-- Floats, maps, binaries and external funs stand for no value here: they are kept as they were read.
abbrev pub taken : Lexeme → Place → List ℕ
taken l q = take (q.at - l.from) l.begin

abbrev pub kept_at : Sort → Lexeme → Place → Result (Tree × Place) Fault
kept_at k l q =
    if utf8_valid_len (taken l q) == length (taken l q) then Ok (other (span l q) k (taken l q), q)
    else Err (NotUtf8 l.line)

-- the place behind the next token, which is to pass a test
abbrev pub want : (Token → Bool) → Place → Result Place Fault
want passes p = lexeme_at p >>= closed passes

-- the place behind what was read
abbrev pub passed : {A Q : Type 0} → Result (A × Q) Fault → Result Q Fault
passed read = read >>= λ x. Ok x.1

-- a map's pair, and what follows it
abbrev pub value_at : Reading → Place → Result Place Fault
value_at term p = passed (lexeme_at p >>= term)

abbrev pub pair_at : Reading → Lexeme → Result Follow Fault
pair_at term l = passed (term l) >>= want is_arrow >>= value_at term >>= follow_at

-- Parts with a comma between two, and the token behind the last. A part takes a byte at least.
abbrev pub go_through : (Lexeme → Result Lexeme Fault) → Follow → Result Lexeme Fault
go_through more (next n) = more n
go_through more (end m) = Ok m

abbrev pub parts : (Lexeme → Result Follow Fault) → ℕ → Lexeme → Result Lexeme Fault
parts part zero l = Err (Truncated l.line)
parts part (suc k) l = part l >>= go_through (parts part k)

abbrev pub parts_at : (Lexeme → Result Follow Fault) → Lexeme → Result Lexeme Fault
parts_at part l = parts part (length l.after.rest + 1) l

abbrev pub map_on : Reading → Lexeme → Lexeme → Result (Tree × Place) Fault
map_on term l m =
    if closes_tuple m.token then kept_at sort.Map l m.after
    else (parts_at (pair_at term) m >>= closed closes_tuple >>= kept_at sort.Map l)

abbrev pub map_at : Reading → Reading
map_at term l = lexeme_at l.after >>= map_on term l

-- a binary's segment: an integer or strings, a size where a colon follows, an encoding where a slash does
abbrev pub content_text : ℕ → Lexeme → Result Place Fault
content_text zero l = Err (TooDeep l.line)
content_text (suc d) l = passed (strings_at l)

abbrev pub content_by : ℕ → Lexeme → Token → Result Place Fault
content_by d l (token.integer n) = Ok l.after
content_by d l (token.text b) = content_text d l
content_by d l t = Err (BadTerm l.line)

abbrev pub sized : Lexeme → Result Lexeme Fault
sized m = if is_colon m.token then (want is_integer m.after >>= lexeme_at) else Ok m

abbrev pub encoded : Lexeme → Result Lexeme Fault
encoded m = if is_slash m.token then (want is_utf8_name m.after >>= lexeme_at) else Ok m

abbrev pub segment_at : ℕ → Lexeme → Result Follow Fault
segment_at d l = content_by d l l.token >>= lexeme_at >>= sized >>= encoded >>= behind_token

abbrev pub binary_on : ℕ → Lexeme → Lexeme → Result (Tree × Place) Fault
binary_on d l m =
    if closes_binary m.token then kept_at sort.Binary l m.after
    else (parts_at (segment_at d) m >>= closed closes_binary >>= kept_at sort.Binary l)

abbrev pub binary_at : ℕ → Reading
binary_at d l = lexeme_at l.after >>= binary_on d l

-- an external fun: `fun M:F/A`
abbrev pub fun_at : Reading
fun_at l =
    want is_atom l.after >>= want is_colon >>= want is_atom >>= want is_slash >>= want is_integer >>= kept_at sort.Fun l

-- terms with others inside, which may nest d deep
abbrev pub bracket_by : ℕ → Reading → Lexeme → Token → Result (Tree × Place) Fault
bracket_by d term l (token.text b) = string_at l
bracket_by d term l token.open_tuple = tuple_at term l
bracket_by d term l token.open_list = list_at term l
bracket_by d term l token.open_map = map_at term l
bracket_by d term l token.open_binary = binary_at d l
bracket_by d term l t = Err (BadTerm l.line)

abbrev pub atom_by : Lexeme → Body → Tree
atom_by l b = atom (span l l.after) (spelled b)

abbrev pub begin_by : Reading → Lexeme → Token → Result (Tree × Place) Fault
begin_by group l (token.integer n) = Ok (integer (span l l.after) n, l.after)
begin_by group l token.float = kept_at sort.Float l l.after
begin_by group l (token.atom b) = Ok (atom_by l b, l.after)
begin_by group l (token.mark Fun) = fun_at l
begin_by group l (token.mark m) = Err (BadTerm l.line)
begin_by group l t = group l

abbrev pub begin : Reading → Reading
begin group l = begin_by group l l.token

-- a tuple, a list or a string where brackets may nest so many deep
abbrev pub group_at : ℕ → Reading
group_at zero l = Err (TooDeep l.line)
group_at (suc d) l = bracket_by d (begin (group_at d)) l l.token

-- the term that begins with a token
abbrev pub term_at : ℕ → Reading
term_at d = begin (group_at d)

-- Memory is taken to decode an atom, for an element that stands whole in a tuple or a list, and for a string's characters.
-- What stands in a map or a binary is passed over, which takes none.
abbrev pub keeps_atom : Token → Type 0
keeps_atom (token.atom b) = IsEscaped b
keeps_atom t = ⊥

abbrev pub keeps_by : (Lexeme → Type 0) → Lexeme → Token → Type 0
keeps_by inner l (token.text b) = HasBody b ⊎ IsOkAnd (text_next l.after) IsSome
keeps_by inner l token.open_tuple = IsOkAnd (lexeme_at l.after) inner
keeps_by inner l token.open_list = IsOkAnd (lexeme_at l.after) inner
keeps_by inner l t = ⊥

abbrev pub keeps_group : ℕ → Lexeme → Type 0
keeps_group zero l = ⊥
keeps_group (suc d) l = keeps_by (λ m. (keeps_atom m.token ⊎ keeps_group d m) ⊎ IsOk (term_at d m)) l l.token

abbrev pub keeps : ℕ → Lexeme → Type 0
keeps d l = keeps_atom l.token ⊎ keeps_group d l

-- an element was read whole, or one of its own
abbrev pub kept : ℕ → Lexeme → Type 0
kept d l = keeps d l ⊎ IsOk (term_at d l)
