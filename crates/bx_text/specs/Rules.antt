-- The grammar of terms, by rules (Erlang Reference Manual, "Data Types"), over two relations: which token stands next behind a
-- place, and where no string begins.
use Rattle.std.specs.Prelude.{◌≡◌, ℕ, ℤ, suc, false, List, [], ◌∷◌, ◌++◌, codes, IsUtf8}
use Rattle.bx_text.specs.declared.tokens.Mark.TheVariants.{CloseTuple, CloseList, CloseBinary, Comma, Bar, Arrow, Colon, Slash, Stop, Fun}
use Rattle.bx_text.specs.declared.node.Sort.TheVariants as sort
use Rattle.bx_text.specs.Place.{Place}
use Rattle.bx_text.specs.Token as token
use Rattle.bx_text.specs.Token.{Body, spelled, Lexeme}
use Rattle.bx_text.specs.Tree.{Tree, integer, atom, tuple, list, other, nil, chain}
use Rattle.bx_text.specs.Terms.{span, letters, tail_of, taken, is_colon, is_slash}

-- a term of a sort that stands for no value here, with the text from the token l to the place q, is in UTF-8
abbrev pub Kept : Lexeme → Place → Type 0
Kept l q = IsUtf8 (taken l q)

module _ (Token : Place → Lexeme → Type 0) (NoString : Place → Type 0) where
  -- the strings that follow p, the codes of their characters, and the place behind the last one
  pub data Strings : Place → List Tree → Place → Type 0 where
    no_string : {p : Place} → NoString p → Strings p [] p
    a_string : {p q : Place} {l : Lexeme} {b : Body} {ts : List Tree} → Token p l → l.token ≡ token.text b → Strings l.after ts q → Strings p (letters (span l l.after) (spelled b) ++ ts) q

  -- what a binary's segment holds, from the token l on, and the place behind it
  pub data Content : ℕ → Lexeme → Place → Type 0 where
    a_number : {d : ℕ} {l : Lexeme} {n : ℤ} → l.token ≡ token.integer n → Content d l l.after
    a_text : {d : ℕ} {l : Lexeme} {b : Body} {ts : List Tree} {q : Place} → l.token ≡ token.text b → Strings l.after ts q → Content (suc d) l q

  -- an optional size from the token m on, and the token behind it
  pub data Size : Lexeme → Lexeme → Type 0 where
    no_size : {m : Lexeme} → is_colon m.token ≡ false → Size m m
    a_size : {m n k : Lexeme} {i : ℤ} → m.token ≡ token.mark Colon → Token m.after n → n.token ≡ token.integer i → Token n.after k → Size m k

  -- an optional encoding, the same
  pub data Encoding : Lexeme → Lexeme → Type 0 where
    no_encoding : {m : Lexeme} → is_slash m.token ≡ false → Encoding m m
    in_utf8 : {m n k : Lexeme} {b : Body} → m.token ≡ token.mark Slash → Token m.after n → n.token ≡ token.atom b → spelled b ≡ codes "utf8" → Token n.after k → Encoding m k

  -- a segment from the token l on, and the token behind it
  pub data Segment : ℕ → Lexeme → Lexeme → Type 0 where
    a_segment : {d : ℕ} {l m n e : Lexeme} {q : Place} → Content d l q → Token q m → Size m n → Encoding n e → Segment d l e

  -- segments from the token l on, a comma between two, and the token m behind the last
  pub data Segments : ℕ → Lexeme → Lexeme → Type 0 where
    one_segment : {d : ℕ} {l m : Lexeme} → Segment d l m → Segments d l m
    more_segments : {d : ℕ} {l comma next m : Lexeme} → Segment d l comma → comma.token ≡ token.mark Comma → Token comma.after next → Segments d next m → Segments d l m

  mutual
    -- the term that the tokens from l on spell, where brackets nest at most d deep, and the place behind it
    pub data Spells : ℕ → Lexeme → Tree → Place → Type 0 where
      an_integer : {d : ℕ} {l : Lexeme} {n : ℤ} → l.token ≡ token.integer n → Spells d l (integer (span l l.after) n) l.after
      an_atom : {d : ℕ} {l : Lexeme} {b : Body} → l.token ≡ token.atom b → Spells d l (atom (span l l.after) (spelled b)) l.after
      strings : {d : ℕ} {l : Lexeme} {b : Body} {ts : List Tree} {q : Place} → l.token ≡ token.text b → Strings l.after ts q
          → Spells (suc d) l (list (span l q) (chain (letters (span l l.after) (spelled b) ++ ts) nil)) q
      empty_tuple : {d : ℕ} {l m : Lexeme} → l.token ≡ token.open_tuple → Token l.after m → m.token ≡ token.mark CloseTuple → Spells (suc d) l (tuple (span l m.after) nil) m.after
      a_tuple : {d : ℕ} {l first m : Lexeme} {ts : List Tree} → l.token ≡ token.open_tuple → Token l.after first → Row d first ts m → m.token ≡ token.mark CloseTuple
          → Spells (suc d) l (tuple (span l m.after) (chain ts nil)) m.after
      empty_list : {d : ℕ} {l m : Lexeme} → l.token ≡ token.open_list → Token l.after m → m.token ≡ token.mark CloseList → Spells (suc d) l (list (span l m.after) nil) m.after
      a_list : {d : ℕ} {l first m : Lexeme} {ts : List Tree} → l.token ≡ token.open_list → Token l.after first → Row d first ts m → m.token ≡ token.mark CloseList
          → Spells (suc d) l (list (span l m.after) (chain ts nil)) m.after
      a_list_with_tail : {d : ℕ} {l first bar start m : Lexeme} {ts : List Tree} {t : Tree} {r : Place} → l.token ≡ token.open_list → Token l.after first → Row d first ts bar
          → bar.token ≡ token.mark Bar → Token bar.after start → Spells d start t r → Token r m → m.token ≡ token.mark CloseList
          → Spells (suc d) l (list (span l m.after) (chain ts (tail_of t))) m.after
      a_float : {d : ℕ} {l : Lexeme} → l.token ≡ token.float → Kept l l.after → Spells d l (other (span l l.after) sort.Float (taken l l.after)) l.after
      an_empty_map : {d : ℕ} {l m : Lexeme} → l.token ≡ token.open_map → Token l.after m → m.token ≡ token.mark CloseTuple → Kept l m.after
          → Spells (suc d) l (other (span l m.after) sort.Map (taken l m.after)) m.after
      a_map : {d : ℕ} {l first m : Lexeme} → l.token ≡ token.open_map → Token l.after first → Pairs d first m → m.token ≡ token.mark CloseTuple → Kept l m.after
          → Spells (suc d) l (other (span l m.after) sort.Map (taken l m.after)) m.after
      an_empty_binary : {d : ℕ} {l m : Lexeme} → l.token ≡ token.open_binary → Token l.after m → m.token ≡ token.mark CloseBinary → Kept l m.after
          → Spells (suc d) l (other (span l m.after) sort.Binary (taken l m.after)) m.after
      a_binary : {d : ℕ} {l first m : Lexeme} → l.token ≡ token.open_binary → Token l.after first → Segments d first m → m.token ≡ token.mark CloseBinary → Kept l m.after
          → Spells (suc d) l (other (span l m.after) sort.Binary (taken l m.after)) m.after
      a_fun : {d : ℕ} {l f colon g slash n : Lexeme} {b c : Body} {i : ℤ} → l.token ≡ token.mark Fun → Token l.after f → f.token ≡ token.atom b → Token f.after colon → colon.token ≡ token.mark Colon
          → Token colon.after g → g.token ≡ token.atom c → Token g.after slash → slash.token ≡ token.mark Slash → Token slash.after n → n.token ≡ token.integer i → Kept l n.after
          → Spells d l (other (span l n.after) sort.Fun (taken l n.after)) n.after

    -- elements from the token l on, a comma between two, and the token m behind the last
    pub data Row : ℕ → Lexeme → List Tree → Lexeme → Type 0 where
      one : {d : ℕ} {l m : Lexeme} {t : Tree} {r : Place} → Spells d l t r → Token r m → Row d l (t ∷ []) m
      more : {d : ℕ} {l comma next m : Lexeme} {t : Tree} {ts : List Tree} {r : Place} → Spells d l t r → Token r comma → comma.token ≡ token.mark Comma → Token comma.after next
          → Row d next ts m → Row d l (t ∷ ts) m

    -- a map's pairs from the token l on, a comma between two, and the token m behind the last
    pub data Pairs : ℕ → Lexeme → Lexeme → Type 0 where
      one_pair : {d : ℕ} {l arrow v m : Lexeme} {t u : Tree} {r q : Place} → Spells d l t r → Token r arrow → arrow.token ≡ token.mark Arrow → Token arrow.after v → Spells d v u q → Token q m → Pairs d l m
      more_pairs : {d : ℕ} {l arrow v comma next m : Lexeme} {t u : Tree} {r q : Place} → Spells d l t r → Token r arrow → arrow.token ≡ token.mark Arrow → Token arrow.after v → Spells d v u q
          → Token q comma → comma.token ≡ token.mark Comma → Token comma.after next → Pairs d next m → Pairs d l m

  -- a term from p on and its full stop, where brackets nest at most d deep, and the place behind the stop
  pub data Form : ℕ → Place → Tree → Place → Type 0 where
    a_form : {d : ℕ} {p r : Place} {l m : Lexeme} {t : Tree} → Token p l → Spells d l t r → Token r m → m.token ≡ token.mark Stop → Form d p t m.after
