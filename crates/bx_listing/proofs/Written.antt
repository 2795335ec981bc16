-- Terms as texts have them: rows stand within tuples and lists alone, and those of tuples have no tail.
use Rattle.bx_listing.proofs.Known.{◌≡◌, ℕ, ℤ, zero, suc, ◌+◌, Bool, true, false, List, [], ◌∷◌, ◌++◌, length, Option, Some, None, Result, Ok, map, refl, subst}
use Rattle.bx_listing.proofs.Known.{pos, if◌then◌else◌, nat_lt, chars, Fault, Span, Tree, integer, atom, tuple, list, nil, cons, chain, Place, form_at, Form}
use Rattle.bx_listing.proofs.Known.{a_form, forms_are, shape, tagged, elements, Forms, form, moved, forms_on, some_forms}
use Rattle.bx_terms.specs.Outcomes.{◌>>=◌}
use Rattle.bx_text.specs.Grammar.{Strings, no_string, a_string, Spells, an_integer, an_atom, strings, empty_tuple, a_tuple, empty_list, a_list}
use Rattle.bx_text.{specs.Grammar.a_list_with_tail, specs.Grammar.Row, specs.Grammar.one, specs.Grammar.more, specs.declared.node.Sort.Sort}
use Rattle.bx_text.{specs.Token.spelled, specs.Token.Lexeme, specs.Terms.span, specs.Terms.letters, specs.Terms.tail_of}
use Rattle.bx_listing.specs.Forms.{next_form, forms}
use Rattle.bx_text.specs.Tree as texts

mutual
  pub data Written : Tree → Type 0 where
    an_integer_term : {s : Span} {n : ℤ} → Written (integer s n)
    an_atom_term : {s : Span} {w : List ℕ} → Written (atom s w)
    a_tuple_term : {s : Span} {row : Tree} → Elements row → Written (tuple s row)
    a_list_term : {s : Span} {row : Tree} → Rest row → Written (list s row)
    an_other_term : {s : Span} {k : Sort} {w : List ℕ} → Written (texts.other s k w)

  pub data Elements : Tree → Type 0 where
    no_elements : Elements nil
    an_element_first : {t rest : Tree} → Written t → Elements rest → Elements (cons t rest)

  pub data Rest : Tree → Type 0 where
    no_rest : Rest nil
    a_last : {t : Tree} → Written t → Rest t
    a_first : {t rest : Tree} → Written t → Rest rest → Rest (cons t rest)

abbrev pub AllWritten : List Tree → Type 0
AllWritten [] = Unit {0}
AllWritten (t ∷ ts) = Written t × AllWritten ts

abbrev pub FormsWritten : Forms → Type 0
FormsWritten (form line t rest) = Written t × FormsWritten rest
FormsWritten _ = Unit {0}

in_chain : (ts : List Tree) → AllWritten ts → Elements (chain ts nil)
in_chain [] h = no_elements
in_chain (t ∷ ts) h = an_element_first h.0 (in_chain ts h.1)

before_rest : (ts : List Tree) (u : Tree) → AllWritten ts → Rest u → Rest (chain ts u)
before_rest [] u h r = r
before_rest (t ∷ ts) u h r = a_first h.0 (before_rest ts u h.1 r)

pub both : (ts us : List Tree) → AllWritten ts → AllWritten us → AllWritten (ts ++ us)
both [] us h g = g
both (t ∷ ts) us h g = (h.0, both ts us h.1 g)

codes_written : (s : Span) (cs : List ℕ) → AllWritten (map (λ c. integer s (pos c)) cs)
codes_written s [] = tt
codes_written s (c ∷ cs) = (an_integer_term, codes_written s cs)

strings_written : {p q : Place} {ts : List Tree} → Strings p ts q → AllWritten ts
strings_written (no_string h) = tt
strings_written (a_string {p = p} {q = q} {l = l} {b = w} {ts = ts} n e rest) = both (letters (span l l.after) (spelled w)) ts (codes_written (span l l.after) (chars (spelled w))) (strings_written rest)

tail_rest : {t : Tree} → Written t → Rest (tail_of t)
tail_rest (a_list_term r) = r
tail_rest w = a_last w

mutual
  spelled_written : {d : ℕ} {l : Lexeme} {t : Tree} {q : Place} → Spells d l t q → Written t
  spelled_written (an_integer e) = an_integer_term
  spelled_written (an_atom e) = an_atom_term
  spelled_written (strings {l = l} {b = w} {ts = ts} e h) =
      a_list_term (before_rest (letters (span l l.after) (spelled w) ++ ts) nil (both (letters (span l l.after) (spelled w)) ts (codes_written (span l l.after) (chars (spelled w))) (strings_written h)) no_rest)
  spelled_written (empty_tuple e n c) = a_tuple_term no_elements
  spelled_written (a_tuple {ts = ts} e n row c) = a_tuple_term (in_chain ts (row_written row))
  spelled_written (empty_list e n c) = a_list_term no_rest
  spelled_written (a_list {ts = ts} e n row c) = a_list_term (before_rest ts nil (row_written row) no_rest)
  spelled_written (a_list_with_tail {ts = ts} {t = t} e n row b m spells x c) = a_list_term (before_rest ts (tail_of t) (row_written row) (tail_rest (spelled_written spells)))
  spelled_written _ = an_other_term

  row_written : {d : ℕ} {l m : Lexeme} {ts : List Tree} → Row d l ts m → AllWritten ts
  row_written (one spells n) = (spelled_written spells, tt)
  row_written (more spells n c m row) = (spelled_written spells, row_written row)

form_written : {d : ℕ} {p q : Place} {t : Tree} → Form d p t q → Written t
form_written (a_form n spells m c) = spelled_written spells

if_moved : (k : ℕ) (x : Tree × Place) (moves : Bool) → Written x.0 → ((q : Place) → FormsWritten (some_forms k q)) → FormsWritten (forms_on (Ok (if moves then Some x else None)) (some_forms k))
if_moved k x true w rest = (w, rest x.1)
if_moved k x false w rest = tt

next_written : (k : ℕ) (p : Place) (r : Result (Option (Tree × Place)) Fault) → form_at p ≡ r → ((q : Place) → FormsWritten (some_forms k q)) → FormsWritten (forms_on (r >>= λ o. Ok (moved p o)) (some_forms k))
next_written k p (Ok (Some x)) e rest = if_moved k x (nat_lt (length x.1.rest) (length p.rest)) (form_written ((forms_are p x.0 x.1).0 e)) rest
next_written k p _ e rest = tt

some_written : (k : ℕ) (p : Place) → FormsWritten (some_forms k p)
unfolding next_form
some_written zero p = tt
some_written (suc k) p = next_written k p (form_at p) refl (some_written k)

pub forms_written : (p : Place) → FormsWritten (forms p)
unfolding forms
forms_written p = some_written (length p.rest + 1) p

all_elements : {row : Tree} → Elements row → AllWritten (elements row)
all_elements no_elements = tt
all_elements (an_element_first w rest) = (w, all_elements rest)

pub parts_written : {t : Tree} → Written t → (text : List ℕ) (parts : List Tree) → shape t ≡ tagged text parts → AllWritten parts
parts_written (a_tuple_term (an_element_first {rest = rest} an_atom_term others)) text parts e = let same : elements rest ≡ parts = cc in subst AllWritten same (all_elements others)
parts_written _ text parts e = absurd (cc)
