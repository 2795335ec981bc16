-- What is printed is read as the same term.
use Rattle.std.proofs.Common.{◌≡◌, ◌<◌, arith, ℕ, suc, ◌+◌, Bool, true, false, cond, eqb, ℤ, List, [], ◌∷◌, ◌++◌, Result, Ok, Err, refl, sym, ap, ◌∙◌, subst, codes, append_assoc, IsUtf8, le_refl}
use Rattle.std.proofs.lemmas.Bool.{eqb-true, false_from_ne_true}
use Rattle.std.proofs.lemmas.Bool.Decides.{nat_tests}
use Rattle.bx_terms.specs.Outcomes.{◌>>=◌}
use Rattle.bx_terms.specs.declared.faults.Fault.{Fault, TheVariants.BadToken}
use Rattle.bx_terms.specs.AtomText.{printed_atom}
use Rattle.bx_text.specs.declared.node.Span.{Span}
use Rattle.bx_text.specs.Bytes.{is_space}
use Rattle.bx_text.specs.Place.{Place, place_in}
use Rattle.bx_text.specs.Named as named
use Rattle.bx_text.specs.Token as token
use Rattle.bx_text.specs.Token.{Token, Lexeme, spelled}
use Rattle.bx_text.specs.Lexing.{kind_of, token_by, token_at, lexeme_from, lexeme_at}
use Rattle.bx_text.specs.Terms.{span, tail_of}
use Rattle.bx_text.specs.Grammar.{Next, NoString, Spells, an_integer, an_atom, empty_tuple, a_tuple, empty_list, a_list, a_list_with_tail, Row, one, more, a_form}
use Rattle.bx_text.specs.Printed.{integer_text, node_text, row_text, rest_text}
use Rattle.bx_text.specs.Tree.{Tree, integer, atom, tuple, list, other, nil, cons, chain}
use Rattle.bx_text.proofs.Grammatical.{forms_are}
use Rattle.bx_text.specs.declared.node.Sort.{Sort}
use Rattle.bx_text_laws.specs.Shown.{IsReadBack, StandsAs, Shown, ShownRow, ShownList, ShownRest, nowhere, unplaced}
use Rattle.bx_text_laws.specs.Terms.{Stood, NoText}
use Rattle.bx_text_laws.specs.Tokens.{meant}
use Rattle.bx_text_laws.proofs.Frame.{on}
use Rattle.bx_text_laws.proofs.Longest.{same_place}
use Rattle.bx_text_laws.proofs.Blanking.{tests_by, not_line}
use Rattle.bx_text_laws.proofs.Finding.{standing}
use Rattle.bx_text_laws.proofs.Meant.{atom_meant}
use Rattle.bx_text_laws.proofs.Sentences.{given, here, not_here, term}
use Rattle.bx_text_laws.proofs.Moving.{Closes, closes_by}
use Rattle.bx_text_laws.proofs.Kept.{kept_moves}
use Rattle.bx_text_laws.proofs.Exact.{integer_exact}
use Rattle.bx_text_laws.proofs.Printing.{Delimits, atom_exact}

-- the next token, where one begins
blank_kind : (b : ℕ) → is_space b ≡ true → kind_of b ≡ kind_of 32
blank_kind b e = grind (arith, nat_tests)

pub next_of : (bs : List ℕ) (at line : ℕ) (u : Token) (q : Place) → token_at (on bs at line) ≡ Ok (u, q) → lexeme_at (on bs at line) ≡ Ok (standing (on bs at line) (u, q))
next_of [] at line u q h = cc
next_of (b ∷ bs) at line u q h = ap (λ r. r >>= lexeme_from) (tests_by b bs at line false false percent (not_line b space) space) ∙ ap (λ r. r >>= λ x. Ok (standing p x)) h
  where
    p : Place
    p = on (b ∷ bs) at line

    none : ◌≡◌ {A = Result (Token × Place) Fault} (Err (BadToken line)) (Ok (u, q)) → ⊥
    none e = cc

    space : is_space b ≡ false
    space = false_from_ne_true (is_space b) (λ e. none (sym (ap (λ k. token_by k p) (blank_kind b e)) ∙ h))

    percent : eqb b 37 ≡ false
    percent = false_from_ne_true (eqb b 37) (λ e. none (sym (ap (λ b. token_by (kind_of b) p) (eqb-true b 37 e)) ∙ h))

-- a term is read from p on, up to this rest
pub record Read (d : ℕ) (p : Place) (rest : List ℕ) (t : Tree) : Type 0 where
  pub first : Lexeme
  pub tree : Tree
  pub end : Place
  pub next : lexeme_at p ≡ Ok first
  pub spells : Spells d first tree end
  pub left : end.rest ≡ rest
  pub same : unplaced tree ≡ unplaced t

integer_meant : (u : Token) (n : ℤ) → meant u ≡ token.integer n → u ≡ token.integer n
integer_meant u n e = grind arith

-- from each place
abbrev pub Reads : ℕ → List ℕ → List ℕ → Tree → Type 0
Reads d bytes rest t = (at line : ℕ) → Read d (on (bytes ++ rest) at line) rest t

token_read : (d : ℕ) (bytes rest : List ℕ) (t tree : Tree) (at line : ℕ) (u : Token) (q : Place) → token_at (on (bytes ++ rest) at line) ≡ Ok (u, q) → q.rest ≡ rest
    → Spells d (standing (on (bytes ++ rest) at line) (u, q)) tree q → unplaced tree ≡ unplaced t → Read d (on (bytes ++ rest) at line) rest t
token_read d bytes rest t tree at line u q h r k e = record { first = standing (on (bytes ++ rest) at line) (u, q); tree = tree; end = q; next = next_of (bytes ++ rest) at line u q h; spells = k; left = r; same = e }

integer_read : (d : ℕ) (n : ℤ) (t : Tree) (rest : List ℕ) → unplaced t ≡ integer nowhere n → Closes rest → Reads d (integer_text n) rest t
integer_read d n t rest e k at line =
    let x = integer_exact n rest k.delimits at line in
    let l : Lexeme = standing (on (integer_text n ++ rest) at line) (x.0, x.1) in
    token_read d (integer_text n) rest t (integer (span l x.1) n) at line x.0 x.1 x.2 x.3 (an_integer (integer_meant x.0 n x.4)) (sym e)

atom_read : (d : ℕ) (w : List ℕ) (t : Tree) (rest : List ℕ) → unplaced t ≡ atom nowhere w → IsUtf8 w → Closes rest → Reads d (printed_atom w) rest t
atom_read d w t rest e utf8 k at line =
    let x = atom_exact w rest utf8 k.delimits at line in
    let a = atom_meant x.0 w x.4 in
    let l : Lexeme = standing (on (printed_atom w ++ rest) at line) (x.0, x.1) in
    token_read d (printed_atom w) rest t (atom (span l x.1) (spelled a.0)) at line x.0 x.1 x.2 x.3 (an_atom a.1) (ap (λ w. atom nowhere w) a.2 ∙ sym e)

other_read : (d : ℕ) (k : Sort) (w : List ℕ) (t : Tree) (rest : List ℕ) → unplaced t ≡ other nowhere k w → StandsAs d k w → Closes rest → Reads d w rest t
other_read d k w t rest e h c at line =
    let x = kept_moves d k w h rest c at line in
    let (v, same, n) = here (on (w ++ rest) at line) x.0 x.3 in
    record { first = given v x.0; tree = other x.1 k w; end = x.2; next = n; spells = term Stood Next NoText NoString here not_here x.4 v same d (le_refl d); left = x.5; same = sym e }

-- what follows an element never goes on in it
mark_closes : (b : ℕ) (Y : List ℕ) → Delimits (b ∷ Y) → 37 < b → Closes (b ∷ Y)
mark_closes b Y d l = closes_by b Y d (λ s. omega (arith, l, s)) (λ e. omega (arith, l, e)) (λ e. omega (arith, l, e))

delimits : (u : Tree) (X : List ℕ) → Closes X → Closes (rest_text u ++ X)
delimits nil X d = d
delimits (cons t u) X d = mark_closes 44 _ (record { digits = refl; fraction = refl; name = refl }) (omega arith)
delimits s X d = mark_closes 124 _ (record { digits = refl; fraction = refl; name = refl }) (omega arith)

-- at the place where a term ended
pub ended : {d : ℕ} {p : Place} {rest : List ℕ} {t : Tree} → (r : Read d p rest t) → Spells d r.first r.tree (on rest r.end.at r.end.line)
ended {d = d} {rest = rest} r = subst (Spells d r.first r.tree) (same_place r.end (on rest r.end.at r.end.line) r.left refl refl) r.spells

same_cons : (a b u v : Tree) → unplaced a ≡ unplaced b → unplaced u ≡ unplaced v → unplaced (cons a u) ≡ unplaced (cons b v)
same_cons a b u v e f = ap (λ x. cons x (unplaced u)) e ∙ ap (λ x. cons (unplaced b) x) f

-- a list where k is true, and a tuple else
abbrev opens : Bool → ℕ
opens k = cond k 91 123

abbrev shuts : Bool → ℕ
shuts k = cond k 93 125

abbrev opening : Bool → Token
opening k = cond k token.open_list token.open_tuple

abbrev closing : Bool → Token
closing k = cond k named.close_list named.close_tuple

abbrev made : Bool → Span → Tree → Tree
made true s t = list s t
made false s t = tuple s t

open_next : (k : Bool) (X : List ℕ) (at line : ℕ) → lexeme_at (on (opens k ∷ X) at line) ≡ Ok (standing (on (opens k ∷ X) at line) (opening k, on X (at + 1) line))
open_next true X at line = next_of (91 ∷ X) at line token.open_list (on X (at + 1) line) refl
open_next false X at line = next_of (123 ∷ X) at line token.open_tuple (on X (at + 1) line) refl

close_next : (k : Bool) (X : List ℕ) (at line : ℕ) → lexeme_at (on (shuts k ∷ X) at line) ≡ Ok (standing (on (shuts k ∷ X) at line) (closing k, on X (at + 1) line))
close_next true X at line = next_of (93 ∷ X) at line named.close_list (on X (at + 1) line) refl
close_next false X at line = next_of (125 ∷ X) at line named.close_tuple (on X (at + 1) line) refl

-- behind its opening mark
record Whole (d : ℕ) (l : Lexeme) (rest : List ℕ) (t : Tree) : Type 0 where
  tree : Tree
  end : Place
  spells : Spells d l tree end
  left : end.rest ≡ rest
  same : unplaced tree ≡ t

-- the elements that follow one, up to a mark, and how the mark and what stands behind it close them
record Rows (k : Bool) (d : ℕ) (p : Place) (rest : List ℕ) (u : Tree) : Type 0 where
  mark : Lexeme
  trees : List Tree
  tail : Tree
  row : (l : Lexeme) (t : Tree) → Spells d l t p → Row d l (t ∷ trees) mark
  close : (l first : Lexeme) (ts : List Tree) → l.token ≡ opening k → lexeme_at l.after ≡ Ok first → Row d first ts mark → Whole (suc d) l rest (made k nowhere (unplaced (chain ts tail)))
  same : unplaced (chain trees tail) ≡ unplaced u

abbrev Tails : Bool → ℕ → List ℕ → Tree → Type 0
Tails k d rest u = (at line : ℕ) → Rows k d (on (rest_text u ++ shuts k ∷ rest) at line) rest u

shut : (k : Bool) (d : ℕ) (rest : List ℕ) (m l first : Lexeme) (ts : List Tree) → m.token ≡ closing k → m.after.rest ≡ rest → l.token ≡ opening k → lexeme_at l.after ≡ Ok first → Row d first ts m
    → Whole (suc d) l rest (made k nowhere (unplaced (chain ts nil)))
shut true d rest m l first ts c e o n row = record { tree = list (span l m.after) (chain ts nil); end = m.after; spells = a_list o n row c; left = e; same = refl }
shut false d rest m l first ts c e o n row = record { tree = tuple (span l m.after) (chain ts nil); end = m.after; spells = a_tuple o n row c; left = e; same = refl }

tails_end : (k : Bool) (d : ℕ) (rest : List ℕ) → Tails k d rest nil
tails_end k d rest at line =
    let m : Lexeme = standing (on (shuts k ∷ rest) at line) (closing k, on rest (at + 1) line) in
    record { mark = m; trees = []; tail = nil; row = λ l t s. one s (close_next k rest at line); close = λ l first ts. shut k d rest m l first ts refl refl; same = refl }

-- one element more, behind a comma
tails_more : (k : Bool) (d : ℕ) (rest : List ℕ) (b v : Tree) → Reads d (node_text b) (rest_text v ++ shuts k ∷ rest) b → Tails k d rest v → Tails k d rest (cons b v)
tails_more k d rest b v reads tails at line =
    let X : List ℕ = node_text b ++ (rest_text v ++ shuts k ∷ rest) in
    let r = reads (at + 1) line in
    let c = tails r.end.at r.end.line in
    subst (λ us. Rows k d (on (44 ∷ us) at line) rest (cons b v)) (sym (append_assoc (node_text b) (rest_text v) (shuts k ∷ rest)))
    (record {
      mark = c.mark;
      trees = r.tree ∷ c.trees;
      tail = c.tail;
      row = λ l t s. more s (next_of (44 ∷ X) at line named.comma (on X (at + 1) line) refl) refl r.next (c.row r.first r.tree (ended r));
      close = c.close;
      same = same_cons r.tree b (chain c.trees c.tail) v r.same c.same;
    })

abbrev IsTail : Tree → Type 0
IsTail (list s t) = ⊥
IsTail nil = ⊥
IsTail (cons t u) = ⊥
IsTail t = Unit {0}

untailed : (v u : Tree) → IsTail u → unplaced v ≡ unplaced u → tail_of v ≡ v
untailed v u k e = grind arith

listed_tail : (d : ℕ) (rest : List ℕ) (u : Tree) → IsTail u → rest_text u ≡ 124 ∷ node_text u → Reads d (node_text u) (93 ∷ rest) u → Tails true d rest u
listed_tail d rest u k text reads at line =
    let X : List ℕ = node_text u ++ 93 ∷ rest in
    let r = reads (at + 1) line in
    let q : Place = on rest (r.end.at + 1) r.end.line in
    subst (λ us. Rows true d (on (us ++ 93 ∷ rest) at line) rest u) (sym text)
    (record {
      mark = standing (on (124 ∷ X) at line) (named.bar, on X (at + 1) line);
      trees = [];
      tail = r.tree;
      row = λ l t s. one s (next_of (124 ∷ X) at line named.bar (on X (at + 1) line) refl);
      close = λ l first ts o n row. record {
        tree = list (span l q) (chain ts (tail_of r.tree));
        end = q;
        spells = a_list_with_tail o n row refl r.next (ended r) (next_of (93 ∷ rest) r.end.at r.end.line named.close_list q refl) refl;
        left = refl;
        same = ap (λ u. list nowhere (unplaced (chain ts u))) (untailed r.tree u k r.same);
      };
      same = r.same;
    })

abbrev Bracketed : Bool → ℕ → List ℕ → Tree → Type 0
Bracketed k d rest t = (at line : ℕ) (p : Place) → Whole (suc d) (standing p (opening k, on (row_text t ++ shuts k ∷ rest) at line)) rest (made k nowhere (unplaced t))

by_mark : (k : Bool) {d : ℕ} {l m : Lexeme} → l.token ≡ opening k → lexeme_at l.after ≡ Ok m → m.token ≡ closing k → Spells (suc d) l (made k (span l m.after) nil) m.after
by_mark true o n c = empty_list o n c
by_mark false o n c = empty_tuple o n c

bracketed_none : (k : Bool) (d : ℕ) (rest : List ℕ) → Bracketed k d rest nil
bracketed_none k d rest at line p =
    let l : Lexeme = standing p (opening k, on (shuts k ∷ rest) at line) in
    record { tree = made k (span l (on rest (at + 1) line)) nil; end = on rest (at + 1) line; spells = by_mark k refl (close_next k rest at line) refl; left = refl; same = made_nil k (span l (on rest (at + 1) line)) }
  where
    made_nil : (k : Bool) (s : Span) → unplaced (made k s nil) ≡ made k nowhere nil
    made_nil true s = refl
    made_nil false s = refl

bracketed_some : (k : Bool) (d : ℕ) (rest : List ℕ) (a u : Tree) → Reads d (node_text a) (rest_text u ++ shuts k ∷ rest) a → Tails k d rest u → Bracketed k d rest (cons a u)
bracketed_some k d rest a u reads tails at line p =
    let r = reads at line in
    let c = tails r.end.at r.end.line in
    let l : Lexeme = standing p (opening k, on (node_text a ++ (rest_text u ++ shuts k ∷ rest)) at line) in
    subst (λ us. Whole (suc d) (standing p (opening k, on us at line)) rest (made k nowhere (unplaced (cons a u)))) (sym (append_assoc (node_text a) (rest_text u) (shuts k ∷ rest)))
    (subst (Whole (suc d) l rest) (ap (λ x. made k nowhere x) (same_cons r.tree a (chain c.trees c.tail) u r.same c.same))
    (c.close l r.first (r.tree ∷ c.trees) refl r.next (c.row r.first r.tree (ended r))))

bracket_read : (k : Bool) (d : ℕ) (s t : Tree) (rest : List ℕ) → unplaced s ≡ made k nowhere (unplaced t) → Bracketed k d rest t → Reads (suc d) ((opens k ∷ row_text t) ++ shuts k ∷ []) rest s
bracket_read k d s t rest e bracketed at line =
    let X : List ℕ = row_text t ++ shuts k ∷ rest in
    let w = bracketed (at + 1) line (on (opens k ∷ X) at line) in
    subst (λ us. Read (suc d) (on us at line) rest s) (sym (ap (λ us. opens k ∷ us) (append_assoc (row_text t) (shuts k ∷ []) rest)))
    (record { first = standing (on (opens k ∷ X) at line) (opening k, on X (at + 1) line); tree = w.tree; end = w.end; next = open_next k X at line; spells = w.spells; left = w.left; same = w.same ∙ sym e })

close_closes : (k : Bool) (X : List ℕ) → Closes (shuts k ∷ X)
close_closes true X = mark_closes 93 X (record { digits = refl; fraction = refl; name = refl }) (omega arith)
close_closes false X = mark_closes 125 X (record { digits = refl; fraction = refl; name = refl }) (omega arith)

row_closes : (k : Bool) (u : Tree) (rest : List ℕ) → Closes (rest_text u ++ shuts k ∷ rest)
row_closes k u rest = delimits u (shuts k ∷ rest) (close_closes k rest)

-- all of it, by the term: what is printed is read, where a delimiter follows
mutual
  pub printed_read : (t : Tree) (d : ℕ) (rest : List ℕ) → Shown d t → Closes rest → Reads d (node_text t) rest t
  printed_read (integer s n) d rest h k = integer_read d n (integer s n) rest refl k
  printed_read (atom s w) d rest h k = atom_read d w (atom s w) rest refl h k
  printed_read (other s k w) d rest h c = other_read d k w (other s k w) rest refl h c
  printed_read (tuple s t) (suc d) rest h k = bracket_read false d (tuple s t) t rest refl (in_tuple t d rest h)
  printed_read (list s t) (suc d) rest h k = bracket_read true d (list s t) t rest refl (in_list t d rest h)
  printed_read t d rest h k = absurd h

  in_tuple : (t : Tree) (d : ℕ) (rest : List ℕ) → ShownRow d t → Bracketed false d rest t
  in_tuple nil d rest h = bracketed_none false d rest
  in_tuple (cons a u) d rest h = bracketed_some false d rest a u (printed_read a d (rest_text u ++ shuts false ∷ rest) h.0 (row_closes false u rest)) (further u d rest h.1)
  in_tuple t d rest h = absurd h

  further : (t : Tree) (d : ℕ) (rest : List ℕ) → ShownRow d t → Tails false d rest t
  further nil d rest h = tails_end false d rest
  further (cons a u) d rest h = tails_more false d rest a u (printed_read a d (rest_text u ++ shuts false ∷ rest) h.0 (row_closes false u rest)) (further u d rest h.1)
  further t d rest h = absurd h

  in_list : (t : Tree) (d : ℕ) (rest : List ℕ) → ShownList d t → Bracketed true d rest t
  in_list nil d rest h = bracketed_none true d rest
  in_list (cons a u) d rest h = bracketed_some true d rest a u (printed_read a d (rest_text u ++ shuts true ∷ rest) h.0 (row_closes true u rest)) (tails u d rest h.1)
  in_list t d rest h = absurd h

  tails : (t : Tree) (d : ℕ) (rest : List ℕ) → ShownRest d t → Tails true d rest t
  tails nil d rest h = tails_end true d rest
  tails (cons a u) d rest h = tails_more true d rest a u (printed_read a d (rest_text u ++ shuts true ∷ rest) h.0 (row_closes true u rest)) (tails u d rest h.1)
  tails (integer s n) d rest h = listed_tail d rest (integer s n) tt refl (integer_read d n (integer s n) (93 ∷ rest) refl (close_closes true rest))
  tails (atom s w) d rest h = listed_tail d rest (atom s w) tt refl (atom_read d w (atom s w) (93 ∷ rest) refl h (close_closes true rest))
  tails (other s k w) d rest h = listed_tail d rest (other s k w) tt refl (other_read d k w (other s k w) (93 ∷ rest) refl h (close_closes true rest))
  tails (tuple s t) (suc d) rest h = listed_tail (suc d) rest (tuple s t) tt refl (bracket_read false d (tuple s t) t (93 ∷ rest) refl (in_tuple t d (93 ∷ rest) h))
  tails t d rest h = absurd h

-- a full stop that ends its line
pub stop_at : (X : List ℕ) → Closes (46 ∷ 10 ∷ X)
stop_at X = mark_closes 46 (10 ∷ X) (record { digits = refl; fraction = refl; name = refl }) (omega arith)

pub read_back : (t : Tree) → Shown 256 t → IsReadBack t
read_back t h =
    let r = printed_read t 256 (46 ∷ []) h (mark_closes 46 [] (record { digits = refl; fraction = refl; name = refl }) (omega arith)) 0 1 in
    let q : Place = on [] (r.end.at + 1) r.end.line in
    (r.tree, q, (forms_are (place_in (node_text t ++ codes ".") 0) r.tree q).1 (a_form r.next (ended r) (next_of (46 ∷ []) r.end.at r.end.line named.full_stop q refl) refl), refl, r.same)
