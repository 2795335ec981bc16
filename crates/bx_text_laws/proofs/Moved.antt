-- A term put where other bytes follow it.
use Rattle.bx_text_laws.proofs.Commons.{◌≡◌, ◌≢◌, ℕ, suc, ◌+◌, true, false, ◌≤◌, List, [], ◌∷◌, ◌++◌, take, length, refl, sym, ap, ◌∙◌, subst, arith, codes, append_assoc, length-append, IsUtf8, both_ways}
use Rattle.bx_text_laws.proofs.Commons.{Span, Sort, Place, after, name_len, word, Token, Body, Lexeme, spelled, span, letters, tail_of, is_colon, is_slash, is_stop, Tree, atom, tuple, list, other, nil, chain, Spelling}
use Rattle.bx_text_laws.proofs.Commons.{Stood, NoText, Texts, Term}
use Rattle.bx_text.specs.declared.node.Sort.TheVariants as sort
use Rattle.bx_text.specs.Named as named
use Rattle.bx_text.specs.Token as token
use Rattle.bx_text.specs.Terms.{taken}
use Rattle.bx_text.specs.Tree.{integer}
use Rattle.bx_text_laws.specs.Spelling as spelling
use Rattle.bx_text.specs.Rules as rules
use Rattle.bx_text_laws.proofs.Frame.{on}
use Rattle.bx_text_laws.proofs.Words.{small_name, name_take}
use Rattle.bx_text_laws.proofs.Longest.{sound}
use Rattle.bx_text_laws.proofs.Printing.{Delimits, Exactly}
use Rattle.bx_text_laws.proofs.Exact.{fun_len, shuts, ends, solid_exact, exact}
use Rattle.bx_text_laws.proofs.Moving.{Run, stay, under, doing, then, Stepped, stepped, token_run, some_bytes, Closes, blank_delimits, taken_is, Any, Shut, shut_token, shut_more, before_shut, solid_before, shutting, anywhere}

no_stop : (t : Token) {v : Token} → t ≡ v → is_stop v ≡ false → t ≢ named.full_stop
no_stop t e n h = both_ways (is_stop t) (ap is_stop e ∙ n) (ap is_stop h)

from_there : {q r : Place} (m : Lexeme) → q ≡ r → Stood r m → Stood q m
from_there m e st = subst (λ q. Stood q m) (sym e) st

-- what stands there from the token k on, up to a token f like m
abbrev From : (Lexeme → Lexeme → Type 0) → Lexeme → Place → Place → Type 0
From P m p2 r2 = (k f : Lexeme) × Stood p2 k × P k f × (f.token ≡ m.token) × (f.after ≡ r2)

-- a binary's segments
encoded_run : {n e : Lexeme} → rules.Encoding Stood NoText n e → (p : Place) → Stood p n → shuts e.token ≡ true → Shut p e.after Any (From (λ b f. (b.token ≡ n.token) × rules.Encoding Stood NoText b f) e)
encoded_run (rules.no_encoding {m = m} t) p st c = shutting (shut_token {May = Any} p m st c) (λ p2 q2 x. (x.0, x.0, x.1, (x.2, rules.no_encoding (ap is_slash x.2 ∙ t)), x.2, x.3))
encoded_run (rules.in_utf8 {m = m} {n = n} {k = k} t a i u b) p st c =
    shutting (shut_more p m st (ap shuts t) (before_shut m.after n a (no_stop n.token i refl) (shut_token {May = Any} n.after k b c)))
    (λ p2 r2 (q2, x, w). (x.0, w.2.0, x.1, (x.2, rules.in_utf8 (x.2 ∙ t) (from_there w.1.0 x.3 w.1.1) (w.1.2 ∙ i) u (from_there w.2.0 w.1.3 w.2.1)), w.2.2, w.2.3))

abbrev SizedFrom : Lexeme → Lexeme → Place → Place → Type 0
SizedFrom m e p2 r2 = From (λ a f. (a.token ≡ m.token) × (b : Lexeme) × rules.Size Stood NoText a b × rules.Encoding Stood NoText b f) e p2 r2

sized_run : {m n e : Lexeme} → rules.Size Stood NoText m n → rules.Encoding Stood NoText n e → (p : Place) → Stood p m → shuts e.token ≡ true → Shut p e.after Any (SizedFrom m e)
sized_run (rules.no_size {m = m} t) k p st c = shutting (encoded_run k p st c) (λ p2 r2 x. (x.0, x.1, x.2, (x.3.0, x.0, rules.no_size (ap is_colon x.3.0 ∙ t), x.3.1), x.4, x.5))
sized_run (rules.a_size {m = m} {n = n} {k = k} {i = i} t a j b) y p st c =
    shutting (shut_more p m st (ap shuts t) (before_shut m.after n a (no_stop n.token j refl) (encoded_run y n.after b c)))
    (λ p2 r2 (q2, x, w). (x.0, w.2.1, x.1, (x.2, w.2.0, rules.a_size (x.2 ∙ t) (from_there w.1.0 x.3 w.1.1) (w.1.2 ∙ j) (from_there w.2.0 w.1.3 w.2.2), w.2.3.1), w.2.4, w.2.5))

-- strings in a row
abbrev NoTextAt : List ℕ → Type 0
NoTextAt Y = (p : Place) → p.rest ≡ Y → NoText p

abbrev TextsFrom : Place → Place → Type 0
TextsFrom p2 q2 = (ts : List Tree) × Texts p2 ts q2

texts_run : {p q : Place} {ts : List Tree} → Texts p ts q → Run p q NoTextAt TextsFrom
texts_run (rules.no_string {p = p} n) = record { text = []; rest = refl; size = omega arith; again = λ Y g p2 e. (p2, ([], rules.no_string (g p2 e)), e, omega arith) }
texts_run (rules.a_string {p = p} {q = q} {l = l} {b = b} {ts = ts} st t s) =
    doing (solid_before p l st (ap ends t) (texts_run s)) (λ p2 r2 (q2, x, y). (letters (span x.0 x.0.after) (spelled b) ++ y.0, rules.a_string x.1 (x.2 ∙ t) (subst (λ r. Texts r y.0 r2) (sym x.3) y.1)))

abbrev HeldFrom : ℕ → (Place → Place → Type 0) → Place → Place → Type 0
HeldFrom d E p2 r2 = (k : Lexeme) × (q2 : Place) × Stood p2 k × rules.Content Stood NoText d k q2 × E q2 r2

held_run : {d : ℕ} {l : Lexeme} {q r : Place} {E : Place → Place → Type 0} → rules.Content Stood NoText d l q → (p : Place) → Stood p l → Shut q r Any E → Run p r Any (HeldFrom d E)
held_run (rules.a_number {d = d} {l = l} {n = n} t) p st two =
    doing (before_shut p l st (no_stop l.token t refl) two) (λ p2 r2 (q2, x, y). (x.0, q2, x.1, subst (λ q. rules.Content Stood NoText d x.0 q) x.3 (rules.a_number (x.2 ∙ t)), y))
held_run (rules.a_text {d = d} {l = l} t s) p st two =
    doing (solid_before p l st (ap ends t) (then (texts_run s) two.run (λ Y a. (two.shut Y a).text)))
    (λ p2 r2 (q2, x, w). (x.0, w.0, x.1, rules.a_text (x.2 ∙ t) (subst (λ r. Texts r w.1.0 w.0) (sym x.3) w.1.1), w.2))

part_run : {d : ℕ} {l e : Lexeme} → rules.Segment Stood NoText d l e → (p : Place) → Stood p l → shuts e.token ≡ true → Run p e.after Any (From (rules.Segment Stood NoText d) e)
part_run (rules.a_segment {q = q} h a s k) p st c =
    doing (held_run h p st (sized_run s k q a c)) (λ p2 r2 x. (x.0, x.4.1, x.2, rules.a_segment x.3 x.4.2 x.4.3.2 x.4.3.3, x.4.4, x.4.5))

parts_run : {d : ℕ} {l m : Lexeme} → rules.Segments Stood NoText d l m → (p : Place) → Stood p l → shuts m.token ≡ true → Run p m.after Any (From (rules.Segments Stood NoText d) m)
parts_run (rules.one_segment x) p st c = doing (part_run x p st c) (λ p2 r2 y. (y.0, y.1, y.2, rules.one_segment y.3, y.4, y.5))
parts_run (rules.more_segments {comma = comma} x t a r) p st c =
    doing (then (part_run x p st (ap shuts t)) (parts_run r comma.after a c) (λ Y u. tt))
    (λ p2 r2 (q2, y, z). (y.0, z.1, y.2, rules.more_segments y.3 (y.4 ∙ t) (from_there z.0 y.5 z.2) z.3, z.4, z.5))

-- the word `fun` before its module
fun_bytes : {bytes : List ℕ} {t : Token} → Spelling bytes t → t ≡ named.the_word_fun → bytes ≡ codes "fun"
fun_bytes spelling.the_word_fun e = refl
fun_bytes s e = cc

-- a name that followed it at once would go on in it
name_delimits : {bytes : List ℕ} {t : Token} → Spelling bytes t → (v : Body) → t ≡ token.atom v → (rest Z : List ℕ) → name_len (bytes ++ rest) ≡ 0 → Delimits (bytes ++ Z)
name_delimits (spelling.bare_atom c cs {bytes = bytes} small a u o) v e rest Z none =
    let long : name_len (bytes ++ rest) ≡ length bytes + name_len rest = subst (λ bytes. name_len (bytes ++ rest) ≡ length bytes + name_len rest) u.1 (name_take (c ∷ cs) rest (small_name c small, a)) in
    absurd (omega (arith, long, none, some_bytes (spelling.bare_atom c cs small a u o)))
name_delimits (spelling.quoted_atom q u) v e rest Z none = record { digits = refl; fraction = refl; name = refl }
name_delimits s v e rest Z none = cc

fun_delimits : (p : Place) (l f : Lexeme) → (s : Stepped p l) → (sf : Stepped l.after f) → l.token ≡ named.the_word_fun → (v : Body) → f.token ≡ token.atom v → (Z : List ℕ) → Delimits ((sf.blank ++ sf.bytes) ++ Z)
fun_delimits p l f s sf t v x Z =
    let fun : s.bytes ≡ codes "fun" = fun_bytes s.spells t in
    let here : Place = on (codes "fun" ++ l.after.rest) 0 0 in
    let (others, b, st) = sound here (word (take (name_len here.rest) here.rest), after here (name_len here.rest)) refl in
    let most : length others ≤ length s.bytes = s.longest others _ _ (ap (λ ws. ws ++ l.after.rest) fun ∙ b.0, b.1, b.2) in
    let none : name_len l.after.rest ≡ 0 = omega (arith, most, st.0, ap length fun, fun_len l.after.rest) in
    subst Delimits (sym (append_assoc sf.blank sf.bytes Z))
    (blank_delimits sf.blanks (sf.bytes ++ Z) (λ e. name_delimits sf.spells v x f.after.rest Z (ap name_len (sym (sf.rest ∙ ap (λ ws. ws ++ (sf.bytes ++ f.after.rest)) e)) ∙ none)))

-- the same term, spans aside, where it is kept as it was read
abbrev pub Same : Tree → Tree → Type 0
Same (other s k w) u = (z : Span) × (u ≡ other z k w)
Same t u = Unit {0}

abbrev pub TermFrom : ℕ → Tree → Place → Place → Type 0
TermFrom d t p2 q2 = (k : Lexeme) × (u : Tree) × Stood p2 k × Term d k u q2 × Same t u

-- a term by its first token and what stands behind that
whole : {d : ℕ} {A : List ℕ → Type 0} {D : Place → Place → Type 0} {q : Place} (t : Tree) (p : Place) (l : Lexeme) → (st : Stood p l) → (inner : Run l.after q A D)
    → ((Y : List ℕ) → A Y → Exactly (stepped p l st).bytes l.token (inner.text ++ Y))
    → ((k : Lexeme) (q2 : Place) → k.token ≡ l.token → D k.after q2 → taken k q2 ≡ taken l q → (u : Tree) × Term d k u q2 × Same t u) → Run p q A (TermFrom d t)
whole {D = D} {q = q} t p l st inner fits build =
    let s = stepped p l st in
    let tok = token_run p l s in
    record {
      text = tok.text ++ inner.text;
      rest = tok.rest ∙ ap (λ ws. tok.text ++ ws) inner.rest ∙ sym (append_assoc tok.text inner.text q.rest);
      size = omega (arith, tok.size, inner.size, length-append tok.text inner.text);
      again = λ Y a p2 e.
          let (q1, c, left, long) = tok.again (inner.text ++ Y) (fits Y a) p2 (e ∙ append_assoc tok.text inner.text Y) in
          let (k, stk, tk, ak, bk, sk) = c in
          let (q2, x, last, size) = inner.again Y a q1 left in
          let there : taken k q2 ≡ s.bytes ++ inner.text = taken_is k q2 s.bytes inner.text Y (bk ∙ ap (λ ws. s.bytes ++ ws) left) (omega (arith, sk, size)) in
          let here : taken l q ≡ s.bytes ++ inner.text = taken_is l q s.bytes inner.text q.rest (s.begin ∙ ap (λ ws. s.bytes ++ ws) inner.rest) (omega (arith, s.size, inner.size)) in
          let (u, term, same) = build k q2 tk (subst (λ r. D r q2) (sym ak) x) (there ∙ sym here) in
          (q2, (k, u, stk, term, same), last, omega (arith, long, size, length-append tok.text inner.text));
    }

-- a term that begins with a token that nothing goes on in
bracketed : {d : ℕ} {D : Place → Place → Type 0} {q : Place} (t : Tree) (p : Place) (l : Lexeme) → Stood p l → ends l.token ≡ true → Run l.after q Any D
    → ((k : Lexeme) (q2 : Place) → k.token ≡ l.token → D k.after q2 → taken k q2 ≡ taken l q → (u : Tree) × Term d k u q2 × Same t u) → Run p q Closes (TermFrom d t)
bracketed t p l st e inner build = whole t p l st (anywhere inner) (λ Y c. solid_exact (stepped p l st).spells e ((anywhere inner).text ++ Y)) build

-- a term that is kept as it was read
kept_built : (d : ℕ) (l : Lexeme) (q : Place) (a : Sort) (k : Lexeme) (e q2 : Place) → e ≡ q2 → taken k q2 ≡ taken l q → rules.Kept l q → (rules.Kept k e → Term d k (other (span k e) a (taken k e)) e)
    → (u : Tree) × Term d k u q2 × Same (other (span l q) a (taken l q)) u
kept_built d l q a k e q2 is same w make =
    let g : taken k e ≡ taken l q = rw (← is) at same in
    rw (← is) (other (span k e) a (taken k e), make (subst IsUtf8 (sym g) w), (span k e, ap (λ v. other (span k e) a v) g))

-- elements with their trees
abbrev Listed : ℕ → Lexeme → Lexeme → Type 0
Listed d k f = (us : List Tree) × rules.Row Stood NoText d k us f

mutual
  pub term_run : {d : ℕ} {l : Lexeme} {t : Tree} {q : Place} → Term d l t q → (p : Place) → Stood p l → Run p q Closes (TermFrom d t)
  term_run (rules.an_integer {l = l} {n = n} t) p st =
      whole (integer (span l l.after) n) p l st (stay l.after Closes) (λ Y c. exact (stepped p l st).spells (no_stop l.token t refl) Y c.delimits)
      (λ k q2 tk e same. (integer (span k k.after) n, rw (← e) (rules.an_integer (tk ∙ t)), tt))
  term_run (rules.an_atom {l = l} {b = b} t) p st =
      whole (atom (span l l.after) (spelled b)) p l st (stay l.after Closes) (λ Y c. exact (stepped p l st).spells (no_stop l.token t refl) Y c.delimits)
      (λ k q2 tk e same. (atom (span k k.after) (spelled b), rw (← e) (rules.an_atom (tk ∙ t)), tt))
  term_run (rules.strings {l = l} {b = b} {ts = ts} {q = q} t s) p st =
      let inner : Run l.after q Closes TextsFrom = under (λ Y c. c.text) (texts_run s) in
      whole (list (span l q) (chain (letters (span l l.after) (spelled b) ++ ts) nil)) p l st inner (λ Y c. solid_exact (stepped p l st).spells (ap ends t) (inner.text ++ Y))
      (λ k q2 tk x same. (list (span k q2) (chain (letters (span k k.after) (spelled b) ++ x.0) nil), rules.strings (tk ∙ t) x.1, tt))
  term_run (rules.empty_tuple {l = l} {m = m} t a z) p st =
      bracketed (tuple (span l m.after) nil) p l st (ap ends t) (shut_token {May = Any} l.after m a (ap shuts z)).run
      (λ k q2 tk x same. (tuple (span k x.0.after) nil, rw (← x.3) (rules.empty_tuple (tk ∙ t) x.1 (x.2 ∙ z)), tt))
  term_run (rules.a_tuple {l = l} {m = m} {ts = ts} t a w z) p st =
      bracketed (tuple (span l m.after) (chain ts nil)) p l st (ap ends t) (elements_run w l.after a (ap shuts z))
      (λ k q2 tk x same. (tuple (span k x.1.after) (chain x.3.0 nil), rw (← x.5) (rules.a_tuple (tk ∙ t) x.2 x.3.1 (x.4 ∙ z)), tt))
  term_run (rules.empty_list {l = l} {m = m} t a z) p st =
      bracketed (list (span l m.after) nil) p l st (ap ends t) (shut_token {May = Any} l.after m a (ap shuts z)).run
      (λ k q2 tk x same. (list (span k x.0.after) nil, rw (← x.3) (rules.empty_list (tk ∙ t) x.1 (x.2 ∙ z)), tt))
  term_run (rules.a_list {l = l} {m = m} {ts = ts} t a w z) p st =
      bracketed (list (span l m.after) (chain ts nil)) p l st (ap ends t) (elements_run w l.after a (ap shuts z))
      (λ k q2 tk x same. (list (span k x.1.after) (chain x.3.0 nil), rw (← x.5) (rules.a_list (tk ∙ t) x.2 x.3.1 (x.4 ∙ z)), tt))
  term_run (rules.a_list_with_tail {l = l} {bar = bar} {m = m} {ts = ts} {t = tail} {r = r} t a w b c u y z) p st =
      let last = shut_token {May = Any} r m y (ap shuts z) in
      bracketed (list (span l m.after) (chain ts (tail_of tail))) p l st (ap ends t) (then (elements_run w l.after a (ap shuts b)) (then (term_run u bar.after c) last.run last.shut) (λ Y x. tt))
      (λ k q2 tk (q3, x, w) same. let (q4, y, v) = w in (
        list (span k v.0.after) (chain x.3.0 (tail_of y.1)),
        rw (← v.3) (rules.a_list_with_tail (tk ∙ t) x.2 x.3.1 (x.4 ∙ b) (from_there y.0 x.5 y.2) y.3 v.1 (v.2 ∙ z)),
        tt,
      ))
  term_run (rules.a_float {d = d} {l = l} t w) p st =
      whole (other (span l l.after) sort.Float (taken l l.after)) p l st (stay l.after Closes) (λ Y c. exact (stepped p l st).spells (no_stop l.token t refl) Y c.delimits)
      (λ k q2 tk e same. kept_built d l l.after sort.Float k k.after q2 e same w (λ v. rules.a_float (tk ∙ t) v))
  term_run (rules.an_empty_map {d = d} {l = l} {m = m} t a z w) p st =
      bracketed (other (span l m.after) sort.Map (taken l m.after)) p l st (ap ends t) (shut_token {May = Any} l.after m a (ap shuts z)).run
      (λ k q2 tk x same. kept_built (suc d) l m.after sort.Map k x.0.after q2 x.3 same w (λ v. rules.an_empty_map (tk ∙ t) x.1 (x.2 ∙ z) v))
  term_run (rules.a_map {d = d} {l = l} {m = m} t a r z w) p st =
      bracketed (other (span l m.after) sort.Map (taken l m.after)) p l st (ap ends t) (pairs_run r l.after a (ap shuts z))
      (λ k q2 tk x same. kept_built (suc d) l m.after sort.Map k x.1.after q2 x.5 same w (λ v. rules.a_map (tk ∙ t) x.2 x.3 (x.4 ∙ z) v))
  term_run (rules.an_empty_binary {d = d} {l = l} {m = m} t a z w) p st =
      bracketed (other (span l m.after) sort.Binary (taken l m.after)) p l st (ap ends t) (shut_token {May = Any} l.after m a (ap shuts z)).run
      (λ k q2 tk x same. kept_built (suc d) l m.after sort.Binary k x.0.after q2 x.3 same w (λ v. rules.an_empty_binary (tk ∙ t) x.1 (x.2 ∙ z) v))
  term_run (rules.a_binary {d = d} {l = l} {m = m} t a r z w) p st =
      bracketed (other (span l m.after) sort.Binary (taken l m.after)) p l st (ap ends t) (parts_run r l.after a (ap shuts z))
      (λ k q2 tk x same. kept_built (suc d) l m.after sort.Binary k x.1.after q2 x.5 same w (λ v. rules.a_binary (tk ∙ t) x.2 x.3 (x.4 ∙ z) v))
  term_run (rules.a_fun {d = d} {l = l} {f = f} {colon = colon} {g = g} {slash = slash} {n = n} {b = v} t a x b y c z e o h j r) p st =
      let arity = under (λ Y s. exact (stepped slash.after n h).spells (no_stop n.token j refl) Y s.delimits) (token_run slash.after n (stepped slash.after n h)) in
      let called = before_shut colon.after g c (no_stop g.token z refl) (shut_more {May = Closes} g.after slash e (ap shuts o) arity) in
      let coloned = shut_more {May = Closes} f.after colon b (ap shuts y) called in
      let inner = before_shut l.after f a (no_stop f.token x refl) coloned in
      let sf = stepped l.after f a in
      let same : (Y : List ℕ) → inner.text ++ Y ≡ (sf.blank ++ sf.bytes) ++ (coloned.run.text ++ Y) = λ Y. append_assoc (sf.blank ++ sf.bytes) coloned.run.text Y in
      whole (other (span l n.after) sort.Fun (taken l n.after)) p l st inner
      (λ Y s. exact (stepped p l st).spells (no_stop l.token t refl) (inner.text ++ Y) (subst Delimits (sym (same Y)) (fun_delimits p l f (stepped p l st) sf t v x (coloned.run.text ++ Y))))
      (λ k q2 tk (q3, f2, w) same. let (q4, c2, w) = w in let (q5, g2, w) = w in let (q6, s2, n2) = w in
      kept_built d l n.after sort.Fun k n2.0.after q2 n2.3 same r
      (λ u. rules.a_fun (tk ∙ t) f2.1 (f2.2 ∙ x) (from_there c2.0 f2.3 c2.1) (c2.2 ∙ y) (from_there g2.0 c2.3 g2.1) (g2.2 ∙ z) (from_there s2.0 g2.3 s2.1) (s2.2 ∙ o) (from_there n2.0 s2.3 n2.1) (n2.2 ∙ j) u))

  elements_run : {d : ℕ} {l m : Lexeme} {ts : List Tree} → rules.Row Stood NoText d l ts m → (p : Place) → Stood p l → shuts m.token ≡ true → Run p m.after Any (From (Listed d) m)
  elements_run (rules.one {m = m} {r = r} x y) p st c =
      let last = shut_token {May = Any} r m y c in
      doing (then (term_run x p st) last.run last.shut) (λ p2 r2 (q2, x, y). (x.0, y.0, x.2, (x.1 ∷ [], rules.one x.3 y.1), y.2, y.3))
  elements_run (rules.more {comma = comma} {next = next} {r = r} x y k n w) p st c =
      let behind = shut_more {May = Any} r comma y (ap shuts k) (elements_run w comma.after n c) in
      doing (then (term_run x p st) behind.run behind.shut)
      (λ p2 r2 (q2, x, w). let (q3, y, z) = w in (x.0, z.1, x.2, (x.1 ∷ z.3.0, rules.more x.3 y.1 (y.2 ∙ k) (from_there z.0 y.3 z.2) z.3.1), z.4, z.5))

  pairs_run : {d : ℕ} {l m : Lexeme} → rules.Pairs Stood NoText d l m → (p : Place) → Stood p l → shuts m.token ≡ true → Run p m.after Any (From (rules.Pairs Stood NoText d) m)
  pairs_run (rules.one_pair {arrow = arrow} {m = m} {r = r} {q = q} x a k b y z) p st c =
      let last = shut_token {May = Any} q m z c in
      let behind = shut_more {May = Any} r arrow a (ap shuts k) (then (term_run y arrow.after b) last.run last.shut) in
      doing (then (term_run x p st) behind.run behind.shut)
      (λ p2 r2 (q2, x, w). let (q3, ar, w) = w in let (q4, y, m) = w in (x.0, m.0, x.2, rules.one_pair x.3 ar.1 (ar.2 ∙ k) (from_there y.0 ar.3 y.2) y.3 m.1, m.2, m.3))
  pairs_run (rules.more_pairs {arrow = arrow} {comma = comma} {r = r} {q = q} x a k b y z j e w) p st c =
      let rest = shut_more {May = Any} q comma z (ap shuts j) (pairs_run w comma.after e c) in
      let behind = shut_more {May = Any} r arrow a (ap shuts k) (then (term_run y arrow.after b) rest.run rest.shut) in
      doing (then (term_run x p st) behind.run behind.shut)
      (λ p2 r2 (q2, x, w). let (q3, ar, w) = w in let (q4, y, w) = w in let (q5, cm, z) = w in
      (x.0, z.1, x.2, rules.more_pairs x.3 ar.1 (ar.2 ∙ k) (from_there y.0 ar.3 y.2) y.3 cm.1 (cm.2 ∙ j) (from_there z.0 cm.3 z.2) z.3, z.4, z.5))
