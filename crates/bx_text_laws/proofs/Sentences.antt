-- What is read as a term is one by its bytes.
use Rattle.bx_text_laws.proofs.Commons.{◌≡◌, ℕ, zero, suc, ◌≤◌, Bool, false, ◌↔◌, List, [], ◌∷◌, ◌++◌, Some, None, Ok, arith, refl, sym, ap, ◌∙◌, subst, eqb-false, ne_eqb, begins, le_refl}
use Rattle.bx_text_laws.proofs.Commons.{Place, Token, Body, Lexeme, spelled, span, letters, Tree, atom, list, nil, chain, is_quote, is_colon, is_slash, meant, Stood, NoQuote, NoText, Sentence, OnlyBlanks}
use Rattle.bx_text.specs.Token as token
use Rattle.bx_text.specs.Rules as rules
use Rattle.bx_text.specs.Grammar.{Next, NoString}
use Rattle.bx_text.specs.Forms.{form_at}
use Rattle.bx_text.proofs.Grammatical.{forms_are, none_are}
use Rattle.bx_text_laws.proofs.Blanking.{skipped_is_blank}
use Rattle.bx_text_laws.proofs.Finding.{next_is_longest, parts}
use Rattle.bx_text_laws.proofs.Meant.{atom_meant}

-- the lexeme with another token
abbrev pub given : Token → Lexeme → Lexeme
given t l = record { token = t; from = l.from; line = l.line; begin = l.begin; after = l.after }

-- the lexeme with the text that is meant
abbrev pub plainly : Lexeme → Lexeme
plainly l = given (meant l.token) l

-- one token
pub step : (p : Place) (l : Lexeme) → Next p l → Stood p (plainly l)
step p l n =
    let (q, x, s, k, e) = parts p l n in
    let from_is : l.from ≡ q.at = sym (ap (λ (l : Lexeme). l.from) e) in
    let line_is : l.line ≡ q.line = sym (ap (λ (l : Lexeme). l.line) e) in
    let begin_is : l.begin ≡ q.rest = sym (ap (λ (l : Lexeme). l.begin) e) in
    let found = (next_is_longest p q (meant l.token) l.after).0 (l, n, refl, refl, from_is, line_is, begin_is) in
    (q, found.0, found.1, from_is, line_is, begin_is)

-- the reader's token behind one by bytes
pub back : (p : Place) (l : Lexeme) → Stood p l → (v : Token) × (meant v ≡ l.token) × Next p (given v l)
back p l (q, passed, longest, from_is, line_is, begin_is) =
    let (k, h, m, a, f, n, b) = (next_is_longest p q l.token l.after).1 (passed, longest) in
    (k.token, m, h ∙ λ i. Ok (record { token = k.token; from = (f ∙ sym from_is) i; line = (n ∙ sym line_is) i; begin = (b ∙ sym begin_is) i; after = a i }))

no_quote : (bs : List ℕ) → (begins is_quote bs ≡ false) ↔ NoQuote bs
no_quote [] = (λ e. tt, λ n. refl)
no_quote (b ∷ bs) = (eqb-false b 34, ne_eqb b 34)

no_string : (p : Place) → NoString p ↔ NoText p
no_string p = (λ (q, s, n). (q, (skipped_is_blank p q).0 s, (no_quote q.rest).0 n), λ (q, s, n). (q, (skipped_is_blank p q).1 s, (no_quote q.rest).1 n))

-- tokens that mean the same
abbrev IsBare : Token → Type 0
IsBare (token.atom b) = ⊥
IsBare (token.text b) = ⊥
IsBare t = Unit {0}

bare : {u v k : Token} → meant u ≡ meant v → u ≡ k → IsBare k → v ≡ k
bare {u} {v} {k} e t b = grind arith

a_name : {u v : Token} {b : Body} → meant u ≡ meant v → u ≡ token.atom b → (c : Body) × (v ≡ token.atom c) × (spelled c ≡ spelled b)
a_name {v = v} {b = b} e t = atom_meant v (spelled b) (sym e ∙ ap meant t)

text_meant : (u : Token) (w : List ℕ) → meant u ≡ token.text (token.plain w) → (b : Body) × (u ≡ token.text b) × (spelled b ≡ w)
text_meant (token.text b) w e = (b, refl, (cc))
text_meant u w e = cc

a_text : {u v : Token} {b : Body} → meant u ≡ meant v → u ≡ token.text b → (c : Body) × (v ≡ token.text c) × (spelled c ≡ spelled b)
a_text {v = v} {b = b} e t = text_meant v (spelled b) (sym e ∙ ap meant t)

same_colon : (t : Token) → is_colon (meant t) ≡ is_colon t
same_colon t = grind arith

same_slash : (t : Token) → is_slash (meant t) ≡ is_slash t
same_slash t = grind arith

still : {u v : Token} (test : Token → Bool) → ((t : Token) → test (meant t) ≡ test t) → meant u ≡ meant v → test v ≡ test u
still {u} {v} test same e = sym (same v) ∙ ap test (sym e) ∙ same u

-- so it is of a lexeme with another token that means the same
abbrev pub Alike : (Lexeme → Type 0) → Lexeme → Type 0
Alike P l = (v : Token) × (meant l.token ≡ meant v) × P (given v l)

-- where the tokens of one relation are those of another, up to how a text in them is written, so are the terms; deeper is no harm
module _ (R S : Place → Lexeme → Type 0) (N M : Place → Type 0) (carry : (p : Place) (l : Lexeme) → R p l → Alike (S p) l) (none : (p : Place) → N p → M p) where
  strings : {p q : Place} {ts : List Tree} → rules.Strings R N p ts q → rules.Strings S M p ts q
  strings (rules.no_string {p = p} n) = rules.no_string (none p n)
  strings (rules.a_string {p = p} {q = q} {l = l} {ts = ts} n t s) =
      let (v, e, x) = carry p l n in
      let c = a_text e t in subst (λ w. rules.Strings S M p (letters (span l l.after) w ++ ts) q) c.2 (rules.a_string x c.1 (strings s))

  content : {d : ℕ} {l : Lexeme} {q : Place} → rules.Content R N d l q → (v : Token) → meant l.token ≡ meant v → (i : ℕ) → d ≤ i → rules.Content S M i (given v l) q
  content (rules.a_number t) v e i h = rules.a_number (bare e t tt)
  content (rules.a_text t s) v e (suc i) h = rules.a_text (a_text e t).1 (strings s)
  content s v e zero h = absurd (omega arith)

  size : {m k : Lexeme} → rules.Size R N m k → (v : Token) → meant m.token ≡ meant v → Alike (rules.Size S M (given v m)) k
  size (rules.no_size t) v e = (v, e, rules.no_size (still is_colon same_colon e ∙ t))
  size (rules.a_size t a i b) v e = let (n, f, x) = carry _ _ a in let (k, g, y) = carry _ _ b in (k, g, rules.a_size (bare e t tt) x (bare f i tt) y)

  encoding : {m k : Lexeme} → rules.Encoding R N m k → (v : Token) → meant m.token ≡ meant v → Alike (rules.Encoding S M (given v m)) k
  encoding (rules.no_encoding t) v e = (v, e, rules.no_encoding (still is_slash same_slash e ∙ t))
  encoding (rules.in_utf8 t a i w b) v e =
      let (n, f, x) = carry _ _ a in
      let (k, g, y) = carry _ _ b in
      let c = a_name f i in (k, g, rules.in_utf8 (bare e t tt) x c.1 (c.2 ∙ w) y)

  segment : {d : ℕ} {l m : Lexeme} → rules.Segment R N d l m → (v : Token) → meant l.token ≡ meant v → (i : ℕ) → d ≤ i → Alike (rules.Segment S M i (given v l)) m
  segment (rules.a_segment c a s k) v e i h =
      let (n, f, x) = carry _ _ a in
      let (j, g, y) = size s n f in
      let (o, u, z) = encoding k j g in (o, u, rules.a_segment (content c v e i h) x y z)

  segments : {d : ℕ} {l m : Lexeme} → rules.Segments R N d l m → (v : Token) → meant l.token ≡ meant v → (i : ℕ) → d ≤ i → Alike (rules.Segments S M i (given v l)) m
  segments (rules.one_segment s) v e i h = let (o, u, x) = segment s v e i h in (o, u, rules.one_segment x)
  segments (rules.more_segments s t a r) v e i h =
      let (o, u, x) = segment s v e i h in
      let (n, f, y) = carry _ _ a in
      let (k, g, z) = segments r n f i h in (k, g, rules.more_segments x (bare u t tt) y z)

  mutual
    pub term : {d : ℕ} {l : Lexeme} {t : Tree} {q : Place} → rules.Spells R N d l t q → (v : Token) → meant l.token ≡ meant v → (i : ℕ) → d ≤ i → rules.Spells S M i (given v l) t q
    term (rules.an_integer t) v e i h = rules.an_integer (bare e t tt)
    term (rules.an_atom {l = l} t) v e i h = let c = a_name e t in subst (λ w. rules.Spells S M i (given v l) (atom (span l l.after) w) l.after) c.2 (rules.an_atom c.1)
    term (rules.a_float t w) v e i h = rules.a_float (bare e t tt) w
    term (rules.a_fun t a x b y c z o u s r w) v e i h =
        let (m, f, a) = carry _ _ a in
        let (n, g, b) = carry _ _ b in
        let (k, j, c) = carry _ _ c in
        let (p, q, o) = carry _ _ o in
        let (l, d, s) = carry _ _ s in
        rules.a_fun (bare e t tt) a (a_name f x).1 b (bare g y tt) c (a_name j z).1 o (bare q u tt) s (bare d r tt) w
    term (rules.strings {l = l} {ts = ts} {q = q} t s) v e (suc i) h =
        let c = a_text e t in subst (λ w. rules.Spells S M (suc i) (given v l) (list (span l q) (chain (letters (span l l.after) w ++ ts) nil)) q) c.2 (rules.strings c.1 (strings s))
    term (rules.empty_tuple t a z) v e (suc i) h = let (m, f, x) = carry _ _ a in rules.empty_tuple (bare e t tt) x (bare f z tt)
    term (rules.a_tuple t a w z) v e (suc i) h = let (m, f, x) = carry _ _ a in let (n, g, r) = row w m f i (omega arith) in rules.a_tuple (bare e t tt) x r (bare g z tt)
    term (rules.empty_list t a z) v e (suc i) h = let (m, f, x) = carry _ _ a in rules.empty_list (bare e t tt) x (bare f z tt)
    term (rules.a_list t a w z) v e (suc i) h = let (m, f, x) = carry _ _ a in let (n, g, r) = row w m f i (omega arith) in rules.a_list (bare e t tt) x r (bare g z tt)
    term (rules.a_list_with_tail t a w b c u y z) v e (suc i) h =
        let (m, f, x) = carry _ _ a in
        let (n, g, r) = row w m f i (omega arith) in
        let (k, j, s) = carry _ _ c in
        let (o, p, q) = carry _ _ y in
        rules.a_list_with_tail (bare e t tt) x r (bare g b tt) s (term u k j i (omega arith)) q (bare p z tt)
    term (rules.an_empty_map t a z w) v e (suc i) h = let (m, f, x) = carry _ _ a in rules.an_empty_map (bare e t tt) x (bare f z tt) w
    term (rules.a_map t a r z w) v e (suc i) h = let (m, f, x) = carry _ _ a in let (n, g, y) = pairs r m f i (omega arith) in rules.a_map (bare e t tt) x y (bare g z tt) w
    term (rules.an_empty_binary t a z w) v e (suc i) h = let (m, f, x) = carry _ _ a in rules.an_empty_binary (bare e t tt) x (bare f z tt) w
    term (rules.a_binary t a r z w) v e (suc i) h = let (m, f, x) = carry _ _ a in let (n, g, y) = segments r m f i (omega arith) in rules.a_binary (bare e t tt) x y (bare g z tt) w
    term s v e zero h = absurd (omega arith)

    row : {d : ℕ} {l m : Lexeme} {ts : List Tree} → rules.Row R N d l ts m → (v : Token) → meant l.token ≡ meant v → (i : ℕ) → d ≤ i → Alike (rules.Row S M i (given v l) ts) m
    row (rules.one s a) v e i h = let (m, f, x) = carry _ _ a in (m, f, rules.one (term s v e i h) x)
    row (rules.more s a t b r) v e i h =
        let (m, f, x) = carry _ _ a in
        let (n, g, y) = carry _ _ b in
        let (k, j, z) = row r n g i h in (k, j, rules.more (term s v e i h) x (bare f t tt) y z)

    pairs : {d : ℕ} {l m : Lexeme} → rules.Pairs R N d l m → (v : Token) → meant l.token ≡ meant v → (i : ℕ) → d ≤ i → Alike (rules.Pairs S M i (given v l)) m
    pairs (rules.one_pair s a t b u c) v e i h =
        let (m, f, x) = carry _ _ a in
        let (n, g, y) = carry _ _ b in
        let (k, j, z) = carry _ _ c in (k, j, rules.one_pair (term s v e i h) x (bare f t tt) y (term u n g i h) z)
    pairs (rules.more_pairs s a t b u c o p r) v e i h =
        let (m, f, x) = carry _ _ a in
        let (n, g, y) = carry _ _ b in
        let (k, j, z) = carry _ _ c in
        let (l, d, w) = carry _ _ p in
        let (q, q2, r) = pairs r l d i h in (q, q2, rules.more_pairs (term s v e i h) x (bare f t tt) y (term u n g i h) z (bare j o tt) w r)

  form : {d : ℕ} {p q : Place} {t : Tree} → rules.Form R N d p t q → rules.Form S M d p t q
  form (rules.a_form {d = d} n s a z) = let (v, e, x) = carry _ _ n in let (m, f, y) = carry _ _ a in rules.a_form x (term s v e d (le_refl d)) y (bare f z tt)

-- to the bytes and back
meant_twice : (t : Token) → meant (meant t) ≡ meant t
meant_twice t = grind arith

pub there : (p : Place) (l : Lexeme) → Next p l → Alike (Stood p) l
there p l n = (meant l.token, sym (meant_twice l.token), step p l n)

pub here : (p : Place) (l : Lexeme) → Stood p l → Alike (Next p) l
here p l st = let (v, m, n) = back p l st in (v, ap meant (sym m) ∙ meant_twice v, n)

pub not_there : (p : Place) → NoString p → NoText p
not_there p n = (no_string p).0 n

pub not_here : (p : Place) → NoText p → NoString p
not_here p n = (no_string p).1 n

pub forms_are_sentences : (p : Place) (t : Tree) (q : Place) → (form_at p ≡ Ok (Some (t, q))) ↔ Sentence 256 p t q
forms_are_sentences p t q = (λ h. form Next Stood NoString NoText there not_there ((forms_are p t q).0 h), λ s. (forms_are p t q).1 (form Stood Next NoText NoString here not_here s))

pub none_is_blank : (p : Place) → (form_at p ≡ Ok None) ↔ OnlyBlanks p
none_is_blank p =
    (λ h. let (q, s, e) = (none_are p).0 h in (q, (skipped_is_blank p q).0 s, e), λ (q, s, e). (none_are p).1 (q, (skipped_is_blank p q).1 s, e))
