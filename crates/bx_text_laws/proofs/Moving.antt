-- What stands in a text, put where other bytes follow it.
use Rattle.bx_text_laws.proofs.Commons.{◌≡◌, ◌≢◌, ℕ, ◌+◌, ◌-◌, ◌≤◌, ◌<◌, true, List, [], ◌∷◌, ◌++◌, take, length, refl, sym, ap, ◌∙◌, subst, arith, append_assoc, take_at, length-append, encode_utf8_all}
use Rattle.bx_text_laws.proofs.Commons.{nat_tests, length-encode, len_utf8_bounds, Place, Token, Lexeme, Blank, nothing, comment, NoBlank, LineEnds, Passes, IsSpace, Spelling, comma, float, bare_atom}
use Rattle.bx_text_laws.proofs.Commons.{lines, NoLonger, Stood, NoQuote, NoText}
use Rattle.std.specs.Char.{encode_utf8}
use Rattle.bx_text.specs.Named as named
use Rattle.bx_text.specs.Terms.{taken}
use Rattle.bx_text_laws.specs.Blanks.{space}
use Rattle.bx_text_laws.specs.Spelling.{integer}
use Rattle.bx_text_laws.proofs.Runs.{digits_of}
use Rattle.bx_text_laws.proofs.Longest.{taken_is_longest}
use Rattle.bx_text_laws.proofs.Printing.{Delimits, Exactly}
use Rattle.bx_text_laws.proofs.Exact.{ends, shuts, shuts_ends, solid_exact, exact}

-- the bytes from p to q; and from each place where they stand before what may follow them, the same is done up to their end
pub record Run (p q : Place) (May : List ℕ → Type 0) (Do : Place → Place → Type 0) : Type 0 where
  pub text : List ℕ
  pub rest : p.rest ≡ text ++ q.rest
  pub size : q.at ≡ p.at + length text
  pub again : (Y : List ℕ) → May Y → (p2 : Place) → p2.rest ≡ text ++ Y → (q2 : Place) × Do p2 q2 × (q2.rest ≡ Y) × (q2.at ≡ p2.at + length text)

abbrev pub stay : (p : Place) (May : List ℕ → Type 0) → Run p p May (λ p2 q2. p2 ≡ q2)
stay p May = record { text = []; rest = refl; size = omega arith; again = λ Y a p2 e. (p2, refl, e, omega arith) }

abbrev pub under : {p q : Place} {A B : List ℕ → Type 0} {D : Place → Place → Type 0} → ((Y : List ℕ) → B Y → A Y) → Run p q A D → Run p q B D
under f run = record { text = run.text; rest = run.rest; size = run.size; again = λ Y b p2 e. run.again Y (f Y b) p2 e }

abbrev pub doing : {p q : Place} {A : List ℕ → Type 0} {D E : Place → Place → Type 0} → Run p q A D → ((p2 q2 : Place) → D p2 q2 → E p2 q2) → Run p q A E
doing run f = record { text = run.text; rest = run.rest; size = run.size; again = λ Y a p2 e. let (q2, d, r, s) = run.again Y a p2 e in (q2, f p2 q2 d, r, s) }

-- one behind the other
abbrev pub then : {p q r : Place} {A B : List ℕ → Type 0} {D E : Place → Place → Type 0} → (one : Run p q A D) → (two : Run q r B E) → ((Y : List ℕ) → B Y → A (two.text ++ Y))
    → Run p r B (λ p2 r2. (q2 : Place) × D p2 q2 × E q2 r2)
then {r = r} one two fits = record {
  text = one.text ++ two.text;
  rest = one.rest ∙ ap (λ ws. one.text ++ ws) two.rest ∙ sym (append_assoc one.text two.text r.rest);
  size = omega (arith, one.size, two.size, length-append one.text two.text);
  again = λ Y b p2 e.
      let (q2, d, left, long) = one.again (two.text ++ Y) (fits Y b) p2 (e ∙ append_assoc one.text two.text Y) in
      let (r2, f, last, size) = two.again Y b q2 left in
      (r2, (q2, d, f), last, omega (arith, long, size, length-append one.text two.text));
}

-- a token by its bytes
pub record Stepped (p : Place) (l : Lexeme) : Type 0 where
  pub blank : List ℕ
  pub bytes : List ℕ
  pub rest : p.rest ≡ blank ++ (bytes ++ l.after.rest)
  pub begin : l.begin ≡ bytes ++ l.after.rest
  pub from : l.from ≡ p.at + length blank
  pub size : l.after.at ≡ l.from + length bytes
  pub blanks : Blank blank (bytes ++ l.after.rest)
  pub solid : NoBlank (bytes ++ l.after.rest)
  pub spells : Spelling bytes l.token
  pub longest : NoLonger (bytes ++ l.after.rest) bytes

abbrev pub stepped : (p : Place) (l : Lexeme) → Stood p l → Stepped p l
stepped p l (q, (blank, e, b, n, s), (bytes, (f, k, may), longest, t), from_is, line_is, begin_is) = record {
  blank = blank;
  bytes = bytes;
  rest = e ∙ ap (λ ws. blank ++ ws) f;
  begin = begin_is ∙ f;
  from = from_is ∙ s.0;
  size = t.0 ∙ ap (λ k. k + length bytes) (sym from_is);
  blanks = subst (λ ws. Blank blank ws) f b;
  solid = subst (λ ws. NoBlank ws) f n;
  spells = k;
  longest = subst (λ ws. NoLonger ws bytes) f longest;
}

-- a token has a byte at least
pub some_bytes : {bytes : List ℕ} {t : Token} → Spelling bytes t → 0 < length bytes
some_bytes (integer k) = (digits_of k refl).2
some_bytes (float {m = m} {ds = ds} {fs = fs} {es = es} mi a b ex) = omega (arith, length-append m (ds ++ (46 ∷ (fs ++ es))), length-append ds (46 ∷ (fs ++ es)))
some_bytes (bare_atom c cs {bytes = bytes} small a (s, e) other) =
    omega (arith, ap length e, length-append (encode_utf8 c) (encode_utf8_all cs), length-encode c, len_utf8_bounds c)
some_bytes s = omega arith

-- blanks before other bytes with the same first one
blank_moves : {blank rest : List ℕ} → Blank blank rest → (b : ℕ) (R S : List ℕ) → rest ≡ b ∷ R → Blank blank (b ∷ S)
blank_moves nothing b R S e = nothing
blank_moves (space s k) b R S e = space s (blank_moves k b R S e)
blank_moves (comment text {bytes = bytes} {rest = rest} o l k) b R S e = comment text o (ends bytes l) (blank_moves k b R S e)
  where
    ends : (bytes : List ℕ) → LineEnds (bytes ++ rest) → LineEnds (bytes ++ b ∷ S)
    ends [] h = subst (λ ws. LineEnds ws) e h
    ends (x ∷ xs) h = h

-- before other bytes behind them, a token's bytes stand behind the same blanks
abbrev pub ahead : {p : Place} {l : Lexeme} → Stepped p l → List ℕ → Place → Place
ahead s Y p2 = record { rest = s.bytes ++ Y; at = p2.at + length s.blank; line = p2.line + lines s.blank }

pub passes_again : {p : Place} {l : Lexeme} (s : Stepped p l) (Y : List ℕ) (p2 : Place) → p2.rest ≡ s.blank ++ (s.bytes ++ Y) → Passes p2 (ahead s Y p2)
passes_again {l = l} s Y p2 e = let m = moves s.bytes (some_bytes s.spells) s.blanks s.solid in (s.blank, e, m.0, m.1, (refl, refl))
  where
    moves : (bytes : List ℕ) → 0 < length bytes → Blank s.blank (bytes ++ l.after.rest) → NoBlank (bytes ++ l.after.rest) → Blank s.blank (bytes ++ Y) × NoBlank (bytes ++ Y)
    moves [] some k n = absurd (omega arith)
    moves (b ∷ bs) some k n = (blank_moves k b (bs ++ l.after.rest) (bs ++ Y) refl, n)

-- the same token elsewhere
abbrev pub Copied : Lexeme → List ℕ → Place → Place → Type 0
Copied l bytes p2 q2 = (m : Lexeme) × Stood p2 m × (m.token ≡ l.token) × (m.after ≡ q2) × (m.begin ≡ bytes ++ q2.rest) × (q2.at ≡ m.from + length bytes)

abbrev pub token_run : (p : Place) (l : Lexeme) → (s : Stepped p l) → Run p l.after (λ Y. Exactly s.bytes l.token Y) (Copied l s.bytes)
token_run p l s = record {
  text = s.blank ++ s.bytes;
  rest = s.rest ∙ sym (append_assoc s.blank s.bytes l.after.rest);
  size = omega (arith, s.size, s.from, length-append s.blank s.bytes);
  again = λ Y x p2 e.
      let here : Place = ahead s Y p2 in
      let (u, q, h, r, mean) = x here.at here.line in
      let (bs, b, more, st) = (taken_is_longest here l.token q).0 (u, h, mean) in
      let same : length bs ≡ length s.bytes = omega (arith, ap length b.0, length-append bs q.rest, length-append s.bytes Y, ap length r) in
      let at_is : q.at ≡ p2.at + length s.blank + length s.bytes = omega (arith, st.0, same) in
      let m : Lexeme = record { token = l.token; from = here.at; line = here.line; begin = here.rest; after = q } in
      let stood : Stood p2 m = (here, passes_again s Y p2 (e ∙ append_assoc s.blank s.bytes Y), (bs, b, more, st), refl, refl, refl) in
      (q, (m, stood, refl, refl, ap (λ ws. s.bytes ++ ws) (sym r), at_is), r, omega (arith, at_is, length-append s.blank s.bytes));
}

abbrev Plain : List ℕ → Type 0
Plain Y = Delimits Y × NoQuote Y

shut_plain : {bytes : List ℕ} {t : Token} → Spelling bytes t → shuts t ≡ true → (Y : List ℕ) → Plain (bytes ++ Y)
shut_plain comma c Y = search arith
shut_plain s c Y = search arith

-- a space delimits
pub low_delimits : (b : ℕ) (bs : List ℕ) → b ≤ 32 → Delimits (b ∷ bs)
low_delimits b bs l = record { digits = grind (arith, nat_tests); fraction = grind (arith, nat_tests); name = grind (arith, nat_tests) }

pub blank_delimits : {blank rest : List ℕ} → Blank blank rest → (Z : List ℕ) → (blank ≡ [] → Delimits Z) → Delimits (blank ++ Z)
blank_delimits nothing Z d = d refl
blank_delimits (space {b = b} {bytes = bytes} s k) Z d = low_delimits b (bytes ++ Z) s
blank_delimits (comment text o l k) Z d = record { digits = refl; fraction = refl; name = refl }

-- nothing that stands before goes on in these bytes
pub record Closes (Y : List ℕ) : Type 0 where
  pub delimits : Delimits Y
  pub text : (p : Place) → p.rest ≡ Y → NoText p

pub closing : (p : Place) (m : Lexeme) → (s : Stepped p m) → shuts m.token ≡ true → (Z : List ℕ) → Closes (s.blank ++ (s.bytes ++ Z))
closing p m s c Z =
    let plain = shut_plain s.spells c Z in
    record { delimits = blank_delimits s.blanks (s.bytes ++ Z) (λ _. plain.0); text = λ p2 e. (ahead s Z p2, passes_again s Z p2 e, plain.1) }

pub closes_by : (b : ℕ) (Y : List ℕ) → Delimits (b ∷ Y) → (IsSpace b → ⊥) → b ≢ 37 → b ≢ 34 → Closes (b ∷ Y)
closes_by b Y d s c q = record { delimits = d; text = λ p e. (p, ([], refl, nothing, subst (λ ws. NoBlank ws) (sym e) (s, c), (omega arith, omega arith)), subst (λ ws. NoQuote ws) (sym e) q) }

-- the bytes from a token to a place
pub taken_is : (l : Lexeme) (q : Place) (bytes text Y : List ℕ) → l.begin ≡ bytes ++ (text ++ Y) → q.at ≡ l.from + (length bytes + length text) → taken l q ≡ bytes ++ text
taken_is l q bytes text Y e s =
    let long : q.at - l.from ≡ length (bytes ++ text) = omega (arith, s, length-append bytes text) in
    ap (λ k. take k l.begin) long ∙ ap (λ ws. take (length (bytes ++ text)) ws) (e ∙ sym (append_assoc bytes text Y)) ∙ take_at (bytes ++ text) Y (length (bytes ++ text)) refl

-- a run that begins with such a mark
pub record Shut (p q : Place) (May : List ℕ → Type 0) (Do : Place → Place → Type 0) : Type 0 where
  pub run : Run p q May Do
  pub shut : (Y : List ℕ) → May Y → Closes (run.text ++ Y)

-- whatever follows
abbrev pub Any : List ℕ → Type 0
Any Y = Unit {0}

-- a mark
pub shut_token : {May : List ℕ → Type 0} (p : Place) (m : Lexeme) → (st : Stood p m) → shuts m.token ≡ true → Shut p m.after May (Copied m (stepped p m st).bytes)
shut_token p m st c =
    let s = stepped p m st in
    record { run = under (λ Y a. solid_exact s.spells (shuts_ends m.token c) Y) (token_run p m s); shut = λ Y a. subst Closes (sym (append_assoc s.blank s.bytes Y)) (closing p m s c Y) }

-- a mark, and what follows it
pub shut_more : {May : List ℕ → Type 0} {E : Place → Place → Type 0} {r : Place} (p : Place) (m : Lexeme) → (st : Stood p m) → shuts m.token ≡ true → Run m.after r May E
    → Shut p r May (λ p2 r2. (q2 : Place) × Copied m (stepped p m st).bytes p2 q2 × E q2 r2)
shut_more p m st c two =
    let s = stepped p m st in
    let grouped : (Y : List ℕ) → ((s.blank ++ s.bytes) ++ two.text) ++ Y ≡ s.blank ++ (s.bytes ++ (two.text ++ Y)) = λ Y. simp append_assoc in
    record { run = then (token_run p m s) two (λ Y a. solid_exact s.spells (shuts_ends m.token c) (two.text ++ Y)); shut = λ Y a. subst Closes (sym (grouped Y)) (closing p m s c (two.text ++ Y)) }

-- a token before such a mark
abbrev pub before_shut : {May : List ℕ → Type 0} {E : Place → Place → Type 0} {r : Place} (p : Place) (m : Lexeme) → (st : Stood p m) → m.token ≢ named.full_stop → Shut m.after r May E
    → Run p r May (λ p2 r2. (q2 : Place) × Copied m (stepped p m st).bytes p2 q2 × E q2 r2)
before_shut p m st n two = let s = stepped p m st in then (token_run p m s) two.run (λ Y a. exact s.spells n (two.run.text ++ Y) (two.shut Y a).delimits)

-- a token that nothing goes on in, and what follows it
pub solid_before : {May : List ℕ → Type 0} {E : Place → Place → Type 0} {r : Place} (p : Place) (m : Lexeme) → (st : Stood p m) → ends m.token ≡ true → Run m.after r May E
    → Run p r May (λ p2 r2. (q2 : Place) × Copied m (stepped p m st).bytes p2 q2 × E q2 r2)
solid_before p m st sol two = let s = stepped p m st in then (token_run p m s) two (λ Y a. solid_exact s.spells sol (two.text ++ Y))

pub shutting : {p q : Place} {A : List ℕ → Type 0} {D E : Place → Place → Type 0} → Shut p q A D → ((p2 q2 : Place) → D p2 q2 → E p2 q2) → Shut p q A E
shutting s f = record { run = doing s.run f; shut = s.shut }

pub anywhere : {p q : Place} {D : Place → Place → Type 0} → Run p q Any D → Run p q Closes D
anywhere run = under (λ Y c. tt) run
