-- Quoted atoms and strings.
use Rattle.std.proofs.Common.{◌≡◌, ◌≢◌, ℕ, ◌+◌, ◌≤◌, ◌<◌, Bool, true, false, cond, eqb, List, [], ◌∷◌, ◌++◌, take, drop, length, Result, Ok, Err, refl, sym, ap, ◌∙◌, subst, arith, append_assoc, drop_at, take_at, length-append, append-nil, encode_utf8_all, chars, IsUtf8, inl, inr}
use Rattle.std.specs.List.{fold, list_all, prefix_len}
use Rattle.std.specs.Char.{encode_utf8}
use Rattle.std.specs.Str.Lossy.{utf8_valid_len}
use Rattle.std.proofs.lemmas.Bool.{eqb-true, eqb-false, ne_eqb, and_parts, and_from, cond-true, cond-false, cond_both, false_from_ne_true}
use Rattle.std.proofs.lemmas.Bool.Decides.{nat_tests}
use Rattle.std.proofs.lemmas.List.Folds.{list_all-append}
use Rattle.std.proofs.lemmas.List.Recursion.{is_count_by}
use Rattle.std.proofs.lemmas.Str.{utf8_valid_len-IsUtf8, chars-encodes, encodes-append, encode_ascii}
use Rattle.bx_terms.specs.Outcomes.{◌>>=◌}
use Rattle.bx_terms.specs.declared.faults.Fault.{Fault, TheVariants.BadToken, TheVariants.NotUtf8}
use Rattle.bx_text.specs.Bytes.{is_plain, is_feed}
use Rattle.bx_text.specs.Escapes.{step, open_in, is_whole, decoded}
use Rattle.bx_text.specs.Place.{Place, feeds}
use Rattle.bx_text.specs.Named as named
use Rattle.bx_text.specs.Token as token
use Rattle.bx_text.specs.Token.{Token, Body, spelled}
use Rattle.bx_text.specs.Lexing as lexing
use Rattle.bx_text.specs.Lexing.{token_at, quoted_at, closing_at, escaped_at, ended_at, behind, body_len, cut}
use Rattle.bx_text.proofs.Outcomes.{ok_same, bind_ok}
use Rattle.bx_text.proofs.Texts.{valid_is}
use Rattle.bx_text_laws.specs.Quoted as quoted
use Rattle.bx_text_laws.specs.Quoted.{IsQuote, Quoted}
use Rattle.bx_text_laws.specs.Refusals.{NoCharacter}
use Rattle.bx_text_laws.specs.Spelling.{Spelling, MayFollow, InUtf8, quoted_atom, string}
use Rattle.bx_text_laws.specs.Tokens.{lines, meant}
use Rattle.bx_text_laws.proofs.Frame.{on, Spelled, Found, found_exact, lines-append}
use Rattle.bx_text_laws.proofs.Runs.{run_split, run_append, push_all}
use Rattle.bx_text_laws.proofs.Free.{free, free_plain, shape, Shape, free_text, body_of, body_split, Split, Ended}
use Rattle.bx_text_laws.proofs.Escapes.{run, whole}
use Rattle.bx_text_laws.proofs.Means.{means}
use Rattle.bx_text_laws.proofs.Seams.{seam, to_seam, from_seam, AsciiNext, ascii, more_bytes, fewer_bytes}
use Rattle.bx_text_laws.proofs.Readings.{quoted_free}
use Rattle.bx_text_laws.proofs.Unclosed.{then_letter, quote_slash, spans, all_quoted}

-- the place behind a quoted token
pub feeds_lines : (bs : List ℕ) → lines bs ≡ feeds bs
feeds_lines bs = is_count_by lines is_feed refl (λ x xs. refl) bs

pub quote_line : (q : ℕ) → IsQuote q → eqb q 10 ≡ false
quote_line q h = grind (arith, nat_tests)

pub quote_low : (q : ℕ) → IsQuote q → q < 128
quote_low q h = grind arith

all_lines : (q : ℕ) (bytes : List ℕ) → IsQuote q → lines (q ∷ (bytes ++ q ∷ [])) ≡ lines bytes
all_lines q bytes h = cond-false (eqb q 10) _ _ (quote_line q h) ∙ omega (arith, cond-false {A = ℕ} (eqb q 10) 1 0 (quote_line q h), lines-append bytes (q ∷ []))

pub grouped : (q : ℕ) (bytes zs : List ℕ) → (q ∷ (bytes ++ q ∷ [])) ++ zs ≡ q ∷ (bytes ++ q ∷ zs)
grouped q bytes zs = ap (λ us. q ∷ us) (append_assoc bytes (q ∷ []) zs)

pub behind_rest : (q : ℕ) (bytes zs : List ℕ) → drop (length bytes + 2) (q ∷ (bytes ++ q ∷ zs)) ≡ zs
behind_rest q bytes zs =
    ap (λ us. drop (length bytes + 2) us) (sym (grouped q bytes zs))
    ∙ drop_at (q ∷ (bytes ++ q ∷ [])) zs (length bytes + 2) (omega (arith, length-append bytes (q ∷ [])))

plain_parts : (q c : ℕ) → is_plain q c ≡ true → (c ≢ q) × (c ≢ 92)
plain_parts q c e = (λ i. grind (arith, nat_tests), λ i. grind (arith, nat_tests))

all_parts : (p : ℕ → Bool) (xs ys : List ℕ) → list_all p (xs ++ ys) ≡ true → (list_all p xs ≡ true) × (list_all p ys ≡ true)
all_parts p xs ys a = and_parts (list_all p xs) (list_all p ys) (sym (list_all-append p xs ys) ∙ a)

high_is_plain : (q c : ℕ) → q < 128 → 128 ≤ c → is_plain q c ≡ true
high_is_plain q c l h = grind (arith, nat_tests)

plain_chars : (q : ℕ) → q < 128 → (cs : List ℕ) → list_all (is_plain q) (encode_utf8_all cs) ≡ true → list_all (is_plain q) cs ≡ true
plain_chars q l [] a = refl
plain_chars q l (c ∷ cs) a = by_shape (shape c) (plain_chars q l cs (all_parts (is_plain q) (encode_utf8 c) (encode_utf8_all cs) a).1)
  where
    by_shape : Shape c (encode_utf8 c) → list_all (is_plain q) cs ≡ true → list_all (is_plain q) (c ∷ cs) ≡ true
    by_shape (inl (low, e)) rest =
        and_from (is_plain q c) (list_all (is_plain q) cs)
        (and_parts (is_plain q c) (list_all (is_plain q) (encode_utf8_all cs)) (subst (λ us. list_all (is_plain q) (us ++ encode_utf8_all cs) ≡ true) e a)).0 rest
    by_shape (inr (high, s)) rest = and_from (is_plain q c) (list_all (is_plain q) cs) (high_is_plain q c l high) rest

-- plain characters are quoted as themselves
plainly : (q : ℕ) (cs : List ℕ) → list_all (is_plain q) cs ≡ true → Quoted q cs cs × (free q cs ≡ true) × (fold step named.nothing cs ≡ named.nothing)
plainly q [] a = (quoted.none, refl, refl)
plainly q (c ∷ cs) a =
    let both = and_parts (is_plain q c) (list_all (is_plain q) cs) a in
    let parts = plain_parts q c both.0 in
    let slash : eqb c 92 ≡ false = ne_eqb c 92 parts.1 in
    let rest = plainly q cs both.1 in
    (quoted.itself parts.0 parts.1 rest.0, free_plain q c cs slash (ne_eqb c q parts.0) rest.1, ap (λ s. fold step s cs) (cond-false (eqb c 92) named.backslash named.nothing slash) ∙ rest.2)

plain_letter : (q : ℕ) → IsQuote q → is_plain q 97 ≡ true
plain_letter q h = grind (arith, nat_tests)

-- plain bytes as characters
record Plain (q : ℕ) (raw : List ℕ) : Type 0 where
  codes : List ℕ
  text : InUtf8 codes raw
  inside : free q (then_letter raw) ≡ true
  means : run named.nothing codes ≡ codes
  shut : fold step named.nothing codes ≡ named.nothing

plain_text : (q : ℕ) (raw : List ℕ) → IsQuote q → list_all (is_plain q) raw ≡ true → IsUtf8 raw → Plain q raw
plain_text q raw h a (cs, (s, t)) =
    let p = plainly q cs (plain_chars q (quote_low q h) cs (subst (λ us. list_all (is_plain q) us ≡ true) (sym t) a)) in
    record { codes = cs; text = (s, t); inside = (plainly q (then_letter raw) (push_all (is_plain q) raw 97 a (plain_letter q h))).1; means = (means p.0).0; shut = p.2 }

not_slash : (q b : ℕ) → is_plain q b ≡ false → eqb b 92 ≡ false → b ≡ q
not_slash q b e f = grind (arith, nat_tests)

stop_low : (q z : ℕ) → IsQuote q → is_plain q z ≡ false → z < 128
stop_low q z h e = grind (arith, nat_tests)

stops : (p : ℕ → Bool) (body raw : List ℕ) (z : ℕ) (zs : List ℕ) → body ≡ raw ++ z ∷ zs → list_all p raw ≡ true → prefix_len p body ≡ length raw → p z ≡ false
stops p body raw z zs e a n = false_from_ne_true (p z) (λ y. omega (arith, n, ap (prefix_len p) e, run_append p raw (z ∷ zs) a, cond-true (p z) (1 + prefix_len p zs) 0 y))

-- characters by their bytes
opened : (cs raw : List ℕ) → InUtf8 cs raw → open_in raw ≡ fold step named.nothing cs
opened cs raw (s, t) = ap (λ us. fold step named.nothing us) (ap chars (sym t) ∙ chars-encodes cs s)

decodes : (cs raw : List ℕ) → InUtf8 cs raw → decoded raw ≡ encode_utf8_all (run named.nothing cs)
decodes cs raw (s, t) = ap (λ us. encode_utf8_all (run named.nothing us)) (ap chars (sym t) ∙ chars-encodes cs s)

pub codes_same : (cs ds bytes others : List ℕ) → InUtf8 cs bytes → InUtf8 ds others → bytes ≡ others → cs ≡ ds
codes_same cs ds bytes others (s, t) (u, v) e = sym (chars-encodes cs s) ∙ ap chars (t ∙ e ∙ sym v) ∙ chars-encodes ds u

pub open_text : (q : ℕ) (cs bytes : List ℕ) → IsQuote q → InUtf8 cs bytes → free q (then_letter bytes) ≡ free q (then_letter cs)
open_text q cs bytes h (s, t) =
    ap (free q) (sym (encodes-append cs (97 ∷ []) ∙ ap (λ us. encode_utf8_all cs ++ us) (ap (λ us. us ++ []) (encode_ascii 97 (omega arith))) ∙ ap then_letter t))
    ∙ free_text q (then_letter cs) (quote_low q h)

-- bytes that are UTF-8, and behind which no character follows
pub no_seam : (bytes rest : List ℕ) → IsUtf8 bytes → NoCharacter rest → IsUtf8 (bytes ++ rest) → ⊥
no_seam bytes rest v n u = absurd (omega (arith, from_seam bytes rest v n, utf8_valid_len-IsUtf8 (bytes ++ rest) u, length-append bytes rest, n.short))

pub no_mark : (bytes ts : List ℕ) (b : ℕ) (bs : List ℕ) → IsUtf8 bytes → IsUtf8 (bytes ++ ts) → b < 128 → NoCharacter (ts ++ b ∷ bs) → ⊥
no_mark bytes [] b bs v u l n = ascii b bs l n
no_mark bytes (t ∷ ts) b bs v u l n = no_seam bytes (t ∷ ts) v (fewer_bytes (t ∷ ts) (b ∷ bs) (omega arith) n) u

-- what the reader makes of the bytes behind a quote: characters up to one that closes them, characters that none closes, or
-- such ones behind which no character follows
abbrev pub Parsed : Type 0
Parsed = Result (Body × Place) Fault

pub data Scan (q : ℕ) (body : List ℕ) (at line : ℕ) : Parsed → Type 0 where
  closed : (cs raw zs : List ℕ) (b : Body) → body ≡ raw ++ q ∷ zs → body_len q body ≡ length raw → InUtf8 cs raw → free q (then_letter raw) ≡ true → spelled b ≡ encode_utf8_all (run named.nothing cs)
      → Scan q body at line (cond (whole named.nothing cs) (Ok (b, behind (on (q ∷ body) at line) body (length raw))) (Err (BadToken line)))
  unclosed : (cs : List ℕ) → InUtf8 cs body → free q (then_letter body) ≡ true → Scan q body at line (Err (cut (on (q ∷ body) at line) body (fold step named.nothing cs)))
  spoilt : (cs bytes rest : List ℕ) → body ≡ bytes ++ rest → InUtf8 cs bytes → free q (then_letter bytes) ≡ true → NoCharacter rest
      → Scan q body at line (Err (lexing.broken (on (q ∷ body) at line) bytes (fold step named.nothing cs)))

-- a front of n bytes, which are UTF-8 or end where no character follows
by_valid : (P : Parsed → Type 0) (good : ℕ → List ℕ → Parsed) (bad : List ℕ → Parsed) (body raw zs : List ℕ) (n : ℕ) → body ≡ raw ++ zs → n ≡ length raw → (IsUtf8 raw → P (good (length raw) zs))
    → ((bytes ts : List ℕ) → raw ≡ bytes ++ ts → IsUtf8 bytes → NoCharacter ts → P (bad bytes)) → P (cond (eqb (utf8_valid_len (take n body)) n) (good n (drop n body)) (bad (lexing.valid_front (take n body))))
by_valid P good bad body raw zs n e l valid broken =
    subst (λ n. P (cond (eqb (utf8_valid_len (take n body)) n) (good n (drop n body)) (bad (lexing.valid_front (take n body))))) (sym l)
    (subst (λ us. P (cond (eqb (utf8_valid_len us) m) (good m (drop m body)) (bad (lexing.valid_front us)))) (sym (ap (λ us. take m us) e ∙ take_at raw zs m refl))
    (subst (λ us. P (cond (eqb (utf8_valid_len raw) m) (good m us) (bad (lexing.valid_front raw)))) (sym (ap (λ us. drop m us) e ∙ drop_at raw zs m refl))
    (cond_both (eqb (utf8_valid_len raw) m) _ _ P (λ i. valid (valid_is raw (eqb-true (utf8_valid_len raw) m i)))
    (λ i. let x = to_seam raw (eqb-false (utf8_valid_len raw) m i) in
    subst (λ us. P (bad us)) (sym (ap (λ n. take n raw) x.5 ∙ ap (λ us. take (length x.0) us) x.2 ∙ take_at x.0 x.1 (length x.0) refl)) (broken x.0 x.1 x.2 x.3 x.4)))))
  where
    m : ℕ
    m = length raw

pub scan : (q : ℕ) (body : List ℕ) (at line : ℕ) → IsQuote q → Scan q body at line (quoted_at q (on (q ∷ body) at line))
scan q body at line h = by_run (run_split (is_plain q) body)
  where
    p : Place
    p = on (q ∷ body) at line

    S : Parsed → Type 0
    S r = Scan q body at line r

    front : (raw zs : List ℕ) → body ≡ raw ++ zs → take (length raw) body ≡ raw
    front raw zs e = ap (λ us. take (length raw) us) e ∙ take_at raw zs (length raw) refl

    none_closes : (raw cs : List ℕ) → body ≡ raw ++ [] → InUtf8 cs raw → free q (then_letter raw) ≡ true → S (Err (cut p body (fold step named.nothing cs)))
    none_closes raw cs e u f = let all : raw ≡ body = sym (e ∙ append-nil raw) in unclosed cs (subst (InUtf8 cs) all u) (subst (λ us. free q (then_letter us) ≡ true) all f)

    ended : (raw zs : List ℕ) → body ≡ raw ++ zs → body_len q body ≡ length raw → Ended q (free q) raw zs → IsUtf8 raw → S (ended_at p body (length raw) zs)
    ended raw [] e l d (cs, (s, t)) =
        subst (λ o. S (Err (cut p body o))) (sym (ap open_in (front raw [] e) ∙ opened cs raw (s, t))) (none_closes raw cs e (s, t) ((spans q h raw []).1 (omega (arith, l, ap (body_len q) e))))
    ended raw (z ∷ zs) e l (inl d) v = cc
    ended raw (z ∷ zs) e l (inr (f, (us, d))) (cs, (s, t)) =
        subst (λ w. S (cond (is_whole (open_in w)) (Ok (token.escaped w, behind p body (length raw))) (Err (BadToken line)))) (sym (front raw (z ∷ zs) e))
        (subst (λ o. S (cond (is_whole o) (Ok (token.escaped raw, behind p body (length raw))) (Err (BadToken line)))) (sym (opened cs raw (s, t)))
        (closed cs raw us (token.escaped raw) (e ∙ ap (λ zs. raw ++ zs) d) l (s, t) ((spans q h raw (z ∷ zs)).1 (omega (arith, l, ap (body_len q) e))) (decodes cs raw (s, t))))

    escapes : Split q (free q) body (body_len q body) → S (escaped_at p body (body_len q body))
    escapes (raw, zs, e, l, d) =
        by_valid S (λ n us. ended_at p body n us) (λ us. Err (lexing.broken p us (open_in us))) body raw zs (body_len q body) e l (ended raw zs e l d) broken
      where
        next : (zs : List ℕ) → Ended q (free q) raw zs → AsciiNext zs
        next [] d = tt
        next (z ∷ zs) (inl d) = cc
        next (z ∷ zs) (inr (a, (ws, i))) = let first : z ≡ q = cc in omega (arith, quote_low q h, first)

        broken : (bytes ts : List ℕ) → raw ≡ bytes ++ ts → IsUtf8 bytes → NoCharacter ts → S (Err (lexing.broken p bytes (open_in bytes)))
        broken bytes ts i (cs, (s, t)) n =
            let parted : body ≡ bytes ++ (ts ++ zs) = e ∙ ap (λ us. us ++ zs) i ∙ append_assoc bytes ts zs in
            subst (λ o. S (Err (lexing.broken p bytes o))) (sym (opened cs bytes (s, t)))
            (spoilt cs bytes (ts ++ zs) parted (s, t) ((spans q h bytes (ts ++ zs)).1 (omega (arith, l, ap (body_len q) parted, ap length i, length-append bytes ts))) (more_bytes ts zs n (next zs d)))

    by_run : ((raw zs : List ℕ) × (body ≡ raw ++ zs) × (list_all (is_plain q) raw ≡ true) × (prefix_len (is_plain q) body ≡ length raw)) → S (quoted_at q p)
    by_run (raw, zs, e, a, n) =
        by_valid S (λ n us. closing_at q p body n us) (λ us. Err (NotUtf8 (line + feeds us))) body raw zs (prefix_len (is_plain q) body) e n (closing zs e) broken
      where
        next : (zs : List ℕ) → body ≡ raw ++ zs → AsciiNext zs
        next [] e = tt
        next (z ∷ zs) e = stop_low q z h (stops (is_plain q) body raw z zs e a n)

        broken : (bytes ts : List ℕ) → raw ≡ bytes ++ ts → IsUtf8 bytes → NoCharacter ts → S (Err (NotUtf8 (line + feeds bytes)))
        broken bytes ts i v n =
            let k = plain_text q bytes h (all_parts (is_plain q) bytes ts (subst (λ us. list_all (is_plain q) us ≡ true) i a)).0 v in
            subst (λ o. S (Err (lexing.broken p bytes o))) k.shut (spoilt k.codes bytes (ts ++ zs) (e ∙ ap (λ us. us ++ zs) i ∙ append_assoc bytes ts zs) k.text k.inside (more_bytes ts zs n (next zs e)))

        closing : (zs : List ℕ) → body ≡ raw ++ zs → IsUtf8 raw → S (closing_at q p body (length raw) zs)
        closing [] e v = let k = plain_text q raw h a v in subst (λ o. S (Err (cut p body o))) k.shut (none_closes raw k.codes e k.text k.inside)
        closing (z ∷ zs) e v =
            cond_both (eqb z 92) _ _ S (λ _. escapes (body_split q body))
            (λ s. let k = plain_text q raw h a v in
            let text : body ≡ raw ++ q ∷ zs = e ∙ ap (λ z. raw ++ z ∷ zs) (not_slash q z (stops (is_plain q) body raw z zs e a n) s) in
            subst (λ w. S (Ok (token.plain w, behind p body (length raw)))) (sym (front raw (z ∷ zs) e))
            (subst (λ o. S (cond (is_whole o) (Ok (token.plain raw, behind p body (length raw))) (Err (BadToken line)))) k.shut
            (closed k.codes raw zs (token.plain raw) text (ap (body_len q) text ∙ body_of q (quote_slash q h) raw zs (plainly q raw a).1) k.text k.inside (sym k.text.1 ∙ ap encode_utf8_all (sym k.means)))))

-- just these bytes are taken, as t
abbrev pub Exactly : List ℕ → Token → List ℕ → Type 0
Exactly bytes t rest = (at line : ℕ) → (u : Token) × (q : Place) × (token_at (on (bytes ++ rest) at line) ≡ Ok (u, q)) × (q.rest ≡ rest) × (meant u ≡ t)

-- a token between quotes
pub record Quoting (q : ℕ) (make : Body → Token) : Type 0 where
  quote : IsQuote q
  first : (bs : List ℕ) (at line : ℕ) → token_at (on (q ∷ bs) at line) ≡ (quoted_at q (on (q ∷ bs) at line) >>= λ y. Ok (make y.0, y.1))
  means : (b : Body) → meant (make b) ≡ make (token.plain (spelled b))
  spells : (cs vs bytes : List ℕ) → Quoted q cs vs → InUtf8 cs bytes → Spelling (q ∷ (bytes ++ q ∷ [])) (make (token.plain (encode_utf8_all vs)))
  follows : (b : Body) (rest : List ℕ) → MayFollow (make b) rest

spelled_quote : (q : ℕ) (make : Body → Token) → Quoting q make → (body : List ℕ) (at line : ℕ) (y : Body × Place) → quoted_at q (on (q ∷ body) at line) ≡ Ok y → Spelled (on (q ∷ body) at line) (make y.0, y.1)
spelled_quote q make k body at line y g = by (scan q body at line k.quote) g
  where
    made : (cs vs raw zs : List ℕ) → body ≡ raw ++ q ∷ zs → InUtf8 cs raw → Quoted q cs vs → spelled y.0 ≡ encode_utf8_all (run named.nothing cs)
        → y.1 ≡ behind (on (q ∷ body) at line) body (length raw) → Spelled (on (q ∷ body) at line) (make y.0, y.1)
    made cs vs raw zs e u r s w =
        let is : meant (make y.0) ≡ make (token.plain (encode_utf8_all vs)) = k.means y.0 ∙ ap (λ w. make (token.plain w)) (s ∙ ap encode_utf8_all (means r).0) in
        let rest : y.1.rest ≡ zs = ap (λ (p : Place). p.rest) w ∙ ap (λ us. drop (length raw + 2) (q ∷ us)) e ∙ behind_rest q raw zs in
        let fed : feeds (take (length raw) body) ≡ lines (q ∷ (raw ++ q ∷ [])) =
        ap feeds (ap (λ us. take (length raw) us) e ∙ take_at raw (q ∷ zs) (length raw) refl) ∙ sym (feeds_lines raw) ∙ sym (all_lines q raw k.quote) in (
          q ∷ (raw ++ q ∷ []),
          (
            ap (λ us. q ∷ us) e ∙ sym (grouped q raw zs) ∙ ap (λ us. (q ∷ (raw ++ q ∷ [])) ++ us) (sym rest),
            subst (λ t. Spelling (q ∷ (raw ++ q ∷ [])) t) (sym is) (k.spells cs vs raw r u),
            subst (λ t. MayFollow t y.1.rest) (sym is) (k.follows (token.plain (encode_utf8_all vs)) y.1.rest),
          ),
          (ap (λ (p : Place). p.at) w ∙ ap (λ n. at + n) (omega (arith, length-append raw (q ∷ []))), ap (λ (p : Place). p.line) w ∙ ap (λ n. line + n) fed),
        )

    by : {r : Parsed} → Scan q body at line r → r ≡ Ok y → Spelled (on (q ∷ body) at line) (make y.0, y.1)
    by (closed cs raw zs b e n u f s) g =
        cond_both (whole named.nothing cs) _ _ (λ (r : Parsed). r ≡ Ok y → Spelled (on (q ∷ body) at line) (make y.0, y.1))
        (λ w g. let r = all_quoted q cs k.quote (sym (open_text q cs raw k.quote u) ∙ f) w in
        let is : y ≡ (b, behind (on (q ∷ body) at line) body (length raw)) = sym (ok_same (b, behind (on (q ∷ body) at line) body (length raw)) y g) in
        made cs r.0 raw zs e u r.1 (ap (λ (y : Body × Place). spelled y.0) is ∙ s) (ap (λ (y : Body × Place). y.1) is)) (λ _ g. cc) g
    by (unclosed cs u f) g = cc
    by (spoilt cs bytes rest e u f n) g = cc

a_quote : (q : ℕ) (make : Body → Token) → Quoting q make → (b : ℕ) (bs : List ℕ) (at line : ℕ) (x : Token × Place) → eqb b q ≡ true
    → (quoted_at q (on (b ∷ bs) at line) >>= λ y. Ok (make y.0, y.1)) ≡ Ok x → Spelled (on (b ∷ bs) at line) x
a_quote q make k b bs at line x e h =
    subst (λ b. (quoted_at q (on (b ∷ bs) at line) >>= λ y. Ok (make y.0, y.1)) ≡ Ok x → Spelled (on (b ∷ bs) at line) x) (sym (eqb-true b q e))
    (λ h. let y = bind_ok (quoted_at q (on (q ∷ bs) at line)) (λ y. Ok (make y.0, y.1)) x h in
    subst (Spelled (on (q ∷ bs) at line)) (ok_same (make y.0.0, y.0.1) x y.2) (spelled_quote q make k bs at line y.0 y.1)) h

pub atom_quoting : Quoting 39 token.atom
atom_quoting = record { quote = inl refl; first = λ bs at line. refl; means = λ b. refl; spells = λ cs vs bytes r u. quoted_atom r u; follows = λ b rest e. cc }

pub text_quoting : Quoting 34 token.text
text_quoting = record { quote = inr refl; first = λ bs at line. refl; means = λ b. refl; spells = λ cs vs bytes r u. string r u; follows = λ b rest e. cc }

pub a_quoted_atom : (b : ℕ) (bs : List ℕ) (at line : ℕ) (x : Token × Place) → eqb b 39 ≡ true → (quoted_at 39 (on (b ∷ bs) at line) >>= λ y. Ok (token.atom y.0, y.1)) ≡ Ok x → Spelled (on (b ∷ bs) at line) x
a_quoted_atom = a_quote 39 token.atom atom_quoting

pub a_string : (b : ℕ) (bs : List ℕ) (at line : ℕ) (x : Token × Place) → eqb b 34 ≡ true → (quoted_at 34 (on (b ∷ bs) at line) >>= λ y. Ok (token.text y.0, y.1)) ≡ Ok x → Spelled (on (b ∷ bs) at line) x
a_string = a_quote 34 token.text text_quoting

-- what is spelled between quotes is taken
abbrev pub Gives : ℕ → List ℕ → List ℕ → ℕ → ℕ → List ℕ → Type 0
Gives q bytes rest at line vs =
    (b : Body) × (quoted_at q (on (q ∷ (bytes ++ q ∷ rest)) at line) ≡ Ok (b, behind (on (q ∷ (bytes ++ q ∷ rest)) at line) (bytes ++ q ∷ rest) (length bytes))) × (spelled b ≡ encode_utf8_all vs)

pub gives : (q : ℕ) (cs vs bytes rest : List ℕ) (at line : ℕ) → IsQuote q → free q bytes ≡ true → Quoted q cs vs → InUtf8 cs bytes → Gives q bytes rest at line vs
gives q cs vs bytes rest at line h f r u = by (scan q B at line h) refl
  where
    B : List ℕ
    B = bytes ++ q ∷ rest

    p : Place
    p = on (q ∷ B) at line

    size : body_len q B ≡ length bytes
    size = body_of q (quote_slash q h) bytes rest f

    by : {x : Parsed} → Scan q B at line x → quoted_at q p ≡ x → Gives q bytes rest at line vs
    by (closed ds raw zs b e n v g s) i =
        let text : raw ≡ bytes = sym (take_at raw (q ∷ zs) (length bytes) (sym n ∙ size)) ∙ ap (λ us. take (length bytes) us) (sym e) ∙ take_at bytes (q ∷ rest) (length bytes) refl in
        let codes : ds ≡ cs = codes_same ds cs raw bytes v u text in (
          b,
          i ∙ cond-true (whole named.nothing ds) (Ok (b, behind p B (length raw))) (Err (BadToken line)) (ap (λ us. whole named.nothing us) codes ∙ (means r).1) ∙ ap (λ us. Ok (b, behind p B (length us))) text,
          s ∙ ap (λ us. encode_utf8_all (run named.nothing us)) codes ∙ ap encode_utf8_all (means r).0,
        )
    by (unclosed ds v g) i = absurd (omega (arith, size, (spans q h B []).0 g, ap (body_len q) (append-nil B), length-append bytes (q ∷ rest)))
    by (spoilt ds front zs e v g n) i =
        let x = seam front zs bytes (q ∷ rest) (sym e) (omega (arith, size, ap (body_len q) e, (spans q h front zs).0 g)) in
        absurd (no_mark front x.0 q rest (ds, (v.0, v.1)) (subst IsUtf8 x.1 (cs, (u.0, u.1))) (quote_low q h) (subst NoCharacter x.2 n))

pub quote_exact : (q : ℕ) (make : Body → Token) → Quoting q make → (cs vs bytes rest : List ℕ) → Quoted q cs vs → InUtf8 cs bytes → Exactly (q ∷ (bytes ++ q ∷ [])) (make (token.plain (encode_utf8_all vs))) rest
quote_exact q make k cs vs bytes rest r u at line =
    let B : List ℕ = bytes ++ q ∷ rest in
    let g = gives q cs vs bytes rest at line k.quote (ap (free q) (sym u.1) ∙ free_text q cs (quote_low q k.quote) ∙ quoted_free r k.quote) r u in
    subst (λ text. (w : Token) × (p : Place) × (token_at (on text at line) ≡ Ok (w, p)) × (p.rest ≡ rest) × (meant w ≡ make (token.plain (encode_utf8_all vs)))) (sym (grouped q bytes rest))
    (make g.0, behind (on (q ∷ B) at line) B (length bytes), k.first B at line ∙ ap (λ r. r >>= λ y. Ok (make y.0, y.1)) g.1, behind_rest q bytes rest, k.means g.0 ∙ ap (λ w. make (token.plain w)) g.2)

quote_found : (q : ℕ) (make : Body → Token) → Quoting q make → (cs vs bytes rest : List ℕ) (at line : ℕ) → Quoted q cs vs → InUtf8 cs bytes
    → Found (on ((q ∷ (bytes ++ q ∷ [])) ++ rest) at line) (make (token.plain (encode_utf8_all vs))) rest
quote_found q make k cs vs bytes rest at line r u =
    let x = quote_exact q make k cs vs bytes rest r u at line in
    found_exact (on ((q ∷ (bytes ++ q ∷ [])) ++ rest) at line) x.1 x.0 (make (token.plain (encode_utf8_all vs))) rest x.2 x.3 x.4

pub quoted_found : (cs vs bytes rest : List ℕ) (at line : ℕ) → Quoted 39 cs vs → InUtf8 cs bytes → Found (on ((39 ∷ (bytes ++ 39 ∷ [])) ++ rest) at line) (token.atom (token.plain (encode_utf8_all vs))) rest
quoted_found = quote_found 39 token.atom atom_quoting

pub string_found : (cs vs bytes rest : List ℕ) (at line : ℕ) → Quoted 34 cs vs → InUtf8 cs bytes → Found (on ((34 ∷ (bytes ++ 34 ∷ [])) ++ rest) at line) (token.text (token.plain (encode_utf8_all vs))) rest
string_found = quote_found 34 token.text text_quoting
