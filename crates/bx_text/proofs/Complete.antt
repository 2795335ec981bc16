-- What the grammar spells is read.
use Rattle.std.proofs.Common.{◌≡◌, ℕ, zero, suc, ◌+◌, ◌≤◌, ◌<◌, true, false, List, length, None, Ok, refl, ap, arith}
use Rattle.bx_text.specs.declared.node.Sort.{Sort}
use Rattle.bx_text.specs.declared.node.Sort.TheVariants as sort
use Rattle.std.proofs.lemmas.Bool.Decides.{nat_tests}
use Rattle.std.proofs.lemmas.Slice.Eq.{bytes_eq-Decides}
use Rattle.std.proofs.lemmas.Str.{utf8_valid_len-IsUtf8}
use Rattle.std.specs.Str.Lossy.{utf8_valid_len}
use Rattle.std.specs.Prelude.{◌==◌, codes}
use Rattle.bx_text.specs.Place.{Place}
use Rattle.bx_text.specs.Token.{Lexeme}
use Rattle.bx_text.specs.Tree.{Tree, other}
use Rattle.bx_text.specs.Terms.{span, closes_tuple, closes_list, closes_binary, is_comma, taken, kept_at, pair_at, behind_token, parts, content_by, sized, encoded, segment_at, text_next, texts, many, term_at}
use Rattle.bx_text.specs.Rules as rules
use Rattle.bx_text.specs.Grammar.{Next, NoString, Strings, no_string, a_string, Spells, an_integer, an_atom, strings, empty_tuple, a_tuple, empty_list, a_list, a_list_with_tail, a_float, an_empty_map, a_map, an_empty_binary, a_binary, a_fun, Row, one, more, one_pair, more_pairs, Kept, a_number, a_text, no_size, a_size, no_encoding, in_utf8, a_segment, one_segment, more_segments}
use Rattle.bx_text.proofs.Shorter.{next_shorter}
use Rattle.bx_text.proofs.Quoting.{text_some}

-- strings in a row
text_none : (p : Place) → NoString p → text_next p ≡ Ok None
text_none p (q, s, n) = rw (s, n) refl

texts_are : {p q : Place} {ts : List Tree} → Strings p ts q → (k : ℕ) → length p.rest < k → texts k p ≡ Ok (ts, q)
texts_are (no_string n) zero f = absurd (omega arith)
texts_are (a_string n t s) zero f = absurd (omega arith)
texts_are (no_string {p = p} n) (suc k) f = rw (text_none p n) refl
texts_are (a_string {p = p} {l = l} {b = w} n t s) (suc k) f = rw (text_some p l w n t, texts_are s k (omega (arith, next_shorter p l n)), t) refl

-- a term goes on
strings_le : {p q : Place} {ts : List Tree} → Strings p ts q → length q.rest ≤ length p.rest
strings_le (no_string n) = omega arith
strings_le (a_string {p = p} {l = l} n t s) = omega (arith, next_shorter p l n, strings_le s)

content_le : {d : ℕ} {l : Lexeme} {q : Place} → rules.Content Next NoString d l q → length q.rest ≤ length l.after.rest
content_le (a_number e) = omega arith
content_le (a_text e s) = strings_le s

size_le : {m n : Lexeme} → rules.Size Next NoString m n → length n.after.rest ≤ length m.after.rest
size_le (no_size e) = omega arith
size_le (a_size {m = m} {n = n} {k = k} e a i b) = omega (arith, next_shorter m.after n a, next_shorter n.after k b)

encoding_le : {m n : Lexeme} → rules.Encoding Next NoString m n → length n.after.rest ≤ length m.after.rest
encoding_le (no_encoding e) = omega arith
encoding_le (in_utf8 {m = m} {n = n} {k = k} e a i w b) = omega (arith, next_shorter m.after n a, next_shorter n.after k b)

segment_lt : {d : ℕ} {l m : Lexeme} → rules.Segment Next NoString d l m → length m.after.rest < length l.after.rest
segment_lt (a_segment {m = m} {q = q} c n s e) = omega (arith, content_le c, next_shorter q m n, size_le s, encoding_le e)

segments_lt : {d : ℕ} {l m : Lexeme} → rules.Segments Next NoString d l m → length m.after.rest < length l.after.rest
segments_lt (one_segment s) = segment_lt s
segments_lt (more_segments {comma = comma} {next = next} s c n r) = omega (arith, segment_lt s, next_shorter comma.after next n, segments_lt r)

mutual
  pub term_le : {d : ℕ} {l : Lexeme} {t : Tree} {q : Place} → Spells d l t q → length q.rest ≤ length l.after.rest
  term_le (strings e s) = strings_le s
  term_le (empty_tuple {l = l} {m = m} e n c) = omega (arith, next_shorter l.after m n)
  term_le (a_tuple {l = l} {first = first} {m = m} e n r c) = omega (arith, next_shorter l.after first n, row_lt r)
  term_le (empty_list {l = l} {m = m} e n c) = omega (arith, next_shorter l.after m n)
  term_le (a_list {l = l} {first = first} {m = m} e n r c) = omega (arith, next_shorter l.after first n, row_lt r)
  term_le (a_list_with_tail {l = l} {first = first} {bar = bar} {start = start} {m = m} {r = q} e n r b f s h c) =
      omega (arith, next_shorter l.after first n, row_lt r, next_shorter bar.after start f, term_le s, next_shorter q m h)
  term_le (an_empty_map {l = l} {m = m} e n c k) = omega (arith, next_shorter l.after m n)
  term_le (a_map {l = l} {first = first} e n r c k) = omega (arith, next_shorter l.after first n, pairs_lt r)
  term_le (an_empty_binary {l = l} {m = m} e n c k) = omega (arith, next_shorter l.after m n)
  term_le (a_binary {l = l} {first = first} e n r c k) = omega (arith, next_shorter l.after first n, segments_lt r)
  term_le (a_fun {l = l} {f = f} {colon = colon} {g = g} {slash = slash} {n = n} e a b c h i j k m o p q) =
      omega (arith, next_shorter l.after f a, next_shorter f.after colon c, next_shorter colon.after g i, next_shorter g.after slash k, next_shorter slash.after n o)
  term_le s = omega arith

  row_lt : {d : ℕ} {l m : Lexeme} {ts : List Tree} → Row d l ts m → length m.after.rest < length l.after.rest
  row_lt (one {m = m} {r = q} s n) = omega (arith, term_le s, next_shorter q m n)
  row_lt (more {comma = comma} {next = next} {r = q} s n c f r) = omega (arith, term_le s, next_shorter q comma n, next_shorter comma.after next f, row_lt r)

  pairs_lt : {d : ℕ} {l m : Lexeme} → rules.Pairs Next NoString d l m → length m.after.rest < length l.after.rest
  pairs_lt (one_pair {arrow = arrow} {v = v} {m = m} {r = r} {q = q} s a c b w n) = omega (arith, term_le s, next_shorter r arrow a, next_shorter arrow.after v b, term_le w, next_shorter q m n)
  pairs_lt (more_pairs {arrow = arrow} {v = v} {comma = comma} {next = next} {r = r} {q = q} s a c b w n e f p) =
      omega (arith, term_le s, next_shorter r arrow a, next_shorter arrow.after v b, term_le w, next_shorter q comma n, next_shorter comma.after next f, pairs_lt p)

-- the first token of a term closes nothing
opens : {d : ℕ} {l : Lexeme} {t : Tree} {q : Place} → Spells d l t q → (closes_tuple l.token ≡ false) × (closes_list l.token ≡ false)
opens s = (grind arith, grind arith)

row_opens : {d : ℕ} {l m : Lexeme} {ts : List Tree} → Row d l ts m → (closes_tuple l.token ≡ false) × (closes_list l.token ≡ false)
row_opens (one s n) = opens s
row_opens (more s n c f r) = opens s

pairs_open : {d : ℕ} {l m : Lexeme} → rules.Pairs Next NoString d l m → closes_tuple l.token ≡ false
pairs_open (one_pair s a c b w n) = (opens s).0
pairs_open (more_pairs s a c b w n e f p) = (opens s).0

content_opens : {d : ℕ} {l : Lexeme} {q : Place} → rules.Content Next NoString d l q → closes_binary l.token ≡ false
content_opens (a_number e) = ap closes_binary e
content_opens (a_text e s) = ap closes_binary e

segment_opens : {d : ℕ} {l m : Lexeme} → rules.Segment Next NoString d l m → closes_binary l.token ≡ false
segment_opens (a_segment c n s e) = content_opens c

segments_open : {d : ℕ} {l m : Lexeme} → rules.Segments Next NoString d l m → closes_binary l.token ≡ false
segments_open (one_segment s) = segment_opens s
segments_open (more_segments s c n r) = segment_opens s

-- a term that is kept
kept_is : (k : Sort) (l : Lexeme) (q : Place) → Kept l q → kept_at k l q ≡ Ok (other (span l q) k (taken l q), q)
kept_is k l q u =
    let e : utf8_valid_len (taken l q) ≡ length (taken l q) = utf8_valid_len-IsUtf8 (taken l q) u in
    let t : (utf8_valid_len (taken l q) == length (taken l q)) ≡ true = grind (arith, nat_tests) in rw t refl

-- a binary's segments
content_is : {d : ℕ} {l : Lexeme} {q : Place} → rules.Content Next NoString d l q → content_by d l l.token ≡ Ok q
content_is (a_number e) = rw e refl
content_is (a_text {l = l} e s) = rw (e, texts_are s (length l.after.rest + 1) (omega arith)) refl

size_is : {m n : Lexeme} → rules.Size Next NoString m n → sized m ≡ Ok n
size_is (no_size e) = rw e refl
size_is (a_size e a i b) = rw (e, a, i, b) refl

encoding_is : {m n : Lexeme} → rules.Encoding Next NoString m n → encoded m ≡ Ok n
encoding_is (no_encoding e) = rw e refl
encoding_is (in_utf8 e a i w b) = rw (e, a, i, (bytes_eq-Decides _ (codes "utf8")).1 w, b) refl

segment_is : {d : ℕ} {l m : Lexeme} → rules.Segment Next NoString d l m → segment_at d l ≡ behind_token m
segment_is (a_segment c a s o) = rw (content_is c, a, size_is s, encoding_is o) refl

segments_is : {d : ℕ} {l m : Lexeme} → rules.Segments Next NoString d l m → is_comma m.token ≡ false → (k : ℕ) → length l.after.rest < k → parts (segment_at d) k l ≡ Ok m
segments_is (one_segment s) c zero f = absurd (omega arith)
segments_is (more_segments s b a r) c zero f = absurd (omega arith)
segments_is (one_segment s) c (suc k) f = rw (segment_is s, c) refl
segments_is (more_segments {comma = comma} {next = n} s b a r) c (suc k) f = rw (segment_is s, b, a) (segments_is r c k (omega (arith, segment_lt s, next_shorter comma.after n a)))

mutual
  pub complete : {d : ℕ} {l : Lexeme} {t : Tree} {q : Place} → Spells d l t q → term_at d l ≡ Ok (t, q)
  complete (an_integer e) = rw e refl
  complete (an_atom e) = rw e refl
  complete (strings {l = l} e s) = rw (e, texts_are s (length l.after.rest + 1) (omega arith)) refl
  complete (empty_tuple e n c) = rw (e, n, c) refl
  complete (a_tuple {first = first} e n r c) = rw (e, n, (row_opens r).0, complete_row r (ap is_comma c) (length first.after.rest + 1) (omega arith), c) refl
  complete (empty_list e n c) = rw (e, n, c) refl
  complete (a_list {first = first} e n r c) = rw (e, n, (row_opens r).1, complete_row r (ap is_comma c) (length first.after.rest + 1) (omega arith), c) refl
  complete (a_list_with_tail {first = first} e n r b f s h c) = rw (e, n, (row_opens r).1, complete_row r (ap is_comma b) (length first.after.rest + 1) (omega arith), b, f, complete s, h, c) refl
  complete (a_float {l = l} e k) = rw e (kept_is sort.Float l l.after k)
  complete (an_empty_map {l = l} {m = m} e n c k) = rw (e, n, c) (kept_is sort.Map l m.after k)
  complete (a_map {l = l} {first = first} {m = m} e n r c k) = rw (e, n, pairs_open r, complete_pairs r (ap is_comma c) (length first.after.rest + 1) (omega arith), c) (kept_is sort.Map l m.after k)
  complete (an_empty_binary {l = l} {m = m} e n c k) = rw (e, n, c) (kept_is sort.Binary l m.after k)
  complete (a_binary {l = l} {first = first} {m = m} e n r c k) = rw (e, n, segments_open r, segments_is r (ap is_comma c) (length first.after.rest + 1) (omega arith), c) (kept_is sort.Binary l m.after k)
  complete (a_fun {l = l} {n = n} e a b c h i j k m o p q) = rw (e, a, b, c, h, i, j, k, m, o, p) (kept_is sort.Fun l n.after q)

  complete_row : {d : ℕ} {l m : Lexeme} {ts : List Tree} → Row d l ts m → is_comma m.token ≡ false → (k : ℕ) → length l.after.rest < k → many (term_at d) k l ≡ Ok (ts, m)
  complete_row (one s n) c zero f = absurd (omega arith)
  complete_row (more s n b h r) c zero f = absurd (omega arith)
  complete_row (one s n) c (suc k) f = rw (complete s, n, c) refl
  complete_row (more {comma = comma} {next = next} {r = q} s n b h r) c (suc k) f =
      rw (complete s, n, b, h, complete_row r c k (omega (arith, term_le s, next_shorter q comma n, next_shorter comma.after next h))) refl

  complete_pairs : {d : ℕ} {l m : Lexeme} → rules.Pairs Next NoString d l m → is_comma m.token ≡ false → (k : ℕ) → length l.after.rest < k → parts (pair_at (term_at d)) k l ≡ Ok m
  complete_pairs (one_pair s a c b w n) e zero f = absurd (omega arith)
  complete_pairs (more_pairs s a c b w n g h p) e zero f = absurd (omega arith)
  complete_pairs (one_pair s a c b w n) e (suc k) f = rw (complete s, a, c, b, complete w, n, e) refl
  complete_pairs (more_pairs {arrow = arrow} {v = v} {comma = comma} {next = next} {r = r} {q = q} s a c b w n g h p) e (suc k) f =
      rw (complete s, a, c, b, complete w, n, g, h)
      (complete_pairs p e k (omega (arith, term_le s, next_shorter r arrow a, next_shorter arrow.after v b, term_le w, next_shorter q comma n, next_shorter comma.after next h)))
