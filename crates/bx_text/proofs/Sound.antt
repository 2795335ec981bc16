-- What is read is what the grammar spells.
use Rattle.std.proofs.Common.{arith, ◌≡◌, ℕ, zero, suc, ◌+◌, Bool, true, List, [], ◌∷◌, ◌++◌, length, Option, Some, None, Result, Ok, refl, sym, ap, subst}
use Rattle.bx_terms.specs.Outcomes.{◌>>=◌}
use Rattle.bx_terms.specs.declared.faults.Fault.{Fault}
use Rattle.bx_text.specs.declared.tokens.Mark.TheVariants.{CloseTuple, CloseList, CloseBinary, Comma, Bar, Arrow, Colon, Slash, Stop, Fun}
use Rattle.bx_text.specs.declared.node.Sort.{Sort}
use Rattle.bx_text.specs.declared.node.Sort.TheVariants as sort
use Rattle.std.proofs.lemmas.Bool.{eqb-true, cond_both}
use Rattle.std.proofs.lemmas.Slice.Eq.{bytes_eq-Decides}
use Rattle.std.specs.Str.Lossy.{utf8_valid_len}
use Rattle.std.specs.Prelude.{◌==◌, ℤ, codes}
use Rattle.bx_text.specs.Place.{Place}
use Rattle.bx_text.specs.Token as token
use Rattle.bx_text.specs.Token.{Body, spelled, Token, Lexeme}
use Rattle.bx_text.specs.Lexing.{lexeme_at}
use Rattle.bx_text.specs.Tree.{Tree, list, other, nil, chain}
use Rattle.bx_text.specs.Terms.{Follow, next, end, span, closed, closes_tuple, closes_list, is_comma, is_bar, is_stop, closes_binary, is_arrow, is_colon, is_slash, is_atom, is_integer, is_utf8_name, taken, kept_at, want, passed, value_at, pair_at, go_through, parts, parts_at, map_on, map_at, content_by, sized, encoded, behind_token, segment_at, binary_on, binary_at, fun_at, letters, letters_of, texts, texts_on, strings_at, string_at, follow_at, element_at, go_on, many, elements_at, tuple_on, tuple_at, tail_of, tail_at, end_at, rest_on, rest_at, list_at, bracket_by, begin_by, group_at, term_at}
use Rattle.bx_text.specs.Rules as rules
use Rattle.bx_text.specs.Grammar.{Next, NoString, Strings, no_string, a_string, Spells, an_integer, an_atom, strings, empty_tuple, a_tuple, empty_list, a_list, a_list_with_tail, a_float, an_empty_map, a_map, an_empty_binary, a_binary, a_fun, Row, one, more, one_pair, more_pairs, Kept, a_number, a_text, no_size, a_size, no_encoding, in_utf8, a_segment, one_segment, more_segments}
use Rattle.bx_text.proofs.Outcomes.{Yields, yes, no, reads, also, bound, read, assoc}
use Rattle.bx_text.proofs.Quoting.{TextIs, text_so}
use Rattle.bx_text.proofs.Texts.{valid_is}

-- which token passes a test
pub comma_is : (k : Token) → is_comma k ≡ true → k ≡ token.mark Comma
comma_is k e = grind arith

bar_is : (k : Token) → is_bar k ≡ true → k ≡ token.mark Bar
bar_is k e = grind arith

pub tuple_close_is : (k : Token) → closes_tuple k ≡ true → k ≡ token.mark CloseTuple
tuple_close_is k e = grind arith

list_close_is : (k : Token) → closes_list k ≡ true → k ≡ token.mark CloseList
list_close_is k e = grind arith

binary_close_is : (k : Token) → closes_binary k ≡ true → k ≡ token.mark CloseBinary
binary_close_is k e = grind arith

arrow_is : (k : Token) → is_arrow k ≡ true → k ≡ token.mark Arrow
arrow_is k e = grind arith

colon_is : (k : Token) → is_colon k ≡ true → k ≡ token.mark Colon
colon_is k e = grind arith

slash_is : (k : Token) → is_slash k ≡ true → k ≡ token.mark Slash
slash_is k e = grind arith

pub stop_is : (k : Token) → is_stop k ≡ true → k ≡ token.mark Stop
stop_is k e = grind arith

atom_is : (k : Token) → is_atom k ≡ true → (b : Body) × (k ≡ token.atom b)
atom_is (token.atom b) e = (b, refl)
atom_is k e = cc

utf8_is : (k : Token) → is_utf8_name k ≡ true → (b : Body) × (k ≡ token.atom b) × (spelled b ≡ codes "utf8")
utf8_is (token.atom b) e = (b, refl, (bytes_eq-Decides (spelled b) (codes "utf8")).0 e)
utf8_is k e = cc

integer_is : (k : Token) → is_integer k ≡ true → (n : ℤ) × (k ≡ token.integer n)
integer_is (token.integer n) e = (n, refl)
integer_is k e = cc

-- behind a token that passes a test
pub shut : {B : Type 0} {Q : B → Type 0} (test : Token → Bool) (m : Lexeme) (f : Place → Result B Fault) → (test m.token ≡ true → Yields Q (f m.after)) → Yields Q (closed test m >>= f)
shut {Q = Q} test m f g = cond_both (test m.token) (Ok m.after) _ (λ r. Yields Q (r >>= f)) g (λ _. no)

pub wanted : {B : Type 0} {Q : B → Type 0} (test : Token → Bool) (p : Place) (f : Place → Result B Fault) → ((m : Lexeme) → lexeme_at p ≡ Ok m → test m.token ≡ true → Yields Q (f m.after)) → Yields Q (want test p >>= f)
wanted test p f g = assoc (lexeme_at p) (closed test) f (read (lexeme_at p) _ (λ m n. shut test m f (g m n)))

-- terms, which the grammar spells
abbrev pub Said : ℕ → Lexeme → Tree × Place → Type 0
Said d l x = Spells d l x.0 x.1

abbrev pub IsSound : ℕ → Type 0
IsSound d = (l : Lexeme) → Yields (Said d l) (term_at d l)

kept_so : {d : ℕ} (k : Sort) (l : Lexeme) (q : Place) → (Kept l q → Spells d l (other (span l q) k (taken l q)) q) → Yields (Said d l) (kept_at k l q)
kept_so {d} k l q f =
    cond_both (utf8_valid_len (taken l q) == length (taken l q)) _ _ (Yields (Said d l)) (λ t. yes (f (valid_is (taken l q) (eqb-true (utf8_valid_len (taken l q)) (length (taken l q)) t)))) (λ _. no)

-- strings
texts_so : (k : ℕ) (p : Place) → Yields (λ (x : List Tree × Place). Strings p x.0 x.1) (texts k p)
texts_so zero p = no
texts_so (suc k) p = bound _ (text_so p) (by (texts_so k))
  where
    by : ((p : Place) → Yields (λ (x : List Tree × Place). Strings p x.0 x.1) (texts k p))
        → (o : Option Lexeme) → TextIs p o → Yields (λ (x : List Tree × Place). Strings p x.0 x.1) (texts_on (texts k) p o)
    by again None s = yes (no_string s)
    by again (Some l) (n, (w, t)) = bound _ (again l.after) (λ x h. yes (subst (λ ts. Strings p (ts ++ x.0) x.1) (sym (ap (letters_of l) t)) (a_string n t h)))

strings_so : (l : Lexeme) (w : Body) → l.token ≡ token.text w → Yields (λ (x : List Tree × Place). (ts : List Tree) × Strings l.after ts x.1 × (letters (span l l.after) (spelled w) ++ ts ≡ x.0)) (strings_at l)
strings_so l w t = bound _ (texts_so (length l.after.rest + 1) l.after) (λ x h. yes (x.0, h, ap (λ k. letters_of l k ++ x.0) (sym t)))

string_so : (d : ℕ) (l : Lexeme) (w : Body) → l.token ≡ token.text w → Yields (Said (suc d) l) (string_at l)
string_so d l w t = bound _ (strings_so l w t) (λ x (ts, h, e). yes (subst (λ us. Spells (suc d) l (list (span l x.1) (chain us nil)) x.1) e (strings t h)))

-- what follows an element
abbrev pub GoesOn : Lexeme → Follow → Type 0
GoesOn m (next n) = (m.token ≡ token.mark Comma) × (lexeme_at m.after ≡ Ok n)
GoesOn m (end k) = m ≡ k

abbrev pub Goes : Place → Follow → Type 0
Goes r f = (m : Lexeme) × (lexeme_at r ≡ Ok m) × GoesOn m f

behind_so : (m : Lexeme) → Yields (GoesOn m) (behind_token m)
behind_so m = cond_both (is_comma m.token) _ _ (Yields (GoesOn m)) (λ c. read (lexeme_at m.after) (λ n. Ok (next n)) (λ n a. yes (comma_is m.token c, a))) (λ _. yes refl)

pub follow_so : (r : Place) → Yields (Goes r) (follow_at r)
follow_so r = read (lexeme_at r) behind_token (λ m e. also (λ f g. (m, e, g)) (behind_so m))

-- elements
element_so : (d : ℕ) → IsSound d → (l : Lexeme) → Yields (λ (y : Tree × Follow). (r : Place) × Spells d l y.0 r × Goes r y.1) (element_at (term_at d) l)
element_so d sound l = bound _ (sound l) (λ x s. bound _ (follow_so x.1) (λ f g. yes (x.1, s, g)))

rows_so : (d : ℕ) → IsSound d → (k : ℕ) (l : Lexeme) → Yields (λ (x : List Tree × Lexeme). Row d l x.0 x.1) (many (term_at d) k l)
rows_so d sound zero l = no
rows_so d sound (suc k) l = bound _ (element_so d sound l) (λ y x. on (rows_so d sound k) y.0 y.1 x)
  where
    on : ((l : Lexeme) → Yields (λ (x : List Tree × Lexeme). Row d l x.0 x.1) (many (term_at d) k l))
        → (t : Tree) (f : Follow) → (r : Place) × Spells d l t r × Goes r f → Yields (λ (x : List Tree × Lexeme). Row d l x.0 x.1) (go_on (many (term_at d) k) t f)
    on rows t (next n) (r, s, (m, a, (c, b))) = bound _ (rows n) (λ x w. yes (more s a c b w))
    on rows t (end n) (r, s, (m, a, e)) = yes (subst (Row d l (t ∷ [])) e (one s a))

all_so : (d : ℕ) → IsSound d → (l : Lexeme) → Yields (λ (x : List Tree × Lexeme). Row d l x.0 x.1) (elements_at (term_at d) l)
all_so d sound l = rows_so d sound (length l.after.rest + 1) l

-- tuples
tuple_so : (d : ℕ) → IsSound d → (l : Lexeme) → l.token ≡ token.open_tuple → Yields (Said (suc d) l) (tuple_at (term_at d) l)
tuple_so d sound l t =
    read (lexeme_at l.after) (tuple_on (term_at d) l) (λ m n. cond_both (closes_tuple m.token) _ _ (Yields (Said (suc d) l)) (λ c. yes (empty_tuple t n (tuple_close_is m.token c)))
    (λ _. bound _ (all_so d sound m) (λ x r. shut closes_tuple x.1 _ (λ c. yes (a_tuple t n r (tuple_close_is x.1.token c))))))

-- lists: what follows the opening mark, for the list that it makes
abbrev IsRest : ℕ → Lexeme → Tree × Place → Type 0
IsRest d l y = Spells (suc d) l (list (span l y.1) y.0) y.1

tail_so : (d : ℕ) → IsSound d → (p : Place) → Yields (λ (y : Tree × Place). (k : Lexeme) × (u : Tree) × (lexeme_at p ≡ Ok k) × Spells d k u y.1 × (tail_of u ≡ y.0)) (lexeme_at p >>= tail_at (term_at d))
tail_so d sound p = read (lexeme_at p) (tail_at (term_at d)) (λ k a. bound _ (sound k) (λ u s. yes (k, u.0, a, s, refl)))

end_so : (d : ℕ) → IsSound d → (l first m : Lexeme) (ts : List Tree) → l.token ≡ token.open_list → lexeme_at l.after ≡ Ok first → Row d first ts m
    → Yields (λ (y : Tree × Place). IsRest d l (chain ts y.0, y.1)) (end_at (term_at d) m)
end_so d sound l first m ts t n row =
    cond_both (is_bar m.token) _ _ (Yields (λ (y : Tree × Place). IsRest d l (chain ts y.0, y.1)))
    (λ b. bound _ (tail_so d sound m.after) (λ y (k, u, a, s, e). wanted closes_list y.1 _
    (λ q z c. yes (subst (λ v. IsRest d l (chain ts v, q.after)) e (a_list_with_tail t n row (bar_is m.token b) a s z (list_close_is q.token c))))))
    (λ _. shut closes_list m _ (λ c. yes (a_list t n row (list_close_is m.token c))))

list_so : (d : ℕ) → IsSound d → (l : Lexeme) → l.token ≡ token.open_list → Yields (Said (suc d) l) (list_at (term_at d) l)
list_so d sound l t = bound _ rest (λ x h. yes h)
  where
    rest : Yields (IsRest d l) (rest_at (term_at d) l.after)
    rest =
        read (lexeme_at l.after) (rest_on (term_at d)) (λ m n. cond_both (closes_list m.token) _ _ (Yields (IsRest d l)) (λ c. yes (empty_list t n (list_close_is m.token c)))
        (λ _. bound _ (all_so d sound m) (λ x r. bound _ (end_so d sound l m x.1 x.0 t n r) (λ z h. yes h))))

-- maps
abbrev pub ValueAt : ℕ → Place → Place → Type 0
ValueAt d p q = (v : Lexeme) × (u : Tree) × (lexeme_at p ≡ Ok v) × Spells d v u q

pub value_so : (d : ℕ) → IsSound d → (p : Place) → Yields (ValueAt d p) (value_at (term_at d) p)
value_so d sound p = assoc (lexeme_at p) (term_at d) _ (read (lexeme_at p) _ (λ v a. bound _ (sound v) (λ x s. yes (v, x.0, a, s))))

abbrev PairOf : ℕ → Lexeme → Follow → Type 0
PairOf d l f = (t : Tree) × (r : Place) × (arrow : Lexeme) × (q : Place) × Spells d l t r × (lexeme_at r ≡ Ok arrow) × (arrow.token ≡ token.mark Arrow) × ValueAt d arrow.after q × Goes q f

pair_so : (d : ℕ) → IsSound d → (l : Lexeme) → Yields (PairOf d l) (pair_at (term_at d) l)
pair_so d sound l =
    assoc (passed (term_at d l) >>= want is_arrow) (value_at (term_at d)) follow_at (assoc (passed (term_at d l)) (want is_arrow) _ (assoc (term_at d l) (λ x. Ok x.1) _
    (bound _ (sound l) (λ x s. wanted is_arrow x.1 _ (λ arrow a c. bound _ (value_so d sound arrow.after) (λ q v. also (λ f g. (x.0, x.1, arrow, q, s, a, arrow_is arrow.token c, v, g)) (follow_so q)))))))

pairs_so : (d : ℕ) → IsSound d → (k : ℕ) (l : Lexeme) → Yields (rules.Pairs Next NoString d l) (parts (pair_at (term_at d)) k l)
pairs_so d sound zero l = no
pairs_so d sound (suc k) l = bound _ (pair_so d sound l) (on (pairs_so d sound k))
  where
    on : ((l : Lexeme) → Yields (rules.Pairs Next NoString d l) (parts (pair_at (term_at d)) k l)) → (f : Follow) → PairOf d l f → Yields (rules.Pairs Next NoString d l) (go_through (parts (pair_at (term_at d)) k) f)
    on rest (next n) (t, r, arrow, q, s, a, c, (v, u, b, w), (m, x, (y, z))) = also (λ e p. more_pairs s a c b w x y z p) (rest n)
    on rest (end n) (t, r, arrow, q, s, a, c, (v, u, b, w), (m, x, e)) = yes (subst (rules.Pairs Next NoString d l) e (one_pair s a c b w x))

map_so : (d : ℕ) → IsSound d → (l : Lexeme) → l.token ≡ token.open_map → Yields (Said (suc d) l) (map_at (term_at d) l)
map_so d sound l t =
    read (lexeme_at l.after) (map_on (term_at d) l) (λ m n. cond_both (closes_tuple m.token) _ _ (Yields (Said (suc d) l)) (λ c. kept_so sort.Map l m.after (λ w. an_empty_map t n (tuple_close_is m.token c) w))
    (λ _. assoc (parts_at (pair_at (term_at d)) m) (closed closes_tuple) (kept_at sort.Map l) (bound _ (pairs_so d sound (length m.after.rest + 1) m)
    (λ e r. shut closes_tuple e _ (λ c. kept_so sort.Map l e.after (λ w. a_map t n r (tuple_close_is e.token c) w))))))

-- binaries
content_so : (d : ℕ) (l : Lexeme) (k : Token) → l.token ≡ k → Yields (rules.Content Next NoString d l) (content_by d l k)
content_so d l (token.integer n) t = yes (a_number t)
content_so (suc d) l (token.text w) t = bound _ (strings_so l w t) (λ x h. yes (a_text t h.1))
content_so d l s t = no

sized_so : (m : Lexeme) → Yields (rules.Size Next NoString m) (sized m)
sized_so m =
    cond_both (is_colon m.token) _ _ (Yields (rules.Size Next NoString m)) (λ c. wanted is_integer m.after lexeme_at (λ n a i. also (λ k b. a_size (colon_is m.token c) a (integer_is n.token i).1 b) (reads (lexeme_at n.after)))) (λ c. yes (no_size c))

encoded_so : (m : Lexeme) → Yields (rules.Encoding Next NoString m) (encoded m)
encoded_so m =
    cond_both (is_slash m.token) _ _ (Yields (rules.Encoding Next NoString m))
    (λ c. wanted is_utf8_name m.after lexeme_at (λ n a i. let u = utf8_is n.token i in also (λ k b. in_utf8 (slash_is m.token c) a u.1 u.2 b) (reads (lexeme_at n.after)))) (λ c. yes (no_encoding c))

segment_so : (d : ℕ) (l : Lexeme) → Yields (λ f. (e : Lexeme) × rules.Segment Next NoString d l e × GoesOn e f) (segment_at d l)
segment_so d l =
    let r = content_by d l l.token in
    assoc (r >>= lexeme_at >>= sized) encoded behind_token (assoc (r >>= lexeme_at) sized _ (assoc r lexeme_at _ (bound _ (content_so d l l.token refl) (λ q c. read (lexeme_at q) _ (λ m a. bound _ (sized_so m)
    (λ n s. bound _ (encoded_so n) (λ e o. also (λ f g. (e, a_segment c a s o, g)) (behind_so e))))))))

segments_so : (d k : ℕ) (l : Lexeme) → Yields (rules.Segments Next NoString d l) (parts (segment_at d) k l)
segments_so d zero l = no
segments_so d (suc k) l = bound _ (segment_so d l) (on (segments_so d k))
  where
    on : ((l : Lexeme) → Yields (rules.Segments Next NoString d l) (parts (segment_at d) k l)) → (f : Follow) → (e : Lexeme) × rules.Segment Next NoString d l e × GoesOn e f → Yields (rules.Segments Next NoString d l) (go_through (parts (segment_at d) k) f)
    on rest (next n) (e, s, (c, a)) = also (λ m r. more_segments s c a r) (rest n)
    on rest (end n) (e, s, is) = yes (subst (rules.Segments Next NoString d l) is (one_segment s))

binary_so : (d : ℕ) (l : Lexeme) → l.token ≡ token.open_binary → Yields (Said (suc d) l) (binary_at d l)
binary_so d l t =
    read (lexeme_at l.after) (binary_on d l) (λ m n. cond_both (closes_binary m.token) _ _ (Yields (Said (suc d) l)) (λ c. kept_so sort.Binary l m.after (λ w. an_empty_binary t n (binary_close_is m.token c) w))
    (λ _. assoc (parts_at (segment_at d) m) (closed closes_binary) (kept_at sort.Binary l) (bound _ (segments_so d (length m.after.rest + 1) m)
    (λ e r. shut closes_binary e _ (λ c. kept_so sort.Binary l e.after (λ w. a_binary t n r (binary_close_is e.token c) w))))))

-- external funs
fun_so : (d : ℕ) (l : Lexeme) → l.token ≡ token.mark Fun → Yields (Said d l) (fun_at l)
fun_so d l t =
    let r = want is_atom l.after in
    assoc (r >>= want is_colon >>= want is_atom >>= want is_slash) (want is_integer) (kept_at sort.Fun l) (assoc (r >>= want is_colon >>= want is_atom) (want is_slash) _ (assoc (r >>= want is_colon) (want is_atom) _ (assoc r (want is_colon) _
    (wanted is_atom l.after _ (λ f a x. wanted is_colon f.after _ (λ g b y. wanted is_atom g.after _ (λ h c z. wanted is_slash h.after _ (λ s e o. wanted is_integer s.after _ (λ n j i. kept_so sort.Fun l n.after
    (λ w. a_fun t a (atom_is f.token x).1 b (colon_is g.token y) c (atom_is h.token z).1 e (slash_is s.token o) j (integer_is n.token i).1 w))))))))))

-- terms
bracket_so : (d : ℕ) (l : Lexeme) (k : Token) → IsSound d → l.token ≡ k → Yields (Said (suc d) l) (bracket_by d (term_at d) l k)
bracket_so d l (token.text w) sound t = string_so d l w t
bracket_so d l token.open_tuple sound t = tuple_so d sound l t
bracket_so d l token.open_list sound t = list_so d sound l t
bracket_so d l token.open_map sound t = map_so d sound l t
bracket_so d l token.open_binary sound t = binary_so d l t
bracket_so d l s sound t = no

begun : (d : ℕ) (l : Lexeme) (k : Token) → ((l : Lexeme) → Yields (Said d l) (group_at d l)) → l.token ≡ k → Yields (Said d l) (begin_by (group_at d) l k)
begun d l (token.integer n) group t = yes (an_integer t)
begun d l token.float group t = kept_so sort.Float l l.after (λ w. a_float t w)
begun d l (token.atom w) group t = yes (an_atom t)
begun d l (token.mark Fun) group t = fun_so d l t
begun d l (token.mark m) group t = no
begun d l s group t = group l

groups : (d : ℕ) (l : Lexeme) → Yields (Said d l) (group_at d l)
groups zero l = no
groups (suc d) l = bracket_so d l l.token (λ l. begun d l l.token (groups d) refl) refl

pub terms_so : (d : ℕ) → IsSound d
terms_so d l = begun d l l.token (groups d) refl

pub sound : (d : ℕ) (l : Lexeme) (x : Tree × Place) → term_at d l ≡ Ok x → Spells d l x.0 x.1
sound d l x h = (terms_so d l).each x h
