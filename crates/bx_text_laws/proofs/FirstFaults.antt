-- The readers of terms go on where a token may stand, and refuse the first one that may not.
use Rattle.std.proofs.Common.{◌≡◌, ℕ, zero, suc, ◌+◌, ◌<◌, true, false, cond, List, [], ◌∷◌, ◌++◌, length, Option, Some, None, Result, Ok, Err, refl, sym, ap, ◌∙◌, subst, arith, ◌⊎◌, inl, inr, ◌↔◌}
use Rattle.std.proofs.lemmas.Bool.{cond_both}
use Rattle.bx_terms.specs.Outcomes.{◌>>=◌}
use Rattle.bx_terms.specs.declared.faults.Fault.{Fault, TheVariants.BadTerm}
use Rattle.bx_text.specs.declared.node.Sort.{Sort}
use Rattle.bx_text.specs.declared.node.Sort.TheVariants as sort
use Rattle.bx_text.specs.Bytes.{begins}
use Rattle.bx_text.specs.Place.{Place}
use Rattle.bx_text.specs.Blank.{skip}
use Rattle.bx_text.specs.Named as named
use Rattle.bx_text.specs.Token as token
use Rattle.bx_text.specs.Token.{Body, Token, Lexeme}
use Rattle.bx_text.specs.Lexing.{lexeme_from, lexeme_at}
use Rattle.bx_text.specs.Tree.{Tree, integer, tuple, list, other, nil, chain}
use Rattle.bx_text.specs.Terms.{Reading, span, taken, is_quote, is_comma, is_bar, is_colon, is_slash, is_arrow, is_atom, is_integer, is_utf8_name, closes_tuple, closes_list, closed, want, letters_of, text_next, texts_on, texts, strings_at, string_at, Follow, next, end, behind_token, follow_at, element_at, go_on, many, elements_at, tuple_on, tuple_at, tail_of, tail_at, end_at, rest_on, list_at, kept_at, value_at, pair_at, go_through, parts_at, map_on, map_at, content_text, content_by, sized, encoded, segment_at, binary_on, binary_at, fun_at, bracket_by, atom_by, begin_by, begin, group_at, term_at}
use Rattle.bx_text.specs.Terms as reader
use Rattle.bx_text.specs.Grammar.{NoString}
use Rattle.bx_text.proofs.Outcomes.{ok_same}
use Rattle.bx_text.proofs.Quoting.{text_so}
use Rattle.bx_text_laws.specs.Tokens.{meant}
use Rattle.bx_text_laws.specs.Spelling as spelling
use Rattle.bx_text_laws.specs.Spelling.{Spelling}
use Rattle.bx_text_laws.specs.Faults as faults
use Rattle.bx_text_laws.specs.Faults.{Bracket, a_tuple, a_list, a_map, a_binary, Wanted, a_term, more_strings, first_in, more_in, a_value, a_size, an_encoding, a_name, a_number, the, parts, inside, Move, misplaced, Meets, Does, Refused}
use Rattle.bx_text_laws.proofs.Finding as finding
use Rattle.bx_text_laws.proofs.Longest.{sound}
use Rattle.bx_text_laws.proofs.Failing.{err_from}
use Rattle.bx_text_laws.proofs.Between.{Clean, clean_here, clean_on, clean_le, clean_token, token_less, kept_is}
use Rattle.bx_text_laws.proofs.Goings.{trim, Full, Going, goes, fails, Nothing, Here, Ends, Next, by_token, its_own, next_fault, both_ways, as_is, then, then_last, then_place, then_end, untrim, done, done_place, passed_goes, next_at, from_token, taking, again, misplaces, nests}
use Rattle.bx_text_laws.proofs.Tells.{closed_goes, want_goes, arrow_tells, colon_tells, slash_tells, list_close_tells, utf8_tells, name_tells, number_tells, closes, at_once, first_part, NotMore, close_tells, comma_does, bar_does, colon_does, no_colon_does, slash_does, no_slash_does, IsMark, mark_does, IsHeld, not_held}

-- strings
text_begins : {bytes : List ℕ} {t : Token} {m : Move} → Spelling bytes t → Meets more_strings t m → (cs : List ℕ) × (bytes ≡ 34 ∷ cs)
text_begins (spelling.string {bytes = bytes} r u) k = (bytes ++ 34 ∷ [], refl)
text_begins s k = elim k [ ]

no_text : (p : Place) (l : Lexeme) (m : Move) → NoString p → lexeme_at p ≡ Ok l → Meets more_strings (meant l.token) m → ⊥
no_text p l m (q, s, none) n i =
    let x = finding.parts p l n in
    let k = sound x.0 x.1 x.3 in
    let t = text_begins k.1.1 (subst (λ (l : Lexeme). Meets more_strings (meant l.token) m) (sym x.4) i) in
    let same : q ≡ x.0 = ok_same q x.0 (sym s ∙ x.2) in
    let no : false ≡ true = sym none ∙ ap (λ (r : Place). begins is_quote r.rest) same ∙ ap (λ bs. begins is_quote bs) (k.1.0 ∙ ap (λ bs. bs ++ x.1.1.rest) t.1) in
    cc

-- where no string follows, what is wanted behind is wanted there
strings_end : (p : Place) → NoString p → (us : List Wanted) → Full us → (f : Fault) → Refused (more_strings ∷ us) p f ↔ Refused us p f
strings_end p none us full f = by (lexeme_at p) refl
  where
    by : (r : Result Lexeme Fault) → lexeme_at p ≡ r → Refused (more_strings ∷ us) p f ↔ Refused us p f
    by (Err g) e = let there = next_fault p g e us full f in both_ways (its_own more_strings us p g f e) (there.1, there.0)
    by (Ok l) e = by_token more_strings us p f l (faults.instead []) e (inr (λ m u. no_text p l m none e u, refl))

text_fault : (p : Place) (g : Fault) → text_next p ≡ Err g → lexeme_at p ≡ Err g
text_fault p g = by (skip p)
  where
    by : (r : Result Place Fault) → (r >>= λ q. cond {A = Result (Option Lexeme) Fault} (begins is_quote q.rest) (lexeme_from q >>= λ l. Ok (Some l)) (Ok None)) ≡ Err g → (r >>= lexeme_from) ≡ Err g
    by (Err e) h = let same : e ≡ g = cc in ap (λ e. Err e) same
    by (Ok q) h = cond_both (begins is_quote q.rest) _ _ (λ (r : Result (Option Lexeme) Fault). r ≡ Err g → lexeme_from q ≡ Err g) (λ _ h. err_from (lexeme_from q) (λ l. Some l) g h) (λ _ h. cc) h

abbrev StringLeft : Option Lexeme → List Wanted
StringLeft None = []
StringLeft (Some l) = more_strings ∷ []

abbrev StringAt : Place → Option Lexeme → Place → Type 0
StringAt p None r = p ≡ r
StringAt p (Some l) r = (l.after ≡ r) × (lexeme_at p ≡ Ok l)

text_next_goes : (p : Place) → Going StringLeft (StringAt p) (more_strings ∷ []) p p (text_next p)
text_next_goes p = by (text_next p) refl
  where
    Goes : Option Lexeme → Type 0
    Goes o = Going StringLeft (StringAt p) (more_strings ∷ []) p p (Ok o)

    text : (l : Lexeme) (w : Body) → lexeme_at p ≡ Ok l → l.token ≡ token.text w → Goes (Some l)
    text l w n t =
        goes l.after (refl, n) (clean_token p l n)
        (λ us full f. by_token more_strings us p f l (faults.taken (more_strings ∷ [])) n (inl (subst (λ t. Meets more_strings (meant t) (faults.taken (more_strings ∷ []))) (sym t) faults.another_string)))

    by : (r : Result (Option Lexeme) Fault) → text_next p ≡ r → Going StringLeft (StringAt p) (more_strings ∷ []) p p r
    by (Err g) e = fails (λ us full f. its_own more_strings us p g f (text_fault p g e))
    by (Ok None) e = goes p refl (clean_here p) (λ us full f. strings_end p ((text_so p).each None e) us full f)
    by (Ok (Some l)) e = let (n, (w, t)) = (text_so p).each (Some l) e in text l w n t

texts_goes : (k : ℕ) (p : Place) → length p.rest < k → Going Nothing Ends (more_strings ∷ []) p p (texts k p)
texts_goes zero p lt = absurd (omega arith)
texts_goes (suc k) p lt = then_last (texts_on (texts k) p) (text_next_goes p) (on (λ q l. texts_goes k q l))
  where
    on : ((q : Place) → length q.rest < k → Going {A = List Tree × Place} Nothing Ends (more_strings ∷ []) q q (texts k q))
        → (o : Option Lexeme) (q : Place) → StringAt p o q → Clean p q → Going {A = List Tree × Place} Nothing Ends (StringLeft o) q q (texts_on (texts k) p o)
    on more None q e c = subst (λ q. Going {A = List Tree × Place} Nothing Ends [] q q (Ok ([], p))) e (done ([], p))
    on more (Some l) q (e, n) c =
        subst (λ q. Going {A = List Tree × Place} Nothing Ends (more_strings ∷ []) q q (texts_on (texts k) p (Some l))) e
        (then_end [] (λ x. Ok (letters_of l l.token ++ x.0, x.1)) (more l.after (omega (arith, token_less p l n))) (λ x c. done (letters_of l l.token ++ x.0, x.1)))

strings_goes : (l : Lexeme) → Going Nothing Ends (more_strings ∷ []) l.after l.after (strings_at l)
strings_goes l = then_end [] (λ x. Ok (letters_of l l.token ++ x.0, x.1)) (texts_goes (length l.after.rest + 1) l.after (omega arith)) (λ x c. done (letters_of l l.token ++ x.0, x.1))

string_goes : (l : Lexeme) → Going Nothing Ends (more_strings ∷ []) l.after l.after (string_at l)
string_goes l = then_end [] (λ x. Ok (list (span l x.1) (chain x.0 nil), x.1)) (strings_goes l) (λ x c. done (list (span l x.1) (chain x.0 nil), x.1))

-- what follows a part
abbrev FollowLeft : Bracket → ℕ → Follow → List Wanted
FollowLeft k d (next n) = parts k d
FollowLeft k d (end m) = more_in k d ∷ []

abbrev FollowAt : Follow → Place → Type 0
FollowAt (next n) r = lexeme_at r ≡ Ok n
FollowAt (end m) r = (lexeme_at r ≡ Ok m) × (is_comma m.token ≡ false)

behind_goes : (k : Bracket) (d : ℕ) (p : Place) (m : Lexeme) → lexeme_at p ≡ Ok m → Going (FollowLeft k d) FollowAt (more_in k d ∷ []) p p (behind_token m)
behind_goes k d p m n =
    cond_both (is_comma m.token) _ _ (Going (FollowLeft k d) FollowAt (more_in k d ∷ []) p p)
    (λ e. from_token p m n (taking (more_in k d) (parts k d) [] p m n (comma_does k d m.token e) (untrim further)))
    (λ e. goes p (n, e) (clean_here p) (λ us full f. as_is))
  where
    further : Going (FollowLeft k d) FollowAt (parts k d) m.after m.after (lexeme_at m.after >>= λ l. Ok (next l))
    further = then (parts k d) (λ l. Ok (next l)) (next_at m.after) (λ l q e c. goes q e (clean_here q) (λ us full f. as_is))

follow_goes : (k : Bracket) (d : ℕ) (p : Place) → Going (FollowLeft k d) FollowAt (more_in k d ∷ []) p p (follow_at p)
follow_goes k d p = then (more_in k d ∷ []) behind_token (next_at p) (λ m q n c. behind_goes k d q m n)

-- parts
abbrev EndAt : Lexeme → Place → Type 0
EndAt m r = (lexeme_at r ≡ Ok m) × (is_comma m.token ≡ false)

abbrev PartGoes : Bracket → ℕ → (Lexeme → Result Follow Fault) → Type 0
PartGoes k d part = (p : Place) (l : Lexeme) → lexeme_at p ≡ Ok l → Going (FollowLeft k d) FollowAt (parts k d) p l.after (part l)

parts_go : (k : Bracket) (d : ℕ) (part : Lexeme → Result Follow Fault) → PartGoes k d part → (i : ℕ) (p : Place) (l : Lexeme) → lexeme_at p ≡ Ok l → length l.after.rest < i
    → Going (λ m. more_in k d ∷ []) EndAt (parts k d) p l.after (reader.parts part i l)
parts_go k d part h zero p l n lt = absurd (omega arith)
parts_go k d part h (suc i) p l n lt = then_last (go_through (reader.parts part i)) (h p l n) (on (λ q m a s. parts_go k d part h i q m a s))
  where
    on : ((q : Place) (m : Lexeme) → lexeme_at q ≡ Ok m → length m.after.rest < i → Going (λ m. more_in k d ∷ []) EndAt (parts k d) q m.after (reader.parts part i m))
        → (x : Follow) (q : Place) → FollowAt x q → Clean l.after q → Going (λ m. more_in k d ∷ []) EndAt (FollowLeft k d x) q q (go_through (reader.parts part i) x)
    on more (next m) q a c = from_token q m a (more q m a (omega (arith, lt, token_less q m a, clean_le c)))
    on more (end m) q a c = goes q a (clean_here q) (λ us full f. as_is)

abbrev TermsGo : ℕ → Reading → Type 0
TermsGo d term = (p : Place) (l : Lexeme) → lexeme_at p ≡ Ok l → Going Nothing Ends (a_term d ∷ []) p l.after (term l)

-- elements, of a tuple or a list
abbrev Elements : Bracket → ℕ → List Wanted
Elements k d = a_term d ∷ more_in k d ∷ []

element_goes : (k : Bracket) (d : ℕ) (term : Reading) → TermsGo d term → (p : Place) (l : Lexeme) → lexeme_at p ≡ Ok l
    → Going (λ (y : Tree × Follow). FollowLeft k d y.1) (λ y r. FollowAt y.1 r) (Elements k d) p l.after (element_at term l)
element_goes k d term h p l n =
    then_end (more_in k d ∷ []) (λ x. follow_at x.1 >>= λ f. Ok (x.0, f)) (h p l n)
    (λ x c. then_last (λ f. Ok (x.0, f)) (follow_goes k d x.1) (λ f q a c. goes q a (clean_here q) (λ us full f. as_is)))

abbrev RowLeft : Bracket → ℕ → List Tree × Lexeme → List Wanted
RowLeft k d x = more_in k d ∷ []

abbrev RowAt : List Tree × Lexeme → Place → Type 0
RowAt x r = EndAt x.1 r

row_goes : (k : Bracket) (d : ℕ) (term : Reading) → TermsGo d term → parts k d ≡ Elements k d → (i : ℕ) (p : Place) (l : Lexeme) → lexeme_at p ≡ Ok l → length l.after.rest < i
    → Going (RowLeft k d) RowAt (Elements k d) p l.after (many term i l)
row_goes k d term h is zero p l n lt = absurd (omega arith)
row_goes k d term h is (suc i) p l n lt = then_last (λ x. go_on (many term i) x.0 x.1) (element_goes k d term h p l n) (λ x q a c. on (λ q m a s. row_goes k d term h is i q m a s) x.0 x.1 q a c)
  where
    on : ((q : Place) (m : Lexeme) → lexeme_at q ≡ Ok m → length m.after.rest < i → Going (RowLeft k d) RowAt (Elements k d) q m.after (many term i m))
        → (t : Tree) (x : Follow) (q : Place) → FollowAt x q → Clean l.after q → Going (RowLeft k d) RowAt (FollowLeft k d x) q q (go_on (many term i) t x)
    on more t (next m) q a c =
        subst (λ ws. Going (RowLeft k d) RowAt ws q q (go_on (many term i) t (next m))) (sym is)
        (then_last (λ x. Ok (t ∷ x.0, x.1)) (from_token q m a (more q m a (omega (arith, lt, token_less q m a, clean_le c))))
        (λ x r b c. goes r b (clean_here r) (λ us full f. as_is)))
    on more t (end m) q a c = goes q a (clean_here q) (λ us full f. as_is)

elements_go : (k : Bracket) (d : ℕ) (term : Reading) → TermsGo d term → parts k d ≡ Elements k d → (p : Place) (l : Lexeme) → lexeme_at p ≡ Ok l → Going (RowLeft k d) RowAt (Elements k d) p p (elements_at term l)
elements_go k d term h is p l n = from_token p l n (row_goes k d term h is (length l.after.rest + 1) p l n (omega arith))

-- tuples
close_goes : (k : Bracket) (d : ℕ) (p : Place) (m : Lexeme) → lexeme_at p ≡ Ok m → NotMore k m.token → Going Nothing Here (more_in k d ∷ []) p p (closed (closes k) m)
close_goes k d p m n may = from_token p m n (closed_goes (more_in k d) (closes k) (close_tells k d) p m n may)

first_goes : {A : Type 0} {Left : A → List Wanted} {At : A → Place → Type 0} {once more : Result A Fault} (k : Bracket) (d : ℕ) (q : Place) (m : Lexeme) → lexeme_at q ≡ Ok m
    → Going Left At [] m.after m.after once → Going Left At (parts k d) q q more → Going Left At (first_in k d ∷ []) q q (cond (closes k m.token) once more)
first_goes {Left = Left} {At = At} k d q m n g h =
    cond_both (closes k m.token) _ _ (Going Left At (first_in k d ∷ []) q q) (λ e. from_token q m n (taking (first_in k d) [] [] q m n (at_once k d m.token e) g))
    (λ e. again (first_in k d) (parts k d) [] q m n (first_part k d m.token e) (untrim h))

tuple_goes : (d : ℕ) (term : Reading) → TermsGo d term → (l : Lexeme) → Going Nothing Ends (first_in a_tuple d ∷ []) l.after l.after (tuple_at term l)
tuple_goes d term h l =
    then (first_in a_tuple d ∷ []) (tuple_on term l) (next_at l.after)
    (λ m q n c. first_goes a_tuple d q m n (done (tuple (span l m.after) nil, m.after))
    (then_last (λ (x : List Tree × Lexeme). closed closes_tuple x.1 >>= λ q. Ok (tuple (span l q) (chain x.0 nil), q)) (elements_go a_tuple d term h refl q m n)
    (λ x r a c. then_place [] (λ q. Ok (tuple (span l q) (chain x.0 nil), q)) (close_goes a_tuple d r x.1 a.0 (a.1, λ e. cc)) (λ q c. done (tuple (span l q) (chain x.0 nil), q)))))

-- lists
tail_goes : (d : ℕ) (term : Reading) → TermsGo d term → (p : Place) → Going Nothing Ends (a_term d ∷ []) p p (lexeme_at p >>= tail_at term)
tail_goes d term h p =
    then (a_term d ∷ []) (tail_at term) (next_at p)
    (λ l q n c. from_token q l n (then_end [] (λ x. Ok (tail_of x.0, x.1)) (h q l n) (λ x c. done (tail_of x.0, x.1))))

end_goes : (d : ℕ) (term : Reading) → TermsGo d term → (p : Place) (m : Lexeme) → lexeme_at p ≡ Ok m → is_comma m.token ≡ false → Going Nothing Ends (more_in a_list d ∷ []) p p (end_at term m)
end_goes d term h p m n no_comma =
    cond_both (is_bar m.token) _ _ (Going Nothing Ends (more_in a_list d ∷ []) p p)
    (λ e. from_token p m n (taking (more_in a_list d) (a_term d ∷ the named.close_list ∷ []) [] p m n (bar_does d m.token e)
    (then_end (the named.close_list ∷ []) (λ x. lexeme_at x.1 >>= closed closes_list >>= λ q. Ok (x.0, q)) (tail_goes d term h m.after)
    (λ x c. then_place [] (λ q. Ok (x.0, q)) (want_goes (the named.close_list) closes_list list_close_tells x.1) (λ q c. done (x.0, q))))))
    (λ e. then_place [] (λ q. Ok (nil, q)) (close_goes a_list d p m n (no_comma, λ l. e)) (λ q c. done (nil, q)))

list_goes : (d : ℕ) (term : Reading) → TermsGo d term → (l : Lexeme) → Going Nothing Ends (first_in a_list d ∷ []) l.after l.after (list_at term l)
list_goes d term h l =
    then_end [] (λ x. Ok (list (span l x.1) x.0, x.1))
    (then (first_in a_list d ∷ []) (rest_on term) (next_at l.after)
    (λ m q n c. first_goes a_list d q m n (done (nil, m.after))
    (then_last (λ (x : List Tree × Lexeme). end_at term x.1 >>= λ y. Ok (chain x.0 y.0, y.1)) (elements_go a_list d term h refl q m n)
    (λ x r a c. then_end [] (λ y. Ok (chain x.0 y.0, y.1)) (end_goes d term h r x.1 a.0 a.1) (λ y c. done (chain x.0 y.0, y.1))))))
    (λ x c. done (list (span l x.1) x.0, x.1))

-- what is kept as it is written
kept_goes : (k : Sort) (p q : Place) (l : Lexeme) → lexeme_at p ≡ Ok l → Clean l.after q → Going Nothing Ends [] q q (kept_at k l q)
kept_goes k p q l n c = subst (λ r. Going Nothing Ends [] q q r) (sym (kept_is p q l n c k)) (done (other (span l q) k (taken l q), q))

-- maps
value_goes : (d : ℕ) (term : Reading) → TermsGo d term → (p : Place) → Going Nothing Here (a_term d ∷ []) p p (value_at term p)
value_goes d term h p = passed_goes (then (a_term d ∷ []) term (next_at p) (λ l q n c. from_token q l n (h q l n)))

pair_goes : (d : ℕ) (term : Reading) → TermsGo d term → PartGoes a_map d (pair_at term)
pair_goes d term h p l n =
    let key = passed_goes (h p l n) in
    let arrow = then_place (the named.arrow ∷ []) (want is_arrow) key (λ q c. want_goes (the named.arrow) is_arrow arrow_tells q) in
    let value = then_place (a_term d ∷ []) (value_at term) arrow (λ q c. value_goes d term h q) in
    then_place (more_in a_map d ∷ []) follow_at value (λ q c. follow_goes a_map d q)

-- maps and binaries: parts up to the closing mark, and their text is kept
rows_go : (k : Bracket) (d : ℕ) (part : Lexeme → Result Follow Fault) → PartGoes k d part → (k ≡ a_list → ⊥) → (p : Place) (m : Lexeme) → lexeme_at p ≡ Ok m
    → Going Nothing Here (parts k d) p p (parts_at part m >>= closed (closes k))
rows_go k d part h no_list p m n =
    then_last (closed (closes k)) (from_token p m n (parts_go k d part h (length m.after.rest + 1) p m n (omega arith)))
    (λ x r a c. close_goes k d r x a.0 (a.1, λ e. absurd (no_list e)))

held_goes : (k : Bracket) (d : ℕ) (s : Sort) (part : Lexeme → Result Follow Fault) → PartGoes k d part → (k ≡ a_list → ⊥) → (p q : Place) (l m : Lexeme) → lexeme_at p ≡ Ok l → Clean l.after q → lexeme_at q ≡ Ok m
    → Going Nothing Ends (first_in k d ∷ []) q q (cond (closes k m.token) (kept_at s l m.after) (parts_at part m >>= closed (closes k) >>= kept_at s l))
held_goes k d s part h no_list p q l m n c e =
    first_goes k d q m e (kept_goes s p m.after l n (clean_on c (clean_token q m e))) (trim (then_place [] (kept_at s l) (rows_go k d part h no_list q m e) (λ r b. kept_goes s p r l n (clean_on c b))))

map_goes : (d : ℕ) (term : Reading) → TermsGo d term → (p : Place) (l : Lexeme) → lexeme_at p ≡ Ok l → Going Nothing Ends (first_in a_map d ∷ []) l.after l.after (map_at term l)
map_goes d term h p l n = then (first_in a_map d ∷ []) (map_on term l) (next_at l.after) (λ m q e c. held_goes a_map d sort.Map (pair_at term) (pair_goes d term h) (λ i. cc) p q l m n c e)

-- binaries
content_goes : (d : ℕ) (p : Place) (l : Lexeme) → lexeme_at p ≡ Ok l → Going Nothing Here (a_value d ∷ []) p l.after (content_by d l l.token)
content_goes d p l n = by l.token refl
  where
    in_text : (d : ℕ) (b : Body) → l.token ≡ token.text b → Does (a_value d) (meant l.token) (inside d (λ e. more_strings))
    in_text d b e = inl (subst (λ t. Meets (a_value d) (meant t) (inside d (λ e. more_strings))) (sym e) faults.a_string_held)

    text : (d : ℕ) (b : Body) → l.token ≡ token.text b → Going Nothing Here (a_value d ∷ []) p l.after (content_text d l)
    text zero b e = nests (a_value zero) [] p l n (in_text zero b e)
    text (suc d) b e = taking (a_value (suc d)) (more_strings ∷ []) [] p l n (in_text (suc d) b e) (passed_goes (strings_goes l))

    neither : (t : Token) → l.token ≡ t → (IsHeld (meant t) → ⊥) → Going Nothing Here (a_value d ∷ []) p l.after (Err (BadTerm l.line))
    neither t e i = misplaces (a_value d) [] p l n (not_held d l.token (subst (λ t. IsHeld (meant t) → ⊥) (sym e) i))

    by : (t : Token) → l.token ≡ t → Going Nothing Here (a_value d ∷ []) p l.after (content_by d l t)
    by (token.integer i) e = taking (a_value d) [] [] p l n (inl (subst (λ t. Meets (a_value d) (meant t) (faults.taken [])) (sym e) faults.a_number_held)) (done_place l.after)
    by (token.text b) e = text d b e
    by (token.atom b) e = neither (token.atom b) e (λ i. i)
    by t e = neither t e (λ i. i)

sized_goes : (p : Place) (m : Lexeme) → lexeme_at p ≡ Ok m → Going Nothing Next (a_size ∷ []) p p (sized m)
sized_goes p m n =
    cond_both (is_colon m.token) _ _ (Going Nothing Next (a_size ∷ []) p p)
    (λ e. from_token p m n (taking a_size (a_number ∷ []) [] p m n (colon_does m.token e)
    (then_place [] lexeme_at (want_goes a_number is_integer number_tells m.after) (λ q c. next_at q))))
    (λ e. again a_size [] [] p m n (no_colon_does m.token e) (goes p n (clean_here p) (λ us full f. as_is)))

encoded_goes : (p : Place) (m : Lexeme) → lexeme_at p ≡ Ok m → Going Nothing Next (an_encoding ∷ []) p p (encoded m)
encoded_goes p m n =
    cond_both (is_slash m.token) _ _ (Going Nothing Next (an_encoding ∷ []) p p)
    (λ e. from_token p m n (taking an_encoding _ [] p m n (slash_does m.token e)
    (then_place [] lexeme_at (want_goes _ is_utf8_name utf8_tells m.after) (λ q c. next_at q))))
    (λ e. again an_encoding [] [] p m n (no_slash_does m.token e) (goes p n (clean_here p) (λ us full f. as_is)))

segment_goes : (d : ℕ) → PartGoes a_binary d (segment_at d)
segment_goes d p l n =
    let held = then_place [] lexeme_at (content_goes d p l n) (λ q c. next_at q) in
    let size = then (a_size ∷ []) sized held (λ m q e c. sized_goes q m e) in
    let encoding = then (an_encoding ∷ []) encoded size (λ m q e c. encoded_goes q m e) in
    then (more_in a_binary d ∷ []) behind_token encoding (λ m q e c. behind_goes a_binary d q m e)

binary_goes : (d : ℕ) (p : Place) (l : Lexeme) → lexeme_at p ≡ Ok l → Going Nothing Ends (first_in a_binary d ∷ []) l.after l.after (binary_at d l)
binary_goes d p l n = then (first_in a_binary d ∷ []) (binary_on d l) (next_at l.after) (λ m q e c. held_goes a_binary d sort.Binary (segment_at d) (segment_goes d) (λ i. cc) p q l m n c e)

-- external funs
fun_goes : (p : Place) (l : Lexeme) → lexeme_at p ≡ Ok l → Going Nothing Ends (a_name ∷ the named.colon ∷ a_name ∷ the named.slash ∷ a_number ∷ []) l.after l.after (fun_at l)
fun_goes p l n =
    let owner = want_goes a_name is_atom name_tells l.after in
    let colon = then_place (the named.colon ∷ []) (want is_colon) owner (λ q c. want_goes (the named.colon) is_colon colon_tells q) in
    let name = then_place (a_name ∷ []) (want is_atom) colon (λ q c. want_goes a_name is_atom name_tells q) in
    let slash = then_place (the named.slash ∷ []) (want is_slash) name (λ q c. want_goes (the named.slash) is_slash slash_tells q) in
    let arity = then_place (a_number ∷ []) (want is_integer) slash (λ q c. want_goes a_number is_integer number_tells q) in
    then_place [] (kept_at sort.Fun l) arity (λ q c. kept_goes sort.Fun p q l n c)

-- terms
abbrev IsGroup : Token → Type 0
IsGroup (token.text b) = Unit {0}
IsGroup token.open_tuple = Unit {0}
IsGroup token.open_list = Unit {0}
IsGroup token.open_map = Unit {0}
IsGroup token.open_binary = Unit {0}
IsGroup t = ⊥

abbrev first_of : Token → ℕ → Wanted
first_of token.open_tuple d = first_in a_tuple d
first_of token.open_list d = first_in a_list d
first_of token.open_map d = first_in a_map d
first_of token.open_binary d = first_in a_binary d
first_of t d = more_strings

group_does : (d : ℕ) (t : Token) → IsGroup t → Does (a_term d) (meant t) (inside d (first_of t))
group_does d (token.text b) i = inl faults.a_string
group_does d token.open_tuple i = inl (faults.a_bracket a_tuple refl)
group_does d token.open_list i = inl (faults.a_bracket a_list refl)
group_does d token.open_map i = inl (faults.a_bracket a_map refl)
group_does d token.open_binary i = inl (faults.a_bracket a_binary refl)
group_does d t i = absurd i

abbrev GroupsGo : ℕ → Reading → Type 0
GroupsGo d group = (p : Place) (l : Lexeme) → lexeme_at p ≡ Ok l → IsGroup l.token → Going Nothing Ends (a_term d ∷ []) p l.after (group l)

fun_or : (t : Token) → IsMark t → (t ≡ named.the_word_fun) ⊎ (t ≡ named.the_word_fun → ⊥)
fun_or t i = grind arith

no_term : (group : Reading) (l : Lexeme) (t : Token) → IsMark t → (t ≡ named.the_word_fun → ⊥) → begin_by group l t ≡ Err (BadTerm l.line)
no_term group l t i n = grind arith

terms_begin : (d : ℕ) (group : Reading) → GroupsGo d group → TermsGo d (begin group)
terms_begin d group h p l n = by l.token refl
  where
    at : (t : Token) {m : Move} → l.token ≡ t → Meets (a_term d) (meant t) m → Does (a_term d) (meant l.token) m
    at t {m} e k = inl (subst (λ t. Meets (a_term d) (meant t) m) (sym e) k)

    by : (t : Token) → l.token ≡ t → Going {A = Tree × Place} Nothing Ends (a_term d ∷ []) p l.after (begin_by group l t)
    by (token.integer i) e = taking (a_term d) [] [] p l n (at (token.integer i) e faults.an_integer) (done (integer (span l l.after) i, l.after))
    by token.float e = taking (a_term d) [] [] p l n (at token.float e faults.a_float) (kept_goes sort.Float p l.after l n (clean_here l.after))
    by (token.atom b) e = taking (a_term d) [] [] p l n (at (token.atom b) e faults.an_atom) (done (atom_by l b, l.after))
    by (token.mark m) e =
        elim (fun_or (token.mark m) tt) [
          | inl f ↦ subst (λ t. Going {A = Tree × Place} Nothing Ends (a_term d ∷ []) p l.after (begin_by group l t)) (sym f) (taking (a_term d) _ [] p l n (at named.the_word_fun (e ∙ f) faults.a_fun) (fun_goes p l n))
          | inr o ↦
              subst (Going {A = Tree × Place} Nothing Ends (a_term d ∷ []) p l.after) (sym (no_term group l (token.mark m) tt o))
              (misplaces (a_term d) [] p l n (subst (λ t. Does (a_term d) (meant t) misplaced) (sym e) (mark_does d (token.mark m) tt o)))
        ]
    by t e = h p l n (subst IsGroup (sym e) tt)

groups_begin : (d : ℕ) → TermsGo d (term_at d) → GroupsGo (suc d) (group_at (suc d))
groups_begin d h p l n g = taking (a_term (suc d)) (first_of l.token d ∷ []) [] p l n (group_does (suc d) l.token g) (held l.token g)
  where
    held : (t : Token) → IsGroup t → Going Nothing Ends (first_of t d ∷ []) l.after l.after (bracket_by d (term_at d) l t)
    held (token.text b) i = string_goes l
    held token.open_tuple i = tuple_goes d (term_at d) h l
    held token.open_list i = list_goes d (term_at d) h l
    held token.open_map i = map_goes d (term_at d) h p l n
    held token.open_binary i = binary_goes d p l n
    held t i = absurd i

groups_go : (d : ℕ) → GroupsGo d (group_at d)
groups_go zero p l n g = nests (a_term zero) [] p l n (group_does zero l.token g)
groups_go (suc d) p l n g = groups_begin d (terms_begin d (group_at d) (groups_go d)) p l n g

pub terms_go : (d : ℕ) → TermsGo d (term_at d)
terms_go d = terms_begin d (group_at d) (groups_go d)
