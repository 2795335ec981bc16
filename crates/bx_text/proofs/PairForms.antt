-- A form that is passed over as a pair is read as one.
use Rattle.std.proofs.Common.{◌≡◌, ℕ, Bool, true, List, Result, Ok, Err, refl, sym, ap}
use Rattle.std.specs.Prelude.{option_map, IfSome}
use Rattle.std.specs.Result.{result_ok}
use Rattle.std.proofs.lemmas.Bool.{cond_both}
use Rattle.std.proofs.lemmas.Slice.Eq.{bytes_eq-Decides}
use Rattle.bx_terms.specs.Outcomes.{Gives, ◌>>=◌}
use Rattle.bx_terms.specs.declared.faults.Fault.{Fault, TheVariants.Memory}
use Rattle.bx_text.specs.Place.{Place}
use Rattle.bx_text.specs.Token as token
use Rattle.bx_text.specs.Token.{Token, Lexeme}
use Rattle.bx_text.specs.Lexing.{lexeme_at}
use Rattle.bx_text.specs.Terms.{span, opens_tuple, closes_tuple, is_comma, is_stop, closed, want, value_at, term_at}
use Rattle.bx_text.specs.Grammar.{an_atom, a_tuple, one, more, a_form}
use Rattle.bx_text.specs.Pairs.{is_word, pair_end, good, IsPairForm}
use Rattle.bx_text.proofs.Outcomes.{Yields, yes, no, bound, read, assoc}
use Rattle.bx_text.proofs.Sound.{terms_so, value_so, wanted, comma_is, tuple_close_is, stop_is}
use Rattle.bx_text.proofs.Grammatical.{form_is}

open_is : (k : Token) → opens_tuple k ≡ true → k ≡ token.open_tuple
open_is token.open_tuple e = refl
open_is k e = absurd (cc)

word_is : (word : List ℕ) (k : Token) → is_word word k ≡ true → k ≡ token.atom (token.plain word)
word_is word (token.atom (token.plain w)) e = ap (λ v. token.atom (token.plain v)) ((bytes_eq-Decides w word).0 e)
word_is word k e = absurd (cc)

pub pair_form : (word : List ℕ) (p q : Place) → pair_end 255 word p ≡ Ok q → IsPairForm word p q
pair_form word p = whole.each
  where
    last : (P : Place → Type 0) (test : Token → Bool) (p : Place) → ((m : Lexeme) → lexeme_at p ≡ Ok m → test m.token ≡ true → P m.after) → Yields P (want test p)
    last P test p g = read (lexeme_at p) (closed test) (λ m n. cond_both (test m.token) _ _ (Yields P) (λ c. yes (g m n c)) (λ _. no))

    whole : Yields (IsPairForm word p) (pair_end 255 word p)
    whole =
        let a = want opens_tuple p in
        let b = a >>= want (is_word word) in
        let c = b >>= want is_comma in
        assoc (c >>= value_at (term_at 255)) (want closes_tuple) (want is_stop) (assoc c (value_at (term_at 255)) _ (assoc b (want is_comma) _ (assoc a (want (is_word word)) _
        (wanted opens_tuple p _ (λ brace n1 t1. wanted (is_word word) brace.after _ (λ name n2 t2. wanted is_comma name.after _ (λ comma n3 t3. bound _ (value_so 255 (terms_so 255) comma.after)
        (λ r (v, u, n4, s). wanted closes_tuple r _ (λ close n5 t5. last (IsPairForm word p) is_stop close.after (λ stop n6 t6. (
          span brace close.after,
          span name name.after,
          u,
          form_is (a_form {p = p} n1 (a_tuple (open_is brace.token t1) n2 (more (an_atom (word_is word name.token t2)) n3 (comma_is comma.token t3) n4 (one s n5)) (tuple_close_is close.token t5)) n6 (stop_is stop.token t6)),
        )))))))))))

-- the answer of a reader that takes no memory, where a refusal is not looked at
pub pair_ends : {X A : Type 0} (v : X → A) (r : Result X Fault) (said : Result A Fault) → Gives ⊥ v r said → option_map v (result_ok r) ≡ good said
pair_ends v (Err Memory) said h = absurd h
pair_ends v s said h = ap good (sym h)

pub pair_forms : {X : Type 0} (v : X → Place) (r : Result X Fault) (word : List ℕ) (p : Place) → Gives ⊥ v r (pair_end 255 word p) → IfSome (result_ok r) (λ x. IsPairForm word p (v x))
pair_forms v (Ok x) word p h = pair_form word p (v x) h
pair_forms v (Err e) word p h = tt
