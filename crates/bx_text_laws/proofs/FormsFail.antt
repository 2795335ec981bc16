-- Which form is refused, and with which fault.
use Rattle.std.proofs.Common.{arith, ◌≡◌, ℕ, List, [], ◌∷◌, Option, Result, Ok, Err, refl, sym, ap, ◌∙◌, subst, ◌↔◌}
use Rattle.std.proofs.lemmas.Bool.{cond_both}
use Rattle.bx_terms.specs.Outcomes.{◌>>=◌}
use Rattle.bx_terms.specs.declared.faults.Fault.{Fault, TheVariants.BadTerm}
use Rattle.bx_text.specs.Place.{Place}
use Rattle.bx_text.specs.Blank.{skip}
use Rattle.bx_text.specs.Named as named
use Rattle.bx_text.specs.Token.{Lexeme}
use Rattle.bx_text.specs.Lexing.{lexeme_from, lexeme_at}
use Rattle.bx_text.specs.Tree.{Tree}
use Rattle.bx_text.specs.Terms.{is_stop, term_at}
use Rattle.bx_text.specs.Forms.{stopped, form_by, form_on, form_at}
use Rattle.bx_text_laws.specs.Terms.{OnlyBlanks}
use Rattle.bx_text_laws.specs.Faults.{Wanted, a_term, the, misplaced, taken, Refused, FormFails}
use Rattle.bx_text_laws.proofs.Sentences.{none_is_blank}
use Rattle.bx_text_laws.proofs.Goings.{as_is, Going, goes, fails, Nothing, Ends, by_token, its_own, both_ways, then, next_at, from_token}
use Rattle.bx_text_laws.proofs.Tells.{stop_tells}
use Rattle.bx_text_laws.proofs.FirstFaults.{terms_go}

-- an answer of one fault
only : {A R : Type 0} (g f : Fault) → R ↔ (f ≡ g) → ◌≡◌ {A = Result A Fault} (Err g) (Err f) ↔ R
only {A} g f h = (λ e. h.1 (same e), λ r. ap (λ g. Err g) (sym (h.0 r)))
  where
    same : ◌≡◌ {A = Result A Fault} (Err g) (Err f) → f ≡ g
    same e = cc

nothing_wanted : {p : Place} {f : Fault} → Refused [] p f → ⊥
nothing_wanted r = elim r [ ]

-- the full stop
stop_goes : (t : Tree) (p : Place) (f : Fault) → ((lexeme_at p >>= stopped t) ≡ Err f) ↔ Refused (the named.full_stop ∷ []) p f
stop_goes t p f = by (lexeme_at p) refl
  where
    Goes : Result (Option (Tree × Place)) Fault → Type 0
    Goes r = (r ≡ Err f) ↔ Refused (the named.full_stop ∷ []) p f

    by : (r : Result Lexeme Fault) → lexeme_at p ≡ r → Goes (r >>= stopped t)
    by (Err g) e = only g f (its_own (the named.full_stop) [] p g f e)
    by (Ok m) n =
        cond_both (is_stop m.token) _ _ Goes (λ e. (λ h. cc, λ r. absurd (nothing_wanted ((by_token (the named.full_stop) [] p f m (taken []) n (stop_tells.yes m.token e)).0 r))))
        (λ e. only (BadTerm m.line) f (by_token (the named.full_stop) [] p f m misplaced n (stop_tells.other m.token tt e)))

-- a term and its full stop
abbrev Sentence : ℕ → List Wanted
Sentence d = a_term d ∷ the named.full_stop ∷ []

by_term : (d : ℕ) (p : Place) (f : Fault) {r : Result (Tree × Place) Fault} → Going Nothing Ends (a_term d ∷ []) p p r → ((r >>= λ x. lexeme_at x.1 >>= stopped x.0) ≡ Err f) ↔ Refused (Sentence d) p f
by_term d p f (goes {x = x} q a c h) =
    let there = h (the named.full_stop ∷ []) tt f in
    let stop = subst (λ q. ((lexeme_at x.1 >>= stopped x.0) ≡ Err f) ↔ Refused (the named.full_stop ∷ []) q f) a (stop_goes x.0 x.1 f) in
    both_ways stop (there.1, there.0)
by_term d p f (fails {g = g} h) = only g f (h (the named.full_stop ∷ []) tt f)

sentence_goes : (d : ℕ) (p : Place) (f : Fault) → ((lexeme_at p >>= form_by d) ≡ Err f) ↔ Refused (Sentence d) p f
sentence_goes d p f = subst (λ r. (r ≡ Err f) ↔ Refused (Sentence d) p f) (sym (split (lexeme_at p))) (by_term d p f first)
  where
    first : Going Nothing Ends (a_term d ∷ []) p p (lexeme_at p >>= term_at d)
    first = then (a_term d ∷ []) (term_at d) (next_at p) (λ l q n c. from_token q l n (terms_go d q l n))

    split : (r : Result Lexeme Fault) → (r >>= form_by d) ≡ (r >>= term_at d >>= λ x. lexeme_at x.1 >>= stopped x.0)
    split r = grind arith

-- a form
blank_or : (p : Place) (f : Fault) → form_at p ≡ Err f → OnlyBlanks p → ⊥
blank_or p f h b = let no = sym h ∙ (none_is_blank p).1 b in cc

at_once : (p : Place) (f : Fault) → (OnlyBlanks p → ⊥) → (form_at p ≡ Err f) ↔ ((lexeme_at p >>= form_by 256) ≡ Err f)
at_once p f some = by (skip p) refl
  where
    by_rest : (q : Place) (cs : List ℕ) → skip p ≡ Ok q → q.rest ≡ cs → (form_on 256 cs q ≡ Err f) ↔ ((lexeme_from q >>= form_by 256) ≡ Err f)
    by_rest q [] s e = absurd (some ((none_is_blank p).0 (ap (λ r. r >>= λ q. form_on 256 q.rest q) s ∙ ap (λ cs. form_on 256 cs q) e)))
    by_rest q (c ∷ cs) s e = (λ h. h, λ h. h)

    by : (r : Result Place Fault) → skip p ≡ r → ((r >>= λ q. form_on 256 q.rest q) ≡ Err f) ↔ ((r >>= lexeme_from >>= form_by 256) ≡ Err f)
    by (Err g) s = only g f (only g f as_is)
    by (Ok q) s = by_rest q q.rest s refl

pub forms_fail : (p : Place) (f : Fault) → (form_at p ≡ Err f) ↔ FormFails p f
forms_fail p f = (λ h. let some = blank_or p f h in (some, (sentence_goes 256 p f).0 ((at_once p f some).0 h)), λ x. (at_once p f x.0).1 ((sentence_goes 256 p f).1 x.1))
