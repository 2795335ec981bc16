-- Forms and the grammar.
use Rattle.std.proofs.Common.{◌≡◌, ℕ, List, [], ◌∷◌, Option, Some, None, Ok, refl, sym, ap, ◌∙◌}
use Rattle.std.specs.Prelude.{◌↔◌}
use Rattle.std.proofs.lemmas.Bool.{cond_both}
use Rattle.bx_terms.specs.Outcomes.{◌>>=◌}
use Rattle.bx_text.specs.Place.{Place}
use Rattle.bx_text.specs.Blank.{skip}
use Rattle.bx_text.specs.Token.{Lexeme}
use Rattle.bx_text.specs.Lexing.{token_on, lexeme_from, lexeme_at}
use Rattle.bx_text.specs.Tree.{Tree}
use Rattle.bx_text.specs.Terms.{is_stop, term_at}
use Rattle.bx_text.specs.Forms.{stopped, form_by, form_on, form_within, form_at}
use Rattle.bx_text.specs.Grammar.{Spells, Form, a_form, OnlyBlank}
use Rattle.bx_text.proofs.Outcomes.{bind_ok, Yields, yes, no, bound, read}
use Rattle.bx_text.proofs.Complete.{complete}
use Rattle.bx_text.proofs.Sound.{sound, terms_so, stop_is}

pub terms_are : (d : ℕ) (l : Lexeme) (t : Tree) (q : Place) → (term_at d l ≡ Ok (t, q)) ↔ Spells d l t q
terms_are d l t q = (λ h. sound d l (t, q) h, λ s. complete s)

-- what a form reads
abbrev FormIs : ℕ → Place → Option (Tree × Place) → Type 0
FormIs d p (Some x) = Form d p x.0 x.1
FormIs d p None = OnlyBlank p

forms_so : (d : ℕ) (p : Place) → Yields (FormIs d p) (form_within d p)
forms_so d p = read (skip p) (λ q. form_on d q.rest q) (λ q s. on_list q.rest q s refl)
  where
    on_list : (cs : List ℕ) (q : Place) → skip p ≡ Ok q → q.rest ≡ cs → Yields (FormIs d p) (form_on d cs q)
    on_list [] q s e = yes (q, s, e)
    on_list (c ∷ cs) q s e =
        read (lexeme_from q) (form_by d) (λ l n. bound _ (terms_so d l) (λ x t. read (lexeme_at x.1) (stopped x.0)
        (λ m a. cond_both (is_stop m.token) _ _ (Yields (FormIs d p)) (λ c. yes (a_form (ap (λ r. r >>= lexeme_from) s ∙ n) t a (stop_is m.token c))) (λ _. no))))

pub form_is : {d : ℕ} {p : Place} {t : Tree} {q : Place} → Form d p t q → form_within d p ≡ Ok (Some (t, q))
form_is (a_form {d = d} {p = p} {r = r} {l = l} {m = m} {t = t} n s e c) =
    let b = bind_ok (skip p) lexeme_from l n in
    ap (λ r. r >>= λ q. form_on d q.rest q) b.1 ∙ on_list b.0.rest b.0 refl b.2
  where
    whole : form_by d l ≡ Ok (Some (t, m.after))
    whole = rw (complete s, e, c) refl

    on_list : (cs : List ℕ) (q : Place) → q.rest ≡ cs → lexeme_from q ≡ Ok l → form_on d q.rest q ≡ Ok (Some (t, m.after))
    on_list [] q r f = let z = sym (ap (λ cs. token_on cs q >>= λ x. Ok (record { token = x.0; from = q.at; line = q.line; begin = q.rest; after = x.1 })) r) ∙ f in cc
    on_list (k ∷ cs) q r f =
        ap (λ cs. form_on d cs q) r ∙ ap (λ u. u >>= form_by d) f ∙ whole

pub blank_is : (d : ℕ) (p : Place) → OnlyBlank p → form_within d p ≡ Ok None
blank_is d p (q, s, n) = rw (s, n) refl

pub forms_are : (p : Place) (t : Tree) (q : Place) → (form_at p ≡ Ok (Some (t, q))) ↔ Form 256 p t q
forms_are p t q = ((forms_so 256 p).each (Some (t, q)), λ f. form_is f)

pub none_are : (p : Place) → (form_at p ≡ Ok None) ↔ OnlyBlank p
none_are p = ((forms_so 256 p).each None, λ b. blank_is 256 p b)
