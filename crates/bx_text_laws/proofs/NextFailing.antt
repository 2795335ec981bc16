-- Which fault the next token has.
use Rattle.std.proofs.Common.{◌≡◌, ◌↔◌, Result, Ok, Err, refl, sym, ap, ◌∙◌, inl, inr}
use Rattle.bx_terms.specs.Outcomes.{◌>>=◌}
use Rattle.bx_terms.specs.declared.faults.Fault.{Fault}
use Rattle.bx_text.specs.Place.{Place}
use Rattle.bx_text.specs.Blank.{skip}
use Rattle.bx_text.specs.Token.{Lexeme}
use Rattle.bx_text.specs.Lexing.{token_at, lexeme_from, lexeme_at}
use Rattle.bx_text_laws.specs.Blanks.{Passes}
use Rattle.bx_text_laws.specs.Lexemes.{NextFails}
use Rattle.bx_text_laws.proofs.Blanking.{skipped_is_blank}
use Rattle.bx_text_laws.proofs.Failing.{err_from, fails_by_its_bytes}
use Rattle.bx_text_laws.proofs.Finding.{standing}
use Rattle.bx_text_laws.proofs.Spoiling.{blanks_fail}

fails : (p : Place) (f : Fault) → lexeme_at p ≡ Err f → NextFails p f
fails p f h = by (skip p) refl
  where
    by : (r : Result Place Fault) → skip p ≡ r → NextFails p f
    by (Err g) e = inl ((blanks_fail p f).0 (e ∙ ap (λ g. Err g) same))
      where
        there : ◌≡◌ {A = Result Lexeme Fault} (Err g) (Err f)
        there = sym (ap (λ r. r >>= lexeme_from) e) ∙ h

        same : g ≡ f
        same = cc
    by (Ok q) e =
        let passed : Passes p q = (skipped_is_blank p q).0 e in
        let refused : token_at q ≡ Err f = err_from (token_at q) (standing q) f (sym (ap (λ r. r >>= lexeme_from) e) ∙ h) in
        let failed = (fails_by_its_bytes q f).0 refused in
        inr (q, passed, failed.0, failed.1)

refused : (p : Place) (f : Fault) → NextFails p f → lexeme_at p ≡ Err f
refused p f (inl spoilt) = rw ((blanks_fail p f).1 spoilt) refl
refused p f (inr (q, passed, none, failed)) = rw ((skipped_is_blank p q).1 passed, (fails_by_its_bytes q f).1 (none, failed)) refl

pub next_fails : (p : Place) (f : Fault) → (lexeme_at p ≡ Err f) ↔ NextFails p f
next_fails p f = (fails p f, refused p f)
