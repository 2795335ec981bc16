-- What is kept as it was read is spelled by some text.
use Rattle.std.proofs.Common.{◌≡◌, ℕ, suc, true, false, eqb, List, length, Result, Ok, refl, arith, ap, ◌∙◌}
use Rattle.std.proofs.lemmas.Bool.Decides.{nat_tests}
use Rattle.std.specs.Str.Lossy.{utf8_valid_len}
use Rattle.bx_terms.specs.Outcomes.{◌>>=◌}
use Rattle.bx_terms.specs.declared.faults.Fault.{Fault}
use Rattle.bx_text.specs.declared.node.Sort.{Sort}
use Rattle.bx_text.specs.declared.node.Sort.TheVariants as sort
use Rattle.bx_text.specs.Place.{Place}
use Rattle.bx_text.specs.Blank.{skip}
use Rattle.bx_text.specs.Token as token
use Rattle.bx_text.specs.Token.{Lexeme}
use Rattle.bx_text.specs.Lexing.{lexeme_from, lexeme_at}
use Rattle.bx_text.specs.Tree.{Tree, other}
use Rattle.bx_text.specs.Terms.{Follow, next, end, span, taken, kept_at, closed, closes_tuple, closes_binary, want, follow_at, element_at, pair_at, is_arrow, passed, value_at, parts_at, segment_at, term_at}
use Rattle.bx_text.specs.Rows.{joined}
use Rattle.bx_text.specs.Grammar.{IsToken, IsKept, SpelledAs}
use Rattle.bx_text.proofs.Outcomes.{Yields, yes, also, bound, read}
use Rattle.bx_text.proofs.Sound.{sound, Goes, follow_so}

pub token_behind : (p q : Place) (l : Lexeme) → skip p ≡ Ok q → lexeme_from q ≡ Ok l → IsToken l
token_behind p q l s h = (p, ap (λ r. r >>= lexeme_from) s ∙ h)

pub followed : (r : Place) (n : Lexeme) → follow_at r ≡ Ok (next n) → IsToken n
followed r n h = let (m, a, (c, b)) = (follow_so r).each (next n) h in (m.after, b)

-- what follows, where more does
abbrev IsOn : Follow → Type 0
IsOn (next n) = IsToken n
IsOn (end m) = Unit {0}

goes : (r : Place) (f : Follow) → Goes r f → IsOn f
goes r (next n) (m, a, (c, b)) = (m.after, b)
goes r (end m) g = tt

pub token_next : (d : ℕ) (xs ys : List Tree) (l n : Lexeme) → joined xs (element_at (term_at d) l) ≡ Ok (ys, next n) → IsToken n
token_next d xs ys l n = (all (element_at (term_at d) l) (read (term_at d l) _ (λ x s. bound _ (follow_so x.1) (λ f g. yes (goes x.1 f g))))).each (ys, next n)
  where
    all : (r : Result (Tree × Follow) Fault) → Yields (λ (x : Tree × Follow). IsOn x.1) r → Yields (λ (x : List Tree × Follow). IsOn x.1) (joined xs r)
    all r a = bound _ a (λ x b. yes b)

pub pair_next : (d : ℕ) (l n : Lexeme) → pair_at (term_at d) l ≡ Ok (next n) → IsToken n
pair_next d l n = (read (passed (term_at d l) >>= want is_arrow >>= value_at (term_at d)) follow_at (λ q s. also (goes q) (follow_so q))).each (next n)

-- which terms are kept
same_test : (m n : ℕ) → m ≡ n → eqb m n ≡ true
same_test m n e = grind (arith, nat_tests)

pub kept_spelled : (k : Sort) (l : Lexeme) (q : Place) → IsKept k l q → utf8_valid_len (taken l q) ≡ length (taken l q) → SpelledAs k (taken l q)
kept_spelled k l q ((p, n), (d, e)) v =
    let good : kept_at k l q ≡ Ok (other (span l q) k (taken l q), q) = rw (same_test _ _ v) refl in
    (d, p, l, span l q, q, n, sound d l (other (span l q) k (taken l q), q) (e ∙ good))

pub empty_map_kept : (d : ℕ) (l m : Lexeme) → IsToken l → l.token ≡ token.open_map → lexeme_at l.after ≡ Ok m → closes_tuple m.token ≡ true → IsKept sort.Map l m.after
empty_map_kept d l m s t n c = (s, (suc d, rw (t, n, c) refl))

pub map_kept : (d : ℕ) (l m e : Lexeme) (q : Place) → IsToken l → l.token ≡ token.open_map → lexeme_at l.after ≡ Ok m → closes_tuple m.token ≡ false → parts_at (pair_at (term_at d)) m ≡ Ok e
    → closed closes_tuple e ≡ Ok q → IsKept sort.Map l q
map_kept d l m e q s t n c h g = (s, (suc d, rw (t, n, c, h, g) refl))

pub empty_binary_kept : (d : ℕ) (l m : Lexeme) → IsToken l → l.token ≡ token.open_binary → lexeme_at l.after ≡ Ok m → closes_binary m.token ≡ true → IsKept sort.Binary l m.after
empty_binary_kept d l m s t n c = (s, (suc d, rw (t, n, c) refl))

pub binary_kept : (d : ℕ) (l m e : Lexeme) → IsToken l → l.token ≡ token.open_binary → lexeme_at l.after ≡ Ok m → closes_binary m.token ≡ false → parts_at (segment_at d) m ≡ Ok e
    → closes_binary e.token ≡ true → IsKept sort.Binary l e.after
binary_kept d l m e s t n c h g = (s, (suc d, rw (t, n, c, h, g) refl))
