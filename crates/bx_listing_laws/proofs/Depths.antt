-- How deep the brackets of a term that was read nest, and those of its parts.
use Rattle.std.proofs.Common.{◌≡◌, ℕ, suc, ◌+◌, ◌≤◌, max, List, [], ◌∷◌, ◌++◌, map, Option, Some, None, pos, refl, subst, arith}
use Rattle.std.specs.Prelude.{option_map, chars}
use Rattle.std.specs.List.{AllByRecursion}
use Rattle.bx_text.specs.declared.node.Span.{Span}
use Rattle.bx_text.specs.Place.{Place}
use Rattle.bx_text.specs.Token.{spelled, Lexeme}
use Rattle.bx_text.specs.Terms.{span, letters, tail_of}
use Rattle.bx_text.specs.Tree.{Tree, integer, atom, tuple, list, nil, cons, chain}
use Rattle.bx_text.specs.Grammar.{Strings, no_string, a_string, Spells, strings, a_tuple, a_list, a_list_with_tail, Row, one, more, Form, a_form}
use Rattle.bx_listing.specs.Shape.{shape, tagged, elements, proper, list_elements}
use Rattle.bx_listing.specs.Forms.{Forms, form}
use Rattle.bx_listing.specs.FormsOf.{AreForms, one_follows}

abbrev mutual
  pub depth : Tree → ℕ
  depth (tuple s t) = 1 + row_depth t
  depth (list s t) = 1 + row_depth t
  depth (cons t u) = max (depth t) (row_depth u)
  depth t = 0

  pub row_depth : Tree → ℕ
  row_depth (tuple s t) = 1 + row_depth t
  row_depth (list s t) = 1 + row_depth t
  row_depth (cons t u) = max (depth t) (row_depth u)
  row_depth t = 0

-- terms that nest at most so deep
abbrev pub AreLow : ℕ → List Tree → Type 0
AreLow d ts = AllByRecursion (λ t. depth t ≤ d) ts

pub all_both : {X : Type 0} (P : X → Type 0) (xs ys : List X) → AllByRecursion P xs → AllByRecursion P ys → AllByRecursion P (xs ++ ys)
all_both P [] ys a b = b
all_both P (x ∷ xs) ys a b = (a.0, all_both P xs ys a.1 b)

chain_low : (d : ℕ) (ts : List Tree) (u : Tree) → AreLow d ts → row_depth u ≤ d → row_depth (chain ts u) ≤ d
chain_low d [] u a h = h
chain_low d (t ∷ ts) u a h = omega (arith, a.0, chain_low d ts u a.1 h)

codes_low : (d : ℕ) (s : Span) (cs : List ℕ) → AreLow d (map (λ c. integer s (pos c)) cs)
codes_low d s [] = tt
codes_low d s (c ∷ cs) = (omega arith, codes_low d s cs)

strings_low : {p q : Place} {ts : List Tree} → Strings p ts q → (d : ℕ) → AreLow d ts
strings_low (no_string h) d = tt
strings_low (a_string {l = l} {b = w} {ts = ts} n e rest) d = all_both (λ t. depth t ≤ d) (letters (span l l.after) (spelled w)) ts (codes_low d (span l l.after) (chars (spelled w))) (strings_low rest d)

tail_low : (d : ℕ) (t : Tree) → depth t ≤ d → row_depth (tail_of t) ≤ d
tail_low d (tuple s t) h = h
tail_low d (cons t u) h = h
tail_low d _ h = omega arith

mutual
  spelled_low : {d : ℕ} {l : Lexeme} {t : Tree} {q : Place} → Spells d l t q → depth t ≤ d
  spelled_low (strings {d = d} {l = l} {b = w} {ts = ts} e h) =
      let here = letters (span l l.after) (spelled w) in
      let low = chain_low d (here ++ ts) nil (all_both (λ t. depth t ≤ d) here ts (codes_low d (span l l.after) (chars (spelled w))) (strings_low h d)) (omega arith) in
      omega (arith, low)
  spelled_low (a_tuple {d = d} {ts = ts} e n row c) = let low = chain_low d ts nil (row_low row) (omega arith) in omega (arith, low)
  spelled_low (a_list {d = d} {ts = ts} e n row c) = let low = chain_low d ts nil (row_low row) (omega arith) in omega (arith, low)
  spelled_low (a_list_with_tail {d = d} {ts = ts} {t = t} e n row b m spells x c) = let low = chain_low d ts (tail_of t) (row_low row) (tail_low d t (spelled_low spells)) in omega (arith, low)
  spelled_low _ = omega arith

  row_low : {d : ℕ} {l m : Lexeme} {ts : List Tree} → Row d l ts m → AreLow d ts
  row_low (one spells n) = (spelled_low spells, tt)
  row_low (more spells n c m row) = (spelled_low spells, row_low row)

-- forms that nest as deep as is read
abbrev pub FormsLow : Forms → Type 0
FormsLow (form line t rest) = (depth t ≤ 256) × FormsLow rest
FormsLow _ = Unit {0}

form_low : {d : ℕ} {p q : Place} {t : Tree} → Form d p t q → depth t ≤ d
form_low (a_form n spells m c) = spelled_low spells

pub forms_low : {p : Place} {fs : Forms} → AreForms p fs → FormsLow fs
forms_low (one_follows f rest) = (form_low f, forms_low rest)
forms_low _ = tt

-- the parts of a tuple and of a list

elements_low : (d : ℕ) (row : Tree) → row_depth row ≤ d → AreLow d (elements row)
elements_low d (cons t u) h = (omega arith, elements_low d u (omega arith))
elements_low d _ h = tt

pub parts_low : (d : ℕ) (t : Tree) (w : List ℕ) (parts : List Tree) → shape t ≡ tagged w parts → depth t ≤ suc d → AreLow d parts
parts_low d (tuple s (cons (atom r v) row)) w parts e h = let same : elements row ≡ parts = cc in subst (AreLow d) same (elements_low d row (omega arith))
parts_low d _ w parts e h = absurd (cc)

proper_low : (d : ℕ) (row : Tree) (ts : List Tree) → proper row ≡ Some ts → row_depth row ≤ d → AreLow d ts
proper_low d nil ts e h = let same : [] ≡ ts = cc in subst (AreLow d) same tt
proper_low d (cons t u) ts e h = by (proper u) refl (λ us is. proper_low d u us is (omega arith)) e
  where
    by : (o : Option (List Tree)) → proper u ≡ o → ((us : List Tree) → proper u ≡ Some us → AreLow d us) → option_map (λ us. t ∷ us) o ≡ Some ts → AreLow d ts
    by (Some us) is low e = let same : t ∷ us ≡ ts = cc in subst (AreLow d) same (omega arith, low us is)
    by None is low e = absurd (cc)
proper_low d _ ts e h = absurd (cc)

pub list_low : (d : ℕ) (t : Tree) (ts : List Tree) → list_elements t ≡ Some ts → depth t ≤ suc d → AreLow d ts
list_low d (list s row) ts e h = proper_low d row ts e (omega arith)
list_low d _ ts e h = absurd (cc)
