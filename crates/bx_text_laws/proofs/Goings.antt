-- Reading, and the first fault where something is wanted.
use Rattle.bx_text_laws.proofs.Commons.{arith, ◌≡◌, List, [], ◌∷◌, ◌++◌, Result, Ok, Err, refl, sym, ap, ◌∙◌, subst, append_assoc, append-nil, ◌⊎◌, inl, inr, ◌↔◌, ◌>>=◌, Fault, BadTerm, TooDeep, Place}
use Rattle.bx_text_laws.proofs.Commons.{Token, Lexeme, lexeme_at, passed, ok_same, meant, Stood}
use Rattle.bx_text.specs.Named as named
use Rattle.bx_text.specs.Token as token
use Rattle.bx_text_laws.specs.Lexemes.{NextFails}
use Rattle.bx_text_laws.specs.Faults as faults
use Rattle.bx_text_laws.specs.Faults.{Bracket, opening, closing, Wanted, Move, misplaced, too_deep, taken, instead, Meets, Does, Refused}
use Rattle.bx_text_laws.proofs.NextFailing.{next_fails}
use Rattle.bx_text_laws.proofs.Sentences.{given, plainly, step, back}
use Rattle.bx_text_laws.proofs.Between.{Clean, clean_here, clean_on, clean_token}

-- a token does one thing
opening_one : (k j : Bracket) → opening k ≡ opening j → k ≡ j
opening_one k j e = grind arith

abbrev pub Opens : Token → Type 0
Opens token.open_tuple = Unit {0}
Opens token.open_list = Unit {0}
Opens token.open_map = Unit {0}
Opens token.open_binary = Unit {0}
Opens t = ⊥

pub opens : (k : Bracket) → Opens (opening k)
opens s = grind arith

no_comma : (k : Bracket) → named.comma ≡ closing k → ⊥
no_comma k e = grind arith

meets_one : {w : Wanted} {t : Token} {m n : Move} → Meets w t m → Meets w t n → m ≡ n
meets_one (faults.a_bracket k {d = d} e) (faults.a_bracket j f) = ap (λ k. faults.inside d (faults.first_in k)) (opening_one k j (sym e ∙ f))
meets_one a (faults.a_bracket k e) = absurd (subst Opens (sym e) (opens k))
meets_one (faults.a_bracket k e) b = absurd (subst Opens (sym e) (opens k))
meets_one (faults.at_last {k = k} e) faults.a_comma = absurd (no_comma k e)
meets_one faults.a_comma (faults.at_last {k = k} e) = absurd (no_comma k e)
meets_one (faults.at_last e) faults.a_bar = cc
meets_one faults.a_bar (faults.at_last e) = cc
meets_one a b = refl

pub does_one : {w : Wanted} {t : Token} {m n : Move} → Does w t m → Does w t n → m ≡ n
does_one (inl a) (inl b) = meets_one a b
does_one {m = m} (inl a) (inr (x, f)) = absurd (x m a)
does_one {n = n} (inr (x, e)) (inl b) = absurd (x n b)
does_one (inr (x, e)) (inr (y, f)) = e ∙ sym f

-- the next token is one and no other
found_same : (p : Place) (l k : Lexeme) → lexeme_at p ≡ Ok l → Stood p k → plainly l ≡ k
found_same p l k n st = let (v, m, h) = back p k st in ap plainly (ok_same l (given v k) (sym n ∙ h)) ∙ ap (λ t. given t k) m

not_both : (p : Place) (k : Lexeme) (g : Fault) → lexeme_at p ≡ Err g → Stood p k → ⊥
not_both p k g n st = let (v, m, h) = back p k st in let no : ◌≡◌ {A = Result Lexeme Fault} (Err g) (Ok (given v k)) = sym n ∙ h in cc

-- where there is one, what it does decides
abbrev pub Onward : Move → List Wanted → Place → Lexeme → Fault → Type 0
Onward misplaced ws p l f = f ≡ BadTerm l.line
Onward too_deep ws p l f = f ≡ TooDeep l.line
Onward (taken vs) ws p l f = Refused (vs ++ ws) l.after f
Onward (instead vs) ws p l f = Refused (vs ++ ws) p f

refused_is : {w : Wanted} {ws : List Wanted} {p : Place} {f : Fault} → Refused (w ∷ ws) p f → NextFails p f ⊎ ((k : Lexeme) × (m : Move) × Stood p k × Does w k.token m × Onward m ws p k f)
refused_is (faults.no_token h) = inl h
refused_is (faults.bad_term {l = k} st e) = inr (k, misplaced, st, e, refl)
refused_is (faults.nested {l = k} st e) = inr (k, too_deep, st, e, refl)
refused_is (faults.behind {vs = vs} {l = k} st e r) = inr (k, taken vs, st, e, r)
refused_is (faults.again {vs = vs} {l = k} st e r) = inr (k, instead vs, st, e, r)

-- where there is no next token, its fault is the first
pub its_own : (w : Wanted) (ws : List Wanted) (p : Place) (g f : Fault) → lexeme_at p ≡ Err g → Refused (w ∷ ws) p f ↔ (f ≡ g)
its_own w ws p g f n = (
  λ r. elim (refused_is r) [ inl h ↦ let there : lexeme_at p ≡ Err f = (next_fails p f).1 h in cc | inr x ↦ absurd (not_both p x.0 g n x.2) ],
  λ e. subst (λ f. Refused (w ∷ ws) p f) (sym e) (faults.no_token ((next_fails p g).0 n)),
)

same_onward : (m : Move) (ws : List Wanted) (p : Place) (f : Fault) (l : Lexeme) → Onward m ws p (plainly l) f → Onward m ws p l f
same_onward misplaced ws p f l o = o
same_onward m ws p f l o = o

goes_out : {w : Wanted} {ws : List Wanted} {p : Place} {f : Fault} (l : Lexeme) (m : Move) → lexeme_at p ≡ Ok l → Does w (meant l.token) m → Refused (w ∷ ws) p f → Onward m ws p l f
goes_out {w = w} {ws = ws} {p = p} {f = f} l m n d r =
    elim (refused_is r) [
      | inl h ↦ absurd (let there : lexeme_at p ≡ Err f = (next_fails p f).1 h in cc)
      | inr x ↦
          let (k, o, st, e, y) = x in
          let same : plainly l ≡ k = found_same p l k n st in
          let move : m ≡ o = does_one d (subst (λ (k : Lexeme). Does w k.token o) (sym same) e) in
          same_onward m ws p f l (subst (λ m. Onward m ws p (plainly l) f) (sym move) (subst (λ k. Onward o ws p k f) (sym same) y))
    ]

goes_in : (w : Wanted) (ws : List Wanted) (p : Place) (f : Fault) (l : Lexeme) (m : Move) → lexeme_at p ≡ Ok l → Does w (meant l.token) m → Onward m ws p l f → Refused (w ∷ ws) p f
goes_in w ws p f l misplaced n d e = subst (λ f. Refused (w ∷ ws) p f) (sym e) (faults.bad_term (step p l n) d)
goes_in w ws p f l too_deep n d e = subst (λ f. Refused (w ∷ ws) p f) (sym e) (faults.nested (step p l n) d)
goes_in w ws p f l (taken vs) n d r = faults.behind (step p l n) d r
goes_in w ws p f l (instead vs) n d r = faults.again (step p l n) d r

pub by_token : (w : Wanted) (ws : List Wanted) (p : Place) (f : Fault) (l : Lexeme) (m : Move) → lexeme_at p ≡ Ok l → Does w (meant l.token) m → Refused (w ∷ ws) p f ↔ Onward m ws p l f
by_token w ws p f l m n d = (λ r. goes_out l m n d r, λ o. goes_in w ws p f l m n d o)

-- something is wanted
abbrev pub Full : List Wanted → Type 0
Full [] = ⊥
Full (w ∷ ws) = Unit {0}

full_on : (zs us : List Wanted) → Full us → Full (zs ++ us)
full_on [] us h = h
full_on (z ∷ zs) us h = tt

-- from p on, where vs are wanted, a reader's answer x leaves `Left x` wanted at a place that `At` tells, and its fault is the
-- first, whatever is wanted behind them; and the text from c on up to that place is in UTF-8
pub data Going {A : Type 0} (Left : A → List Wanted) (At : A → Place → Type 0) (vs : List Wanted) (p c : Place) : Result A Fault → Type 0 where
  goes : {x : A} (r : Place) → At x r → Clean c r → ((us : List Wanted) → Full us → (f : Fault) → Refused (vs ++ us) p f ↔ Refused (Left x ++ us) r f) → Going Left At vs p c (Ok x)
  fails : {g : Fault} → ((us : List Wanted) → Full us → (f : Fault) → Refused (vs ++ us) p f ↔ (f ≡ g)) → Going Left At vs p c (Err g)

pub both_ways : {A B C : Type 0} → A ↔ B → B ↔ C → A ↔ C
both_ways a b = (λ x. b.0 (a.0 x), λ z. a.1 (b.1 z))

pub turned : {A B : Type 0} → A ↔ B → B ↔ A
turned a = (a.1, a.0)

pub as_is : {A : Type 0} → A ↔ A
as_is = (λ x. x, λ x. x)

regrouped : (vs zs us : List Wanted) (p : Place) (f : Fault) → Refused ((vs ++ zs) ++ us) p f ↔ Refused (vs ++ (zs ++ us)) p f
regrouped vs zs us p f = (λ r. rw append_assoc at r, λ r. rw append_assoc r)

pub change : {A : Type 0} {Left : A → List Wanted} {At : A → Place → Type 0} {ws : List Wanted} {q c d : Place} {r : Result A Fault} (vs : List Wanted) (p : Place)
    → ((us : List Wanted) → Full us → (f : Fault) → Refused (vs ++ us) p f ↔ Refused (ws ++ us) q f) → Clean d c → Going Left At ws q c r → Going Left At vs p d r
change vs p e k (goes r a c h) = goes r a (clean_on k c) (λ us full f. both_ways (e us full f) (h us full f))
change vs p e k (fails h) = fails (λ us full f. both_ways (e us full f) (h us full f))

-- one reader behind the other
pub then : {A B : Type 0} {Left : A → List Wanted} {At : A → Place → Type 0} {Later : B → List Wanted} {There : B → Place → Type 0} {vs : List Wanted} {p c : Place} {r : Result A Fault}
    (zs : List Wanted) (next : A → Result B Fault) → Going Left At vs p c r → ((x : A) (q : Place) → At x q → Clean c q → Going Later There (Left x ++ zs) q q (next x))
    → Going Later There (vs ++ zs) p c (r >>= next)
then {Left = Left} {vs = vs} {p = p} zs next (goes {x = x} q a c h) k =
    change (vs ++ zs) p (λ us full f. both_ways (regrouped vs zs us p f) (both_ways (h (zs ++ us) (full_on zs us full) f) (turned (regrouped (Left x) zs us q f)))) c (k x q a c)
then {vs = vs} {p = p} zs next (fails h) k = fails (λ us full f. both_ways (regrouped vs zs us p f) (h (zs ++ us) (full_on zs us full) f))

-- answers that leave nothing wanted: a place, or what ends at one
abbrev pub Nothing : {A : Type 0} → A → List Wanted
Nothing x = []

abbrev pub Here : Place → Place → Type 0
Here x r = x ≡ r

abbrev pub Ends : {A : Type 0} → A × Place → Place → Type 0
Ends x r = x.1 ≡ r

abbrev pub Next : Lexeme → Place → Type 0
Next l r = lexeme_at r ≡ Ok l

-- nothing wanted behind
pub trim : {A : Type 0} {Left : A → List Wanted} {At : A → Place → Type 0} {vs : List Wanted} {p c : Place} {r : Result A Fault} → Going Left At (vs ++ []) p c r → Going Left At vs p c r
trim h = rw append-nil at h

pub untrim : {A : Type 0} {Left : A → List Wanted} {At : A → Place → Type 0} {vs : List Wanted} {p c : Place} {r : Result A Fault} → Going Left At vs p c r → Going Left At (vs ++ []) p c r
untrim h = rw append-nil h

pub then_last : {A B : Type 0} {Left : A → List Wanted} {At : A → Place → Type 0} {Later : B → List Wanted} {There : B → Place → Type 0} {vs : List Wanted} {p c : Place} {r : Result A Fault}
    (next : A → Result B Fault) → Going Left At vs p c r → ((x : A) (q : Place) → At x q → Clean c q → Going Later There (Left x) q q (next x)) → Going Later There vs p c (r >>= next)
then_last {vs = vs} next h k = trim (then [] next h (λ x q a c. untrim (k x q a c)))

then_by : {A B : Type 0} {Later : B → List Wanted} {There : B → Place → Type 0} {vs : List Wanted} {p c : Place} {r : Result A Fault} (end : A → Place)
    (zs : List Wanted) (next : A → Result B Fault) → Going Nothing (λ x q. end x ≡ q) vs p c r → ((x : A) → Clean c (end x) → Going Later There zs (end x) (end x) (next x)) → Going Later There (vs ++ zs) p c (r >>= next)
then_by {Later = Later} {There = There} {c = c} end zs next h k =
    then zs next h (λ x q e a. subst (λ q. Going Later There zs q q (next x)) e (k x (subst (λ q. Clean c q) (sym e) a)))

pub then_place : {B : Type 0} {Later : B → List Wanted} {There : B → Place → Type 0} {vs : List Wanted} {p c : Place} {r : Result Place Fault}
    (zs : List Wanted) (next : Place → Result B Fault) → Going Nothing Here vs p c r → ((q : Place) → Clean c q → Going Later There zs q q (next q)) → Going Later There (vs ++ zs) p c (r >>= next)
then_place = then_by (λ q. q)

pub then_end : {A B : Type 0} {Later : B → List Wanted} {There : B → Place → Type 0} {vs : List Wanted} {p c : Place} {r : Result (A × Place) Fault}
    (zs : List Wanted) (next : A × Place → Result B Fault) → Going Nothing Ends vs p c r → ((x : A × Place) → Clean c x.1 → Going Later There zs x.1 x.1 (next x)) → Going Later There (vs ++ zs) p c (r >>= next)
then_end = then_by (λ x. x.1)

pub done : {A : Type 0} (x : A × Place) → Going Nothing Ends [] x.1 x.1 (Ok x)
done x = goes x.1 refl (clean_here x.1) (λ us full f. as_is)

pub done_place : (q : Place) → Going Nothing Here [] q q (Ok q)
done_place q = goes q refl (clean_here q) (λ us full f. as_is)

pub passed_goes : {A : Type 0} {vs : List Wanted} {p c : Place} {r : Result (A × Place) Fault} → Going Nothing Ends vs p c r → Going Nothing Here vs p c (passed r)
passed_goes {A = A} h = trim (then_end [] (λ (x : A × Place). Ok x.1) h (λ x c. done_place x.1))

-- the next token
pub next_fault : (p : Place) (g : Fault) → lexeme_at p ≡ Err g → (us : List Wanted) → Full us → (f : Fault) → Refused us p f ↔ (f ≡ g)
next_fault p g e [] full f = absurd full
next_fault p g e (u ∷ us) full f = its_own u us p g f e

pub next_at : (p : Place) → Going Nothing Next [] p p (lexeme_at p)
next_at p = by (lexeme_at p) refl
  where
    by : (r : Result Lexeme Fault) → lexeme_at p ≡ r → Going Nothing Next [] p p r
    by (Ok l) e = goes p e (clean_here p) (λ us full f. as_is)
    by (Err g) e = fails (next_fault p g e)

pub from_token : {A : Type 0} {Left : A → List Wanted} {At : A → Place → Type 0} {vs : List Wanted} {r : Result A Fault} (p : Place) (l : Lexeme) → lexeme_at p ≡ Ok l → Going Left At vs p l.after r → Going Left At vs p p r
from_token {vs = vs} p l n h = change vs p (λ us full f. as_is) (clean_token p l n) h

pub taking : {A : Type 0} {Left : A → List Wanted} {At : A → Place → Type 0} {r : Result A Fault} (w : Wanted) (vs zs : List Wanted) (p : Place) (l : Lexeme) → lexeme_at p ≡ Ok l
    → Does w (meant l.token) (taken vs) → Going Left At (vs ++ zs) l.after l.after r → Going Left At (w ∷ zs) p l.after r
taking w vs zs p l n d h =
    change (w ∷ zs) p (λ us full f. both_ways (by_token w (zs ++ us) p f l (taken vs) n d) (turned (regrouped vs zs us l.after f))) (clean_here l.after) h

pub again : {A : Type 0} {Left : A → List Wanted} {At : A → Place → Type 0} {r : Result A Fault} {c : Place} (w : Wanted) (vs zs : List Wanted) (p : Place) (l : Lexeme) → lexeme_at p ≡ Ok l
    → Does w (meant l.token) (instead vs) → Going Left At (vs ++ zs) p c r → Going Left At (w ∷ zs) p c r
again {c = c} w vs zs p l n d h =
    change (w ∷ zs) p (λ us full f. both_ways (by_token w (zs ++ us) p f l (instead vs) n d) (turned (regrouped vs zs us p f))) (clean_here c) h

pub misplaces : {A : Type 0} {Left : A → List Wanted} {At : A → Place → Type 0} {c : Place} (w : Wanted) (zs : List Wanted) (p : Place) (l : Lexeme) → lexeme_at p ≡ Ok l
    → Does w (meant l.token) misplaced → Going Left At (w ∷ zs) p c (Err (BadTerm l.line))
misplaces w zs p l n d = fails (λ us full f. by_token w (zs ++ us) p f l misplaced n d)

pub nests : {A : Type 0} {Left : A → List Wanted} {At : A → Place → Type 0} {c : Place} (w : Wanted) (zs : List Wanted) (p : Place) (l : Lexeme) → lexeme_at p ≡ Ok l
    → Does w (meant l.token) too_deep → Going Left At (w ∷ zs) p c (Err (TooDeep l.line))
nests w zs p l n d = fails (λ us full f. by_token w (zs ++ us) p f l too_deep n d)
