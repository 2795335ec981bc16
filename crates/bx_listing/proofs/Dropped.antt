-- Forms that are dropped: what is read behind them is what is read with them.
use Rattle.bx_listing.proofs.Known.{length-append, ◌≡◌, ℕ, ◌<◌, Bool, true, false, List, [], ◌∷◌, ◌++◌, length, inr, Option, Some, None, codes, Result, Ok}
use Rattle.bx_listing.proofs.Known.{refl, sym, ap, subst, ◌∙◌, arith, nat_lt, if◌then◌else◌, nat_tests, Gives, Fault, Span, Place, Tree, atom, tuple, nil, cons}
use Rattle.bx_listing.proofs.Known.{takes_memory, Table, read, give, Shape, tagged, FormWord, form_word, Item, item, function_form, ListedFunction, Forms, form}
use Rattle.bx_listing.proofs.Known.{moved, forms, forms_on, shape, is_attributes, IsForm, ReadsForms, taken, taken_at, behind_attributes, behind_labels}
use Rattle.bx_listing.proofs.Known.{behind_head, and_so, with_optional, with_form, part_of, form_part, part, functions, located, IsDropped, MakeSame}
use Rattle.bx_listing.proofs.Lemmas.{given, after_read, forms_next, taken_form, lined_read}
use Rattle.bx_terms.specs.Outcomes.{◌>>=◌}
use Rattle.bx_text.{proofs.Outcomes.gives_same, specs.Pairs.IsPairForm}
use Rattle.bx_listing.specs.Forms.{next_form}
use Rattle.bx_listing.specs.declared.words.FormWord.TheVariants as words

abbrev pair_of : List ℕ → Span → Span → Tree → Tree
pair_of word s r t = tuple s (cons (atom r word) (cons t nil))

kept_shorter : (b : Bool) (x : Tree × Place) → b ≡ true → ◌≡◌ {A = Result (Option (Tree × Place)) Fault} (Ok (if b then Some x else None)) (Ok (Some x))
kept_shorter true x e = refl
kept_shorter false x e = absurd (cc)

pub dropped_form : (word : List ℕ) (p q : Place) → length q.rest < length p.rest → IsPairForm word p q → IsDropped word p q
unfolding next_form
dropped_form word p q less (s, r, t, e) =
    (s, r, t, ap (λ o. o >>= λ o. Ok (moved p o)) e ∙ kept_shorter (nat_lt (length q.rest) (length p.rest)) (pair_of word s r t, q) (grind (arith, nat_tests)))

-- the forms from a place on begin with what is dropped
forms_are : (word : List ℕ) (p q : Place) (s r : Span) (t : Tree) → next_form p ≡ Ok (Some (pair_of word s r t, q)) → forms p ≡ form s.line (pair_of word s r t) (forms q)
forms_are word p q s r t e = forms_next p ∙ ap (λ o. forms_on o forms) e

pub attributes_dropped : (last : ℕ) (p q : Place) → IsDropped (codes "attributes") p q → behind_head last (forms p) ≡ and_so (taken last (forms q)) behind_labels
attributes_dropped last p q (s, r, t, e) = ap (behind_head last) (forms_are (codes "attributes") p q s r t e)

pub attributes_passed : {X : Type 0} (v : X → Forms) (r : Result X Fault) (last : ℕ) (p q : Place) → IsDropped (codes "attributes") p q
    → Gives (takes_memory q) v r (and_so (taken last (forms q)) behind_labels) → Gives (ReadsForms p) v r (behind_head last (forms p))
attributes_passed v r last p q (s, b, t, e) h =
    gives_same (takes_memory q) (ReadsForms p) v r _ _ (λ k. inr (subst IsForm (sym (forms_are (codes "attributes") p q s b t e)) tt)) (sym (attributes_dropped last p q (s, b, t, e))) h

-- the same where the attributes were read
pub attributes_read : {X : Type 0} (v : X → Forms) (r : Result X Fault) (last : ℕ) (p q : Place) (f : Tree) → taken last (forms p) ≡ Ok (taken_at f q) → is_attributes (shape f) ≡ true
    → Gives (takes_memory q) v r (and_so (taken last (forms q)) behind_labels) → Gives (ReadsForms p) v r (behind_head last (forms p))
attributes_read v r last p q f e is h =
    let here : behind_head last (forms p) ≡ behind_attributes last (taken_at f q) = ap (λ o. and_so o (behind_attributes last)) e in
    let on : behind_attributes last (taken_at f q) ≡ and_so (taken last (forms q)) behind_labels =
    ap (λ (b : Bool). if b then and_so (taken last (forms q)) behind_labels else behind_labels (taken_at f q)) is in
    gives_same (takes_memory q) (ReadsForms p) v r _ _ (λ k. inr (taken_form last (forms p) (taken_at f q) e)) (sym (here ∙ on)) h

pub annotation_dropped : (p q : Place) → IsDropped (codes "%") p q → MakeSame (forms p) (forms q)
annotation_dropped p q (s, r, t, e) = (by, λ here. ap (located here) (forms_are (codes "%") p q s r t e))
  where
    by : (done : List ListedFunction) (texts : Table) → 0 < length done → (functions done (forms p)).run texts ≡ (functions done (forms q)).run texts
    by [] texts some = absurd (omega (arith, some))
    by (f ∷ fs) texts some = ap (λ x. (functions (f ∷ fs) x).run texts) (forms_are (codes "%") p q s r t e)

pub same_none : (fs : Forms) → MakeSame fs fs
same_none fs = (λ done texts some. refl, λ here. refl)

pub same_more : (fs gs hs : Forms) → MakeSame fs gs → MakeSame gs hs → MakeSame fs hs
same_more fs gs hs a b = (λ done texts some. a.0 done texts some ∙ b.0 done texts some, λ here. a.1 here ∙ b.1 here)

-- behind a form that is good there is a function
kept_item : (line : ℕ) (i : Option Item) (f : ListedFunction) (fs : List ListedFunction) → 0 < length (with_optional line i (f ∷ fs))
kept_item line None f fs = omega arith
kept_item line (Some i) f [] = omega arith
kept_item line (Some i) f (g ∷ fs) = omega arith

form_some : (line : ℕ) (done more : List ListedFunction) (s : Shape) (texts mid : Table) → (with_form line done s).run texts ≡ read mid more → 0 < length more
form_some line [] more s texts mid e = absurd (cc)
form_some line (f ∷ fs) more s texts mid e =
    after_read ((item s).run texts) (λ i. give (with_optional line i (f ∷ fs))) mid more (λ t i e1 h. given (λ gs c. 0 < length gs) (with_optional line i (f ∷ fs)) more t mid h (kept_item line i f fs)) e

word_some : (line : ℕ) (done more : List ListedFunction) (text : List ℕ) (parts : List Tree) (w : FormWord) (texts mid : Table) → (part_of line done text parts w).run texts ≡ read mid more → 0 < length more
word_some line done more text parts words.Function texts mid e =
    after_read ((function_form parts).run texts) (λ f. give (done ++ f ∷ [])) mid more (λ t f e1 h. given (λ fs c. 0 < length fs) (done ++ f ∷ []) more t mid h (omega (arith, length-append done (f ∷ [])))) e
word_some line done more text parts _ texts mid e = form_some line done more (tagged text parts) texts mid e

pub part_some : (line : ℕ) (done more : List ListedFunction) (s : Shape) (texts mid : Table) → (part line done s).run texts ≡ read mid more → 0 < length more
part_some line done more s texts mid h = by s (lined_read line ((form_part line done s).run texts) mid more h)
  where
    by : (s : Shape) → (form_part line done s).run texts ≡ read mid more → 0 < length more
    by (tagged text parts) e = word_some line done more text parts (form_word text) texts mid e
    by s e = form_some line done more s texts mid e
