-- What is read as functions and their items is a row of them, and is read so wherever it is one.
use Rattle.bx_listing.proofs.Known.{◌≡◌, ℕ, List, [], ◌∷◌, ◌++◌, Option, Some, None, codes, refl, sym, ap, ◌∙◌, append_assoc, append-nil, AtomId, Tree, Item}
use Rattle.bx_listing.proofs.Known.{PlacedItem, FormWord, Table, read, and_then, ◌>>=◌, give, named, lined, Shape, bare, tagged, other, shape, number, word}
use Rattle.bx_listing.proofs.Known.{form_word, begun, function_form, tuple_item, read_as, item, Forms, ends, broken, form, ListedFunction, with_item}
use Rattle.bx_listing.proofs.Known.{with_optional, with_form_item, with_form, part_of, form_part, part, functions, Tuple, IsItem, AreFunctions}
use Rattle.bx_listing.proofs.Lemmas.{given, after_read, lined_read, Written, FormsWritten, IsFormWord, form_word_is}
use Rattle.bx_listing.proofs.ListedOperands.{at_word, names_are, names_read}
use Rattle.bx_listing.proofs.ListedItems.{IsPassed, item_is, item_read, note_read}
use Rattle.bx_listing.specs.Listed.{IsFunction, AreItems, no_more, an_annotation, an_item, no_function, a_function}
use Rattle.bx_listing.specs.declared.words.FormWord.TheVariants as words

-- a function whose items were read so far
abbrev pub started : AtomId → ℕ → ℕ → ListedFunction
started name arity entry = record { name = name; arity = arity; entry = entry; items = [] }

abbrev pub extended : ListedFunction → List PlacedItem → ListedFunction
extended f is = record f { items = f.items ++ is }

abbrev pub placed : ℕ → Item → PlacedItem
placed line i = record { line = line; item = i }

-- what a form adds to functions
data Adds (line : ℕ) (before : Table) (t : Tree) (front : List ListedFunction) (f : ListedFunction) : List ListedFunction → Table → Type 0 where
  passed : {note : Tree} → Tuple t (codes "%") (note ∷ []) → Adds line before t front f (front ++ f ∷ []) before
  added : {i : Item} {behind : Table} → IsItem before t i behind → Adds line before t front f (front ++ extended f (placed line i ∷ []) ∷ []) behind
  began : {name : AtomId} {arity entry : ℕ} {behind : Table} → IsFunction before t name arity entry behind → Adds line before t front f ((front ++ f ∷ []) ++ started name arity entry ∷ []) behind

with_last : (line : ℕ) (i : Item) (front : List ListedFunction) (f : ListedFunction) → with_item line i (front ++ f ∷ []) ≡ front ++ extended f (placed line i ∷ []) ∷ []
with_last line i (g ∷ h ∷ front) f = ap (λ fs. g ∷ fs) (with_last line i (h ∷ front) f)
with_last line i _ f = refl

with_some : (line : ℕ) (front : List ListedFunction) (f : ListedFunction) (s : Shape) → with_form line (front ++ f ∷ []) s ≡ with_form_item line (front ++ f ∷ []) s
with_some line [] f s = refl
with_some line (g ∷ front) f s = refl

function_is : (t : Tree) (b c : Table) (f : ListedFunction) (text : List ℕ) (parts : List Tree) → text ≡ codes "function" → shape t ≡ tagged text parts
    → (P : ListedFunction → Table → Type 0) → ((name : AtomId) (arity entry : ℕ) (behind : Table) → IsFunction b t name arity entry behind → P (started name arity entry) behind)
    → (function_form parts).run b ≡ read c f → P f c
function_is t b c f text (n ∷ a ∷ e ∷ []) is at P p h = by (word n) (number a) (number e) refl refl refl h
  where
    by : (o : Option (List ℕ)) (q r : Option ℕ) → word n ≡ o → number a ≡ q → number e ≡ r → (begun o q r).run b ≡ read c f → P f c
    by (Some w) (Some arity) (Some entry) e1 e2 e3 h =
        after_read ((named w).run b) (λ name. give (started name arity entry)) c f (λ d name e4 h4.
        given P (started name arity entry) f d c h4 (p name arity entry d (n, a, e, at_word t at is, (w, e1, names_are w b d name e4), e2, e3))) h
    by _ _ _ e1 e2 e3 h = absurd (cc)
function_is t b c f text _ is at P p h = absurd (cc)

part_is : (line : ℕ) (t : Tree) (b c : Table) (front : List ListedFunction) (f : ListedFunction) (out : List ListedFunction)
    → Written t → (part line (front ++ f ∷ []) (shape t)).run b ≡ read c out → Adds line b t front f out c
part_is line t b c front f out w h = by (shape t) refl (lined_read line ((form_part line (front ++ f ∷ []) (shape t)).run b) c out h)
  where
    of_item : (i : Option Item) (d : Table) → IsPassed b t i d → (give (with_optional line i (front ++ f ∷ []))).run d ≡ read c out → Adds line b t front f out c
    of_item (Some i) d is h = given (Adds line b t front f) (with_item line i (front ++ f ∷ [])) out d c h (rw (with_last line i front f) (added is))
    of_item None d is h = given (Adds line b t front f) (front ++ f ∷ []) out d c h (rw (sym is.2) (passed is.1))

    as_item : (s : Shape) → shape t ≡ s → (with_form line (front ++ f ∷ []) s).run b ≡ read c out → Adds line b t front f out c
    as_item s e h =
        after_read ((item (shape t)).run b) (λ i. give (with_optional line i (front ++ f ∷ []))) c out (λ d i e1 h1.
        of_item i d (item_is t b d i w e1) h1) (ap (λ s. (with_form_item line (front ++ f ∷ []) s).run b) e ∙ (sym (ap (λ r. r.run b) (with_some line front f s)) ∙ h))

    of_word : (text : List ℕ) (k : FormWord) (parts : List Tree) → IsFormWord text k → shape t ≡ tagged text parts → (part_of line (front ++ f ∷ []) text parts k).run b ≡ read c out → Adds line b t front f out c
    of_word text words.Function parts is e h =
        after_read ((function_form parts).run b) (λ g. give ((front ++ f ∷ []) ++ g ∷ [])) c out (λ d g e1 h1.
        given (Adds line b t front f) ((front ++ f ∷ []) ++ g ∷ []) out d c h1
        (function_is t b d g text parts is e (λ g d. Adds line b t front f ((front ++ f ∷ []) ++ g ∷ []) d) (λ name arity entry d a. began a) e1)) h
    of_word text k parts is e h = as_item (tagged text parts) e h

    by : (s : Shape) → shape t ≡ s → (form_part line (front ++ f ∷ []) s).run b ≡ read c out → Adds line b t front f out c
    by (tagged text parts) e h = of_word text (form_word text) parts (form_word_is text) e h
    by (bare text) e h = as_item (bare text) e h
    by other e h = as_item other e h

first_is : (line : ℕ) (t : Tree) (b c : Table) (out : List ListedFunction) (P : List ListedFunction → Table → Type 0)
    → ((name : AtomId) (arity entry : ℕ) (behind : Table) → IsFunction b t name arity entry behind → P (started name arity entry ∷ []) behind) → (part line [] (shape t)).run b ≡ read c out → P out c
first_is line t b c out P p h = by (shape t) refl (lined_read line ((form_part line [] (shape t)).run b) c out h)
  where
    of_word : (text : List ℕ) (k : FormWord) (parts : List Tree) → IsFormWord text k → shape t ≡ tagged text parts → (part_of line [] text parts k).run b ≡ read c out → P out c
    of_word text words.Function parts is e h =
        after_read ((function_form parts).run b) (λ g. give (g ∷ [])) c out (λ d g e1 h1. given P (g ∷ []) out d c h1 (function_is t b d g text parts is e (λ g d. P (g ∷ []) d) p e1)) h
    of_word text k parts is e h = absurd (cc)

    by : (s : Shape) → shape t ≡ s → (form_part line [] s).run b ≡ read c out → P out c
    by (tagged text parts) e h = of_word text (form_word text) parts (form_word_is text) e h
    by _ e h = absurd (cc)

-- the items that the forms go on with, the functions behind them, and what all of this makes
abbrev pub GoesOn : Table → Forms → List ListedFunction → ListedFunction → List ListedFunction → Table → Type 0
GoesOn before forms front f out behind =
    (is : List PlacedItem) × (between : Table) × (rest : Forms) × (fs : List ListedFunction) × AreItems before forms is between rest × AreFunctions between rest fs behind × (out ≡ front ++ extended f is ∷ fs)

extended_twice : (f : ListedFunction) (is more : List PlacedItem) → extended (extended f is) more ≡ extended f (is ++ more)
extended_twice f is more = ap (λ all. record f { items = all }) (append_assoc f.items is more)

extended_none : (f : ListedFunction) → extended f [] ≡ f
extended_none f = ap (λ all. record f { items = all }) (append-nil f.items)

behind_is : (forms : Forms) (b d : Table) (front : List ListedFunction) (f : ListedFunction) (out : List ListedFunction)
    → FormsWritten forms → (functions (front ++ f ∷ []) forms).run b ≡ read d out → GoesOn b forms front f out d
behind_is ends b d front f out w h =
    given (GoesOn b ends front f) (front ++ f ∷ []) out b d h ([], b, ends, [], no_more, no_function, ap (λ g. front ++ g ∷ []) (sym (extended_none f)))
behind_is (broken fault) b d front f out w h = absurd (cc)
behind_is (form line t rest) b d front f out w h =
    after_read ((part line (front ++ f ∷ []) (shape t)).run b) (λ done. functions done rest) d out (λ c done e1 h1. by (λ c d front f out h. behind_is rest c d front f out w.1 h) done c (part_is line t b c front f done w.0 e1) h1) h
  where
    by : ((c d : Table) (front : List ListedFunction) (f : ListedFunction) (out : List ListedFunction) → (functions (front ++ f ∷ []) rest).run c ≡ read d out → GoesOn c rest front f out d)
        → (done : List ListedFunction) (c : Table) → Adds line b t front f done c → (functions done rest).run c ≡ read d out → GoesOn b (form line t rest) front f out d
    by go _ _ (passed e) h1 =
        let (is, m, past, fs, items, more, same) = go b d front f out h1 in
        (is, m, past, fs, an_annotation e items, more, same)
    by go _ _ (added {i = i} {behind = c} a) h1 =
        let (is, m, past, fs, items, more, same) = go c d front (extended f (placed line i ∷ [])) out h1 in
        (placed line i ∷ is, m, past, fs, an_item a items, more, same ∙ ap (λ g. front ++ g ∷ fs) (extended_twice f (placed line i ∷ []) is))
    by go _ _ (began {name = name} {arity = arity} {entry = entry} {behind = c} a) h1 =
        let (is, m, past, fs, items, more, same) = go c d (front ++ f ∷ []) (started name arity entry) out h1 in (
          [],
          b,
          form line t rest,
          extended (started name arity entry) is ∷ fs,
          no_more,
          a_function a items more,
          same ∙ (append_assoc front (f ∷ []) (extended (started name arity entry) is ∷ fs) ∙ ap (λ g. front ++ g ∷ (extended (started name arity entry) is ∷ fs)) (sym (extended_none f))),
        )

pub functions_are : (forms : Forms) (b d : Table) (out : List ListedFunction) → FormsWritten forms → (functions [] forms).run b ≡ read d out → AreFunctions b forms out d
functions_are ends b d out w h = given (AreFunctions b ends) [] out b d h no_function
functions_are (broken fault) b d out w h = absurd (cc)
functions_are (form line t rest) b d out w h =
    after_read ((part line [] (shape t)).run b) (λ done. functions done rest) d out (λ c done e1.
    first_is line t b c done (λ done c. (functions done rest).run c ≡ read d out → AreFunctions b (form line t rest) out d) (λ name arity entry c a h1.
    let (is, m, past, fs, items, more, same) = behind_is rest c d [] (started name arity entry) out w.1 h1 in
    rw same (a_function a items more)) e1) h

-- a form that is no function goes to the last one
item_added : (line : ℕ) (t : Tree) (b c : Table) (front : List ListedFunction) (f : ListedFunction) (i : Option Item) → (item (shape t)).run b ≡ read c i
    → (part line (front ++ f ∷ []) (shape t)).run b ≡ read c (with_optional line i (front ++ f ∷ []))
item_added line t b c front f i h = ap (lined line) (by (shape t) h)
  where
    as_item : (s : Shape) → (item s).run b ≡ read c i → (with_form line (front ++ f ∷ []) s).run b ≡ read c (with_optional line i (front ++ f ∷ []))
    as_item s h = ap (λ r. r.run b) (with_some line front f s) ∙ ap (λ o. and_then o (λ i. give (with_optional line i (front ++ f ∷ [])))) h

    of_word : (text : List ℕ) (k : FormWord) (parts : List Tree) → (item (tagged text parts)).run b ≡ read c i → (tuple_item [] text k parts >>= λ r. give (read_as r)).run b ≡ read c i
        → (part_of line (front ++ f ∷ []) text parts k).run b ≡ read c (with_optional line i (front ++ f ∷ []))
    of_word text words.Function parts h same = absurd (cc)
    of_word text k parts h same = as_item (tagged text parts) h

    by : (s : Shape) → (item s).run b ≡ read c i → (form_part line (front ++ f ∷ []) s).run b ≡ read c (with_optional line i (front ++ f ∷ []))
    by (tagged text parts) h = of_word text (form_word text) parts h h
    by (bare text) h = as_item (bare text) h
    by other h = as_item other h

function_begun : (line : ℕ) (t : Tree) (b c : Table) (done : List ListedFunction) (name : AtomId) (arity entry : ℕ) → IsFunction b t name arity entry c
    → (part line done (shape t)).run b ≡ read c (done ++ started name arity entry ∷ [])
function_begun line t b c done name arity entry (n, a, e, is, (w, at, named_w), q, r) =
    rw (is, at, q, r, names_read w b c name named_w)

items_go : {b c : Table} {forms rest : Forms} {is : List PlacedItem} → AreItems b forms is c rest
    → (front : List ListedFunction) (f : ListedFunction) → (functions (front ++ f ∷ []) forms).run b ≡ (functions (front ++ extended f is ∷ []) rest).run c
items_go (no_more {before = b} {rest = rest}) front f = ap (λ g. (functions (front ++ g ∷ []) rest).run b) (sym (extended_none f))
items_go (an_annotation {before = b} {line = line} {t = t} {note = note} e g) front f = rw (item_added line t b b front f None (note_read t note b e)) (items_go g front f)
items_go (an_item {before = b} {between = c} {line = line} {t = t} {i = i} {is = is} a g) front f =
    rw (item_added line t b c front f (Some i) (item_read a), with_last line i front f, items_go g front (extended f (placed line i ∷ [])), extended_twice f (placed line i ∷ []) is)

functions_go : {b d : Table} {forms : Forms} {fs : List ListedFunction} → AreFunctions b forms fs d → (done : List ListedFunction) → (functions done forms).run b ≡ read d (done ++ fs)
functions_go (no_function {before = b}) done = ap (read b) (sym (append-nil done))
functions_go (a_function {before = b} {named = c} {behind = d} {line = line} {t = t} {name = name} {arity = arity} {entry = entry} {is = is} {fs = fs} a items more) done =
    rw (function_begun line t b c done name arity entry a, items_go items done (started name arity entry), functions_go more (done ++ extended (started name arity entry) is ∷ []))
    (ap (read d) (append_assoc done (extended (started name arity entry) is ∷ []) fs))

pub functions_read : {b d : Table} {forms : Forms} {fs : List ListedFunction} → AreFunctions b forms fs d → (functions [] forms).run b ≡ read d fs
functions_read are = functions_go are []
