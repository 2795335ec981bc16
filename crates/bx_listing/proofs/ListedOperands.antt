-- What is read as an operand is one, and is read so wherever it is one.
use Rattle.bx_listing.proofs.Known.{◌≡◌, ℕ, Bool, true, false, List, [], ◌∷◌, Option, Some, None, codes, refl, ap, ◌∙◌, if◌then◌else◌, option_map, AtomId}
use Rattle.bx_listing.proofs.Known.{naming, is_large, Tree, integer, atom, tuple, cons, guard_bif_with, Bif, Sort, Operand, OperandWord, Table, read, ◌>>=◌}
use Rattle.bx_listing.proofs.Known.{give, refuse, named, outcome, no_line, Shape, bare, tagged, shape, elements, number, word, operand_word, literal, Names}
use Rattle.bx_listing.proofs.Known.{operand, untyped, untyped_of, register, label, atom_word, source_of, source_in, source, simple, Tuple, IsRegister, in_typed}
use Rattle.bx_listing.proofs.Known.{IsValue, an_integer, an_atom, IsSource, a_register, a_value, IsPlain, IsOperand}
use Rattle.bx_listing.proofs.Lemmas.{some_then, by_word, by_operand_word, untyped_tagged, given, after_read, after_wanted, wanted_read, outcome_read, mapped}
use Rattle.bx_listing.proofs.{Lemmas.Written, Lemmas.parts_written, Lemmas.IsOperandWord, Lemmas.operand_word_is, ListedTerms.term_is, ListedTerms.term_read}
use Rattle.bx_listing.specs.ListedItems.{Target, Atom, AtomOperand, in_x, in_y, a_nil, a_literal, IsCallee, IsAmount, IsLabelled}
use Rattle.bx_listing.specs.Operands.{register_of, plain_register, only_y, label_of, label_in, callee_of, callee_in, callee, amount_in, amount, atom_of}
use Rattle.bx_listing.specs.Operands.{atom_in, atom_operand, atom_source, integer_source, word_source, value_of, value_in, value, within_height, fail_label}
use Rattle.bx_listing.specs.Operands.{bif_named, plain}
use Rattle.bx_terms.specs.declared.faults.Fault.TheVariants as faults
use Rattle.bx_ops.specs.declared.sorts.Sort.TheVariants as sorts
use Rattle.bx_listing.specs.declared.items.Operand.TheVariants as operands
use Rattle.bx_listing.specs.declared.words.OperandWord.TheVariants as words

-- a tuple that begins with a word, by what the word is
pub at_word : (t : Tree) {text word : List ℕ} {parts : List Tree} → shape t ≡ tagged text parts → text ≡ word → Tuple t word parts
at_word t {parts = parts} e is = e ∙ ap (λ w. tagged w parts) is

pub bare_word : (t : Tree) (text : List ℕ) → shape t ≡ bare text → word t ≡ Some text
bare_word (atom s w) text e = cc
bare_word (tuple s (cons (atom r w) row)) text e = absurd (cc)
bare_word _ text e = absurd (cc)

pub word_bare : (t : Tree) (text : List ℕ) → word t ≡ Some text → shape t ≡ bare text
word_bare (atom s w) text e = cc
word_bare _ text e = absurd (cc)

pub names_are : (text : List ℕ) (b c : Table) (a : AtomId) → (named text).run b ≡ read c a → Names b text a c
names_are text b c a e = outcome_read b c (naming b text) a e

pub names_read : (text : List ℕ) (b c : Table) (a : AtomId) → Names b text a c → (named text).run b ≡ read c a
names_read text b c a e = ap (outcome b) e

pub atom_is : (t : Tree) (b c : Table) (a : AtomId) → (atom_word t).run b ≡ read c a → Atom b t a c
atom_is t b c a e =
    after_wanted (faults.BadOperand no_line) (word t) named b c a (λ text is h. (text, is, names_are text b c a h)) e

pub atom_read : (t : Tree) (b c : Table) (a : AtomId) → Atom b t a c → (atom_word t).run b ≡ read c a
atom_read t b c a (text, w, names) = rw w (names_read text b c a names)

pub target_is : (t : Tree) (n : ℕ) → label t ≡ Some n → Target t n
target_is t n = by_operand_word label_in label_of t (Some n) (λ w ts. refl) (λ w h. cc) (λ h. cc) by
  where
    by : (text : List ℕ) (k : OperandWord) (parts : List Tree) → IsOperandWord text k → shape t ≡ tagged text parts → label_of k parts ≡ Some n → Target t n
    by text words.Label (u ∷ []) is e h = (u, at_word t e is, h)
    by text k parts is e h = absurd (cc)

pub target_read : (t : Tree) (n : ℕ) → Target t n → label t ≡ Some n
target_read t n (u, e, h) = rw (e, h)

plain_register_is : (t : Tree) (q : Operand) → plain_register (shape t) ≡ Some q → IsRegister t q
plain_register_is t q = by_operand_word plain_register register_of t (Some q) (λ w ts. refl) (λ w h. cc) (λ h. cc) by
  where
    by : (text : List ℕ) (k : OperandWord) (parts : List Tree) → IsOperandWord text k → shape t ≡ tagged text parts → register_of k parts ≡ Some q → IsRegister t q
    by text words.X (n ∷ []) is e h = mapped (IsRegister t) operands.X (number n) q h (λ k at. in_x (at_word t e is) at)
    by text words.Y (n ∷ []) is e h = mapped (IsRegister t) operands.Y (number n) q h (λ k at. in_y (at_word t e is) at)
    by text k parts is e h = absurd (cc)

-- R of `{tr,R,T}`, or the whole
unwrapped_is : (t inner : Tree) (text : List ℕ) (k : OperandWord) (row : List Tree) (q : Operand) → IsOperandWord text k → shape t ≡ tagged text (inner ∷ row)
    → ((q : Operand) → register inner ≡ Some q → IsRegister inner q) → plain_register (shape (untyped_of t k (untyped inner) row)) ≡ Some q → IsRegister t q
unwrapped_is t inner text words.Typed (type ∷ []) q is e under h = in_typed (at_word t e is) (under q h)
unwrapped_is t inner text k row q is e under h = plain_register_is t q h

pub register_is : (t : Tree) (q : Operand) → register t ≡ Some q → IsRegister t q
register_is (tuple s (cons (atom r text) (cons inner rest))) q h =
    unwrapped_is (tuple s (cons (atom r text) (cons inner rest))) inner text (operand_word text) (elements rest) q (operand_word_is text) refl (register_is inner) h
register_is t q h = plain_register_is t q h

alone_stays : (t inner : Tree) (k : OperandWord) → untyped_of t k inner [] ≡ t
alone_stays t inner words.Typed = refl
alone_stays t inner _ = refl

untyped_alone : (t n : Tree) (text : List ℕ) → shape t ≡ tagged text (n ∷ []) → untyped t ≡ t
untyped_alone (tuple s (cons (atom r w) (cons c rest))) n text e =
    let none : elements rest ≡ [] = cc in
    ap (untyped_of (tuple s (cons (atom r w) (cons c rest))) (operand_word w) (untyped c)) none ∙ alone_stays (tuple s (cons (atom r w) (cons c rest))) (untyped c) (operand_word w)
untyped_alone t n text e = absurd (cc)

pub register_read : {t : Tree} {q : Operand} → IsRegister t q → register t ≡ Some q
register_read (in_x {t = t} {n = n} e h) = rw (untyped_alone t n (codes "x") e, e, h)
register_read (in_y {t = t} {n = n} e h) = rw (untyped_alone t n (codes "y") e, e, h)
register_read (in_typed {t = t} {inner = inner} {type = type} e h) = rw (untyped_tagged t inner type (codes "tr") e) (register_read h)

-- the atom of `{atom,A}`
source_atom_is : (t u : Tree) (b c : Table) (x : Operand) → Tuple t (codes "atom") (u ∷ []) → (atom_source u).run b ≡ read c x → AtomOperand b t x c
source_atom_is t u b c x e h =
    after_read ((atom_word u).run b) (λ a. give (operands.Atom a)) c x (λ d y e1 h1.
    given (λ x c. AtomOperand b t x c) (operands.Atom y) x d c h1 (u, y, e, atom_is u b d y e1, refl)) h

source_atom_read : (u : Tree) (b c : Table) (a : AtomId) → Atom b u a c → (atom_source u).run b ≡ read c (operands.Atom a)
source_atom_read u b c a h = rw (atom_read u b c a h)

pub atom_operand_is : (t : Tree) (b c : Table) (x : Operand) → (atom_operand t).run b ≡ read c x → AtomOperand b t x c
atom_operand_is t b c x = by_operand_word (λ s. (atom_in s).run b) (λ k parts. (atom_of k parts).run b) t (read c x) (λ w ts. refl) (λ w h. cc) (λ h. cc) by
  where
    by : (text : List ℕ) (k : OperandWord) (parts : List Tree) → IsOperandWord text k → shape t ≡ tagged text parts → (atom_of k parts).run b ≡ read c x → AtomOperand b t x c
    by text words.Atom (u ∷ []) is e h = source_atom_is t u b c x (at_word t e is) h
    by text k parts is e h = absurd (cc)

pub atom_operand_read : (t : Tree) (b c : Table) (x : Operand) → AtomOperand b t x c → (atom_operand t).run b ≡ read c x
atom_operand_read t b c x (u, a, e, h, is) = rw (e, source_atom_read u b c a h, is)

-- the integer of `{integer,I}`
integer_is : (t n : Tree) (b c : Table) (x : Operand) → Tuple t (codes "integer") (n ∷ []) → (integer_source n).run b ≡ read c x → IsValue b t x c
integer_is t (integer s n) b c x e h = whole (is_large n) refl h
  where
    whole : (large : Bool) → is_large n ≡ large → ((if large then refuse (faults.LiteralRange no_line) else give n) >>= λ n. give (operands.Integer n)).run b ≡ read c x → IsValue b t x c
    whole true is h = absurd (cc)
    whole false is h = given (IsValue b t) (operands.Integer n) x b c h (an_integer (s, n, e, is, refl))
integer_is t _ b c x e h = absurd (cc)

pub value_is : (t : Tree) (b c : Table) (x : Operand) → (value t).run b ≡ read c x → IsValue b t x c
value_is t b c x = by_operand_word (λ s. (value_in s).run b) (λ k parts. (value_of k parts).run b) t (read c x) (λ w ts. refl) (λ w h. cc) (λ h. cc) by
  where
    by : (text : List ℕ) (k : OperandWord) (parts : List Tree) → IsOperandWord text k → shape t ≡ tagged text parts → (value_of k parts).run b ≡ read c x → IsValue b t x c
    by text words.Integer (n ∷ []) is e h = integer_is t n b c x (at_word t e is) h
    by text words.Atom (a ∷ []) is e h = an_atom (source_atom_is t a b c x (at_word t e is) h)
    by text words.Float (f ∷ []) is e h = absurd (cc)
    by text k parts is e h = absurd (cc)

pub value_read : {b c : Table} {t : Tree} {x : Operand} → IsValue b t x c → (value t).run b ≡ read c x
value_read (an_integer (s, n, e, is, same)) = rw (e, is, same)
value_read {b = b} {c = c} (an_atom (u, a, e, h, is)) = rw (e, source_atom_read u b c a h, is)

pub source_is : (t : Tree) (b c : Table) (x : Operand) → Written t → (source t).run b ≡ read c x → IsSource b t x c
source_is t b c x w =
    by_word operand_word IsOperandWord operand_word_is (λ s. (source_in t s).run b ≡ read c x) (λ k parts. (source_of t k parts).run b ≡ read c x) t (λ w ts h. h)
    (λ text e h. of_bare text (operand_word text) (operand_word_is text) e h) (λ e h. absurd (cc)) of_word
  where
    of_word : (text : List ℕ) (k : OperandWord) (parts : List Tree) → IsOperandWord text k → shape t ≡ tagged text parts → (source_of t k parts).run b ≡ read c x → IsSource b t x c
    of_word text words.Integer (n ∷ []) is e h = a_value (integer_is t n b c x (at_word t e is) h)
    of_word text words.Atom (a ∷ []) is e h = a_value (an_atom (source_atom_is t a b c x (at_word t e is) h))
    of_word text words.Literal (u ∷ []) is e h =
        after_read ((literal u).run b) within_height c x (λ d o l. some_then (λ o. (within_height o).run d) (read c x) o (λ h. cc) (λ y some h.
        let lit : Tuple t (codes "literal") (u ∷ []) = at_word t e is in
        let found = term_is u b d y (parts_written w (codes "literal") (u ∷ []) lit).0 (l ∙ ap (read d) some) in
        given (IsSource b t) (operands.Literal y) x d c h (a_literal lit found.0 found.1))) h
    of_word text words.Float (f ∷ []) is e h = absurd (cc)
    of_word text k parts is e h = wanted_read (IsSource b t) (faults.BadOperand no_line) (register t) b c x h (λ y e. a_register (register_is t y e))

    of_bare : (text : List ℕ) (k : OperandWord) → IsOperandWord text k → shape t ≡ bare text → (word_source k).run b ≡ read c x → IsSource b t x c
    of_bare text words.Nil is e h = given (IsSource b t) operands.Nil x b c h (a_nil (bare_word t text e ∙ ap Some is))
    of_bare text k is e h = absurd (cc)

-- a register stands in a tuple of its own words
register_tuple : {t : Tree} {q : Operand} → IsRegister t q → source t ≡ operand (register t)
register_tuple (in_x {t = t} e h) = ap (source_in t) e
register_tuple (in_y {t = t} e h) = ap (source_in t) e
register_tuple (in_typed {t = t} e h) = ap (source_in t) e

pub source_read : {b c : Table} {t : Tree} {x : Operand} → IsSource b t x c → (source t).run b ≡ read c x
source_read (a_register q) = rw (register_tuple q, register_read q)
source_read (a_value (an_integer (s, n, e, is, same))) = rw (e, is, same)
source_read {b = b} {c = c} (a_value (an_atom (u, a, e, h, is))) = rw (e, source_atom_read u b c a h, is)
source_read (a_nil {t = t} e) = rw (word_bare t (codes "nil") e)
source_read {b = b} {c = c} (a_literal {u = u} {x = x} e l low) = rw (e, term_read u b c x l low)

-- a function of any module
pub callee_is : (t : Tree) (b c : Table) (x : Operand) → (callee t).run b ≡ read c x → IsCallee b t x c
callee_is t b c x = by_operand_word (λ s. (callee_in s).run b) (λ k parts. (callee_of k parts).run b) t (read c x) (λ w ts. refl) (λ w h. cc) (λ h. cc) by
  where
    by : (text : List ℕ) (k : OperandWord) (parts : List Tree) → IsOperandWord text k → shape t ≡ tagged text parts → (callee_of k parts).run b ≡ read c x → IsCallee b t x c
    by text words.External (m ∷ f ∷ a ∷ []) is e h =
        after_read ((atom_word m).run b) (λ owner. atom_word f >>= λ function. operand (number a) >>= λ count. give (operands.Import (record { «module» = owner; function = function; arity = count }))) c x (λ b1 owner e1.
        after_read ((atom_word f).run b1) (λ function. operand (number a) >>= λ count. give (operands.Import (record { «module» = owner; function = function; arity = count }))) c x (λ b2 function e2.
        after_wanted (faults.BadOperand no_line) (number a) (λ count. give (operands.Import (record { «module» = owner; function = function; arity = count }))) b2 c x (λ count e3 h3.
        given (λ x c. IsCallee b t x c) (operands.Import (record { «module» = owner; function = function; arity = count })) x b2 c h3
        (m, f, a, b1, record { «module» = owner; function = function; arity = count }, at_word t e is, atom_is m b b1 owner e1, atom_is f b1 b2 function e2, e3, refl)))) h
    by text k parts is e h = absurd (cc)

pub callee_read : (t : Tree) (b c : Table) (x : Operand) → IsCallee b t x c → (callee t).run b ≡ read c x
callee_read t b c x (m, f, a, between, i, is, owner, function, count, same) =
    rw (is, atom_read m b between i.«module» owner, atom_read f between c i.function function, count, same)

-- how much of a kind of heap
pub amount_is : (t : Tree) (b c : Table) (x : Operand) → (amount t).run b ≡ read c x → IsAmount b t x c
amount_is t b c x h = by (shape t) refl h
  where
    by : (s : Shape) → shape t ≡ s → (amount_in s).run b ≡ read c x → IsAmount b t x c
    by (tagged text (n ∷ [])) e h =
        after_read ((named text).run b) (λ kind. operand (number n) >>= λ count. give (operands.Amount (record { kind = kind; count = count }))) c x (λ b1 kind e1.
        after_wanted (faults.BadOperand no_line) (number n) (λ count. give (operands.Amount (record { kind = kind; count = count }))) b1 c x (λ count e2 h2.
        given (λ x c. IsAmount b t x c) (operands.Amount (record { kind = kind; count = count })) x b1 c h2
        (text, n, record { kind = kind; count = count }, e, names_are text b b1 kind e1, e2, refl))) h
    by _ e h = absurd (cc)

pub amount_read : (t : Tree) (b c : Table) (x : Operand) → IsAmount b t x c → (amount t).run b ≡ read c x
amount_read t b c x (text, n, a, is, kind, count, same) = rw (is, names_read text b c a.kind kind, count, same)

only_y_is : (o : Option Operand) (x : Operand) → only_y o ≡ Some x → (n : ℕ) × (o ≡ Some (operands.Y n)) × (x ≡ operands.Y n)
only_y_is (Some (operands.Y n)) x e = let same : x ≡ operands.Y n = cc in (n, refl, same)
only_y_is _ x e = absurd (cc)

mapped_is : {A : Type 0} (f : A → Operand) (o : Option A) (x : Operand) → option_map f o ≡ Some x → (n : A) × (o ≡ Some n) × (x ≡ f n)
mapped_is f (Some n) x e = let same : x ≡ f n = cc in (n, refl, same)
mapped_is f None x e = absurd (cc)

bif_is : (n : ℕ) (o : Option (List ℕ)) (x : Operand) → bif_named n o ≡ Some x → (text : List ℕ) × (bif : Bif) × (o ≡ Some text) × (guard_bif_with text n ≡ Some bif) × (x ≡ operands.Bif bif)
bif_is n (Some text) x e = let (bif, is, same) = mapped_is operands.Bif (guard_bif_with text n) x e in (text, bif, refl, is, same)
bif_is n None x e = absurd (cc)

labelled_is : (f : ℕ → Operand) (t : Tree) (x : Operand) → option_map f (label t) ≡ Some x → IsLabelled f t x
labelled_is f t x e = let (n, at, same) = mapped_is f (label t) x e in (n, target_is t n at, same)

plain_is : (s : Sort) (t : Tree) (x : Operand) → plain s t ≡ Some x → IsPlain s t x
plain_is sorts.Register t x e = register_is t x e
plain_is sorts.YRegister t x e = let (n, at, same) = only_y_is (register t) x e in (n, register_is t (operands.Y n) at, same)
plain_is sorts.Target t x e = labelled_is operands.Label t x e
plain_is sorts.Fail t x e = labelled_is fail_label t x e
plain_is sorts.Place t x e = mapped_is operands.Place (number t) x e
plain_is sorts.Number t x e = mapped_is operands.Number (number t) x e
plain_is sorts.Arity t x e = mapped_is operands.Arity (number t) x e
plain_is sorts.Bif0 t x e = bif_is 0 (word t) x e
plain_is sorts.Bif1 t x e = bif_is 1 (word t) x e
plain_is sorts.Bif2 t x e = bif_is 2 (word t) x e
plain_is sorts.Mark t x e = let same : x ≡ operands.Nil = cc in same
plain_is s t x e = absurd (cc)

plain_read : (s : Sort) (t : Tree) (x : Operand) → IsPlain s t x → plain s t ≡ Some x
plain_read sorts.Register t x h = register_read h
plain_read sorts.YRegister t x (n, at, same) = rw (register_read at, same)
plain_read sorts.Target t x (n, at, same) = rw (target_read t n at, same)
plain_read sorts.Fail t x (n, at, same) = rw (target_read t n at, same)
plain_read sorts.Place t x (n, at, same) = rw (at, same)
plain_read sorts.Number t x (n, at, same) = rw (at, same)
plain_read sorts.Arity t x (n, at, same) = rw (at, same)
plain_read sorts.Bif0 t x (text, bif, w, is, same) = rw (w, is, same)
plain_read sorts.Bif1 t x (text, bif, w, is, same) = rw (w, is, same)
plain_read sorts.Bif2 t x (text, bif, w, is, same) = rw (w, is, same)
plain_read sorts.Mark t x h = rw h
plain_read s t x h = absurd h

pub operand_is : (s : Sort) (t : Tree) (b c : Table) (x : Operand) → Written t → (simple s t).run b ≡ read c x → IsOperand b s t x c
operand_is sorts.Source t b c x w h = source_is t b c x w h
operand_is sorts.Value t b c x w h = value_is t b c x h
operand_is sorts.Atom t b c x w h = atom_operand_is t b c x h
operand_is sorts.Callee t b c x w h = callee_is t b c x h
operand_is sorts.Amount t b c x w h = amount_is t b c x h
operand_is s t b c x w h =
    wanted_read (λ x c. IsPlain s t x × (b ≡ c)) (faults.BadOperand no_line) (plain s t) b c x h (λ y e. (plain_is s t y e, refl))

pub operand_read : (s : Sort) (t : Tree) (b c : Table) (x : Operand) → IsOperand b s t x c → (simple s t).run b ≡ read c x
operand_read sorts.Source t b c x h = source_read h
operand_read sorts.Value t b c x h = value_read h
operand_read sorts.Atom t b c x h = atom_operand_read t b c x h
operand_read sorts.Callee t b c x h = callee_read t b c x h
operand_read sorts.Amount t b c x h = amount_read t b c x h
operand_read s t b c x (h, same) = ap (λ o. (operand o).run b) (plain_read s t x h) ∙ ap (λ b. read b x) same
