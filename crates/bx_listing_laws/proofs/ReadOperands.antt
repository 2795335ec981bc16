-- An operand that was read is one that can be written.
use Rattle.std.proofs.Common.{◌≡◌, ℕ, suc, ◌+◌, ◌≤◌, Bool, true, false, List, [], ◌∷◌, length, Some, pos, refl, sym, ap, subst, arith, codes, nat_eq, if◌then◌else◌, ⊎_elim, length-append}
use Rattle.std.specs.Prelude.{bytes_eq}
use Rattle.std.specs.List.{AllByRecursion}
use Rattle.std.proofs.lemmas.Bool.Decides.{nat_tests}
use Rattle.std.proofs.lemmas.List.Quantifiers.{position-Some}
use Rattle.bx_terms.specs.declared.atom_table.AtomId.{AtomId}
use Rattle.bx_terms.specs.Tree as term
use Rattle.bx_terms.proofs.AtomLaws.{named_cases}
use Rattle.bx_text.specs.Tree.{Tree, integer}
use Rattle.bx_ops.specs.declared.sorts.Sort.{Sort}
use Rattle.bx_ops.specs.declared.sorts.Sort.TheVariants as sorts
use Rattle.bx_listing.specs.declared.items.Operand.{Operand}
use Rattle.bx_listing.specs.declared.items.Operand.TheVariants as operands
use Rattle.bx_listing.specs.Reading.{Table}
use Rattle.bx_listing.specs.Shape.{in_range}
use Rattle.bx_listing.specs.Operands.{fail_label}
use Rattle.bx_listing.specs.ListedTerms.{Names, IsTerm, an_int, a_name, a_tuple, a_list, AreElements, no_element, an_element, IsRow, an_end, a_tail, a_cell}
use Rattle.bx_listing.specs.ListedItems.{Number, AtomOperand, IntegerOperand, IsRegister, in_x, in_y, in_typed, IsValue, an_integer, an_atom, IsSource, a_register, a_value, a_nil, a_literal, IsPlain, IsOperand, AreMembers, no_member, a_member}
use Rattle.bx_listing_laws.specs.Spellable.{IsSpellable, AreSpellable, nesting, inner_nesting}
use Rattle.bx_listing_laws.specs.Writable.{IsHeld, InRange, IsWritableOperand}
use Rattle.bx_listing_laws.proofs.Depths.{depth, row_depth, parts_low}

-- a table that is no longer than the last one, and what was read with it
abbrev pub Within : Table → Table → Type 0 → Type 0
Within before last Also = (length before ≤ length last) × Also

pub named_within : (last b c : Table) (text : List ℕ) (a : AtomId) → Names b text a c → length c ≤ length last → Within b last (IsHeld last a)
named_within last b c text a h l =
    ⊎_elim
    (λ held.
    let low = (position-Some (bytes_eq text) b a.0 [] held.held).0 in
    let same = ap length held.stays in
    (omega arith, omega arith))
    (λ added.
    let count = ap length added.grows in
    let number = ap (λ (a : AtomId). a.0) added.last in
    (omega (arith, length-append b (text ∷ [])), omega (arith, length-append b (text ∷ []))))
    (named_cases b c text a h)

in_range_low : (m n : ℕ) → in_range m ≡ Some n → InRange n
in_range_low m n e = grind (arith, nat_tests)

pub number_low : (t : Tree) (n : ℕ) → Number t n → InRange n
number_low (integer s (pos m)) n e = in_range_low m n e
number_low _ n e = absurd (cc)

-- a literal's term

inner_low : (x : term.Tree) → inner_nesting x ≤ nesting x
inner_low (term.tuple t) = omega arith
inner_low _ = omega arith

alone_depth : {b c : Table} {t : Tree} {x : term.Tree} → IsTerm b t x c → row_depth t ≡ depth t
alone_depth (an_int h) = refl
alone_depth _ = refl

module _ (last : Table) where
  mutual
    term_writable : {b c : Table} {t : Tree} {x : term.Tree} → IsTerm b t x c → length c ≤ length last → Within b last (IsSpellable last x × (nesting x ≤ depth t))
    term_writable (an_int h) l = (l, (h, omega arith))
    term_writable (a_name {before = b} {behind = c} {text = text} {a = a} h) l = let n = named_within last b c text a h l in (n.0, (n.1, omega arith))
    term_writable (a_tuple h) l = let e = elements_writable h l in (e.0, (e.1.0, omega (arith, e.1.1)))
    term_writable (a_list h) l = let e = row_writable h l in (e.0, (e.1.0, e.1.1.1))

    elements_writable : {b c : Table} {t : Tree} {x : term.Tree} → AreElements b t x c → length c ≤ length last → Within b last (AreSpellable last x × (inner_nesting x ≤ row_depth t))
    elements_writable no_element l = (l, (tt, omega arith))
    elements_writable (an_element h hs) l =
        let more = elements_writable hs l in
        let first = term_writable h more.0 in
        (first.0, ((first.1.0, more.1.0), omega (arith, first.1.1, more.1.1)))

    row_writable : {b c : Table} {t : Tree} {x : term.Tree} → IsRow b t x c → length c ≤ length last → Within b last (IsSpellable last x × ((inner_nesting x ≤ row_depth t) × (nesting x ≤ 1 + row_depth t)))
    row_writable an_end l = (l, (tt, (omega arith, omega arith)))
    row_writable (a_tail {x = x} h) l =
        let only = term_writable h l in
        (only.0, (only.1.0, (omega (arith, only.1.1, inner_low x, alone_depth h), omega (arith, only.1.1, alone_depth h))))
    row_writable (a_cell h hs) l =
        let more = row_writable hs l in
        let first = term_writable h more.0 in
        (first.0, ((first.1.0, more.1.0), (omega (arith, first.1.1, more.1.1.0), omega (arith, first.1.1, more.1.1.0))))

-- operands

abbrev CanBe : Table → ℕ → Table → Operand → Type 0
CanBe last k b o = Within b last (IsWritableOperand last k o)

register_writable : (last : Table) (k : ℕ) {t : Tree} {r : Operand} → IsRegister t r → IsWritableOperand last k r
register_writable last k (in_x {n = n} {k = i} e h) = number_low n i h
register_writable last k (in_y {n = n} {k = i} e h) = number_low n i h
register_writable last k (in_typed e r) = register_writable last k r

atom_writable : (last : Table) (k : ℕ) (b c : Table) (t : Tree) (o : Operand) → AtomOperand b t o c → length c ≤ length last → CanBe last k b o
atom_writable last k b c t o (u, a, e, (text, w, h), same) l = let n = named_within last b c text a h l in (n.0, subst (IsWritableOperand last k) (sym same) n.1)

integer_writable : (last : Table) (k : ℕ) (t : Tree) (o : Operand) → IntegerOperand t o → IsWritableOperand last k o
integer_writable last k t o (s, n, e, h, same) = subst (IsWritableOperand last k) (sym same) h

value_writable : (last : Table) (k : ℕ) {b c : Table} {t : Tree} {o : Operand} → IsValue b t o c → length c ≤ length last → CanBe last k b o
value_writable last k {b = b} (an_integer {t = t} {o = o} i) l = (l, integer_writable last k t o i)
value_writable last k {b = b} (an_atom {t = t} {o = o} {behind = c} a) l = atom_writable last k b c t o a l

source_writable : (last : Table) (k : ℕ) {b c : Table} {t : Tree} {o : Operand} → IsSource b t o c → length c ≤ length last → depth t ≤ suc k → CanBe last k b o
source_writable last k (a_register r) l d = (l, register_writable last k r)
source_writable last k (a_value v) l d = value_writable last k v l
source_writable last k (a_nil e) l d = (l, tt)
source_writable last k (a_literal {t = t} {u = u} e h low) l d =
    let x = term_writable last h l in
    let inside = (parts_low k t (codes "literal") (u ∷ []) e d).0 in
    (x.0, (x.1.0, omega (arith, x.1.1, inside), low))

fail_writable : (last : Table) (k n : ℕ) → InRange n → IsWritableOperand last k (fail_label n)
fail_writable last k n h = by (nat_eq n 0)
  where
    by : (b : Bool) → IsWritableOperand last k (if b then operands.NoLabel else operands.Label n)
    by true = tt
    by false = h

plain_writable : (last : Table) (k : ℕ) (s : Sort) (t : Tree) (o : Operand) → IsPlain s t o → IsWritableOperand last k o
plain_writable last k sorts.Register t o r = register_writable last k r
plain_writable last k sorts.YRegister t o (n, r, same) = subst (IsWritableOperand last k) (sym same) (register_writable last k r)
plain_writable last k sorts.Target t o (n, (u, e, h), same) = subst (IsWritableOperand last k) (sym same) (number_low u n h)
plain_writable last k sorts.Fail t o (n, (u, e, h), same) = subst (IsWritableOperand last k) (sym same) (fail_writable last k n (number_low u n h))
plain_writable last k sorts.Place t o (n, h, same) = subst (IsWritableOperand last k) (sym same) (number_low t n h)
plain_writable last k sorts.Number t o (n, h, same) = subst (IsWritableOperand last k) (sym same) (number_low t n h)
plain_writable last k sorts.Arity t o (n, h, same) = subst (IsWritableOperand last k) (sym same) (number_low t n h)
plain_writable last k sorts.Bif0 t o (text, b, w, found, same) = subst (IsWritableOperand last k) (sym same) tt
plain_writable last k sorts.Bif1 t o (text, b, w, found, same) = subst (IsWritableOperand last k) (sym same) tt
plain_writable last k sorts.Bif2 t o (text, b, w, found, same) = subst (IsWritableOperand last k) (sym same) tt
plain_writable last k sorts.Mark t o same = subst (IsWritableOperand last k) (sym same) tt
plain_writable last k s t o h = absurd h

-- a source may be a literal, which has to stand so that its brackets are read again
abbrev pub Stands : ℕ → Sort → Tree → Type 0
Stands k sorts.Source t = depth t ≤ suc k
Stands k s t = Unit {0}

pub operand_writable : (last : Table) (k : ℕ) (b c : Table) (s : Sort) (t : Tree) (o : Operand) → IsOperand b s t o c → length c ≤ length last → Stands k s t → CanBe last k b o
operand_writable last k b c sorts.Source t o h l d = source_writable last k h l d
operand_writable last k b c sorts.Value t o h l d = value_writable last k h l
operand_writable last k b c sorts.Atom t o h l d = atom_writable last k b c t o h l
operand_writable last k b c sorts.Callee t o (m, f, a, between, i, e, (v, x, first), (w, y, second), count, same) l d =
    let two = named_within last between c w i.function second l in
    let one = named_within last b between v i.«module» first two.0 in
    (one.0, subst (IsWritableOperand last k) (sym same) (one.1, two.1, number_low a i.arity count))
operand_writable last k b c sorts.Amount t o (kind, n, a, e, named, count, same) l d =
    let one = named_within last b c kind a.kind named l in
    (one.0, subst (IsWritableOperand last k) (sym same) (one.1, number_low n a.count count))
operand_writable last k b c s t o h l d = (omega (arith, l, ap length h.1), plain_writable last k s t o h.0)

-- members of a list
abbrev pub AllStand : ℕ → Sort → Sort → List Tree → Type 0
AllStand k this next [] = Unit {0}
AllStand k this next (t ∷ ts) = Stands k this t × AllStand k next this ts

pub members_writable : (last : Table) (k : ℕ) {b c : Table} {this next : Sort} {ts : List Tree} {os : List Operand} → AreMembers b this next ts os c → length c ≤ length last → AllStand k this next ts
    → Within b last (AllByRecursion (IsWritableOperand last k) os)
members_writable last k no_member l a = (l, tt)
members_writable last k (a_member {before = b} {between = c} {this = this} {t = t} {o = o} h more) l a =
    let rest = members_writable last k more l a.1 in
    let first = operand_writable last k b c this t o h rest.0 a.0 in
    (first.0, (first.1, rest.1))
