-- The text of an operand is read as the same operand.
use Rattle.std.proofs.Common.{◌≡◌, ◌≢◌, ℕ, ℤ, suc, ◌≤◌, Bool, true, false, List, [], ◌∷◌, ◌++◌, get_or, Some, refl, sym, ap, ◌∙◌, subst, arith, codes, decimal, append_assoc, leb-true, eqb-true}
use Rattle.std.specs.Prelude.{nat_le, nat_lt, ◌==◌}
use Rattle.std.specs.List.{list_all}
use Rattle.std.proofs.lemmas.Fmt.{decimal_digit}
use Rattle.std.proofs.lemmas.Bool.Decides.{nat_tests}
use Rattle.bx_terms.specs.declared.atom_table.AtomId.{AtomId}
use Rattle.bx_terms.specs.AtomTable.{IsAtomTable}
use Rattle.bx_terms.specs.AtomText.{printed_atom}
use Rattle.bx_terms.specs.Printed.{printed_name}
use Rattle.bx_terms.specs.Tree as term
use Rattle.bx_text.specs.declared.node.Span.{Span}
use Rattle.bx_text.specs.Number.{is_large}
use Rattle.bx_text.specs.Tree.{Tree, integer}
use Rattle.bx_ops.specs.declared.guard_bif.Bif.{Bif}
use Rattle.bx_ops.specs.declared.guard_bif.Bif.TheVariants as bifs
use Rattle.bx_ops.specs.GuardBifs.{guard_bif, guard_bif_with}
use Rattle.bx_ops.proofs.GuardBifLemmas.{guard_bif_with-both}
use Rattle.bx_ops.specs.declared.sorts.Sort.{Sort}
use Rattle.bx_ops.specs.declared.sorts.Sort.TheVariants as sorts
use Rattle.bx_listing.specs.declared.items.Import.{Import}
use Rattle.bx_listing.specs.declared.items.Amount.{Amount}
use Rattle.bx_listing.specs.declared.items.Operand.{Operand}
use Rattle.bx_listing.specs.declared.items.Operand.TheVariants as operands
use Rattle.bx_listing.specs.Reading.{Table}
use Rattle.bx_listing.specs.Shape.{tagged, word}
use Rattle.bx_listing.specs.Operands.{fail_label}
use Rattle.bx_listing.specs.ListedTerms.{Names}
use Rattle.bx_listing.specs.ListedItems.{Tuple, Number, Atom, AtomOperand, IntegerOperand, Target, IsRegister, in_x, in_y, an_integer, an_atom, IsSource, a_register, a_value, a_nil, a_literal, IsCallee, IsAmount, IsBif, IsOperand}
use Rattle.bx_listing.specs.Writing.{name_text, operand_text}
use Rattle.bx_listing.specs.Fits.{is_one}
use Rattle.bx_listing_laws.specs.Spellable.{IsLiteral}
use Rattle.bx_listing_laws.specs.Writable.{IsHeld, InRange, IsWritableOperand}
use Rattle.bx_listing_laws.proofs.Trees.{Printed, PrintedAll, weaker, reworded, plain_utf8, word_printed, integer_printed, number_printed, none_printed, more_printed, tagged_printed}
use Rattle.bx_listing_laws.proofs.WrittenTerms.{known, name_printed, term_printed}

-- parts of tuples

pub one_part : {d : ℕ} {text : List ℕ} {Is : Tree → Type 0} → Printed d text Is → PrintedAll d (text ∷ []) (λ us. (v : Tree) × (us ≡ v ∷ []) × Is v)
one_part p = more_printed p (none_printed {Are = λ us. us ≡ []} refl) (λ u us is none. (u, ap (λ us. u ∷ us) none, is))

-- a part, and those behind it
pub part : {d : ℕ} {text : List ℕ} {texts : List (List ℕ)} {Is : Tree → Type 0} {Are : List Tree → Type 0} → Printed d text Is → PrintedAll d texts Are
    → PrintedAll d (text ∷ texts) (λ us. (v : Tree) × (vs : List Tree) × (us ≡ v ∷ vs) × Is v × Are vs)
part p ps = more_printed p ps (λ u us is are. (u, us, refl, is, are))

-- `{w,V}`
pub single : (d : ℕ) (w : List ℕ) {text : List ℕ} {Is Out : Tree → Type 0} → list_all (λ b. nat_lt b 128) w ≡ true → Printed d text Is → ((u v : Tree) → Tuple u w (v ∷ []) → Is v → Out u)
    → Printed (suc d) (123 ∷ (printed_atom w ++ 44 ∷ (text ++ 125 ∷ []))) Out
single d w low p k = tagged_printed d w (plain_utf8 w low) (one_part p) (λ u us is x. k u x.0 (is ∙ ap (tagged w) x.1) x.2)

pub number_alone : (d n : ℕ) → InRange n → Printed d (decimal n) (λ u. Number u n)
number_alone d n h = number_printed d n h (λ u e. e)

pub atom_alone : (d : ℕ) (names : Table) (a : AtomId) → IsAtomTable names → IsHeld names a → Printed d (name_text names a) (λ u. Atom names u a names)
atom_alone d names a table h = name_printed d names a.0 table h (λ u s text is n. (text, ap word is, n))

-- registers, labels, values

x_printed : (d n : ℕ) → InRange n → Printed (suc d) (codes "{x," ++ decimal n ++ codes "}") (λ u. IsRegister u (operands.X n))
x_printed d n h = single d (codes "x") refl (number_alone d n h) (λ u v is e. in_x is e)

y_printed : (d n : ℕ) → InRange n → Printed (suc d) (codes "{y," ++ decimal n ++ codes "}") (λ u. IsRegister u (operands.Y n))
y_printed d n h = single d (codes "y") refl (number_alone d n h) (λ u v is e. in_y is e)

target_printed : (d n : ℕ) → InRange n → Printed (suc d) (codes "{f," ++ decimal n ++ codes "}") (λ u. Target u n)
target_printed d n h = single d (codes "f") refl (number_alone d n h) (λ u v is e. (v, is, e))

no_digit : decimal 0 ≡ codes "0"
no_digit = decimal_digit 0 (omega arith)

pub no_label_printed : (d : ℕ) → Printed (suc d) (codes "{f,0}") (λ u. Target u 0)
no_label_printed d = reworded (ap (λ w. codes "{f," ++ w ++ codes "}") no_digit) (target_printed d 0 (omega arith))

pub to_x0_printed : (d : ℕ) → Printed (suc d) (codes "{x,0}") (λ u. IsRegister u (operands.X 0))
to_x0_printed d = reworded (ap (λ w. codes "{x," ++ w ++ codes "}") no_digit) (x_printed d 0 (omega arith))

atom_printed : (d : ℕ) (names : Table) (a : AtomId) → IsAtomTable names → IsHeld names a → Printed (suc d) (operand_text names (operands.Atom a)) (λ u. AtomOperand names u (operands.Atom a) names)
atom_printed d names a table h = single d (codes "atom") refl (atom_alone d names a table h) (λ u v is e. (v, a, is, e, refl))

integer_operand : (d : ℕ) (names : Table) (n : ℤ) → is_large n ≡ false → Printed (suc d) (operand_text names (operands.Integer n)) (λ u. IntegerOperand u (operands.Integer n))
integer_operand d names n h =
    single d (codes "integer") refl (integer_printed d n {Is = λ v. (s : Span) × (v ≡ integer s n)} h (λ s. (s, refl)))
    (λ u v is x. (x.0, n, is ∙ ap (λ v. tagged (codes "integer") (v ∷ [])) x.1, h, refl))

literal_printed : (d k : ℕ) (names : Table) (t : term.Tree) → IsAtomTable names → IsLiteral names k t → k ≤ d → Printed (suc d) (operand_text names (operands.Literal t)) (λ u. IsSource names u (operands.Literal t) names)
literal_printed d k names t table h l = single d (codes "literal") refl (term_printed d names t table h.0 (omega (arith, h.1, l))) (λ u v is e. a_literal is e h.2)

nil_printed : (d : ℕ) (names : Table) → Printed d (codes "nil") (λ u. IsSource names u operands.Nil names)
nil_printed d names = word_printed d (codes "nil") (plain_utf8 (codes "nil") refl) (λ u e. a_nil e)

-- functions, amounts, BIFs

callee_printed : (d : ℕ) (names : Table) (i : Import) → IsAtomTable names → IsHeld names i.«module» × IsHeld names i.function × InRange i.arity
    → Printed (suc d) (operand_text names (operands.Import i)) (λ u. IsCallee names u (operands.Import i) names)
callee_printed d names i table h =
    reworded (simp append_assoc)
    (tagged_printed d (codes "extfunc") (plain_utf8 (codes "extfunc") refl)
    (part (atom_alone d names i.«module» table h.0) (part (atom_alone d names i.function table h.1) (one_part (number_alone d i.arity h.2))))
    (λ u us is x. let (m, vs, e, one, (f, ws, g, two, (a, last, three))) = x in (m, f, a, names, i, cc, one, two, three, refl)))

-- `{NAME,N}`
pub counted_printed : (d : ℕ) (names : Table) (a : AtomId) (n : ℕ) {Is : Tree → Type 0} → IsAtomTable names → IsHeld names a → InRange n
    → ((u : Tree) (text : List ℕ) (v : Tree) → Tuple u text (v ∷ []) → Names names text a names → Number v n → Is u)
    → Printed (suc d) (codes "{" ++ name_text names a ++ codes "," ++ decimal n ++ codes "}") Is
counted_printed d names a n {Is} table h l k =
    let (held, utf8, named) = known names a.0 table h in
    reworded (simp append_assoc)
    (subst (λ o. Printed (suc d) (123 ∷ (printed_name o ++ 44 ∷ (decimal n ++ 125 ∷ []))) Is) (sym held)
    (tagged_printed d (get_or names a.0 []) utf8 (one_part (number_alone d n l)) (λ u us is x. k u (get_or names a.0 []) x.0 (is ∙ ap (tagged (get_or names a.0 [])) x.1) named x.2)))

amount_printed : (d : ℕ) (names : Table) (a : Amount) → IsAtomTable names → IsHeld names a.kind × InRange a.count
    → Printed (suc d) (operand_text names (operands.Amount a)) (λ u. IsAmount names u (operands.Amount a) names)
amount_printed d names a table h = counted_printed d names a.kind a.count table h.0 h.1 (λ u text v is n e. (text, v, a, is, n, e, refl))

bif_ascii : (b : Bif) → list_all (λ b. nat_lt b 128) (guard_bif b).name ≡ true
bif_ascii bifs.SelfPid = refl
bif_ascii _ = refl

bif_printed : (d : ℕ) (names : Table) (b : Bif) (n : ℕ) → ((guard_bif b).arity == n) ≡ true → Printed d (operand_text names (operands.Bif b)) (λ u. IsBif n u (operands.Bif b))
bif_printed d names b n e =
    word_printed d (guard_bif b).name (plain_utf8 (guard_bif b).name (bif_ascii b))
    (λ u w. ((guard_bif b).name, b, w, subst (λ n. guard_bif_with (guard_bif b).name n ≡ Some b) (eqb-true (guard_bif b).arity n e) (guard_bif_with-both b), refl))

-- where a BIF goes on a fault

labelled : (n : ℕ) → n ≢ 0 → operands.Label n ≡ fail_label n
labelled n h = grind (arith, nat_tests)

pub fail_printed : (d k : ℕ) (names : Table) (o : Operand) → is_one sorts.Fail o ≡ true → IsWritableOperand names k o → ((n : ℕ) → o ≡ operands.Label n → n ≢ 0)
    → Printed (suc d) (operand_text names o) (λ u. IsOperand names sorts.Fail u o names)
fail_printed d k names (operands.Label n) e h other = weaker (λ u t. ((n, t, labelled n (other n refl)), refl)) (target_printed d n h)
fail_printed d k names operands.NoLabel e h other = weaker (λ u t. ((0, t, refl), refl)) (no_label_printed d)
fail_printed d k names _ e h other = absurd (cc)

-- whether a literal of a sort that nests k deep may stand where d are left; a BIF's label is said separately
abbrev pub suits : ℕ → ℕ → Sort → Bool
suits d k sorts.Source = nat_le k d
suits d k sorts.Fail = false
suits d k s = true

pub operand_printed : (d k : ℕ) (names : Table) (s : Sort) (o : Operand) → IsAtomTable names → is_one s o ≡ true → IsWritableOperand names k o → suits d k s ≡ true
    → Printed (suc d) (operand_text names o) (λ u. IsOperand names s u o names)
operand_printed d k names sorts.Source (operands.X n) table e h l = weaker (λ u r. a_register r) (x_printed d n h)
operand_printed d k names sorts.Source (operands.Y n) table e h l = weaker (λ u r. a_register r) (y_printed d n h)
operand_printed d k names sorts.Source (operands.Integer n) table e h l = weaker (λ u i. a_value (an_integer i)) (integer_operand d names n h)
operand_printed d k names sorts.Source (operands.Atom a) table e h l = weaker (λ u i. a_value (an_atom i)) (atom_printed d names a table h)
operand_printed d k names sorts.Source operands.Nil table e h l = nil_printed (suc d) names
operand_printed d k names sorts.Source (operands.Literal t) table e h l = literal_printed d k names t table h (leb-true k d l)
operand_printed d k names sorts.Value (operands.Integer n) table e h l = weaker (λ u i. an_integer i) (integer_operand d names n h)
operand_printed d k names sorts.Value (operands.Atom a) table e h l = weaker (λ u i. an_atom i) (atom_printed d names a table h)
operand_printed d k names sorts.Register (operands.X n) table e h l = weaker (λ u r. (r, refl)) (x_printed d n h)
operand_printed d k names sorts.Register (operands.Y n) table e h l = weaker (λ u r. (r, refl)) (y_printed d n h)
operand_printed d k names sorts.YRegister (operands.Y n) table e h l = weaker (λ u r. ((n, r, refl), refl)) (y_printed d n h)
operand_printed d k names sorts.Target (operands.Label n) table e h l = weaker (λ u t. ((n, t, refl), refl)) (target_printed d n h)
operand_printed d k names sorts.Place (operands.Place n) table e h l = weaker (λ u t. ((n, t, refl), refl)) (number_alone (suc d) n h)
operand_printed d k names sorts.Number (operands.Number n) table e h l = weaker (λ u t. ((n, t, refl), refl)) (number_alone (suc d) n h)
operand_printed d k names sorts.Arity (operands.Arity n) table e h l = weaker (λ u t. ((n, t, refl), refl)) (number_alone (suc d) n h)
operand_printed d k names sorts.Atom (operands.Atom a) table e h l = atom_printed d names a table h
operand_printed d k names sorts.Callee (operands.Import i) table e h l = callee_printed d names i table h
operand_printed d k names sorts.Bif0 (operands.Bif b) table e h l = weaker (λ u i. (i, refl)) (bif_printed (suc d) names b 0 e)
operand_printed d k names sorts.Bif1 (operands.Bif b) table e h l = weaker (λ u i. (i, refl)) (bif_printed (suc d) names b 1 e)
operand_printed d k names sorts.Bif2 (operands.Bif b) table e h l = weaker (λ u i. (i, refl)) (bif_printed (suc d) names b 2 e)
operand_printed d k names sorts.Mark operands.Nil table e h l = weaker (λ u i. (refl, refl)) (nil_printed (suc d) names)
operand_printed d k names sorts.Amount (operands.Amount a) table e h l = amount_printed d names a table h
operand_printed d k names _ _ table e h l = absurd (cc)
