-- The look-ups of opcodes are the table read backwards.
use Rattle.std.proofs.Common.{◌≡◌, ◌↔◌, ℕ, List, Bool, true, false, ◌==◌, ◌&&◌, Option, None, Some, MatchOption, bytes_eq, refl, sym, subst, ◌∙◌}
use Rattle.std.specs.Bool.{then_some}
use Rattle.std.proofs.lemmas.Bool.{and_parts}
use Rattle.std.proofs.lemmas.Bool.Decides.{Decides-eqb}
use Rattle.std.proofs.lemmas.Slice.Eq.{bytes_eq-Decides}
use Rattle.bx_ops.specs.declared.opcode.Op.{Op, TheVariants.Label}
use Rattle.bx_ops.specs.Opcodes.{opcode, every_op, with_number, with_name}
use Rattle.bx_ops.specs.Table.{arity, with_name_and_arity}
use Rattle.bx_ops.proofs.Found.{find_passes, found_is}

-- each row is found by its number, and by its name
pub with_number-number : (op : Op) → with_number (opcode op).number ≡ Some op
unfolding with_number
with_number-number Label = refl
with_number-number _ = refl

pub with_name-name : (op : Op) → with_name (opcode op).name ≡ Some op
unfolding with_name
with_name-name Label = refl
with_name-name _ = refl

with_name_and_arity-both : (op : Op) → with_name_and_arity (opcode op).name (arity op) ≡ Some op
unfolding with_name_and_arity
with_name_and_arity-both Label = refl
with_name_and_arity-both _ = refl

-- what is found has the number, the name, or the name and the arity
pub number_finds : (number : ℕ) (op : Op) → (with_number number ≡ Some op) ↔ ((opcode op).number ≡ number)
unfolding with_number
number_finds number op =
    let test : Op → Bool = λ o. (opcode o).number == number in (
      λ e. (Decides-eqb (opcode op).number number).0 (find_passes test every_op op e),
      λ e. subst (λ (n : ℕ). with_number n ≡ Some op) e (with_number-number op),
    )

pub name_finds : (name : List ℕ) (op : Op) → (with_name name ≡ Some op) ↔ ((opcode op).name ≡ name)
unfolding with_name
name_finds name op =
    let test : Op → Bool = λ o. bytes_eq (opcode o).name name in (
      λ e. (bytes_eq-Decides (opcode op).name name).0 (find_passes test every_op op e),
      λ e. subst (λ (text : List ℕ). with_name text ≡ Some op) e (with_name-name op),
    )

pub name_and_arity_finds : (name : List ℕ) (count : ℕ) (op : Op)
    → (with_name_and_arity name count ≡ Some op) ↔ (((opcode op).name ≡ name) × (arity op ≡ count))
unfolding with_name_and_arity
name_and_arity_finds name count op =
    let test : Op → Bool = λ o. (arity o == count) && bytes_eq (opcode o).name name in (
      λ e.
          let passes = and_parts (arity op == count) (bytes_eq (opcode op).name name) (find_passes test every_op op e) in
          ((bytes_eq-Decides (opcode op).name name).0 passes.1, (Decides-eqb (arity op) count).0 passes.0),
      λ e. rw (← e.0, ← e.1) (with_name_and_arity-both op),
    )

pub numbers_distinct : (a b : Op) → (opcode a).number ≡ (opcode b).number → a ≡ b
numbers_distinct a b e =
    let found : with_number (opcode b).number ≡ Some a = (number_finds (opcode b).number a).1 e in
    cc (with_number-number b)

pub names_distinct : (a b : Op) → (opcode a).name ≡ (opcode b).name → a ≡ b
names_distinct a b e =
    let found : with_name (opcode b).name ≡ Some a = (name_finds (opcode b).name a).1 e in
    cc (with_name-name b)

-- the opcode with a name, kept where its arity is the one asked for, is the opcode with both:
-- `Tests` says what a test of the arity answers
pub with_name_and_arity-kept : (name : List ℕ) (count : ℕ) (named kept : Option Op) (Tests : Op → Bool → Type 0)
    → ((op : Op) (same : Bool) → Tests op same → same ≡ (arity op == count)) → named ≡ with_name name
    → MatchOption named (kept ≡ None) (λ op. (same : Bool) × Tests op same × (kept ≡ then_some same op))
    → kept ≡ with_name_and_arity name count
with_name_and_arity-kept name count None kept Tests tests e h = h ∙ found_is Both (with_name_and_arity name count) (name_and_arity_finds name count) None
    (λ op both. let found : with_name name ≡ Some op = (name_finds name op).1 both.0 in cc)
  where
    Both : Op → Type 0
    Both op = ((opcode op).name ≡ name) × (arity op ≡ count)
with_name_and_arity-kept name count (Some op) kept Tests tests e h = h.2 ∙ kept_if h.0 (tests op h.0 h.1)
  where
    Both : Op → Type 0
    Both other = ((opcode other).name ≡ name) × (arity other ≡ count)

    named : (opcode op).name ≡ name
    named = (name_finds name op).0 (sym e)

    kept_if : (same : Bool) → same ≡ (arity op == count) → then_some same op ≡ with_name_and_arity name count
    kept_if true same = found_is Both (with_name_and_arity name count) (name_and_arity_finds name count) (Some op)
        (named, (Decides-eqb (arity op) count).0 (sym same))
    kept_if false differs = found_is Both (with_name_and_arity name count) (name_and_arity_finds name count) None
        (λ other both.
        let same : other ≡ op = names_distinct other op (both.0 ∙ sym named) in
        let arities : arity op ≡ count = cc in
        let passes : (arity op == count) ≡ true = (Decides-eqb (arity op) count).1 arities in
        cc)
