use Rattle.bx_terms.proofs.Words.{◌≡◌, ◌<◌, true, Ok, sym, ap, subst, ◌∙◌, arith, length, ◌++◌, ◌∷◌, [], IsAtomTable, is_short}
use Rattle.bx_terms.specs.Naming.{atom}
use Rattle.bx_terms.proofs.AtomTables.{naming_new, grown}
use Rattle.bx_terms.proofs.atom_table.Atoms.add.Goals as goal

texts_after : (c : goal.In_ok-push) → c.push.new.self ≡ c.args.self.now ++ c.args.text.now ∷ []
texts_after c = c.in_ok-push.ensures.ok ∙ ap (λ texts. texts ++ c.args.text.now ∷ []) c.self.view_is

short : (c : goal.In_ok-push) → is_short c.args.text.now ≡ true
short c = sym c.is_short.ensures ∙ c.if-not-is_short.false

number : (c : goal.In_ok-push) → length c.args.self.now ≡ c.len-number.result
number c = omega (arith, c.len-number.ensures.len, ap length c.self.view_is)

room : (c : goal.In_ok-push) → length c.args.self.now < 65536
room c = omega (arith, number c, c.if-number-ge-MOST_ATOMS.false)

pub invariant_of-self-2 : goal.invariant_of-self-2
invariant_of-self-2 c =
    subst IsAtomTable (sym (texts_after c))
    (grown _ _ (subst IsAtomTable c.self.view_is c.self.invariant) c.utf8.text (short c) c.requires (room c))

pub returns : goal.returns
returns c = naming_new _ _ (short c) c.requires (room c) ∙ (λ i. Ok (sym (texts_after c) i, atom (number c i)))
