use Rattle.bx_terms.proofs.Words.{◌≡◌, ◌∷◌, ◌++◌, [], List, map, string_bytes, sym, ap, subst, ◌∙◌, arith, length-map, number_of, AreNumbers}
use Rattle.bx_terms.proofs.Numbers.{one_numbered, put_last}
use Rattle.bx_terms.proofs.texts.Texts.push.Goals as goal

put : (c : goal.Joined-branch-6) → map string_bytes (map (λ e. e.1) c.insert-2.new.self.entries) ≡ map string_bytes (map (λ e. e.1) c.self.inside.by_number.entries) ++ c.args.text.now ∷ []
put c = put_last c.self.inside.by_number c.reserve.new.self c.insert-2.new.self.entries c.len-number.result c.in_ok-own.own c.args.text.now c.contains_key.result
    c.contains_key.ensures c.if-contains_key.false c.in_ok-reserve.ensures.entries c.in_ok-insert-2.ensures.entries c.in_ok-own.ensures.ok

pub returns-clause-ok : goal.returns-clause-ok
returns-clause-ok c = put c ∙ ap (λ texts. texts ++ c.args.text.now ∷ []) c.self.view_is

pub invariant_of-self-2 : goal.invariant_of-self-2
invariant_of-self-2 c =
    let texts : List (List _) = map string_bytes (map (λ e. e.1) c.self.inside.by_number.entries) in
    subst (λ ts. AreNumbers ts c.insert.new.self) (sym (put c))
    (one_numbered c.self.inside.numbers c.insert.new.self texts c.in_ok-key.key c.args.text.now c.len-number.result c.self.invariant c.in_ok-key.ensures.ok
    (ap (λ ts. number_of ts c.args.text.now) c.self.view_is ∙ c.requires)
    (omega (arith, c.len-number.ensures.len, length-map c.self.inside.by_number.entries (λ e. e.1), length-map (map (λ e. e.1) c.self.inside.by_number.entries) string_bytes)) c.in_ok-insert.ensures.updates)
