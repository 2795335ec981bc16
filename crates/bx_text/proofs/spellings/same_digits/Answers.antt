use Rattle.std.proofs.Common.{◌≡◌, ◌↔◌, IsTrue, rules, sym, ◌∙◌, arith}
use Rattle.std.proofs.lemmas.Grind.{common_steps}
use Rattle.bx_text.proofs.Shown.{same_shown, same_decimal}
use Rattle.bx_text.proofs.spellings.same_digits.Goals as goal

pub returns : goal.returns
returns c =
    let ds = c.args.one.now in
    let es = c.args.other.now in
    let eq : IsTrue c.eq.result ↔ (c.shown.result.now ≡ c.shown-2.result.now) = first_of (search rules, grind (arith, common_steps)) in (
      λ t. same_decimal ds es (sym c.shown.ensures ∙ eq.0 t ∙ c.shown-2.ensures),
      λ e. eq.1 (c.shown.ensures ∙ same_shown ds es c.requires.digits c.requires.other_digits c.requires.some c.requires.other_some e ∙ sym c.shown-2.ensures),
    )
