use Rattle.std.proofs.Common.{◌≡◌, ◌∙◌, Some, None, ap, codes, cond, option_map, sym}
use Rattle.clap.specs.Walk.{first_of}
use Rattle.clap.specs.Words.{found_of, rows_of}
use Rattle.clap.proofs.WalkLemmas.{first_value-rows}
use Rattle.bx_engine.specs.declared.forms.Form.TheVariants.{Report, Summary}
use Rattle.bxemu.specs.CommandLines.{form_by}
use Rattle.bxemu.proofs.commands.form_of.Goals as goal

pub returns-in-Some : goal.returns-in-Some
returns-in-Some c =
    let found = found_of c.args.values.now in
    let given : first_of (codes "summary") (rows_of found) ≡ Some c.in-Some.value.now = sym (first_value-rows found (codes "summary")) ∙ sym c.in-Some.ensures in
    ap (λ same. cond same Summary Report) c.if-eq.ensures ∙ sym (ap form_by given)

pub returns-in_default : goal.returns-in_default
returns-in_default c =
    let found = found_of c.args.values.now in
    let given : first_of (codes "summary") (rows_of found) ≡ Some c.in-Some.value.now = sym (first_value-rows found (codes "summary")) ∙ sym c.in-Some.ensures in
    ap (λ same. cond same Summary Report) c.if-eq.ensures ∙ sym (ap form_by given)

pub returns-in_default-2 : goal.returns-in_default-2
returns-in_default-2 c =
    let found = found_of c.args.values.now in
    let given : first_of (codes "summary") (rows_of found) ≡ None =
    sym (first_value-rows found (codes "summary")) ∙ sym c.get_str.ensures ∙ ap (option_map (λ text. text.now)) c.in_default.is in
    sym (ap form_by given)
