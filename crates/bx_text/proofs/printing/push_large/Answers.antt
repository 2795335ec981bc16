use Rattle.std.proofs.Common.{◌≡◌, ◌∙◌, ap, arith, sym, true}
use Rattle.std.proofs.lemmas.Grind.{common_steps}
use Rattle.std.specs.List.{list_all}
use Rattle.bx_text.specs.Bytes.{is_digit}
use Rattle.bx_text.specs.Number.{number, is_spelling}
use Rattle.bx_text.proofs.Shown.{large_text}
use Rattle.bx_text.proofs.printing.push_large.Goals as goal

pub returns : goal.returns
returns c =
    let read = c.parts-negative.result in
    let text = c.as_bytes.ensures.value in
    let digits : list_all is_digit read.1.now ≡ true = sym c.parts-negative.ensures.digits ∙ ap is_spelling text ∙ c.requires.spelled in
    let shown = large_text read.0 read.1.now (number c.args.spelling.now) (c.parts-negative.ensures.value ∙ ap number text) c.requires.large digits in
    rw shown (grind (arith, common_steps))
