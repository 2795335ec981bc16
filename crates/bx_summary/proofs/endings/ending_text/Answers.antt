use Rattle.std.proofs.Common.{◌∙◌, Ok, ap, string_bytes, sym}
use Rattle.bx_summary.proofs.Ending.{open_ending, shut_ending}
use Rattle.bx_summary.proofs.endings.ending_text.Goals as goal

pub returns-then-is_open : goal.returns-then-is_open
returns-then-is_open c =
    open_ending c.args.atoms.now c.args.one.now c.as_str.result.now (string_bytes c.in_ok-ending.ending) (sym c.is_open.ensures ∙ c.if-is_open.true)
    (c.in_ok-text.ensures ∙ ap Ok (sym c.as_str.ensures.value)) c.in_ok-ending.ensures

pub returns : goal.returns
returns c =
    shut_ending c.args.atoms.now c.args.one.now c.as_str-2.result.now (string_bytes c.in_ok-ending-2.ending) (sym c.is_open.ensures ∙ c.if-is_open.false)
    (c.in_ok-text-2.ensures ∙ ap Ok (sym c.as_str-2.ensures.value)) c.in_ok-ending-2.ensures
