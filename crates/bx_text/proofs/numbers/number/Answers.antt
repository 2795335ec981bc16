use Rattle.std.proofs.Common.{◌∙◌, ap}
use Rattle.std.specs.List.{prefix_len}
use Rattle.bx_text.specs.Bytes.{is_digit}
use Rattle.bx_text.proofs.Digits.{number_spelled}
use Rattle.bx_text.proofs.Slices.{tail_is}
use Rattle.bx_text.proofs.numbers.number.Goals as goal

pub integer-requires : goal.integer-requires
integer-requires c =
    number_spelled c.args.r.rest.now c.args.sign c.digit_count-count.result c.requires.signed
    (c.digit_count-count.ensures.exact ∙ ap (prefix_len is_digit) (tail_is c.args.sign c.args.r.rest.now))
