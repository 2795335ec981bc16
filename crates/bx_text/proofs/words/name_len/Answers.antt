use Rattle.std.proofs.Common.{◌≡◌, ◌+◌, ◌<◌, ◌∙◌, ap, drop, length, length-drop, arith}
use Rattle.std.specs.List.{prefix_len}
use Rattle.bx_text.specs.Bytes.{is_lower}
use Rattle.bx_text.specs.Lexing.{letter_width}
use Rattle.bx_text.proofs.Names.{name_step}
use Rattle.bx_text.proofs.Short.{lower_on}
use Rattle.bx_text.proofs.Slices.{tail_is}
use Rattle.bx_text.proofs.words.name_len.Goals as goal

pub loop-n-preserved : goal.loop-n-preserved
loop-n-preserved c =
    let n = c.loop-n.n in
    let w = c.letter_width-width.result in
    let k = c.lower_len-n-in-loop-n.result in
    let bs = c.args.bytes.now in
    let tail = tail_is n bs in
    let behind = tail_is (n + w) bs in
    let e : w ≡ letter_width (drop n bs) = c.letter_width-width.ensures.exact ∙ ap letter_width tail in
    let some : 0 < w = omega (arith, c.if-width-eq0.false) in
    let letter = name_step bs n w _ e some c.loop-n.invariant.0 in
    let lower : k ≡ prefix_len is_lower (drop (n + w) bs) = c.lower_len-n-in-loop-n.ensures.exact ∙ ap (λ us. prefix_len is_lower us) behind in (
      lower_on bs (n + w) k _ lower letter,
      omega (
        arith,
        c.letter_width-width.ensures.bounded,
        ap length tail,
        length-drop n bs,
        c.lower_len-n-in-loop-n.ensures.bounded,
        ap length behind,
        length-drop (n + w) bs,
      ),
    )
