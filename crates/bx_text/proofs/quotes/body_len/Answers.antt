use Rattle.std.proofs.Common.{◌≡◌, ◌<◌, ◌∙◌, ap, drop, length, length-drop, arith}
use Rattle.bx_text.specs.Lexing.{part_width}
use Rattle.bx_text.proofs.Bodies.{body_step}
use Rattle.bx_text.proofs.Slices.{tail_is}
use Rattle.bx_text.proofs.quotes.body_len.Goals as goal

pub loop-n-preserved : goal.loop-n-preserved
loop-n-preserved c =
    let tail = tail_is c.loop-n.n c.args.bytes.now in
    let e : c.part_width-width.result ≡ part_width c.args.quote (drop c.loop-n.n c.args.bytes.now) = c.part_width-width.ensures.exact ∙ ap (part_width c.args.quote) tail in
    let some : 0 < c.part_width-width.result = omega (arith, c.if-width-eq0.false) in (
      body_step c.args.quote c.args.bytes.now c.loop-n.n c.part_width-width.result _ e some c.loop-n.invariant.0,
      omega (arith, c.part_width-width.ensures.bounded, ap length tail, length-drop c.loop-n.n c.args.bytes.now),
    )
