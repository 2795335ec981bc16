use Rattle.std.proofs.Common.{◌++◌, ◌∷◌, [], ap, ◌∙◌, arith}
use Rattle.std.proofs.lemmas.List.{length-append}
use Rattle.bx_signals.specs.Rows.{Row}
use Rattle.bx_signals.specs.declared.signal.Signal.{Signal}
use Rattle.bx_signals.proofs.Maps.{rows_more, rising_more}
use Rattle.bx_signals.proofs.channels.grow.Goals as goal

pub loop-next-preserved : goal.loop-next-preserved
loop-next-preserved c =
    let rows = c.loop-next.rows.items in
    let kept = c.loop-next.invariant in
    let longer = length-append rows ([] ∷ []) in
    rw (c.in_ok-push.ensures.items ∙ ap (λ (row : Row Signal). rows ++ row ∷ []) c.new.ensures)
    (rows_more 0 rows ∙ kept.0, omega (arith, longer, kept.1), omega (arith, kept.2), rising_more rows kept.3, omega (arith, kept.4, c.loop-next-test.true, c.requires.at))
