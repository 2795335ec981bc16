use Rattle.std.proofs.Common.{◌∙◌, ◌++◌, Ok, ap, length, string_bytes, sym}
use Rattle.bx_summary.specs.Counted.{counted}
use Rattle.bx_summary.specs.Tallied.{shared_texts}
use Rattle.bx_summary.proofs.Ending.{ok_is}
use Rattle.bx_summary.proofs.Tallying.{summary_is}
use Rattle.bx_summary.proofs.texts.summary_text.Goals as goal

pub returns : goal.returns
returns c =
    let texts = c.args.atoms.now in
    let tally = c.in_ok-tally.tally in
    let shared = tally.outcomes.items in
    let written = string_bytes c.push_outcomes.new.out in
    ap Ok (
    summary_is texts c.args.report.now shared tally.schedules c.len.result written (string_bytes c.push_last.new.out)
    (c.in_ok-tally.ensures.counted ∙ ap (counted texts) c.as_slice.ensures)
    (c.in_ok-tally.ensures.count ∙ ap length c.as_slice.ensures)
    (c.len.ensures ∙ tally.outcomes.ok.0)
    (sym (ok_is (string_bytes c.new-out.result ++ shared_texts texts c.as_slice-2.result.now) written c.in_ok-push_outcomes.ensures)
    ∙ ap (λ begun. begun ++ shared_texts texts c.as_slice-2.result.now) c.new-out.ensures.bytes
    ∙ ap (shared_texts texts) c.as_slice-2.ensures.value)
    c.in_ok-push_last.ensures
    )
