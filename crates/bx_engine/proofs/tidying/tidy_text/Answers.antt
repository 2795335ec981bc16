use Rattle.std.proofs.Common.{List, ℕ, subst}
use Rattle.std.specs.Io.KnownBytes.{Appends}
use Rattle.bx_engine.specs.Runs.{run_behind}
use Rattle.bx_engine.proofs.Failing.{nothing_written}
use Rattle.bx_engine.proofs.TidyLaw.{same_report}
use Rattle.bx_engine.proofs.tidying.tidy_text.Goals as goal

pub returns-in-Err-text_of-clause-written : goal.returns-in-Err-text_of-clause-written
returns-in-Err-text_of-clause-written g c given planned known there =
    nothing_written {X = List ℕ} (λ text. text) c.in-Err-text_of.failure c.in-Ok.start c.args.start.now given (λ names. run_behind names given planned) (g.W.Write.contents c.args.writer.now)
    c.in-Ok.ensures.ok (c.in-Err-text_of.ensures given planned known there)

pub returns-in-Ok-write_all-clause-written : goal.returns-in-Ok-write_all-clause-written
returns-in-Ok-write_all-clause-written g c given planned known there =
    let names = c.in-Ok.start in
    let text = c.in-Ok-text_of.text.items in
    let is = c.in-Ok-text_of.ensures given planned known there in (
      names,
      text,
      c.in-Ok.ensures.ok,
      is,
      same_report c.args.start.now names given planned text c.in-Ok.ensures.ok is,
      subst (λ (t : List ℕ). Appends (g.W.Write.contents c.args.writer.now) (g.W.Write.contents c.write_all.new.self) t) c.deref.ensures.value c.in-Ok-write_all.ensures.bytes,
    )
