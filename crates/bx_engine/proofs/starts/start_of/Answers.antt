use Rattle.std.proofs.Common.{◌∙◌, string_bytes, sym}
use Rattle.bx_engine.proofs.StartLemmas.{colon_read, start_found}
use Rattle.bx_engine.proofs.starts.start_of.Goals as goal

pub returns-clause-ok : goal.returns-clause-ok
returns-clause-ok c =
    let bytes = c.as_bytes-bytes.result.now in
    let module_is = sym (rw c.in-Some.is at c.in_ok-module.ensures.ok) in
    let function_is = sym (rw c.in-Some-2.is at c.in_ok-function.ensures.ok) in
    let colon_is = sym c.code_at.ensures ∙ colon_read c.code_at.result (sym c.ne.ensures ∙ c.if-ne.false) in
    rw (sym c.as_bytes-bytes.ensures.value)
    (start_found bytes (string_bytes c.in-Some.module) (string_bytes c.in-Some-2.function) c.in-Some.colon c.in-Some-2.end
    module_is colon_is function_is c.if-end-bytes.false)
