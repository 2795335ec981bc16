use Rattle.std.proofs.Common.{rules, ◌≡◌, ◌++◌, ◌<◌, ◌^◌, List, ℕ, string_bytes, subst}
use Rattle.std.specs.Prelude.{OnOk}
use lib.Signed.{mag}
use Rattle.bx_text.proofs.Shown.{small_text}
use Rattle.bx_text.proofs.printing.push_integer.Goals as goal

pub returns : goal.returns
returns c =
    let small : mag c.args.value < 2 ^ 63 = search rules in
    subst (λ (text : List ℕ). OnOk c.push_str.result (string_bytes c.push_str.new.self ≡ string_bytes c.args.out.now ++ text)) (small_text c.args.value small) (search rules)
