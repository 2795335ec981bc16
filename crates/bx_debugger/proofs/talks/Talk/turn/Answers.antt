use Rattle.std.proofs.Common.{◌≡◌, ◌≤◌, ap, arith, drop, length, take}
use Rattle.std.proofs.lemmas.List.{length-drop, length-take-le}
use Rattle.bx_debugger.specs.Talks.{Hearing}
use Rattle.bx_debugger.proofs.TurnRows.{consumes_cut, talks_broken, talks_large, talks_over}
use Rattle.bx_debugger.proofs.talks.Talk.turn.Goals as goal

pub returns-in-Ok-Over : goal.returns-in-Ok-Over
returns-in-Ok-Over g c =
    let had = g.C.Read.remaining c.args.commands.now in
    let rest = g.C.Read.remaining c.read.new.self in
    let chunk = c.read.new.buf in
    let count = c.in-Ok.count in
    let within = c.min-within.result in
    let left : c.self.inside.left ≡ c.args.self.now.left = ap (λ (h : Hearing). h.left) c.self.view_is in
    let fits : count ≤ length chunk = c.in-Ok.ensures.bound.0 in
    let few : within ≤ count = omega (arith, c.min-within.ensures) in
    let long = length-take-le within chunk (omega arith) in
    let said = rw c.in-Ok-Over.field-0-is at c.in-Ok-Over.ensures in
    talks_over c.args.file (g.W.Write.contents c.args.writer.now) (g.W.Write.contents c.feed.new.writer) had rest c.args.self.now
    (take within chunk) (drop within (take count chunk)) (consumes_cut had rest chunk count within few c.in-Ok.ensures.bytes.0)
    (omega (arith, c.min-within.ensures)) said

pub returns-in-Err-feed : goal.returns-in-Err-feed
returns-in-Err-feed g c =
    let had = g.C.Read.remaining c.args.commands.now in
    let rest = g.C.Read.remaining c.read.new.self in
    let chunk = c.read.new.buf in
    let count = c.in-Ok.count in
    let within = c.min-within.result in
    let left : c.self.inside.left ≡ c.args.self.now.left = ap (λ (h : Hearing). h.left) c.self.view_is in
    let fits : count ≤ length chunk = c.in-Ok.ensures.bound.0 in
    let few : within ≤ count = omega (arith, c.min-within.ensures) in
    let long = length-take-le within chunk (omega arith) in
    talks_broken c.args.file (g.W.Write.contents c.args.writer.now) (g.W.Write.contents c.feed.new.writer) had rest c.args.self.now
    (take within chunk) (drop within (take count chunk)) c.in-Err-feed.failure (consumes_cut had rest chunk count within few c.in-Ok.ensures.bytes.0)
    (omega (arith, c.min-within.ensures)) c.in-Err-feed.ensures

pub returns-then-within-count : goal.returns-then-within-count
returns-then-within-count g c =
    let had = g.C.Read.remaining c.args.commands.now in
    let rest = g.C.Read.remaining c.read.new.self in
    let chunk = c.read.new.buf in
    let count = c.in-Ok.count in
    let within = c.min-within.result in
    let left : c.self.inside.left ≡ c.args.self.now.left = ap (λ (h : Hearing). h.left) c.self.view_is in
    let fits : count ≤ length chunk = c.in-Ok.ensures.bound.0 in
    let few : within ≤ count = omega (arith, c.min-within.ensures) in
    let long = length-take-le within chunk (omega arith) in
    let longer = length-take-le count chunk fits in
    let behind = length-drop within (take count chunk) in
    let said = rw c.in-Ok-More.field-0-is at c.in-Ok-More.ensures in
    talks_large c.args.file (g.W.Write.contents c.args.writer.now) (g.W.Write.contents c.feed.new.writer) had rest c.args.self.now c.feed.new.self
    (take within chunk) (drop within (take count chunk)) (consumes_cut had rest chunk count within few c.in-Ok.ensures.bytes.0)
    (omega (arith, c.min-within.ensures)) (omega arith) said
