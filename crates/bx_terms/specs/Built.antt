-- When a term is not built.
use Rattle.std.specs.Prelude.{◌<◌, ◌≤◌}
use Rattle.bx_terms.specs.declared.terms.TermRefusal.{TermRefusal, TheVariants.TooHigh, TheVariants.Memory}
use Rattle.bx_terms.specs.Tree.{Tree, height}

-- no term is higher
abbrev pub IsWithinHeight : Tree → Type 0
IsWithinHeight t = height t ≤ 10000

-- a term that would be too high is refused as such; memory may run out only where the height is fine
abbrev pub Refuses : TermRefusal → Tree → Type 0
Refuses TooHigh t = 10000 < height t
Refuses Memory t = IsWithinHeight t
