use Rattle.std.proofs.Common.{◌≡◌, ◌+◌, ◌^◌, ◌<◌, length}
use Rattle.bx_text.specs.Place.{place}
use Rattle.bx_text.specs.Blank.{skip, skip_from, spaces, spaces_from}
use Rattle.bx_text.proofs.blanks.spaces.Given as goal

abbrev pub invariant-spaces : goal.invariant-spaces
invariant-spaces l = (skip_from l.rest l.at l.line ≡ skip (place l.r)) × (spaces_from l.rest l.at l.line ≡ spaces (place l.r)) × (l.at + length l.rest < 2 ^ 64) × (l.line + length l.rest < 2 ^ 64)

abbrev pub decreases-spaces : goal.decreases-spaces
decreases-spaces l = length l.rest
