-- Links that are entered and taken away again.
use Rattle.std.proofs.Common.{◌≡◌, ℕ, true, false, ap, cond}
use Rattle.bx_cells.specs.Links.{IsRising, among, placed}
use Rattle.bx_cells.proofs.Linked.{unlinked_linked}
use Rattle.bx_proc.specs.Process.{Process}
use Rattle.bx_proc.specs.Signals.{with_link, without_link}

-- a link that was not there leaves no trace once it is taken away
pub link_undone : (pid : ℕ) (p : Process) → IsRising p.links → among pid p.links ≡ false → without_link pid (with_link pid p) ≡ p
link_undone pid p rising new = ap (λ links. record p { links = links }) (unlinked_linked pid p.links new)

-- a link that is there already changes nothing
pub linked_there : (pid : ℕ) (p : Process) → among pid p.links ≡ true → with_link pid p ≡ p
linked_there pid p there = ap (λ b. record p { links = cond b p.links (placed pid p.links) }) there
