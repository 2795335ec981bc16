use Rattle.std.proofs.Common.{◌==◌, rules}
use Rattle.std.specs.Prelude.{not}
use Rattle.std.proofs.lemmas.Fn.{filter_same}
use Rattle.bx_cells.proofs.Linked.{rising_kept}
use Rattle.bx_cells.proofs.links.drop_in.Goals as goal

pub returns-clause-left : goal.returns-clause-left
returns-clause-left c = filter_same _ (λ q. not (q == c.args.pid)) _ (λ x b q h. search rules) _ _ c.retain.ensures.filtered

pub returns-clause-rising : goal.returns-clause-rising
returns-clause-rising c = rw (returns-clause-left c) (rising_kept c.args.pid c.args.pids.now.items c.requires)
