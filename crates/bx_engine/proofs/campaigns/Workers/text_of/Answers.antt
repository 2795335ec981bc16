use Rattle.std.proofs.Common.{length, sym}
use Rattle.std.specs.Prelude.{string_bytes}
use Rattle.bx_engine.proofs.CampaignRows.{behind_image}
use Rattle.bx_engine.proofs.FileRows.{same_length}
use Rattle.bx_engine.proofs.campaigns.Workers.text_of.Goals as goal

pub returns : goal.returns
returns g c given planned known there =
    behind_image (λ text. string_bytes text) c.args.self.now.form c.args.self.now.count (length c.args.listings.now) c.in-Ok.image c.args.start.now given planned c.told.result
    (c.in-Ok.ensures given known) (sym (same_length g.R.Read.remaining c.args.listings.now given known)) (c.told.ensures planned there)
