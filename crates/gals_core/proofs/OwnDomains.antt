-- The domain that has an end.
use Rattle.std.proofs.Common.{◌≡◌, ℕ}
use Rattle.kernel_terms.specs.declared.tables.Tables.{Tables}
use Rattle.kernel_terms.specs.TableEntries.{channel_at}
use Rattle.cell_core.specs.declared.moves.Side.{Side}
use Rattle.cell_core.specs.declared.moves.Side.TheVariants.{Sender, Receiver}
use Rattle.domain_core.specs.declared.step.ends_of.EndOf.{EndOf}
use Rattle.domain_core.proofs.lemmas.step.OwnEnds.{IsOwn, OwnEnd}
use Rattle.gals_core.specs.RunsOverCells.{domain_at}

pub domain_is : (tables : Tables) (d : ℕ) (e : EndOf) → OwnEnd tables d e → domain_at tables e.side e.channel ≡ d
domain_is tables d e h = of_side e.side h.own
  where
    of_side : (a : Side) → IsOwn d a (channel_at tables e.channel) → domain_at tables a e.channel ≡ d
    of_side Sender own = own
    of_side Receiver own = own.1
