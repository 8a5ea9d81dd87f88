-- What the ends tell of the joins that they answer.
use Rattle.std.proofs.Common.{ℕ, ◌<◌, ◌^◌, ℤ, Option, Some, None, refl, sym, arith}
use Rattle.std.specs.Prelude.{IfSome}
use Rattle.std.proofs.lemmas.Option.{none-some}
use Rattle.cell_core.specs.declared.moves.Joined.{Joined}
use Rattle.cell_core.specs.definitions.Ends.{EndView, JoinsOffer}
use Rattle.domain_core.specs.definitions.step.EndCalls.{IsOffered}
use Rattle.domain_core.specs.step.JoinLists.{StampsFit}

pub offered_stamps : (ask : Option ℤ) (answer : Option Joined) (stamp : ℕ) (before after : EndView) → stamp < 2 ^ 62 →
    IsOffered ask stamp answer before after → IfSome answer StampsFit
offered_stamps ask None stamp before after low offered = tt
offered_stamps None (Some j) stamp before after low offered = absurd (none-some j (sym (offered.alone refl)))
offered_stamps (Some v) (Some j) stamp before after low offered =
    let met : JoinsOffer before v stamp j = offered.joined v refl in
    record { mine = omega (arith, met.mine, low); theirs = met.theirs }
