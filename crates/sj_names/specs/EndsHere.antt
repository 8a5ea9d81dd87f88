-- The ends of channels that a domain has used.
use Rattle.std.specs.Prelude.{ℕ, List}
use Rattle.sj_names.specs.declared.mention.Mention.{Mention}
use Rattle.sj_names.specs.declared.mention.Use.TheVariants.{SendingEnd, ReceivingEnd}
use Rattle.sj_names.specs.declared.ends.EndsHere.{EndsHere}
use Rattle.sj_names.specs.UsedHere.{AreHere}

pub record HasEnds (here : EndsHere) (mentions : List Mention) (domain : ℕ) : Type 0 where
  pub sending : AreHere here.sending SendingEnd mentions domain
  pub receiving : AreHere here.receiving ReceivingEnd mentions domain
