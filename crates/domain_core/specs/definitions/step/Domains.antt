-- A compiled domain as contracts see it, and the state that it stands for.
use Rattle.std.specs.Prelude.{ℕ, suc, zero, ℤ, pos, Bool, true, false, cond, ◌==◌, List, [], ◌∷◌, length, get_or}
use Rattle.kernel_terms.specs.declared.tables.ChannelInfo.{ChannelInfo}
use Rattle.kernel_terms.specs.declared.tables.Tables.{Tables}
use Rattle.kernel_terms.specs.declared.system.System.{System}
use Rattle.kernel_terms.specs.Systems.{tables_of}
use Rattle.kernel_terms.specs.Statements.{Stmt, Nothing}
use Rattle.kernel_terms.specs.Marks.{Mark, Going, Ended}
use Rattle.kernel_rules.specs.definitions.Registers.{residual, variables_held, values_held, last_held}
use Rattle.kernel_rules.specs.definitions.LegalTick.{DomainState}
use Rattle.tick_log.specs.definitions.Containers.{LogState}
use Rattle.cell_core.specs.declared.moves.Side.{Side}
use Rattle.cell_core.specs.declared.moves.Side.TheVariants.{Sender, Receiver}
use Rattle.domain_core.specs.declared.step.ends_of.EndOf.{EndOf}
use Rattle.domain_core.specs.declared.step.ends_of.EndJoin.{EndJoin}
use Rattle.domain_core.specs.definitions.runs.Systems.{source_of}

-- A domain of a system, the values of its registers, which of its ends have an offer that stands, its log,
-- the joins at each end, for how many more ticks it has memory, whether it has stopped since its next tick would
-- have a stamp past the limit, and the stamp of its last tick, which is 0 before the first. It stands as the mark
-- of its log says.
pub record DomainView : Type 0 where
  pub system : System
  pub domain : ℕ
  pub registers : List ℤ
  pub standing : List Bool
  pub log : LogState
  pub joins : List (List EndJoin)
  pub spare : ℕ
  pub stopped : Bool
  pub stamp : ℕ

-- the ends that a domain has, from the channels of a number on, in order of channel number
abbrev pub ends_from : ℕ → ℕ → List ChannelInfo → List EndOf
ends_from d c [] = []
ends_from d c (info ∷ infos) =
    cond (info.sender == d) (record { channel = c; side = Sender } ∷ ends_from d (suc c) infos)
    (cond (info.receiver == d) (record { channel = c; side = Receiver } ∷
    ends_from d (suc c) infos) (ends_from d (suc c) infos))

abbrev pub ends_of : Tables → ℕ → List EndOf
ends_of tables d = ends_from d 0 tables.channels

abbrev pub tables_in : DomainView → Tables
tables_in v = tables_of v.system

abbrev pub ends_in : DomainView → List EndOf
ends_in v = ends_of (tables_in v) v.domain

abbrev pub tick_count_of : DomainView → ℕ
tick_count_of v = length v.log.entries

abbrev pub register_at : List ℤ → ℕ → ℤ
register_at registers k = get_or registers k (pos 0)

abbrev pub is_receiver : Side → Bool
is_receiver Sender = false
is_receiver Receiver = true

abbrev pub joins_at : List (List EndJoin) → ℕ → List EndJoin
joins_at joins n = get_or joins n []

-- The statement before the first tick is the source, none is left once the domain has ended, and in between it is
-- what the registers stand for.
abbrev pub statement_held : Tables → Stmt → ℕ → Mark → (ℕ → ℤ) → Stmt
statement_held tables source ticks Ended r = Nothing
statement_held tables source zero Going r = source
statement_held tables source (suc n) Going r = residual tables source 0 r

-- the state that a domain's registers stand for after so many ticks
abbrev pub state_held : Tables → ℕ → Stmt → ℕ → Mark → (ℕ → ℤ) → DomainState
state_held tables d source ticks mark r = record {
  statement = statement_held tables source ticks mark r;
  variables = variables_held tables d source r;
  values = values_held tables d source r;
  last = last_held tables d source r;
  ticks = ticks;
  mark = mark;
}

abbrev pub source_in : DomainView → Stmt
source_in v = source_of v.system v.domain

abbrev pub state_of : DomainView → DomainState
state_of v =
    state_held (tables_in v) v.domain (source_in v) (tick_count_of v) v.log.mark
    (register_at v.registers)
