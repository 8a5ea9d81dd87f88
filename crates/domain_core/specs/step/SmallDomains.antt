-- Two small domains that speak over a channel.
use Rattle.std.specs.Prelude.{◌≡◌, ℕ, pos, true, false, [], ◌∷◌, codes, get_or, None}
use Rattle.java_values.specs.declared.kind.Kind.TheVariants as kind
use Rattle.kernel_terms.specs.declared.tables.Tables.{Tables}
use Rattle.kernel_terms.specs.declared.tables.Sort.TheVariants as sort
use Rattle.kernel_terms.specs.declared.tables.Combine.TheVariants as combine
use Rattle.kernel_terms.specs.declared.term.Term.{Term}
use Rattle.kernel_terms.specs.declared.system.System.{System}
use Rattle.kernel_terms.specs.Systems.{tables_of, domains_of}
use Rattle.kernel_terms.specs.WellFormed.{has_parts}
use Rattle.kernel_terms.specs.Marks.{Going}
use Rattle.kernel_terms.specs.Expressions.{Literal}
use Rattle.kernel_terms.specs.Statements.{Stmt, Emit, Seq, Send, Receive, statement}
use Rattle.kernel_terms.specs.Built.{is_built}
use Rattle.domain_core.specs.definitions.step.Domains.{DomainView, tables_in}

-- the pure outputs D of domain 0 and B of domain 1, and the channel C from domain 0 to domain 1
abbrev pub pure_domains : Tables
pure_domains = record {
  signals =
      record {
        name = codes "D";
        domain = 0;
        sort = sort.Output;
        kind = None;
        combine = combine.Max;
      } ∷
      record {
        name = codes "B";
        domain = 1;
        sort = sort.Output;
        kind = None;
        combine = combine.Max;
      } ∷ [];
  channels = record { name = codes "C"; kind = kind.Int; sender = 0; receiver = 1 } ∷ [];
  variables = [];
}

-- the term has built forms alone and is this statement, and its lists aren't empty
pub record IsTermOf (p : Stmt) (t : Term) : Type 0 where
  pub built : is_built t ≡ true
  pub same : statement t ≡ p
  pub parts : has_parts t ≡ true

-- `send C(5); emit D;` and `receive C; emit B;` over the pure tables
pub record IsPair (system : System) : Type 0 where
  pub tables : tables_of system ≡ pure_domains
  pub sending : Term
  pub receiving : Term
  pub domains : domains_of system ≡ sending ∷ receiving ∷ []
  pub sends : IsTermOf (Seq (Send 0 (Literal kind.Int (pos 5))) (Emit 0 None)) sending
  pub receives : IsTermOf (Seq (Receive 0) (Emit 1 None)) receiving

-- the second domain of that program, with memory for two ticks, before its first
pub record IsReceiving (v : DomainView) : Type 0 where
  pub tables : tables_in v ≡ pure_domains
  pub number : v.domain ≡ 1
  pub going : v.log.mark ≡ Going
  pub runs : v.stopped ≡ false
  pub spare : v.spare ≡ 2
  pub free : (n : ℕ) → get_or v.standing n false ≡ false
