-- Kinds of the wires of a domain's equations.
use Rattle.std.specs.Prelude.{◌≡◌, ℕ, suc, ◌+◌, pos, true, List, length, map}
use Rattle.java_values.specs.declared.kind.Kind.{Kind}
use Rattle.java_values.specs.declared.kind.Kind.TheVariants.{Boolean}
use Rattle.kernel_terms.specs.declared.tables.Tables.{Tables}
use Rattle.kernel_terms.specs.Statements.{Stmt}
use Rattle.kernel_terms.specs.TableEntries.{signal_at, is_interface_of, interface_of, value_kind}
use Rattle.kernel_rules.specs.definitions.Registers.{statement_registers, domain_registers}
use Rattle.tick_code.specs.BuiltKinds.{WiresFit, frame_kinds}
use Rattle.tick_code.specs.WellKinded.{Class, Constant, Fits, WellKinded}
use Rattle.wire_code.specs.declared.equation.Equation.{Equation as WireEquation}
use Rattle.surf_graph.specs.definitions.Copies.{Copy}
use Rattle.surf_graph.specs.definitions.DomainCopies.{DomainCopy, inputs_of, all_statuses, register_equations, first_presence_wire, first_value_wire, first_wire_before}
use Rattle.surf_graph.specs.definitions.KindedFormulas.{HaveKinds}

-- the kinds of a domain's frame: those of its registers, and then presence and value of each input
abbrev pub domain_frame : Tables → ℕ → Stmt → List Kind
domain_frame tables d p =
    frame_kinds (domain_registers tables d p)
    (map (λ s. value_kind (signal_at tables s)) (inputs_of tables d))

-- By these classes each equation of the domain has its kind, and the wires that it gives are of theirs.
pub record DomainFits (tables : Tables) (d : ℕ) (p : Stmt) (classes : ℕ → Class) (c : DomainCopy) :
    Type 0 where
  pub zero : classes 0 ≡ Constant (pos 0)
  pub each : HaveKinds tables (domain_frame tables d p) classes c.equations
  pub present : (s : ℕ) → is_interface_of d (signal_at tables s) ≡ true →
      Fits Boolean (classes (c.wires.present s))
  pub value : (s : ℕ) → is_interface_of d (signal_at tables s) ≡ true →
      Fits (value_kind (signal_at tables s)) (classes (c.wires.value s))
  pub next : WiresFit classes (domain_registers tables d p) c.next
  pub paused : Fits Boolean (classes c.paused)

-- there are such classes
pub record IsKindedDomain (tables : Tables) (d : ℕ) (p : Stmt) (c : DomainCopy) : Type 0 where
  pub classes : ℕ → Class
  pub fits : DomainFits tables d p classes c

-- the first wire behind all of a domain's own, by a copy of its statement
abbrev pub wires_end : Tables → ℕ → Stmt → Copy → ℕ
wires_end tables d p a =
    let m = suc a.next + length (all_statuses tables d p (interface_of tables d)
    (first_presence_wire tables d) (first_value_wire tables d) (first_wire_before tables d)
    (suc a.next) a.emits) in
    m + length (register_equations (statement_registers tables p) 0 m a.sets)

-- operations that are well-kinded over the domain's frame, by classes that fit the domain
pub record IsWellKindedDomain (tables : Tables) (d : ℕ) (p : Stmt) (ops : List WireEquation)
    (c : DomainCopy) : Type 0 where
  pub well : WellKinded (domain_frame tables d p) ops
  pub fits : DomainFits tables d p well.classes c
