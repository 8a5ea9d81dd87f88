-- The kind of a result, where an operator takes its operands.
use Rattle.std.proofs.Common.{rules, ◌≡◌, Bool, true, false, ap, sym}
use Rattle.std.specs.Prelude.{cond, IsSome, Some, None}
use Rattle.java_values.specs.declared.kind.Kind.{Kind}
use Rattle.java_values.specs.declared.kind.Kind.TheVariants.{Boolean}

pub given_kind : (t : Bool) (p k : Kind) → IsSome (cond t (Some p) None) → k ≡ p → cond t (Some p) None ≡ Some k
given_kind true p k h e = ap Some (sym e)
given_kind false p k h e = search rules

pub given_kind_else : (s t : Bool) (p k : Kind) → s ≡ false → IsSome (cond s (Some Boolean) (cond t (Some p) None)) → k ≡ p → cond s (Some Boolean) (cond t (Some p) None) ≡ Some k
given_kind_else true t p k other h e = search rules
given_kind_else false t p k other h e = given_kind t p k h e
