use Rattle.std.proofs.Common.{subst, ◌∙◌}
use Rattle.std.specs.Prelude.{◌&&◌, IsSome}
use Rattle.java_values.specs.Kinds.{is_integer, are_boolean, promoted, promoted2, result_kind2}
use Rattle.java_values.proofs.FittingLemmas.{given_kind, given_kind_else}
use Rattle.java_values.proofs.apply.on_integers.Goals as goal

pub returns-in-Shl-clause-kind : goal.returns-in-Shl-clause-kind
returns-in-Shl-clause-kind c =
    let a = c.args.a.kind in
    let b = c.args.b.kind in
    let fits = subst (λ op. IsSome (result_kind2 op a b)) c.in-Shl.is c.requires.fits in
    let kind = c.value_of-in-Shl.ensures.kind ∙ c.kind_of-left_kind.ensures ∙ c.operand-x.ensures.size in
    rw c.in-Shl.is (given_kind (is_integer a && is_integer b) (promoted a) c.value_of-in-Shl.result.kind fits kind)

pub returns-in-Shr-clause-kind : goal.returns-in-Shr-clause-kind
returns-in-Shr-clause-kind c =
    let a = c.args.a.kind in
    let b = c.args.b.kind in
    let fits = subst (λ op. IsSome (result_kind2 op a b)) c.in-Shr.is c.requires.fits in
    let kind = c.value_of-in-Shr.ensures.kind ∙ c.kind_of-left_kind.ensures ∙ c.operand-x.ensures.size in
    rw c.in-Shr.is (given_kind (is_integer a && is_integer b) (promoted a) c.value_of-in-Shr.result.kind fits kind)

pub returns-in-Ushr-clause-kind : goal.returns-in-Ushr-clause-kind
returns-in-Ushr-clause-kind c =
    let a = c.args.a.kind in
    let b = c.args.b.kind in
    let fits = subst (λ op. IsSome (result_kind2 op a b)) c.in-Ushr.is c.requires.fits in
    let kind = c.value_of-in-Ushr.ensures.kind ∙ c.kind_of-left_kind.ensures ∙ c.operand-x.ensures.size in
    rw c.in-Ushr.is (given_kind (is_integer a && is_integer b) (promoted a) c.value_of-in-Ushr.result.kind fits kind)

pub returns-in-And-clause-kind : goal.returns-in-And-clause-kind
returns-in-And-clause-kind c =
    let a = c.args.a.kind in
    let b = c.args.b.kind in
    let fits = subst (λ op. IsSome (result_kind2 op a b)) c.in-And.is c.requires.fits in
    let kind = c.value_of-in-And.ensures.kind ∙ c.kind_of-kind.ensures ∙ c.operands-both.ensures.size in
    rw c.in-And.is (given_kind_else (are_boolean a b) (is_integer a && is_integer b) (promoted2 a b) c.value_of-in-And.result.kind c.requires.integers fits kind)

pub returns-in-Xor-clause-kind : goal.returns-in-Xor-clause-kind
returns-in-Xor-clause-kind c =
    let a = c.args.a.kind in
    let b = c.args.b.kind in
    let fits = subst (λ op. IsSome (result_kind2 op a b)) c.in-Xor.is c.requires.fits in
    let kind = c.value_of-in-Xor.ensures.kind ∙ c.kind_of-kind.ensures ∙ c.operands-both.ensures.size in
    rw c.in-Xor.is (given_kind_else (are_boolean a b) (is_integer a && is_integer b) (promoted2 a b) c.value_of-in-Xor.result.kind c.requires.integers fits kind)

pub returns-in-Or-clause-kind : goal.returns-in-Or-clause-kind
returns-in-Or-clause-kind c =
    let a = c.args.a.kind in
    let b = c.args.b.kind in
    let fits = subst (λ op. IsSome (result_kind2 op a b)) c.in-Or.is c.requires.fits in
    let kind = c.value_of-in-Or.ensures.kind ∙ c.kind_of-kind.ensures ∙ c.operands-both.ensures.size in
    rw c.in-Or.is (given_kind_else (are_boolean a b) (is_integer a && is_integer b) (promoted2 a b) c.value_of-in-Or.result.kind c.requires.integers fits kind)
