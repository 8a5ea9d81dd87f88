-- Of a list of failures one is the least at most.
use Rattle.std.proofs.Common.{◌≡◌, ℕ, zero, suc, ◌==◌, Bool, true, false, ◌&&◌, ◌||◌, nat_lt, List, [], ◌∷◌, inl, inr, ap, refl, sym, ◌∙◌, arith}
use Rattle.std.specs.List.{list_any}
use Rattle.std.proofs.lemmas.Bool.Decides.{nat_tests}
use Rattle.sj_names.specs.declared.failure.Failure.{Failure}
use Rattle.sj_names.specs.declared.failure.FailureKind.{FailureKind}
use Rattle.sj_names.specs.declared.failure.FailureKind.TheVariants as fault
use Rattle.sj_names.specs.definitions.Failures.{rank, is_before, IsOneOf, IsLeast}

-- of two numbers each, the first decides, and then the second
abbrev is_less : ℕ → ℕ → ℕ → ℕ → Bool
is_less a x b y = nat_lt a b || ((a == b) && nat_lt x y)

same_first : (a x b y : ℕ) → is_less a x b y ≡ false → is_less b y a x ≡ false → a ≡ b
same_first a x b y h k = grind (arith, nat_tests)

same_second : (a x b y : ℕ) → is_less a x b y ≡ false → is_less b y a x ≡ false → x ≡ y
same_second a x b y h k = grind (arith, nat_tests)

-- the kind of a rank
kind_at : ℕ → FailureKind
kind_at zero = fault.Unknown
kind_at (suc zero) = fault.Twice
kind_at (suc (suc zero)) = fault.SignalShared
kind_at (suc (suc (suc zero))) = fault.EmitInput
kind_at (suc (suc (suc (suc zero)))) = fault.ChannelEnds
kind_at (suc (suc (suc (suc (suc n))))) = fault.TooMany

kind_of_rank : (f : FailureKind) → kind_at (rank f) ≡ f
unfolding kind_at
kind_of_rank fault.Unknown = refl
kind_of_rank fault.Twice = refl
kind_of_rank fault.SignalShared = refl
kind_of_rank fault.EmitInput = refl
kind_of_rank fault.ChannelEnds = refl
kind_of_rank fault.TooMany = refl

same_kind : (f g : FailureKind) → rank f ≡ rank g → f ≡ g
same_kind f g h = sym (kind_of_rank f) ∙ ap kind_at h ∙ kind_of_rank g

same_failure : (f g : Failure) → is_before f g ≡ false → is_before g f ≡ false → f ≡ g
same_failure f g h k =
    ap (λ a. record { at = a; fault = f.fault }) (same_first f.at (rank f.fault) g.at (rank g.fault) h k)
    ∙ ap (λ x. record { at = g.at; fault = x }) (same_kind f.fault g.fault (same_second f.at (rank f.fault) g.at (rank g.fault) h k))

neither : (a b : Bool) → (a || b) ≡ false → (a ≡ false) × (b ≡ false)
neither true b h = cc
neither false b h = (refl, h)

-- none of a list comes before its least
none_before : (fs : List Failure) (f g : Failure) → IsOneOf g fs → list_any (λ h. is_before h f) fs ≡ false → is_before g f ≡ false
none_before [] f g m n = elim m [ ]
none_before (h ∷ fs) f g (inl e) n = ap (λ x. is_before x f) e ∙ (neither (is_before h f) (list_any (λ x. is_before x f) fs) n).0
none_before (h ∷ fs) f g (inr m) n = none_before fs f g m (neither (is_before h f) (list_any (λ x. is_before x f) fs) n).1

pub one_least : (fs : List Failure) (f g : Failure) → IsLeast fs f → IsLeast fs g → f ≡ g
one_least fs f g a b = same_failure f g (none_before fs g f a.one b.first) (none_before fs f g b.one a.first)

-- where there is none, there is no least
pub none_is_least : (fs : List Failure) (f : Failure) → fs ≡ [] → IsLeast fs f → ⊥
none_is_least [] f e a = a.one
none_is_least (g ∷ gs) f e a = cc
