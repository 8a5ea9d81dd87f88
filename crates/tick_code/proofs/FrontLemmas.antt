-- Equations before a place of their list, the one at it and those behind it.
use Rattle.std.proofs.Common.{◌≡◌, ℕ, suc, ◌+◌, ◌<◌, ◌≤◌, true, false, List, [], ◌∷◌, ◌++◌, length, eqb, refl, sym, ap, ◌∙◌, arith, rules, ◌⊎◌, inl, inr}
use Rattle.std.specs.List.{AllByRecursion, IsDistinct, list_any}
use Rattle.std.proofs.lemmas.Bool.{ne_eqb, eqb-true, or_cases}
use Rattle.std.proofs.lemmas.Map.Steps.{length-le_from_distinct_below}
use Rattle.wire_code.specs.declared.formula.Formula.{Formula}
use Rattle.wire_code.specs.declared.formula.Formula.TheVariants.{Const, Get, And, Or, Not, Apply1, Apply2, Cast, Choose}
use Rattle.wire_code.specs.declared.equation.Equation.{Equation}
use Rattle.wire_code.specs.Formulas.{EachRead}
use Rattle.wire_code.specs.Numbering.{renamed, renamed_equation, renamed_equations, IsNumbering, IsGiven, ReadsGiven, GivesOnce}
use Rattle.wire_code.proofs.EquationLemmas.{each_read}
use Rattle.wire_code.proofs.NumberingLemmas.{given_by_later}

-- a wire that one of two lists gives
abbrev pub EitherGives : List Equation → List Equation → ℕ → Type 0
EitherGives before front k = IsGiven before k ⊎ IsGiven front k

first_or_later : (x e : Equation) (xs : List Equation) (k : ℕ) → (e.wire ≡ k) ⊎ IsGiven xs k → (e.wire ≡ k) ⊎ IsGiven (x ∷ xs) k
first_or_later x e xs k (inl same) = inl same
first_or_later x e xs k (inr given) = inr (inr given)

pub given_behind : (front : List Equation) (e : Equation) (k : ℕ) → IsGiven (front ++ e ∷ []) k → (e.wire ≡ k) ⊎ IsGiven front k
given_behind [] e k (inl same) = inl same
given_behind [] e k (inr none) = absurd none
given_behind (x ∷ xs) e k (inl same) = inr (inl same)
given_behind (x ∷ xs) e k (inr given) = first_or_later x e xs k (given_behind xs e k given)

pub given_in_front : (front rest : List Equation) (k : ℕ) → IsGiven front k → IsGiven (front ++ rest) k
given_in_front [] rest k none = absurd none
given_in_front (x ∷ xs) rest k (inl same) = inl same
given_in_front (x ∷ xs) rest k (inr given) = inr (given_in_front xs rest k given)

pub given_at : (front : List Equation) (e : Equation) (rest : List Equation) (k : ℕ) → e.wire ≡ k → IsGiven (front ++ e ∷ rest) k
given_at [] e rest k same = inl same
given_at (x ∷ xs) e rest k same = inr (given_at xs e rest k same)

shift : (before xs : List Equation) (x : Equation) (k : ℕ) → EitherGives before (x ∷ xs) k → EitherGives (x ∷ before) xs k
shift before xs x k (inl given) = inl (inr given)
shift before xs x k (inr (inl same)) = inl (inl same)
shift before xs x k (inr (inr given)) = inr given

shift_back : (before xs : List Equation) (x : Equation) (k : ℕ) → EitherGives (x ∷ before) xs k → EitherGives before (x ∷ xs) k
shift_back before xs x k (inl (inl same)) = inr (inl same)
shift_back before xs x k (inl (inr given)) = inl given
shift_back before xs x k (inr given) = inr (inr given)

none_in_front : (before : List Equation) (k : ℕ) → EitherGives before [] k → IsGiven before k
none_in_front before k (inl given) = given
none_in_front before k (inr none) = absurd none

pub reads_behind : (before front : List Equation) (e : Equation) → ReadsGiven before front → EachRead (EitherGives before front) e.formula → ReadsGiven before (front ++ e ∷ [])
reads_behind before [] e h r = (each_read e.formula (EitherGives before []) (IsGiven before) (none_in_front before) r, tt)
reads_behind before (x ∷ xs) e h r =
    (h.0, reads_behind (x ∷ before) xs e h.1 (each_read e.formula (EitherGives before (x ∷ xs)) (EitherGives (x ∷ before) xs) (shift before xs x) r))

pub read_by_front : (before front : List Equation) (e : Equation) (rest : List Equation) → ReadsGiven before (front ++ e ∷ rest) → EachRead (EitherGives before front) e.formula
read_by_front before [] e rest h = each_read e.formula (IsGiven before) (EitherGives before []) (λ k given. inl given) h.0
read_by_front before (x ∷ xs) e rest h =
    each_read e.formula (EitherGives (x ∷ before) xs) (EitherGives before (x ∷ xs)) (shift_back before xs x) (read_by_front (x ∷ before) xs e rest h.1)

pub once_at : (front : List Equation) (e : Equation) (rest : List Equation) → GivesOnce (front ++ e ∷ rest) → IsGiven front e.wire → ⊥
once_at [] e rest h none = none
once_at (x ∷ xs) e rest h (inl same) = h.0 (given_at xs e rest x.wire (sym same))
once_at (x ∷ xs) e rest h (inr given) = once_at xs e rest h.1 given

pub numbering_behind : (r : ℕ → ℕ) (n : ℕ) (front : List Equation) (e : Equation) → IsNumbering r n front → r e.wire ≡ n + length front → IsNumbering r n (front ++ e ∷ [])
numbering_behind r n [] e h own = let s : n + 0 ≡ n = omega arith in (own ∙ s, tt)
numbering_behind r n (x ∷ xs) e h own =
    let s : n + suc (length xs) ≡ n + 1 + length xs = omega arith in
    (h.0, numbering_behind r (n + 1) xs e h.1 (own ∙ s))

-- renamings that agree on what a formula reads
pub renamed_like : (g : Formula) (P : ℕ → Type 0) (r s : ℕ → ℕ) → ((k : ℕ) → P k → s k ≡ r k) → EachRead P g → renamed s g ≡ renamed r g
renamed_like (Const n) P r s same h = refl
renamed_like (Get k) P r s same h = refl
renamed_like (And a b) P r s same h = ap (λ x. And x (s b)) (same a h.0) ∙ ap (λ y. And (r a) y) (same b h.1)
renamed_like (Or a b) P r s same h = ap (λ x. Or x (s b)) (same a h.0) ∙ ap (λ y. Or (r a) y) (same b h.1)
renamed_like (Not a) P r s same h = ap Not (same a h)
renamed_like (Apply1 op k a) P r s same h = ap (Apply1 op k) (same a h)
renamed_like (Apply2 op k l a b) P r s same h =
    ap (λ x. Apply2 op k l x (s b)) (same a h.0) ∙ ap (λ y. Apply2 op k l (r a) y) (same b h.1)
renamed_like (Cast k l a) P r s same h = ap (Cast k l) (same a h)
renamed_like (Choose c a b) P r s same h =
    ap (λ x. Choose x (s a) (s b)) (same c h.0)
    ∙ ap (λ y. Choose (r c) y (s b)) (same a h.1)
    ∙ ap (λ z. Choose (r c) (r a) z) (same b h.2)

abbrev pub equation_of : ℕ → Formula → Equation
equation_of wire formula = record { wire = wire; formula = formula }

pub same_equation : (w v : ℕ) (g h : Formula) → w ≡ v → g ≡ h → equation_of w g ≡ equation_of v h
same_equation w v g h same like = ap (λ x. equation_of x g) same ∙ ap (λ y. equation_of v y) like

pub equations_like : (r s : ℕ → ℕ) (before front : List Equation) → ReadsGiven before front → ((k : ℕ) → IsGiven before k → s k ≡ r k) → ((k : ℕ) → IsGiven front k → s k ≡ r k) → renamed_equations s front ≡ renamed_equations r front
equations_like r s before [] h same here = refl
equations_like r s before (e ∷ es) h same here =
    let own : renamed_equation s e ≡ renamed_equation r e =
    same_equation (s e.wire) (r e.wire) (renamed s e.formula) (renamed r e.formula) (here e.wire (inl refl)) (renamed_like e.formula (IsGiven before) r s same h.0) in
    let others = equations_like r s (e ∷ before) es h.1 (given_by_later (λ k. s k ≡ r k) before es e same here) (λ k given. here k (inr given)) in
    ap (λ x. x ∷ renamed_equations s es) own ∙ ap (λ xs. renamed_equation r e ∷ xs) others

-- equations that give each wire once, below a limit, are at most so many
wires : List Equation → List ℕ
wires [] = []
wires (e ∷ es) = e.wire ∷ wires es

length_wires : (es : List Equation) → length (wires es) ≡ length es
unfolding wires
length_wires [] = refl
length_wires (e ∷ es) = ap suc (length_wires es)

apart : (w : ℕ) (es : List Equation) → (IsGiven es w → ⊥) → AllByRecursion (λ y. eqb w y ≡ false) (wires es)
unfolding wires
apart w [] once = tt
apart w (e ∷ es) once = (ne_eqb w e.wire (λ same. once (inl (sym same))), apart w es (λ given. once (inr given)))

distinct : (es : List Equation) → GivesOnce es → IsDistinct eqb (wires es)
unfolding wires IsDistinct
distinct [] once = tt
distinct (e ∷ es) once = (apart e.wire es once.0, distinct es once.1)

or_given : (e : Equation) (es : List Equation) (k : ℕ) → (list_any (eqb k) (wires es) ≡ true → IsGiven es k) → (eqb k e.wire ≡ true) ⊎ (list_any (eqb k) (wires es) ≡ true) → IsGiven (e ∷ es) k
or_given e es k back (inl same) = inl (sym (eqb-true k e.wire same))
or_given e es k back (inr among) = inr (back among)

any_given : (es : List Equation) (k : ℕ) → list_any (eqb k) (wires es) ≡ true → IsGiven es k
unfolding wires
any_given [] k h = absurd (search rules)
any_given (e ∷ es) k h = or_given e es k (any_given es k) (or_cases (eqb k e.wire) (list_any (eqb k) (wires es)) h)

pub few_given : (es : List Equation) (n : ℕ) → GivesOnce es → ((k : ℕ) → IsGiven es k → k < n) → length es ≤ n
few_given es n once low =
    let few = length-le_from_distinct_below (wires es) n (distinct es once) (λ k among. low k (any_given es k among)) in
    omega (arith, few, length_wires es)
