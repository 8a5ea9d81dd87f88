-- Equations of which the first ones are numbered anew.
use Rattle.std.proofs.Common.{pos, true, false, eqb, ◌≡◌, ◌≢◌, ℕ, ◌+◌, ◌<◌, ◌≤◌, ◌^◌, Option, None, Some, List, [], ◌∷◌, ◌++◌, length, get_or, set, refl, sym, ap, ◌∙◌, subst, arith, rules, ◌⊎◌, inl, inr}
use Rattle.std.specs.Option.{IsSome, is_some, unwrap_or}
use Rattle.std.proofs.lemmas.Bool.Decides.{eqb_tells}
use Rattle.std.proofs.lemmas.List.{append_assoc, append-nil, map-append, length-append, length-map}
use Rattle.std.proofs.Math.Seq.{get_or-append_seam, set-append_seam}
use Rattle.wire_code.specs.declared.formula.Formula.TheVariants.{Const}
use Rattle.wire_code.specs.declared.equation.Equation.{Equation}
use Rattle.wire_code.specs.Formulas.{IsOrdered}
use Rattle.wire_code.specs.Numbering.{renamed, renamed_equation, renamed_equations, IsNumbering, IsGiven, ReadsGiven, GivesOnce, Numbered}
use Rattle.wire_code.proofs.EquationLemmas.{each_read}
use Rattle.wire_code.proofs.NumberingLemmas.{numbering_like, given_once, ordered_from_zero}
use Rattle.std.specs.List.{All}
use Rattle.tick_code.specs.declared.numbers.Numbers.{Numbers}
use Rattle.tick_code.specs.Counters.{AreNumbered}
use Rattle.tick_code.specs.Numbers.{number_of, renaming_of, HasPlace, HavePlaces, IsNext, Renames}
use Rattle.tick_code.proofs.FrontLemmas.{EitherGives, given_behind, given_in_front, given_at, reads_behind, read_by_front, once_at, numbering_behind, renamed_like, equation_of, same_equation, equations_like, few_given}

-- The first i equations are renamed, by numbers of just the wires that they give; the others are as they were.
pub record Progress (es : List Equation) (i : ℕ) (now : List Equation) (t : ℕ → Option ℕ) : Type 0 where
  pub front : List Equation
  pub rest : List Equation
  pub whole : es ≡ front ++ rest
  pub size : length front ≡ i
  pub list : now ≡ renamed_equations (renaming_of t) front ++ rest
  pub numbers : IsNumbering (renaming_of t) 0 front
  pub reads : ReadsGiven [] front
  pub known : (k : ℕ) → IsSome (t k) → IsGiven front k
  pub given : (k : ℕ) → IsGiven front k → IsSome (t k)
  pub small : (k : ℕ) → IsGiven front k → k < 2 ^ 32

pub none_isnt_some : (o : Option ℕ) → o ≡ None → IsSome o → ⊥
none_isnt_some o none h = absurd (search (rules, none, h))

pub some_is : (o : Option ℕ) (n : ℕ) → o ≡ Some n → IsSome o
some_is o n same = ap is_some same

pub none_or_some : (o : Option ℕ) → (o ≡ None) ⊎ IsSome o
none_or_some None = inl refl
none_or_some (Some n) = inr refl

pub begins : (es : List Equation) (t : ℕ → Option ℕ) → ((k : ℕ) → t k ≡ None) → Progress es 0 es t
begins es t empty = record {
  front = [];
  rest = es;
  whole = refl;
  size = refl;
  list = refl;
  numbers = tt;
  reads = tt;
  known = λ k h. absurd (none_isnt_some (t k) (empty k) h);
  given = λ k none. absurd none;
  small = λ k none. absurd none;
}

-- the equation at the place of progress, and those behind it
pub record NextOne (rest : List Equation) (e : Equation) : Type 0 where
  pub others : List Equation
  pub split : rest ≡ e ∷ others

length_renamed : (r : ℕ → ℕ) (front rest : List Equation) → length (renamed_equations r front ++ rest) ≡ length front + length rest
length_renamed r front rest = length-append (renamed_equations r front) rest ∙ ap (λ n. n + length rest) (length-map front (renamed_equation r))

next_in : (r : ℕ → ℕ) (front rest : List Equation) (e d : Equation) → length front < length (renamed_equations r front ++ rest) → get_or (renamed_equations r front ++ rest) (length front) d ≡ e → NextOne rest e
next_in r front [] e d lt here = absurd (omega (arith, lt, length_renamed r front []))
next_in r front (x ∷ xs) e d lt here =
    let size : length (renamed_equations r front) ≡ length front = length-map front (renamed_equation r) in
    let at : x ≡ e =
    sym (get_or-append_seam (renamed_equations r front) x xs d)
    ∙ ap (λ n. get_or (renamed_equations r front ++ x ∷ xs) n d) size
    ∙ here in
    record { others = xs; split = ap (λ y. y ∷ xs) at }

pub next_of : (es : List Equation) (i : ℕ) (now : List Equation) (t : ℕ → Option ℕ) (e d : Equation) → (p : Progress es i now t) → i < length now → get_or now i d ≡ e → NextOne p.rest e
next_of es i now t e d p lt here =
    let all = renamed_equations (renaming_of t) p.front ++ p.rest in
    let low : length p.front < length all = omega (arith, lt, p.size, ap length p.list) in
    let at : get_or all (length p.front) d ≡ e =
    ap (λ xs. get_or xs (length p.front) d) (sym p.list) ∙ ap (λ n. get_or now n d) p.size ∙ here in
    next_in (renaming_of t) p.front p.rest e d low at

pub whole_at : (es front rest : List Equation) (e : Equation) (o : NextOne rest e) → es ≡ front ++ rest → es ≡ front ++ e ∷ o.others
whole_at es front rest e o whole = whole ∙ ap (λ xs. front ++ xs) o.split

pub length_of_progress : (es : List Equation) (i : ℕ) (now : List Equation) (t : ℕ → Option ℕ) → Progress es i now t → length now ≡ length es
length_of_progress es i now t p =
    ap length p.list ∙ length_renamed (renaming_of t) p.front p.rest ∙ sym (length-append p.front p.rest) ∙ sym (ap length p.whole)

-- the one at that place of the first list
pub old_at : (es : List Equation) (i : ℕ) (now : List Equation) (t : ℕ → Option ℕ) (e d : Equation) → Progress es i now t → i < length now → get_or now i d ≡ e → get_or es i d ≡ e
old_at es i now t e d p lt here =
    let o = next_of es i now t e d p lt here in
    ap (λ n. get_or es n d) (sym p.size)
    ∙ ap (λ xs. get_or xs (length p.front) d) (whole_at es p.front p.rest e o p.whole)
    ∙ get_or-append_seam p.front e o.others d

place_in : (old new : Numbers) (k : ℕ) → HavePlaces old new → HasPlace old k → HasPlace new k
place_in old new k same h =
    (λ lt. omega (arith, same.0, h.0 lt), λ le. omega (arith, same.1, h.1 le))

pub same_places : (old new newer : Numbers) → HavePlaces old new → HavePlaces new newer → HavePlaces old newer
same_places old new newer h g = (g.0 ∙ h.0, g.1 ∙ h.1)

pub place_next : (old new : Numbers) (es : List Equation) (i : ℕ) (now : List Equation) (e d : Equation) → Progress es i now (number_of new) → HavePlaces old new → All (λ x. HasPlace old x.wire) es → i < length now → get_or now i d ≡ e → HasPlace new e.wire
place_next old new es i now e d p same all lt here =
    let low : i < length es = omega (arith, lt, length_of_progress es i now (number_of new) p) in
    let at : (get_or es i d).wire ≡ e.wire =
    ap (λ (x : Equation). x.wire) (old_at es i now (number_of new) e d p lt here) in
    place_in old new e.wire same (subst (HasPlace old) at (all i d low))

-- a wire that has no number is another one than those that are given so far
other_wire : (t : ℕ → Option ℕ) (w k : ℕ) → t w ≡ None → IsSome (t k) → k ≢ w
other_wire t w k none h same = none_isnt_some (t k) (ap t same ∙ none) h

same_number : (t s : ℕ → Option ℕ) (w : ℕ) → t w ≡ None → ((k : ℕ) → k ≢ w → s k ≡ t k) → (k : ℕ) → IsSome (t k) → renaming_of s k ≡ renaming_of t k
same_number t s w none others k h = ap (λ o. unwrap_or o 0) (others k (other_wire t w k none h))

renamed_next : (t s : ℕ → Option ℕ) (i : ℕ) (e g : Equation) → Renames t s i e g → renamed_equation (renaming_of s) e ≡ g
renamed_next t s i e g step =
    let like = renamed_like e.formula (λ k. IsSome (t k)) (renaming_of t) (renaming_of s) (same_number t s e.wire step.can.1 step.others) step.can.0 in
    same_equation (renaming_of s e.wire) i (renamed (renaming_of s) e.formula) (renamed (renaming_of t) e.formula) (ap (λ o. unwrap_or o 0) step.own) like
    ∙ sym step.equation

set_next : (front : List Equation) (r : ℕ → ℕ) (e g : Equation) (others now : List Equation) (i : ℕ) → length front ≡ i → now ≡ renamed_equations r front ++ e ∷ others → set now i g ≡ renamed_equations r front ++ g ∷ others
set_next front r e g others now i size list =
    let at : i ≡ length (renamed_equations r front) = sym (length-map front (renamed_equation r) ∙ size) in
    ap (λ n. set now n g) at
    ∙ ap (λ xs. set xs (length (renamed_equations r front)) g) list
    ∙ set-append_seam (renamed_equations r front) e others g

list_next : (front : List Equation) (r s : ℕ → ℕ) (e g : Equation) (others : List Equation) → renamed_equations s front ≡ renamed_equations r front → renamed_equation s e ≡ g → renamed_equations r front ++ g ∷ others ≡ renamed_equations s (front ++ e ∷ []) ++ others
list_next front r s e g others same one =
    ap (λ xs. xs ++ g ∷ others) (sym same)
    ∙ ap (λ x. renamed_equations s front ++ x ∷ others) (sym one)
    ∙ sym (append_assoc (renamed_equations s front) (renamed_equation s e ∷ []) others)
    ∙ ap (λ xs. xs ++ others) (sym (map-append (renamed_equation s) front (e ∷ [])))

known_next : (front : List Equation) (e : Equation) (t s : ℕ → Option ℕ) → ((k : ℕ) → IsSome (t k) → IsGiven front k) → ((k : ℕ) → k ≢ e.wire → s k ≡ t k) → (k : ℕ) → IsSome (s k) → (k ≡ e.wire) ⊎ (k ≢ e.wire) → IsGiven (front ++ e ∷ []) k
known_next front e t s known others k h (inl same) = given_at front e [] k (sym same)
known_next front e t s known others k h (inr apart) =
    given_in_front front (e ∷ []) k (known k (ap is_some (sym (others k apart)) ∙ h))

told : (j k : ℕ) → ((eqb j k ≡ true) × (j ≡ k)) ⊎ ((eqb j k ≡ false) × (j ≢ k)) → (j ≡ k) ⊎ (j ≢ k)
told j k (inl h) = inl h.1
told j k (inr h) = inr h.1

is_or_not : (j k : ℕ) → (j ≡ k) ⊎ (j ≢ k)
is_or_not j k = told j k (eqb_tells j k)

given_next : (front : List Equation) (e : Equation) (t s : ℕ → Option ℕ) (i : ℕ) → ((k : ℕ) → IsGiven front k → IsSome (t k)) → t e.wire ≡ None → s e.wire ≡ Some i → ((k : ℕ) → k ≢ e.wire → s k ≡ t k) → (k : ℕ) → (e.wire ≡ k) ⊎ IsGiven front k → IsSome (s k)
given_next front e t s i given none own others k (inl same) = some_is (s k) i (ap s (sym same) ∙ own)
given_next front e t s i given none own others k (inr h) =
    let some = given k h in ap is_some (others k (other_wire t e.wire k none some)) ∙ some

small_next : (front : List Equation) (e : Equation) (n : ℕ) → ((k : ℕ) → IsGiven front k → k < n) → e.wire < n → (k : ℕ) → (e.wire ≡ k) ⊎ IsGiven front k → k < n
small_next front e n small own k (inl same) = subst (λ j. j < n) same own
small_next front e n small own k (inr given) = small k given

pub numbered_next : (es : List Equation) (i : ℕ) (now : List Equation) (t s : ℕ → Option ℕ) (e g d : Equation) → Progress es i now t → i < length now → get_or now i d ≡ e → Renames t s i e g → Progress es (i + 1) (set now i g) s
numbered_next es i now t s e g d p lt here step =
    let o = next_of es i now t e d p lt here in
    let same : (k : ℕ) → IsGiven p.front k → renaming_of s k ≡ renaming_of t k =
    λ k given. same_number t s e.wire step.can.1 step.others k (p.given k given) in
    let at : now ≡ renamed_equations (renaming_of t) p.front ++ e ∷ o.others =
    p.list ∙ ap (λ xs. renamed_equations (renaming_of t) p.front ++ xs) o.split in
    let like = equations_like (renaming_of t) (renaming_of s) [] p.front p.reads (λ k none. absurd none) same in
    let own : renaming_of s e.wire ≡ 0 + length p.front =
    ap (λ x. unwrap_or x 0) step.own ∙ sym p.size ∙ omega arith in
    let reads = each_read e.formula (λ k. IsSome (t k)) (EitherGives [] p.front) (λ k some. inr (p.known k some)) step.can.0 in
    record {
      front = p.front ++ e ∷ [];
      rest = o.others;
      whole =
          whole_at es p.front p.rest e o p.whole ∙ sym (append_assoc p.front (e ∷ []) o.others);
      size = length-append p.front (e ∷ []) ∙ ap (λ n. n + 1) p.size;
      list =
          set_next p.front (renaming_of t) e g o.others now i p.size at
          ∙ list_next p.front (renaming_of t) (renaming_of s) e g o.others like (renamed_next t s i e g step);
      numbers =
          numbering_behind (renaming_of s) 0 p.front e (numbering_like (renaming_of t) (renaming_of s) 0 p.front same p.numbers) own;
      reads = reads_behind [] p.front e p.reads reads;
      known = λ k h. known_next p.front e t s p.known step.others k h (is_or_not k e.wire);
      given = λ k h. given_next p.front e t s i p.given step.can.1 step.own step.others k (given_behind p.front e k h);
      small = λ k h. small_next p.front e (2 ^ 32) p.small step.small k (given_behind p.front e k h);
    }

given_has_number : (front : List Equation) (t : ℕ → Option ℕ) → ((k : ℕ) → IsGiven front k → IsSome (t k)) → (k : ℕ) → EitherGives [] front k → IsSome (t k)
given_has_number front t given k (inl none) = absurd none
given_has_number front t given k (inr h) = given k h

no_number : (o : Option ℕ) → (IsSome o → ⊥) → (o ≡ None) ⊎ IsSome o → o ≡ None
no_number o apart (inl none) = none
no_number o apart (inr some) = absurd (apart some)

-- an equation that can't be numbered next can't be at all
pub no_numbering : (es : List Equation) (i : ℕ) (now : List Equation) (t : ℕ → Option ℕ) (e d : Equation) → Progress es i now t → i < length now → get_or now i d ≡ e → (IsNext t e → ⊥) → Numbered es → ⊥
no_numbering es i now t e d p lt here refused n =
    let o = next_of es i now t e d p lt here in
    let whole = whole_at es p.front p.rest e o p.whole in
    let reads = read_by_front [] p.front e o.others (subst (ReadsGiven []) whole n.reads) in
    let once = once_at p.front e o.others (subst GivesOnce whole (given_once n.renaming 0 es n.numbers)) in
    refused (
      each_read e.formula (EitherGives [] p.front) (λ k. IsSome (t k)) (given_has_number p.front t p.given) reads,
      no_number (t e.wire) (λ some. once (p.known e.wire some)) (none_or_some (t e.wire)),
    )

-- with one more wire, no more than 2^32 are given
pub few_so_far : (es : List Equation) (i : ℕ) (now : List Equation) (t : ℕ → Option ℕ) (w : ℕ) → Progress es i now t → w < 2 ^ 32 → t w ≡ None → i < 2 ^ 32
few_so_far es i now t w p low none =
    let e = equation_of w (Const (pos 0)) in
    let few : length (e ∷ p.front) ≤ 2 ^ 32 =
    few_given (e ∷ p.front) (2 ^ 32) (λ given. none_isnt_some (t w) none (p.given w given), given_once (renaming_of t) 0 p.front p.numbers) (small_next p.front e (2 ^ 32) p.small low) in
    let size : length (e ∷ p.front) ≡ i + 1 = omega (arith, p.size) in
    omega (arith, few, size)

ends_in : (es front rest now : List Equation) (r : ℕ → ℕ) → es ≡ front ++ rest → now ≡ renamed_equations r front ++ rest → IsNumbering r 0 front → ReadsGiven [] front → length rest ≡ 0 → AreNumbered r es now
ends_in es front [] now r whole list numbers reads none =
    let same : es ≡ front = whole ∙ append-nil front in
    record {
      numbers = subst (IsNumbering r 0) (sym same) numbers;
      reads = subst (ReadsGiven []) (sym same) reads;
      equations = list ∙ append-nil (renamed_equations r front) ∙ ap (renamed_equations r) (sym same);
    }
ends_in es front (x ∷ xs) now r whole list numbers reads none = absurd (omega (arith, none))

pub ends : (es : List Equation) (i : ℕ) (now : List Equation) (t : ℕ → Option ℕ) → Progress es i now t → length now ≤ i → AreNumbered (renaming_of t) es now
ends es i now t p le =
    let size : length now ≡ length p.front + length p.rest =
    ap length p.list ∙ length_renamed (renaming_of t) p.front p.rest in
    ends_in es p.front p.rest now (renaming_of t) p.whole p.list p.numbers p.reads (omega (arith, size, le, p.size))

pub numbered_are_ordered : (r : ℕ → ℕ) (old new : List Equation) → AreNumbered r old new → IsOrdered 0 new
numbered_are_ordered r old new a =
    subst (IsOrdered 0) (sym a.equations) (ordered_from_zero r old a.numbers a.reads)
