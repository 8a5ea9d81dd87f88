-- A domain's next registers, as its wires tell them.
use Rattle.std.proofs.Common.{◌≡◌, ℕ, zero, suc, ◌+◌, ◌<◌, ◌==◌, nat_lt, ℤ, pos, true, ◌&&◌, cond, List, [], ◌∷◌, ◌++◌, length, map, get_or, refl, sym, ap, ◌∙◌, arith}
use Rattle.std.proofs.lemmas.List.{get_or-map, length-append, length-map}
use Rattle.std.proofs.lemmas.Bool.{true≢false}
use Rattle.std.proofs.lemmas.Bool.Decides.{nat_tests}
use Rattle.java_values.specs.declared.kind.Kind.{Kind}
use Rattle.java_values.specs.declared.kind.Kind.TheVariants as kind
use Rattle.kernel_terms.specs.declared.tables.Tables.{Tables}
use Rattle.kernel_terms.specs.declared.tables.VariableInfo.{VariableInfo}
use Rattle.kernel_terms.specs.Statements.{Stmt, Nothing, Pause, Emit, Assign, If, Present, Seq, Loop, Par, Trap, Exit, Abort, Suspend, Local, Send, Receive, SendWaits, Sent, ReceiveWaits, Received}
use Rattle.kernel_terms.specs.TableEntries.{value_kind, signal_at, channel_at, variables_of, valued_of, received_by, variable_at, no_variable}
use Rattle.kernel_terms.specs.WellFormed.{Scope, fits_statement, fits_test, is_given, is_local_of, is_variable_of}
use Rattle.kernel_rules.specs.definitions.Registers.{statement_registers, domain_registers, registers, first_variable, first_value, first_last, variables_held, values_held, last_held}
use Rattle.kernel_rules.specs.definitions.TickRule.{writes}
use Rattle.surf_graph.proofs.Booleans.{left_of, right_of, either_true}
use Rattle.surf_graph.specs.definitions.Formulas.{Satisfies, is_on}
use Rattle.surf_graph.specs.definitions.Copies.{Sets, has}
use Rattle.surf_graph.specs.definitions.Tells.{set_value, registers_set}
use Rattle.surf_graph.specs.definitions.DomainCopies.{set_equations, register_equations, register_wires}
use Rattle.surf_graph.specs.definitions.DomainTells.{registers_told}
use Rattle.surf_graph.proofs.SetValues.{satisfies_front, satisfies_back}
use Rattle.surf_graph.proofs.DomainLists.{get_front, get_back, held_told, has_number}

-- a variable that a fitting statement assigns is one of its domain

same_number : (x y : ℕ) → (y == x) ≡ true → y ≡ x
same_number x y h = grind (arith, nat_tests)

pub own_variable : (t : Tables) (scope : Scope) (p : Stmt) (x : ℕ) → fits_statement t scope p ≡ true → writes p x ≡ true → is_variable_of t scope.domain x ≡ true
own_variable t scope Nothing x h k = absurd (true≢false (sym k))
own_variable t scope Pause x h k = absurd (true≢false (sym k))
own_variable t scope (Emit s e) x h k = absurd (true≢false (sym k))
own_variable t scope (Assign y e) x h k = sym (ap (λ z. is_variable_of t scope.domain z) (same_number x y k)) ∙ left_of (is_variable_of t scope.domain y) (is_given t scope (variable_at t y).kind e) h
own_variable t scope (If e p q) x h k =
    let g = right_of (is_given t scope kind.Boolean e) (fits_statement t scope p && fits_statement t scope q) h in
    either_true (writes p x) (writes q x) k (own_variable t scope p x (left_of (fits_statement t scope p) (fits_statement t scope q) g)) (own_variable t scope q x (right_of (fits_statement t scope p) (fits_statement t scope q) g))
own_variable t scope (Present u p q) x h k =
    let g = right_of (fits_test t scope u) (fits_statement t scope p && fits_statement t scope q) h in
    either_true (writes p x) (writes q x) k (own_variable t scope p x (left_of (fits_statement t scope p) (fits_statement t scope q) g)) (own_variable t scope q x (right_of (fits_statement t scope p) (fits_statement t scope q) g))
own_variable t scope (Seq p q) x h k =
    either_true (writes p x) (writes q x) k (own_variable t scope p x (left_of (fits_statement t scope p) (fits_statement t scope q) h)) (own_variable t scope q x (right_of (fits_statement t scope p) (fits_statement t scope q) h))
own_variable t scope (Loop p) x h k = own_variable t scope p x h k
own_variable t scope (Par p q) x h k =
    either_true (writes p x) (writes q x) k (own_variable t scope p x (left_of (fits_statement t scope p) (fits_statement t scope q) h)) (own_variable t scope q x (right_of (fits_statement t scope p) (fits_statement t scope q) h))
own_variable t scope (Trap p) x h k = own_variable t (record scope { traps = suc scope.traps }) p x h k
own_variable t scope (Exit d) x h k = absurd (true≢false (sym k))
own_variable t scope (Abort weak armed u p) x h k = own_variable t scope p x (right_of (fits_test t scope u) (fits_statement t scope p) h) k
own_variable t scope (Suspend armed u p) x h k = own_variable t scope p x (right_of (fits_test t scope u) (fits_statement t scope p) h) k
own_variable t scope (Local s v p) x h k =
    let inner : Scope = record scope { locals = s ∷ scope.locals } in
    own_variable t inner p x (right_of (is_local_of t scope.domain s) (fits_statement t inner p) h) k
own_variable t scope (Send c e) x h k = absurd (true≢false (sym k))
own_variable t scope (Receive c) x h k = absurd (true≢false (sym k))
own_variable t scope (SendWaits c v) x h k = absurd (true≢false (sym k))
own_variable t scope (Sent c) x h k = absurd (true≢false (sym k))
own_variable t scope (ReceiveWaits c) x h k = absurd (true≢false (sym k))
own_variable t scope (Received c) x h k = absurd (true≢false (sym k))

pub variable_has : (t : Tables) (d x : ℕ) → is_variable_of t d x ≡ true → has (variables_of t d) x ≡ true
variable_has t d x h =
    let low = left_of (nat_lt x (length t.variables)) ((variable_at t x).domain == d) h in
    has_number (λ (i : VariableInfo). i.domain == d) 0 t.variables no_variable x x (omega arith) (less x (length t.variables) low) (right_of (nat_lt x (length t.variables)) ((variable_at t x).domain == d) h)
  where
    less : (a b : ℕ) → nat_lt a b ≡ true → a < b
    less a b g = grind (arith, nat_tests)

-- the registers of the statement

pub set_told : (f w : ℕ → ℤ) (k : Kind) (n : ℕ) (ss : List Sets) → Satisfies f w (set_equations k n ss) → w n ≡ set_value w ss
set_told f w k n [] h = h.0
set_told f w k n (s ∷ ss) h = h.0 ∙ ap (λ v. cond (is_on w s.condition) (w s.value) v) (set_told f w k (suc n) ss h.1)

pub sets_told : (f w : ℕ → ℤ) (ks : List Kind) (r n : ℕ) (sets : ℕ → List Sets) (i : ℕ) → i < length ks → Satisfies f w (register_equations ks r n sets)
    → w (get_or (register_wires ks r n sets) i 0) ≡ set_value w (sets (r + i))
sets_told f w [] r n sets i less h = absurd (omega (arith, less))
sets_told f w (k ∷ ks) r n sets zero less h =
    let rest = register_equations ks (suc r) (suc n + length (sets r)) sets in
    set_told f w k n (sets r) (satisfies_front f w (set_equations k n (sets r)) rest h) ∙ ap (λ j. set_value w (sets j)) (omega arith)
sets_told f w (k ∷ ks) r n sets (suc i) less h =
    let rest = register_equations ks (suc r) (suc n + length (sets r)) sets in
    sets_told f w ks (suc r) (suc n + length (sets r)) sets i (omega (arith, less)) (satisfies_back f w (set_equations k n (sets r)) rest h)
    ∙ ap (λ j. set_value w (sets j)) (omega arith)

pub as_many : (ks : List Kind) (r n : ℕ) (sets : ℕ → List Sets) → length (register_wires ks r n sets) ≡ length ks
as_many [] r n sets = refl
as_many (k ∷ ks) r n sets = ap suc (as_many ks (suc r) (suc n + length (sets r)) sets)

-- the four parts of the list of next registers
module _ (tables : Tables) (d : ℕ) (p : Stmt) (w : ℕ → ℤ) (sets : ℕ → List Sets) (m : ℕ) (variables values last : ℕ → ℕ) where
  abbrev own : List ℕ
  own = register_wires (statement_registers tables p) 0 m sets

  abbrev of_variables : List ℕ
  of_variables = map variables (variables_of tables d)

  abbrev of_values : List ℕ
  of_values = map values (valued_of tables d)

  abbrev of_channels : List ℕ
  of_channels = map last (received_by tables d)

  abbrev all : List ℕ
  all = own ++ (of_variables ++ (of_values ++ of_channels))

  -- one for each register
  size : length all ≡ registers tables p + (length (variables_of tables d) + (length (valued_of tables d) + length (received_by tables d)))
  size =
      let n = as_many (statement_registers tables p) 0 m sets in
      let v = length-map (variables_of tables d) variables in
      let u = length-map (valued_of tables d) values in
      let c = length-map (received_by tables d) last in
      let x = length-append own (of_variables ++ (of_values ++ of_channels)) in
      let y = length-append of_variables (of_values ++ of_channels) in
      let z = length-append of_values of_channels in
      omega (arith, n, v, u, c, x, y, z)

  pub counted : length all ≡ length (domain_registers tables d p)
  counted =
      let ks = map (λ x. (variable_at tables x).kind) (variables_of tables d) in
      let ls = map (λ s. value_kind (signal_at tables s)) (valued_of tables d) in
      let ms = map (λ c. (channel_at tables c).kind) (received_by tables d) in
      let e = size in
      let v = length-map (variables_of tables d) (λ x. (variable_at tables x).kind) in
      let u = length-map (valued_of tables d) (λ s. value_kind (signal_at tables s)) in
      let c = length-map (received_by tables d) (λ h. (channel_at tables h).kind) in
      let x = length-append (statement_registers tables p) (ks ++ (ls ++ ms)) in
      let y = length-append ks (ls ++ ms) in
      let z = length-append ls ms in
      omega (arith, e, v, u, c, x, y, z)

  told_at : (k : ℕ) → k < length all → registers_told w all k ≡ w (get_or all k 0)
  told_at k less = get_or-map w all k 0 (pos 0) less

  pub statement_told : (f : ℕ → ℤ) (k : ℕ) → k < registers tables p → Satisfies f w (register_equations (statement_registers tables p) 0 m sets) → registers_told w all k ≡ registers_set w sets k
  statement_told f k less h =
      let n = as_many (statement_registers tables p) 0 m sets in
      let e = size in
      told_at k (omega (arith, less, e)) ∙ ap w (get_front own (of_variables ++ (of_values ++ of_channels)) k (omega (arith, less, n))) ∙ sets_told f w (statement_registers tables p) 0 m sets k less h
      ∙ ap (λ j. set_value w (sets j)) (omega arith)

  pub variables_told : (x : ℕ) → variables_held tables d p (registers_told w all) x ≡ cond (has (variables_of tables d) x) (w (variables x)) (pos 0)
  variables_told x =
      held_told w (variables_of tables d) variables (first_variable tables p) (registers_told w all) x
      (λ i less.
      let n = as_many (statement_registers tables p) 0 m sets in
      let l = length-map (variables_of tables d) variables in
      let e = size in
      told_at (first_variable tables p + i) (omega (arith, less, e)) ∙ ap w (get_back own (of_variables ++ (of_values ++ of_channels)) (first_variable tables p + i) i (omega (arith, n))
      ∙ get_front of_variables (of_values ++ of_channels) i (omega (arith, less, l))))

  pub values_told : (x : ℕ) → values_held tables d p (registers_told w all) x ≡ cond (has (valued_of tables d) x) (w (values x)) (pos 0)
  values_told x =
      held_told w (valued_of tables d) values (first_value tables d p) (registers_told w all) x
      (λ i less.
      let n = as_many (statement_registers tables p) 0 m sets in
      let v = length-map (variables_of tables d) variables in
      let l = length-map (valued_of tables d) values in
      let e = size in
      told_at (first_value tables d p + i) (omega (arith, less, e)) ∙ ap w (get_back own (of_variables ++ (of_values ++ of_channels)) (first_value tables d p + i) (length of_variables + i) (omega (arith, n, v))
      ∙ get_back of_variables (of_values ++ of_channels) (length of_variables + i) i refl
      ∙ get_front of_values of_channels i (omega (arith, less, l))))

  pub last_told : (x : ℕ) → last_held tables d p (registers_told w all) x ≡ cond (has (received_by tables d) x) (w (last x)) (pos 0)
  last_told x =
      held_told w (received_by tables d) last (first_last tables d p) (registers_told w all) x
      (λ i less.
      let n = as_many (statement_registers tables p) 0 m sets in
      let v = length-map (variables_of tables d) variables in
      let l = length-map (valued_of tables d) values in
      let e = size in
      told_at (first_last tables d p + i) (omega (arith, less, e)) ∙ ap w (get_back own (of_variables ++ (of_values ++ of_channels)) (first_last tables d p + i) (length of_variables + (length of_values + i)) (omega (arith, n, v, l))
      ∙ get_back of_variables (of_values ++ of_channels) (length of_variables + (length of_values + i)) (length of_values + i) refl
      ∙ get_back of_values of_channels (length of_values + i) i refl))
