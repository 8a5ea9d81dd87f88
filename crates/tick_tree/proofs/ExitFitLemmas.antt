-- The exits of a statement of a program fit.
use Rattle.std.proofs.Common.{◌≡◌, ℕ, suc, Bool, true, ◌&&◌, nat_lt, List, [], ◌∷◌, length, map, refl}
use Rattle.std.specs.List.{list_all}
use Rattle.kernel_terms.specs.declared.system.System.{System}
use Rattle.kernel_terms.specs.Systems.{tables_of, domains_of}
use Rattle.kernel_terms.specs.declared.tables.Tables.{Tables}
use Rattle.kernel_terms.specs.Statements.{Stmt, Nothing, Pause, Emit, Assign, If, Present, Seq, Loop, Par, Trap, Exit, Abort, Suspend, Local, Send, Receive, SendWaits, Sent, ReceiveWaits, Received, statement}
use Rattle.kernel_terms.specs.Limits.{most_traps}
use Rattle.kernel_terms.specs.WellFormed.{Scope, fits_statement, fits_test, is_given, is_local_of, fit_statements, has_names, is_within_limits, has_entries, has_parts, declares_each_once}
use Rattle.java_values.specs.declared.kind.Kind.TheVariants as kind
use Rattle.tick_tree.specs.definitions.Exits.{exits_fit}
use Rattle.tick_tree.proofs.PartLists.{and_left, and_right}

and_both : (a b : Bool) → a ≡ true → b ≡ true → a && b ≡ true
and_both a b x y = rw (x, y) refl

pub fitting_exits : (t : Tables) (scope : Scope) (p : Stmt) → fits_statement t scope p ≡ true → exits_fit p ≡ true
fitting_exits t scope Nothing fits = refl
fitting_exits t scope Pause fits = refl
fitting_exits t scope (Emit s e) fits = refl
fitting_exits t scope (Assign x e) fits = refl
fitting_exits t scope (If e p q) fits =
    let h = and_right (is_given t scope kind.Boolean e) (fits_statement t scope p && fits_statement t scope q) fits in
    and_both (exits_fit p) (exits_fit q) (fitting_exits t scope p (and_left (fits_statement t scope p) (fits_statement t scope q) h)) (fitting_exits t scope q (and_right (fits_statement t scope p) (fits_statement t scope q) h))
fitting_exits t scope (Present u p q) fits =
    let h = and_right (fits_test t scope u) (fits_statement t scope p && fits_statement t scope q) fits in
    and_both (exits_fit p) (exits_fit q) (fitting_exits t scope p (and_left (fits_statement t scope p) (fits_statement t scope q) h)) (fitting_exits t scope q (and_right (fits_statement t scope p) (fits_statement t scope q) h))
fitting_exits t scope (Seq p q) fits =
    and_both (exits_fit p) (exits_fit q) (fitting_exits t scope p (and_left (fits_statement t scope p) (fits_statement t scope q) fits)) (fitting_exits t scope q (and_right (fits_statement t scope p) (fits_statement t scope q) fits))
fitting_exits t scope (Loop p) fits = fitting_exits t scope p fits
fitting_exits t scope (Par p q) fits =
    and_both (exits_fit p) (exits_fit q) (fitting_exits t scope p (and_left (fits_statement t scope p) (fits_statement t scope q) fits)) (fitting_exits t scope q (and_right (fits_statement t scope p) (fits_statement t scope q) fits))
fitting_exits t scope (Trap p) fits = fitting_exits t (record scope { traps = suc scope.traps }) p fits
fitting_exits t scope (Exit d) fits = and_right (nat_lt d scope.traps) (nat_lt d most_traps) fits
fitting_exits t scope (Abort weak armed u p) fits = fitting_exits t scope p (and_right (fits_test t scope u) (fits_statement t scope p) fits)
fitting_exits t scope (Suspend armed u p) fits = fitting_exits t scope p (and_right (fits_test t scope u) (fits_statement t scope p) fits)
fitting_exits t scope (Local s v p) fits = let inner : Scope = record scope { locals = s ∷ scope.locals } in fitting_exits t inner p (and_right (is_local_of t scope.domain s) (fits_statement t inner p) fits)
fitting_exits t scope (Send c e) fits = refl
fitting_exits t scope (Receive c) fits = refl
fitting_exits t scope (SendWaits c v) fits = refl
fitting_exits t scope (Sent c) fits = refl
fitting_exits t scope (ReceiveWaits c) fits = refl
fitting_exits t scope (Received c) fits = refl

fitting_list : (t : Tables) (d : ℕ) (ps : List Stmt) → fit_statements t d ps ≡ true → list_all exits_fit ps ≡ true
fitting_list t d [] h = refl
fitting_list t d (p ∷ ps) h =
    let scope : Scope = record { domain = d; traps = 0; locals = [] } in
    and_both (exits_fit p) (list_all exits_fit ps)
    (fitting_exits t scope p (and_left (fits_statement t scope p) (fit_statements t (suc d) ps) h))
    (fitting_list t (suc d) ps (and_right (fits_statement t scope p) (fit_statements t (suc d) ps) h))

pub fitting_system : (s : System) → list_all exits_fit (map statement (domains_of s)) ≡ true
fitting_system s =
    let t = tables_of s in
    let n = length (domains_of s) in
    let ps = map statement (domains_of s) in
    let a = and_right (has_names t) (is_within_limits t n && (has_entries t n && (list_all has_parts (domains_of s) && (fit_statements t 0 ps && declares_each_once t ps)))) s.well_formed in
    let b = and_right (is_within_limits t n) (has_entries t n && (list_all has_parts (domains_of s) && (fit_statements t 0 ps && declares_each_once t ps))) a in
    let c = and_right (has_entries t n) (list_all has_parts (domains_of s) && (fit_statements t 0 ps && declares_each_once t ps)) b in
    let d = and_right (list_all has_parts (domains_of s)) (fit_statements t 0 ps && declares_each_once t ps) c in
    fitting_list t 0 ps (and_left (fit_statements t 0 ps) (declares_each_once t ps) d)
