-- Values for the wires that join two alternatives.
use Rattle.std.proofs.Common.{ℕ, ◌+◌, ◌<◌, ℤ, cond, List, [], ◌∷◌, refl, sym, ◌∙◌, arith}
use Rattle.kernel_terms.specs.declared.tables.Tables.{Tables}
use Rattle.kernel_terms.specs.Statements.{Stmt}
use Rattle.kernel_rules.specs.definitions.TickRule.{Tick}
use Rattle.surf_graph.specs.definitions.Formulas.{Satisfies, Choose, is_on}
use Rattle.surf_graph.specs.definitions.Copies.{Copy, both_write, joins}
use Rattle.surf_graph.specs.definitions.Shows.{Shows}
use Rattle.surf_graph.specs.PartSolutions.{Solution}
use Rattle.surf_graph.proofs.Alternatives.{Joins}
use Rattle.surf_graph.proofs.Frames.{Agreeing, agree_twice, Inside, satisfies_still, value_agrees, own, own_agrees, own_first, tells_still}

-- values

record JoinValues (f w : ℕ → ℤ) (other n : ℕ) (a b : ℕ → ℕ) (xs : List ℕ) : Type 0 where
  values : ℕ → ℤ
  same : Agreeing n w values
  solves : Satisfies f values (joins other n a b xs)

join_values : (f w : ℕ → ℤ) (other n : ℕ) (a b : ℕ → ℕ) (xs : List ℕ) → other < n → ((y : ℕ) → a y < n) → ((y : ℕ) → b y < n) → JoinValues f w other n a b xs
join_values f w other n a b [] lo la lb = record { values = w; same = record { at = λ k lt. refl }; solves = tt }
join_values f w other n a b (x ∷ xs) lo la lb =
    let vs = cond (is_on w other) (w (b x)) (w (a x)) ∷ [] in
    let w0 = own n vs w in
    let r = join_values f w0 other (n + 1) a b xs (omega (arith, lo)) (λ y. let l = la y in omega (arith, l)) (λ y. let l = lb y in omega (arith, l)) in
    let v = r.values in
    let g = agree_twice n (n + 1) w w0 v (omega arith) (own_agrees n vs w) r.same in
    record {
      values = v;
      same = g;
      solves = ((r.same).at n (omega arith) ∙ own_first n vs w ∙ sym (value_agrees n f w v (Choose other (b x) (a x)) g (lo, lb x, la x)), r.solves);
    }

-- the second alternative's values, and those of the wires that join the two
pub record Joining (f w : ℕ → ℤ) (p q : List ℕ) (other n : ℕ) (a b : Copy) : Type 0 where
  pub solution : Solution f w n b
  pub joins : Joins f solution.values p q other a b

pub joining : (f w : ℕ → ℤ) (p q : List ℕ) (other m : ℕ) (a b : Copy) → Inside m a → Inside a.next b → other < b.next → Solution f w a.next b → Joining f w p q other a.next a b
joining f w p q other m a b u v lo y =
    let g = v.grows in
    let j = join_values f y.values other b.next a.variables b.variables (both_write p q) lo (λ z. let za = u.variables z in omega (arith, za, g)) v.variables in
    record {
      solution = record {
        values = j.values;
        same = agree_twice a.next b.next w y.values j.values (omega (arith, g)) y.same j.same;
        solves = satisfies_still b.next f y.values j.values b.equations j.same v.equations y.solves;
      };
      joins = j.solves;
    }

pub record JoiningShows (tables : Tables) (f w : ℕ → ℤ) (s : Stmt) (r keep : ℕ) (o : Tick) (p q : List ℕ) (other n : ℕ) (a b : Copy) : Type 0 where
  pub shows : Shows tables f w s r keep n b o
  pub joins : Joins f shows.values p q other a b

pub joining_shows : (tables : Tables) (f w : ℕ → ℤ) (s : Stmt) (r keep : ℕ) (o : Tick) (p q : List ℕ) (other m : ℕ) (a b : Copy) → Inside m a → Inside a.next b → other < b.next → keep < b.next → Shows tables f w s r keep a.next b o
    → JoiningShows tables f w s r keep o p q other a.next a b
joining_shows tables f w s r keep o p q other m a b u v lo lk y =
    let g = v.grows in
    let j = join_values f y.values other b.next a.variables b.variables (both_write p q) lo (λ z. let za = u.variables z in omega (arith, za, g)) v.variables in
    record {
      shows = record {
        values = j.values;
        same = agree_twice a.next b.next w y.values j.values (omega (arith, g)) y.same j.same;
        solves = satisfies_still b.next f y.values j.values b.equations j.same v.equations y.solves;
        tells = tells_still tables y.values j.values s r keep a.next b o j.same v lk y.tells;
      };
      joins = j.solves;
    }
