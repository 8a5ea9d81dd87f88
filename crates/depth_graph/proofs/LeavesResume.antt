-- What builds the resuming copies of statements without parts.
use Rattle.std.proofs.Common.{◌≡◌, ℕ, ◌+◌, ◌<◌, ◌≤◌, ◌==◌, Bool, true, false, cond, List, [], ◌∷◌, ◌++◌, length, set, Vec, arith, refl, ap, ◌∙◌, sym, append_assoc, append-nil, Option}
use Rattle.std.specs.Global.{Global}
use Rattle.std.proofs.lemmas.Bool.Decides.{nat_tests}
use Rattle.kernel_terms.specs.declared.tables.Tables.{Tables}
use Rattle.kernel_terms.specs.Expressions.{Expression}
use Rattle.kernel_terms.specs.Statements.{Stmt, Nothing, Pause, Emit, Assign, Send, Receive}
use Rattle.kernel_terms.specs.MayEnd.{ends1}
use Rattle.kernel_rules.specs.definitions.Registers.{registers}
use Rattle.surf_graph.specs.declared.builder.Builder.{Builder}
use Rattle.surf_graph.specs.declared.copy_builder.CopyBuilder.{CopyBuilder}
use Rattle.surf_graph.specs.declared.copy_builder.Given.{Given}
use Rattle.surf_graph.specs.declared.copy_builder.Guarded.{Guarded}
use Rattle.surf_graph.specs.Building.{wires_in}
use Rattle.surf_graph.specs.Copying.{SpellsOut, buckets, bucket, emits_of, sets_of, own_sets, context, Builds}
use Rattle.surf_graph.specs.StartsBuilt.{Owns}
use Rattle.surf_graph.specs.definitions.Copies.{Copy, Sets, nothing_built}
use Rattle.surf_graph.proofs.SpellingOut.{none_spelled_out}
use Rattle.surf_graph.proofs.CopiesBuilt.{count_added, bucket_added, same_bucket, sets_where, no_sets, no_changes, same_tables}
use Rattle.surf_graph.proofs.LeavesBuilt.{one_set}
use Rattle.depth_graph.specs.ResumesBuilt.{Resumes, pause_own, waiting_own}
use Rattle.depth_graph.specs.definitions.ResumingCopies.{resume}

abbrev guard : ℕ → ℕ → Guarded
guard condition value = record { condition = condition; value = value }

abbrev set_of : ℕ → ℕ → Sets
set_of condition value = record { condition = condition; value = value }

-- a copy that emits nothing and changes no variable
plain_built : (old : CopyBuilder) (b : Builder) (sets : Vec (Vec Guarded Global) Global) (first count : ℕ) (a : Copy)
    → SpellsOut old.builder b a.equations → b.next ≡ a.next → ((x : ℕ) → (wires_in old.wires).variables x ≡ a.variables x) → a.emits ≡ []
    → length sets.items ≡ length old.sets.items → ((k : ℕ) → bucket sets.items k ≡ bucket old.sets.items k ++ own_sets first count a.sets k)
    → Builds old (record old { builder = b; sets = sets }) first count [] a
plain_built old b sets first count a e n v em ss st =
    let new : CopyBuilder = record old { builder = b; sets = sets } in
    record {
      equations = e;
      next = n;
      variables = v;
      tables = same_tables old.wires new.wires refl;
      changes = no_changes old new refl refl;
      signals = refl;
      emits = λ s. same_bucket old.emits.items s ∙ ap (λ l. bucket old.emits.items s ++ emits_of s l) (sym em);
      registers = ss;
      sets = st;
    }

-- nothing

no_more : (n : ℕ) → n ≡ n + 0
no_more n = omega arith

pub nothing_resumes : (tables : Tables) (b : CopyBuilder) (given : Given) (p : Stmt) → resume tables p (context b given) ≡ nothing_built (context b given) → registers tables p ≡ 0 → ends1 p ≡ false
    → Builds b b given.register 0 [] (nothing_built (context b given))
nothing_resumes tables b given p e r n =
    record {
      equations = none_spelled_out b.builder b.builder refl refl;
      next = refl;
      variables = λ x. refl;
      tables = same_tables b.wires b.wires refl;
      changes = no_changes b b refl refl;
      signals = refl;
      emits = λ s. same_bucket b.emits.items s;
      registers = refl;
      sets = λ k. same_bucket b.sets.items k ∙ ap (λ l. bucket b.sets.items k ++ l) (sym (no_sets given.register 0 k));
    }

pub nothing_is_resumed : (tables : Tables) (b : CopyBuilder) (given : Given) → Resumes tables b b given Nothing (record { status = 0; live = 0; ends = false; register = given.register })
nothing_is_resumed tables b given =
    record { built = nothing_resumes tables b given Nothing refl refl refl; status = refl; live = refl; ends = refl; register = no_more given.register }

pub emission_is_resumed : (tables : Tables) (b : CopyBuilder) (given : Given) (s : ℕ) (e : Option Expression) → Resumes tables b b given (Emit s e) (record { status = 0; live = 0; ends = false; register = given.register })
emission_is_resumed tables b given s e =
    record { built = nothing_resumes tables b given (Emit s e) refl refl refl; status = refl; live = refl; ends = refl; register = no_more given.register }

pub assignment_is_resumed : (tables : Tables) (b : CopyBuilder) (given : Given) (x : ℕ) (e : Expression) → Resumes tables b b given (Assign x e) (record { status = 0; live = 0; ends = false; register = given.register })
assignment_is_resumed tables b given x e =
    record { built = nothing_resumes tables b given (Assign x e) refl refl refl; status = refl; live = refl; ends = refl; register = no_more given.register }

-- a pause

more_of : (lists : List (Vec Guarded Global)) (new : List (Vec Guarded Global)) (i : ℕ) (g : Guarded) → i < length lists → buckets new ≡ set (buckets lists) i (bucket lists i ++ (g ∷ []))
    → (k : ℕ) → bucket new k ≡ bucket lists k ++ cond (k == i) (g ∷ []) []
more_of lists new i g lt is k = bucket_added lists new i g lt is k

pub pause_is_resumed : (tables : Tables) (old : CopyBuilder) (b : Builder) (sets : Vec (Vec Guarded Global) Global) (given : Given) (n : ℕ) → given.register < length old.sets.items
    → Owns old.builder b 4 (pause_own given old.builder.next) n
    → buckets sets.items ≡ set (buckets old.sets.items) given.register (bucket old.sets.items given.register ++ (guard (n + 3) n ∷ []))
    → Resumes tables old (record old { builder = b; sets = sets }) given Pause (record { status = n + 2; live = n; ends = true; register = given.register + 1 })
pause_is_resumed tables old b sets given n lt o is =
    record {
      built = plain_built old b sets given.register 1 (resume tables Pause (context old given)) o.equations o.next (λ x. refl) refl
          (count_added old.sets.items sets.items given.register _ is)
          (λ k. more_of old.sets.items sets.items given.register (guard (n + 3) n) lt is k
          ∙ ap (λ m. bucket old.sets.items k ++ cond (k == given.register) (guard (m + 3) m ∷ []) []) o.first
          ∙ ap (λ l. bucket old.sets.items k ++ l) (sym (one_set given.register k (set_of (old.builder.next + 3) old.builder.next))));
      status = ap (λ m. m + 2) o.first;
      live = o.first;
      ends = refl;
      register = refl;
    }

-- a send or a receive

abbrev waiting_sets : ℕ → ℕ → ℕ → List Sets
waiting_sets r n k =
    cond (k == r) (set_of (n + 8) n ∷ set_of (n + 9) (n + 9) ∷ [])
    (cond (k == r + 1) (set_of (n + 8) (n + 1) ∷ []) (set_of (n + 8) (n + 2) ∷ set_of (n + 9) (n + 2) ∷ []))

abbrev two_more : Bool → ℕ → List Guarded
two_more i n = cond i (guard (n + 8) n ∷ guard (n + 9) (n + 9) ∷ []) []

abbrev one_more : Bool → ℕ → List Guarded
one_more j n = cond j (guard (n + 8) (n + 1) ∷ []) []

abbrev last_more : Bool → ℕ → List Guarded
last_more l n = cond l (guard (n + 8) (n + 2) ∷ guard (n + 9) (n + 2) ∷ []) []

of_three : (r n k : ℕ) (i j l : Bool) → (k == r) ≡ i → (k == r + 1) ≡ j → (k == r + 2) ≡ l → own_sets r 3 (waiting_sets r n) k ≡ two_more i n ++ (one_more j n ++ last_more l n)
of_three r n k true true l e f g = absurd (let x : ⊥ = grind (arith, nat_tests) in x)
of_three r n k true false true e f g = absurd (let x : ⊥ = grind (arith, nat_tests) in x)
of_three r n k true false false e f g =
    sets_where r 3 k (waiting_sets r n) (two_more true n) (λ h. ap (λ x. sets_of (cond x (set_of (n + 8) n ∷ set_of (n + 9) (n + 9) ∷ []) (cond (k == r + 1) (set_of (n + 8) (n + 1) ∷ []) (set_of (n + 8) (n + 2) ∷ set_of (n + 9) (n + 2) ∷ [])))) e)
    (λ h. absurd (let x : ⊥ = grind (arith, nat_tests) in x))
of_three r n k false true true e f g = absurd (let x : ⊥ = grind (arith, nat_tests) in x)
of_three r n k false true false e f g =
    sets_where r 3 k (waiting_sets r n) (one_more true n) (λ h. others ∙ ap (λ x. sets_of (cond x (set_of (n + 8) (n + 1) ∷ []) (set_of (n + 8) (n + 2) ∷ set_of (n + 9) (n + 2) ∷ []))) f)
    (λ h. absurd (let x : ⊥ = grind (arith, nat_tests) in x)) where
      others : sets_of (waiting_sets r n k) ≡ sets_of (cond (k == r + 1) (set_of (n + 8) (n + 1) ∷ []) (set_of (n + 8) (n + 2) ∷ set_of (n + 9) (n + 2) ∷ []))
      others = ap (λ x. sets_of (cond x (set_of (n + 8) n ∷ set_of (n + 9) (n + 9) ∷ []) (cond (k == r + 1) (set_of (n + 8) (n + 1) ∷ []) (set_of (n + 8) (n + 2) ∷ set_of (n + 9) (n + 2) ∷ [])))) e
of_three r n k false false true e f g =
    sets_where r 3 k (waiting_sets r n) (last_more true n) (λ h. others ∙ ap (λ x. sets_of (cond x (set_of (n + 8) (n + 1) ∷ []) (set_of (n + 8) (n + 2) ∷ set_of (n + 9) (n + 2) ∷ []))) f)
    (λ h. absurd (let x : ⊥ = grind (arith, nat_tests) in x)) where
      others : sets_of (waiting_sets r n k) ≡ sets_of (cond (k == r + 1) (set_of (n + 8) (n + 1) ∷ []) (set_of (n + 8) (n + 2) ∷ set_of (n + 9) (n + 2) ∷ []))
      others = ap (λ x. sets_of (cond x (set_of (n + 8) n ∷ set_of (n + 9) (n + 9) ∷ []) (cond (k == r + 1) (set_of (n + 8) (n + 1) ∷ []) (set_of (n + 8) (n + 2) ∷ set_of (n + 9) (n + 2) ∷ [])))) e
of_three r n k false false false e f g = sets_where r 3 k (waiting_sets r n) [] (λ h. absurd (let x : ⊥ = grind (arith, nat_tests) in x)) (λ h. refl)

of_two : (r n k : ℕ) (i j : Bool) → (k == r) ≡ i → (k == r + 1) ≡ j → own_sets r 2 (waiting_sets r n) k ≡ two_more i n ++ one_more j n
of_two r n k true true e f = absurd (let x : ⊥ = grind (arith, nat_tests) in x)
of_two r n k true false e f =
    sets_where r 2 k (waiting_sets r n) (two_more true n) (λ h. ap (λ x. sets_of (cond x (set_of (n + 8) n ∷ set_of (n + 9) (n + 9) ∷ []) (cond (k == r + 1) (set_of (n + 8) (n + 1) ∷ []) (set_of (n + 8) (n + 2) ∷ set_of (n + 9) (n + 2) ∷ [])))) e)
    (λ h. absurd (let x : ⊥ = grind (arith, nat_tests) in x))
of_two r n k false true e f =
    sets_where r 2 k (waiting_sets r n) (one_more true n) (λ h. others ∙ ap (λ x. sets_of (cond x (set_of (n + 8) (n + 1) ∷ []) (set_of (n + 8) (n + 2) ∷ set_of (n + 9) (n + 2) ∷ []))) f)
    (λ h. absurd (let x : ⊥ = grind (arith, nat_tests) in x)) where
      others : sets_of (waiting_sets r n k) ≡ sets_of (cond (k == r + 1) (set_of (n + 8) (n + 1) ∷ []) (set_of (n + 8) (n + 2) ∷ set_of (n + 9) (n + 2) ∷ []))
      others = ap (λ x. sets_of (cond x (set_of (n + 8) n ∷ set_of (n + 9) (n + 9) ∷ []) (cond (k == r + 1) (set_of (n + 8) (n + 1) ∷ []) (set_of (n + 8) (n + 2) ∷ set_of (n + 9) (n + 2) ∷ [])))) e
of_two r n k false false e f = sets_where r 2 k (waiting_sets r n) [] (λ h. absurd (let x : ⊥ = grind (arith, nat_tests) in x)) (λ h. refl)

pair_of : (i : Bool) (g h : Guarded) (l : List Guarded) → (l ++ cond i (g ∷ []) []) ++ cond i (h ∷ []) [] ≡ l ++ cond i (g ∷ h ∷ []) []
pair_of true g h l = append_assoc l (g ∷ []) (h ∷ [])
pair_of false g h l = append-nil (l ++ [])

-- the sets that both have
record FirstSets (old new : List (Vec Guarded Global)) (r n : ℕ) : Type 0 where
  count : length new ≡ length old
  each : (k : ℕ) → bucket new k ≡ (bucket old k ++ two_more (k == r) n) ++ one_more (k == r + 1) n

first_sets : (old one two three : List (Vec Guarded Global)) (r n : ℕ) → r + 2 ≤ length old
    → buckets one ≡ set (buckets old) r (bucket old r ++ (guard (n + 8) n ∷ []))
    → buckets two ≡ set (buckets one) r (bucket one r ++ (guard (n + 9) (n + 9) ∷ []))
    → buckets three ≡ set (buckets two) (r + 1) (bucket two (r + 1) ++ (guard (n + 8) (n + 1) ∷ []))
    → FirstSets old three r n
first_sets old one two three r n le a b c =
    let ca : length one ≡ length old = count_added old one r _ a in
    let cb : length two ≡ length one = count_added one two r _ b in
    let cc : length three ≡ length two = count_added two three (r + 1) _ c in
    record {
      count = cc ∙ cb ∙ ca;
      each = λ k.
          more_of two three (r + 1) (guard (n + 8) (n + 1)) (omega (arith, le, ca, cb)) c k
          ∙ ap (λ l. l ++ one_more (k == r + 1) n)
          (more_of one two r (guard (n + 9) (n + 9)) (omega (arith, le, ca)) b k
          ∙ ap (λ l. l ++ cond (k == r) (guard (n + 9) (n + 9) ∷ []) []) (more_of old one r (guard (n + 8) n) (omega (arith, le)) a k)
          ∙ pair_of (k == r) (guard (n + 8) n) (guard (n + 9) (n + 9)) (bucket old k));
    }

pub receive_is_resumed : (tables : Tables) (old : CopyBuilder) (b : Builder) (one two three : Vec (Vec Guarded Global) Global) (given : Given) (n ch : ℕ) → given.register + 2 ≤ length old.sets.items
    → Owns old.builder b 10 (waiting_own given old.builder.next) n
    → buckets one.items ≡ set (buckets old.sets.items) given.register (bucket old.sets.items given.register ++ (guard (n + 8) n ∷ []))
    → buckets two.items ≡ set (buckets one.items) given.register (bucket one.items given.register ++ (guard (n + 9) (n + 9) ∷ []))
    → buckets three.items ≡ set (buckets two.items) (given.register + 1) (bucket two.items (given.register + 1) ++ (guard (n + 8) (n + 1) ∷ []))
    → Resumes tables old (record old { builder = b; sets = three }) given (Receive ch) (record { status = n + 7; live = n; ends = true; register = given.register + 2 })
receive_is_resumed tables old b one two three given n ch le o a c d =
    let r = given.register in
    let f = first_sets old.sets.items one.items two.items three.items r n le a c d in
    record {
      built = plain_built old b three r 2 (resume tables (Receive ch) (context old given)) o.equations o.next (λ x. refl) refl f.count
          (λ k. f.each k
          ∙ append_assoc (bucket old.sets.items k) (two_more (k == r) n) (one_more (k == r + 1) n)
          ∙ ap (λ m. bucket old.sets.items k ++ (two_more (k == r) m ++ one_more (k == r + 1) m)) o.first
          ∙ ap (λ l. bucket old.sets.items k ++ l) (sym (of_two r old.builder.next k (k == r) (k == r + 1) refl refl)));
      status = ap (λ m. m + 7) o.first;
      live = o.first;
      ends = refl;
      register = refl;
    }

pub send_is_resumed : (tables : Tables) (old : CopyBuilder) (b : Builder) (one two three four five : Vec (Vec Guarded Global) Global) (given : Given) (n ch : ℕ) (e : Expression) → given.register + 3 ≤ length old.sets.items
    → Owns old.builder b 10 (waiting_own given old.builder.next) n
    → buckets one.items ≡ set (buckets old.sets.items) given.register (bucket old.sets.items given.register ++ (guard (n + 8) n ∷ []))
    → buckets two.items ≡ set (buckets one.items) given.register (bucket one.items given.register ++ (guard (n + 9) (n + 9) ∷ []))
    → buckets three.items ≡ set (buckets two.items) (given.register + 1) (bucket two.items (given.register + 1) ++ (guard (n + 8) (n + 1) ∷ []))
    → buckets four.items ≡ set (buckets three.items) (given.register + 2) (bucket three.items (given.register + 2) ++ (guard (n + 8) (n + 2) ∷ []))
    → buckets five.items ≡ set (buckets four.items) (given.register + 2) (bucket four.items (given.register + 2) ++ (guard (n + 9) (n + 2) ∷ []))
    → Resumes tables old (record old { builder = b; sets = five }) given (Send ch e) (record { status = n + 7; live = n; ends = true; register = given.register + 3 })
send_is_resumed tables old b one two three four five given n ch e le o a c d g h =
    let r = given.register in
    let f = first_sets old.sets.items one.items two.items three.items r n (omega (arith, le)) a c d in
    let fc : length three.items ≡ length old.sets.items = f.count in
    let gc : length four.items ≡ length three.items = count_added three.items four.items (r + 2) _ g in
    let hc : length five.items ≡ length four.items = count_added four.items five.items (r + 2) _ h in
    record {
      built = plain_built old b five r 3 (resume tables (Send ch e) (context old given)) o.equations o.next (λ x. refl) refl (hc ∙ gc ∙ fc)
          (λ k.
          more_of four.items five.items (r + 2) (guard (n + 9) (n + 2)) (omega (arith, le, fc, gc)) h k
          ∙ ap (λ l. l ++ cond (k == r + 2) (guard (n + 9) (n + 2) ∷ []) []) (more_of three.items four.items (r + 2) (guard (n + 8) (n + 2)) (omega (arith, le, fc)) g k)
          ∙ pair_of (k == r + 2) (guard (n + 8) (n + 2)) (guard (n + 9) (n + 2)) (bucket three.items k)
          ∙ ap (λ l. l ++ last_more (k == r + 2) n) (f.each k)
          ∙ append_assoc (bucket old.sets.items k ++ two_more (k == r) n) (one_more (k == r + 1) n) (last_more (k == r + 2) n)
          ∙ append_assoc (bucket old.sets.items k) (two_more (k == r) n) (one_more (k == r + 1) n ++ last_more (k == r + 2) n)
          ∙ ap (λ m. bucket old.sets.items k ++ (two_more (k == r) m ++ (one_more (k == r + 1) m ++ last_more (k == r + 2) m))) o.first
          ∙ ap (λ l. bucket old.sets.items k ++ l) (sym (of_three r old.builder.next k (k == r) (k == r + 1) (k == r + 2) refl refl refl)));
      status = ap (λ m. m + 7) o.first;
      live = o.first;
      ends = refl;
      register = refl;
    }
