-- The starting copies of the parts of a sequence, one behind the other.
use Rattle.std.proofs.Common.{◌≡◌, ℕ, ◌+◌, ◌^◌, ◌<◌, ◌≤◌, Bool, true, false, ◌&&◌, not, cond, List, [], ◌∷◌, ◌++◌, length, drop, get_or, arith, refl, ap, ap₂, ◌∙◌, sym, subst, append_assoc, append-nil, length-append, add-one, drop-cons, slice_index, suc}
use Rattle.std.proofs.Math.Path.{fun_ext}
use Rattle.std.proofs.Math.ListN.{drop_of_length-le}
use Rattle.std.specs.List.Sorted.{IsPermutation}
use Rattle.std.proofs.lemmas.List.Sorted.{IsPermutation-refl, IsPermutation-sym, IsPermutation-trans, IsPermutation-to_front, IsPermutation-middle, IsPermutation-append_left}
use Rattle.kernel_terms.specs.declared.tables.Tables.{Tables}
use Rattle.kernel_terms.specs.Statements.{Stmt, Nothing, Pause, Emit, Assign, If, Present, Seq, Loop, Par, Trap, Exit, Abort, Suspend, Local, Send, Receive, SendWaits, Sent, ReceiveWaits, Received}
use Rattle.kernel_terms.specs.MayEnd.{ends0}
use Rattle.kernel_rules.specs.definitions.Registers.{registers, statement_registers}
use Rattle.surf_graph.specs.declared.builder.Builder.{Builder}
use Rattle.surf_graph.specs.declared.copy_builder.CopyBuilder.{CopyBuilder}
use Rattle.surf_graph.specs.declared.copy_builder.Given.{Given}
use Rattle.surf_graph.specs.declared.copy_builder.Made.{Made}
use Rattle.surf_graph.specs.declared.copy_builder.Turn.{Turn}
use Rattle.surf_graph.specs.declared.wire_tables.WireTables.{WireTables}
use Rattle.surf_graph.specs.Building.{Writes, wires_in}
use Rattle.surf_graph.specs.Copying.{SpellsOut, bucket, emits_of, own_sets, context, Changes, SameTables, Builds}
use Rattle.surf_graph.specs.StartsBuilt.{is_built, Starts, status_of_turns, closing, Closes, turned, Opens}
use Rattle.surf_graph.specs.definitions.Copies.{Context, Copy, Sets, none, below, from, joined, nothing_built, behind, starting_if, part_context, start_context, turn_own}
use Rattle.surf_graph.specs.definitions.Formulas.{Wires, Equation, Greater, IsStatus}
use Rattle.surf_graph.specs.definitions.Changes.{undone}
use Rattle.surf_graph.specs.definitions.SpelledOut.{spelled}
use Rattle.surf_graph.specs.definitions.StartingCopies.{writes0, start}
use Rattle.surf_graph.proofs.SpellingOut.{equation, none_spelled_out, both_spelled_out, other_spelled_out, more_spelled_out}
use Rattle.surf_graph.proofs.CopiesBuilt.{same_bucket, no_sets, no_changes, same_tables, sets_both, both, both_build}
use Rattle.surf_graph.proofs.StartForms.{and_second}

-- sequences are closed from the innermost on

pub closes_none : (b : Builder) (ts : List Turn) (i last : ℕ) → length ts ≤ i → Closes b b (drop i ts) last last
closes_none b ts i last le = subst (λ (l : List Turn). Closes b b l last last) (sym (drop_of_length-le ts le)) (record {
  equations = none_spelled_out b b refl refl;
  next = refl;
  status = refl;
})

pub closes_more : (old now new : Builder) (ts : List Turn) (i last all : ℕ) (t : Turn) → i < length ts → t ≡ get_or ts i t → Closes old now (drop (i + 1) ts) last all → Writes now new (spelled now.further (Greater t.status all)) t.own → Closes old new (drop i ts) last t.own
closes_more old now new ts i last all t lt is c w =
    let rest : List Turn = drop (i + 1) ts in
    let front : drop i ts ≡ t ∷ rest = rw (add-one, drop-cons ts i t lt) (ap (λ (x : Turn). x ∷ drop (suc i) ts) (sym is)) in
    let mine : ℕ → Equation = λ (s : ℕ). equation t.own (Greater t.status s) in
    let others : List Equation = closing rest last in
    let told : SpellsOut old new (mine all ∷ others) = other_spelled_out old new (others ++ (mine all ∷ [])) (mine all ∷ others)
    (IsPermutation-sym (others ++ (mine all ∷ [])) (mine all ∷ others) (IsPermutation-to_front others (mine all)))
    (more_spelled_out old now new others (mine all) c.equations w) in
    subst (λ (l : List Turn). Closes old new l last t.own) (sym front) (record {
      equations = subst (λ s. SpellsOut old new (mine s ∷ others)) c.status told;
      next = w.next ∙ c.next;
      status = refl;
    })

pub ruleset closing_steps = (closes_none, closes_more)

status_more : (ts : List Turn) (t : Turn) (last : ℕ) → status_of_turns (ts ++ (t ∷ [])) last ≡ status_of_turns ts t.own
status_more [] t last = refl
status_more (s ∷ ts) t last = refl

closing_more : (ts : List Turn) (t : Turn) (last : ℕ) → closing (ts ++ (t ∷ [])) last ≡ closing ts t.own ++ (equation t.own (Greater t.status last) ∷ [])
closing_more [] t last = refl
closing_more (s ∷ ts) t last = ap₂ (λ (x : ℕ) (l : List Equation). equation s.own (Greater s.status x) ∷ l) (status_more ts t last) (closing_more ts t last)

-- nothing is added

pub nothing_adds : (b : CopyBuilder) (first count : ℕ) (d : Context) → ((x : ℕ) → (wires_in b.wires).variables x ≡ d.wires.variables x) → b.builder.next ≡ d.next → Builds b b first count [] (nothing_built d)
nothing_adds b first count d v n = record {
  equations = none_spelled_out b.builder b.builder refl refl;
  next = n;
  variables = v;
  tables = same_tables b.wires b.wires refl;
  changes = no_changes b b refl refl;
  signals = refl;
  emits = λ s. same_bucket b.emits.items s;
  registers = refl;
  sets = λ k. same_bucket b.sets.items k ∙ ap (λ l. bucket b.sets.items k ++ l) (sym (no_sets first count k));
}

-- with other operations
changes_with : (old old' new new' : CopyBuilder) (xs : List ℕ) → old'.wires ≡ old.wires → old'.changes ≡ old.changes → new'.wires ≡ new.wires → new'.changes ≡ new.changes → Changes old' new' xs → Changes old new xs
changes_with old old' new new' xs ow oc nw nc c = record {
  more = c.more;
  logged = sym (ap (λ v. v.items) nc) ∙ c.logged ∙ ap (λ v. v.items ++ c.more) oc;
  before = λ x. ap (λ t. undone c.more (wires_in t).variables x) (sym nw) ∙ c.before x ∙ ap (λ t. (wires_in t).variables x) ow;
  which = c.which;
}

-- What is built of a whole copy: a front, and then what some other copy would give it; the own wires of the
-- sequences around that get their statuses last.
pub record Follows (old now : CopyBuilder) (first here total : ℕ) (xs : List ℕ) (whole : Copy) (turns : List Turn) (more : ℕ) (ys : List ℕ) (rest : Copy) : Type 0 where
  pub done : ℕ
  pub assigned : List ℕ
  pub front : Copy
  pub built : Builds old now first done assigned front
  pub at : first + done ≡ here
  pub count : total ≡ done + more
  pub assigns : xs ≡ assigned ++ ys
  pub equations : IsPermutation whole.equations ((front.equations ++ rest.equations) ++ closing turns rest.status)
  pub status : whole.status ≡ status_of_turns turns rest.status
  pub emits : whole.emits ≡ front.emits ++ rest.emits
  pub variables : (x : ℕ) → whole.variables x ≡ rest.variables x
  pub sets : (k : ℕ) → own_sets first total whole.sets k ≡ own_sets first done front.sets k ++ own_sets here more rest.sets k
  pub next : whole.next ≡ rest.next

follows_none : (old : CopyBuilder) (given : Given) (total : ℕ) (xs : List ℕ) (whole : Copy) → Follows old old given.register given.register total xs whole [] total xs whole
follows_none old given total xs whole = record {
  done = 0;
  assigned = [];
  front = nothing_built (context old given);
  built = nothing_adds old given.register 0 (context old given) (λ x. refl) refl;
  at = omega arith;
  count = omega arith;
  assigns = refl;
  equations = subst (IsPermutation whole.equations) (sym (append-nil whole.equations)) (IsPermutation-refl whole.equations);
  status = refl;
  emits = refl;
  variables = λ x. refl;
  sets = λ k. ap (λ l. l ++ own_sets given.register total whole.sets k) (sym (no_sets given.register 0 k));
  next = refl;
}

-- a sequence's own equation is written behind
greater_last : (f x c w : List Equation) (g : Equation) → IsPermutation w ((f ++ (g ∷ x)) ++ c) → IsPermutation w ((f ++ x) ++ (c ++ (g ∷ [])))
greater_last f x c w g p =
    let first : IsPermutation ((f ++ (g ∷ x)) ++ c) (g ∷ ((f ++ x) ++ c)) = IsPermutation-append_left c (f ++ (g ∷ x)) (g ∷ (f ++ x)) (IsPermutation-middle f g x) in
    let last : IsPermutation (g ∷ ((f ++ x) ++ c)) (((f ++ x) ++ c) ++ (g ∷ [])) = IsPermutation-sym (((f ++ x) ++ c) ++ (g ∷ [])) (g ∷ ((f ++ x) ++ c)) (IsPermutation-to_front ((f ++ x) ++ c) g) in
    subst (IsPermutation w) (append_assoc (f ++ x) c (g ∷ []))
    (IsPermutation-trans w ((f ++ (g ∷ x)) ++ c) (((f ++ x) ++ c) ++ (g ∷ [])) p (IsPermutation-trans ((f ++ (g ∷ x)) ++ c) (g ∷ ((f ++ x) ++ c)) (((f ++ x) ++ c) ++ (g ∷ [])) first last))

regroup : (f t a b : List Equation) → f ++ (t ++ (a ++ b)) ≡ (f ++ (t ++ a)) ++ b
regroup f t a b = ap (λ l. f ++ l) (sym (append_assoc t a b)) ∙ sym (append_assoc f (t ++ a) b)

follows_step : (old now new : CopyBuilder) (first here total m n own more : ℕ) (xs ys zs ws : List ℕ) (whole a b : Copy) (turns : List Turn)
    → Follows old now first here total xs whole turns more ys (behind own 0 (below (here + m) a.sets) (from (here + m) b.sets) (turn_own (own + 2) a) a b)
    → more ≡ m + n → ys ≡ zs ++ ws → Builds now new here m zs (turned (own + 2) a)
    → Follows old new first (here + m) total xs whole (turns ++ (record { own = own; status = a.status } ∷ [])) n ws b
follows_step old now new first here total m n own more xs ys zs ws whole a b turns o en ew h =
    let t : Turn = record { own = own; status = a.status } in
    let first_here = o.at in
    let counted = o.count in
    let g : Builds now new (first + o.done) m zs (turned (own + 2) a) = subst (λ k. Builds now new k m zs (turned (own + 2) a)) (sym o.at) h in
    let mine : List Equation = turn_own (own + 2) a in
    record {
      done = o.done + m;
      assigned = o.assigned ++ zs;
      front = both (first + o.done) o.front (turned (own + 2) a);
      built = both_build old now new first o.done m o.assigned zs o.front (turned (own + 2) a) o.built g;
      at = omega (arith, first_here);
      count = omega (arith, counted, en);
      assigns = o.assigns ∙ ap (λ l. o.assigned ++ l) ew ∙ sym (append_assoc o.assigned zs ws);
      equations =
          subst (λ l. IsPermutation whole.equations (((o.front).equations ++ (mine ++ a.equations)) ++ b.equations ++ l)) (sym (closing_more turns t b.status))
          (subst (λ l. IsPermutation whole.equations (l ++ (closing turns own ++ (equation own (Greater a.status b.status) ∷ [])))) (regroup (o.front).equations mine a.equations b.equations)
          (greater_last (o.front).equations (mine ++ (a.equations ++ b.equations)) (closing turns own) whole.equations (equation own (Greater a.status b.status)) o.equations));
      status = o.status ∙ sym (status_more turns t b.status);
      emits = o.emits ∙ sym (append_assoc (o.front).emits a.emits b.emits);
      variables = o.variables;
      sets = λ k.
          o.sets k
          ∙ ap (λ c. own_sets first o.done (o.front).sets k ++ own_sets here c (joined (below (here + m) a.sets) (from (here + m) b.sets)) k) en
          ∙ ap (λ l. own_sets first o.done (o.front).sets k ++ l) (sym (sets_both here m n k a.sets b.sets))
          ∙ sym (append_assoc (own_sets first o.done (o.front).sets k) (own_sets here m a.sets k) (own_sets (here + m) n b.sets k))
          ∙ ap (λ i. own_sets first o.done (o.front).sets k ++ own_sets i m a.sets k ++ own_sets (here + m) n b.sets k) (sym o.at)
          ∙ ap (λ l. l ++ own_sets (here + m) n b.sets k) (sets_both first o.done m k (o.front).sets a.sets);
      next = o.next;
    }

follows_end : (old now mid : CopyBuilder) (b : Builder) (first here total more all : ℕ) (xs ys : List ℕ) (whole rest : Copy) (turns : List Turn)
    → Follows old now first here total xs whole turns more ys rest → Builds now mid here more ys rest → Closes mid.builder b turns rest.status all → Builds old (record mid { builder = b }) first total xs whole
follows_end old now mid b first here total more all xs ys whole rest turns o h c =
    let new : CopyBuilder = record mid { builder = b } in
    let x = both_build old now mid first o.done more o.assigned ys o.front rest o.built (subst (λ k. Builds now mid k more ys rest) (sym o.at) h) in
    record {
      equations = other_spelled_out old.builder b (((o.front).equations ++ rest.equations) ++ closing turns rest.status) whole.equations o.equations
          (both_spelled_out old.builder mid.builder b ((o.front).equations ++ rest.equations) (closing turns rest.status) x.equations c.equations);
      next = c.next ∙ x.next ∙ sym o.next;
      variables = λ y. x.variables y ∙ sym (o.variables y);
      tables = x.tables;
      changes = subst (λ l. Changes old new l) (sym o.assigns) (changes_with old old new mid (o.assigned ++ ys) refl refl refl refl x.changes);
      signals = x.signals;
      emits = λ s. x.emits s ∙ ap (λ l. bucket old.emits.items s ++ emits_of s l) (sym o.emits);
      registers = x.registers;
      sets = λ k. x.sets k ∙ ap (λ l. bucket old.sets.items k ++ l)
          (sym (sets_both first o.done more k (o.front).sets rest.sets) ∙ ap (λ i. own_sets first o.done (o.front).sets k ++ own_sets i more rest.sets k) o.at ∙ sym (o.sets k));
    }

-- the first part of a sequence

pub turn_opens : (tables : Tables) (old : CopyBuilder) (taken : Builder) (mid : CopyBuilder) (b : Builder) (given : Given) (p : Stmt) (own : ℕ) (made : Made)
    → own ≡ old.builder.next → taken.next ≡ old.builder.next + 3 → taken.next ≤ 2 ^ 31 → taken.equations ≡ old.builder.equations → taken.further ≡ old.builder.further
    → Starts tables (record old { builder = taken }) mid given p made → Writes mid.builder b (spelled mid.builder.further (IsStatus made.status 0)) (own + 2)
    → Opens tables old (record mid { builder = b }) given p own made
turn_opens tables old taken mid b given p own made is next low same further s w =
    let given_next : ℕ → Context = λ (n : ℕ). record { go = given.go; hold = given.hold; keep = given.keep; wires = wires_in old.wires; register = given.register; next = n } in
    let start_from : CopyBuilder = record old { builder = taken } in
    let new : CopyBuilder = record mid { builder = b } in
    let a = start tables p (given_next (old.builder.next + 3)) in
    let x : Builds start_from mid given.register (registers tables p) (writes0 p) a = subst (λ n. Builds start_from mid given.register (registers tables p) (writes0 p) (start tables p (given_next n))) next s.built in
    let status : made.status ≡ a.status = s.status ∙ ap (λ n. (start tables p (given_next n)).status) next in
    let mine : ℕ → Equation = λ (k : ℕ). equation (own + 2) (IsStatus k 0) in
    let told : SpellsOut old.builder b (mine made.status ∷ a.equations) = other_spelled_out old.builder b (a.equations ++ (mine made.status ∷ [])) (mine made.status ∷ a.equations)
    (IsPermutation-sym (a.equations ++ (mine made.status ∷ [])) (mine made.status ∷ a.equations) (IsPermutation-to_front a.equations (mine made.status)))
    (more_spelled_out old.builder mid.builder b a.equations (mine made.status) (both_spelled_out old.builder taken mid.builder [] a.equations (none_spelled_out old.builder taken (ap (λ v. v.items) same) further) x.equations) w) in
    record {
      first = is;
      below = omega (arith, is, next, low);
      built = record {
        equations = subst (λ k. SpellsOut old.builder b (mine k ∷ a.equations)) status told;
        next = w.next ∙ x.next;
        variables = x.variables;
        tables = x.tables;
        changes = changes_with old start_from new mid (writes0 p) refl refl refl refl x.changes;
        signals = x.signals;
        emits = x.emits;
        registers = x.registers;
        sets = x.sets;
      };
      status = status;
      ends = s.ends;
      register = s.register;
    }

-- no starting copy is live

start_live : (tables : Tables) (p : Stmt) (c : Context) → (start tables p c).live ≡ 0
start_live tables Nothing c = refl
start_live tables Pause c = refl
start_live tables (Emit s e) c = refl
start_live tables (Assign x e) c = refl
start_live tables (If e p q) c = refl
start_live tables (Present t p q) c = refl
start_live tables (Seq p q) c = refl
start_live tables (Loop p) c = start_live tables p c
start_live tables (Par p q) c = refl
start_live tables (Trap p) c = start_live tables p _
start_live tables (Exit d) c = refl
start_live tables (Abort weak false t p) c = start_live tables p c
start_live tables (Abort true true t p) c = start_live tables p _
start_live tables (Abort false true t p) c = start_live tables p _
start_live tables (Suspend armed t p) c = start_live tables p c
start_live tables (Local s v p) c = start_live tables p _
start_live tables (Send ch e) c = refl
start_live tables (Receive ch) c = refl
start_live tables (SendWaits ch v) c = refl
start_live tables (Sent ch) c = refl
start_live tables (ReceiveWaits ch) c = refl
start_live tables (Received ch) c = refl

-- the builder's loop

pub record Passes (tables : Tables) (old now : CopyBuilder) (given here : Given) (whole rest : Stmt) (turns : List Turn) : Type 0 where
  pub follows : Follows old now given.register here.register (registers tables whole) (writes0 whole) (start tables whole (context old given)) turns (registers tables rest) (writes0 rest) (start tables rest (context now here))
  pub register : here.register + registers tables rest ≡ given.register + registers tables whole
  pub ends : ends0 whole ≡ ends0 rest
  pub built : is_built (length now.wires.variables.items) (length now.emits.items) rest ≡ true
  pub room : here.register + registers tables rest ≤ length now.sets.items

pub passes_none : (tables : Tables) (old : CopyBuilder) (given : Given) (p : Stmt) → is_built (length old.wires.variables.items) (length old.emits.items) p ≡ true → given.register + registers tables p ≤ length old.sets.items → Passes tables old old given given p p []
passes_none tables old given p b r = record {
  follows = follows_none old given (registers tables p) (writes0 p) (start tables p (context old given));
  register = refl;
  ends = refl;
  built = b;
  room = r;
}

same_wires : (t u : WireTables) (v : ℕ → ℕ) → SameTables t u → ((x : ℕ) → (wires_in u).variables x ≡ v x) → wires_in u ≡ record (wires_in t) { variables = v }
same_wires t u v s h =
    let w : (ℕ → ℕ) → List ℕ → List ℕ → List ℕ → Wires = λ (v : ℕ → ℕ) (p q l : List ℕ). record { variables = v; present = λ k. slice_index p k; value = λ k. slice_index q k; last = λ k. slice_index l k } in
    ap (λ (x : ℕ → ℕ). w x u.present.items u.value.items u.last.items) (fun_ext h)
    ∙ ap (λ (x : List ℕ). w v x u.value.items u.last.items) s.present
    ∙ ap (λ (x : List ℕ). w v t.present.items x u.last.items) s.value
    ∙ ap (λ (x : List ℕ). w v t.present.items t.value.items x) s.last

-- what the part behind is given
next_here : (tables : Tables) (now new : CopyBuilder) (here : Given) (p : Stmt) (own : ℕ) (made : Made) → Opens tables now new here p own made → made.register ≡ here.register + registers tables p
    → context new (record { go = own + 2; hold = 0; keep = here.keep; register = made.register }) ≡ start_context (now.builder.next + 2) (here.register + registers tables p) (start tables p (part_context here.go 3 (context now here))) (context now here)
next_here tables now new here p own made o r =
    let a = start tables p (part_context here.go 3 (context now here)) in
    let h = o.built in
    let c : ℕ → Wires → ℕ → ℕ → Context = λ (go : ℕ) (w : Wires) (register next : ℕ). record { go = go; hold = 0; keep = here.keep; wires = w; register = register; next = next } in
    ap (λ (x : ℕ). c (x + 2) (wires_in new.wires) made.register new.builder.next) o.first
    ∙ ap (λ (x : Wires). c (now.builder.next + 2) x made.register new.builder.next) (same_wires now.wires new.wires a.variables h.tables h.variables)
    ∙ ap (λ (x : ℕ). c (now.builder.next + 2) (record (wires_in now.wires) { variables = a.variables }) x new.builder.next) r
    ∙ ap (λ (x : ℕ). c (now.builder.next + 2) (record (wires_in now.wires) { variables = a.variables }) (here.register + registers tables p) x) h.next

-- behind a first part, whether it may end or not
passed : (tables : Tables) (old now new : CopyBuilder) (given here : Given) (whole p q : Stmt) (turns : List Turn) (own : ℕ) (made : Made) → Passes tables old now given here whole (Seq p q) turns → Opens tables now new here p own made
    → (let c = context now here in let a = start tables p (part_context here.go 3 c) in let d = start_context (now.builder.next + 2) (here.register + registers tables p) a c in
    Follows old new given.register (here.register + registers tables p) (registers tables whole) (writes0 whole) (start tables whole (context old given)) (turns ++ (record { own = own; status = made.status } ∷ []))
    (registers tables q) (cond (ends0 p) (writes0 q) []) (starting_if (ends0 p) (start tables q d) d))
passed tables old now new given here whole p q turns own made f o =
    let c = context now here in
    let n = now.builder.next in
    let a = start tables p (part_context here.go 3 c) in
    let d = start_context (n + 2) (here.register + registers tables p) a c in
    let b = starting_if (ends0 p) (start tables q d) d in
    let h : Builds now new here.register (registers tables p) (writes0 p) (turned (n + 2) a) = subst (λ k. Builds now new here.register (registers tables p) (writes0 p) (turned (k + 2) a)) o.first o.built in
    let turn : ℕ → ℕ → Turn = λ (k s : ℕ). record { own = k; status = s } in
    let t : turn n a.status ≡ turn own made.status = ap₂ turn (sym o.first) (sym o.status) in
    subst (λ (x : Turn). Follows old new given.register (here.register + registers tables p) (registers tables whole) (writes0 whole) (start tables whole (context old given)) (turns ++ (x ∷ [])) (registers tables q) (cond (ends0 p) (writes0 q) []) b) t
    (follows_step old now new given.register here.register (registers tables whole) (registers tables p) (registers tables q) n (registers tables (Seq p q)) (writes0 whole) (writes0 (Seq p q)) (writes0 p) (cond (ends0 p) (writes0 q) []) (start tables whole (context old given)) a b turns
    f.follows (length-append (statement_registers tables p) (statement_registers tables q)) refl h)

pub passes_step : (tables : Tables) (old now new : CopyBuilder) (given here : Given) (whole p q : Stmt) (turns : List Turn) (own : ℕ) (made : Made) → Passes tables old now given here whole (Seq p q) turns → Opens tables now new here p own made → made.ends ≡ true
    → Passes tables old new given (record { go = own + 2; hold = 0; keep = here.keep; register = made.register }) whole q (turns ++ (record { own = own; status = made.status } ∷ []))
passes_step tables old now new given here whole p q turns own made f o e =
    let c = context now here in
    let a = start tables p (part_context here.go 3 c) in
    let d = start_context (now.builder.next + 2) (here.register + registers tables p) a c in
    let after : Given = record { go = own + 2; hold = 0; keep = here.keep; register = made.register } in
    let some : ends0 p ≡ true = sym o.ends ∙ e in
    let r = o.register e in
    let ts : List Turn = turns ++ (record { own = own; status = made.status } ∷ []) in
    let both_registers : registers tables (Seq p q) ≡ registers tables p + registers tables q = length-append (statement_registers tables p) (statement_registers tables q) in
    let before = f.register in
    let room = f.room in
    let h = o.built in
    let same_room = h.registers in
    let x = passed tables old now new given here whole p q turns own made f o in
    let y : Follows old new given.register (here.register + registers tables p) (registers tables whole) (writes0 whole) (start tables whole (context old given)) ts (registers tables q) (writes0 q) (start tables q d) =
    subst (λ b. Follows old new given.register (here.register + registers tables p) (registers tables whole) (writes0 whole) (start tables whole (context old given)) ts (registers tables q) (cond b (writes0 q) []) (starting_if b (start tables q d) d)) some x in
    let z : Follows old new given.register (here.register + registers tables p) (registers tables whole) (writes0 whole) (start tables whole (context old given)) ts (registers tables q) (writes0 q) (start tables q (context new after)) =
    subst (λ k. Follows old new given.register (here.register + registers tables p) (registers tables whole) (writes0 whole) (start tables whole (context old given)) ts (registers tables q) (writes0 q) (start tables q k)) (sym (next_here tables now new here p own made o r)) y in
    record {
      follows = subst (λ k. Follows old new given.register k (registers tables whole) (writes0 whole) (start tables whole (context old given)) ts (registers tables q) (writes0 q) (start tables q (context new after))) (sym r) z;
      register = omega (arith, both_registers, before, r);
      ends = f.ends ∙ ap (λ b. b && ends0 q) some;
      built = ap₂ (λ v s. is_built v s q) (h.tables).count h.signals ∙ and_second (is_built (length now.wires.variables.items) (length now.emits.items) p) (is_built (length now.wires.variables.items) (length now.emits.items) q) f.built;
      room = omega (arith, both_registers, room, r, same_room);
    }

ends_false : (a b : Bool) → a ≡ false → false ≡ a && b
ends_false true b e = cc
ends_false false b e = refl

pub passes_stop : (tables : Tables) (old now new : CopyBuilder) (b : Builder) (given here : Given) (whole p q : Stmt) (turns : List Turn) (own all : ℕ) (made : Made) → Passes tables old now given here whole (Seq p q) turns → Opens tables now new here p own made → made.ends ≡ false
    → Closes new.builder b (turns ++ (record { own = own; status = made.status } ∷ [])) 0 all
    → Starts tables old (record new { builder = b }) given whole (record { status = all; live = 0; ends = false; register = 0 })
passes_stop tables old now new b given here whole p q turns own all made f o e cl =
    let c = context now here in
    let a = start tables p (part_context here.go 3 c) in
    let d = start_context (now.builder.next + 2) (here.register + registers tables p) a c in
    let none_ : ends0 p ≡ false = sym o.ends ∙ e in
    let h = o.built in
    let ts : List Turn = turns ++ (record { own = own; status = made.status } ∷ []) in
    let x = passed tables old now new given here whole p q turns own made f o in
    let y : Follows old new given.register (here.register + registers tables p) (registers tables whole) (writes0 whole) (start tables whole (context old given)) ts (registers tables q) [] (nothing_built d) =
    subst (λ k. Follows old new given.register (here.register + registers tables p) (registers tables whole) (writes0 whole) (start tables whole (context old given)) ts (registers tables q) (cond k (writes0 q) []) (starting_if k (start tables q d) d)) none_ x in
    record {
      built = follows_end old new new b given.register (here.register + registers tables p) (registers tables whole) (registers tables q) all (writes0 whole) [] (start tables whole (context old given)) (nothing_built d) ts y
          (nothing_adds new (here.register + registers tables p) (registers tables q) d h.variables h.next) cl;
      status = cl.status ∙ sym y.status;
      live = sym (start_live tables whole (context old given));
      ends = ends_false (ends0 p) (ends0 q) none_ ∙ sym f.ends;
      register = λ t. absurd (let z : false ≡ true = t in let w : ⊥ = cc in w);
    }

pub passes_end : (tables : Tables) (old now mid : CopyBuilder) (b : Builder) (given here : Given) (whole rest : Stmt) (turns : List Turn) (all : ℕ) (made : Made) → Passes tables old now given here whole rest turns → Starts tables now mid here rest made
    → Closes mid.builder b turns made.status all
    → Starts tables old (record mid { builder = b }) given whole (record made { status = all })
passes_end tables old now mid b given here whole rest turns all made f s cl =
    let o = f.follows in
    let z = start tables rest (context now here) in
    let k : Closes mid.builder b turns z.status all = subst (λ n. Closes mid.builder b turns n all) s.status cl in
    record {
      built = follows_end old now mid b given.register here.register (registers tables whole) (registers tables rest) all (writes0 whole) (writes0 rest) (start tables whole (context old given)) z turns o s.built k;
      status = k.status ∙ sym o.status;
      live = s.live ∙ start_live tables rest (context now here) ∙ sym (start_live tables whole (context old given));
      ends = s.ends ∙ sym f.ends;
      register = λ t. s.register t ∙ f.register;
    }

pub not_false : (b : Bool) → not b ≡ false → b ≡ true
not_false true e = refl
not_false false e = cc

pub not_true : (b : Bool) → not b ≡ true → b ≡ false
not_true true e = cc
not_true false e = refl
