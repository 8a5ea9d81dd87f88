-- What builds the resuming copy of a loop: that of its body, and a starting copy behind it.
use Rattle.std.proofs.Common.{◌≡◌, ℕ, ◌+◌, Bool, true, false, ◌||◌, cond, List, [], ◌∷◌, ◌++◌, refl, ap, ap₂, ◌∙◌, sym, subst, append_assoc}
use Rattle.std.specs.Prelude.{slice_index}
use Rattle.std.proofs.Math.Path.{fun_ext}
use Rattle.std.proofs.lemmas.List.{map-append}
use Rattle.std.proofs.lemmas.List.Sorted.{IsPermutation-sym, IsPermutation-cons, IsPermutation-trans, IsPermutation-to_front, IsPermutation-append_left}
use Rattle.kernel_terms.specs.declared.tables.Tables.{Tables}
use Rattle.kernel_terms.specs.Statements.{Stmt, Loop}
use Rattle.kernel_terms.specs.MayEnd.{ends1}
use Rattle.kernel_rules.specs.definitions.Registers.{registers}
use Rattle.surf_graph.specs.declared.builder.Builder.{Builder}
use Rattle.surf_graph.specs.declared.copy_builder.CopyBuilder.{CopyBuilder}
use Rattle.surf_graph.specs.declared.copy_builder.Given.{Given}
use Rattle.surf_graph.specs.declared.copy_builder.Guarded.{Guarded}
use Rattle.surf_graph.specs.declared.copy_builder.Made.{Made}
use Rattle.surf_graph.specs.declared.wire_tables.WireTables.{WireTables}
use Rattle.surf_graph.specs.Building.{Writes, wires_in}
use Rattle.surf_graph.specs.Copying.{SpellsOut, bucket, emits_of, sets_of, is_own, own_sets, context, Changes, SameTables, Builds}
use Rattle.surf_graph.specs.StartsBuilt.{Starts}
use Rattle.surf_graph.specs.definitions.Changes.{undone}
use Rattle.surf_graph.specs.definitions.Copies.{Context, Copy, Sets, joined, starting_if, start_context, part_context, turn_own}
use Rattle.surf_graph.specs.definitions.Formulas.{Wires, Equation, Greater, IsStatus}
use Rattle.surf_graph.specs.definitions.SpelledOut.{spelled}
use Rattle.surf_graph.specs.definitions.StartingCopies.{writes0, start}
use Rattle.surf_graph.proofs.Alternatives.{has_append}
use Rattle.surf_graph.proofs.CopiesBuilt.{tables_both, emits_both}
use Rattle.surf_graph.proofs.SpellingOut.{equation, none_spelled_out, both_spelled_out, other_spelled_out, more_spelled_out}
use Rattle.surf_graph.proofs.SequenceStarts.{nothing_adds}
use Rattle.surf_graph.proofs.Undoing.{logs_both, undone_both, undone_same}
use Rattle.depth_graph.specs.ResumesBuilt.{Resumes, StartsIf, Takes}
use Rattle.depth_graph.specs.definitions.ResumingCopies.{writes1, resume}

-- the context of a copy behind another

wires_behind : (old mid : WireTables) (v : ℕ → ℕ) → SameTables old mid → ((x : ℕ) → (wires_in mid).variables x ≡ v x) → wires_in mid ≡ record (wires_in old) { variables = v }
wires_behind old mid v t h =
    let made : (ℕ → ℕ) → List ℕ → List ℕ → List ℕ → Wires = λ a b c d. record { variables = a; present = λ s. slice_index b s; value = λ s. slice_index c s; last = λ s. slice_index d s } in
    ap (λ a. made a mid.present.items mid.value.items mid.last.items) (fun_ext h)
    ∙ ap (λ b. made v b mid.value.items mid.last.items) t.present
    ∙ ap (λ b. made v old.present.items b mid.last.items) t.value
    ∙ ap (λ b. made v old.present.items old.value.items b) t.last

pub context_behind : (old mid : CopyBuilder) (given next : Given) (a : Copy) → next.hold ≡ 0 → next.keep ≡ given.keep → SameTables old.wires mid.wires → ((x : ℕ) → (wires_in mid.wires).variables x ≡ a.variables x) → mid.builder.next ≡ a.next
    → context mid next ≡ start_context next.go next.register a (context old given)
context_behind old mid given next a h k t v n =
    let made : ℕ → ℕ → Wires → ℕ → Context = λ hold keep wires m. record { go = next.go; hold = hold; keep = keep; wires = wires; register = next.register; next = m } in
    ap (λ i. made i next.keep (wires_in mid.wires) mid.builder.next) h
    ∙ ap (λ i. made 0 i (wires_in mid.wires) mid.builder.next) k
    ∙ ap (λ i. made 0 given.keep i mid.builder.next) (wires_behind old.wires mid.wires a.variables t v)
    ∙ ap (λ i. made 0 given.keep (record (wires_in old.wires) { variables = a.variables }) i) n

-- two copies that have the same registers, one behind the other

behind_of : (x y z u v w : List Guarded) → y ≡ x ++ u → z ≡ y ++ v → u ++ v ≡ w → z ≡ x ++ w
behind_of x y z u v w a b c = b ∙ ap (λ l. l ++ v) a ∙ append_assoc x u v ∙ ap (λ l. x ++ l) c

same_sets : (first m k : ℕ) (s t : ℕ → List Sets) → own_sets first m s k ++ own_sets first m t k ≡ own_sets first m (joined s t) k
same_sets first m k s t = by_own (is_own first m k) (s k) (t k) where
  by_own : (b : Bool) (s t : List Sets) → cond b (sets_of s) [] ++ cond b (sets_of t) [] ≡ cond b (sets_of (s ++ t)) []
  by_own true s t = sym (map-append (λ (x : Sets). record { condition = x.condition; value = x.value }) s t)
  by_own false s t = refl

changes_behind : (old mid new : CopyBuilder) (xs ys : List ℕ) → Changes old mid xs → Changes mid new ys → Changes old new (xs ++ ys)
changes_behind old mid new xs ys a b = record {
  more = a.more ++ b.more;
  logged = b.logged ∙ ap (λ l. l ++ b.more) a.logged ∙ append_assoc old.changes.items a.more b.more;
  before = λ x. undone_both a.more b.more (wires_in new.wires).variables x
      ∙ undone_same a.more (undone b.more (wires_in new.wires).variables) (wires_in mid.wires).variables b.before x ∙ a.before x;
  which = λ x. logs_both a.more b.more x ∙ ap₂ (λ y z. y || z) (a.which x) (b.which x) ∙ sym (has_append xs ys x);
}

-- a loop

equations_of_loop : (old taken mid turned new last : Builder) (t g : Equation) (A B : List Equation) → taken.equations ≡ old.equations → taken.further ≡ old.further
    → SpellsOut taken mid A → Writes mid turned (spelled mid.further t.formula) t.wire → SpellsOut turned new B → Writes new last (spelled new.further g.formula) g.wire
    → SpellsOut old last (g ∷ t ∷ (A ++ B))
equations_of_loop old taken mid turned new last t g A B same further sa wt sb wg =
    let s1 = both_spelled_out old taken mid [] A (none_spelled_out old taken (ap (λ v. v.items) same) further) sa in
    let s2 = more_spelled_out old mid turned A t s1 wt in
    let s3 = both_spelled_out old turned new (A ++ t ∷ []) B s2 sb in
    let s4 = more_spelled_out old new last ((A ++ t ∷ []) ++ B) g s3 wg in
    let p1 = IsPermutation-append_left B (A ++ t ∷ []) (t ∷ A) (IsPermutation-to_front A t) in
    let p2 = IsPermutation-trans (((A ++ t ∷ []) ++ B) ++ g ∷ []) (g ∷ ((A ++ t ∷ []) ++ B)) (g ∷ t ∷ (A ++ B)) (IsPermutation-to_front ((A ++ t ∷ []) ++ B) g) (IsPermutation-cons g ((A ++ t ∷ []) ++ B) (t ∷ (A ++ B)) p1) in
    other_spelled_out old last (((A ++ t ∷ []) ++ B) ++ g ∷ []) (g ∷ t ∷ (A ++ B)) (IsPermutation-sym (((A ++ t ∷ []) ++ B) ++ g ∷ []) (g ∷ t ∷ (A ++ B)) p2) s4

abbrev turn : Given → ℕ → Given
turn given n = record { go = n + 2; hold = 0; keep = given.keep; register = given.register }

-- the starting copy behind it, by its own context
abbrev second_of : Tables → Stmt → Context → Copy
second_of tables p d = starting_if (ends1 p) (start tables p d) d

built_of_loop : (tables : Tables) (old mid new : CopyBuilder) (taken turned last : Builder) (given : Given) (p : Stmt) (a b : ℕ)
    → taken.next ≡ old.builder.next + 3 → taken.equations ≡ old.builder.equations → taken.further ≡ old.builder.further
    → (A : Copy) → A ≡ resume tables p (part_context given.go 3 (context old given)) → a ≡ A.status
    → Builds (record old { builder = taken }) mid given.register (registers tables p) (writes1 p) A
    → Writes mid.builder turned (spelled mid.builder.further (IsStatus a 0)) (old.builder.next + 2)
    → (B : Copy) → B ≡ second_of tables p (start_context (old.builder.next + 2) given.register A (context old given)) → b ≡ B.status
    → Builds (record mid { builder = turned }) new given.register (registers tables p) (cond (ends1 p) (writes0 p) []) B
    → Writes new.builder last (spelled new.builder.further (Greater a b)) old.builder.next
    → Builds old (record new { builder = last }) given.register (registers tables p) (writes1 (Loop p)) (resume tables (Loop p) (context old given))
built_of_loop tables old mid new taken turned last given p a b tn te tf A ia sa g wt B ib sb h wg =
    let n = old.builder.next in
    let m = registers tables p in
    let r = given.register in
    let wt' : Writes mid.builder turned (spelled mid.builder.further (IsStatus A.status 0)) (n + 2) = subst (λ i. Writes mid.builder turned (spelled mid.builder.further (IsStatus i 0)) (n + 2)) sa wt in
    let wg' : Writes new.builder last (spelled new.builder.further (Greater A.status B.status)) n = subst (λ i. Writes new.builder last (spelled new.builder.further (Greater A.status i)) n) sb (subst (λ i. Writes new.builder last (spelled new.builder.further (Greater i b)) n) sa wg) in
    let whole : Copy = record {
      equations = equation n (Greater A.status B.status) ∷ (turn_own (n + 2) A ++ (A.equations ++ B.equations));
      status = n;
      live = A.live;
      emits = A.emits ++ B.emits;
      variables = B.variables;
      sets = joined A.sets B.sets;
      next = B.next;
    } in
    let ca : Changes old mid (writes1 p) = record { more = g.changes.more; logged = g.changes.logged; before = g.changes.before; which = g.changes.which } in
    let cb : Changes mid (record new { builder = last }) (cond (ends1 p) (writes0 p) []) = record { more = h.changes.more; logged = h.changes.logged; before = h.changes.before; which = h.changes.which } in
    let all : Builds old (record new { builder = last }) r m (writes1 p ++ cond (ends1 p) (writes0 p) []) whole = record {
      equations = equations_of_loop old.builder taken mid.builder turned new.builder last (equation (n + 2) (IsStatus A.status 0)) (equation n (Greater A.status B.status)) A.equations B.equations te tf g.equations wt' h.equations wg';
      next = wg.next ∙ h.next;
      variables = h.variables;
      tables = tables_both old.wires mid.wires new.wires g.tables h.tables;
      changes = changes_behind old mid (record new { builder = last }) (writes1 p) (cond (ends1 p) (writes0 p) []) ca cb;
      signals = h.signals ∙ g.signals;
      emits = λ s. behind_of (bucket old.emits.items s) (bucket mid.emits.items s) (bucket new.emits.items s) (emits_of s A.emits) (emits_of s B.emits) (emits_of s (A.emits ++ B.emits)) (g.emits s) (h.emits s) (sym (emits_both s A.emits B.emits));
      registers = h.registers ∙ g.registers;
      sets = λ k. behind_of (bucket old.sets.items k) (bucket mid.sets.items k) (bucket new.sets.items k) (own_sets r m A.sets k) (own_sets r m B.sets k) (own_sets r m (joined A.sets B.sets) k) (g.sets k) (h.sets k) (same_sets r m k A.sets B.sets);
    } in
    let made : Copy → Copy → Copy = λ x y. record {
      equations = equation n (Greater x.status y.status) ∷ (turn_own (n + 2) x ++ (x.equations ++ y.equations));
      status = n;
      live = x.live;
      emits = x.emits ++ y.emits;
      variables = y.variables;
      sets = joined x.sets y.sets;
      next = y.next;
    } in
    let same : whole ≡ resume tables (Loop p) (context old given) =
    ap (λ y. made A y) ib
    ∙ ap (λ x. made x (second_of tables p (start_context (n + 2) r x (context old given)))) ia in
    subst (Builds old (record new { builder = last }) r m (writes1 p ++ cond (ends1 p) (writes0 p) [])) same all

pub loop_is_resumed : (tables : Tables) (old mid new : CopyBuilder) (taken turned last : Builder) (given : Given) (p : Stmt) (n b : ℕ) (made : Made)
    → n ≡ old.builder.next → taken.next ≡ old.builder.next + 3 → taken.equations ≡ old.builder.equations → taken.further ≡ old.builder.further
    → Resumes tables (record old { builder = taken }) mid given p made
    → Writes mid.builder turned (spelled mid.builder.further (IsStatus made.status 0)) (n + 2)
    → StartsIf tables (record mid { builder = turned }) new (turn given n) p (ends1 p) b
    → Writes new.builder last (spelled new.builder.further (Greater made.status b)) n
    → Resumes tables old (record new { builder = last }) given (Loop p) (record { status = n; live = made.live; ends = false; register = made.register })
loop_is_resumed tables old mid new taken turned last given p n b made ni tn te tf r wt s wg =
    let c = context old given in
    let at : context (record old { builder = taken }) given ≡ part_context given.go 3 c = ap (λ i. record { go = given.go; hold = given.hold; keep = given.keep; wires = wires_in old.wires; register = given.register; next = i }) tn in
    let A = resume tables p (part_context given.go 3 c) in
    let g : Builds (record old { builder = taken }) mid given.register (registers tables p) (writes1 p) A = subst (λ d. Builds (record old { builder = taken }) mid given.register (registers tables p) (writes1 p) (resume tables p d)) at r.built in
    let d : context (record mid { builder = turned }) (turn given n) ≡ start_context (n + 2) given.register A c =
    context_behind old (record mid { builder = turned }) given (turn given n) A refl refl g.tables g.variables (wt.next ∙ g.next) in
    let e : context (record mid { builder = turned }) (turn given n) ≡ start_context (old.builder.next + 2) given.register A c = d ∙ ap (λ i. start_context (i + 2) given.register A c) ni in
    let B = second_of tables p (context (record mid { builder = turned }) (turn given n)) in
    record {
      built = built_of_loop tables old mid new taken turned last given p made.status b tn te tf A refl (r.status ∙ ap (λ i. (resume tables p i).status) at) g
          (subst (λ i. Writes mid.builder turned (spelled mid.builder.further (IsStatus made.status 0)) (i + 2)) ni wt)
          B (ap (second_of tables p) e) s.status s.built
          (subst (λ i. Writes new.builder last (spelled new.builder.further (Greater made.status b)) i) ni wg);
      status = ni;
      live = r.live ∙ ap (λ i. (resume tables p i).live) at;
      ends = refl;
      register = r.register;
    }

-- a starting copy that is built or isn't

pub nothing_starts_if : (tables : Tables) (b : CopyBuilder) (given : Given) (p : Stmt) (may : Bool) → may ≡ false → StartsIf tables b b given p may 0
nothing_starts_if tables b given p may e =
    subst (λ m. StartsIf tables b b given p m 0) (sym e)
    (record { built = nothing_adds b given.register (registers tables p) (context b given) (λ x. refl) refl; status = refl })

pub one_starts_if : (tables : Tables) (old new : CopyBuilder) (given : Given) (p : Stmt) (may : Bool) (made : Made) → may ≡ true → Starts tables old new given p made → StartsIf tables old new given p may made.status
one_starts_if tables old new given p may made e s =
    subst (λ m. StartsIf tables old new given p m made.status) (sym e) (record { built = s.built; status = s.status })

pub loop_is_closed : (tables : Tables) (old mid new : CopyBuilder) (taken turned last : Builder) (given : Given) (p : Stmt) (n b : ℕ) (made : Made)
    → Takes old.builder taken 3 n → Resumes tables (record old { builder = taken }) mid given p made
    → Writes mid.builder turned (spelled mid.builder.further (IsStatus made.status 0)) (n + 2)
    → StartsIf tables (record mid { builder = turned }) new (turn given n) p made.ends b
    → Writes new.builder last (spelled new.builder.further (Greater made.status b)) n
    → Resumes tables old (record new { builder = last }) given (Loop p) (record { status = n; live = made.live; ends = false; register = made.register })
loop_is_closed tables old mid new taken turned last given p n b made t r wt s wg =
    loop_is_resumed tables old mid new taken turned last given p n b made t.first t.next t.equations t.further r wt
    (subst (λ m. StartsIf tables (record mid { builder = turned }) new (turn given n) p m b) r.ends s) wg
